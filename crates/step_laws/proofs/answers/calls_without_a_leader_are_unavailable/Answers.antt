use Rattle.step_laws.proofs.Answered.{refused_elsewhere, refused_in_change}
use Rattle.step_laws.proofs.answers.calls_without_a_leader_are_unavailable.Goals as goal

pub returns-clause-elsewhere : goal.returns-clause-elsewhere
returns-clause-elsewhere c = refused_elsewhere

pub returns-clause-changing : goal.returns-clause-changing
returns-clause-changing c = refused_in_change
