use Rattle.election_refinement.proofs.Consequences.{complete, led_kept}
use Rattle.election_refinement.proofs.laws.facts_are_complete.Goals as goal

pub returns-clause-facts : goal.returns-clause-facts
returns-clause-facts c = complete

pub returns-clause-leaders : goal.returns-clause-leaders
returns-clause-leaders c = led_kept
