use Rattle.leader_laws.specs.Measure.{turns_seen}
use Rattle.leader.specs.Rules.{lead_row}
use Rattle.leader_laws.specs.Steps.{IsReady}
use Rattle.leader_laws.proofs.Steps.{lead_step, row_29_reply_step, row_35_reply_step}
use Rattle.leader_laws.proofs.Idle.{calm_kept}
use Rattle.leader_laws.proofs.laws.rules_find_their_tasks.Goals as goal

pub returns-clause-key : goal.returns-clause-key
returns-clause-key c = λ n key seen l ready. (lead_step n key seen l).ready ready

pub returns-clause-calm : goal.returns-clause-calm
returns-clause-calm c = λ n key seen l ready calm. calm_kept n key (turns_seen n seen) (IsReady n key l) l (lead_row n key seen l) (lead_step n key seen l) ready calm

pub returns-clause-got : goal.returns-clause-got
returns-clause-got c = λ from ballot round key entry object l rest. (row_29_reply_step from ballot round key entry object l).ready rest

pub returns-clause-put : goal.returns-clause-put
returns-clause-put c = λ from ballot key version l rest. (row_35_reply_step from ballot key version l).ready rest
