use Rattle.std.proofs.Common.{◌∙◌, true, false, Some, None}
use Rattle.wire_frames.specs.declared.message.Message.TheVariants.{NewEpoch, Commit, Beat}
use Rattle.step_laws.proofs.TickMessages.{is_told, is_not_told, ends, ended, not_accepted, accepted_by, change_open}
use Rattle.step_laws.proofs.telling.a_tick_tells_each_member.Goals as goal

pub returns-clause-epoch : goal.returns-clause-epoch
returns-clause-epoch c = λ finishing fact l p is off. is_told finishing fact l p is (NewEpoch l.fact) (not_accepted finishing fact l p off)

pub returns-clause-change : goal.returns-clause-change
returns-clause-change c = λ accepted age fact l p is on off. is_told (Some (accepted, age)) fact l p is (Commit fact) (accepted_by (Some (accepted, age)) fact l p on ∙ change_open accepted age fact l p false off)

pub returns-clause-changed : goal.returns-clause-changed
returns-clause-changed c = λ accepted age fact l p is on too. is_told (Some (accepted, age)) fact l p is (Beat l.fact.epoch) (accepted_by (Some (accepted, age)) fact l p on ∙ change_open accepted age fact l p true too)

pub returns-clause-leads : goal.returns-clause-leads
returns-clause-leads c = λ fact l p is on. is_told None fact l p is (Beat l.fact.epoch) (accepted_by None fact l p on)

pub returns-clause-others : goal.returns-clause-others
returns-clause-others c = λ finishing fact l p no. is_not_told finishing fact l p no

pub returns-clause-ends : goal.returns-clause-ends
returns-clause-ends c = λ finishing fact l. (ends finishing fact l, ended finishing fact l)
