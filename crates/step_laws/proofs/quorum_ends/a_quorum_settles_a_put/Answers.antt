use Rattle.step_laws.proofs.Completing.{put_replied, put_alone, settled_by, write_answered, to_apply, with_object, notes_settled}
use Rattle.std.proofs.Common.{true, false, refl, [], ◌∷◌, Some, None, is_none}
use Rattle.ens_base.specs.declared.reply.Reply.TheVariants as replies
use Rattle.register_model.specs.declared.note.Note.TheVariants.{Settled}
use Rattle.wire_frames.specs.declared.message.Message.TheVariants as messages
use Rattle.leader_output.specs.Outs.{rests}
use Rattle.leader_output.specs.Sends.{tells_all}
use Rattle.step_laws.specs.Answers.{IsAnswered, IsSettled, IsToApply}
use Rattle.leader.specs.Leaders.{with_task}
use Rattle.leader.specs.declared.pending.Pending.TheVariants as tasks
use Rattle.step_laws.proofs.quorum_ends.a_quorum_settles_a_put.Goals as goal

pub returns-clause-settled : goal.returns-clause-settled
returns-clause-settled c = λ from o digest acks rewrite key l whole stage makes. put_replied (IsSettled o digest key) from o digest acks rewrite key l whole stage makes (settled_by o digest rewrite key rests l refl)

pub returns-clause-written : goal.returns-clause-written
returns-clause-written c = λ from o digest acks key w l whole runs stage makes. put_replied (IsAnswered w (replies.Ok o.stamp) (Settled key o.version ∷ []) key l) from o digest acks false key l whole stage makes (write_answered w o digest key rests l l runs refl refl refl refl)

pub returns-clause-rewritten : goal.returns-clause-rewritten
returns-clause-rewritten c = λ from o digest acks key l whole stage makes. put_replied (IsToApply o key) from o digest acks true key l whole stage makes (to_apply o key (notes_settled o key rests) (with_object o digest key l) refl)

pub returns-clause-alone : goal.returns-clause-alone
returns-clause-alone c = λ o digest parent call key l task is. put_alone (IsSettled o digest key) o digest parent call key l task is (settled_by o digest (is_none call) key (tells_all l.me l.fact.views (messages.Put l.fact.epoch o) rests) (with_task tasks.Nothing l) refl)

pub returns-clause-written_alone : goal.returns-clause-written_alone
returns-clause-written_alone c = λ o digest parent id key w l runs task is. put_alone (IsAnswered w (replies.Ok o.stamp) (Settled key o.version ∷ []) key l) o digest parent (Some id) key l task is
    (write_answered w o digest key (tells_all l.me l.fact.views (messages.Put l.fact.epoch o) rests) l (with_task tasks.Nothing l) runs refl refl refl refl)

pub returns-clause-rewritten_alone : goal.returns-clause-rewritten_alone
returns-clause-rewritten_alone c = λ o digest parent key l task is. put_alone (IsToApply o key) o digest parent None key l task is
    (to_apply o key (notes_settled o key (tells_all l.me l.fact.views (messages.Put l.fact.epoch o) rests)) (with_object o digest key (with_task tasks.Nothing l)) refl)
