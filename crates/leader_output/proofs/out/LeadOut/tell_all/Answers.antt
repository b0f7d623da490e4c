use Rattle.std.proofs.Common.{◌≡◌, ◌+◌, ◌∙◌, sym, arith}
use Rattle.leader_output.specs.Sends.{is_other}
use Rattle.leader_output.proofs.Sending.{in_views, sent_to, sent_none}
use Rattle.leader_output.proofs.out.LeadOut.tell_all.Goals.{then-is_other_of+in_ok-copy+in_ok-send, else-is_other_of}
use Rattle.leader_output.proofs.out.LeadOut.tell_all.Goals as goal

pub loop-below-preserved : goal.loop-below-preserved
loop-below-preserved c = elim c.if-is_other_of.branch [
  | then-is_other_of+in_ok-copy+in_ok-send w ↦ sent_to (is_other c.args.me c.args.views.now) c.args.message.now w.in_ok-copy.field-0 c.loop-below.below c.args.self.now c.loop-below.self c.if-is_other_of.self (in_views c.args.me c.args.views.now c.members-members.result (c.loop-below.below + 1) (c.members-members.ensures.members (c.loop-below.below + 1)) (sym c.is_other_of.ensures ∙ w.if-is_other_of.true)) w.in_ok-copy.ensures c.loop-below.invariant (w.self-is ∙ w.in_ok-send.ensures)
  | else-is_other_of w ↦ w.self-is ∙ sent_none (is_other c.args.me c.args.views.now) c.args.message.now c.loop-below.below c.args.self.now c.loop-below.self (in_views c.args.me c.args.views.now c.members-members.result (c.loop-below.below + 1) (c.members-members.ensures.members (c.loop-below.below + 1)) (sym c.is_other_of.ensures ∙ w.if-is_other_of.false)) c.loop-below.invariant
]

pub returns : goal.returns
returns c = let all : c.loop-below.below ≡ 31 = omega (arith, c.loop-below.auto.below-end, c.loop-below-test.false) in rw all at c.loop-below.invariant
