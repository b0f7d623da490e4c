use Rattle.std.proofs.Common.{◌≡◌, ◌+◌, ◌∙◌, sym, arith}
use Rattle.leader_output.proofs.Sending.{in_views}
use Rattle.leader.proofs.Ticking.{tick_to, tick_none}
use Rattle.leader.proofs.leader.Leader.tell_ticks.Goals.{then-is_other_of+in_ok-send, else-is_other_of}
use Rattle.leader.proofs.leader.Leader.tell_ticks.Goals as goal

pub loop-below-preserved : goal.loop-below-preserved
loop-below-preserved c = elim c.if-is_other_of.branch [
  | then-is_other_of+in_ok-send w ↦ tick_to c.args.finishing.now c.args.fact.now c.args.self.now w.tick_message.result c.loop-below.below c.args.out.now c.loop-below.out c.if-is_other_of.out (in_views c.args.self.now.me c.args.self.now.fact.views c.members-members.result (c.loop-below.below + 1) (c.members-members.ensures.members (c.loop-below.below + 1)) (sym c.is_other_of.ensures ∙ w.if-is_other_of.true)) w.tick_message.ensures c.loop-below.invariant (w.out-is ∙ w.in_ok-send.ensures)
  | else-is_other_of w ↦ w.out-is ∙ tick_none c.args.finishing.now c.args.fact.now c.args.self.now c.loop-below.below c.args.out.now c.loop-below.out (in_views c.args.self.now.me c.args.self.now.fact.views c.members-members.result (c.loop-below.below + 1) (c.members-members.ensures.members (c.loop-below.below + 1)) (sym c.is_other_of.ensures ∙ w.if-is_other_of.false)) c.loop-below.invariant
]

pub returns : goal.returns
returns c = let all : c.loop-below.below ≡ 31 = omega (arith, c.loop-below.auto.below-end, c.loop-below-test.false) in rw all at c.loop-below.invariant
