use Rattle.ens_base.specs.PeerSet.{holds}
use Rattle.step_plans.proofs.Growing.{grows_after}
use Rattle.step_plans.proofs.Sending.{posted_to_it, not_posted_to_it}
use Rattle.step_plans.proofs.outbox.Outbox.send_copies.Goals as goal
use Rattle.step_plans.proofs.outbox.Outbox.send_copies.Goals.{then-has+in_ok-copy+in_ok-send, else-has}

pub loop-below-preserved : goal.loop-below-preserved
loop-below-preserved c = elim c.if-has.branch [
  | then-has+in_ok-copy+in_ok-send w ↦ rw w.self-is (
    rw w.in_ok-send.ensures.sends (posted_to_it (holds c.args.to.now) (λ p. c.args.message.now) c.loop-below.below c.args.self.now.sends.items c.loop-below.self.sends.items c.has.result
        c.loop-below.invariant.0 c.has.ensures w.in_ok-copy.copy w.if-has.true w.in_ok-copy.ensures),
    rw w.send.ensures.rest.0 c.loop-below.invariant.1,
    rw w.send.ensures.rest.1 c.loop-below.invariant.2,
    rw w.send.ensures.rest.2 c.loop-below.invariant.3,
    grows_after c.args.self.now c.loop-below.self w.send.new.self c.loop-below.invariant.4 w.send.ensures.grows,
  )
  | else-has w ↦ rw w.self-is (
    not_posted_to_it (holds c.args.to.now) (λ p. c.args.message.now) c.loop-below.below c.args.self.now.sends.items c.loop-below.self.sends.items c.has.result
        c.loop-below.invariant.0 c.has.ensures w.if-has.false,
    c.loop-below.invariant.1,
    c.loop-below.invariant.2,
    c.loop-below.invariant.3,
    c.loop-below.invariant.4,
  )
]
