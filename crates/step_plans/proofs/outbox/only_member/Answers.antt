use Rattle.std.proofs.Common.{sym, ap, ◌∙◌, inl, inr, arith}
use Rattle.std.proofs.lemmas.Bool.{cases_eq, true≢false}
use Rattle.ens_base.specs.PeerSet.{holds}
use Rattle.step_plans.proofs.Alone.{is_alone}
use Rattle.step_plans.proofs.outbox.only_member.Goals as goal

pub loop-number-preserved : goal.loop-number-preserved
loop-number-preserved c = λ p peer below.
    elim (cases_eq p c.loop-number.number) [
      | inl e ↦ ap (λ q. holds c.args.set.now q) e ∙ sym c.has.ensures ∙ c.if-has.false
      | inr other ↦ c.loop-number.invariant p peer (omega (arith, below, other))
    ]

pub returns-clause-none : goal.returns-clause-none
returns-clause-none c = λ p peer is.
    let missing = c.loop-number.invariant p peer (omega (arith, peer.1, c.loop-number-test.false)) in
    absurd (true≢false (sym (is_alone p (omega (arith, peer.1))) ∙ ap (λ set. holds set p) (sym is) ∙ missing))
