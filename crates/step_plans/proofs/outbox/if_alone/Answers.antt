use Rattle.std.proofs.Common.{◌≡◌, Bool, true, false, sym, ap, refl, ◌∙◌, inl, inr, arith}
use Rattle.std.proofs.lemmas.Bool.{cases_eq, true≢false}
use Rattle.std.proofs.lemmas.Slice.Eq.{slice_eq-Decides}
use Rattle.std.specs.Bool.{Decides}
use Rattle.phase_rows.specs.Peers.{alone}
use Rattle.ens_base.specs.PeerSet.{holds}
use mathlib.Core.Bool.{beq}
use Rattle.step_plans.proofs.Alone.{no_other}
use Rattle.step_plans.proofs.outbox.if_alone.Goals as goal

flags_decide : (a b : Bool) → Decides (beq a b) (a ≡ b)
flags_decide true true = (λ e. refl, λ e. refl)
flags_decide true false = (λ e. sym e, λ e. sym e)
flags_decide false true = (λ e. e, λ e. e)
flags_decide false false = (λ e. refl, λ e. refl)

pub returns-then-eq-clause-some : goal.returns-then-eq-clause-some
returns-then-eq-clause-some c =
    let same = slice_eq-Decides flags_decide c.args.set.now c.alone.result c.eq.result c.eq.ensures in
    (c.requires.peer, same.0 c.if-eq.true ∙ c.alone.ensures)

pub returns-else-eq-clause-none : goal.returns-else-eq-clause-none
returns-else-eq-clause-none c = λ p peer is.
    let same = slice_eq-Decides flags_decide c.args.set.now c.alone.result c.eq.result c.eq.ensures in
    elim (cases_eq p c.args.peer) [
      | inl e ↦ absurd (true≢false (sym (same.1 (is ∙ ap alone e ∙ sym c.alone.ensures)) ∙ c.if-eq.false))
      | inr other ↦ absurd (true≢false (sym c.requires.member ∙ ap (λ set. holds set c.args.peer) is ∙ no_other p c.args.peer (omega (arith, c.requires.peer.1)) (λ e. other (sym e))))
    ]
