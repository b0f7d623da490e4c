-- Versions are ordered by their ranks.
use Rattle.std.proofs.Common.{◌≡◌, ℕ, ◌+◌, ◌*◌, ◌^◌, ◌<◌, ◌⊎◌, arith, Bool, cond, eqb, inl, inr, refl, sym, ap, ◌∙◌, Option, None, Some, max, nat_lt}
use Rattle.std.proofs.lemmas.Bool.Decides.{nat_tests}
use Rattle.std.proofs.lemmas.Bool.{cases_order}
use Rattle.std.specs.Ordering.{nat_cmp, ordering_then, is_eq, is_lt, is_some_and, partial_ordering_then, ord_max}
use Rattle.std.specs.Option.{option_cmp}
use Rattle.std.specs.declared.cmp.Ordering.{Ordering}
use Rattle.std.specs.declared.cmp.Ordering.TheVariants.{Less, Equal, Greater}
use Rattle.ens_base.proofs.Orders.{cmp_less, cmp_equal, cmp_greater, epochs_compared, ranks_compared}
use Rattle.ens_base.specs.Epochs.{version_cmp}
use Rattle.ens_base.specs.declared.epoch.Version.{Version}
use Rattle.register_model.specs.Orders.{rank, rank_or_none, lower_or_none}
use Rattle.history_scribe.specs.Told.{Fits, FitsIfAny}

compared : (u v : Version) → Fits u → Fits v → version_cmp u v ≡ nat_cmp (rank u) (rank v)
unfolding rank
compared u v h k =
    ap (λ (o : Ordering). ordering_then o (nat_cmp u.seq v.seq)) (epochs_compared u.epoch.count v.epoch.count u.epoch.proposer v.epoch.proposer h.0 k.0)
    ∙ ranks_compared (u.epoch.count * 2 ^ 32 + u.epoch.proposer) (v.epoch.count * 2 ^ 32 + v.epoch.proposer) u.seq v.seq h.1 k.1

pub rank_positive : (v : Version) → 0 < rank v
unfolding rank
rank_positive v = omega arith

compared_bases : (a b : Option Version) → FitsIfAny a → FitsIfAny b → option_cmp version_cmp a b ≡ nat_cmp (rank_or_none a) (rank_or_none b)
compared_bases None None h k = refl
compared_bases None (Some v) h k = sym (cmp_less 0 (rank v) (rank_positive v))
compared_bases (Some u) None h k = sym (cmp_greater (rank u) 0 (rank_positive u))
compared_bases (Some u) (Some v) h k = compared u v h k

-- numbers that compare as equal are equal
is_eq-nat_cmp : (a b : ℕ) → is_eq (nat_cmp a b) ≡ eqb a b
is_eq-nat_cmp a b = grind (arith, nat_tests)

pub same_rank : (u v : Version) → Fits u → Fits v → is_eq (version_cmp u v) ≡ eqb (rank u) (rank v)
same_rank u v h k = ap is_eq (compared u v h k) ∙ is_eq-nat_cmp (rank u) (rank v)

pub same_base : (a b : Option Version) → FitsIfAny a → FitsIfAny b → is_eq (option_cmp version_cmp a b) ≡ eqb (rank_or_none a) (rank_or_none b)
same_base a b h k = ap is_eq (compared_bases a b h k) ∙ is_eq-nat_cmp (rank_or_none a) (rank_or_none b)

-- the greater of two versions has the greater rank
pub rank-max : (a b : Option Version) → FitsIfAny a → FitsIfAny b → rank_or_none (ord_max (option_cmp version_cmp) a b) ≡ max (rank_or_none a) (rank_or_none b)
rank-max a b h k = by_order (cases_order (rank_or_none b) (rank_or_none a))
  where
    picked : (o : Ordering) → option_cmp version_cmp b a ≡ o → rank_or_none (ord_max (option_cmp version_cmp) a b) ≡ rank_or_none (cond (is_lt o) a b)
    picked o e = ap (λ (p : Ordering). rank_or_none (cond (is_lt p) a b)) e

    by_order : (rank_or_none b ≡ rank_or_none a) ⊎ ((rank_or_none b < rank_or_none a) ⊎ (rank_or_none a < rank_or_none b)) → rank_or_none (ord_max (option_cmp version_cmp) a b) ≡ max (rank_or_none a) (rank_or_none b)
    by_order (inl e) = picked Equal (compared_bases b a k h ∙ cmp_equal (rank_or_none b) (rank_or_none a) e) ∙ omega arith
    by_order (inr (inl m)) = picked Less (compared_bases b a k h ∙ cmp_less (rank_or_none b) (rank_or_none a) m) ∙ omega arith
    by_order (inr (inr m)) = picked Greater (compared_bases b a k h ∙ cmp_greater (rank_or_none b) (rank_or_none a) m) ∙ omega arith

pub fits_if : (o : Option Version) → ((v : Version) → o ≡ Some v → Fits v) → FitsIfAny o
fits_if None h = tt
fits_if (Some v) h = h v refl

is_lt-nat_cmp : (a b : ℕ) → is_lt (nat_cmp a b) ≡ nat_lt a b
is_lt-nat_cmp a b = grind (arith, nat_tests)

-- a parent is kept if it is below its child
lower_by_cmp : (p v : Version) → Fits p → Fits v → lower_or_none (rank p) (rank v) ≡ cond (is_lt (version_cmp p v)) (rank p) 0
lower_by_cmp p v h k = ap (λ (b : Bool). cond b (rank p) 0) (sym (ap is_lt (compared p v h k) ∙ is_lt-nat_cmp (rank p) (rank v)))

-- the derived comparison of versions is their order
partial_then : (o p : Ordering) → partial_ordering_then (Some o) (Some p) ≡ Some (ordering_then o p)
partial_then Less p = refl
partial_then Equal p = refl
partial_then Greater p = refl

tested_by_cmp : (p v : Version) → is_some_and is_lt (partial_ordering_then (partial_ordering_then (Some (nat_cmp p.epoch.count v.epoch.count)) (Some (nat_cmp p.epoch.proposer v.epoch.proposer))) (Some (nat_cmp p.seq v.seq))) ≡ is_lt (version_cmp p v)
tested_by_cmp p v = ap (λ (o : Option Ordering). is_some_and is_lt o) (ap (λ (o : Option Ordering). partial_ordering_then o (Some (nat_cmp p.seq v.seq))) (partial_then (nat_cmp p.epoch.count v.epoch.count) (nat_cmp p.epoch.proposer v.epoch.proposer)) ∙ partial_then (ordering_then (nat_cmp p.epoch.count v.epoch.count) (nat_cmp p.epoch.proposer v.epoch.proposer)) (nat_cmp p.seq v.seq))

-- the parent that is kept when the test passes
pub parent_tested : (p v : Version) (b : Bool) → Fits p → Fits v → is_some_and is_lt (partial_ordering_then (partial_ordering_then (Some (nat_cmp p.epoch.count v.epoch.count)) (Some (nat_cmp p.epoch.proposer v.epoch.proposer))) (Some (nat_cmp p.seq v.seq))) ≡ b → cond b (rank p) 0 ≡ lower_or_none (rank p) (rank v)
parent_tested p v b h k e = sym (lower_by_cmp p v h k ∙ ap (λ (c : Bool). cond c (rank p) 0) (sym (tested_by_cmp p v) ∙ e))
