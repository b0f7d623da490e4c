-- The chain of the settled versions of a key, as the notes give it.
use Rattle.std.proofs.Common.{◌≡◌, ℕ, zero, suc, ◌<◌, ◌≤◌, Bool, true, false, ◌&&◌, ◌⊎◌, List, [], ◌∷◌, ◌++◌, Option, eqb, eqb-true, eq-eqb, arith, ap, refl, inl, inr, sym, ◌∙◌, subst, le_trans, max}
use Rattle.ens_base.proofs.Lists.{in_append, in_left, in_right, bytes_same}
use Rattle.std.proofs.lemmas.Bool.Decides.{nat_tests}
use Rattle.std.proofs.lemmas.Bool.{cases_order, eqb-false, and_parts}
use Rattle.ens_base.specs.Lists.{same_bytes, ◌∈◌}
use Rattle.ens_base.specs.declared.epoch.Version.{Version}
use Rattle.register_model.specs.declared.note.Note.{Note as Noted}
use Rattle.register_model.specs.declared.note.Note.TheVariants.{Proposed, Settled as SettledNote, Read}
use Rattle.register_model.specs.Orders.{rank, rank_or_none, lower_or_none, parent_in, call_in, newest_in, chain}
use Rattle.protocol_laws.proofs.Epochs.{not_both}
use Rattle.protocol_laws.proofs.Trees.{ancestor_low}
use Rattle.protocol_laws.proofs.Maps.{zero_not, eq_same_bytes}
use Rattle.protocol_laws.proofs.Ordered.{Ordered, ordered_push}
use Rattle.protocol_laws.proofs.Basics.{Basics}
use Rattle.protocol_laws.specs.Entries.{EntriesAreSafe}
use Rattle.protocol_laws.proofs.Noted.{Holds, ProposedHolds, SettledHolds}
use Rattle.protocol_laws.specs.Versions.{Descends, itself, further}
use Rattle.protocol_laws.specs.Protocol.{State}

-- a proposed version of the key
abbrev pub IsOf : State → List ℕ → ℕ → Type 0
IsOf s k v = (s.objects.proposed v ≡ true) × (s.objects.key v ≡ k)

abbrev pub IsOfOrNone : State → List ℕ → ℕ → Type 0
IsOfOrNone s k v = (v ≡ 0) ⊎ IsOf s k v

module _ (s : State) (basics : Basics s.objects) (k : List ℕ) where
  pub positive : (v : ℕ) → IsOf s k v → 0 < v
  positive v g = by_order (cases_order 0 v)
    where
      by_order : (0 ≡ v) ⊎ ((0 < v) ⊎ (v < 0)) → 0 < v
      by_order (inl e) = absurd (zero_not v (basics.led v g.0) (sym e))
      by_order (inr (inl h)) = h
      by_order (inr (inr h)) = absurd (omega arith)

  pub parent_of : (v : ℕ) → IsOf s k v → IsOfOrNone s k (s.objects.parent v)
  parent_of v g = by_parent (basics.parents v g.0)
    where
      by_parent : (s.objects.parent v ≡ 0) ⊎ (s.objects.proposed (s.objects.parent v) ≡ true) → IsOfOrNone s k (s.objects.parent v)
      by_parent (inl z) = inl z
      by_parent (inr p) = inr (p, basics.same_key v g.0 p ∙ g.1)

  -- ## What the notes say of one version

  lower_is : (p v : ℕ) → p < v → lower_or_none p v ≡ p
  lower_is p v h = grind (arith, nat_tests)

  test_true : (j : List ℕ) (x v : ℕ) → (same_bytes j k && eqb x v) ≡ true → (j ≡ k) × (x ≡ v)
  test_true j x v h = let p = and_parts (same_bytes j k) (eqb x v) h in (bytes_same j k p.0, eqb-true x v p.1)

  test_holds : (j : List ℕ) (x v : ℕ) → j ≡ k → x ≡ v → (same_bytes j k && eqb x v) ≡ true
  test_holds j x v e f = rw (eq_same_bytes j k e, eq-eqb x v f) refl

  pub told : (ns : List Noted) → ((n : Noted) → n ∈ ns → Holds s n) → (v : ℕ) → IsOf s k v → (w : Version) (p : Option Version) (c : Option ℕ) → rank w ≡ v → Proposed k w p c ∈ ns → (parent_in ns k v ≡ s.objects.parent v) × (call_in ns k v ≡ s.book.call v)
  told [] holds v g w p c e h = absurd h
  told (Proposed j x q d ∷ ns) holds v g w p c e h = by_test (told ns (λ n m. holds n (inr m)) v g w p c e) (same_bytes j k && eqb (rank x) v) refl
    where
      head : ProposedHolds s j (rank x) (rank_or_none q) d
      head = holds (Proposed j x q d) (inl refl)

      here : rank x ≡ v → (lower_or_none (rank_or_none q) v ≡ s.objects.parent v) × (d ≡ s.book.call v)
      here f =
          let parent : s.objects.parent v ≡ rank_or_none q = subst (λ y. s.objects.parent y ≡ rank_or_none q) f head.parent in
          (lower_is (rank_or_none q) v (rw (← parent) (basics.lower v g.0)) ∙ sym parent, sym (subst (λ y. s.book.call y ≡ d) f head.call_of))

      same_key : Proposed k w p c ≡ Proposed j x q d → j ≡ k
      same_key m = cc

      same_version : Proposed k w p c ≡ Proposed j x q d → x ≡ w
      same_version m = cc

      not_here : (same_bytes j k && eqb (rank x) v) ≡ false → (Proposed k w p c ≡ Proposed j x q d) ⊎ (Proposed k w p c ∈ ns) → Proposed k w p c ∈ ns
      not_here t (inl m) = absurd (not_both (test_holds j (rank x) v (same_key m) (ap rank (same_version m) ∙ e)) t)
      not_here t (inr m) = m

      by_test : (Proposed k w p c ∈ ns → (parent_in ns k v ≡ s.objects.parent v) × (call_in ns k v ≡ s.book.call v)) → (b : Bool) → (same_bytes j k && eqb (rank x) v) ≡ b → (parent_in (Proposed j x q d ∷ ns) k v ≡ s.objects.parent v) × (call_in (Proposed j x q d ∷ ns) k v ≡ s.book.call v)
      by_test rest true t = rw t (here (test_true j (rank x) v t).1)
      by_test rest false t = rw t (rest (not_here t h))
  told (SettledNote j x ∷ ns) holds v g w p c e (inl m) = absurd (cc)
  told (SettledNote j x ∷ ns) holds v g w p c e (inr m) = told ns (λ n l. holds n (inr l)) v g w p c e m
  told (Read i j b ∷ ns) holds v g w p c e (inl m) = absurd (cc)
  told (Read i j b ∷ ns) holds v g w p c e (inr m) = told ns (λ n l. holds n (inr l)) v g w p c e m

  -- ## The greatest settled version

  pub newest_most : (ns : List Noted) (w : Version) → SettledNote k w ∈ ns → rank w ≤ newest_in ns k
  newest_most [] w h = absurd h
  newest_most (SettledNote j x ∷ ns) w h = by_test (newest_most ns w) (same_bytes j k) refl h
    where
      same_key : SettledNote k w ≡ SettledNote j x → j ≡ k
      same_key m = cc

      same_version : SettledNote k w ≡ SettledNote j x → w ≡ x
      same_version m = cc

      by_test : (SettledNote k w ∈ ns → rank w ≤ newest_in ns k) → (b : Bool) → same_bytes j k ≡ b → (SettledNote k w ≡ SettledNote j x) ⊎ (SettledNote k w ∈ ns) → rank w ≤ newest_in (SettledNote j x ∷ ns) k
      by_test rest true t (inl m) = let e : rank w ≡ rank x = ap rank (same_version m) in rw t (omega arith)
      by_test rest true t (inr m) = let l : rank w ≤ newest_in ns k = rest m in rw t (omega arith)
      by_test rest false t (inl m) = absurd (not_both (eq_same_bytes j k (same_key m)) t)
      by_test rest false t (inr m) = rw t (rest m)
  newest_most (Proposed j x q d ∷ ns) w (inl m) = absurd (cc)
  newest_most (Proposed j x q d ∷ ns) w (inr m) = newest_most ns w m
  newest_most (Read i j b ∷ ns) w (inl m) = absurd (cc)
  newest_most (Read i j b ∷ ns) w (inr m) = newest_most ns w m

  pub newest_is : (ns : List Noted) → ((n : Noted) → n ∈ ns → Holds s n) → (newest_in ns k ≡ 0) ⊎ SettledHolds s k (newest_in ns k)
  newest_is [] holds = inl refl
  newest_is (SettledNote j x ∷ ns) holds = by_test (newest_is ns (λ n m. holds n (inr m))) (same_bytes j k) refl
    where
      head : SettledHolds s j (rank x)
      head = holds (SettledNote j x) (inl refl)

      either : (a b : ℕ) → (max a b ≡ a) ⊎ (max a b ≡ b)
      either a b = by_order (cases_order a b)
        where
          by_order : (a ≡ b) ⊎ ((a < b) ⊎ (b < a)) → (max a b ≡ a) ⊎ (max a b ≡ b)
          by_order (inl e) = inr (omega arith)
          by_order (inr (inl h)) = inr (omega arith)
          by_order (inr (inr h)) = inl (omega arith)

      by_max : j ≡ k → (newest_in ns k ≡ 0) ⊎ SettledHolds s k (newest_in ns k) → (m : ℕ) → (m ≡ rank x) ⊎ (m ≡ newest_in ns k) → (m ≡ 0) ⊎ SettledHolds s k m
      by_max e rest m (inl f) = inr (subst (SettledHolds s k) (sym f) (record { settled = head.settled; key = head.key ∙ e }))
      by_max e (inl z) m (inr f) = inl (f ∙ z)
      by_max e (inr r) m (inr f) = inr (subst (SettledHolds s k) (sym f) r)

      by_test : (newest_in ns k ≡ 0) ⊎ SettledHolds s k (newest_in ns k) → (b : Bool) → same_bytes j k ≡ b → (newest_in (SettledNote j x ∷ ns) k ≡ 0) ⊎ SettledHolds s k (newest_in (SettledNote j x ∷ ns) k)
      by_test rest true t = subst (λ (n : ℕ). (n ≡ 0) ⊎ SettledHolds s k n) (sym (unfolded t)) (by_max (bytes_same j k t) rest (max (rank x) (newest_in ns k)) (either (rank x) (newest_in ns k)))
        where
          unfolded : same_bytes j k ≡ true → newest_in (SettledNote j x ∷ ns) k ≡ max (rank x) (newest_in ns k)
          unfolded t = rw t refl
      by_test rest false t = subst (λ (n : ℕ). (n ≡ 0) ⊎ SettledHolds s k n) (sym (unfolded t)) rest
        where
          unfolded : same_bytes j k ≡ false → newest_in (SettledNote j x ∷ ns) k ≡ newest_in ns k
          unfolded t = rw t refl
  newest_is (Proposed j x q d ∷ ns) holds = newest_is ns (λ n m. holds n (inr m))
  newest_is (Read i j b ∷ ns) holds = newest_is ns (λ n m. holds n (inr m))

  -- ## Chains of parents

  pub low_member : (n v u : ℕ) → IsOfOrNone s k v → u ∈ chain n s.objects.parent v → (u ≤ v) × IsOf s k u
  low_member zero v u g h = absurd h
  low_member (suc n) v u g h = by_zero (low_member n (s.objects.parent v) u) (eqb v 0) refl g h
    where
      by_side : IsOf s k v → (IsOfOrNone s k (s.objects.parent v) → u ∈ chain n s.objects.parent (s.objects.parent v) → (u ≤ s.objects.parent v) × IsOf s k u) → (u ∈ chain n s.objects.parent (s.objects.parent v)) ⊎ ((u ≡ v) ⊎ ⊥) → (u ≤ v) × IsOf s k u
      by_side f rest (inl p) = let r = rest (parent_of v f) p in (omega (arith, r.0, basics.lower v f.0), r.1)
      by_side f rest (inr (inl e)) = (omega arith, subst (IsOf s k) (sym e) f)
      by_side f rest (inr (inr e)) = absurd e

      by_zero : (IsOfOrNone s k (s.objects.parent v) → u ∈ chain n s.objects.parent (s.objects.parent v) → (u ≤ s.objects.parent v) × IsOf s k u) → (b : Bool) → eqb v 0 ≡ b → IsOfOrNone s k v → u ∈ (elim b as (λ (c : Bool). List ℕ) [ true ↦ [] | false ↦ chain n s.objects.parent (s.objects.parent v) ++ v ∷ [] ]) → (u ≤ v) × IsOf s k u
      by_zero rest true t g p = absurd p
      by_zero rest false t (inl z) p = absurd (eqb-false v 0 t z)
      by_zero rest false t (inr f) p = by_side f rest (in_append (chain n s.objects.parent (s.objects.parent v)) (v ∷ []) u p)

  pub descends_low : (v u : ℕ) → IsOfOrNone s k v → Descends s.objects.parent v u → u ≤ v
  descends_low v u (inl z) r = ancestor_low s.objects basics v u (inl z) r
  descends_low v u (inr g) r = ancestor_low s.objects basics v u (inr g.0) r

  pub has_ancestor : (n v u : ℕ) → v ≤ n → IsOfOrNone s k v → IsOf s k u → Descends s.objects.parent v u → u ∈ chain n s.objects.parent v
  has_ancestor n v u l (inl z) f r = absurd (low_none (descends_low v u (inl z) r) (positive u f))
    where
      low_none : u ≤ v → 0 < u → ⊥
      low_none a b = omega arith
  has_ancestor zero v u l (inr g) f r = absurd (low_none (positive v g))
    where
      low_none : 0 < v → ⊥
      low_none a = omega arith
  has_ancestor (suc n) v u l (inr g) f (itself x) = by_zero (eqb x 0) refl
    where
      by_zero : (b : Bool) → eqb x 0 ≡ b → x ∈ (elim b as (λ (c : Bool). List ℕ) [ true ↦ [] | false ↦ chain n s.objects.parent (s.objects.parent x) ++ x ∷ [] ])
      by_zero true t = absurd (zero_not x (basics.led x g.0) (eqb-true x 0 t))
      by_zero false t = in_right (chain n s.objects.parent (s.objects.parent x)) (x ∷ []) x (inl refl)
  has_ancestor (suc n) v u l (inr g) f (further x y r) = by_zero (has_ancestor n (s.objects.parent x) y (lower_bound (basics.lower x g.0)) (parent_of x g) f r) (eqb x 0) refl
    where
      lower_bound : s.objects.parent x < x → s.objects.parent x ≤ n
      lower_bound h = omega arith

      by_zero : y ∈ chain n s.objects.parent (s.objects.parent x) → (b : Bool) → eqb x 0 ≡ b → y ∈ (elim b as (λ (c : Bool). List ℕ) [ true ↦ [] | false ↦ chain n s.objects.parent (s.objects.parent x) ++ x ∷ [] ])
      by_zero rest true t = absurd (zero_not x (basics.led x g.0) (eqb-true x 0 t))
      by_zero rest false t = in_left (chain n s.objects.parent (s.objects.parent x)) (x ∷ []) y rest

  pub member_descends : (n v u : ℕ) → u ∈ chain n s.objects.parent v → Descends s.objects.parent v u
  member_descends zero v u h = absurd h
  member_descends (suc n) v u h = by_zero (member_descends n (s.objects.parent v) u) (eqb v 0) h
    where
      by_side : (u ∈ chain n s.objects.parent (s.objects.parent v) → Descends s.objects.parent (s.objects.parent v) u) → (u ∈ chain n s.objects.parent (s.objects.parent v)) ⊎ ((u ≡ v) ⊎ ⊥) → Descends s.objects.parent v u
      by_side rest (inl p) = further v u (rest p)
      by_side rest (inr (inl e)) = subst (λ x. Descends s.objects.parent v x) (sym e) (itself v)
      by_side rest (inr (inr e)) = absurd e

      by_zero : (u ∈ chain n s.objects.parent (s.objects.parent v) → Descends s.objects.parent (s.objects.parent v) u) → (b : Bool) → u ∈ (elim b as (λ (c : Bool). List ℕ) [ true ↦ [] | false ↦ chain n s.objects.parent (s.objects.parent v) ++ v ∷ [] ]) → Descends s.objects.parent v u
      by_zero rest true p = absurd p
      by_zero rest false p = by_side rest (in_append (chain n s.objects.parent (s.objects.parent v)) (v ∷ []) u p)

  pub chain_climbs : (n v : ℕ) → IsOfOrNone s k v → Ordered (λ a b. a < b) (chain n s.objects.parent v)
  chain_climbs zero v g = tt
  chain_climbs (suc n) v g = by_zero (chain_climbs n (s.objects.parent v)) (eqb v 0) refl g
    where
      below : (f : IsOf s k v) → (u : ℕ) → u ∈ chain n s.objects.parent (s.objects.parent v) → u < v
      below f u p = omega (arith, (low_member n (s.objects.parent v) u (parent_of v f) p).0, basics.lower v f.0)

      by_zero : (IsOfOrNone s k (s.objects.parent v) → Ordered (λ a b. a < b) (chain n s.objects.parent (s.objects.parent v))) → (b : Bool) → eqb v 0 ≡ b → IsOfOrNone s k v → Ordered (λ a b. a < b) (elim b as (λ (c : Bool). List ℕ) [ true ↦ [] | false ↦ chain n s.objects.parent (s.objects.parent v) ++ v ∷ [] ])
      by_zero rest true t g = tt
      by_zero rest false t (inl z) = absurd (eqb-false v 0 t z)
      by_zero rest false t (inr f) = ordered_push (λ a b. a < b) (chain n s.objects.parent (s.objects.parent v)) v (rest (parent_of v f)) (below f)

  -- of two ancestors the smaller is an ancestor of the other
  pub line : (g v w : ℕ) → IsOfOrNone s k g → Descends s.objects.parent g w → Descends s.objects.parent g v → v ≤ w → Descends s.objects.parent w v
  line g v w o (itself x) r l = r
  line g v w (inl z) (further x y q) r l = absurd_case (descends_low x v (inl z) r) (descends_low (s.objects.parent x) y (inl (rw z basics.no_parent)) q)
    where
      same : v ≤ x → y ≤ s.objects.parent x → v ≡ y
      same a b = omega (arith, basics.no_parent, ap s.objects.parent z)

      absurd_case : v ≤ x → y ≤ s.objects.parent x → Descends s.objects.parent y v
      absurd_case a b = subst (λ u. Descends s.objects.parent u v) (same a b) (itself v)
  line g v w (inr f) (further x y q) (itself u) l = absurd (too_low (descends_low (s.objects.parent u) y (parent_of u f) q) (basics.lower u f.0))
    where
      too_low : y ≤ s.objects.parent u → s.objects.parent u < u → ⊥
      too_low a b = omega arith
  line g v w (inr f) (further x y q) (further u z r) l = line (s.objects.parent u) z y (parent_of u f) q r l

  -- an ancestor was proposed no later
  pub ancestor_at : EntriesAreSafe s → (v u : ℕ) → IsOfOrNone s k v → IsOf s k u → Descends s.objects.parent v u → s.book.proposed_at u ≤ s.book.proposed_at v
  ancestor_at entries v u g f (itself x) = omega arith
  ancestor_at entries v u (inl z) f (further x y r) = absurd (low_none (descends_low x y (inl z) (further x y r)) (positive y f))
    where
      low_none : y ≤ x → 0 < y → ⊥
      low_none a b = omega arith
  ancestor_at entries v u (inr g) f (further x y r) = by_parent (λ p. ancestor_at entries (s.objects.parent x) y p f r) (parent_of x g)
    where
      low_none : y ≤ s.objects.parent x → s.objects.parent x ≡ 0 → 0 < y → ⊥
      low_none a z b = omega arith

      by_parent : (IsOfOrNone s k (s.objects.parent x) → s.book.proposed_at y ≤ s.book.proposed_at (s.objects.parent x)) → IsOfOrNone s k (s.objects.parent x) → s.book.proposed_at y ≤ s.book.proposed_at x
      by_parent rest (inl z) = absurd (low_none (descends_low (s.objects.parent x) y (inl z) r) z (positive y f))
      by_parent rest (inr p) = le_trans (rest (inr p)) ((entries.proposals x g.0).after_parent p.0)
