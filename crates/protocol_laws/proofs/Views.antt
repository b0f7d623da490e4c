-- Where the old view of an epoch's list comes from.
use Rattle.std.proofs.Common.{◌≡◌, ℕ, ◌<◌, true, ◌⊎◌, List, [], ◌∷◌, length, arith, refl, inl, inr}
use Rattle.std.proofs.lemmas.Bool.{cases_order}
use Rattle.ens_base.specs.Lists.{◌∈◌}
use Rattle.ens_base.specs.Views.{last_view}
use Rattle.protocol_laws.proofs.Sound.{Sound}
use Rattle.protocol_laws.proofs.Epochs.{strong, not_both, not_empty, lists}
use Rattle.protocol_laws.specs.Ledger.{Change, Add, Drop, Ledger, changed_views, is_established}
use Rattle.protocol_laws.specs.Elections.{IsOpen, IsLastOpen, Follows}

-- a change leaves the last view as it was, except that Drop leaves the first of two
last_after : (c : Change) (vs : List (List ℕ)) → (last_view (changed_views c vs) ≡ last_view vs) ⊎ ((u : List ℕ) × (v : List ℕ) × (vs ≡ u ∷ v ∷ []) × (last_view (changed_views c vs) ≡ u))
last_after (Add u) [] = inl refl
last_after (Add u) (v ∷ []) = inl refl
last_after (Add u) (v ∷ w ∷ vs) = inl refl
last_after Drop [] = inl refl
last_after Drop (v ∷ []) = inl refl
last_after Drop (u ∷ v ∷ []) = inr (u, v, refl, refl)
last_after Drop (u ∷ v ∷ w ∷ vs) = inl refl

pub last_view_in : (vs : List (List ℕ)) → 0 < length vs → last_view vs ∈ vs
last_view_in [] h = absurd (omega arith)
last_view_in (v ∷ []) h = inl refl
last_view_in (u ∷ v ∷ vs) h = inr (inl refl)

-- the view was introduced by an established joint epoch
pub record CameIn (l : Ledger) (a d : ℕ) (u : List ℕ) : Type 0 where
  pub epoch : ℕ
  pub above : a < epoch
  pub below : epoch < d
  pub established : is_established l epoch ≡ true
  pub old : List ℕ
  pub joint : l.views epoch ≡ u ∷ old ∷ []

abbrev pub Origin : Ledger → ℕ → ℕ → List ℕ → Type 0
Origin l a d u = (u ∈ l.views a) ⊎ CameIn l a d u

first_in : (u v : List ℕ) (vs : List (List ℕ)) → vs ≡ u ∷ v ∷ [] → u ∈ vs
first_in u v vs e = rw e (inl refl)

module _ (l : Ledger) (sound : Sound l) (a : ℕ) (ea : l.elected a ≡ true) (oa : IsOpen l a) where
  came_later : (c d : ℕ) (u : List ℕ) → c < d → Origin l a c u → Origin l a d u
  came_later c d u m (inl h) = inl h
  came_later c d u m (inr o) = inr (record { epoch = o.epoch; above = o.above; below = omega (arith, o.below); established = o.established; old = o.old; joint = o.joint })

  -- c is the last open epoch below d, and a is at most c
  from_last : (d c : ℕ) → c < d → l.elected c ≡ true → (a < c → Origin l a c (last_view (l.views c))) → (c ≡ a) ⊎ ((c < a) ⊎ (a < c)) → (c < a → ⊥) → Origin l a d (last_view (l.views c))
  from_last d c m e before (inl p) n = inl (rw p (last_view_in (l.views a) (not_empty l sound a ea)))
  from_last d c m e before (inr (inl p)) n = absurd (n p)
  from_last d c m e before (inr (inr p)) n = came_later c d (last_view (l.views c)) m (before p)

  dropped : (d c : ℕ) → c < d → l.changed c ≡ true → (u v : List ℕ) → l.views c ≡ u ∷ v ∷ [] → (c ≡ a) ⊎ ((c < a) ⊎ (a < c)) → (c < a → ⊥) → Origin l a d u
  dropped d c m ch u v e (inl p) n = inl (first_in u v (l.views a) (rw p at e))
  dropped d c m ch u v e (inr (inl p)) n = absurd (n p)
  dropped d c m ch u v e (inr (inr p)) n = inr (record { epoch = c; above = p; below = m; established = sound.leaders.agreed c ch; old = v; joint = e })

  by_change : (d c : ℕ) → c < d → l.elected c ≡ true → l.changed c ≡ true → (a < c → Origin l a c (last_view (l.views c))) → (c < a → ⊥) →
      (last_view (changed_views (l.change c) (l.views c)) ≡ last_view (l.views c)) ⊎ ((u : List ℕ) × (v : List ℕ) × (l.views c ≡ u ∷ v ∷ []) × (last_view (changed_views (l.change c) (l.views c)) ≡ u)) →
      Origin l a d (last_view (changed_views (l.change c) (l.views c)))
  by_change d c m e ch before n (inl p) = rw p (from_last d c m e before (cases_order c a) n)
  by_change d c m e ch before n (inr p) = rw p.3 (dropped d c m ch p.0 p.1 p.2 (cases_order c a) n)

  by_follows : (d c : ℕ) → c < d → l.elected c ≡ true → (a < c → Origin l a c (last_view (l.views c))) → (c < a → ⊥) → Follows l d c → Origin l a d (last_view (l.views d))
  by_follows d c m e before n (inl p) = rw p (from_last d c m e before (cases_order c a) n)
  by_follows d c m e before n (inr p) = rw p.1 (by_change d c m e p.0 before n (last_after (l.change c) (l.views c)))

  not_lower : (d c : ℕ) → IsLastOpen l d c → a < d → c < a → ⊥
  not_lower d c i m n = not_both oa (i.last a n m ea)

  origin_step : (d : ℕ) → ((x : ℕ) → x < d → l.elected x ≡ true → a < x → Origin l a x (last_view (l.views x))) → l.elected d ≡ true → a < d → Origin l a d (last_view (l.views d))
  origin_step d before e m =
      let h = lists l sound d (omega arith) e in
      let i = h.is_last in
      by_follows d h.from i.below i.elected (before h.from i.below i.elected) (not_lower d h.from i m) h.follows

  -- a view of a, or one introduced since
  pub origin : (d : ℕ) → l.elected d ≡ true → a < d → Origin l a d (last_view (l.views d))
  origin = strong (λ x. l.elected x ≡ true → a < x → Origin l a x (last_view (l.views x))) origin_step
