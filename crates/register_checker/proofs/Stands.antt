-- Membership in lists, and in lists of stamps.
use Rattle.std.proofs.Common.{◌≡◌, ℕ, suc, ◌+◌, ◌<◌, Bool, true, false, List, [], ◌∷◌, ◌++◌, ◌⊎◌, inl, inr, refl, sym, ap, subst, ◌∙◌, arith}
use Rattle.ens_base.proofs.Lists.{in_left, in_right, in_append}
use Rattle.std.specs.Prelude.{if◌then◌else◌}
use Rattle.std.proofs.lemmas.Bool.{false≢true, or_cases, or_left, or_right, and_parts, false_from_ne_true}
use Rattle.ens_base.proofs.Orders.{version_itself, version_same}
use Rattle.ens_base.specs.Lists.{◌∈◌}
use Rattle.ens_base.specs.Epochs.{same_version}
use Rattle.ens_base.specs.declared.epoch.Version.{Version}
use Rattle.register_checker.specs.Stamps.{has, within, with_stamp}

only : {A : Type 0} (y x : A) → x ∈ (y ∷ []) → x ≡ y
only y x (inl e) = e
only y x (inr h) = absurd h

-- ## Versions

abbrev made : ℕ → ℕ → ℕ → Version
made n p s = record { epoch = record { count = n; proposer = p }; seq = s }

pub same_of : (a b : Version) → a ≡ b → same_version a b ≡ true
same_of a b e = let P : Version → Type 0 = λ c. same_version a c ≡ true in subst P e (version_itself a)

-- ## Whether a stamp is in a list

pub has_in : (stamps : List Version) (x : Version) → has stamps x ≡ true → x ∈ stamps
has_in [] x h = absurd (false≢true h)
has_in (s ∷ ss) x h = by (or_cases (same_version s x) (has ss x) h) (λ (e : has ss x ≡ true). has_in ss x e)
  where
    by : (same_version s x ≡ true) ⊎ (has ss x ≡ true) → (has ss x ≡ true → x ∈ ss) → x ∈ (s ∷ ss)
    by (inl e) rest = inl (sym (version_same s x e))
    by (inr e) rest = inr (rest e)

pub in_has : (stamps : List Version) (x : Version) → x ∈ stamps → has stamps x ≡ true
in_has [] x h = absurd h
in_has (s ∷ ss) x (inl e) = or_left (same_version s x) (has ss x) (same_of s x (sym e))
in_has (s ∷ ss) x (inr h) = or_right (same_version s x) (has ss x) (in_has ss x h)

pub not_in : (stamps : List Version) (x : Version) → has stamps x ≡ false → ¬ (x ∈ stamps)
not_in stamps x e h = false≢true (sym e ∙ in_has stamps x h)

pub has_not : (stamps : List Version) (x : Version) → ¬ (x ∈ stamps) → has stamps x ≡ false
has_not stamps x n = false_from_ne_true (has stamps x) (λ e. n (has_in stamps x e))

pub in_within : (some all : List Version) (x : Version) → within some all ≡ true → x ∈ some → x ∈ all
in_within [] all x h there = absurd there
in_within (s ∷ some) all x h (inl e) = let P : Version → Type 0 = λ v. v ∈ all in subst P (sym e) (has_in all s (and_parts (has all s) (within some all) h).0)
in_within (s ∷ some) all x h (inr there) = in_within some all x (and_parts (has all s) (within some all) h).1 there

-- ## A list with one more stamp

with_either : (b : Bool) (stamps : List Version) (t x : Version) → x ∈ (if b then stamps else stamps ++ t ∷ []) → (x ≡ t) ⊎ (x ∈ stamps)
with_either true stamps t x h = inr h
with_either false stamps t x h = swapped (in_append stamps (t ∷ []) x h)
  where
    swapped : (x ∈ stamps) ⊎ (x ∈ (t ∷ [])) → (x ≡ t) ⊎ (x ∈ stamps)
    swapped (inl there) = inr there
    swapped (inr here) = inl (only t x here)

pub in_with : (stamps : List Version) (t x : Version) → x ∈ with_stamp stamps t → (x ≡ t) ⊎ (x ∈ stamps)
in_with stamps t x h = with_either (has stamps t) stamps t x h

kept_in : (b : Bool) (stamps : List Version) (t x : Version) → x ∈ stamps → x ∈ (if b then stamps else stamps ++ t ∷ [])
kept_in true stamps t x h = h
kept_in false stamps t x h = in_left stamps (t ∷ []) x h

pub with_old : (stamps : List Version) (t x : Version) → x ∈ stamps → x ∈ with_stamp stamps t
with_old stamps t x h = kept_in (has stamps t) stamps t x h

new_in : (b : Bool) (stamps : List Version) (t : Version) → has stamps t ≡ b → t ∈ (if b then stamps else stamps ++ t ∷ [])
new_in true stamps t e = has_in stamps t e
new_in false stamps t e = in_right stamps (t ∷ []) t (inl refl)

pub with_new : (stamps : List Version) (t : Version) → t ∈ with_stamp stamps t
with_new stamps t = new_in (has stamps t) stamps t refl

-- ## A stamp that is in no list

abbrev above : List Version → ℕ
above [] = 0
above (v ∷ vs) = suc (v.epoch.count + above vs)

below : (vs : List Version) (x : Version) → x ∈ vs → x.epoch.count < above vs
below [] x h = absurd h
below (v ∷ vs) x (inl e) = let same : x.epoch.count ≡ v.epoch.count = ap (λ (w : Version). w.epoch.count) e in omega arith
below (v ∷ vs) x (inr h) = let later = below vs x h in omega arith

pub unused : (vs : List Version) → (u : Version) × ¬ (u ∈ vs)
unused vs = (made (above vs) 0 0, λ h. let self : above vs < above vs = below vs (made (above vs) 0 0) h in omega arith)
