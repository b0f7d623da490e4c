-- What the slots of recent contents remember.
use Rattle.std.proofs.Common.{◌≡◌, ◌≢◌, ℕ, zero, suc, ◌<◌, ◌≤◌, Bool, true, false, List, [], ◌∷◌, ◌++◌, length, get_or, set, Option, None, Some, IfSome, nat_eq, if◌then◌else◌, refl, sym, ap, ◌∙◌, subst, arith}
use Rattle.std.proofs.lemmas.List.{get_or-set_same, get_or-set_other}
use Rattle.std.proofs.lemmas.Bool.{eqb-true, eqb-false}
use Rattle.environment.specs.Maps.{Entries, value_at}
use Rattle.disk_stores.specs.Recents.{Remembers, slot_from}
use Rattle.disk_stores.specs.declared.recent.Kept.{Kept}

none_kept : (kept : Kept) → None ≡ Some kept → ⊥
none_kept kept is = grind (arith, is)

pub nothing_kept : (es : Entries) → Remembers [] es
nothing_kept es i kept at = absurd (none_kept kept at)

pushed : (slots : List (Option Kept)) (i : ℕ) → get_or (slots ++ None ∷ []) i None ≡ get_or slots i None
pushed [] zero = refl
pushed [] (suc i) = refl
pushed (slot ∷ slots) zero = refl
pushed (slot ∷ slots) (suc i) = pushed slots i

-- an empty slot more, if there was memory
pub remembers_push : (slots new : List (Option Kept)) (pushes : Bool) (es : Entries) → new ≡ (if pushes then slots ++ None ∷ [] else slots) → Remembers slots es → Remembers new es
remembers_push slots new false es is old = subst (λ (l : List (Option Kept)). Remembers l es) (sym is) old
remembers_push slots new true es is old = subst (λ (l : List (Option Kept)). Remembers l es) (sym is) (λ i kept at. old i kept (sym (pushed slots i) ∙ at))

is_slot : (slots : List (Option Kept)) (i : ℕ) (kept : Kept) → get_or slots i None ≡ Some kept → i < length slots
is_slot [] i kept at = absurd (none_kept kept at)
is_slot (slot ∷ slots) zero kept at = omega arith
is_slot (slot ∷ slots) (suc i) kept at = let less = is_slot slots i kept at in omega (arith, less)

-- the map changed under this name alone, and the slots are looked at elsewhere
module _ (slots : List (Option Kept)) (name content : List ℕ) (before after : Entries)
    (old : Remembers slots before) (found : value_at name after ≡ Some content) (others : (q : List ℕ) → q ≢ name → value_at q after ≡ value_at q before) where
  elsewhere : (i : ℕ) (kept : Kept) → i ≢ slot_from 0 name → get_or slots i None ≡ Some kept → (slot_from 0 kept.name ≡ i) × (value_at kept.name after ≡ Some kept.content)
  elsewhere i kept off at =
      let is = old i kept at in
      (is.0, others kept.name (λ same. off (sym is.0 ∙ ap (slot_from 0) same)) ∙ is.1)

  -- the name has no slot
  pub keeps_none : length slots ≤ slot_from 0 name → Remembers slots after
  keeps_none long i kept at = let less = is_slot slots i kept at in elsewhere i kept (λ same. absurd (omega (arith, same, less, long))) at

  here : (i : ℕ) (new : Option Kept) (kept : Kept) → i ≡ slot_from 0 name → IfSome new (λ k. (k.name ≡ name) × (k.content ≡ content)) → new ≡ Some kept → (slot_from 0 kept.name ≡ i) × (value_at kept.name after ≡ Some kept.content)
  here i None kept at is same = absurd (none_kept kept same)
  here i (Some k) kept at is same =
      let e : k ≡ kept = cc in
      let named : kept.name ≡ name = ap (λ (x : Kept). x.name) (sym e) ∙ is.0 in
      let holds : kept.content ≡ content = ap (λ (x : Kept). x.content) (sym e) ∙ is.1 in
      (ap (slot_from 0) named ∙ sym at, ap (λ (q : List ℕ). value_at q after) named ∙ found ∙ ap Some (sym holds))

  -- the name is kept in its slot, or nothing is
  pub keeps_new : (slot : ℕ) (new : Option Kept) → slot ≡ slot_from 0 name → slot < length slots → IfSome new (λ k. (k.name ≡ name) × (k.content ≡ content)) → Remembers (set slots slot new) after
  keeps_new slot new is less holds i kept at = by (nat_eq i slot) refl
    where
      by : (b : Bool) → nat_eq i slot ≡ b → (slot_from 0 kept.name ≡ i) × (value_at kept.name after ≡ Some kept.content)
      by true same =
          let e : i ≡ slot = eqb-true i slot same in
          here i new kept (e ∙ is) holds (sym (get_or-set_same slots slot new None less) ∙ ap (λ (n : ℕ). get_or (set slots slot new) n None) (sym e) ∙ at)
      by false apart =
          let off : i ≢ slot = eqb-false i slot apart in
          elsewhere i kept (λ same. off (same ∙ sym is)) (sym (get_or-set_other slots slot i new None off) ∙ at)
