-- The places of the calls of a script, and the keys of its routed calls.
use Rattle.std.proofs.Common.{◌≡◌, ℕ, ◌+◌, ◌-◌, ◌<◌, ◌≤◌, ◌==◌, Bool, true, false, cond, if◌then◌else◌, List, [], ◌∷◌, ◌++◌, length, drop, take, slice_get, Option, Some, refl, sym, ap, subst, ◌∙◌, arith}
use Rattle.std.specs.BTreeMap.{is_at}
use Rattle.std.specs.Ordering.{nat_cmp}
use Rattle.std.specs.Prelude.{find}
use Rattle.root_laws.specs.Text.{keys_in}
use Rattle.scripts.specs.Progress.{has_id, id_of, is_id}
use Rattle.scripts.specs.declared.event.RootEvent.{RootEvent}
use Rattle.scripts.specs.declared.event.RootEvent.TheVariants.{At, Open, Look, Route}
use Rattle.root.specs.Standing.{at_place}
use Rattle.root.proofs.Lists.{drop_one, take_one}
use Rattle.ens_base.proofs.Tests.{at_number}

module _ (events : List RootEvent) (place : ℕ) (x : RootEvent) (here : slice_get events place ≡ Some x) (q : ℕ) (old new : Option ℕ) (h : at_place events old ≡ find (has_id q) (drop (place + 1) events)) where
  found : find (has_id q) (drop place events) ≡ (if has_id q x then Some x else find (has_id q) (drop (place + 1) events))
  found = ap (find (has_id q)) (drop_one events place x here)

  -- the event is a call
  pub places_call : (id : ℕ) → Some id ≡ id_of x → new ≡ cond (is_at (nat_cmp id) q) (Some place) old → at_place events new ≡ find (has_id q) (drop place events)
  places_call id is puts = by (id == q) refl
    where
      has : has_id q x ≡ (id == q)
      has = ap (is_id q) (sym is)

      by : (b : Bool) → (id == q) ≡ b → at_place events new ≡ find (has_id q) (drop place events)
      by true e =
          ap (at_place events) (puts ∙ ap (λ (b : Bool). cond b (Some place) old) (at_number id q ∙ e)) ∙ here
          ∙ sym (found ∙ ap (λ (b : Bool). if b then Some x else find (has_id q) (drop (place + 1) events)) (has ∙ e))
      by false e =
          ap (at_place events) (puts ∙ ap (λ (b : Bool). cond b (Some place) old) (at_number id q ∙ e)) ∙ h
          ∙ sym (found ∙ ap (λ (b : Bool). if b then Some x else find (has_id q) (drop (place + 1) events)) (has ∙ e))

-- one event more, from the last one on
pub places_before : (events : List RootEvent) (last : ℕ) (x : RootEvent) → 0 < last → last ≤ length events → slice_get events (last - 1) ≡ Some x → (id : ℕ) → Some id ≡ id_of x → (q : ℕ) (old new : Option ℕ) → at_place events old ≡ find (has_id q) (drop last events)
    → new ≡ cond (is_at (nat_cmp id) q) (Some (last - 1)) old → at_place events new ≡ find (has_id q) (drop (last - 1) events)
places_before events last x low high here id is q old new h puts =
    let back : last ≡ last - 1 + 1 = omega (arith, low) in
    places_call events (last - 1) x here q old new (subst (λ (k : ℕ). at_place events old ≡ find (has_id q) (drop k events)) back h) id is puts

-- the keys of the events up to a place, and of one more
keys_both : (xs ys : List RootEvent) → keys_in (xs ++ ys) ≡ keys_in xs ++ keys_in ys
keys_both [] ys = refl
keys_both (Route peer id key command ∷ xs) ys = ap (λ (l : List (List ℕ)). key ∷ l) (keys_both xs ys)
keys_both (At ensemble event ∷ xs) ys = keys_both xs ys
keys_both (Open peer id slot view ∷ xs) ys = keys_both xs ys
keys_both (Look peer id slot ∷ xs) ys = keys_both xs ys

pub keys_next : (events : List RootEvent) (place : ℕ) (x : RootEvent) (old new : List (List ℕ)) → slice_get events place ≡ Some x → old ≡ keys_in (take place events) → new ≡ old ++ keys_in (x ∷ []) → new ≡ keys_in (take (place + 1) events)
keys_next events place x old new here was is =
    is ∙ ap (λ (l : List (List ℕ)). l ++ keys_in (x ∷ [])) was ∙ sym (keys_both (take place events) (x ∷ [])) ∙ sym (ap keys_in (take_one events place x here))
