-- The events of one ensemble may stand in a schedule, and their calls have distinct ids.
use Rattle.std.proofs.Common.{◌≡◌, ℕ, zero, suc, ◌+◌, ◌*◌, ◌<◌, ◌≤◌, ◌⊎◌, Bool, true, false, if◌then◌else◌, List, [], ◌∷◌, length, get_or, slice_get, drop, Option, None, Some, inl, inr, refl, sym, ap, subst, arith}
use Rattle.std.specs.List.{flat_map}
use Rattle.std.proofs.lemmas.Option.{same_Some, none-some}
use Rattle.byteorder.specs.Endian.{big_bytes}
use Rattle.ens_base.specs.Lengths.{IsValueLength}
use Rattle.ens_base.specs.Limits.{IsBytes, IsKey, IsValue}
use Rattle.ens_base.specs.Lists.{◌∈◌, AreDistinct}
use Rattle.ens_base.specs.View.{IsView}
use Rattle.ens_base.specs.declared.copy_error.LengthError.{LengthError}
use Rattle.ens_base.proofs.ByteLists.{bytes_both}
use Rattle.fields.specs.Views.{view_spelling}
use Rattle.fields.proofs.MemberLoop.{length-members}
use Rattle.root_laws.specs.Lines.{ensemble_of, events_of, lines_from, own_event, same_ensemble}
use Rattle.root_laws.specs.Slots.{slot_key}
use Rattle.scripts.specs.Spelling as script
use Rattle.scripts.specs.Spelling.{MayFollowAt, ids_of, with_id}
use Rattle.scripts.specs.Progress.{id_of}
use Rattle.scripts.specs.declared.event.RootEvent.{RootEvent}
use Rattle.scripts.specs.declared.event.RootEvent.TheVariants.{At, Open, Look, Route}
use Rattle.scripts.specs.declared.slots.Ensemble.{Ensemble}
use Rattle.schedule_text.specs.Spelling.{AllMayStand, MayStand, call_ids}
use Rattle.schedule_text.specs.declared.event.ScheduleEvent.{ScheduleEvent}
use Rattle.schedule_text.specs.declared.event.ScheduleEvent.TheVariants as line

-- ## Keys and values

slot_is_key : (slot : ℕ) → slot ≤ 63 → IsKey (slot_key slot)
slot_is_key slot h = record { size = omega arith; bytes = bytes }
  where
    bytes : (i : ℕ) → get_or (slot ∷ []) i 0 < 256
    bytes zero = omega (arith, h)
    bytes (suc i) = omega arith

four_bytes : (m : ℕ) → IsBytes (big_bytes 4 m)
four_bytes m zero = omega arith
four_bytes m (suc zero) = omega arith
four_bytes m (suc (suc zero)) = omega arith
four_bytes m (suc (suc (suc zero))) = omega arith
four_bytes m (suc (suc (suc (suc i)))) = omega arith

members_bytes : (ms : List ℕ) → IsBytes (flat_map (big_bytes 4) ms)
members_bytes [] i = omega arith
members_bytes (m ∷ ms) i = bytes_both (big_bytes 4 m) (flat_map (big_bytes 4) ms) (four_bytes m) (members_bytes ms) i

pub spelling_size : (view : List ℕ) → length (view_spelling view) ≡ 4 * length view + 1
spelling_size view = let rest = length-members view in omega (arith, rest)

view_is_value : (view : List ℕ) → IsView view → IsValue (view_spelling view)
view_is_value view h = record { size = omega (arith, spelling_size view, h.size.1); bytes = bytes }
  where
    bytes : (i : ℕ) → get_or (length view ∷ flat_map (big_bytes 4) view) i 0 < 256
    bytes zero = omega (arith, h.size.1)
    bytes (suc i) = members_bytes view i

-- ## One event

pub own_stands : (peers : ℕ) (x : RootEvent) → script.MayStand peers x → MayStand peers (own_event x)
own_stands peers (At ensemble event) h = h.2
own_stands peers (Open peer id slot view) h = (h.0, h.1, slot_is_key slot h.2, view_is_value view h.4)
own_stands peers (Look peer id slot) h = (h.0, h.1, slot_is_key slot h.2, tt)
own_stands peers (Route peer id key command) h = h

pub stands_in : (peers : ℕ) (xs : List RootEvent) (place : ℕ) (x : RootEvent) → script.AllMayStand peers xs → slice_get xs place ≡ Some x → script.MayStand peers x
stands_in peers [] place x may here = absurd (none-some x here)
stands_in peers (e ∷ es) zero x may here = subst (script.MayStand peers) (same_Some e x here) may.0
stands_in peers (e ∷ es) (suc place) x may here = stands_in peers es place x may.1 here

-- ## Lines

pub lines_stand : (peers n : ℕ) (e : Ensemble) (xs : List RootEvent) → script.AllMayStand peers xs → AllMayStand peers (events_of (lines_from n e xs))
lines_stand peers n e [] h = tt
lines_stand peers n e (x ∷ xs) h = by (same_ensemble (ensemble_of x) e) (lines_stand peers (n + 1) e xs h.1)
  where
    by : (b : Bool) → AllMayStand peers (events_of (lines_from (n + 1) e xs))
        → AllMayStand peers (events_of (if b then record { number = n; event = own_event x } ∷ lines_from (n + 1) e xs else lines_from (n + 1) e xs))
    by true later = (own_stands peers x h.0, later)
    by false later = later

no_ids : (event : ScheduleEvent) (more : List ScheduleEvent) → MayFollowAt event → call_ids (event ∷ more) ≡ call_ids more
no_ids (line.Call peer id key command) more h = absurd h
no_ids _ more h = refl

-- an event of a script has the id of its call
pub ids_are : (peers : ℕ) (x : RootEvent) (more : List ScheduleEvent) → script.MayStand peers x → call_ids (own_event x ∷ more) ≡ with_id (id_of x) (call_ids more)
ids_are peers (At ensemble event) more h = no_ids event more h.1
ids_are peers (Open peer id slot view) more h = refl
ids_are peers (Look peer id slot) more h = refl
ids_are peers (Route peer id key command) more h = refl

with_in : (o : Option ℕ) (xs ys : List ℕ) → ((i : ℕ) → i ∈ xs → i ∈ ys) → (i : ℕ) → i ∈ with_id o xs → i ∈ with_id o ys
with_in None xs ys h i m = h i m
with_in (Some id) xs ys h i (inl is) = inl is
with_in (Some id) xs ys h i (inr m) = inr (h i m)

later_in : (o : Option ℕ) (ys : List ℕ) (i : ℕ) → i ∈ ys → i ∈ with_id o ys
later_in None ys i m = m
later_in (Some id) ys i m = inr m

lines_ids : (peers n : ℕ) (e : Ensemble) (xs : List RootEvent) → script.AllMayStand peers xs → (i : ℕ) → i ∈ call_ids (events_of (lines_from n e xs)) → i ∈ ids_of xs
lines_ids peers n e [] h i m = m
lines_ids peers n e (x ∷ xs) h i m = by (same_ensemble (ensemble_of x) e) m (λ k p. lines_ids peers (n + 1) e xs h.1 k p)
  where
    by : (b : Bool) → i ∈ call_ids (events_of (if b then record { number = n; event = own_event x } ∷ lines_from (n + 1) e xs else lines_from (n + 1) e xs))
        → ((k : ℕ) → k ∈ call_ids (events_of (lines_from (n + 1) e xs)) → k ∈ ids_of xs) → i ∈ with_id (id_of x) (ids_of xs)
    by true k later = with_in (id_of x) (call_ids (events_of (lines_from (n + 1) e xs))) (ids_of xs) later i (subst (λ (l : List ℕ). i ∈ l) (ids_are peers x (events_of (lines_from (n + 1) e xs)) h.0) k)
    by false k later = later_in (id_of x) (ids_of xs) i (later i k)

with_distinct : (o : Option ℕ) (xs ys : List ℕ) → ((i : ℕ) → i ∈ xs → i ∈ ys) → AreDistinct (with_id o ys) → AreDistinct xs → AreDistinct (with_id o xs)
with_distinct None xs ys h d e = e
with_distinct (Some id) xs ys h d e = (λ m. d.0 (h id m), e)

less_distinct : (o : Option ℕ) (ys : List ℕ) → AreDistinct (with_id o ys) → AreDistinct ys
less_distinct None ys d = d
less_distinct (Some id) ys d = d.1

pub lines_distinct : (peers n : ℕ) (e : Ensemble) (xs : List RootEvent) → script.AllMayStand peers xs → AreDistinct (ids_of xs) → AreDistinct (call_ids (events_of (lines_from n e xs)))
lines_distinct peers n e [] h d = tt
lines_distinct peers n e (x ∷ xs) h d = by (same_ensemble (ensemble_of x) e) (lines_distinct peers (n + 1) e xs h.1 (less_distinct (id_of x) (ids_of xs) d))
  where
    by : (b : Bool) → AreDistinct (call_ids (events_of (lines_from (n + 1) e xs)))
        → AreDistinct (call_ids (events_of (if b then record { number = n; event = own_event x } ∷ lines_from (n + 1) e xs else lines_from (n + 1) e xs)))
    by true later = subst (λ (l : List ℕ). AreDistinct l) (sym (ids_are peers x (events_of (lines_from (n + 1) e xs)) h.0))
        (with_distinct (id_of x) (call_ids (events_of (lines_from (n + 1) e xs))) (ids_of xs) (lines_ids peers (n + 1) e xs h.1) d later)
    by false later = later

pub behind_distinct : (k : ℕ) (xs : List RootEvent) → AreDistinct (ids_of xs) → AreDistinct (ids_of (drop k xs))
behind_distinct zero xs d = d
behind_distinct (suc k) [] d = tt
behind_distinct (suc k) (x ∷ xs) d = behind_distinct k xs (less_distinct (id_of x) (ids_of xs) d)

pub behind_few : (k : ℕ) (xs : List RootEvent) → length (drop k xs) ≤ length xs
behind_few zero xs = omega arith
behind_few (suc k) [] = omega arith
behind_few (suc k) (x ∷ xs) = let rest = behind_few k xs in omega (arith, rest)

pub events_few : (n : ℕ) (e : Ensemble) (xs : List RootEvent) → length (events_of (lines_from n e xs)) ≤ length xs
events_few n e [] = omega arith
events_few n e (x ∷ xs) = by (same_ensemble (ensemble_of x) e) (events_few (n + 1) e xs)
  where
    by : (b : Bool) → length (events_of (lines_from (n + 1) e xs)) ≤ length xs
        → length (events_of (if b then record { number = n; event = own_event x } ∷ lines_from (n + 1) e xs else lines_from (n + 1) e xs)) ≤ length (x ∷ xs)
    by true h = omega (arith, h)
    by false h = omega (arith, h)

-- no view is too long for a value
pub never_long : (view bytes : List ℕ) (e : LengthError) (n : ℕ) → IsView view → bytes ≡ view_spelling view → e ≡ LengthError.Length n → (e ≡ LengthError.Memory) ⊎ ((e ≡ LengthError.Length (length bytes)) × ¬ IsValueLength (length bytes)) → ⊥
never_long view bytes e n is spelled long (inl memory) = cc (long, memory)
never_long view bytes e n is spelled long (inr more) = more.1 (omega (arith, ap (λ (l : List ℕ). length l) spelled, spelling_size view, is.size.1))
