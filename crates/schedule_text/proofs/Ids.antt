-- The ids of the calls of a list of events.
use Rattle.std.proofs.Common.{◌≡◌, ℕ, ◌==◌, ◌⊎◌, inl, inr, true, false, List, [], ◌∷◌, ◌++◌, refl, sym, ap, arith}
use Rattle.std.proofs.lemmas.Bool.{or_parts}
use Rattle.std.proofs.lemmas.Bool.Decides.{nat_tests}
use Rattle.std.specs.List.{list_any}
use Rattle.ens_base.specs.Lists.{AreDistinct, ◌∈◌}
use Rattle.ens_base.specs.declared.command.Command.{Command}
use Rattle.ens_base.proofs.Tests.{itself}
use Rattle.schedule_text.specs.Progress.{is_call, is_repeated}
use Rattle.schedule_text.specs.Spelling.{call_ids}
use Rattle.schedule_text.specs.declared.event.ScheduleEvent.{ScheduleEvent}
use Rattle.schedule_text.specs.declared.event.ScheduleEvent.TheVariants.{Call, Tick, Deliver, Pass, Lose, Calm, CalmAmong, Change, Stop, Start, Upgrade, Deepen, Spoil, Damage, Inner, Revert, Fail}

-- no call with this id is no such id
not_called : (id : ℕ) (events : List ScheduleEvent) → list_any (is_call id) events ≡ false → id ∈ call_ids events → ⊥
not_called id [] h m = m
not_called id (Call peer i key command ∷ more) h (inl e) =
    let parts = or_parts (i == id) _ h in
    let is_same : (i == id) ≡ true = rw e (itself i) in
    cc (is_same, parts.0)
not_called id (Call peer i key command ∷ more) h (inr m) = let parts = or_parts (i == id) _ h in not_called id more parts.1 m
not_called id (_ ∷ more) h m = not_called id more h m

pub in_end : {A : Type 0} (x y : A) (xs : List A) → x ∈ (xs ++ y ∷ []) → (x ∈ xs) ⊎ (x ≡ y)
in_end x y [] (inl e) = inr e
in_end x y [] (inr m) = absurd m
in_end x y (z ∷ zs) (inl e) = inl (inl e)
in_end x y (z ∷ zs) (inr m) = elim (in_end x y zs m) [ inl k ↦ inl (inr k) | inr e ↦ inr e ]

pub distinct_end : {A : Type 0} (y : A) (xs : List A) → AreDistinct xs → ¬ (y ∈ xs) → AreDistinct (xs ++ y ∷ [])
distinct_end y [] h k = (λ m. m, tt)
distinct_end y (x ∷ xs) h k =
    (λ m. elim (in_end x y xs m) [ inl n ↦ h.0 n | inr e ↦ k (inl (sym e)) ], distinct_end y xs h.1 (λ m. k (inr m)))

call_ids-end : (events : List ScheduleEvent) (peer id : ℕ) (key : List ℕ) (command : Command) → call_ids (events ++ Call peer id key command ∷ []) ≡ call_ids events ++ id ∷ []
call_ids-end [] peer id key command = refl
call_ids-end (Call p i k c ∷ more) peer id key command = ap (λ (ids : List ℕ). i ∷ ids) (call_ids-end more peer id key command)
call_ids-end (_ ∷ more) peer id key command = call_ids-end more peer id key command

-- an event that is no call adds no id
abbrev IsNoCall : ScheduleEvent → Type 0
IsNoCall (Call peer id key command) = ⊥
IsNoCall _ = Unit {0}

call_ids-no_call : (events : List ScheduleEvent) (event : ScheduleEvent) → IsNoCall event → call_ids (events ++ event ∷ []) ≡ call_ids events
call_ids-no_call [] (Call peer id key command) h = absurd h
call_ids-no_call [] _ h = refl
call_ids-no_call (Call p i k c ∷ more) event h = ap (λ (ids : List ℕ). i ∷ ids) (call_ids-no_call more event h)
call_ids-no_call (_ ∷ more) event h = call_ids-no_call more event h

-- an event that is not repeated keeps the ids distinct
pub distinct_with : (events : List ScheduleEvent) (event : ScheduleEvent) → AreDistinct (call_ids events) → is_repeated events event ≡ false
    → AreDistinct (call_ids (events ++ event ∷ []))
distinct_with events (Call peer id key command) h k =
    rw (call_ids-end events peer id key command) (distinct_end id (call_ids events) h (not_called id events k))
distinct_with events Calm h k = rw (call_ids-no_call events Calm tt) h
distinct_with events (Tick a b) h k = rw (call_ids-no_call events (Tick a b) tt) h
distinct_with events (Deliver a) h k = rw (call_ids-no_call events (Deliver a) tt) h
distinct_with events (Pass a b) h k = rw (call_ids-no_call events (Pass a b) tt) h
distinct_with events (Lose a b) h k = rw (call_ids-no_call events (Lose a b) tt) h
distinct_with events (CalmAmong a) h k = rw (call_ids-no_call events (CalmAmong a) tt) h
distinct_with events (Change a b) h k = rw (call_ids-no_call events (Change a b) tt) h
distinct_with events (Stop a) h k = rw (call_ids-no_call events (Stop a) tt) h
distinct_with events (Start a) h k = rw (call_ids-no_call events (Start a) tt) h
distinct_with events (Upgrade a) h k = rw (call_ids-no_call events (Upgrade a) tt) h
distinct_with events Deepen h k = rw (call_ids-no_call events Deepen tt) h
distinct_with events (Spoil a b c) h k = rw (call_ids-no_call events (Spoil a b c) tt) h
distinct_with events (Damage a b c) h k = rw (call_ids-no_call events (Damage a b c) tt) h
distinct_with events (Inner a b c d) h k = rw (call_ids-no_call events (Inner a b c d) tt) h
distinct_with events (Revert a b) h k = rw (call_ids-no_call events (Revert a b) tt) h
distinct_with events (Fail a b c) h k = rw (call_ids-no_call events (Fail a b c) tt) h

pub call_ids-append : (xs ys : List ScheduleEvent) → call_ids (xs ++ ys) ≡ call_ids xs ++ call_ids ys
call_ids-append [] ys = refl
call_ids-append (Call peer id key command ∷ xs) ys = ap (λ (ids : List ℕ). id ∷ ids) (call_ids-append xs ys)
call_ids-append (_ ∷ xs) ys = call_ids-append xs ys

-- ---- and the other way

pub id_among : (events more : List ScheduleEvent) (peer id : ℕ) (key : List ℕ) (command : Command) → id ∈ call_ids (events ++ Call peer id key command ∷ more)
id_among [] more peer id key command = inl refl
id_among (Call p i k c ∷ events) more peer id key command = inr (id_among events more peer id key command)
id_among (_ ∷ events) more peer id key command = id_among events more peer id key command

not_same : (a b : ℕ) → ¬ (a ≡ b) → (a == b) ≡ false
not_same a b h = grind (arith, nat_tests)

first_call : (events more : List ScheduleEvent) (peer id : ℕ) (key : List ℕ) (command : Command)
    → AreDistinct (call_ids (events ++ Call peer id key command ∷ more)) → list_any (is_call id) events ≡ false
first_call [] more peer id key command h = refl
first_call (Call p i k c ∷ events) more peer id key command h =
    let differs : (i == id) ≡ false = not_same i id (λ e. h.0 (rw e (id_among events more peer id key command))) in
    rw differs (first_call events more peer id key command h.1)
first_call (_ ∷ events) more peer id key command h = first_call events more peer id key command h

-- among distinct ids none came before
pub not_repeated : (events more : List ScheduleEvent) (event : ScheduleEvent) → AreDistinct (call_ids (events ++ event ∷ more)) → is_repeated events event ≡ false
not_repeated events more (Call peer id key command) h = first_call events more peer id key command h
not_repeated events more _ h = refl
