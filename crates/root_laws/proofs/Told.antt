-- What an ensemble prints, line by line, and the lines of the first events.
use Rattle.std.proofs.Common.{◌≡◌, ℕ, ◌+◌, ◌<◌, ◌≤◌, ◌^◌, ◌==◌, ◌⊎◌, inl, inr, Bool, true, false, if◌then◌else◌, List, [], ◌∷◌, ◌++◌, length, map, refl, sym, ap, subst, ◌∙◌, append_assoc, append-nil, length-append, arith}
use Rattle.std.specs.Prelude.{All, filter}
use Rattle.std.proofs.lemmas.Bool.Decides.{nat_tests}
use Rattle.std.proofs.lemmas.List.Elements.{All-head, All-tail}
use Rattle.std.proofs.lemmas.List.{map-append}
use Rattle.ens_base.specs.Lists.{◌∈◌}
use Rattle.ens_base.proofs.Lists.{in_append}
use Rattle.register_model.specs.declared.answer.Answer.{Answer}
use Rattle.register_model.specs.declared.printed.Printed.{Printed}
use Rattle.register_model.specs.declared.printed.Printed.TheVariants as printed
use Rattle.schedule_text.specs.declared.event.ScheduleEvent.{ScheduleEvent}
use Rattle.scripts.specs.declared.event.RootEvent.{RootEvent}
use Rattle.scripts.specs.declared.slots.Ensemble.{Ensemble}
use Rattle.root_laws.specs.Lines.{Line, ensemble_of, events_of, lines_from, number_of, own_event, same_ensemble}
use Rattle.root_laws.specs.Runs.{is_at, numbered, story_of, told_of}
use Rattle.root_laws.specs.Steps.{GrowByLine, IsAt, printed_next}
use Rattle.root_laws.specs.Worlds.{Worlds, answers_in}
use Rattle.root_laws.proofs.Lines.{Numbers, own_numbers}

pub filter_append : {A : Type 0} (p : A → Bool) (xs ys : List A) → filter p (xs ++ ys) ≡ filter p xs ++ filter p ys
filter_append p [] ys = refl
filter_append {A = A} p (x ∷ xs) ys = by (p x) (filter_append p xs ys)
  where
    by : (b : Bool) → filter p (xs ++ ys) ≡ filter p xs ++ filter p ys → (if b then x ∷ filter p (xs ++ ys) else filter p (xs ++ ys)) ≡ (if b then x ∷ filter p xs else filter p xs) ++ filter p ys
    by true h = ap (λ (l : List A). x ∷ l) h
    by false h = h

pub answers_append : (xs ys : List Printed) → answers_in (xs ++ ys) ≡ answers_in xs ++ answers_in ys
answers_append [] ys = refl
answers_append (printed.Answer a ∷ xs) ys = ap (λ (l : List Answer). a ∷ l) (answers_append xs ys)
answers_append (printed.Change event peer taken ∷ xs) ys = answers_append xs ys

-- ---- the lines of the first events

pub lines_append : (n : ℕ) (e : Ensemble) (xs ys : List RootEvent) → lines_from n e (xs ++ ys) ≡ lines_from n e xs ++ lines_from (n + length xs) e ys
lines_append n e [] ys = let at : n ≡ n + 0 = omega arith in ap (λ (k : ℕ). lines_from k e ys) at
lines_append n e (x ∷ xs) ys =
    let at : n + 1 + length xs ≡ n + length (x ∷ xs) = omega arith in
    by (same_ensemble (ensemble_of x) e) (lines_append (n + 1) e xs ys ∙ ap (λ (k : ℕ). lines_from (n + 1) e xs ++ lines_from k e ys) at)
  where
    first : Line
    first = record { number = n; event = own_event x }

    by : (b : Bool) → lines_from (n + 1) e (xs ++ ys) ≡ lines_from (n + 1) e xs ++ lines_from (n + length (x ∷ xs)) e ys
        → (if b then first ∷ lines_from (n + 1) e (xs ++ ys) else lines_from (n + 1) e (xs ++ ys)) ≡ (if b then first ∷ lines_from (n + 1) e xs else lines_from (n + 1) e xs) ++ lines_from (n + length (x ∷ xs)) e ys
    by true h = ap (λ (l : List Line). first ∷ l) h
    by false h = h

-- an event of the ensemble is one line more, and another event none
pub line_here : (n : ℕ) (e : Ensemble) (x : RootEvent) (more : List RootEvent) → same_ensemble (ensemble_of x) e ≡ true → lines_from n e (x ∷ more) ≡ record { number = n; event = own_event x } ∷ lines_from (n + 1) e more
line_here n e x more same = by (same_ensemble (ensemble_of x) e) same
  where
    by : (b : Bool) → b ≡ true → (if b then record { number = n; event = own_event x } ∷ lines_from (n + 1) e more else lines_from (n + 1) e more) ≡ record { number = n; event = own_event x } ∷ lines_from (n + 1) e more
    by true h = refl
    by false h = absurd cc

pub line_elsewhere : (n : ℕ) (e : Ensemble) (x : RootEvent) (more : List RootEvent) → same_ensemble (ensemble_of x) e ≡ false → lines_from n e (x ∷ more) ≡ lines_from (n + 1) e more
line_elsewhere n e x more other = by (same_ensemble (ensemble_of x) e) other
  where
    by : (b : Bool) → b ≡ false → (if b then record { number = n; event = own_event x } ∷ lines_from (n + 1) e more else lines_from (n + 1) e more) ≡ lines_from (n + 1) e more
    by true h = absurd cc
    by false h = refl

-- no line has this number
abbrev pub Without : ℕ → List Line → Type 0
Without m [] = Unit {0}
Without m (l ∷ ls) = ((l.number == m) ≡ false) × Without m ls

pub without_above : (m n : ℕ) (e : Ensemble) (xs : List RootEvent) → m < n → Without m (lines_from n e xs)
without_above m n e [] h = tt
without_above m n e (x ∷ xs) h = by (same_ensemble (ensemble_of x) e) (without_above m (n + 1) e xs (omega arith))
  where
    by : (b : Bool) → Without m (lines_from (n + 1) e xs) → Without m (if b then record { number = n; event = own_event x } ∷ lines_from (n + 1) e xs else lines_from (n + 1) e xs)
    by true later = (grind (arith, nat_tests, h), later)
    by false later = later

pub without_below : (m n : ℕ) (e : Ensemble) (xs : List RootEvent) → n + length xs ≤ m → Without m (lines_from n e xs)
without_below m n e [] h = tt
without_below m n e (x ∷ xs) h = by (same_ensemble (ensemble_of x) e) (without_below m (n + 1) e xs (omega arith))
  where
    less : n < m
    less = omega arith

    by : (b : Bool) → Without m (lines_from (n + 1) e xs) → Without m (if b then record { number = n; event = own_event x } ∷ lines_from (n + 1) e xs else lines_from (n + 1) e xs)
    by true later = (grind (arith, nat_tests, less), later)
    by false later = later

-- all lines have at least this number
abbrev pub From : ℕ → List Line → Type 0
From m [] = Unit {0}
From m (l ∷ ls) = (m ≤ l.number) × From m ls

pub lines_from_on : (m n : ℕ) (e : Ensemble) (xs : List RootEvent) → m ≤ n → From m (lines_from n e xs)
lines_from_on m n e [] h = tt
lines_from_on m n e (x ∷ xs) h = by (same_ensemble (ensemble_of x) e) (lines_from_on m (n + 1) e xs (omega arith))
  where
    by : (b : Bool) → From m (lines_from (n + 1) e xs) → From m (if b then record { number = n; event = own_event x } ∷ lines_from (n + 1) e xs else lines_from (n + 1) e xs)
    by true later = (h, later)
    by false later = later

pub lines_few : (n : ℕ) (e : Ensemble) (xs : List RootEvent) → length (lines_from n e xs) ≤ length xs
lines_few n e [] = omega arith
lines_few n e (x ∷ xs) = by (same_ensemble (ensemble_of x) e) (lines_few (n + 1) e xs)
  where
    by : (b : Bool) → length (lines_from (n + 1) e xs) ≤ length xs → length (if b then record { number = n; event = own_event x } ∷ lines_from (n + 1) e xs else lines_from (n + 1) e xs) ≤ length (x ∷ xs)
    by true h = omega arith
    by false h = omega arith

-- ---- numbers of printed lines

renumber : (f : ℕ → ℕ) (k m : ℕ) (ps : List Printed) → All (IsAt k) ps → f k ≡ m → map (numbered f) ps ≡ map (numbered (λ n. m)) ps
renumber f k m [] at same = refl
renumber f k m (p ∷ ps) at same =
    let first : numbered f p ≡ numbered (λ n. m) p = one p (All-head (IsAt k) p ps at) in
    ap (λ (q : Printed). q ∷ map (numbered f) ps) first ∙ ap (λ (l : List Printed). numbered (λ n. m) p ∷ l) (renumber f k m ps (All-tail (IsAt k) p ps at) same)
  where
    one : (p : Printed) → IsAt k p → numbered f p ≡ numbered (λ n. m) p
    one (printed.Answer a) h =
        let number : f a.event ≡ m = ap f h ∙ same in
        ap (λ (e : ℕ). printed.Answer (record a { event = e })) number
    one (printed.Change event peer taken) h =
        let number : f event ≡ m = ap f h ∙ same in
        ap (λ (e : ℕ). printed.Change e peer taken) number

all_there : (m k : ℕ) (ps : List Printed) → (k == m) ≡ true → filter (is_at m) (map (numbered (λ n. k)) ps) ≡ map (numbered (λ n. k)) ps
all_there m k [] same = refl
all_there m k (p ∷ ps) same = by (is_at m (numbered (λ n. k) p)) (one p) (all_there m k ps same)
  where
    one : (p : Printed) → is_at m (numbered (λ n. k) p) ≡ true
    one (printed.Answer a) = same
    one (printed.Change event peer taken) = same

    by : (b : Bool) → b ≡ true → filter (is_at m) (map (numbered (λ n. k)) ps) ≡ map (numbered (λ n. k)) ps
        → (if b then numbered (λ n. k) p ∷ filter (is_at m) (map (numbered (λ n. k)) ps) else filter (is_at m) (map (numbered (λ n. k)) ps)) ≡ numbered (λ n. k) p ∷ map (numbered (λ n. k)) ps
    by true e h = ap (λ (l : List Printed). numbered (λ n. k) p ∷ l) h
    by false e h = absurd cc

none_there : (m k : ℕ) (ps : List Printed) → (k == m) ≡ false → filter (is_at m) (map (numbered (λ n. k)) ps) ≡ []
none_there m k [] other = refl
none_there m k (p ∷ ps) other = by (is_at m (numbered (λ n. k) p)) (one p) (none_there m k ps other)
  where
    one : (p : Printed) → is_at m (numbered (λ n. k) p) ≡ false
    one (printed.Answer a) = other
    one (printed.Change event peer taken) = other

    by : (b : Bool) → b ≡ false → filter (is_at m) (map (numbered (λ n. k)) ps) ≡ []
        → (if b then numbered (λ n. k) p ∷ filter (is_at m) (map (numbered (λ n. k)) ps) else filter (is_at m) (map (numbered (λ n. k)) ps)) ≡ []
    by true e h = absurd cc
    by false e h = h

answers_late : (m k : ℕ) (ps : List Printed) (a : Answer) → m ≤ k → a ∈ answers_in (map (numbered (λ n. k)) ps) → m ≤ a.event
answers_late m k [] a h there = absurd there
answers_late m k (printed.Answer b ∷ ps) a h (inl is) = let at : a.event ≡ k = ap (λ (x : Answer). x.event) is in omega arith
answers_late m k (printed.Answer b ∷ ps) a h (inr there) = answers_late m k ps a h there
answers_late m k (printed.Change event peer taken ∷ ps) a h there = answers_late m k ps a h there

module _ (worlds : Worlds) (peers : ℕ) (view : List ℕ) where
  -- what the lines behind these events make an ensemble print, with the numbers of the script
  abbrev pub told_behind : List ScheduleEvent → List Line → List Printed
  told_behind done [] = []
  told_behind done (l ∷ ls) = map (numbered (λ n. l.number)) (printed_next worlds peers view done l.event) ++ told_behind (done ++ l.event ∷ []) ls

  pub told_append : (done : List ScheduleEvent) (xs ys : List Line) → told_behind done (xs ++ ys) ≡ told_behind done xs ++ told_behind (done ++ events_of xs) ys
  told_append done [] ys = ap (λ (d : List ScheduleEvent). told_behind d ys) (sym (append-nil done))
  told_append done (x ∷ xs) ys =
      let first : List Printed = map (numbered (λ n. x.number)) (printed_next worlds peers view done x.event) in
      let rest : List Printed = told_behind (done ++ x.event ∷ []) xs in
      ap (λ (l : List Printed). first ++ l) (told_append (done ++ x.event ∷ []) xs ys ∙ ap (λ (d : List ScheduleEvent). rest ++ told_behind d ys) (append_assoc done (x.event ∷ []) (events_of xs)))
      ∙ sym (append_assoc first rest (told_behind (done ++ (x.event ∷ events_of xs)) ys))

  -- none of these is printed in an event of another number
  pub told_none : (m : ℕ) (done : List ScheduleEvent) (lines : List Line) → Without m lines → filter (is_at m) (told_behind done lines) ≡ []
  told_none m done [] h = refl
  told_none m done (l ∷ ls) h =
      let first : List Printed = map (numbered (λ n. l.number)) (printed_next worlds peers view done l.event) in
      filter_append (is_at m) first (told_behind (done ++ l.event ∷ []) ls) ∙ ap (λ (x : List Printed). x ++ filter (is_at m) (told_behind (done ++ l.event ∷ []) ls)) (none_there m l.number (printed_next worlds peers view done l.event) h.0)
      ∙ told_none m (done ++ l.event ∷ []) ls h.1

  -- in the event of a line it prints what the line makes it print
  pub told_one : (m : ℕ) (done : List ScheduleEvent) (before : List Line) (l : Line) (after : List Line) → Without m before → Without m after → l.number ≡ m
      → filter (is_at m) (told_behind done (before ++ l ∷ after)) ≡ map (numbered (λ n. m)) (printed_next worlds peers view (done ++ events_of before) l.event)
  told_one m done [] l after none later is =
      let lines : List Printed = printed_next worlds peers view done l.event in
      let here : (l.number == m) ≡ true = grind (arith, nat_tests, is) in
      filter_append (is_at m) (map (numbered (λ n. l.number)) lines) (told_behind (done ++ l.event ∷ []) after)
      ∙ ap (λ (x : List Printed). filter (is_at m) (map (numbered (λ n. l.number)) lines) ++ x) (told_none m (done ++ l.event ∷ []) after later)
      ∙ append-nil (filter (is_at m) (map (numbered (λ n. l.number)) lines)) ∙ all_there m l.number lines here ∙ ap (λ (k : ℕ). map (numbered (λ n. k)) lines) is
      ∙ ap (λ (d : List ScheduleEvent). map (numbered (λ n. m)) (printed_next worlds peers view d l.event)) (sym (append-nil done))
  told_one m done (x ∷ before) l after none later is =
      let first : List Printed = map (numbered (λ n. x.number)) (printed_next worlds peers view done x.event) in
      let next : List ScheduleEvent = done ++ x.event ∷ [] in
      filter_append (is_at m) first (told_behind next (before ++ l ∷ after)) ∙ ap (λ (y : List Printed). y ++ filter (is_at m) (told_behind next (before ++ l ∷ after))) (none_there m x.number (printed_next worlds peers view done x.event) none.0)
      ∙ told_one m next before l after none.1 later is
      ∙ ap (λ (d : List ScheduleEvent). map (numbered (λ n. m)) (printed_next worlds peers view d l.event)) (append_assoc done (x.event ∷ []) (events_of before))

  pub told_late : (m : ℕ) (done : List ScheduleEvent) (lines : List Line) (a : Answer) → From m lines → a ∈ answers_in (told_behind done lines) → m ≤ a.event
  told_late m done [] a h there = absurd there
  told_late m done (l ∷ ls) a h there =
      let first : List Printed = map (numbered (λ n. l.number)) (printed_next worlds peers view done l.event) in
      let In : List Answer → Type 0 = λ x. a ∈ x in
      choose (in_append (answers_in first) (answers_in (told_behind (done ++ l.event ∷ []) ls)) a (subst In (answers_append first (told_behind (done ++ l.event ∷ []) ls)) there)) (λ k. told_late m (done ++ l.event ∷ []) ls a h.1 k)
    where
      choose : (a ∈ answers_in (map (numbered (λ n. l.number)) (printed_next worlds peers view done l.event))) ⊎ (a ∈ answers_in (told_behind (done ++ l.event ∷ []) ls)) → (a ∈ answers_in (told_behind (done ++ l.event ∷ []) ls) → m ≤ a.event) → m ≤ a.event
      choose (inl k) later = answers_late m l.number (printed_next worlds peers view done l.event) a h.0 k
      choose (inr k) later = later k

  module _ (growing : GrowByLine worlds) where
    told_from : (f : ℕ → ℕ) (done : List ScheduleEvent) (rest : List Line) → length done + length rest < 2 ^ 32 → Numbers f (length done + 1) rest
        → map (numbered f) (worlds peers view (done ++ events_of rest)).printed ≡ map (numbered f) (worlds peers view done).printed ++ told_behind done rest
    told_from f done [] few h = ap (λ (d : List ScheduleEvent). map (numbered f) (worlds peers view d).printed) (append-nil done) ∙ sym (append-nil (map (numbered f) (worlds peers view done).printed))
    told_from f done (l ∷ ls) few h =
        let next : List ScheduleEvent = done ++ l.event ∷ [] in
        let count : length next ≡ length done + 1 = length-append done (l.event ∷ []) in
        let less : length done < 2 ^ 32 = omega (arith, few) in
        let later : length next + length ls < 2 ^ 32 = omega (arith, few, count) in
        let From : ℕ → Type 0 = λ k. Numbers f (k + 1) ls in
        let before : List Printed = (worlds peers view done).printed in
        let new : List Printed = printed_next worlds peers view done l.event in
        ap (λ (d : List ScheduleEvent). map (numbered f) (worlds peers view d).printed) (sym (append_assoc done (l.event ∷ []) (events_of ls))) ∙ told_from f next ls later (subst From (sym count) h.1)
        ∙ ap (λ (ps : List Printed). map (numbered f) ps ++ told_behind next ls) (growing.grow peers view done l.event) ∙ ap (λ (ps : List Printed). ps ++ told_behind next ls) (map-append (numbered f) before new)
        ∙ ap (λ (ps : List Printed). (map (numbered f) before ++ ps) ++ told_behind next ls) (renumber f (length done + 1) l.number new (growing.at peers view done l.event less) h.0)
        ∙ append_assoc (map (numbered f) before) (map (numbered (λ n. l.number)) new) (told_behind next ls)

    -- so an ensemble prints line by line
    pub told_is : (lines : List Line) → length lines < 2 ^ 32 → told_of lines (story_of worlds peers view lines) ≡ told_behind [] lines
    told_is lines few =
        told_from (number_of lines) [] lines (omega (arith, few)) (own_numbers lines) ∙ ap (λ (ps : List Printed). map (numbered (number_of lines)) ps ++ told_behind [] lines) (growing.silent peers view)
