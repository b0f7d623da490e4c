-- The run of a script goes line by line.
use Rattle.std.proofs.Common.{◌≡◌, ℕ, zero, suc, ◌+◌, ◌<◌, ◌≤◌, ◌^◌, ◌==◌, ◌⊎◌, inl, inr, Bool, true, false, if◌then◌else◌, List, [], ◌∷◌, ◌++◌, length, map, drop, Option, Some, None, refl, sym, ap, subst, ◌∙◌, append_assoc, append-nil, length-append, arith}
use Rattle.std.specs.Prelude.{filter}
use Rattle.std.proofs.lemmas.Bool.{eq-eqb, eqb-true, le-ltb, lt-ltb}
use Rattle.std.proofs.lemmas.List.{map-append}
use Rattle.ens_base.specs.Lists.{◌∈◌}
use Rattle.register_model.specs.Parts.{numbered_answer}
use Rattle.register_model.specs.declared.answer.Answer.{Answer}
use Rattle.register_model.specs.declared.printed.Printed.{Printed}
use Rattle.register_model.specs.declared.printed.Printed.TheVariants as printed
use Rattle.schedule_text.specs.declared.event.ScheduleEvent.{ScheduleEvent}
use Rattle.schedule_text.specs.declared.event.ScheduleEvent.TheVariants as schedule
use Rattle.scripts.specs.Spelling.{AllMayStand, MayFollowAt, IsScript, MayStand}
use Rattle.scripts.specs.declared.event.RootEvent.{RootEvent}
use Rattle.scripts.specs.declared.event.RootEvent.TheVariants.{At, Open, Look, Route}
use Rattle.scripts.specs.declared.script.RootScript.{RootScript}
use Rattle.scripts.specs.declared.slots.Ensemble.{Ensemble}
use Rattle.scripts.specs.declared.slots.Ensemble.TheVariants.{Root, Slot}
use Rattle.root_laws.specs.Lines.{Line, ensemble_of, events_of, lines_from, number_of, own_event, same_ensemble}
use Rattle.root_laws.specs.Openings.{Opening, opening_in, or_later, told_by, view_at, view_in}
use Rattle.root_laws.specs.Runs.{RootPrinted, by, ensemble_printed, is_at, lines_of, lines_with, numbered, opening_of, opens_before, outside, printed_at, printed_from, printed_of, root_lines, story_with, told_of, unrouted}
use Rattle.root_laws.specs.Slots.{slot_of}
use Rattle.root_laws.specs.Steps.{Branch, GrowByLine, Roots, at_first, in_ensemble, in_root, in_slot, open_lines, open_slot, open_told, opened_at, printed_next, refusal, roots_after, said, step, steps}
use Rattle.root_laws.specs.Worlds.{Worlds, answers_in}
use Rattle.root_laws.proofs.Sources.{answers_told}
use Rattle.root_laws.proofs.Told.{answers_append, line_elsewhere, line_here, lines_append, lines_few, lines_from_on, told_append, told_behind, told_is, told_late, told_none, told_one, without_above, without_below}

-- ---- numbers and slots

pub drop_append : {A : Type 0} (n : ℕ) (xs ys : List A) → n ≤ length xs → drop n (xs ++ ys) ≡ drop n xs ++ ys
drop_append zero xs ys h = refl
drop_append (suc n) [] ys h = absurd (omega arith)
drop_append (suc n) (x ∷ xs) ys h = drop_append n xs ys (omega arith)

drop_all : {A : Type 0} (n : ℕ) (xs : List A) → n ≡ length xs → drop n xs ≡ []
drop_all zero [] h = refl
drop_all zero (x ∷ xs) h = absurd (omega arith)
drop_all (suc n) [] h = refl
drop_all (suc n) (x ∷ xs) h = drop_all n xs (omega arith)

length-drop : {A : Type 0} (n : ℕ) (xs : List A) → n ≤ length xs → n + length (drop n xs) ≡ length xs
length-drop zero xs h = omega arith
length-drop (suc n) [] h = absurd (omega arith)
length-drop (suc n) (x ∷ xs) h = let rest = length-drop n xs (omega arith) in omega (arith, rest)

dropped : {A : Type 0} (n : ℕ) (xs : List A) → length (drop n xs) ≤ length xs
dropped zero xs = omega arith
dropped (suc n) [] = omega arith
dropped (suc n) (x ∷ xs) = let rest = dropped n xs in omega (arith, rest)

-- ---- openings among answers

abbrev or_else : Option Opening → Option Opening → Option Opening
or_else (Some o) later = Some o
or_else None later = later

or_none : (o : Option Opening) → or_else o None ≡ o
or_none (Some o) = refl
or_none None = refl

opening_append : (events : List RootEvent) (slot : ℕ) (xs ys : List Answer) → opening_in events slot (xs ++ ys) ≡ or_else (opening_in events slot xs) (opening_in events slot ys)
opening_append events slot [] ys = refl
opening_append events slot (a ∷ xs) ys = by (view_in events slot a) (opening_append events slot xs ys)
  where
    by : (v : Option (List ℕ)) → opening_in events slot (xs ++ ys) ≡ or_else (opening_in events slot xs) (opening_in events slot ys)
        → or_later a.event v (opening_in events slot (xs ++ ys)) ≡ or_else (or_later a.event v (opening_in events slot xs)) (opening_in events slot ys)
    by (Some view) h = refl
    by None h = h

opening_late : (events : List RootEvent) (slot m : ℕ) (answers : List Answer) (o : Opening) → ((a : Answer) → a ∈ answers → m ≤ a.event) → opening_in events slot answers ≡ Some o → m ≤ o.event
opening_late events slot m [] o late is = cc is
opening_late events slot m (a ∷ more) o late is = by (view_in events slot a) is (λ k. opening_late events slot m more o (λ b there. late b (inr there)) k)
  where
    by : (v : Option (List ℕ)) → or_later a.event v (opening_in events slot more) ≡ Some o → (opening_in events slot more ≡ Some o → m ≤ o.event) → m ≤ o.event
    by (Some view) k later =
        let same : record { event = a.event; view = view } ≡ o = cc k in
        let at : a.event ≡ o.event = ap (λ (x : Opening). x.event) same in
        let first : m ≤ a.event = late a (inl refl) in
        omega arith
    by None k later = later k

-- ---- what opening slots leaves as it was

pub opens_root : (events : List RootEvent) (number : ℕ) (lines : List Printed) (w : Roots) → (open_lines events number lines w).root ≡ w.root
opens_root events number [] w = refl
opens_root events number (printed.Answer a ∷ more) w = opens_root events number more (open_told number (told_by events a) w) ∙ told_root (told_by events a)
  where
    slot_root : (slot : ℕ) (view : List ℕ) (b : Option Branch) → (open_slot number slot view b w).root ≡ w.root
    slot_root slot view (Some b) = refl
    slot_root slot view None = refl

    told_root : (t : Option (ℕ × List ℕ)) → (open_told number t w).root ≡ w.root
    told_root None = refl
    told_root (Some (slot, view)) = slot_root slot view (w.slots slot)
opens_root events number (printed.Change event peer taken ∷ more) w = opens_root events number more w

pub opens_printed : (events : List RootEvent) (number : ℕ) (lines : List Printed) (w : Roots) → (open_lines events number lines w).printed ≡ w.printed
opens_printed events number [] w = refl
opens_printed events number (printed.Answer a ∷ more) w = opens_printed events number more (open_told number (told_by events a) w) ∙ told_printed (told_by events a)
  where
    slot_printed : (slot : ℕ) (view : List ℕ) (b : Option Branch) → (open_slot number slot view b w).printed ≡ w.printed
    slot_printed slot view (Some b) = refl
    slot_printed slot view None = refl

    told_printed : (t : Option (ℕ × List ℕ)) → (open_told number t w).printed ≡ w.printed
    told_printed None = refl
    told_printed (Some (slot, view)) = slot_printed slot view (w.slots slot)
opens_printed events number (printed.Change event peer taken ∷ more) w = opens_printed events number more w

-- ---- which slots open

-- what a reply says opens the slot, if it is this slot and it was not open
told_opens : (number slot : ℕ) (t : Option (ℕ × List ℕ)) (w : Roots) → or_else (opened_at (w.slots slot)) (or_later number (view_at slot t) None) ≡ opened_at ((open_told number t w).slots slot)
told_opens number slot None w = or_none (opened_at (w.slots slot))
told_opens number slot (Some (other, view)) w = by (other == slot) refl
  where
    opening : Opening
    opening = record { event = number; view = view }

    fresh : Branch
    fresh = record { opening = opening; events = [] }

    -- the slot itself
    own : (b : Option Branch) → w.slots slot ≡ b → or_else (opened_at (w.slots slot)) (Some opening) ≡ opened_at ((open_slot number slot view b w).slots slot)
    own (Some b) is = ap (λ (x : Option Branch). or_else (opened_at x) (Some opening)) is ∙ sym (ap opened_at is)
    own None is =
        let here : (slot == slot) ≡ true = eq-eqb slot slot refl in
        ap (λ (x : Option Branch). or_else (opened_at x) (Some opening)) is ∙ sym (ap (λ (b : Bool). opened_at (if b then Some fresh else w.slots slot)) here)

    -- another one
    apart : (b : Option Branch) → (other == slot) ≡ false → opened_at ((open_slot number other view b w).slots slot) ≡ opened_at (w.slots slot)
    apart (Some b) e = refl
    apart None e = ap (λ (c : Bool). opened_at (if c then Some fresh else w.slots slot)) e

    by : (b : Bool) → (other == slot) ≡ b → or_else (opened_at (w.slots slot)) (or_later number (if other == slot then Some view else None) None) ≡ opened_at ((open_slot number other view (w.slots other) w).slots slot)
    by true e =
        let same : other ≡ slot = eqb-true other slot e in
        let At : ℕ → Type 0 = λ k. or_else (opened_at (w.slots slot)) (Some opening) ≡ opened_at ((open_slot number k view (w.slots k) w).slots slot) in
        ap (λ (b : Bool). or_else (opened_at (w.slots slot)) (or_later number (if b then Some view else None) None)) e ∙ subst At (sym same) (own (w.slots slot) refl)
    by false e =
        ap (λ (b : Bool). or_else (opened_at (w.slots slot)) (or_later number (if b then Some view else None) None)) e ∙ or_none (opened_at (w.slots slot)) ∙ sym (apart (w.slots other) e)

-- so the answers of one event open what they open behind those before
opens_lines : (events : List RootEvent) (slot number : ℕ) (lines : List Printed) (before : List Answer) (w : Roots) → opening_in events slot before ≡ opened_at (w.slots slot)
    → opening_in events slot (before ++ answers_in (map (numbered (λ n. number)) lines)) ≡ opened_at ((open_lines events number lines w).slots slot)
opens_lines events slot number [] before w h = ap (opening_in events slot) (append-nil before) ∙ h
opens_lines events slot number (printed.Answer a ∷ more) before w h =
    let given : Answer = numbered_answer (λ n. number) a in
    let rest : List Answer = answers_in (map (numbered (λ n. number)) more) in
    ap (opening_in events slot) (sym (append_assoc before (given ∷ []) rest))
    ∙ opens_lines events slot number more (before ++ given ∷ []) (open_told number (told_by events a) w)
    (opening_append events slot before (given ∷ []) ∙ ap (λ (o : Option Opening). or_else o (opening_in events slot (given ∷ []))) h ∙ told_opens number slot (told_by events a) w)
opens_lines events slot number (printed.Change event peer taken ∷ more) before w h = opens_lines events slot number more before w h

-- a branch that is there now was there, or it opened in this event
opens_branches : (events : List RootEvent) (slot number : ℕ) (lines : List Printed) (w : Roots) (b : Branch) → (open_lines events number lines w).slots slot ≡ Some b
    → (w.slots slot ≡ Some b) ⊎ ((b.opening.event ≡ number) × (b.events ≡ []))
opens_branches events slot number [] w b is = inl is
opens_branches events slot number (printed.Answer a ∷ more) w b is = choose (opens_branches events slot number more (open_told number (told_by events a) w) b is)
  where
    at_slot : (other : ℕ) (view : List ℕ) (o : Option Branch) → (open_slot number other view o w).slots slot ≡ Some b → (w.slots slot ≡ Some b) ⊎ ((b.opening.event ≡ number) × (b.events ≡ []))
    at_slot other view (Some x) h = inl h
    at_slot other view None h = pick (other == slot) h
      where
        pick : (c : Bool) → (if c then Some (record { opening = record { event = number; view = view }; events = [] }) else w.slots slot) ≡ Some b → (w.slots slot ≡ Some b) ⊎ ((b.opening.event ≡ number) × (b.events ≡ []))
        pick true k =
            let same : record { opening = record { event = number; view = view }; events = [] } ≡ b = cc k in
            inr (sym (ap (λ (x : Branch). x.opening.event) same), sym (ap (λ (x : Branch). x.events) same))
        pick false k = inl k

    told : (t : Option (ℕ × List ℕ)) → (open_told number t w).slots slot ≡ Some b → (w.slots slot ≡ Some b) ⊎ ((b.opening.event ≡ number) × (b.events ≡ []))
    told None h = inl h
    told (Some (other, view)) h = at_slot other view (w.slots other) h

    choose : ((open_told number (told_by events a) w).slots slot ≡ Some b) ⊎ ((b.opening.event ≡ number) × (b.events ≡ [])) → (w.slots slot ≡ Some b) ⊎ ((b.opening.event ≡ number) × (b.events ≡ []))
    choose (inl h) = told (told_by events a) h
    choose (inr h) = inr h
opens_branches events slot number (printed.Change event peer taken ∷ more) w b is = opens_branches events slot number more w b is

module _ (worlds : Worlds) (s : RootScript) (growing : GrowByLine worlds) (bound : length s.events < 2 ^ 32) where
  -- the answers of the root to the first events
  abbrev root_told : List RootEvent → List Answer
  root_told done = answers_in (told_behind worlds s.peers s.view [] (lines_from 1 Root done))

  -- after these lines the events are those of the ensembles, and the slots are open that the answers say are
  record Holds (done : List RootEvent) (w : Roots) : Type 0 where
    root : w.root ≡ events_of (lines_from 1 Root done)
    opens : (slot : ℕ) → opening_in s.events slot (root_told done) ≡ opened_at (w.slots slot)
    branches : (slot : ℕ) (b : Branch) → w.slots slot ≡ Some b
        → (b.opening.event ≤ length done) × (b.events ≡ events_of (lines_from (b.opening.event + 1) (Slot slot) (drop b.opening.event done)))

  first_holds : Holds [] (record { root = []; slots = λ slot. None; opened = []; printed = [] })
  first_holds = record { root = refl; opens = λ slot. refl; branches = λ slot b is. cc is }

  -- an event is one line more of its ensemble
  more_lines : (n : ℕ) (e : Ensemble) (done : List RootEvent) (x : RootEvent) → same_ensemble (ensemble_of x) e ≡ true
      → lines_from n e (done ++ x ∷ []) ≡ lines_from n e done ++ record { number = n + length done; event = own_event x } ∷ []
  more_lines n e done x same = lines_append n e done (x ∷ []) ∙ ap (λ (l : List Line). lines_from n e done ++ l) (line_here (n + length done) e x [] same)

  -- and none of another
  same_lines : (n : ℕ) (e : Ensemble) (done : List RootEvent) (x : RootEvent) → same_ensemble (ensemble_of x) e ≡ false → lines_from n e (done ++ x ∷ []) ≡ lines_from n e done
  same_lines n e done x other = lines_append n e done (x ∷ []) ∙ ap (λ (l : List Line). lines_from n e done ++ l) (line_elsewhere (n + length done) e x [] other) ∙ append-nil (lines_from n e done)

  more_events : (n : ℕ) (e : Ensemble) (done : List RootEvent) (x : RootEvent) → same_ensemble (ensemble_of x) e ≡ true
      → events_of (lines_from n e (done ++ x ∷ [])) ≡ events_of (lines_from n e done) ++ own_event x ∷ []
  more_events n e done x same =
      ap events_of (more_lines n e done x same) ∙ map-append (λ (l : Line). l.event) (lines_from n e done) (record { number = n + length done; event = own_event x } ∷ [])

  -- the lines of a slot behind its opening, with one event more
  behind_more : (k : ℕ) (slot : ℕ) (done : List RootEvent) (x : RootEvent) → k ≤ length done → same_ensemble (ensemble_of x) (Slot slot) ≡ true
      → events_of (lines_from (k + 1) (Slot slot) (drop k (done ++ x ∷ []))) ≡ events_of (lines_from (k + 1) (Slot slot) (drop k done)) ++ own_event x ∷ []
  behind_more k slot done x few same = ap (λ (d : List RootEvent). events_of (lines_from (k + 1) (Slot slot) d)) (drop_append k done (x ∷ []) few) ∙ more_events (k + 1) (Slot slot) (drop k done) x same

  behind_same : (k : ℕ) (slot : ℕ) (done : List RootEvent) (x : RootEvent) → k ≤ length done → same_ensemble (ensemble_of x) (Slot slot) ≡ false
      → events_of (lines_from (k + 1) (Slot slot) (drop k (done ++ x ∷ []))) ≡ events_of (lines_from (k + 1) (Slot slot) (drop k done))
  behind_same k slot done x few other = ap (λ (d : List RootEvent). events_of (lines_from (k + 1) (Slot slot) d)) (drop_append k done (x ∷ []) few) ∙ ap events_of (same_lines (k + 1) (Slot slot) (drop k done) x other)

  -- ---- an event of the root

  root_holds : (done : List RootEvent) (x : RootEvent) (w : Roots) → ensemble_of x ≡ Root → Holds done w → Holds (done ++ x ∷ []) (in_root worlds s (length done + 1) (own_event x) w)
  root_holds done x w is h = record { root = root; opens = opens; branches = branches }
    where
      same : same_ensemble (ensemble_of x) Root ≡ true
      same = ap (λ (e : Ensemble). same_ensemble e Root) is

      lines : List Printed
      lines = printed_next worlds s.peers s.view w.root (own_event x)

      mid : Roots
      mid = record w { root = w.root ++ own_event x ∷ []; printed = w.printed ++ said (length done + 1) Root lines }

      root : (open_lines s.events (length done + 1) lines mid).root ≡ events_of (lines_from 1 Root (done ++ x ∷ []))
      root = opens_root s.events (length done + 1) lines mid ∙ ap (λ (l : List ScheduleEvent). l ++ own_event x ∷ []) h.root ∙ sym (more_events 1 Root done x same)

      -- what the root prints now stands behind what it printed before
      grown : root_told (done ++ x ∷ []) ≡ root_told done ++ answers_in (map (numbered (λ n. length done + 1)) lines)
      grown =
          let line : Line = record { number = 1 + length done; event = own_event x } in
          let number : 1 + length done ≡ length done + 1 = omega arith in
          let before : List ScheduleEvent = events_of (lines_from 1 Root done) in
          let last : List Printed = map (numbered (λ n. 1 + length done)) (printed_next worlds s.peers s.view before (own_event x)) in
          ap (λ (ls : List Line). answers_in (told_behind worlds s.peers s.view [] ls)) (more_lines 1 Root done x same)
          ∙ ap answers_in (told_append worlds s.peers s.view [] (lines_from 1 Root done) (line ∷ []))
          ∙ answers_append (told_behind worlds s.peers s.view [] (lines_from 1 Root done)) (told_behind worlds s.peers s.view before (line ∷ []))
          ∙ ap (λ (ps : List Printed). root_told done ++ answers_in ps) (append-nil last)
          ∙ ap (λ (k : ℕ). root_told done ++ answers_in (map (numbered (λ n. k)) (printed_next worlds s.peers s.view before (own_event x)))) number
          ∙ ap (λ (d : List ScheduleEvent). root_told done ++ answers_in (map (numbered (λ n. length done + 1)) (printed_next worlds s.peers s.view d (own_event x)))) (sym h.root)

      opens : (slot : ℕ) → opening_in s.events slot (root_told (done ++ x ∷ [])) ≡ opened_at ((open_lines s.events (length done + 1) lines mid).slots slot)
      opens slot = ap (opening_in s.events slot) grown ∙ opens_lines s.events slot (length done + 1) lines (root_told done) mid (h.opens slot)

      branches : (slot : ℕ) (b : Branch) → (open_lines s.events (length done + 1) lines mid).slots slot ≡ Some b
          → (b.opening.event ≤ length (done ++ x ∷ [])) × (b.events ≡ events_of (lines_from (b.opening.event + 1) (Slot slot) (drop b.opening.event (done ++ x ∷ []))))
      branches slot b there = choose (opens_branches s.events slot (length done + 1) lines mid b there)
        where
          size : length (done ++ x ∷ []) ≡ length done + 1
          size = length-append done (x ∷ [])

          choose : (w.slots slot ≡ Some b) ⊎ ((b.opening.event ≡ length done + 1) × (b.events ≡ []))
              → (b.opening.event ≤ length (done ++ x ∷ [])) × (b.events ≡ events_of (lines_from (b.opening.event + 1) (Slot slot) (drop b.opening.event (done ++ x ∷ []))))
          choose (inl was) =
              let old = h.branches slot b was in
              let other : same_ensemble (ensemble_of x) (Slot slot) ≡ false = ap (λ (e : Ensemble). same_ensemble e (Slot slot)) is in
              (omega (arith, old.0, size), old.1 ∙ sym (behind_same b.opening.event slot done x old.0 other))
          choose (inr now) =
              let none : drop b.opening.event (done ++ x ∷ []) ≡ [] = drop_all b.opening.event (done ++ x ∷ []) (now.0 ∙ sym size) in
              (omega (arith, now.0, size), now.1 ∙ sym (ap (λ (d : List RootEvent). events_of (lines_from (b.opening.event + 1) (Slot slot) d)) none))

  -- ---- an event of a slot

  slot_holds : (done : List RootEvent) (x : RootEvent) (w : Roots) (slot : ℕ) → ensemble_of x ≡ Slot slot → Holds done w → Holds (done ++ x ∷ []) (in_slot worlds s (length done + 1) slot (own_event x) (w.slots slot) w)
  slot_holds done x w slot is h = by (w.slots slot) refl
    where
      size : length (done ++ x ∷ []) ≡ length done + 1
      size = length-append done (x ∷ [])

      elsewhere : same_ensemble (ensemble_of x) Root ≡ false
      elsewhere = ap (λ (e : Ensemble). same_ensemble e Root) is

      root : w.root ≡ events_of (lines_from 1 Root (done ++ x ∷ []))
      root = h.root ∙ sym (ap events_of (same_lines 1 Root done x elsewhere))

      opens : (t : ℕ) → opening_in s.events t (root_told (done ++ x ∷ [])) ≡ opened_at (w.slots t)
      opens t = ap (λ (ls : List Line). opening_in s.events t (answers_in (told_behind worlds s.peers s.view [] ls))) (same_lines 1 Root done x elsewhere) ∙ h.opens t

      -- the branch of another slot stays
      stays : (t : ℕ) (b : Branch) → (slot == t) ≡ false → w.slots t ≡ Some b
          → (b.opening.event ≤ length (done ++ x ∷ [])) × (b.events ≡ events_of (lines_from (b.opening.event + 1) (Slot t) (drop b.opening.event (done ++ x ∷ []))))
      stays t b other there =
          let old = h.branches t b there in
          let apart : same_ensemble (ensemble_of x) (Slot t) ≡ false = ap (λ (e : Ensemble). same_ensemble e (Slot t)) is ∙ other in
          (omega (arith, old.0, size), old.1 ∙ sym (behind_same b.opening.event t done x old.0 apart))

      by : (o : Option Branch) → w.slots slot ≡ o → Holds (done ++ x ∷ []) (in_slot worlds s (length done + 1) slot (own_event x) o w)
      by None none = record { root = root; opens = opens; branches = λ t b there. kept t b there (slot == t) refl }
        where
          kept : (t : ℕ) (b : Branch) → w.slots t ≡ Some b → (c : Bool) → (slot == t) ≡ c
              → (b.opening.event ≤ length (done ++ x ∷ [])) × (b.events ≡ events_of (lines_from (b.opening.event + 1) (Slot t) (drop b.opening.event (done ++ x ∷ []))))
          kept t b there true e =
              let shut : w.slots t ≡ None = ap w.slots (sym (eqb-true slot t e)) ∙ none in
              absurd (cc (shut, there))
          kept t b there false e = stays t b e there
      by (Some old) shows = record { root = root; opens = λ t. opens t ∙ sym (kept_opening t (slot == t) refl); branches = λ t b there. branch t b (slot == t) refl there }
        where
          grown : Branch
          grown = record old { events = old.events ++ own_event x ∷ [] }

          kept_opening : (t : ℕ) (c : Bool) → (slot == t) ≡ c → opened_at (if c then Some grown else w.slots t) ≡ opened_at (w.slots t)
          kept_opening t true e = sym (ap opened_at (ap w.slots (sym (eqb-true slot t e)) ∙ shows))
          kept_opening t false e = refl

          branch : (t : ℕ) (b : Branch) (c : Bool) → (slot == t) ≡ c → (if c then Some grown else w.slots t) ≡ Some b
              → (b.opening.event ≤ length (done ++ x ∷ [])) × (b.events ≡ events_of (lines_from (b.opening.event + 1) (Slot t) (drop b.opening.event (done ++ x ∷ []))))
          branch t b false e there = stays t b e there
          branch t b true e there =
              let same : grown ≡ b = cc there in
              let slots : slot ≡ t = eqb-true slot t e in
              let was = h.branches slot old shows in
              let here : same_ensemble (ensemble_of x) (Slot slot) ≡ true = ap (λ (k : Ensemble). same_ensemble k (Slot slot)) is ∙ eq-eqb slot slot refl in
              let Is : ℕ → Branch → Type 0 = λ u y. (y.opening.event ≤ length (done ++ x ∷ [])) × (y.events ≡ events_of (lines_from (y.opening.event + 1) (Slot u) (drop y.opening.event (done ++ x ∷ [])))) in
              let mine : Is slot grown = (omega (arith, was.0, size), ap (λ (l : List ScheduleEvent). l ++ own_event x ∷ []) was.1 ∙ sym (behind_more old.opening.event slot done x was.0 here)) in
              subst (λ (u : ℕ). Is u b) slots (subst (λ (y : Branch). Is slot y) same mine)

  few_lines : (n : ℕ) (e : Ensemble) (events : List RootEvent) → length events ≤ length s.events → length (lines_from n e events) < 2 ^ 32
  few_lines n e events less = omega (arith, lines_few n e events, bound)

  -- ---- the openings of the whole run

  root_opens : (slot : ℕ) → opening_of worlds s (Slot slot) ≡ opening_in s.events slot (root_told s.events)
  root_opens slot =
      let lines : List Line = root_lines s in
      let f : ℕ → ℕ = number_of lines in
      let own : List Printed = (worlds s.peers s.view (events_of lines)).printed in
      ap (opening_in s.events slot) (sym (answers_told f own)) ∙ ap (λ (ps : List Printed). opening_in s.events slot (answers_in ps)) (told_is worlds s.peers s.view growing lines (few_lines 1 Root s.events (omega arith)))

  -- they are those of the first events, and behind them those that later answers make
  abbrev later_told : List RootEvent → List RootEvent → List Answer
  later_told done rest = answers_in (told_behind worlds s.peers s.view (events_of (lines_from 1 Root done)) (lines_from (1 + length done) Root rest))

  split_opens : (done rest : List RootEvent) (w : Roots) (slot : ℕ) → s.events ≡ done ++ rest → Holds done w → opening_of worlds s (Slot slot) ≡ or_else (opened_at (w.slots slot)) (opening_in s.events slot (later_told done rest))
  split_opens done rest w slot are h =
      root_opens slot ∙ ap (λ (d : List RootEvent). opening_in s.events slot (root_told d)) are
      ∙ ap (λ (ls : List Line). opening_in s.events slot (answers_in (told_behind worlds s.peers s.view [] ls))) (lines_append 1 Root done rest)
      ∙ ap (λ (ps : List Printed). opening_in s.events slot (answers_in ps)) (told_append worlds s.peers s.view [] (lines_from 1 Root done) (lines_from (1 + length done) Root rest))
      ∙ ap (opening_in s.events slot) (answers_append (told_behind worlds s.peers s.view [] (lines_from 1 Root done)) (told_behind worlds s.peers s.view (events_of (lines_from 1 Root done)) (lines_from (1 + length done) Root rest)))
      ∙ opening_append s.events slot (root_told done) (later_told done rest)
      ∙ ap (λ (o : Option Opening). or_else o (opening_in s.events slot (later_told done rest))) (h.opens slot)

  later_opens : (done rest : List RootEvent) (slot : ℕ) (o : Opening) → opening_in s.events slot (later_told done rest) ≡ Some o → length done + 1 ≤ o.event
  later_opens done rest slot o is =
      opening_late s.events slot (length done + 1) (later_told done rest) o (λ a there.
      told_late worlds s.peers s.view (length done + 1) (events_of (lines_from 1 Root done)) (lines_from (1 + length done) Root rest) a (lines_from_on (length done + 1) (1 + length done) Root rest (omega arith)) there) is

  -- ---- what is printed in one event

  lines_split : (n : ℕ) (e : Ensemble) (prefix : List RootEvent) (x : RootEvent) (rest : List RootEvent) → same_ensemble (ensemble_of x) e ≡ true
      → lines_from n e (prefix ++ x ∷ rest) ≡ lines_from n e prefix ++ record { number = n + length prefix; event = own_event x } ∷ lines_from (n + length prefix + 1) e rest
  lines_split n e prefix x rest same = lines_append n e prefix (x ∷ rest) ∙ ap (λ (l : List Line). lines_from n e prefix ++ l) (line_here (n + length prefix) e x rest same)

  -- an ensemble prints in an event of its own what this event makes it print
  told_at : (n : ℕ) (e : Ensemble) (view : List ℕ) (prefix : List RootEvent) (x : RootEvent) (rest : List RootEvent) (m : ℕ) → same_ensemble (ensemble_of x) e ≡ true → n + length prefix ≡ m → length (prefix ++ x ∷ rest) ≤ length s.events
      → filter (is_at m) (told_of (lines_from n e (prefix ++ x ∷ rest)) (worlds s.peers view (events_of (lines_from n e (prefix ++ x ∷ rest))))) ≡ map (numbered (λ k. m)) (printed_next worlds s.peers view (events_of (lines_from n e prefix)) (own_event x))
  told_at n e view prefix x rest m same at less =
      ap (filter (is_at m)) (told_is worlds s.peers view growing (lines_from n e (prefix ++ x ∷ rest)) (few_lines n e (prefix ++ x ∷ rest) less))
      ∙ ap (λ (ls : List Line). filter (is_at m) (told_behind worlds s.peers view [] ls)) (lines_split n e prefix x rest same)
      ∙ told_one worlds s.peers view m [] (lines_from n e prefix) (record { number = n + length prefix; event = own_event x }) (lines_from (n + length prefix + 1) e rest)
      (without_below m n e prefix (omega (arith, at))) (without_above m (n + length prefix + 1) e rest (omega (arith, at))) at

  no_refusal : (m : ℕ) (event : ScheduleEvent) → MayFollowAt event → refusal m event ≡ []
  no_refusal m (schedule.Call peer id key command) h = absurd h
  no_refusal m (schedule.Upgrade peer) h = absurd h
  no_refusal m schedule.Deepen h = absurd h
  no_refusal m _ h = refl

  outside_root : (m : ℕ) (x : RootEvent) → ensemble_of x ≡ Root → outside worlds s m x ≡ []
  outside_root m (At ensemble event) is = refl
  outside_root m (Open peer id slot view) is = refl
  outside_root m (Look peer id slot) is = refl
  outside_root m (Route peer id key command) is = absurd (cc is)

  same_slot : (m n : ℕ) → ◌≡◌ {A = Ensemble} (Slot m) (Slot n) → m ≡ n
  same_slot m n is = cc is

  outside_shut : (m slot : ℕ) (x : RootEvent) → ensemble_of x ≡ Slot slot → MayStand s.peers x → opens_before m (opening_of worlds s (Slot slot)) ≡ false → outside worlds s m x ≡ refusal m (own_event x)
  outside_shut m slot (At ensemble event) is stands shut = sym (no_refusal m event stands.1)
  outside_shut m slot (Open peer id t view) is stands shut = absurd (cc is)
  outside_shut m slot (Look peer id t) is stands shut = absurd (cc is)
  outside_shut m slot (Route peer id key command) is stands shut =
      let closed : opens_before m (opening_of worlds s (Slot (slot_of key))) ≡ false = ap (λ (k : ℕ). opens_before m (opening_of worlds s (Slot k))) (same_slot (slot_of key) slot is) ∙ shut in
      at (opens_before m (opening_of worlds s (Slot (slot_of key)))) closed
    where
      at : (b : Bool) → b ≡ false → unrouted m id b ≡ refusal m (schedule.Call peer id key command)
      at true e = absurd cc
      at false e = refl

  outside_open : (m slot : ℕ) (x : RootEvent) → ensemble_of x ≡ Slot slot → opens_before m (opening_of worlds s (Slot slot)) ≡ true → outside worlds s m x ≡ []
  outside_open m slot (At ensemble event) is shows = refl
  outside_open m slot (Open peer id t view) is shows = refl
  outside_open m slot (Look peer id t) is shows = refl
  outside_open m slot (Route peer id key command) is shows =
      let opened : opens_before m (opening_of worlds s (Slot (slot_of key))) ≡ true = ap (λ (k : ℕ). opens_before m (opening_of worlds s (Slot k))) (same_slot (slot_of key) slot is) ∙ shows in
      at (opens_before m (opening_of worlds s (Slot (slot_of key)))) opened
    where
      at : (b : Bool) → b ≡ true → unrouted m id b ≡ []
      at true e = refl
      at false e = absurd cc

  -- the lines of an ensemble with this opening
  abbrev own_printed : Ensemble → Option Opening → List Printed
  own_printed e o = told_of (lines_with s e o) (story_with worlds s e o)

  root_printed : (done : List RootEvent) (x : RootEvent) (rest : List RootEvent) (w : Roots) → s.events ≡ done ++ x ∷ rest → ensemble_of x ≡ Root → Holds done w
      → printed_at worlds s (length done + 1) x ≡ said (length done + 1) Root (printed_next worlds s.peers s.view w.root (own_event x))
  root_printed done x rest w are is h =
      let m : ℕ = length done + 1 in
      let same : same_ensemble (ensemble_of x) Root ≡ true = ap (λ (e : Ensemble). same_ensemble e Root) is in
      let number : 1 + length done ≡ m = omega arith in
      let lines : List ScheduleEvent → List Printed = λ d. map (numbered (λ k. m)) (printed_next worlds s.peers s.view d (own_event x)) in
      ap (λ (e : Ensemble). map (by e) (filter (is_at m) (ensemble_printed worlds s e) ++ outside worlds s m x)) is
      ∙ ap (λ (ps : List Printed). map (by Root) (filter (is_at m) (ensemble_printed worlds s Root) ++ ps)) (outside_root m x is)
      ∙ ap (map (by Root)) (append-nil (filter (is_at m) (ensemble_printed worlds s Root)))
      ∙ ap (λ (d : List RootEvent). map (by Root) (filter (is_at m) (told_of (lines_from 1 Root d) (worlds s.peers s.view (events_of (lines_from 1 Root d)))))) are
      ∙ ap (map (by Root)) (told_at 1 Root s.view done x rest m same number (omega (arith, ap (λ (d : List RootEvent). length d) are))) ∙ ap (λ (d : List ScheduleEvent). map (by Root) (lines d)) (sym h.root)

  open_printed : (done : List RootEvent) (x : RootEvent) (rest : List RootEvent) (w : Roots) (slot : ℕ) (b : Branch) → s.events ≡ done ++ x ∷ rest → ensemble_of x ≡ Slot slot → Holds done w → w.slots slot ≡ Some b
      → printed_at worlds s (length done + 1) x ≡ said (length done + 1) (Slot slot) (printed_next worlds s.peers b.opening.view b.events (own_event x))
  open_printed done x rest w slot b are is h shows =
      ap (λ (e : Ensemble). map (by e) (filter (is_at m) (ensemble_printed worlds s e) ++ outside worlds s m x)) is
      ∙ ap (λ (ps : List Printed). map (by (Slot slot)) (filter (is_at m) (ensemble_printed worlds s (Slot slot)) ++ ps)) (outside_open m slot x is (ap (opens_before m) opened ∙ lt-ltb b.opening.event m (omega (arith, was.0))))
      ∙ ap (map (by (Slot slot))) (append-nil (filter (is_at m) (ensemble_printed worlds s (Slot slot)))) ∙ ap (λ (o : Option Opening). map (by (Slot slot)) (filter (is_at m) (own_printed (Slot slot) o))) opened
      ∙ ap (λ (d : List RootEvent). map (by (Slot slot)) (filter (is_at m) (told_of (lines_from (b.opening.event + 1) (Slot slot) d) (worlds s.peers b.opening.view (events_of (lines_from (b.opening.event + 1) (Slot slot) d)))))) behind
      ∙ ap (map (by (Slot slot))) (told_at (b.opening.event + 1) (Slot slot) b.opening.view (drop b.opening.event done) x rest m same number (subst (λ (d : List RootEvent). length d ≤ length s.events) behind (dropped b.opening.event s.events)))
      ∙ ap (λ (d : List ScheduleEvent). map (by (Slot slot)) (map (numbered (λ k. m)) (printed_next worlds s.peers b.opening.view d (own_event x)))) (sym was.1)
    where
      m : ℕ
      m = length done + 1

      was : (b.opening.event ≤ length done) × (b.events ≡ events_of (lines_from (b.opening.event + 1) (Slot slot) (drop b.opening.event done)))
      was = h.branches slot b shows

      same : same_ensemble (ensemble_of x) (Slot slot) ≡ true
      same = ap (λ (e : Ensemble). same_ensemble e (Slot slot)) is ∙ eq-eqb slot slot refl

      opened : opening_of worlds s (Slot slot) ≡ Some b.opening
      opened = split_opens done (x ∷ rest) w slot are h ∙ ap (λ (o : Option Branch). or_else (opened_at o) (opening_in s.events slot (later_told done (x ∷ rest)))) shows

      behind : drop b.opening.event s.events ≡ drop b.opening.event done ++ x ∷ rest
      behind = ap (λ (d : List RootEvent). drop b.opening.event d) are ∙ drop_append b.opening.event done (x ∷ rest) was.0

      number : b.opening.event + 1 + length (drop b.opening.event done) ≡ m
      number = omega (arith, length-drop b.opening.event done was.0)

  shut_printed : (done : List RootEvent) (x : RootEvent) (rest : List RootEvent) (w : Roots) (slot : ℕ) → s.events ≡ done ++ x ∷ rest → ensemble_of x ≡ Slot slot → MayStand s.peers x → Holds done w → w.slots slot ≡ None
      → printed_at worlds s (length done + 1) x ≡ map (by (Slot slot)) (refusal (length done + 1) (own_event x))
  shut_printed done x rest w slot are is stands h none =
      ap (λ (e : Ensemble). map (by e) (filter (is_at m) (ensemble_printed worlds s e) ++ outside worlds s m x)) is
      ∙ ap (λ (ps : List Printed). map (by (Slot slot)) (ps ++ outside worlds s m x)) (at (opening_of worlds s (Slot slot)) opened).0
      ∙ ap (map (by (Slot slot))) (outside_shut m slot x is stands (at (opening_of worlds s (Slot slot)) opened).1)
    where
      m : ℕ
      m = length done + 1

      opened : opening_of worlds s (Slot slot) ≡ opening_in s.events slot (later_told done (x ∷ rest))
      opened = split_opens done (x ∷ rest) w slot are h ∙ ap (λ (o : Option Branch). or_else (opened_at o) (opening_in s.events slot (later_told done (x ∷ rest)))) none

      -- the slot opens later, or not at all
      at : (o : Option Opening) → o ≡ opening_in s.events slot (later_told done (x ∷ rest)) → (filter (is_at m) (own_printed (Slot slot) o) ≡ []) × (opens_before m o ≡ false)
      at None e = (refl, refl)
      at (Some o) e =
          let late : m ≤ o.event = later_opens done (x ∷ rest) slot o (sym e) in
          let lines : List Line = lines_from (o.event + 1) (Slot slot) (drop o.event s.events) in (
            ap (filter (is_at m)) (told_is worlds s.peers o.view growing lines (few_lines (o.event + 1) (Slot slot) (drop o.event s.events) (dropped o.event s.events))) ∙ told_none worlds s.peers o.view m [] lines (without_above m (o.event + 1) (Slot slot) (drop o.event s.events) (omega arith)),
            le-ltb o.event m late,
          )

  -- ---- one line after another

  step_holds : (done : List RootEvent) (x : RootEvent) (w : Roots) → Holds done w → Holds (done ++ x ∷ []) (step worlds s (length done + 1) x w)
  step_holds done x w h = by_ensemble (ensemble_of x) refl
    where
      by_ensemble : (e : Ensemble) → ensemble_of x ≡ e → Holds (done ++ x ∷ []) (in_ensemble worlds s (length done + 1) (own_event x) (ensemble_of x) w)
      by_ensemble Root is = subst (λ (e : Ensemble). Holds (done ++ x ∷ []) (in_ensemble worlds s (length done + 1) (own_event x) e w)) (sym is) (root_holds done x w is h)
      by_ensemble (Slot slot) is = subst (λ (e : Ensemble). Holds (done ++ x ∷ []) (in_ensemble worlds s (length done + 1) (own_event x) e w)) (sym is) (slot_holds done x w slot is h)

  step_prints : (done : List RootEvent) (x : RootEvent) (rest : List RootEvent) (w : Roots) → s.events ≡ done ++ x ∷ rest → MayStand s.peers x → Holds done w
      → (step worlds s (length done + 1) x w).printed ≡ w.printed ++ printed_at worlds s (length done + 1) x
  step_prints done x rest w are stands h = by_ensemble (ensemble_of x) refl
    where
      in_branch : (slot : ℕ) → ensemble_of x ≡ Slot slot → (o : Option Branch) → w.slots slot ≡ o → (in_slot worlds s (length done + 1) slot (own_event x) o w).printed ≡ w.printed ++ printed_at worlds s (length done + 1) x
      in_branch slot is None e = ap (λ (ps : List RootPrinted). w.printed ++ ps) (sym (shut_printed done x rest w slot are is stands h e))
      in_branch slot is (Some b) e = ap (λ (ps : List RootPrinted). w.printed ++ ps) (sym (open_printed done x rest w slot b are is h e))

      by_ensemble : (e : Ensemble) → ensemble_of x ≡ e → (in_ensemble worlds s (length done + 1) (own_event x) (ensemble_of x) w).printed ≡ w.printed ++ printed_at worlds s (length done + 1) x
      by_ensemble Root is =
          let lines : List Printed = printed_next worlds s.peers s.view w.root (own_event x) in
          let mid : Roots = record w { root = w.root ++ own_event x ∷ []; printed = w.printed ++ said (length done + 1) Root lines } in
          ap (λ (e : Ensemble). (in_ensemble worlds s (length done + 1) (own_event x) e w).printed) is ∙ opens_printed s.events (length done + 1) lines mid ∙ ap (λ (ps : List RootPrinted). w.printed ++ ps) (sym (root_printed done x rest w are is h))
      by_ensemble (Slot slot) is = ap (λ (e : Ensemble). (in_ensemble worlds s (length done + 1) (own_event x) e w).printed) is ∙ in_branch slot is (w.slots slot) refl

  goes_on : (done rest : List RootEvent) (w : Roots) → s.events ≡ done ++ rest → AllMayStand s.peers rest → Holds done w
      → ((steps worlds s (length done + 1) rest w).printed ≡ w.printed ++ printed_from worlds s (length done + 1) rest) × Holds s.events (steps worlds s (length done + 1) rest w)
  goes_on done [] w are stand h = (sym (append-nil w.printed), subst (λ (d : List RootEvent). Holds d w) (sym (are ∙ append-nil done)) h)
  goes_on done (x ∷ rest) w are stand h =
      let next : Roots = step worlds s (length done + 1) x w in
      let size : length (done ++ x ∷ []) ≡ length done + 1 = length-append done (x ∷ []) in
      let later = goes_on (done ++ x ∷ []) rest next (are ∙ sym (append_assoc done (x ∷ []) rest)) stand.1 (step_holds done x w h) in
      let Goes : ℕ → Type 0 = λ n. ((steps worlds s (n + 1) rest next).printed ≡ next.printed ++ printed_from worlds s (n + 1) rest) × Holds s.events (steps worlds s (n + 1) rest next) in
      let there = subst Goes size later in (
        there.0 ∙ ap (λ (ps : List RootPrinted). ps ++ printed_from worlds s (length done + 1 + 1) rest) (step_prints done x rest w are stand.0 h)
            ∙ append_assoc w.printed (printed_at worlds s (length done + 1) x) (printed_from worlds s (length done + 1 + 1) rest),
        there.1,
      )

  module _ (script : IsScript s) where
    whole : ((roots_after worlds s).printed ≡ printed_of worlds s) × Holds s.events (roots_after worlds s)
    whole = goes_on [] s.events at_first refl script.events first_holds

    pub run_printed : printed_of worlds s ≡ (roots_after worlds s).printed
    run_printed = sym whole.0

    pub run_root_events : events_of (root_lines s) ≡ (roots_after worlds s).root
    run_root_events = sym whole.1.root

    pub run_openings : (slot : ℕ) → opening_of worlds s (Slot slot) ≡ opened_at ((roots_after worlds s).slots slot)
    run_openings slot = root_opens slot ∙ whole.1.opens slot

    pub run_slot_events : (slot : ℕ) (b : Branch) → (roots_after worlds s).slots slot ≡ Some b → events_of (lines_of worlds s (Slot slot)) ≡ b.events
    run_slot_events slot b shows = ap (λ (o : Option Opening). events_of (lines_with s (Slot slot) o)) (run_openings slot ∙ ap opened_at shows) ∙ sym (whole.1.branches slot b shows).1
