-- The worlds in memory follow the run of the script.
use Rattle.std.proofs.Common.{◌≡◌, ℕ, ◌==◌, Bool, true, false, cond, if◌then◌else◌, List, [], ◌∷◌, ◌++◌, length, map, drop, Option, Some, None, refl, sym, ap, subst, ◌∙◌, append-nil, append_assoc, arith, string_bytes}
use Rattle.std.specs.BTreeMap.{get, is_at}
use Rattle.std.specs.List.{flat_map}
use Rattle.std.specs.Ordering.{nat_cmp}
use Rattle.std.proofs.lemmas.Grind.{flat_map-append}
use Rattle.std.proofs.lemmas.List.{map-append}
use Rattle.world_spec.specs.Held.{Account, HasHashed}
use Rattle.register_model.specs.declared.printed.Printed.{Printed}
use Rattle.register_model.specs.declared.printed.Printed.TheVariants as printed
use Rattle.root_laws.specs.Openings.{Opening, told_by}
use Rattle.root_laws.specs.Runs.{RootPrinted, by, numbered}
use Rattle.root_laws.specs.Steps.{Branch, Roots, open_lines, open_slot, open_told, printed_next, put, said}
use Rattle.root_laws.specs.Text.{printed_line}
use Rattle.scripts.specs.declared.event.RootEvent.{RootEvent}
use Rattle.scripts.specs.declared.script.RootScript.{RootScript}
use Rattle.scripts.specs.declared.slots.Ensemble.{Ensemble}
use Rattle.schedule_text.specs.declared.event.ScheduleEvent.{ScheduleEvent}
use Rattle.replay.specs.WorldModel.{IsCutOff, MayRefuse, run_of, WorldError, BookFull, Clash, Memory, MessageLimit, World}
use Rattle.replay.proofs.Stops.{after_strings}
use Rattle.world_spec.proofs.Calming.{run_to_last}
use Rattle.world_spec.specs.Lines.{applied}
use Rattle.world_spec.specs.Messages.{IsPastMessages, IsWithinMessages}
use Rattle.world_spec.specs.Runs.{Run, in_front, opening_run, unhashed}
use Rattle.root.specs.Ends.{as_opening}
use Rattle.root.specs.Hashed.{opened_hashed, opened_since}
use Rattle.root.specs.Standing.{RunsSlot, Stands, line_at, open_line, told_in}
use Rattle.root.specs.Worlds.{newest, world, worlds}
use Rattle.root.specs.declared.worlds.RootWorlds.{RootWorlds}
use Rattle.root.proofs.Lists.{drop_prefix}
use Rattle.ens_base.proofs.Tests.{at_number}

-- ## One world

-- the run of one event more
pub one_more : (peers : ℕ) (view : List ℕ) (done : List ScheduleEvent) (event : ScheduleEvent) → world peers view (done ++ event ∷ []) ≡ in_front (world peers view done).hashed (applied event (unhashed (world peers view done)))
one_more peers view done event = run_to_last done event (opening_run newest peers view) ∙ after_strings event (world peers view done)

module _ (peers : ℕ) (view : List ℕ) (done : List ScheduleEvent) (event : ScheduleEvent) (now : Run) (is : now ≡ unhashed (world peers view done)) where
  abbrev due : Run
  due = applied event (unhashed (world peers view done))

  next_run : applied event now ≡ due
  next_run = ap (applied event) is

  next_is : unhashed (applied event now) ≡ unhashed (world peers view (done ++ event ∷ []))
  next_is = ap unhashed next_run ∙ sym (ap unhashed (one_more peers view done event))

  next_within : IsWithinMessages (applied event now) → IsWithinMessages (world peers view (done ++ event ∷ []))
  next_within within = subst IsWithinMessages (sym (one_more peers view done event)) (subst IsWithinMessages next_run within)

  next_past : IsPastMessages (applied event now) → IsPastMessages (world peers view (done ++ event ∷ []))
  next_past past = subst IsPastMessages (sym (one_more peers view done event)) (subst IsPastMessages next_run past)

  -- a world that applied one event more
  pub world_next : (next : Run) (first later : Account) → (next ≡ unhashed (applied event now)) × IsWithinMessages (applied event now) × HasHashed (applied event now).hashed first later
      → (next ≡ unhashed (world peers view (done ++ event ∷ []))) × IsWithinMessages (world peers view (done ++ event ∷ [])) × HasHashed due.hashed first later
  world_next next first later h = (h.0 ∙ next_is, next_within h.1, subst (λ (w : Run). HasHashed w.hashed first later) next_run h.2)

  -- one that was refused it
  pub world_refused : (e : WorldError) (first later : Account) → MayRefuse first (applied event now) later e → MayRefuse first (record (world peers view (done ++ event ∷ [])) { hashed = due.hashed }) later e
  world_refused MessageLimit first later past = next_past past
  world_refused Memory first later cut = tt
  world_refused (Clash kept new) first later cut = subst (λ (w : Run). IsCutOff w.hashed first later (Clash kept new)) next_run cut
  world_refused (BookFull bytes) first later cut = subst (λ (w : Run). IsCutOff w.hashed first later (BookFull bytes)) next_run cut

  -- what it prints is what the run prints
  pub world_prints : (next : Run) → next ≡ unhashed (applied event now) → drop (length now.printed) next.printed ≡ printed_next worlds peers view done event
  world_prints next to = ap (λ (w : Run). drop (length now.printed) w.printed) (to ∙ next_is) ∙ ap (λ (w : Run). drop (length w.printed) (world peers view (done ++ event ∷ [])).printed) is

-- ## Text

pub map_text : {A B : Type 0} (f : B → List ℕ) (g : A → B) (xs : List A) → flat_map f (map g xs) ≡ flat_map (λ x. f (g x)) xs
map_text f g [] = refl
map_text f g (x ∷ xs) = ap (λ (l : List ℕ). f (g x) ++ l) (map_text f g xs)

pub said_text : (number : ℕ) (ensemble : Ensemble) (lines : List Printed) → flat_map printed_line (said number ensemble lines) ≡ flat_map (line_at number ensemble) lines
said_text number ensemble lines = map_text printed_line (by ensemble) (map (numbered (λ n. number)) lines) ∙ map_text (λ p. printed_line (by ensemble p)) (numbered (λ n. number)) lines

-- the text with more lines
pub text_more : (old new more : List ℕ) (before after : List RootPrinted) → old ≡ flat_map printed_line before → new ≡ old ++ more → more ≡ flat_map printed_line after → new ≡ flat_map printed_line (before ++ after)
text_more old new more before after was is says = is ∙ ap (λ (t : List ℕ). t ++ more) was ∙ ap (λ (t : List ℕ). flat_map printed_line before ++ t) says ∙ sym (flat_map-append printed_line before after)

-- ## Slots that open

-- from one moment to another these slots opened
abbrev pub Opens : Roots → Roots → Type 0
Opens r next = (more : List (ℕ × Opening)) × (next.opened ≡ r.opened ++ more)

pub opens_none : (r : Roots) → Opens r r
opens_none r = ([], sym (append-nil r.opened))

pub opens_both : (a b c : Roots) → Opens a b → Opens b c → Opens a c
opens_both a b c first last = (first.0 ++ last.0, last.1 ∙ ap (λ (l : List (ℕ × Opening)). l ++ last.0) first.1 ∙ append_assoc a.opened first.0 last.0)

pub since_is : (r next : Roots) (o : Opens r next) → opened_since r next ≡ o.0
since_is r next o = ap (drop (length r.opened)) o.1 ∙ drop_prefix r.opened o.0

pub since_none : (r : Roots) → opened_since r r ≡ []
unfolding opens_none
since_none r = since_is r r (opens_none r)

pub since_both : (a b c : Roots) → Opens a b → Opens b c → opened_since a c ≡ opened_since a b ++ opened_since b c
unfolding opens_both
since_both a b c first last =
    since_is a c (opens_both a b c first last) ∙ ap (λ (l : List (ℕ × Opening)). l ++ last.0) (sym (since_is a b first)) ∙ ap (λ (l : List (ℕ × Opening)). opened_since a b ++ l) (sym (since_is b c last))

slot_opens : (number slot : ℕ) (view : List ℕ) (b : Option Branch) (r : Roots) → Opens r (open_slot number slot view b r)
slot_opens number slot view (Some b) r = opens_none r
slot_opens number slot view None r = ((slot, record { event = number; view = view }) ∷ [], refl)

told_opens : (number : ℕ) (t : Option (ℕ × List ℕ)) (r : Roots) → Opens r (open_told number t r)
told_opens number None r = opens_none r
told_opens number (Some (slot, view)) r = slot_opens number slot view (r.slots slot) r

pub line_opens : (events : List RootEvent) (number : ℕ) (line : Printed) (r : Roots) → Opens r (open_line events number line r)
line_opens events number line r = told_opens number (told_in events line) r

pub lines_open : (events : List RootEvent) (number : ℕ) (lines : List Printed) (r : Roots) → Opens r (open_lines events number lines r)
lines_open events number [] r = opens_none r
lines_open events number (printed.Answer a ∷ more) r =
    let next : Roots = open_told number (told_by events a) r in
    opens_both r next (open_lines events number more next) (told_opens number (told_by events a) r) (lines_open events number more next)
lines_open events number (printed.Change event peer taken ∷ more) r = lines_open events number more r

-- one line more
pub lines_one : (events : List RootEvent) (number : ℕ) (lines : List Printed) (line : Printed) (r : Roots) → open_lines events number (lines ++ line ∷ []) r ≡ open_line events number line (open_lines events number lines r)
lines_one events number [] (printed.Answer a) r = refl
lines_one events number [] (printed.Change event peer taken) r = refl
lines_one events number (printed.Answer a ∷ more) line r = lines_one events number more line (open_told number (told_by events a) r)
lines_one events number (printed.Change event peer taken ∷ more) line r = lines_one events number more line r

-- more lines
pub lines_both : (events : List RootEvent) (number : ℕ) (first rest : List Printed) (r : Roots) → open_lines events number (first ++ rest) r ≡ open_lines events number rest (open_lines events number first r)
lines_both events number [] rest r = refl
lines_both events number (printed.Answer a ∷ more) rest r = lines_both events number more rest (open_told number (told_by events a) r)
lines_both events number (printed.Change event peer taken ∷ more) rest r = lines_both events number more rest r

-- the strings of slots that opened, and of more
pub hashed_more : (s : RootScript) (a b c : Roots) → Opens a b → Opens b c → opened_hashed s (opened_since a c) ≡ opened_hashed s (opened_since a b) ++ opened_hashed s (opened_since b c)
hashed_more s a b c first last = ap (opened_hashed s) (since_both a b c first last) ∙ flat_map-append (λ (x : ℕ × Opening). (opening_run newest s.peers x.1.view).hashed) (opened_since a b) (opened_since b c)

-- ## A slot opens

-- no slot has a world that is shut
pub shut_slot : (s : RootScript) (b : Option Branch) → RunsSlot s b None → b ≡ None
shut_slot s None h = refl
shut_slot s (Some b) h = absurd h

module _ (s : RootScript) (number slot : ℕ) (view : List ℕ) (r : Roots) (old new : RootWorlds) where
  opening : Opening
  opening = record { event = number; view = view }

  fresh : Branch
  fresh = record { opening = opening; events = [] }

  -- the world of the slot was opened
  pub slot_stands : (w : World) → get nat_cmp old.slots slot ≡ None → run_of w ≡ unhashed (opening_run newest s.peers view)
      → ((q : ℕ) → get nat_cmp new.slots q ≡ cond (is_at (nat_cmp slot) q) (Some w) (get nat_cmp old.slots q)) → new.root ≡ old.root → new.opened.items ≡ old.opened.items ++ (slot, view, number) ∷ [] → string_bytes new.text ≡ string_bytes old.text
      → Stands s r old → Stands s (open_slot number slot view (r.slots slot) r) new
  unfolding fresh opening
  slot_stands w none opens puts same_root more same_text h = subst (λ (b : Option Branch). Stands s (open_slot number slot view b r) new) (sym shut) (record {
    root = ap run_of same_root ∙ h.root;
    within = h.within;
    slots = λ q. by q (slot == q) refl;
    opened = ap (map as_opening) more ∙ map-append as_opening old.opened.items ((slot, view, number) ∷ []) ∙ ap (λ (l : List (ℕ × Opening)). l ++ (slot, opening) ∷ []) h.opened;
    text = same_text ∙ h.text;
  })
    where
      shut : r.slots slot ≡ None
      shut = shut_slot s (r.slots slot) (subst (λ (x : Option World). RunsSlot s (r.slots slot) x) none (h.slots slot))

      by : (q : ℕ) (b : Bool) → (slot == q) ≡ b → RunsSlot s (put slot fresh r.slots q) (get nat_cmp new.slots q)
      by q true e =
          let branch : put slot fresh r.slots q ≡ Some fresh = ap (λ (c : Bool). if c then Some fresh else r.slots q) e in
          let held : get nat_cmp new.slots q ≡ Some w = puts q ∙ ap (λ (c : Bool). cond c (Some w) (get nat_cmp old.slots q)) (at_number slot q ∙ e) in
          subst (λ (x : Option Branch). RunsSlot s x (get nat_cmp new.slots q)) (sym branch) (subst (λ (x : Option World). RunsSlot s (Some fresh) x) (sym held) (opens, omega arith))
      by q false e =
          let branch : put slot fresh r.slots q ≡ r.slots q = ap (λ (c : Bool). if c then Some fresh else r.slots q) e in
          let held : get nat_cmp new.slots q ≡ get nat_cmp old.slots q = puts q ∙ ap (λ (c : Bool). cond c (Some w) (get nat_cmp old.slots q)) (at_number slot q ∙ e) in
          subst (λ (x : Option Branch). RunsSlot s x (get nat_cmp new.slots q)) (sym branch) (subst (λ (x : Option World). RunsSlot s (r.slots q) x) (sym held) (h.slots q))

  -- the strings of a slot that opens
  pub slot_hashed : get nat_cmp old.slots slot ≡ None → Stands s r old → opened_hashed s (opened_since r (open_slot number slot view (r.slots slot) r)) ≡ (opening_run newest s.peers view).hashed
  unfolding opening
  slot_hashed none h =
      let shut : r.slots slot ≡ None = shut_slot s (r.slots slot) (subst (λ (x : Option World). RunsSlot s (r.slots slot) x) none (h.slots slot)) in
      ap (λ (b : Option Branch). opened_hashed s (opened_since r (open_slot number slot view b r))) shut
      ∙ ap (opened_hashed s) (drop_prefix r.opened ((slot, opening) ∷ []))
      ∙ append-nil (opening_run newest s.peers view).hashed
