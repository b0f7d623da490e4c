-- What the calls of a run make of it, from what their parts make.
use Rattle.std.proofs.Common.{◌≡◌, ℕ, List, [], ◌∷◌, ◌++◌, length, map, drop, Option, Some, None, Result, Ok, Err, inl, inr, refl, sym, ap, subst, ◌∙◌, append-nil, string_bytes}
use Rattle.std.specs.Prelude.{IfErr, OnOk}
use Rattle.std.specs.BTreeMap.{get}
use Rattle.std.specs.List.{flat_map}
use Rattle.std.specs.Ordering.{nat_cmp}
use Rattle.std.proofs.lemmas.List.{length-map, length-replicate}
use Rattle.std.proofs.lemmas.Option.{none-some, same_Some}
use Rattle.world_spec.proofs.Taken.{hashed_none}
use Rattle.world_spec.specs.Held.{Account, HasHashed}
use Rattle.register_model.specs.declared.printed.Printed.{Printed}
use Rattle.root_laws.specs.Lines.{ensemble_of, own_event}
use Rattle.root_laws.specs.Openings.{Opening}
use Rattle.root_laws.specs.Runs.{by}
use Rattle.root_laws.proofs.Opened.{run_opened}
use Rattle.root_laws.specs.Steps.{AreOpened, Branch, Roots, in_ensemble, in_root, in_slot, open_lines, open_told, refusal, roots_after, step}
use Rattle.root_laws.specs.Text.{printed_line}
use Rattle.scripts.specs.Spelling.{IsScript}
use Rattle.scripts.specs.declared.event.RootEvent.{RootEvent}
use Rattle.scripts.specs.declared.script.RootScript.{RootScript}
use Rattle.scripts.specs.declared.slots.Ensemble.{Ensemble}
use Rattle.scripts.specs.declared.slots.Ensemble.TheVariants.{Root, Slot}
use Rattle.schedule_text.specs.declared.event.ScheduleEvent.{ScheduleEvent}
use Rattle.replay.specs.WorldModel.{IsCutOff, node_of, run_of, WorldError, Memory, MessageLimit, World}
use Rattle.world_model.specs.Turns.{StopsAmong, turn, turns_of}
use Rattle.world_spec.proofs.Growth.{applied_same, peers_in}
use Rattle.world_spec.specs.Lines.{applied, run_from}
use Rattle.world_spec.specs.Messages.{IsWithinMessages}
use Rattle.world_spec.specs.Runs.{Run, opening_run, unhashed}
use Rattle.root.specs.Ends.{PassesWith, StopsEvent, StopsLine, as_opening}
use Rattle.root.specs.Hashed.{line_hashed, opened_hashed, opened_since, own_hashed, routed_hashed}
use Rattle.root.specs.Standing.{Goes, Stands, line_at, open_line, told_in}
use Rattle.root.specs.Worlds.{branch_next, events_in, newest, world, worlds}
use Rattle.root.specs.declared.worlds.RootWorlds.{RootWorlds}
use Rattle.root.proofs.Printing.{worlds_grow}
use Rattle.root.proofs.Running.{since_none}
use Rattle.root.proofs.Steps.{branch, goes_after, goes_cut, goes_same, goes_within, lines, memory_goes, root_hashed, root_mid, root_prints, root_stands, shut, shut_goes}

-- ## The number of peers

run_size : (events : List ScheduleEvent) (w : Run) → peers_in (run_from events w) ≡ peers_in w
run_size [] w = refl
run_size (event ∷ more) w = run_size more (applied event w) ∙ applied_same event w

world_size : (peers : ℕ) (view : List ℕ) (events : List ScheduleEvent) → peers_in (world peers view events) ≡ peers
world_size peers view events = run_size events (opening_run newest peers view) ∙ length-replicate {A = _} peers _

size_of : (w : World) (peers : ℕ) (view : List ℕ) (events : List ScheduleEvent) → run_of w ≡ unhashed (world peers view events) → length w.peers.items ≡ peers
size_of w peers view events is = sym (length-map w.peers.items node_of) ∙ ap peers_in is ∙ world_size peers view events

pub root_size : (s : RootScript) (r : Roots) (w : RootWorlds) → Stands s r w → length w.root.peers.items ≡ s.peers
root_size s r w h = size_of w.root s.peers s.view r.root h.root

pub slot_size : (s : RootScript) (slot : ℕ) (event : ScheduleEvent) (r : Roots) (old : RootWorlds) (w : World) → Stands s r old → Some w ≡ get nat_cmp old.slots slot → length w.peers.items ≡ s.peers
slot_size s slot event r old w h there =
    let b = branch s 0 slot event r old old h w (sym there) in
    size_of w s.peers b.0.opening.view b.0.events b.2

-- ## Slots

-- no slot is told
pub told_none : (s : RootScript) (number : ℕ) (line : Printed) (r : Roots) (w : RootWorlds) (now : Account) → None ≡ told_in s.events line → Stands s r w → Stands s (open_line s.events number line r) w × HasHashed (opened_hashed s (opened_since r (open_line s.events number line r))) now now
told_none s number line r w now none h =
    let same : open_line s.events number line r ≡ r = ap (λ (t : Option (ℕ × List ℕ)). open_told number t r) (sym none) in (
      subst (λ (x : Roots). Stands s x w) (sym same) h,
      subst (λ (x : Roots). HasHashed (opened_hashed s (opened_since r x)) now now) (sym same) (subst (λ (l : List (ℕ × Opening)). HasHashed (opened_hashed s l) now now) (sym (since_none r)) (hashed_none now)),
    )

-- ## An event of the root

module _ (s : RootScript) (number : ℕ) (event : ScheduleEvent) (r : Roots) (old mid : RootWorlds) (h : Stands s r old) (first middle : Account)
    (reaches : (run_of mid.root ≡ unhashed (applied event (run_of old.root))) × IsWithinMessages (applied event (run_of old.root)) × HasHashed (applied event (run_of old.root)).hashed first middle) where
  -- what it prints
  abbrev shown : List Printed
  shown = drop (length (run_of old.root).printed) (run_of mid.root).printed

  -- it was applied, and then slots opened
  module _ (same_slots : mid.slots ≡ old.slots) (same_opened : mid.opened ≡ old.opened) (same_text : string_bytes mid.text ≡ string_bytes old.text ++ flat_map (line_at number Root) shown) where
    came : Stands s (root_mid s number event r old mid h) mid
    came = root_stands s number event r old mid h first middle reaches same_slots same_opened same_text

    pub root_goes : {T : Type 0} (new : RootWorlds) (now : Account) (result : Result T WorldError) (before : ℕ) → before ≡ length (run_of old.root).printed
        → ((x : Roots) → Stands s x mid → Goes s (open_lines s.events number (drop before (run_of mid.root).printed) x) (opened_hashed s (opened_since x (open_lines s.events number (drop before (run_of mid.root).printed) x))) (Unit {0}) middle now new result)
        → (result ≡ Err MessageLimit → ⊥)
        → Goes s (in_root worlds s number event r) (own_hashed s event (events_in s r Root) ++ opened_hashed s (opened_since r (in_root worlds s number event r))) (PassesWith s r Root event) first now new result
    root_goes new now result before is goes never =
        let here : Roots = root_mid s number event r old mid h in
        let next : Roots = in_root worlds s number event r in
        let more : List (List ℕ) = opened_hashed s (opened_since r next) in
        let says : drop before (run_of mid.root).printed ≡ lines s number event r old mid h = ap (λ (k : ℕ). drop k (run_of mid.root).printed) is ∙ root_prints s number event r old mid h first middle reaches in
        let told : Goes s next more (Unit {0}) middle now new result = subst (λ (l : List Printed). Goes s (open_lines s.events number l here) (opened_hashed s (opened_since here (open_lines s.events number l here))) (Unit {0}) middle now new result) says (goes here came) in
        goes_after s next (PassesWith s r Root event) (own_hashed s event (events_in s r Root)) more first middle now new result (root_hashed s number event r old mid h first middle reaches)
        (goes_within s next (PassesWith s r Root event) (Unit {0}) more middle now new result never told)

    -- the hasher rejected a string of a slot that was to open
    opens_stop : {T : Type 0} (new : RootWorlds) (now : Account) (result : Result T WorldError) → Goes s (in_root worlds s number event r) (opened_hashed s (opened_since r (in_root worlds s number event r))) (Unit {0}) middle now new result → (result ≡ Err MessageLimit → ⊥)
        → IfErr result (λ e. StopsEvent s r (in_root worlds s number event r) Root event first now e)
    opens_stop new now (Ok x) told never = tt
    opens_stop {T = T} new now (Err e) told never =
        inr (record {
          within = λ b is.
              let root : Branch = record { opening = record { event = 0; view = s.view }; events = r.root } in
              subst (λ (x : Branch). IsWithinMessages (branch_next s x event)) (same_Some root b is) came.within;
          mid = middle;
          has = root_hashed s number event r old mid h first middle reaches;
          cut = goes_cut s (in_root worlds s number event r) (Unit {0}) T (opened_hashed s (opened_since r (in_root worlds s number event r))) middle now new e (λ is. never (ap Err is)) told;
        })

    pub root_stops : {T : Type 0} (new : RootWorlds) (now : Account) (result : Result T WorldError) (before : ℕ) → before ≡ length (run_of old.root).printed
        → ((x : Roots) → Stands s x mid → Goes s (open_lines s.events number (drop before (run_of mid.root).printed) x) (opened_hashed s (opened_since x (open_lines s.events number (drop before (run_of mid.root).printed) x))) (Unit {0}) middle now new result)
        → (result ≡ Err MessageLimit → ⊥) → IfErr result (λ e. StopsEvent s r (in_root worlds s number event r) Root event first now e)
    root_stops new now result before is goes never =
        let here : Roots = root_mid s number event r old mid h in
        let says : drop before (run_of mid.root).printed ≡ lines s number event r old mid h = ap (λ (k : ℕ). drop k (run_of mid.root).printed) is ∙ root_prints s number event r old mid h first middle reaches in
        opens_stop new now result (subst (λ (l : List Printed). Goes s (open_lines s.events number l here) (opened_hashed s (opened_since here (open_lines s.events number l here))) (Unit {0}) middle now new result) says (goes here came)) never

-- ## An event that was stopped

module _ (s : RootScript) (event : ScheduleEvent) (r next : Roots) (old : RootWorlds) (h : Stands s r old) (first now : Account) (e : WorldError) where
  pub root_turn : StopsAmong (turns_of event) (turn event) (run_of old.root) first now e → StopsEvent s r next Root event first now e
  root_turn stops = inl (record { branch = record { opening = record { event = 0; view = s.view }; events = r.root }; runs = refl; stops = subst (λ (w : Run). StopsAmong (turns_of event) (turn event) w first now e) h.root stops })

  pub slot_turn : (slot : ℕ) (w : World) → Some w ≡ get nat_cmp old.slots slot → StopsAmong (turns_of event) (turn event) (run_of w) first now e → StopsEvent s r next (Slot slot) event first now e
  slot_turn slot w there stops =
      let b = branch s 0 slot event r old old h w (sym there) in
      inl (record { branch = b.0; runs = b.1; stops = subst (λ (w : Run). StopsAmong (turns_of event) (turn event) w first now e) b.2 stops })

-- out of memory in a slot that is shut
pub shut_memory : (s : RootScript) (number slot : ℕ) (event : ScheduleEvent) (r next : Roots) (old : RootWorlds) → Stands s r old → None ≡ get nat_cmp old.slots slot → (now : Account) (e : WorldError) → e ≡ Memory → StopsEvent s r next (Slot slot) event now now e
shut_memory s number slot event r next old h none now e is =
    let closed : r.slots slot ≡ None = shut s number slot event r old old h (sym none) in
    inr (record {
      within = λ b here. absurd (none-some b (sym closed ∙ here));
      mid = now;
      has = subst (λ (o : Option Branch). HasHashed (own_hashed s event o) now now) (sym closed) (hashed_none now);
      cut = subst (λ (x : WorldError). IsCutOff (opened_hashed s (opened_since r next)) now now x) (sym is) tt;
    })

-- out of memory before a line
pub memory_stops : (s : RootScript) (number : ℕ) (line : RootEvent) (r : Roots) (first now : Account) (e : WorldError) → e ≡ Memory → StopsLine s number line r first now e
memory_stops s number line r first now e is = subst (λ (x : WorldError). StopsLine s number line r first now x) (sym is) (inl tt)

-- ## An event of a slot that is shut

module _ (s : RootScript) (number slot : ℕ) (event : ScheduleEvent) (r : Roots) (old new : RootWorlds) (h : Stands s r old) (none : None ≡ get nat_cmp old.slots slot) where
  pub shut_refuses : {T : Type 0} (now : Account) (result : Result T WorldError) → new.slots ≡ old.slots → new.root ≡ old.root → new.opened ≡ old.opened → OnOk result (string_bytes new.text ≡ string_bytes old.text ++ flat_map printed_line (map (by (Slot slot)) (refusal number event))) → IfErr result (λ e. e ≡ Memory)
      → Goes s (in_slot worlds s number slot event (r.slots slot) r) (own_hashed s event (events_in s r (Slot slot))) (PassesWith s r (Slot slot) event) now now new result
  shut_refuses now (Ok x) same_slots same_root same_opened same_text memory = shut_goes s number slot event r old new h (sym none) now same_slots same_root same_opened same_text
  shut_refuses {T = T} now (Err e) same_slots same_root same_opened same_text memory = memory_goes s (in_slot worlds s number slot event (r.slots slot) r) (PassesWith s r (Slot slot) event) T (own_hashed s event (events_in s r (Slot slot))) now now new e memory

-- ## A line of the script

module _ (s : RootScript) (number : ℕ) (line : RootEvent) (r : Roots) (first mid now : Account) (new : RootWorlds) (has : HasHashed (routed_hashed line) first mid) where
  -- it is one of the root
  pub root_line_goes : {T : Type 0} (result : Result T WorldError) → ensemble_of line ≡ Root
      → Goes s (in_root worlds s number (own_event line) r) (own_hashed s (own_event line) (events_in s r Root) ++ opened_hashed s (opened_since r (in_root worlds s number (own_event line) r))) (PassesWith s r Root (own_event line)) mid now new result
      → Goes s (step worlds s number line r) (line_hashed s number line r) (PassesWith s r (ensemble_of line) (own_event line)) first now new result
  root_line_goes result is goes =
      subst (λ (e : Ensemble). Goes s (in_ensemble worlds s number (own_event line) e r) (routed_hashed line ++ (own_hashed s (own_event line) (events_in s r e) ++ opened_hashed s (opened_since r (in_ensemble worlds s number (own_event line) e r)))) (PassesWith s r e (own_event line)) first now new result) (sym is)
      (goes_after s (in_root worlds s number (own_event line) r) (PassesWith s r Root (own_event line)) (routed_hashed line) _ first mid now new result has goes)

  -- it is one of the ensemble of a slot, in which no slot opens
  none_open : (slot : ℕ) (b : Option Branch) → (in_slot worlds s number slot (own_event line) b r).opened ≡ r.opened
  none_open slot None = refl
  none_open slot (Some b) = refl

  pub slot_line_goes : {T : Type 0} (result : Result T WorldError) (slot : ℕ) → ensemble_of line ≡ Slot slot
      → Goes s (in_slot worlds s number slot (own_event line) (r.slots slot) r) (own_hashed s (own_event line) (events_in s r (Slot slot))) (PassesWith s r (Slot slot) (own_event line)) mid now new result
      → Goes s (step worlds s number line r) (line_hashed s number line r) (PassesWith s r (ensemble_of line) (own_event line)) first now new result
  slot_line_goes result slot is goes =
      let next : Roots = in_slot worlds s number slot (own_event line) (r.slots slot) r in
      let own : List (List ℕ) = own_hashed s (own_event line) (events_in s r (Slot slot)) in
      let shut : opened_hashed s (opened_since r next) ≡ [] = ap (opened_hashed s) (ap (drop (length r.opened)) (none_open slot (r.slots slot)) ∙ since_none r) in
      let same : own ≡ own ++ opened_hashed s (opened_since r next) = sym (append-nil own) ∙ ap (λ (l : List (List ℕ)). own ++ l) (sym shut) in
      subst (λ (e : Ensemble). Goes s (in_ensemble worlds s number (own_event line) e r) (routed_hashed line ++ (own_hashed s (own_event line) (events_in s r e) ++ opened_hashed s (opened_since r (in_ensemble worlds s number (own_event line) e r)))) (PassesWith s r e (own_event line)) first now new result) (sym is)
      (goes_after s next (PassesWith s r (Slot slot) (own_event line)) (routed_hashed line) _ first mid now new result has (goes_same s next (PassesWith s r (Slot slot) (own_event line)) own (own ++ opened_hashed s (opened_since r next)) mid now new result same goes))

  -- its event was stopped
  pub line_stops : {T : Type 0} (result : Result T WorldError) (ensemble : Ensemble) → ensemble_of line ≡ ensemble → IfErr result (λ e. StopsEvent s r (in_ensemble worlds s number (own_event line) ensemble r) ensemble (own_event line) mid now e) → IfErr result (λ e. StopsLine s number line r first now e)
  line_stops (Ok x) ensemble is stops = tt
  line_stops (Err e) ensemble is stops = inr (mid, has, subst (λ (x : Ensemble). StopsEvent s r (in_ensemble worlds s number (own_event line) x r) x (own_event line) mid now e) (sym is) stops)

-- ## The end of the run

pub slots_opened : (s : RootScript) → IsScript s → (w : RootWorlds) → Stands s (roots_after worlds s) w → AreOpened worlds s (map as_opening w.opened.items)
slots_opened s script w h = subst (AreOpened worlds s) (sym h.opened) (run_opened worlds s worlds_grow script)
