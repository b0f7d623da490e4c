-- The histories of the run of a script.
use Rattle.std.proofs.Common.{◌≡◌, ℕ, zero, suc, ◌+◌, ◌<◌, ◌==◌, Bool, true, false, if◌then◌else◌, List, [], ◌∷◌, ◌++◌, length, map, drop, slice_index, Option, None, Some, inl, inr, refl, sym, ap, subst, ◌∙◌, arith, Less, true≢false, ◌||◌, ◌^◌}
use Rattle.std.specs.Prelude.{Contains}
use Rattle.std.specs.BTreeMap.{IsOrdered, get, is_at}
use Rattle.std.specs.List.{flat_map, list_any}
use Rattle.std.specs.List.Sorted.{IsStrictlyIncreasing, IsStrictlySortedBy}
use Rattle.std.specs.Ordering.{nat_cmp}
use Rattle.std.proofs.lemmas.Bool.Decides.{nat_tests}
use Rattle.std.proofs.lemmas.Cmp.{nat_cmp_total}
use Rattle.std.proofs.lemmas.Map.Entries.{btree_map_get_place, place_from_lookup}
use Rattle.std.proofs.lemmas.Bool.{eqb-true}
use Rattle.ens_base.proofs.Lists.{bytes_itself, bytes_same, in-map, from_map}
use Rattle.ens_base.specs.Lists.{◌∈◌, bytes_cmp, same_bytes}
use Rattle.history_scribe.specs.Histories.{AreHistories, AreSorted, history_of}
use Rattle.history_scribe.specs.Text.{history_line}
use Rattle.register_model.specs.Orders.{order}
use Rattle.register_model.specs.declared.history.History.{History}
use Rattle.register_model.specs.declared.note.Note.{Note}
use Rattle.replay.proofs.Members.{Contains_from_in, in_from_Contains}
use Rattle.root_laws.proofs.Calls.{stand_behind}
use Rattle.root_laws.proofs.Prefixes.{run_openings, run_root_events, run_slot_events}
use Rattle.root_laws.proofs.Opened.{few_events}
use Rattle.root_laws.specs.Lines.{events_of, lines_from}
use Rattle.root_laws.specs.Openings.{Opening}
use Rattle.root_laws.specs.Runs.{ensemble_story, key_history, lines_of, lines_with, opening_of, root_lines, root_story, slot_history, story_with}
use Rattle.root_laws.specs.Slots.{slot_key, slot_of}
use Rattle.root_laws.specs.Steps.{Branch, Roots, opened_at, roots_after}
use Rattle.root_laws.specs.Text.{AreSlots, key_line, keys_in, slot_line, slots_in}
use Rattle.root_laws.specs.Worlds.{calls_on, history_in}
use Rattle.scripts.specs.Spelling.{AllMayStand, IsScript, MayFollowAt}
use Rattle.scripts.specs.declared.event.RootEvent.{RootEvent}
use Rattle.scripts.specs.declared.event.RootEvent.TheVariants.{At, Open, Look, Route}
use Rattle.scripts.specs.declared.script.RootScript.{RootScript}
use Rattle.scripts.specs.declared.slots.Ensemble.TheVariants.{Root, Slot}
use Rattle.schedule_text.specs.declared.event.ScheduleEvent.{ScheduleEvent}
use Rattle.schedule_text.specs.declared.event.ScheduleEvent.TheVariants as line
use Rattle.replay.specs.WorldModel.{run_of, World}
use Rattle.world_spec.specs.Runs.{Run, opening_run, unhashed}
use Rattle.root.specs.Histories.{AreEmptyHistories, filled, order_by, orders_by, with_calls}
use Rattle.root.specs.Slots.{slot_history_line}
use Rattle.root.specs.Standing.{RunsSlot, Stands}
use Rattle.root.specs.Worlds.{branch_run, newest, world, worlds}
use Rattle.root.specs.declared.worlds.RootWorlds.{RootWorlds}
use Rattle.root.proofs.Calls.{any_in, in_any}
use Rattle.root.proofs.Lists.{in_place, none_found, place_of, same_found}
use Rattle.root.proofs.Printing.{called_in, run_called, worlds_grow}
use Rattle.root.proofs.Running.{map_text}

-- ## Lists

flat_same : {A : Type 0} (f g : A → List ℕ) (xs : List A) → ((x : A) → x ∈ xs → f x ≡ g x) → flat_map f xs ≡ flat_map g xs
flat_same f g [] h = refl
flat_same f g (x ∷ xs) h = ap (λ (l : List ℕ). l ++ flat_map f xs) (h x (inl refl)) ∙ ap (λ (l : List ℕ). g x ++ l) (flat_same f g xs (λ y m. h y (inr m)))

-- ## The keys that are called

-- a key is called if an event is a call on it
called_on : (events : List ScheduleEvent) (key : List ℕ) → key ∈ called_in events → list_any (calls_on key) events ≡ true
called_on [] key m = absurd m
called_on (line.Call peer id k command ∷ more) key (inl is) = ap (λ (b : Bool). b || list_any (calls_on key) more) (ap (λ (x : List ℕ). same_bytes k x) is ∙ bytes_itself k)
called_on (line.Call peer id k command ∷ more) key (inr m) = by (same_bytes k key) (called_on more key m)
  where
    by : (b : Bool) → list_any (calls_on key) more ≡ true → (b || list_any (calls_on key) more) ≡ true
    by true h = refl
    by false h = h
called_on (_ ∷ more) key m = called_on more key m

on_called : (events : List ScheduleEvent) (key : List ℕ) → list_any (calls_on key) events ≡ true → key ∈ called_in events
on_called [] key h = absurd cc
on_called (line.Call peer id k command ∷ more) key h = by (same_bytes k key) refl h (on_called more key)
  where
    by : (b : Bool) → same_bytes k key ≡ b → (b || list_any (calls_on key) more) ≡ true → (list_any (calls_on key) more ≡ true → key ∈ called_in more) → key ∈ (k ∷ called_in more)
    by true e h later = inl (sym (bytes_same k key e))
    by false e h later = inr (later h)
on_called (_ ∷ more) key h = on_called more key h

-- the keys of a schedule's calls are those of its world
world_called : (peers : ℕ) (view : List ℕ) (events : List ScheduleEvent) → (world peers view events).called ≡ called_in events
world_called peers view events = run_called events (opening_run newest peers view)

no_key : (event : ScheduleEvent) (more : List ScheduleEvent) → MayFollowAt event → called_in (event ∷ more) ≡ called_in more
no_key (line.Call peer id key command) more h = absurd h
no_key _ more h = refl

-- those of the root are the keys of the slots
root_called : (peers n : ℕ) (xs : List RootEvent) → AllMayStand peers xs → called_in (events_of (lines_from n Root xs)) ≡ map slot_key (slots_in xs)
root_called peers n [] h = refl
root_called peers n (At Root event ∷ more) h = no_key event (events_of (lines_from (n + 1) Root more)) h.0.1 ∙ root_called peers (n + 1) more h.1
root_called peers n (At (Slot s) event ∷ more) h = root_called peers (n + 1) more h.1
root_called peers n (Open peer id slot view ∷ more) h = ap (λ (l : List (List ℕ)). slot_key slot ∷ l) (root_called peers (n + 1) more h.1)
root_called peers n (Look peer id slot ∷ more) h = ap (λ (l : List (List ℕ)). slot_key slot ∷ l) (root_called peers (n + 1) more h.1)
root_called peers n (Route peer id key command ∷ more) h = root_called peers (n + 1) more h.1

-- those of a slot have this slot
slot_called : (peers n slot : ℕ) (xs : List RootEvent) (key : List ℕ) → AllMayStand peers xs → key ∈ called_in (events_of (lines_from n (Slot slot) xs)) → slot_of key ≡ slot
slot_called peers n slot [] key h m = absurd m
slot_called peers n slot (At Root event ∷ more) key h m = slot_called peers (n + 1) slot more key h.1 m
slot_called peers n slot (At (Slot s) event ∷ more) key h m = by (s == slot) m (slot_called peers (n + 1) slot more key h.1)
  where
    by : (b : Bool) → key ∈ called_in (events_of (if b then record { number = n; event = event } ∷ lines_from (n + 1) (Slot slot) more else lines_from (n + 1) (Slot slot) more))
        → (key ∈ called_in (events_of (lines_from (n + 1) (Slot slot) more)) → slot_of key ≡ slot) → slot_of key ≡ slot
    by true k later = later (subst (λ (l : List (List ℕ)). key ∈ l) (no_key event (events_of (lines_from (n + 1) (Slot slot) more)) h.0.1) k)
    by false k later = later k
slot_called peers n slot (Open peer id s view ∷ more) key h m = slot_called peers (n + 1) slot more key h.1 m
slot_called peers n slot (Look peer id s ∷ more) key h m = slot_called peers (n + 1) slot more key h.1 m
slot_called peers n slot (Route peer id k command ∷ more) key h m = by (slot_of k == slot) refl m (slot_called peers (n + 1) slot more key h.1)
  where
    by : (b : Bool) → (slot_of k == slot) ≡ b → key ∈ called_in (events_of (if b then record { number = n; event = line.Call peer id k command } ∷ lines_from (n + 1) (Slot slot) more else lines_from (n + 1) (Slot slot) more))
        → (key ∈ called_in (events_of (lines_from (n + 1) (Slot slot) more)) → slot_of key ≡ slot) → slot_of key ≡ slot
    by true e (inl is) later = ap slot_of is ∙ eqb-true (slot_of k) slot e
    by true e (inr p) later = later p
    by false e p later = later p

-- ## The slots

abbrev first_of : List ℕ → ℕ
first_of [] = 0
first_of (x ∷ xs) = x

singles : (keys : List (List ℕ)) → ((k : List ℕ) → k ∈ keys → (slot : ℕ) × (k ≡ slot_key slot)) → keys ≡ map slot_key (map first_of keys)
singles [] h = refl
singles (k ∷ keys) h =
    let one = h k (inl refl) in
    let is : k ≡ slot_key (first_of k) = one.1 ∙ ap slot_key (sym (ap first_of one.1)) in
    ap (λ (x : List ℕ). x ∷ keys) is ∙ ap (λ (l : List (List ℕ)). slot_key (first_of k) ∷ l) (singles keys (λ j m. h j (inr m)))

less_of : (a b : ℕ) → bytes_cmp (slot_key a) (slot_key b) ≡ Less → a < b
less_of a b h = grind (arith, nat_tests, h)

rises : (slots : List ℕ) → IsStrictlySortedBy bytes_cmp (map slot_key slots) → IsStrictlyIncreasing slots
unfolding IsStrictlySortedBy
rises [] h k lt = absurd (omega arith)
rises (a ∷ []) h k lt = absurd (omega arith)
rises (a ∷ b ∷ slots) h zero lt = less_of a b h.0.0
rises (a ∷ b ∷ slots) h (suc k) lt =
    let same : suc k + 1 ≡ suc (k + 1) = omega arith in
    subst (λ (j : ℕ). slice_index (b ∷ slots) k < slice_index (a ∷ b ∷ slots) j) (sym same) (rises (b ∷ slots) h.1 k (omega (arith, lt)))

if_yes : {A : Type 0} (b : Bool) (x y : A) → b ≡ true → (if b then x else y) ≡ x
if_yes true x y h = refl
if_yes false x y h = absurd cc

if_no : {A : Type 0} (b : Bool) (x y : A) → b ≡ false → (if b then x else y) ≡ y
if_no true x y h = absurd cc
if_no false x y h = refl

module _ (s : RootScript) (script : IsScript s) (w : RootWorlds) (stands : Stands s (roots_after worlds s) w) where
  abbrev last : Roots
  last = roots_after worlds s

  few : length s.events < 2 ^ 32
  few = few_events s script

  root_events : events_of (root_lines s) ≡ last.root
  root_events = run_root_events worlds s worlds_grow few script

  root_is : run_of w.root ≡ unhashed (world s.peers s.view (events_of (root_lines s)))
  root_is = stands.root ∙ ap (λ (es : List ScheduleEvent). unhashed (world s.peers s.view es)) (sym root_events)

  root_keys : (run_of w.root).called ≡ map slot_key (slots_in s.events)
  root_keys = ap (λ (r : Run). r.called) root_is ∙ world_called s.peers s.view (events_of (root_lines s)) ∙ root_called s.peers 1 s.events script.events

  slot_order : (slot : ℕ) → slot ∈ slots_in s.events → slot_history worlds s slot ≡ order (run_of w.root).notes (slot_key slot)
  slot_order slot m =
      let named : slot_key slot ∈ called_in (events_of (root_lines s)) = subst (λ (l : List (List ℕ)). slot_key slot ∈ l) (sym (root_called s.peers 1 s.events script.events)) (in-map slot_key (slots_in s.events) slot m) in
      if_yes (list_any (calls_on (slot_key slot)) (events_of (root_lines s))) (order (root_story worlds s).notes (slot_key slot)) [] (called_on (events_of (root_lines s)) (slot_key slot) named)
      ∙ ap (λ (r : Run). order r.notes (slot_key slot)) (sym root_is)

  module _ (histories : List History) (are : AreHistories (run_of w.root).notes (run_of w.root).called histories) where
    abbrev keys : List (List ℕ)
    keys = are.0

    abbrev slots : List ℕ
    slots = map first_of keys

    named : (k : List ℕ) → k ∈ keys → (slot : ℕ) × (slot ∈ slots_in s.events) × (k ≡ slot_key slot)
    named k m = from_map slot_key (slots_in s.events) k (subst (λ (l : List (List ℕ)). k ∈ l) root_keys (in_from_Contains (run_of w.root).called k ((are.1.same k).0 (Contains_from_in keys k m))))

    keys_are : keys ≡ map slot_key slots
    keys_are = singles keys (λ k m. let n = named k m in (n.0, n.2))

    same_slot : (a b : ℕ) → slot_key a ≡ slot_key b → a ≡ b
    same_slot a b h = ap first_of h

    slot_named : (slot : ℕ) → slot ∈ slots → slot ∈ slots_in s.events
    slot_named slot m =
        let k : slot_key slot ∈ keys = subst (λ (l : List (List ℕ)). slot_key slot ∈ l) (sym keys_are) (in-map slot_key slots slot m) in
        let n = named (slot_key slot) k in
        subst (λ (x : ℕ). x ∈ slots_in s.events) (sym (same_slot slot n.0 n.2)) n.1

    to : (slot : ℕ) → Contains slots slot → Contains (slots_in s.events) slot
    to slot m = Contains_from_in (slots_in s.events) slot (slot_named slot (in_from_Contains slots slot m))

    back : (slot : ℕ) → Contains (slots_in s.events) slot → Contains slots slot
    back slot m =
        let called : slot_key slot ∈ (run_of w.root).called = subst (λ (l : List (List ℕ)). slot_key slot ∈ l) (sym root_keys) (in-map slot_key (slots_in s.events) slot (in_from_Contains (slots_in s.events) slot m)) in
        let kept : slot_key slot ∈ keys = in_from_Contains keys (slot_key slot) ((are.1.same (slot_key slot)).1 (Contains_from_in (run_of w.root).called (slot_key slot) called)) in
        let there = from_map slot_key slots (slot_key slot) (subst (λ (l : List (List ℕ)). slot_key slot ∈ l) keys_are kept) in
        Contains_from_in slots slot (subst (λ (x : ℕ). x ∈ slots) (sym (same_slot slot there.0 there.2)) there.1)

    text : flat_map (λ (h : History). slot_history_line h.key h.calls) histories ≡ flat_map (slot_line worlds s) slots
    text =
        ap (flat_map (λ (h : History). slot_history_line h.key h.calls)) are.2
        ∙ map_text (λ (h : History). slot_history_line h.key h.calls) (history_of (run_of w.root).notes) keys
        ∙ ap (flat_map (λ (k : List ℕ). slot_history_line k (order (run_of w.root).notes k))) keys_are
        ∙ map_text (λ (k : List ℕ). slot_history_line k (order (run_of w.root).notes k)) slot_key slots
        ∙ flat_same (λ (slot : ℕ). slot_history_line (slot_key slot) (order (run_of w.root).notes (slot_key slot))) (slot_line worlds s) slots
        (λ slot m. ap (λ (calls : List ℕ). slot_history_line (slot_key slot) calls) (sym (slot_order slot (slot_named slot m))))

    -- the lines of the slots
    pub slots_text : (slots : List ℕ) × AreSlots (slots_in s.events) slots × (flat_map (λ (h : History). slot_history_line h.key h.calls) histories ≡ flat_map (slot_line worlds s) slots)
    slots_text = (slots, record { same = λ slot. (to slot, back slot); ascending = rises slots (subst (IsStrictlySortedBy bytes_cmp) keys_are are.1.ascending) }, text)

  -- ## The routed keys

  module _ (ordered : IsOrdered nat_cmp w.slots) where
    -- a slot with a world is open
    opened : (slot : ℕ) (v : World) → get nat_cmp w.slots slot ≡ Some v → (b : Branch) × (last.slots slot ≡ Some b) × (run_of v ≡ unhashed (branch_run s b))
    opened slot v there = at (last.slots slot) refl (subst (λ (x : Option World). RunsSlot s (last.slots slot) x) there (stands.slots slot))
      where
        at : (o : Option Branch) → last.slots slot ≡ o → RunsSlot s (last.slots slot) (Some v) → (b : Branch) × (last.slots slot ≡ Some b) × (run_of v ≡ unhashed (branch_run s b))
        at None e k = absurd (subst (λ (x : Option Branch). RunsSlot s x (Some v)) e k)
        at (Some b) e k = let both = subst (λ (x : Option Branch). RunsSlot s x (Some v)) e k in (b, e, both.0)

    -- its events are those of its lines
    own_events : (slot : ℕ) (b : Branch) → last.slots slot ≡ Some b → b.events ≡ events_of (lines_of worlds s (Slot slot))
    own_events slot b e = sym (run_slot_events worlds s worlds_grow few script slot b e)

    opening_is : (slot : ℕ) (b : Branch) → last.slots slot ≡ Some b → opening_of worlds s (Slot slot) ≡ Some b.opening
    opening_is slot b e = run_openings worlds s worlds_grow few script slot ∙ ap opened_at e

    -- each entry is found
    found : (e : ℕ × World) → e ∈ w.slots.entries → get nat_cmp w.slots e.0 ≡ Some e.1
    found e m =
        let at = place_of w.slots.entries e m in
        btree_map_get_place nat_cmp_total w.slots at.0 e.0 e.1 ordered at.1

    -- the key of a call in a world has the slot of the world
    slot_is : (slot : ℕ) (v : World) (key : List ℕ) → get nat_cmp w.slots slot ≡ Some v → list_any (same_bytes key) (run_of v).called ≡ true → slot_of key ≡ slot
    slot_is slot v key there any =
        let b = opened slot v there in
        let called : key ∈ (run_of v).called = in_any (run_of v).called key any in
        let events : (run_of v).called ≡ called_in (events_of (lines_with s (Slot slot) (Some b.0.opening))) =
        ap (λ (r : Run). r.called) b.2 ∙ world_called s.peers b.0.opening.view b.0.events ∙ ap called_in (own_events slot b.0 b.1)
        ∙ ap (λ (o : Option Opening). called_in (events_of (lines_with s (Slot slot) o))) (opening_is slot b.0 b.1) in
        slot_called s.peers (b.0.opening.event + 1) slot (drop b.0.opening.event s.events) key (stand_behind s.peers b.0.opening.event s.events script.events) (subst (λ (l : List (List ℕ)). key ∈ l) events called)

    module _ (key : List ℕ) where
      abbrev n : ℕ
      n = slot_of key

      -- the events of its slot
      abbrev events : List ScheduleEvent
      events = events_of (lines_of worlds s (Slot n))

      abbrev kept_by : World → Option (List ℕ)
      kept_by v = Some (order (run_of v).notes key)

      abbrev calls : World → Bool
      calls v = list_any (same_bytes key) (run_of v).called

      -- no world has a call on the key
      none_orders : (es : List (ℕ × World)) (old : Option (List ℕ)) → ((e : ℕ × World) → e ∈ es → calls e.1 ≡ false) → orders_by es key old ≡ old
      none_orders [] old h = refl
      none_orders (e ∷ es) old h =
          none_orders es (order_by e.1 key old) (λ x m. h x (inr m)) ∙ if_no (calls e.1) (Some (order (run_of e.1).notes key)) old (h e (inl refl))

      -- the worlds with a call on the key are this one
      one_orders : (v : World) (es : List (ℕ × World)) → ((e : ℕ × World) → e ∈ es → calls e.1 ≡ true → e.1 ≡ v) → orders_by es key (Some (order (run_of v).notes key)) ≡ Some (order (run_of v).notes key)
      one_orders v [] h = refl
      one_orders v (e ∷ es) h = by (calls e.1) refl (one_orders v es (λ x m. h x (inr m)))
        where
          by : (b : Bool) → calls e.1 ≡ b → orders_by es key (kept_by v) ≡ kept_by v → orders_by es key (if calls e.1 then Some (order (run_of e.1).notes key) else kept_by v) ≡ kept_by v
          by true c later = ap (orders_by es key) (if_yes (calls e.1) (Some (order (run_of e.1).notes key)) (kept_by v) c ∙ ap (λ (x : World). Some (order (run_of x).notes key)) (h e (inl refl) c)) ∙ later
          by false c later = ap (orders_by es key) (if_no (calls e.1) (Some (order (run_of e.1).notes key)) (kept_by v) c) ∙ later

      that_orders : (v : World) (es : List (ℕ × World)) (old : Option (List ℕ)) (k : ℕ) → ((e : ℕ × World) → e ∈ es → calls e.1 ≡ true → e.1 ≡ v) → (k, v) ∈ es → calls v ≡ true → orders_by es key old ≡ Some (order (run_of v).notes key)
      that_orders v [] old k h m c = absurd m
      that_orders v (e ∷ es) old k h (inl is) c =
          let same : e.1 ≡ v = sym (ap (λ (x : ℕ × World). x.1) is) in
          ap (λ (x : World). orders_by es key (order_by x key old)) same ∙ ap (orders_by es key) (if_yes (calls v) (Some (order (run_of v).notes key)) old c) ∙ one_orders v es (λ x m. h x (inr m))
      that_orders v (e ∷ es) old k h (inr m) c = that_orders v es (order_by e.1 key old) k (λ x p. h x (inr p)) m c

      -- no entry has a call on the key but that of its slot
      only : (v : World) → get nat_cmp w.slots n ≡ Some v → (e : ℕ × World) → e ∈ w.slots.entries → calls e.1 ≡ true → e.1 ≡ v
      only v there e m c =
          let at : get nat_cmp w.slots e.0 ≡ Some e.1 = found e m in
          let slot : n ≡ e.0 = slot_is e.0 e.1 key at c in
          same_found (get nat_cmp w.slots n) (get nat_cmp w.slots e.0) e.1 v at there (ap (get nat_cmp w.slots) slot)

      shut : get nat_cmp w.slots n ≡ None → (e : ℕ × World) → e ∈ w.slots.entries → calls e.1 ≡ false
      shut none e m = by (calls e.1) refl
        where
          by : (b : Bool) → calls e.1 ≡ b → calls e.1 ≡ false
          by false c = c
          by true c =
              let at : get nat_cmp w.slots e.0 ≡ Some e.1 = found e m in
              let slot : n ≡ e.0 = slot_is e.0 e.1 key at c in
              absurd (none_found (get nat_cmp w.slots n) (get nat_cmp w.slots e.0) e.1 at none (ap (get nat_cmp w.slots) slot))

      is_entry : (v : World) → get nat_cmp w.slots n ≡ Some v → (k : ℕ) × ((k, v) ∈ w.slots.entries)
      is_entry v there =
          let at = place_from_lookup (is_at (nat_cmp n)) w.slots.entries v there in
          (at.1, in_place w.slots.entries at.0 (at.1, v) at.2)

      -- the history of the key, as it is printed
      abbrev empty : History
      empty = record { key = key; calls = [] }

      pub filled_is : filled (λ k. orders_by w.slots.entries k None) empty ≡ record { key = key; calls = key_history worlds s key }
      filled_is = by (get nat_cmp w.slots n) refl
        where
          -- the slot is shut, or there is no call on the key
          nothing : orders_by w.slots.entries key None ≡ None → key_history worlds s key ≡ [] → filled (λ k. orders_by w.slots.entries k None) empty ≡ record { key = key; calls = key_history worlds s key }
          nothing none silent = ap (λ (o : Option (List ℕ)). with_calls o empty) none ∙ ap (λ (calls : List ℕ). record { key = key; calls = calls }) (sym silent)

          by : (o : Option World) → get nat_cmp w.slots n ≡ o → filled (λ k. orders_by w.slots.entries k None) empty ≡ record { key = key; calls = key_history worlds s key }
          by None there = nothing (none_orders w.slots.entries None (shut there)) (at (last.slots n) refl (subst (λ (x : Option World). RunsSlot s (last.slots n) x) there (stands.slots n)))
            where
              at : (o : Option Branch) → last.slots n ≡ o → RunsSlot s (last.slots n) None → key_history worlds s key ≡ []
              at (Some b) e k = absurd (subst (λ (x : Option Branch). RunsSlot s x None) e k)
              at None e k =
                  let opening : opening_of worlds s (Slot n) ≡ None = run_openings worlds s worlds_grow few script n ∙ ap opened_at e in
                  ap (λ (o : Option Opening). history_in (events_of (lines_with s (Slot n) o)) (story_with worlds s (Slot n) o) key) opening
          by (Some v) there = at (calls v) refl
            where
              b : (b : Branch) × (last.slots n ≡ Some b) × (run_of v ≡ unhashed (branch_run s b))
              b = opened n v there

              opening : opening_of worlds s (Slot n) ≡ Some b.0.opening
              opening = opening_is n b.0 b.1

              called : (run_of v).called ≡ called_in events
              called = ap (λ (r : Run). r.called) b.2 ∙ world_called s.peers b.0.opening.view b.0.events ∙ ap called_in (own_events n b.0 b.1)

              notes : (ensemble_story worlds s (Slot n)).notes ≡ (run_of v).notes
              notes =
                  ap (λ (o : Option Opening). (story_with worlds s (Slot n) o).notes) opening
                  ∙ ap (λ (es : List ScheduleEvent). (world s.peers b.0.opening.view es).notes) (sym (ap (λ (o : Option Opening). events_of (lines_with s (Slot n) o)) opening) ∙ sym (own_events n b.0 b.1))
                  ∙ ap (λ (r : Run). r.notes) (sym b.2)

              at : (c : Bool) → calls v ≡ c → filled (λ k. orders_by w.slots.entries k None) empty ≡ record { key = key; calls = key_history worlds s key }
              at false c = nothing (none_orders w.slots.entries None none) (if_no (list_any (calls_on key) events) (order (ensemble_story worlds s (Slot n)).notes key) [] quiet)
                where
                  none : (e : ℕ × World) → e ∈ w.slots.entries → calls e.1 ≡ false
                  none e m = test (calls e.1) refl
                    where
                      test : (d : Bool) → calls e.1 ≡ d → calls e.1 ≡ false
                      test false d = d
                      test true d = absurd (true≢false (sym d ∙ ap calls (only v there e m d) ∙ c))

                  quiet : list_any (calls_on key) events ≡ false
                  quiet = test (list_any (calls_on key) events) refl
                    where
                      test : (d : Bool) → list_any (calls_on key) events ≡ d → list_any (calls_on key) events ≡ false
                      test false d = d
                      test true d =
                          let any : calls v ≡ true = any_in (run_of v).called key (subst (λ (l : List (List ℕ)). key ∈ l) (sym called) (on_called events key d)) in
                          absurd (true≢false (sym any ∙ c))
              at true c =
                  let entry = is_entry v there in
                  let kept : orders_by w.slots.entries key None ≡ Some (order (run_of v).notes key) = that_orders v w.slots.entries None entry.0 (only v there) entry.1 c in
                  let named : key ∈ called_in events = subst (λ (l : List (List ℕ)). key ∈ l) called (in_any (run_of v).called key c) in
                  let history : key_history worlds s key ≡ order (run_of v).notes key = if_yes (list_any (calls_on key) events) (order (ensemble_story worlds s (Slot n)).notes key) [] (called_on events key named) ∙ ap (λ (ns : List Note). order ns key) notes in
                  ap (λ (o : Option (List ℕ)). with_calls o empty) kept ∙ ap (λ (calls : List ℕ). record { key = key; calls = calls }) (sym history)

    -- the lines of the keys
    pub keys_text : (histories empties : List History) → AreEmptyHistories (keys_in s.events) empties → histories ≡ map (filled (λ k. orders_by w.slots.entries k None)) empties
        → (keys : List (List ℕ)) × AreSorted (keys_in s.events) keys × (flat_map history_line histories ≡ flat_map (key_line worlds s) keys)
    keys_text histories empties are is = (
      are.0,
      are.1,
      ap (flat_map history_line) (is ∙ ap (map (filled (λ k. orders_by w.slots.entries k None))) are.2)
          ∙ map_text history_line (filled (λ k. orders_by w.slots.entries k None)) (map (λ key. record { key = key; calls = [] }) are.0)
          ∙ map_text (λ (h : History). history_line (filled (λ k. orders_by w.slots.entries k None) h)) (λ key. record { key = key; calls = [] }) are.0
          ∙ flat_same (λ (key : List ℕ). history_line (filled (λ k. orders_by w.slots.entries k None) (record { key = key; calls = [] }))) (key_line worlds s) are.0 (λ key m. ap history_line (filled_is key)),
    )
