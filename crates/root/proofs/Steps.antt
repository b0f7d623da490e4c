-- One line of a script after another.
use Rattle.std.proofs.Common.{◌≡◌, ℕ, ◌+◌, ◌≤◌, ◌==◌, Bool, true, false, cond, if◌then◌else◌, List, [], ◌∷◌, ◌++◌, length, map, drop, take, slice_get, Option, Some, None, Result, Ok, Err, inl, inr, refl, sym, ap, subst, ◌∙◌, append-nil, append_assoc, length-append, arith, string_bytes}
use Rattle.std.proofs.lemmas.List.{take_all, length-take-le}
use Rattle.std.proofs.lemmas.Option.{same_Some}
use Rattle.std.specs.Prelude.{is_some}
use Rattle.std.specs.BTreeMap.{get, is_at}
use Rattle.std.specs.List.{flat_map}
use Rattle.std.specs.Map.{lookup}
use Rattle.std.specs.Ordering.{nat_cmp}
use Rattle.std.specs.Result.{IsErrAnd}
use Rattle.world_spec.specs.Held.{Account, HasHashed, StartsWith}
use Rattle.world_spec.specs.HeldLaws.{HasFilled}
use Rattle.world_spec.proofs.Taken.{hashed_all, hashed_none}
use Rattle.register_model.specs.declared.printed.Printed.{Printed}
use Rattle.root_laws.specs.Lines.{ensemble_of, own_event}
use Rattle.root_laws.specs.Runs.{by}
use Rattle.root_laws.specs.Steps.{Branch, Roots, at_first, in_slot, open_lines, open_slot, printed_next, put, refusal, said, step, steps}
use Rattle.root_laws.specs.Text.{printed_line}
use Rattle.root_laws.proofs.Prefixes.{drop_append}
use Rattle.scripts.specs.declared.event.RootEvent.{RootEvent}
use Rattle.scripts.specs.declared.script.RootScript.{RootScript}
use Rattle.scripts.specs.declared.slots.Ensemble.TheVariants.{Root, Slot}
use Rattle.schedule_text.specs.declared.event.ScheduleEvent.{ScheduleEvent}
use Rattle.replay.proofs.WorldModel.{cut_off_after, cut_off_further}
use Rattle.replay.specs.WorldModel.{IsCutOff, MayRefuse, run_of, WorldError, BookFull, Clash, Memory, MessageLimit, World}
use Rattle.world_spec.specs.Lines.{applied}
use Rattle.world_spec.specs.Messages.{IsWithinMessages}
use Rattle.world_spec.specs.Runs.{opening_run, unhashed}
use Rattle.root.specs.Ends.{CameTo, IsStopped, PassesIn, PassesLimit, PassesWith, RejectsIn, StopsIn, StopsLine, as_opening}
use Rattle.root.specs.Hashed.{hashed_by, hashed_until, line_hashed, lines_hashed, opened_hashed, opened_since, own_hashed}
use Rattle.root.specs.Standing.{Goes, RunsSlot, Stands, line_at, open_line}
use Rattle.root.specs.Worlds.{AreWithin, branch_run, events_in, newest, world, worlds}
use Rattle.root.specs.declared.worlds.RootWorlds.{RootWorlds}
use Rattle.root.proofs.Lists.{parted, split_at, take_one}
use Rattle.root.proofs.Running.{hashed_more, line_opens, lines_both, lines_one, lines_open, said_text, slot_hashed, slot_stands, text_more, world_next, world_prints, world_refused}
use Rattle.ens_base.proofs.Tests.{at_number}

-- ## Calls after one another

module _ (s : RootScript) (next : Roots) (Passes : Type 0) where
  -- an error that was passed on
  pub goes_err : {T : Type 0} (strings : List (List ℕ)) (first now : Account) (w : RootWorlds) (r : Result T WorldError) (G : WorldError → Type 0) (e : WorldError) → IsErrAnd r G → ((d : WorldError) → G d → d ≡ e)
      → Goes {T = T} s next strings Passes first now w (Err e) → Goes s next strings Passes first now w r
  goes_err strings first now w (Ok x) G e and same goes = absurd and
  goes_err {T = T} strings first now w (Err d) G e and same goes = subst (λ (x : WorldError). Goes {T = T} s next strings Passes first now w (Err x)) (sym (same d and)) goes

  -- the hasher was cut off
  pub cut_goes : (T : Type 0) (strings : List (List ℕ)) (first now : Account) (w : RootWorlds) (e : WorldError) → IsCutOff strings first now e → Goes {T = T} s next strings Passes first now w (Err e)
  cut_goes T strings first now w MessageLimit cut = absurd cut
  cut_goes T strings first now w Memory cut = cut
  cut_goes T strings first now w (Clash kept new) cut = cut
  cut_goes T strings first now w (BookFull bytes) cut = cut

  -- out of memory
  pub memory_goes : (T : Type 0) (strings : List (List ℕ)) (first now : Account) (w : RootWorlds) (e : WorldError) → e ≡ Memory → Goes {T = T} s next strings Passes first now w (Err e)
  memory_goes T strings first now w e is = subst (λ (x : WorldError). Goes {T = T} s next strings Passes first now w (Err x)) (sym is) tt

  -- cut off in the first of more strings
  pub cut_sooner : (T : Type 0) (strings more : List (List ℕ)) (first now : Account) (w : RootWorlds) (e : WorldError) → IsCutOff strings first now e → Goes {T = T} s next (strings ++ more) Passes first now w (Err e)
  cut_sooner T strings more first now w e cut = cut_goes T (strings ++ more) first now w e (cut_off_further strings (strings ++ more) first now e (more, refl) cut)

  -- a call behind strings that were taken
  pub goes_after : {T : Type 0} (strings more : List (List ℕ)) (first mid now : Account) (w : RootWorlds) (r : Result T WorldError) → HasHashed strings first mid → Goes s next more Passes mid now w r → Goes s next (strings ++ more) Passes first now w r
  goes_after strings more first mid now w (Ok x) has goes = (goes.0, hashed_all strings more first mid now has goes.1)
  goes_after strings more first mid now w (Err MessageLimit) has goes = goes
  goes_after strings more first mid now w (Err Memory) has goes = tt
  goes_after strings more first mid now w (Err (Clash kept new)) has goes = cut_off_after strings more first mid now (Clash kept new) has goes
  goes_after strings more first mid now w (Err (BookFull bytes)) has goes = cut_off_after strings more first mid now (BookFull bytes) has goes

  -- a call that is not refused at the limit on messages
  pub goes_within : {T : Type 0} (Other : Type 0) (strings : List (List ℕ)) (first now : Account) (w : RootWorlds) (r : Result T WorldError) → (r ≡ Err MessageLimit → ⊥) → Goes s next strings Other first now w r → Goes s next strings Passes first now w r
  goes_within Other strings first now w (Ok x) not goes = goes
  goes_within Other strings first now w (Err MessageLimit) not goes = absurd (not refl)
  goes_within Other strings first now w (Err Memory) not goes = tt
  goes_within Other strings first now w (Err (Clash kept new)) not goes = goes
  goes_within Other strings first now w (Err (BookFull bytes)) not goes = goes

  -- such a call was refused by the hasher
  pub goes_cut : (T : Type 0) (strings : List (List ℕ)) (first now : Account) (w : RootWorlds) (e : WorldError) → (e ≡ MessageLimit → ⊥) → Goes {T = T} s next strings Passes first now w (Err e) → IsCutOff strings first now e
  goes_cut T strings first now w MessageLimit not goes = absurd (not refl)
  goes_cut T strings first now w Memory not goes = tt
  goes_cut T strings first now w (Clash kept new) not goes = goes
  goes_cut T strings first now w (BookFull bytes) not goes = goes

  -- the strings are the same
  pub goes_same : {T : Type 0} (strings others : List (List ℕ)) (first now : Account) (w : RootWorlds) (r : Result T WorldError) → strings ≡ others → Goes s next strings Passes first now w r → Goes s next others Passes first now w r
  goes_same strings others first now w r same goes = subst (λ (l : List (List ℕ)). Goes s next l Passes first now w r) same goes

-- ## An event of one ensemble

module _ (s : RootScript) (number : ℕ) (event : ScheduleEvent) (r : Roots) (old new : RootWorlds) (h : Stands s r old) where
  -- the root took the event, and the text has what it printed
  abbrev pub lines : List Printed
  lines = printed_next worlds s.peers s.view r.root event

  abbrev pub root_mid : Roots
  root_mid = record r { root = r.root ++ event ∷ []; printed = r.printed ++ said number Root lines }

  module _ (first later : Account) (reaches : (run_of new.root ≡ unhashed (applied event (run_of old.root))) × IsWithinMessages (applied event (run_of old.root)) × HasHashed (applied event (run_of old.root)).hashed first later) where
    went : (run_of new.root ≡ unhashed (world s.peers s.view (r.root ++ event ∷ []))) × IsWithinMessages (world s.peers s.view (r.root ++ event ∷ [])) × HasHashed (applied event (unhashed (world s.peers s.view r.root))).hashed first later
    went = world_next s.peers s.view r.root event (run_of old.root) h.root (run_of new.root) first later reaches

    pub root_hashed : HasHashed (own_hashed s event (events_in s r Root)) first later
    root_hashed = went.2

    pub root_prints : drop (length (run_of old.root).printed) (run_of new.root).printed ≡ lines
    root_prints = world_prints s.peers s.view r.root event (run_of old.root) h.root (run_of new.root) reaches.0

    pub root_stands : new.slots ≡ old.slots → new.opened ≡ old.opened → string_bytes new.text ≡ string_bytes old.text ++ flat_map (line_at number Root) (drop (length (run_of old.root).printed) (run_of new.root).printed) → Stands s root_mid new
    root_stands same_slots same_opened same_text = record {
      root = went.0;
      within = went.1;
      slots = λ q. subst (λ m. RunsSlot s (r.slots q) (get nat_cmp m q)) (sym same_slots) (h.slots q);
      opened = ap (λ v. map as_opening v.items) same_opened ∙ h.opened;
      text = text_more (string_bytes old.text) (string_bytes new.text) _ r.printed (said number Root lines) h.text same_text (ap (flat_map (line_at number Root)) root_prints ∙ sym (said_text number Root lines));
    }

  -- the root refused the event
  pub root_refused : (T : Type 0) (e : WorldError) (first later : Account) (next : Roots) (more : List (List ℕ)) → MayRefuse first (applied event (run_of old.root)) later e → Goes {T = T} s next (own_hashed s event (events_in s r Root) ++ more) (PassesWith s r Root event) first later new (Err e)
  root_refused T e first later next more may = by e (world_refused s.peers s.view r.root event (run_of old.root) h.root e first later may)
    where
      by : (e : WorldError) → MayRefuse first (record (world s.peers s.view (r.root ++ event ∷ [])) { hashed = own_hashed s event (events_in s r Root) }) later e → Goes {T = T} s next (own_hashed s event (events_in s r Root) ++ more) (PassesWith s r Root event) first later new (Err e)
      by MessageLimit past = record { branch = record { opening = record { event = 0; view = s.view }; events = r.root }; runs = refl; past = past }
      by Memory cut = tt
      by (Clash kept new) cut = cut_off_further (own_hashed s event (events_in s r Root)) (own_hashed s event (events_in s r Root) ++ more) first later (Clash kept new) (more, refl) cut
      by (BookFull bytes) cut = cut_off_further (own_hashed s event (events_in s r Root)) (own_hashed s event (events_in s r Root) ++ more) first later (BookFull bytes) (more, refl) cut

-- an event of the ensemble of a slot
module _ (s : RootScript) (number slot : ℕ) (event : ScheduleEvent) (r : Roots) (old new : RootWorlds) (h : Stands s r old) where
  -- the slot is open
  module _ (w : World) (there : get nat_cmp old.slots slot ≡ Some w) where
    pub branch : (b : Branch) × (r.slots slot ≡ Some b) × (run_of w ≡ unhashed (branch_run s b)) × IsWithinMessages (branch_run s b)
    branch = at (r.slots slot) refl (subst (λ (x : Option World). RunsSlot s (r.slots slot) x) there (h.slots slot))
      where
        at : (o : Option Branch) → r.slots slot ≡ o → RunsSlot s (r.slots slot) (Some w) → (b : Branch) × (r.slots slot ≡ Some b) × (run_of w ≡ unhashed (branch_run s b)) × IsWithinMessages (branch_run s b)
        at None e k = absurd (subst (λ (x : Option Branch). RunsSlot s x (Some w)) e k)
        at (Some b) e k = let both = subst (λ (x : Option Branch). RunsSlot s x (Some w)) e k in (b, e, both.0, both.1)

    abbrev b : Branch
    b = branch.0

    abbrev own : List Printed
    own = printed_next worlds s.peers b.opening.view b.events event

    own_is : own_hashed s event (events_in s r (Slot slot)) ≡ (applied event (unhashed (branch_run s b))).hashed
    own_is = ap (own_hashed s event) branch.1

    in_is : in_slot worlds s number slot event (r.slots slot) r ≡ in_slot worlds s number slot event (Some b) r
    in_is = ap (λ (o : Option Branch). in_slot worlds s number slot event o r) branch.1

    longer : Branch
    longer = record b { events = b.events ++ event ∷ [] }

    module _ (v : World) (first later : Account) (reaches : (run_of v ≡ unhashed (applied event (run_of w))) × IsWithinMessages (applied event (run_of w)) × HasHashed (applied event (run_of w)).hashed first later) where
      went_on : (run_of v ≡ unhashed (world s.peers b.opening.view (b.events ++ event ∷ []))) × IsWithinMessages (world s.peers b.opening.view (b.events ++ event ∷ [])) × HasHashed (applied event (unhashed (world s.peers b.opening.view b.events))).hashed first later
      went_on = world_next s.peers b.opening.view b.events event (run_of w) branch.2 (run_of v) first later reaches

      prints : drop (length (run_of w).printed) (run_of v).printed ≡ own
      prints = world_prints s.peers b.opening.view b.events event (run_of w) branch.2 (run_of v) reaches.0

      pub slot_goes : ((q : ℕ) → get nat_cmp new.slots q ≡ cond (is_at (nat_cmp slot) q) (Some v) (get nat_cmp old.slots q)) → new.root ≡ old.root → new.opened ≡ old.opened
          → string_bytes new.text ≡ string_bytes old.text ++ flat_map (line_at number (Slot slot)) (drop (length (run_of w).printed) (run_of v).printed)
          → Stands s (in_slot worlds s number slot event (r.slots slot) r) new × HasHashed (own_hashed s event (events_in s r (Slot slot))) first later
      unfolding longer branch
      slot_goes puts same_root same_opened same_text = (
        subst (λ (x : Roots). Stands s x new) (sym in_is) (record {
          root = ap run_of same_root ∙ h.root;
          within = h.within;
          slots = λ q. by q (slot == q) refl;
          opened = ap (λ v. map as_opening v.items) same_opened ∙ h.opened;
          text = text_more (string_bytes old.text) (string_bytes new.text) _ r.printed (said number (Slot slot) own) h.text same_text (ap (flat_map (line_at number (Slot slot))) prints ∙ sym (said_text number (Slot slot) own));
        }),
        subst (λ (l : List (List ℕ)). HasHashed l first later) (sym own_is) went_on.2,
      )
        where
          by : (q : ℕ) (c : Bool) → (slot == q) ≡ c → RunsSlot s (put slot longer r.slots q) (get nat_cmp new.slots q)
          by q true e =
              let is : put slot longer r.slots q ≡ Some longer = ap (λ (c : Bool). if c then Some longer else r.slots q) e in
              let held : get nat_cmp new.slots q ≡ Some v = puts q ∙ ap (λ (c : Bool). cond c (Some v) (get nat_cmp old.slots q)) (at_number slot q ∙ e) in
              subst (λ (x : Option Branch). RunsSlot s x (get nat_cmp new.slots q)) (sym is) (subst (λ (x : Option World). RunsSlot s (Some longer) x) (sym held) (went_on.0, went_on.1))
          by q false e =
              let is : put slot longer r.slots q ≡ r.slots q = ap (λ (c : Bool). if c then Some longer else r.slots q) e in
              let held : get nat_cmp new.slots q ≡ get nat_cmp old.slots q = puts q ∙ ap (λ (c : Bool). cond c (Some v) (get nat_cmp old.slots q)) (at_number slot q ∙ e) in
              subst (λ (x : Option Branch). RunsSlot s x (get nat_cmp new.slots q)) (sym is) (subst (λ (x : Option World). RunsSlot s (r.slots q) x) (sym held) (h.slots q))

    -- it refused the event
    pub slot_refused : (T : Type 0) (e : WorldError) (first later : Account) (next : Roots) → MayRefuse first (applied event (run_of w)) later e → Goes {T = T} s next (own_hashed s event (events_in s r (Slot slot))) (PassesWith s r (Slot slot) event) first later new (Err e)
    slot_refused T e first later next may = by e (world_refused s.peers b.opening.view b.events event (run_of w) branch.2 e first later may)
      where
        by : (e : WorldError) → MayRefuse first (record (world s.peers b.opening.view (b.events ++ event ∷ [])) { hashed = (applied event (unhashed (branch_run s b))).hashed }) later e
            → Goes {T = T} s next (own_hashed s event (events_in s r (Slot slot))) (PassesWith s r (Slot slot) event) first later new (Err e)
        by MessageLimit past = record { branch = b; runs = branch.1; past = past }
        by Memory cut = tt
        by (Clash kept new) cut = subst (λ (l : List (List ℕ)). IsCutOff l first later (Clash kept new)) (sym own_is) cut
        by (BookFull bytes) cut = subst (λ (l : List (List ℕ)). IsCutOff l first later (BookFull bytes)) (sym own_is) cut

  -- the slot is shut
  module _ (none : get nat_cmp old.slots slot ≡ None) where
    pub shut : r.slots slot ≡ None
    shut = at (r.slots slot) refl (subst (λ (x : Option World). RunsSlot s (r.slots slot) x) none (h.slots slot))
      where
        at : (o : Option Branch) → r.slots slot ≡ o → RunsSlot s (r.slots slot) None → r.slots slot ≡ None
        at None e k = e
        at (Some b) e k = absurd (subst (λ (x : Option Branch). RunsSlot s x None) e k)

    pub shut_goes : (now : Account) → new.slots ≡ old.slots → new.root ≡ old.root → new.opened ≡ old.opened → string_bytes new.text ≡ string_bytes old.text ++ flat_map printed_line (map (by (Slot slot)) (refusal number event))
        → Stands s (in_slot worlds s number slot event (r.slots slot) r) new × HasHashed (own_hashed s event (events_in s r (Slot slot))) now now
    shut_goes now same_slots same_root same_opened same_text = (
      subst (λ (o : Option Branch). Stands s (in_slot worlds s number slot event o r) new) (sym shut) (record {
        root = ap run_of same_root ∙ h.root;
        within = h.within;
        slots = λ q. subst (λ m. RunsSlot s (r.slots q) (get nat_cmp m q)) (sym same_slots) (h.slots q);
        opened = ap (λ v. map as_opening v.items) same_opened ∙ h.opened;
        text = text_more (string_bytes old.text) (string_bytes new.text) _ r.printed (map (by (Slot slot)) (refusal number event)) h.text same_text refl;
      }),
      subst (λ (o : Option Branch). HasHashed (own_hashed s event o) now now) (sym shut) (hashed_none now),
    )

-- ## Lines of the script

steps_last : (s : RootScript) (n : ℕ) (lines : List RootEvent) (line : RootEvent) (r : Roots) → steps worlds s n (lines ++ line ∷ []) r ≡ step worlds s (n + length lines) line (steps worlds s n lines r)
steps_last s n [] line r = let same : n ≡ n + 0 = omega arith in ap (λ (k : ℕ). step worlds s k line r) same
steps_last s n (x ∷ lines) line r =
    let same : n + 1 + length lines ≡ n + length (x ∷ lines) = omega arith in
    let later : Roots = steps worlds s (n + 1) lines (step worlds s n x r) in
    steps_last s (n + 1) lines line (step worlds s n x r) ∙ ap (λ (k : ℕ). step worlds s k line later) same

hashed_last : (s : RootScript) (n : ℕ) (lines : List RootEvent) (line : RootEvent) (r : Roots) → lines_hashed s n (lines ++ line ∷ []) r ≡ lines_hashed s n lines r ++ line_hashed s (n + length lines) line (steps worlds s n lines r)
hashed_last s n [] line r = let same : n ≡ n + 0 = omega arith in append-nil (line_hashed s n line r) ∙ ap (λ (k : ℕ). line_hashed s k line r) same
hashed_last s n (x ∷ lines) line r =
    let same : n + 1 + length lines ≡ n + length (x ∷ lines) = omega arith in
    let next : Roots = step worlds s n x r in
    ap (λ (l : List (List ℕ)). line_hashed s n x r ++ l) (hashed_last s (n + 1) lines line next ∙ ap (λ (k : ℕ). lines_hashed s (n + 1) lines next ++ line_hashed s k line (steps worlds s (n + 1) lines next)) same)
    ∙ sym (append_assoc (line_hashed s n x r) (lines_hashed s (n + 1) lines next) (line_hashed s (n + length (x ∷ lines)) line (steps worlds s (n + 1) lines next)))

hashed_parts : (s : RootScript) (n : ℕ) (lines : List RootEvent) (line : RootEvent) (rest : List RootEvent) (r : Roots) → StartsWith (lines_hashed s n (lines ++ line ∷ []) r) (lines_hashed s n (lines ++ line ∷ rest) r)
hashed_parts s n [] line rest r = (lines_hashed s (n + 1) rest (step worlds s n line r), ap (λ (l : List (List ℕ)). l ++ lines_hashed s (n + 1) rest (step worlds s n line r)) (sym (append-nil (line_hashed s n line r))))
hashed_parts s n (x ∷ lines) line rest r =
    let later = hashed_parts s (n + 1) lines line rest (step worlds s n x r) in
    (later.0, ap (λ (l : List (List ℕ)). line_hashed s n x r ++ l) later.1 ∙ sym (append_assoc (line_hashed s n x r) (lines_hashed s (n + 1) (lines ++ line ∷ []) (step worlds s n x r)) later.0))

pub stands_within : (s : RootScript) (r : Roots) (w : RootWorlds) → Stands s r w → AreWithin s r
stands_within s r w h Root b is =
    let root : Branch = record { opening = record { event = 0; view = s.view }; events = r.root } in
    subst (λ (x : Branch). IsWithinMessages (branch_run s x)) (same_Some root b is) h.within
stands_within s r w h (Slot slot) b is = by (get nat_cmp w.slots slot) (subst (λ (o : Option Branch). RunsSlot s o (get nat_cmp w.slots slot)) is (h.slots slot))
  where
    by : (o : Option World) → RunsSlot s (Some b) o → IsWithinMessages (branch_run s b)
    by None k = absurd k
    by (Some v) k = k.1

-- the worlds have run the lines so far, and the hasher took their strings
pub record Doing (s : RootScript) (place : ℕ) (first : Account) (w : RootWorlds) (now : Account) : Type 0 where
  pub stands : Stands s (steps worlds s 1 (take place s.events) at_first) w
  pub has : HasHashed ((opening_run newest s.peers s.view).hashed ++ lines_hashed s 1 (take place s.events) at_first) first now

pub doing_first : (s : RootScript) (first : Account) (w : RootWorlds) (now : Account) → Stands s at_first w → HasHashed (opening_run newest s.peers s.view).hashed first now → Doing s 0 first w now
doing_first s first w now stands has = record { stands = stands; has = subst (λ (l : List (List ℕ)). HasHashed l first now) (sym (append-nil (opening_run newest s.peers s.view).hashed)) has }

module _ (s : RootScript) (place : ℕ) (first : Account) (old new : RootWorlds) (mid now : Account) (line : RootEvent) (here : slice_get s.events place ≡ Some line) (few : place ≤ length s.events) (doing : Doing s place first old mid) where
  abbrev before : List RootEvent
  before = take place s.events

  abbrev pub so_far : Roots
  so_far = steps worlds s 1 before at_first

  abbrev opens : List (List ℕ)
  opens = (opening_run newest s.peers s.view).hashed

  number : 1 + length before ≡ place + 1
  number = omega (arith, length-take-le place s.events few)

  next_steps : steps worlds s 1 (take (place + 1) s.events) at_first ≡ step worlds s (place + 1) line so_far
  next_steps = ap (λ (l : List RootEvent). steps worlds s 1 l at_first) (take_one s.events place line here) ∙ steps_last s 1 before line at_first ∙ ap (λ (k : ℕ). step worlds s k line so_far) number

  next_strings : lines_hashed s 1 (take (place + 1) s.events) at_first ≡ lines_hashed s 1 before at_first ++ line_hashed s (place + 1) line so_far
  next_strings = ap (λ (l : List RootEvent). lines_hashed s 1 l at_first) (take_one s.events place line here) ∙ hashed_last s 1 before line at_first ∙ ap (λ (k : ℕ). lines_hashed s 1 before at_first ++ line_hashed s k line so_far) number

  more_strings : opens ++ lines_hashed s 1 (take (place + 1) s.events) at_first ≡ (opens ++ lines_hashed s 1 before at_first) ++ line_hashed s (place + 1) line so_far
  more_strings = ap (λ (l : List (List ℕ)). opens ++ l) next_strings ∙ sym (append_assoc opens (lines_hashed s 1 before at_first) (line_hashed s (place + 1) line so_far))

  pub doing_next : Stands s (step worlds s (place + 1) line so_far) new × HasHashed (line_hashed s (place + 1) line so_far) mid now → Doing s (place + 1) first new now
  doing_next goes = record {
    stands = subst (λ (r : Roots). Stands s r new) (sym next_steps) goes.0;
    has = subst (λ (l : List (List ℕ)). HasHashed l first now) (sym more_strings) (hashed_all (opens ++ lines_hashed s 1 before at_first) (line_hashed s (place + 1) line so_far) first mid now doing.has goes.1);
  }

  at_line : CameTo s before line first mid
  at_line = record { rest = drop (place + 1) s.events; are = split_at s.events place line here; within = stands_within s so_far old doing.stands; has = doing.has }

  rejects_line : (e : WorldError) → IsCutOff (line_hashed s (place + 1) line so_far) mid now e → RejectsIn s first (λ strings m. IsCutOff strings m now e)
  rejects_line e cut = inr (before, line, mid, at_line, subst (λ (k : ℕ). IsCutOff (line_hashed s k line so_far) mid now e) (sym number) cut)

  stops_there : (e : WorldError) → StopsLine s (place + 1) line so_far mid now e → StopsIn s first now e
  stops_there e there = inr (before, line, mid, at_line, subst (λ (k : ℕ). StopsLine s k line so_far mid now e) (sym number) there)

  pub stops : (T : Type 0) (e : WorldError) → Goes {T = T} s (step worlds s (place + 1) line so_far) (line_hashed s (place + 1) line so_far) (PassesWith s so_far (ensemble_of line) (own_event line)) mid now new (Err e) → StopsLine s (place + 1) line so_far mid now e → IsStopped s first now e
  stops T MessageLimit passes there = (record { done = before; line = line; mid = mid; came = at_line; passes = passes }, stops_there MessageLimit there)
  stops T Memory goes there = (inl tt, inl tt)
  stops T (Clash kept new) goes there = (rejects_line (Clash kept new) goes, stops_there (Clash kept new) there)
  stops T (BookFull bytes) goes there = (rejects_line (BookFull bytes) goes, stops_there (BookFull bytes) there)

-- the opening was cut off
pub opening_stops : (s : RootScript) (first now : Account) (e : WorldError) → IsCutOff (opening_run newest s.peers s.view).hashed first now e → IsStopped s first now e
opening_stops s first now MessageLimit cut = absurd cut
opening_stops s first now Memory cut = (inl tt, inl tt)
opening_stops s first now (Clash kept new) cut =
    let all = subst (λ (l : List (List ℕ)). IsCutOff l first now (Clash kept new)) (sym (append-nil (opening_run newest s.peers s.view).hashed)) cut in
    (inl all, inl all)
opening_stops s first now (BookFull bytes) cut =
    let all = subst (λ (l : List (List ℕ)). IsCutOff l first now (BookFull bytes)) (sym (append-nil (opening_run newest s.peers s.view).hashed)) cut in
    (inl all, inl all)

-- ## What a run that ended in a line says of the whole

module _ (s : RootScript) where
  -- the strings up to a line come first
  whole : (done : List RootEvent) (line : RootEvent) (rest : List RootEvent) → s.events ≡ done ++ line ∷ rest → StartsWith (hashed_until s done ++ line_hashed s (1 + length done) line (steps worlds s 1 done at_first)) (hashed_by s)
  whole done line rest are =
      let opens : List (List ℕ) = (opening_run newest s.peers s.view).hashed in
      let strings : List (List ℕ) = line_hashed s (1 + length done) line (steps worlds s 1 done at_first) in
      let parts = hashed_parts s 1 done line rest at_first in
      let all : lines_hashed s 1 s.events at_first ≡ lines_hashed s 1 (done ++ line ∷ rest) at_first = ap (λ (l : List RootEvent). lines_hashed s 1 l at_first) are in
      let last : lines_hashed s 1 (done ++ line ∷ []) at_first ≡ lines_hashed s 1 done at_first ++ strings = hashed_last s 1 done line at_first in (
        parts.0,
        ap (λ (l : List (List ℕ)). opens ++ l) (all ∙ parts.1 ∙ ap (λ (l : List (List ℕ)). l ++ parts.0) last)
            ∙ sym (append_assoc opens (lines_hashed s 1 done at_first ++ strings) parts.0)
            ∙ ap (λ (l : List (List ℕ)). l ++ parts.0) (sym (append_assoc opens (lines_hashed s 1 done at_first) strings)),
      )

  opening_first : StartsWith (hashed_until s []) (hashed_by s)
  opening_first =
      let opens : List (List ℕ) = (opening_run newest s.peers s.view).hashed in
      (lines_hashed s 1 s.events at_first, ap (λ (l : List (List ℕ)). l ++ lines_hashed s 1 s.events at_first) (sym (append-nil opens)))

  pub rejects_whole : (first now : Account) (e : WorldError) → RejectsIn s first (λ strings mid. IsCutOff strings mid now e) → IsCutOff (hashed_by s) first now e
  rejects_whole first now e (inl cut) = cut_off_further (hashed_until s []) (hashed_by s) first now e opening_first cut
  rejects_whole first now e (inr (done, line, mid, came, cut)) =
      let strings : List (List ℕ) = line_hashed s (1 + length done) line (steps worlds s 1 done at_first) in
      cut_off_further (hashed_until s done ++ strings) (hashed_by s) first now e (whole done line came.rest came.are) (cut_off_after (hashed_until s done) strings first mid now e came.has cut)

  -- a string that did not fit, whatever number the error has
  pub rejects_filled : (first now : Account) (n : ℕ) → RejectsIn s first (λ strings mid. IsCutOff strings mid now (BookFull n)) → RejectsIn s first (λ strings mid. HasFilled strings mid now)
  rejects_filled first now n (inl cut) = inl cut.0
  rejects_filled first now n (inr (done, line, mid, came, cut)) = inr (done, line, mid, came, cut.0)

  pub passes_limit : (first : Account) → PassesIn s first → PassesLimit s
  passes_limit first p = record { done = p.done; line = p.line; rest = p.came.rest; are = p.came.are; passes = p.passes }

-- after the last line
pub doing_last : (s : RootScript) (place : ℕ) (first : Account) (w : RootWorlds) (now : Account) → length s.events ≤ place → Doing s place first w now → Stands s (steps worlds s 1 s.events at_first) w × HasHashed (hashed_by s) first now
doing_last s place first w now le doing =
    let whole : take place s.events ≡ s.events = take_all place s.events le in (
      subst (λ (l : List RootEvent). Stands s (steps worlds s 1 l at_first) w) whole doing.stands,
      subst (λ (l : List RootEvent). HasHashed ((opening_run newest s.peers s.view).hashed ++ lines_hashed s 1 l at_first) first now) whole doing.has,
    )

-- ## Worlds that open

-- nothing was read yet
pub stands_first : (s : RootScript) (w : RootWorlds) → run_of w.root ≡ unhashed (opening_run newest s.peers s.view) → w.slots.entries ≡ [] → w.opened.items ≡ [] → string_bytes w.text ≡ [] → Stands s at_first w
stands_first s w opens none shut silent = record {
  root = opens;
  within = omega arith;
  slots = λ slot. subst (λ (es : List (ℕ × World)). RunsSlot s None (lookup (is_at (nat_cmp slot)) es)) (sym none) tt;
  opened = ap (map as_opening) shut;
  text = silent;
}

module _ (s : RootScript) (number slot : ℕ) (view : List ℕ) (r : Roots) (old : RootWorlds) (h : Stands s r old) where
  abbrev next : Roots
  next = open_slot number slot view (r.slots slot) r

  -- it opens
  pub opened_goes : (new : RootWorlds) (w : World) (first now : Account) → get nat_cmp old.slots slot ≡ None → run_of w ≡ unhashed (opening_run newest s.peers view)
      → ((q : ℕ) → get nat_cmp new.slots q ≡ cond (is_at (nat_cmp slot) q) (Some w) (get nat_cmp old.slots q)) → new.root ≡ old.root → new.opened.items ≡ old.opened.items ++ (slot, view, number) ∷ [] → string_bytes new.text ≡ string_bytes old.text
      → HasHashed (opening_run newest s.peers view).hashed first now → Stands s next new × HasHashed (opened_hashed s (opened_since r next)) first now
  opened_goes new w first now none opens puts same_root more same_text has = (
    slot_stands s number slot view r old new w none opens puts same_root more same_text h,
    subst (λ (l : List (List ℕ)). HasHashed l first now) (sym (slot_hashed s number slot view r old old none h)) has,
  )

  -- it would open
  pub cut_opening : (T : Type 0) (new : RootWorlds) (first now : Account) (e : WorldError) (Passes : Type 0) → get nat_cmp old.slots slot ≡ None → IsCutOff (opening_run newest s.peers view).hashed first now e → Goes {T = T} s next (opened_hashed s (opened_since r next)) Passes first now new (Err e)
  cut_opening T new first now e Passes none cut =
      cut_goes s next Passes T (opened_hashed s (opened_since r next)) first now new e (subst (λ (l : List (List ℕ)). IsCutOff l first now e) (sym (slot_hashed s number slot view r old old none h)) cut)

-- ## Lines of the root, one after another

module _ (s : RootScript) (number before : ℕ) (printed_by : List Printed) (r : Roots) where
  -- after the lines up to this place
  abbrev pub after_lines : ℕ → Roots
  after_lines place = open_lines s.events number (drop before (take place printed_by)) r

  abbrev pub after_hashed : ℕ → List (List ℕ)
  after_hashed place = opened_hashed s (opened_since r (after_lines place))

  module _ (place : ℕ) (line : Printed) (here : slice_get printed_by place ≡ Some line) (low : before ≤ place) (high : place ≤ length printed_by) where
    one_line : after_lines (place + 1) ≡ open_line s.events number line (after_lines place)
    one_line =
        ap (λ (l : List Printed). open_lines s.events number (drop before l) r) (take_one printed_by place line here)
        ∙ ap (λ (l : List Printed). open_lines s.events number l r) (drop_append before (take place printed_by) (line ∷ []) (omega (arith, low, length-take-le place printed_by high)))
        ∙ lines_one s.events number (drop before (take place printed_by)) line r

    strings : after_hashed (place + 1) ≡ after_hashed place ++ opened_hashed s (opened_since (after_lines place) (open_line s.events number line (after_lines place)))
    strings =
        ap (λ (x : Roots). opened_hashed s (opened_since r x)) one_line
        ∙ hashed_more s r (after_lines place) (open_line s.events number line (after_lines place)) (lines_open s.events number (drop before (take place printed_by)) r) (line_opens s.events number line (after_lines place))

    pub lines_next : (new : RootWorlds) (first mid now : Account) → HasHashed (after_hashed place) first mid → Stands s (open_line s.events number line (after_lines place)) new × HasHashed (opened_hashed s (opened_since (after_lines place) (open_line s.events number line (after_lines place)))) mid now
        → Stands s (after_lines (place + 1)) new × HasHashed (after_hashed (place + 1)) first now
    lines_next new first mid now has goes = (
      subst (λ (x : Roots). Stands s x new) (sym one_line) goes.0,
      subst (λ (l : List (List ℕ)). HasHashed l first now) (sym strings) (hashed_all (after_hashed place) _ first mid now has goes.1),
    )

    -- the whole has more strings
    whole_strings : StartsWith (after_hashed (place + 1)) (opened_hashed s (opened_since r (open_lines s.events number (drop before printed_by) r)))
    whole_strings =
        let next : Roots = after_lines (place + 1) in
        let rest : List Printed = drop (place + 1) printed_by in
        let last : Roots = open_lines s.events number rest next in
        let parts : drop before printed_by ≡ drop before (take (place + 1) printed_by) ++ rest = ap (drop before) (parted printed_by (place + 1)) ∙ drop_append before (take (place + 1) printed_by) rest (omega (arith, low, longer)) in
        let all : open_lines s.events number (drop before printed_by) r ≡ last = ap (λ (l : List Printed). open_lines s.events number l r) parts ∙ lines_both s.events number (drop before (take (place + 1) printed_by)) rest r in (
          opened_hashed s (opened_since next last),
          ap (λ (x : Roots). opened_hashed s (opened_since r x)) all ∙ hashed_more s r next last (lines_open s.events number (drop before (take (place + 1) printed_by)) r) (lines_open s.events number rest next),
        )
      where
        longer : place ≤ length (take (place + 1) printed_by)
        longer = omega (arith, ap (λ (l : List Printed). length l) (take_one printed_by place line here), length-append (take place printed_by) (line ∷ []), length-take-le place printed_by high)

    pub lines_refused : (T : Type 0) (new : RootWorlds) (first mid now : Account) (e : WorldError) (Passes : Type 0) (last : Roots) → HasHashed (after_hashed place) first mid
        → Goes {T = T} s (open_line s.events number line (after_lines place)) (opened_hashed s (opened_since (after_lines place) (open_line s.events number line (after_lines place)))) Passes mid now new (Err e)
        → Goes {T = T} s last (opened_hashed s (opened_since r (open_lines s.events number (drop before printed_by) r))) Passes first now new (Err e)
    lines_refused T new first mid now MessageLimit Passes last has goes = goes
    lines_refused T new first mid now Memory Passes last has goes = tt
    lines_refused T new first mid now (Clash kept bytes) Passes last has goes = further (Clash kept bytes) (cut_off_after (after_hashed place) _ first mid now (Clash kept bytes) has goes)
      where
        further : (e : WorldError) → IsCutOff (after_hashed place ++ opened_hashed s (opened_since (after_lines place) (open_line s.events number line (after_lines place)))) first now e → IsCutOff (opened_hashed s (opened_since r (open_lines s.events number (drop before printed_by) r))) first now e
        further e cut = cut_off_further (after_hashed (place + 1)) _ first now e whole_strings (subst (λ (l : List (List ℕ)). IsCutOff l first now e) (sym strings) cut)
    lines_refused T new first mid now (BookFull bytes) Passes last has goes = further (BookFull bytes) (cut_off_after (after_hashed place) _ first mid now (BookFull bytes) has goes)
      where
        further : (e : WorldError) → IsCutOff (after_hashed place ++ opened_hashed s (opened_since (after_lines place) (open_line s.events number line (after_lines place)))) first now e → IsCutOff (opened_hashed s (opened_since r (open_lines s.events number (drop before printed_by) r))) first now e
        further e cut = cut_off_further (after_hashed (place + 1)) _ first now e whole_strings (subst (λ (l : List (List ℕ)). IsCutOff l first now e) (sym strings) cut)

-- ## What is found in a map

pub none_there : {A : Type 0} (o : Option A) → false ≡ is_some o → o ≡ None
none_there None h = refl
none_there (Some x) h = absurd cc
