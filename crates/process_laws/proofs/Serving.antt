-- What `serve` promises of a peer, over disks that tell their bytes, is a life that may be joined with others.
use Rattle.std.proofs.Common.{◌≡◌, ◌⊎◌, ◌++◌, ℕ, Bool, List, [], ◌∷◌, append-nil, Option, None, Some, Result, Ok, refl, sym, ap, ◌∙◌, subst, inl, inr}
use Rattle.std.proofs.lemmas.List.{map-append}
use Rattle.disk_stores.specs.Records.{entries_of}
use Rattle.process_laws.proofs.Running.{not_stopped}
use Rattle.process_laws.specs.Memory.{StandsFor}
use Rattle.disk_stores.specs.DiskCalls.{HoldsNodes, HoldsObjects}
use Rattle.disk_stores.specs.NodeMaps.{nodes_of}
use Rattle.ens_base.proofs.Lists.{in_left}
use Rattle.ens_base.specs.Lists.{◌∈◌}
use Rattle.ens_base.specs.declared.peer_words.PeerWords.{PeerWords}
use Rattle.environment.specs.Maps.{Entries}
use Rattle.fact_store.specs.Held.{held_kept}
use Rattle.fact_store.specs.Files.{file_kept}
use Rattle.fact_store.specs.Keeping.{Loads, file_fact}
use Rattle.fact_store.specs.declared.file.FactFile.{FactFile}
use Rattle.stored_formats.specs.declared.fact_error.FactError.{FactError}
use Rattle.stored_formats.specs.declared.saved.SavedFact.{SavedFact}
use Rattle.process_laws.specs.Moments.{Found, stores_found, tops_found}
use Rattle.peer_spec.specs.Starts.{start_of}
use Rattle.peer_server.specs.Commits.{IsFactOfSome, LeavesFacts}
use Rattle.peer_server.specs.DiskPeers.{Of, OnDisks, disks_do, disks_refuse}
use Rattle.peer_server.specs.Serving.{IsDurable, IsFoundOrOfSome}
use Rattle.peer_server.specs.Starting.{Opened, served_mode}
use Rattle.peer_server.specs.declared.disks.Disks.{Disks}
use Rattle.peer_state.specs.Moves.{saved_by}
use Rattle.peer_state.specs.declared.event.Event.{Event}
use Rattle.peer_state.specs.declared.state.State.{State}
use Rattle.process_laws.specs.Served.{HasLived, IsTickOrFrame}
use Rattle.slot_disk.specs.Crash.{LeavesOnly, Told}
use Rattle.slot_disk.specs.SlotFiles.{IsAtRest}
use Rattle.step_plans.specs.Calls.{Call, AnswerOf}
use Rattle.step_plans.specs.Plans.{Finished, Runs, nothing}
use Rattle.step_plans.specs.declared.error.PeerError.{PeerError}
use Rattle.peer_turns.specs.Deeds.{Deed, Did, events_in}
use Rattle.world_spec.specs.Held.{HeldStores}
use Rattle.world_stores.specs.Facts.{kept_of}
use Rattle.world_stores.specs.Nodes.{top_of}
use Rattle.process_laws.specs.Acts.{deeds_in, steps}
use Rattle.process_laws.specs.Joined.{AreSpoiled, fact_on_disk}
use Rattle.process_laws.specs.Lives.{FactRead, IsOccasion, Leads}
use Rattle.process_laws.specs.JoinedServed.{AreBytes, IsAfterSome, IsLifeOf, MayBeJoined, ServedLivesJoin, Tells, found_in}
use Rattle.process_laws.proofs.Keeping.{start_keeps, steps_keep}

-- what a disk that is there and tells these bytes holds
told_of : {D : Type 0} (seen : D → Option (List ℕ)) (P : List ℕ → Type 0) (X : D → Type 0) (o : Option D) (file : List ℕ) → Tells seen o file → Of o (λ d. Told (seen d) P × X d) → P file
told_of seen P X None file none holds = absurd none
told_of seen P X (Some d) file is holds = subst (λ (bytes : Option (List ℕ)). Told bytes P) is holds.0

-- what is known of a disk that is there and tells these bytes
pub known_of : {D : Type 0} (seen : D → Option (List ℕ)) (P : D → List ℕ → Type 0) (Q : D → Type 0) (o : Option D) (file : List ℕ) → Tells seen o file → ((d : D) → P d file → Q d) → Of o (λ d. Told (seen d) (P d)) → Of o Q
known_of seen P Q None file none follows holds = absurd none
known_of seen P Q (Some d) file is follows holds = follows d (subst (λ (bytes : Option (List ℕ)). Told bytes (P d)) is holds)

-- what follows of a disk that is there
pub of_some : {D : Type 0} (Q : Type 0) (o : Option D) → Of o (λ d. Q) → Q
of_some Q None holds = absurd holds
of_some Q (Some d) holds = holds

-- the digest that a top record holds
top_found : (top : Option (List ℕ)) → top_of (tops_found top) ≡ top
top_found None = refl
top_found (Some digest) = refl

-- a fact that was loaded is the one that is kept
loaded : (a : Option SavedFact) (kept : Option (Result SavedFact FactError)) (before now : ℕ) → Loads kept before now (Ok a) → kept ≡ kept_of a
loaded None kept before now is = is
loaded (Some f) kept before now is = is

-- the events of some steps are events of all
pub events_of_some : (done later : List Deed) (event : Event) → event ∈ events_in done → event ∈ events_in (done ++ later)
events_of_some done later event here = subst (λ (events : List Event). event ∈ events) (sym (map-append (λ (d : Deed). d.event) done later)) (in_left (events_in done) (events_in later) event here)

-- steps are stages
pub deeds_of_steps : (deeds : List Deed) → deeds_in (steps deeds) ≡ deeds
deeds_of_steps [] = refl
deeds_of_steps (d ∷ deeds) = ap (λ (rest : List Deed). d ∷ rest) (deeds_of_steps deeds)

module _ {P : Type 0} (does : P → (call : Call) → AnswerOf call → P → Type 0) (refuses : P → Call → PeerError → P → Type 0) (spoils : P → Entries → Entries → P → Type 0)
    (holds : P → HeldStores → Type 0) (fact_on : P → FactRead) (view : List ℕ) (p : ℕ) where
  pub did_leads : (deeds : List Deed) (x y : State) (s t : P) → Did does refuses p x s deeds y t → Leads does refuses spoils holds fact_on view p x s (steps deeds) y t
  did_leads [] x y s t did = did
  did_leads (d ∷ deeds) x y s t did = (did.0, did.1, did.2, did_leads deeds did.0 y did.1 t did.3)

module _ {D : Type 0} (seen : D → Option (List ℕ)) (faults : D → ℕ) where
  abbrev does : OnDisks D → (call : Call) → AnswerOf call → OnDisks D → Type 0
  does = disks_do seen faults

  abbrev refuses : OnDisks D → Call → PeerError → OnDisks D → Type 0
  refuses = disks_refuse seen faults

  -- a start that came to its end loaded a fact, or found none
  fact_of : (view : List ℕ) (s t : OnDisks D) (x : State) → Runs does refuses (start_of served_mode view) s [] (Finished x nothing) t [] → (fact : Option SavedFact) × (held_kept s.0.facts ≡ kept_of fact)
  fact_of view s t x (inl cut) = absurd (not_stopped x nothing _ cut.0)
  fact_of view s t x (inr (inl refused)) = absurd (not_stopped x nothing refused.0 refused.2)
  fact_of view s t x (inr (inr on)) = (on.0, loaded on.0 (held_kept s.0.facts) 0 0 on.2.0)

  -- the event of a step is that of bytes that a look gave
  of_looks : (w : PeerWords) (looks : List (Option (List ℕ))) (event : Event) → AreBytes looks → IsTickOrFrame w looks event → IsOccasion w.me event
  of_looks w looks event bytes (inl tick) = inl tick
  of_looks w looks event bytes (inr came) = inr (inl (w, came.0, refl, bytes came.0 came.1, came.2))

  -- a start over stores that hold what was found, and some of the steps that followed
  module _ (w : PeerWords) (found : Found) (s t : OnDisks D) (x : State) (stands : StandsFor seen s (stores_found found)) (starts : Runs does refuses (start_of served_mode w.view) s [] (Finished x nothing) t [])
      (deeds : List Deed) (events : (event : Event) → event ∈ events_in deeds → IsOccasion w.me event) where
    abbrev life_of : (done later : List Deed) (y : State) (left : OnDisks D) → deeds ≡ done ++ later → Did does refuses w.me x t done y left → IsLifeOf seen faults w found done
    life_of done later y left all did = record {
      opened = s;
      finds = stands;
      first = x;
      started = t;
      starts = starts;
      last = y;
      left = left;
      leads = did_leads does refuses (AreSpoiled seen) (StandsFor seen) fact_on_disk w.view w.me done x y t left did;
      events = λ event here. events event (subst (λ (ds : List Deed). event ∈ events_in ds) (sym all) (events_of_some done later event (subst (λ (ds : List Deed). event ∈ events_in ds) (deeds_of_steps done) here)));
    }

    -- its stores keep the fact of its last state
    keeps_fact : (done : List Deed) (y : State) (left : OnDisks D) → Did does refuses w.me x t done y left → held_kept left.0.facts ≡ Some (Ok (saved_by y))
    keeps_fact done y left did = steps_keep seen faults w.me done x y t left did (start_keeps seen faults served_mode w.view s t x starts)

    -- the fact of the state after some of the steps
    after_some : (now : FactRead) → IsFactOfSome does refuses w.me x t deeds now → IsAfterSome seen faults w found deeds now
    after_some now some = record {
      done = some.1.done;
      later = some.1.later;
      all = some.1.all;
      lived = life_of some.1.done some.1.later some.0 some.1.stores some.1.all some.1.did;
      is = some.2 ∙ sym (keeps_fact some.1.done some.0 some.1.stores some.1.did);
    }

module _ {D L T : Type 0} (seen : D → Option (List ℕ)) (may_leave : D → List ℕ → Type 0) (moment : D → ℕ) (left_since : D → ℕ → List ℕ → Type 0) (faults : D → ℕ)
    (sent : L → Option (List (ℕ × List ℕ))) (given : L → Option (List (Option (List ℕ)))) (link_faults : L → ℕ) (coming : T → Option (ℕ → Bool)) where
  -- stores that were opened on disks that tell these bytes
  opened_stand : (disks : Disks D) (s : OnDisks D) (file : FactFile D) → Opened seen may_leave moment left_since faults disks s file → (nodes objects : List ℕ) → Tells seen disks.nodes nodes → Tells seen disks.objects objects → (fact : Option SavedFact) → held_kept s.0.facts ≡ kept_of fact
      → StandsFor seen s (stores_found (found_in fact nodes objects))
  opened_stand disks s file opened nodes objects nodes_tell objects_tell fact is = record {
    objects = told_of seen (λ bytes. HoldsObjects seen s.0.backend (entries_of bytes)) (λ d. faults s.0.backend.log.file.disk ≡ faults d) disks.objects objects objects_tell opened.objects;
    nodes = subst (λ (top : Option (List ℕ)). HoldsNodes seen s.0.tree.store (record { entries = (nodes_of nodes).entries; top = top })) (sym (top_found (nodes_of nodes).top))
        (told_of seen (λ bytes. HoldsNodes seen s.0.tree.store (nodes_of bytes)) (λ d. faults s.0.tree.store.log.file.disk ≡ faults d) disks.nodes nodes nodes_tell opened.nodes);
    fact = is;
    none = record { facts = refl; tree = refl; backend = refl };
  }

  module _ (w : PeerWords) (disks disks_after : Disks D) (link link_after : L) (served : HasLived seen may_leave moment left_since faults sent given link_faults coming w disks disks_after link link_after) (facts nodes objects : List ℕ)
      (facts_tell : Tells seen disks.facts facts) (nodes_tell : Tells seen disks.nodes nodes) (objects_tell : Tells seen disks.objects objects) (bytes : AreBytes served.on.life.looks) where
    fact : (fact : Option SavedFact) × (held_kept served.on.stores.0.facts ≡ kept_of fact)
    fact = fact_of seen faults w.view served.on.stores served.on.life.first.stores served.on.life.first.state served.on.life.starts

    facts_are : held_kept served.on.stores.0.facts ≡ file_fact facts
    facts_are = served.on.opened.held ∙ (told_of seen (λ file. IsAtRest seen may_leave served.on.file.slots × (file_kept served.on.file ≡ file_fact file)) (λ d. faults served.on.file.slots.disk ≡ faults d) disks.facts facts facts_tell served.on.opened.facts).1

    abbrev found : Found
    found = found_in fact.0 nodes objects

    stands : StandsFor seen served.on.stores (stores_found found)
    stands = opened_stand disks served.on.stores served.on.file served.on.opened nodes objects nodes_tell objects_tell fact.0 fact.1

    events : (event : Event) → event ∈ events_in served.on.life.deeds → IsOccasion w.me event
    events event here = of_looks seen faults w served.on.life.looks event bytes (served.on.events event here)

    abbrev life : (done later : List Deed) (y : State) (left : OnDisks D) → served.on.life.deeds ≡ done ++ later → Did (disks_do seen faults) (disks_refuse seen faults) w.me served.on.life.first.state served.on.life.first.stores done y left → IsLifeOf seen faults w found done
    life = life_of seen faults w found served.on.stores served.on.life.first.stores served.on.life.first.state stands served.on.life.starts served.on.life.deeds events

    keeps : (done : List Deed) (y : State) (left : OnDisks D) → Did (disks_do seen faults) (disks_refuse seen faults) w.me served.on.life.first.state served.on.life.first.stores done y left → held_kept left.0.facts ≡ Some (Ok (saved_by y))
    keeps = keeps_fact seen faults w found served.on.stores served.on.life.first.stores served.on.life.first.state stands served.on.life.starts served.on.life.deeds events

    abbrev After : FactRead → Type 0
    After now = IsAfterSome seen faults w found served.on.life.deeds now

    abbrev whole : IsLifeOf seen faults w found served.on.life.deeds
    whole = life served.on.life.deeds [] served.on.life.last.state served.on.life.last.stores (sym (append-nil served.on.life.deeds)) served.on.life.went.did

    -- what is known of the facts at the end, and at any moment, if these were found
    abbrev AtEnd : FactRead → FactRead → Type 0
    AtEnd read now = IsDurable seen may_leave moment left_since faults sent given link_faults coming w served.kept served.state read now ⊎ (now ≡ Some (Ok (saved_by served.on.life.last.state)))

    abbrev Ever : FactRead → FactRead → Type 0
    Ever read now = IsFoundOrOfSome seen may_leave moment left_since faults sent given link_faults coming w served.on.life.first.state served.on.life.first.stores served.on.life.deeds read now

    abbrev Known : D → List ℕ → Type 0
    Known d file = LeavesFacts may_leave moment left_since d served.on.end_file.slots.disk (AtEnd (file_fact file)) (Ever (file_fact file))

    abbrev Ends : FactRead → Type 0
    Ends now = (now ≡ held_kept served.left.0.facts) ⊎ ((now ≡ held_kept served.on.life.last.stores.0.facts) ⊎ ((served.kept ≡ []) × (now ≡ file_fact facts)))

    ends : (now : FactRead) → AtEnd (file_fact facts) now → Ends now
    ends now (inl (inl none)) = inr (inr none)
    ends now (inl (inr is)) = inl (is ∙ sym (keeps served.kept served.state served.left served.reached))
    ends now (inr is) = inr (inl (is ∙ sym (keeps served.on.life.deeds served.on.life.last.state served.on.life.last.stores served.on.life.went.did)))

    abbrev Left : D → Type 0
    Left d = LeavesOnly moment left_since d served.on.end_file.slots.disk (λ file. may_leave d file ⊎ ((file_fact file ≡ file_fact facts) ⊎ After (file_fact file)))

    ever : (d : D) (file : List ℕ) → may_leave d file ⊎ Ever (file_fact facts) (file_fact file) → may_leave d file ⊎ ((file_fact file ≡ file_fact facts) ⊎ After (file_fact file))
    ever d file (inl first) = inl first
    ever d file (inr (inl found)) = inr (inl found)
    ever d file (inr (inr some)) =
        inr (inr (after_some seen faults w found served.on.stores served.on.life.first.stores served.on.life.first.state stands served.on.life.starts served.on.life.deeds events (file_fact file) some))

    either_left : (d : D) (t : ℕ) (file : List ℕ) → left_since d t file ⊎ (may_leave d file ⊎ Ever (file_fact facts) (file_fact file)) → left_since d t file ⊎ (may_leave d file ⊎ ((file_fact file ≡ file_fact facts) ⊎ After (file_fact file)))
    either_left d t file (inl old) = inl old
    either_left d t file (inr new) = inr (ever d file new)

    left_known : (d : D) → Known d facts → Left d
    left_known d known = record {
      later = known.any_moment.later;
      each = λ file left. ever d file (known.any_moment.each file left);
      before = λ t file early left. either_left d t file (known.any_moment.before t file early left);
    }

    end_known : (file : List ℕ) → may_leave served.on.end_file.slots.disk file → AtEnd (file_fact facts) (file_fact file)
    end_known file may = of_some (AtEnd (file_fact facts) (file_fact file)) disks.facts (known_of seen Known (λ d. AtEnd (file_fact facts) (file_fact file)) disks.facts facts facts_tell (λ d known. known.at_end file may) served.facts)

    joined : MayBeJoined seen may_leave moment left_since faults sent given link_faults coming w disks disks_after link link_after served facts nodes objects
    joined = record {
      fact = fact.0;
      is = sym facts_are ∙ fact.1;
      lived = life served.kept served.late served.state served.left served.steps served.reached;
      whole = whole;
      at_end = λ file may. ends (file_fact file) (end_known file may);
      ever = known_of seen Known Left disks.facts facts facts_tell left_known served.facts;
    }

  pub served_join : ServedLivesJoin seen may_leave moment left_since faults sent given link_faults coming
  served_join = joined
