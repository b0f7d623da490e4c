-- Counts of faults and refusals along a plan.
use Rattle.std.specs.Prelude.{Option, Some, None, if◌then◌else◌}
use Rattle.std.proofs.Common.{◌≡◌, ◌≤◌, ◌++◌, ◌∷◌, [], ℕ, Bool, true, false, List, Result, inl, inr, ◌∙◌, ap, arith}
use Rattle.ens_base.proofs.Causes.{rose_later, same_count}
use Rattle.hash_book.specs.Hashing.{Book}
use Rattle.environment.specs.Stores.{BackendCall, BackendAnswer, NodeCall, NodeAnswer}
use Rattle.environment.specs.declared.errors.StoreError.{StoreError}
use Rattle.fact_store.specs.Keeping.{KeeperCall, KeeperAnswer}
use Rattle.fact_store.specs.declared.error.KeepError.{KeepError}
use Rattle.stored_formats.specs.declared.fact_error.FactError.{FactError}
use Rattle.stored_formats.specs.declared.saved.SavedFact.{SavedFact}
use Rattle.register_model.specs.declared.note.Note.{Note}
use Rattle.step_plans.specs.Calls.{Call, Load, Save, FreshTree, OpenTree, Root, Find, Enter, ScanTree, ReadNode, Install, Fetch, Put, Hash, AnswerOf}
use Rattle.step_plans.specs.Plans.{Plan, Done, Say, Ask, Out, Ending, Stopped, Runs, Follows}
use Rattle.step_plans.specs.declared.error.PeerError.{PeerError}
use Rattle.step_plans.specs.declared.error.PeerError.TheVariants as errors
use Rattle.synctree.specs.declared.tree.Tree.{Tree}
use Rattle.tree_node.specs.declared.body.Scan.{Scan}
use Rattle.tree_node.specs.declared.version.TreeVersion.{TreeVersion}
use Rattle.tree_node.specs.declared.version.TreeVersion.TheVariants.{One, Two}
use Rattle.peer_spec.specs.Kept.{IsStepCall, IsCallError}
use Rattle.peer_spec.specs.Starts.{IsStartError, start_of, saves_opening, seals_opening, opened, continued, is_whole, migrated, reseals_if, scanned, continued_in}
use Rattle.peer_stores.specs.Stores.{stores_do, stores_refuse, FactsAlone, TreeLater, IsTreeError, AreLater, SomeRose, IsCause}
use Rattle.peer_state.specs.declared.state.Mode.{Mode}
use Rattle.peer_state.specs.declared.state.State.{State}
use Rattle.peer_stores.specs.declared.stores.Stores.{Stores}

-- this error stopped the plan
abbrev stop : PeerError → Ending State
stop e = Stopped e

stopped_injective : (e error : PeerError) → stop e ≡ stop error → e ≡ error
stopped_injective e error same = grind (arith, same)

-- a call that a start may make
abbrev IsStartCall : Call → Type 0
IsStartCall Load = Unit {0}
IsStartCall (Save fact) = Unit {0}
IsStartCall (FreshTree tree) = Unit {0}
IsStartCall (OpenTree seal tree) = Unit {0}
IsStartCall Root = Unit {0}
IsStartCall ScanTree = Unit {0}
IsStartCall (Install entries) = Unit {0}
IsStartCall other = ⊥

abbrev AnyEnd : State → Out → Type 0
AnyEnd x out = Unit {0}

saves_calls : (mode : Mode) (view : List ℕ) (seal : Option (List ℕ)) → Follows IsStartCall AnyEnd (saves_opening mode view seal)
saves_calls mode view seal = (tt, λ u. tt)

seals_calls : (seals : Bool) (mode : Mode) (view : List ℕ) → Follows IsStartCall AnyEnd (seals_opening seals mode view)
seals_calls true mode view = (tt, λ root. saves_calls mode view root)
seals_calls false mode view = saves_calls mode view None

resealed_calls : (seal : Option (List ℕ)) (mode : Mode) (saved : SavedFact) → Follows IsStartCall AnyEnd (reseals_if seal mode saved)
resealed_calls None mode saved = tt
resealed_calls (Some seal) mode saved = (tt, λ root. (tt, λ u. tt))

scanned_calls : (mode : Mode) (saved : SavedFact) (scan : Scan) → Follows IsStartCall AnyEnd (scanned mode saved scan)
scanned_calls mode saved scan = by (is_whole scan)
  where
    by : (whole : Bool) → Follows IsStartCall AnyEnd (if whole then migrated mode saved scan.entries else continued Two mode saved)
    by true = (tt, λ u. (tt, λ v. resealed_calls saved.seal mode saved))
    by false = (tt, λ u. tt)

continued_calls : (tree : TreeVersion) (mode : Mode) (saved : SavedFact) → Follows IsStartCall AnyEnd (continued_in tree mode saved)
continued_calls One mode saved = (tt, λ u. tt)
continued_calls Two mode saved = (tt, λ u. (tt, λ scan. scanned_calls mode saved scan))

opened_calls : (mode : Mode) (view : List ℕ) (kept : Option SavedFact) → Follows IsStartCall AnyEnd (opened mode view kept)
opened_calls mode view None = (tt, λ u. seals_calls mode.sealing mode view)
opened_calls mode view (Some saved) = continued_calls mode.tree mode saved

-- a start makes only such calls
start_calls : (mode : Mode) (view : List ℕ) → Follows IsStartCall AnyEnd (start_of mode view)
start_calls mode view = (tt, λ kept. opened_calls mode view kept)

module _ {B N F H : Type 0} (gives : B → (call : BackendCall) → BackendAnswer call → B → Type 0) (loses : B → BackendCall → StoreError → B → Type 0)
    (b : B → ℕ) (reads : N → (call : NodeCall) → NodeAnswer call → N → Type 0) (misses : N → NodeCall → StoreError → N → Type 0) (tops : N → Option (Option (List ℕ))) (n : N → ℕ) (tells : F → (call : KeeperCall) → KeeperAnswer call → F → Type 0) (drops : F → KeeperCall → KeepError → F → Type 0) (kept : F → Option (Result SavedFact FactError)) (f : F → ℕ)
    (strings : H → Option Book) (c d : H → ℕ) where
  tree_later : (s t : Stores B N F × H) → TreeLater n c d s t → AreLater b n f c d s t
  tree_later s t later = record {
    backend = same_count b s.0.backend t.0.backend later.3.0;
    nodes = later.0;
    facts = same_count f s.0.facts t.0.facts later.3.1;
    clashes = later.1;
    fulls = later.2;
  }

  backend_later : (s t : Stores B N F × H) → b s.0.backend ≤ b t.0.backend → t.0.tree ≡ s.0.tree → t.0.facts ≡ s.0.facts → t.1 ≡ s.1 → AreLater b n f c d s t
  backend_later s t le en ef eh = record {
    backend = le;
    nodes = same_count (λ (k : Tree N). n k.store) s.0.tree t.0.tree en;
    facts = same_count f s.0.facts t.0.facts ef;
    clashes = same_count c s.1 t.1 eh;
    fulls = same_count d s.1 t.1 eh;
  }

  facts_later : (s t : Stores B N F × H) → f s.0.facts ≤ f t.0.facts → FactsAlone s t → AreLater b n f c d s t
  facts_later s t le alone = record {
    backend = same_count b s.0.backend t.0.backend alone.0;
    nodes = same_count (λ (k : Tree N). n k.store) s.0.tree t.0.tree alone.1;
    facts = le;
    clashes = same_count c s.1 t.1 alone.2;
    fulls = same_count d s.1 t.1 alone.2;
  }

  hash_later : (s t : Stores B N F × H) → c s.1 ≤ c t.1 → d s.1 ≤ d t.1 → t.0 ≡ s.0 → AreLater b n f c d s t
  hash_later s t lc ld same = record {
    backend = same_count (λ (k : Stores B N F). b k.backend) s.0 t.0 same;
    nodes = same_count (λ (k : Stores B N F). n k.tree.store) s.0 t.0 same;
    facts = same_count (λ (k : Stores B N F). f k.facts) s.0 t.0 same;
    clashes = lc;
    fulls = ld;
  }

  -- an answered call decreases no count
  pub do_later : (s : Stores B N F × H) (call : Call) (a : AnswerOf call) (t : Stores B N F × H) → stores_do gives b reads tops n tells kept f strings c d s call a t → AreLater b n f c d s t
  do_later s Load a t did = facts_later s t did.2 did.3
  do_later s (Save fact) a t did = facts_later s t did.1 did.2
  do_later s (FreshTree tree) a t did = tree_later s t did.1
  do_later s (OpenTree seal tree) a t did = tree_later s t did.1
  do_later s Root a t did = tree_later s t did.1
  do_later s (Find key) a t did = tree_later s t did.1
  do_later s (Enter entry) a t did = tree_later s t did.1
  do_later s ScanTree a t did = tree_later s t did.1
  do_later s (ReadNode at) a t did = tree_later s t did.1
  do_later s (Install entries) a t did = tree_later s t did.1
  do_later s (Fetch key) a t did = backend_later s t did.1 did.2.0 did.2.1 did.2.2
  do_later s (Put key bytes) a t did = backend_later s t did.1 did.2.0 did.2.1 did.2.2
  do_later s (Hash bytes) a t did = hash_later s t did.2 did.3 did.4

  fault : (s : Stores B N F × H) (e : PeerError) (t : Stores B N F × H) → e ≡ errors.StoreFault → SomeRose b n f s.0 t.0 → IsCause b n f c d s t e
  fault s e t is rose = rw is rose

  tree_cause : (s : Stores B N F × H) (e : PeerError) (t : Stores B N F × H) → IsTreeError n c d s e t → IsCause b n f c d s t e
  tree_cause s errors.StoreFault t why = inr (inl why)
  tree_cause s (errors.Clash first second) t why = why
  tree_cause s (errors.BookFull kept) t why = why
  tree_cause s errors.Memory t why = tt
  tree_cause s errors.Halted t why = why
  tree_cause s (errors.BadFact bad) t why = tt

  -- a call is refused because a count rose, because what is kept is not a fact, or out of memory
  pub refusal_cause : (s : Stores B N F × H) (call : Call) (e : PeerError) (t : Stores B N F × H) → stores_refuse loses b reads misses tops n drops kept f strings c d s call e t → IsCause b n f c d s t e
  refusal_cause s Load errors.StoreFault t off = inr (inr off.0.rose)
  refusal_cause s Load (errors.BadFact why) t off = tt
  refusal_cause s Load errors.Memory t off = tt
  refusal_cause s Load errors.Halted t off = off.0
  refusal_cause s Load (errors.Clash first second) t off = absurd off.0
  refusal_cause s Load (errors.BookFull bytes) t off = absurd off.0
  refusal_cause s (Save fact) e t off = fault s e t off.0 (inr (inr off.2.rose))
  refusal_cause s (FreshTree tree) e t off = tree_cause s e t off.1
  refusal_cause s (OpenTree seal tree) e t off = tree_cause s e t off.1
  refusal_cause s Root e t off = tree_cause s e t off.1
  refusal_cause s (Find key) e t off = tree_cause s e t off.1
  refusal_cause s (Enter entry) e t off = tree_cause s e t off.1
  refusal_cause s ScanTree e t off = tree_cause s e t off.1
  refusal_cause s (ReadNode at) e t off = tree_cause s e t off.1
  refusal_cause s (Install entries) e t off = tree_cause s e t off.1
  refusal_cause s (Fetch key) errors.StoreFault t off = inl off.0.1.rose
  refusal_cause s (Fetch key) (errors.BadFact why) t off = tt
  refusal_cause s (Fetch key) errors.Memory t off = tt
  refusal_cause s (Fetch key) errors.Halted t off = off.0
  refusal_cause s (Fetch key) (errors.Clash first second) t off = absurd off.0
  refusal_cause s (Fetch key) (errors.BookFull bytes) t off = absurd off.0
  refusal_cause s (Put key bytes) errors.StoreFault t off = inl off.0.1.rose
  refusal_cause s (Put key bytes) (errors.BadFact why) t off = tt
  refusal_cause s (Put key bytes) errors.Memory t off = tt
  refusal_cause s (Put key bytes) errors.Halted t off = off.0
  refusal_cause s (Put key bytes) (errors.Clash first second) t off = absurd off.0
  refusal_cause s (Put key bytes) (errors.BookFull more) t off = absurd off.0
  refusal_cause s (Hash bytes) errors.StoreFault t off = absurd off.0
  refusal_cause s (Hash bytes) (errors.BadFact why) t off = tt
  refusal_cause s (Hash bytes) errors.Memory t off = tt
  refusal_cause s (Hash bytes) errors.Halted t off = off.0
  refusal_cause s (Hash bytes) (errors.Clash first second) t off = off.0.4
  refusal_cause s (Hash bytes) (errors.BookFull more) t off = off.0.1

  rises : (s m t : Stores B N F × H) → AreLater b n f c d s m → SomeRose b n f m.0 t.0 → SomeRose b n f s.0 t.0
  rises s m t later (inl rose) = inl (rose_later (b s.0.backend) (b m.0.backend) (b t.0.backend) later.backend rose)
  rises s m t later (inr (inl rose)) = inr (inl (rose_later (n s.0.tree.store) (n m.0.tree.store) (n t.0.tree.store) later.nodes rose))
  rises s m t later (inr (inr rose)) = inr (inr (rose_later (f s.0.facts) (f m.0.facts) (f t.0.facts) later.facts rose))

  cause_later : (s m t : Stores B N F × H) (e : PeerError) → AreLater b n f c d s m → IsCause b n f c d m t e → IsCause b n f c d s t e
  cause_later s m t errors.StoreFault later why = rises s m t later why
  cause_later s m t (errors.BadFact bad) later why = why
  cause_later s m t errors.Memory later why = why
  cause_later s m t errors.Halted later why = why
  cause_later s m t (errors.Clash first second) later why = rose_later (c s.1) (c m.1) (c t.1) later.clashes why
  cause_later s m t (errors.BookFull bytes) later why = rose_later (d s.1) (d m.1) (d t.1) later.fulls why

  memory_cause : (s : Stores B N F × H) (e : PeerError) (t : Stores B N F × H) → stop e ≡ stop errors.Memory → IsCause b n f c d s t e
  memory_cause s e t same = rw (stopped_injective e errors.Memory same) tt

  stopped_by : (e error : PeerError) (s t : Stores B N F × H) → stop e ≡ stop error → IsCause b n f c d s t error → IsCause b n f c d s t e
  stopped_by e error s t same why = rw (stopped_injective e error same) why

  -- a plan stops because a count rose since its beginning, because what is kept is not a fact, or
  -- out of memory
  pub stopped_cause : (p : Plan State) (s : Stores B N F × H) (ns : List Note) (e : PeerError) (t : Stores B N F × H) (ms : List Note)
      → Runs (stores_do gives b reads tops n tells kept f strings c d) (stores_refuse loses b reads misses tops n drops kept f strings c d) p s ns (Stopped e) t ms → IsCause b n f c d s t e
  stopped_cause (Done x out) s ns e t ms ran = elim ran [
    | inl cut ↦ memory_cause s e t cut.0
    | inr end ↦ let none : ⊥ = grind (arith, end.0) in absurd none
  ]
  stopped_cause (Say note p) s ns e t ms ran = elim ran [
    | inl cut ↦ memory_cause s e t cut.0
    | inr on ↦ stopped_cause p s (ns ++ note ∷ []) e t ms on
  ]
  stopped_cause (Ask call next) s ns e t ms ran = elim ran [
    | inl cut ↦ memory_cause s e t cut.0
    | inr (inl off) ↦ stopped_by e off.0 s t off.2 (refusal_cause s call off.0 t off.1)
    | inr (inr on) ↦ cause_later s on.1 t e (do_later s call on.0 on.1 on.2) (stopped_cause (next on.0) on.1 ns e t ms on.3)
  ]

  tree_refusal : (s : Stores B N F × H) (e : PeerError) (t : Stores B N F × H) → IsTreeError n c d s e t → IsCallError e
  tree_refusal s errors.StoreFault t why = tt
  tree_refusal s (errors.Clash first second) t why = tt
  tree_refusal s (errors.BookFull more) t why = tt
  tree_refusal s errors.Memory t why = tt
  tree_refusal s errors.Halted t why = why
  tree_refusal s (errors.BadFact bad) t why = why

  -- why a call of a step is refused
  call_error : (s : Stores B N F × H) (call : Call) (e : PeerError) (t : Stores B N F × H) → IsStepCall call → stores_refuse loses b reads misses tops n drops kept f strings c d s call e t → IsCallError e
  call_error s (Save fact) e t is off = rw off.0 tt
  call_error s Root e t is off = tree_refusal s e t off.1
  call_error s (Find key) e t is off = tree_refusal s e t off.1
  call_error s (Enter entry) e t is off = tree_refusal s e t off.1
  call_error s (Fetch key) errors.StoreFault t is off = tt
  call_error s (Fetch key) errors.Memory t is off = tt
  call_error s (Fetch key) errors.Halted t is off = absurd off.0
  call_error s (Fetch key) (errors.BadFact bad) t is off = absurd off.0
  call_error s (Fetch key) (errors.Clash first second) t is off = absurd off.0
  call_error s (Fetch key) (errors.BookFull more) t is off = absurd off.0
  call_error s (Put key bytes) errors.StoreFault t is off = tt
  call_error s (Put key bytes) errors.Memory t is off = tt
  call_error s (Put key bytes) errors.Halted t is off = absurd off.0
  call_error s (Put key bytes) (errors.BadFact bad) t is off = absurd off.0
  call_error s (Put key bytes) (errors.Clash first second) t is off = absurd off.0
  call_error s (Put key bytes) (errors.BookFull more) t is off = absurd off.0
  call_error s (Hash bytes) (errors.Clash first second) t is off = tt
  call_error s (Hash bytes) (errors.BookFull more) t is off = tt
  call_error s (Hash bytes) errors.Memory t is off = tt
  call_error s (Hash bytes) errors.StoreFault t is off = tt
  call_error s (Hash bytes) errors.Halted t is off = absurd off.0
  call_error s (Hash bytes) (errors.BadFact bad) t is off = absurd off.0
  call_error s Load e t is off = absurd is
  call_error s (FreshTree tree) e t is off = absurd is
  call_error s (OpenTree seal tree) e t is off = absurd is
  call_error s ScanTree e t is off = tree_refusal s e t off.1
  call_error s (ReadNode at) e t is off = tree_refusal s e t off.1
  call_error s (Install entries) e t is off = tree_refusal s e t off.1

  only_memory : (e : PeerError) → stop e ≡ stop errors.Memory → IsCallError e
  only_memory e same = rw (stopped_injective e errors.Memory same) tt

  step_error : (e error : PeerError) → stop e ≡ stop error → IsCallError error → IsCallError e
  step_error e error same is = rw (stopped_injective e error same) is

  -- a plan that makes only the calls of a step stops for one of these errors
  pub stopped_only : (P : State → Out → Type 0) (p : Plan State) (s : Stores B N F × H) (ns : List Note) (e : PeerError) (t : Stores B N F × H) (ms : List Note)
      → Follows IsStepCall P p → Runs (stores_do gives b reads tops n tells kept f strings c d) (stores_refuse loses b reads misses tops n drops kept f strings c d) p s ns (Stopped e) t ms → IsCallError e
  stopped_only P (Done x out) s ns e t ms keeps ran = elim ran [
    | inl cut ↦ only_memory e cut.0
    | inr end ↦ let none : ⊥ = grind (arith, end.0) in absurd none
  ]
  stopped_only P (Say note p) s ns e t ms keeps ran = elim ran [
    | inl cut ↦ only_memory e cut.0
    | inr on ↦ stopped_only P p s (ns ++ note ∷ []) e t ms keeps on
  ]
  stopped_only P (Ask call next) s ns e t ms keeps ran = elim ran [
    | inl cut ↦ only_memory e cut.0
    | inr (inl off) ↦ step_error e off.0 off.2 (call_error s call off.0 t keeps.0 off.1)
    | inr (inr on) ↦ stopped_only P (next on.0) on.1 ns e t ms (keeps.1 on.0) on.3
  ]

  -- a start never calls the backend
  still_backend : (s t : Stores B N F × H) → t ≡ s → t.0.backend ≡ s.0.backend
  still_backend s t same = ap (λ (k : Stores B N F × H). k.0.backend) same

  call_backend : (s : Stores B N F × H) (call : Call) (a : AnswerOf call) (t : Stores B N F × H) → IsStartCall call → stores_do gives b reads tops n tells kept f strings c d s call a t → t.0.backend ≡ s.0.backend
  call_backend s Load a t is did = did.3.0
  call_backend s (Save fact) a t is did = did.2.0
  call_backend s (FreshTree tree) a t is did = did.1.3.0
  call_backend s (OpenTree seal tree) a t is did = did.1.3.0
  call_backend s Root a t is did = did.1.3.0
  call_backend s ScanTree a t is did = did.1.3.0
  call_backend s (Install entries) a t is did = did.1.3.0
  call_backend s (Find key) a t is did = absurd is
  call_backend s (Enter entry) a t is did = absurd is
  call_backend s (ReadNode at) a t is did = absurd is
  call_backend s (Fetch key) a t is did = absurd is
  call_backend s (Put key bytes) a t is did = absurd is
  call_backend s (Hash bytes) a t is did = absurd is

  refused_backend : (s : Stores B N F × H) (call : Call) (e : PeerError) (t : Stores B N F × H) → IsStartCall call → stores_refuse loses b reads misses tops n drops kept f strings c d s call e t → t.0.backend ≡ s.0.backend
  refused_backend s Load e t is off = off.2.0
  refused_backend s (Save fact) e t is off = off.3.0
  refused_backend s (FreshTree tree) e t is off = off.2.0
  refused_backend s (OpenTree seal tree) e t is off = off.2.0
  refused_backend s Root e t is off = off.2.0
  refused_backend s ScanTree e t is off = off.2.0
  refused_backend s (Install entries) e t is off = off.2.0
  refused_backend s (Find key) e t is off = absurd is
  refused_backend s (Enter entry) e t is off = absurd is
  refused_backend s (ReadNode at) e t is off = absurd is
  refused_backend s (Fetch key) e t is off = absurd is
  refused_backend s (Put key bytes) e t is off = absurd is
  refused_backend s (Hash bytes) e t is off = absurd is

  stopped_backend : (p : Plan State) (s : Stores B N F × H) (ns : List Note) (e : PeerError) (t : Stores B N F × H) (ms : List Note)
      → Follows IsStartCall AnyEnd p → Runs (stores_do gives b reads tops n tells kept f strings c d) (stores_refuse loses b reads misses tops n drops kept f strings c d) p s ns (Stopped e) t ms → t.0.backend ≡ s.0.backend
  stopped_backend (Done x out) s ns e t ms starts ran = elim ran [
    | inl cut ↦ still_backend s t cut.1
    | inr end ↦ let none : ⊥ = grind (arith, end.0) in absurd none
  ]
  stopped_backend (Say note p) s ns e t ms starts ran = elim ran [
    | inl cut ↦ still_backend s t cut.1
    | inr on ↦ stopped_backend p s (ns ++ note ∷ []) e t ms starts on
  ]
  stopped_backend (Ask call next) s ns e t ms starts ran = elim ran [
    | inl cut ↦ still_backend s t cut.1
    | inr (inl off) ↦ refused_backend s call off.0 t starts.0 off.1
    | inr (inr on) ↦ stopped_backend (next on.0) on.1 ns e t ms (starts.1 on.0) on.3 ∙ call_backend s call on.0 on.1 starts.0 on.2
  ]

  -- a start that stopped left the backend as it was
  pub start_backend : (mode : Mode) (view : List ℕ) (s : Stores B N F × H) (ns : List Note) (e : PeerError) (t : Stores B N F × H) (ms : List Note)
      → Runs (stores_do gives b reads tops n tells kept f strings c d) (stores_refuse loses b reads misses tops n drops kept f strings c d) (start_of mode view) s ns (Stopped e) t ms → t.0.backend ≡ s.0.backend
  start_backend mode view s ns e t ms ran = stopped_backend (start_of mode view) s ns e t ms (start_calls mode view) ran

  tree_start_error : (s : Stores B N F × H) (e : PeerError) (t : Stores B N F × H) → IsTreeError n c d s e t → IsStartError e
  tree_start_error s errors.StoreFault t why = tt
  tree_start_error s (errors.Clash first second) t why = tt
  tree_start_error s (errors.BookFull more) t why = tt
  tree_start_error s errors.Memory t why = tt
  tree_start_error s errors.Halted t why = why
  tree_start_error s (errors.BadFact bad) t why = tt

  start_error : (e error : PeerError) → stop e ≡ stop error → IsStartError error → IsStartError e
  start_error e error same is = rw (stopped_injective e error same) is

  load_error : (s : Stores B N F × H) (e : PeerError) (t : Stores B N F × H) → stores_refuse loses b reads misses tops n drops kept f strings c d s Load e t → IsStartError e
  load_error s errors.StoreFault t off = tt
  load_error s (errors.BadFact why) t off = tt
  load_error s errors.Memory t off = tt
  load_error s errors.Halted t off = off.0
  load_error s (errors.Clash first second) t off = tt
  load_error s (errors.BookFull bytes) t off = tt

  start_call_error : (s : Stores B N F × H) (call : Call) (e : PeerError) (t : Stores B N F × H) → IsStartCall call → stores_refuse loses b reads misses tops n drops kept f strings c d s call e t → IsStartError e
  start_call_error s Load e t is off = load_error s e t off
  start_call_error s (Save fact) e t is off = rw off.0 tt
  start_call_error s (FreshTree tree) e t is off = tree_start_error s e t off.1
  start_call_error s (OpenTree seal tree) e t is off = tree_start_error s e t off.1
  start_call_error s Root e t is off = tree_start_error s e t off.1
  start_call_error s ScanTree e t is off = tree_start_error s e t off.1
  start_call_error s (Install entries) e t is off = tree_start_error s e t off.1
  start_call_error s (Find key) e t is off = absurd is
  start_call_error s (Enter entry) e t is off = absurd is
  start_call_error s (ReadNode at) e t is off = absurd is
  start_call_error s (Fetch key) e t is off = absurd is
  start_call_error s (Put key bytes) e t is off = absurd is
  start_call_error s (Hash bytes) e t is off = absurd is

  stopped_start : (p : Plan State) (s : Stores B N F × H) (ns : List Note) (e : PeerError) (t : Stores B N F × H) (ms : List Note)
      → Follows IsStartCall AnyEnd p → Runs (stores_do gives b reads tops n tells kept f strings c d) (stores_refuse loses b reads misses tops n drops kept f strings c d) p s ns (Stopped e) t ms → IsStartError e
  stopped_start (Done x out) s ns e t ms starts ran = elim ran [
    | inl cut ↦ start_error e errors.Memory cut.0 tt
    | inr end ↦ let none : ⊥ = grind (arith, end.0) in absurd none
  ]
  stopped_start (Say note p) s ns e t ms starts ran = elim ran [
    | inl cut ↦ start_error e errors.Memory cut.0 tt
    | inr on ↦ stopped_start p s (ns ++ note ∷ []) e t ms starts on
  ]
  stopped_start (Ask call next) s ns e t ms starts ran = elim ran [
    | inl cut ↦ start_error e errors.Memory cut.0 tt
    | inr (inl off) ↦ start_error e off.0 off.2 (start_call_error s call off.0 t starts.0 off.1)
    | inr (inr on) ↦ stopped_start (next on.0) on.1 ns e t ms (starts.1 on.0) on.3
  ]

  -- why a start failed
  pub start_only : (mode : Mode) (view : List ℕ) (s : Stores B N F × H) (ns : List Note) (e : PeerError) (t : Stores B N F × H) (ms : List Note)
      → Runs (stores_do gives b reads tops n tells kept f strings c d) (stores_refuse loses b reads misses tops n drops kept f strings c d) (start_of mode view) s ns (Stopped e) t ms → IsStartError e
  start_only mode view s ns e t ms ran = stopped_start (start_of mode view) s ns e t ms (start_calls mode view) ran
