-- What a call of the tree did is what the stores may answer to it.
use Rattle.std.specs.Option.{IsSomeAnd}
use Rattle.std.proofs.Common.{◌≡◌, ◌≤◌, ℕ, Bool, true, false, List, [], Option, None, Some, Result, Ok, Err, refl, sym, inl, inr, arith, ap, subst}
use Rattle.std.specs.Prelude.{if◌then◌else◌}
use Rattle.ens_base.specs.Causes.{Rose}
use Rattle.ens_base.specs.declared.entry.Entry.{Entry}
use Rattle.ens_base.proofs.Causes.{rose_later, same_count}
use Rattle.hash_book.specs.Hashing.{Book}
use Rattle.environment.specs.Stores.{NodeCall, NodeAnswer, Top, BackendCall, BackendAnswer}
use Rattle.environment.specs.declared.errors.StoreError.{StoreError}
use Rattle.step_plans.specs.declared.error.PeerError.{PeerError}
use Rattle.tree_node.specs.declared.version.TreeVersion.{TreeVersion}
use Rattle.synctree.specs.Halves.{NodesDid}
use Rattle.synctree.specs.Meanings.{Enters, Reopens}
use Rattle.synctree.specs.Outsides.{outside_does, outside_refuses}
use Rattle.synctree.specs.Plans.{Call, Node, Hash, AnswerOf, Plan, Done, Broken, Ask, Ends, Stops, Did}
use Rattle.synctree.specs.Nodes.{node_plan}
use Rattle.synctree.specs.Trees.{open_plan, fresh_plan, get_plan, insert_plan}
use Rattle.synctree.specs.declared.error.TreeError.{TreeError}
use Rattle.synctree.specs.declared.error.TreeError.TheVariants as trees
use Rattle.step_plans.specs.Calls as peers
use Rattle.step_plans.specs.declared.walked.Walked.TheVariants.{Reached}
use Rattle.step_plans.specs.Calls.{FreshTree, OpenTree, Root, Find, Enter, ScanTree, ReadNode, Install, Answers}
use Rattle.synctree.specs.Sixteen.{form_of}
use Rattle.tree_node.specs.declared.body.Scan.{Scan}
use Rattle.tree_node.specs.declared.position.Position.{Position}
use Rattle.peer_spec.specs.TreeRepair.{rebuild_plan, scan_plan}
use Rattle.fact_store.specs.Keeping.{KeeperCall, KeeperAnswer}
use Rattle.fact_store.specs.declared.error.KeepError.{KeepError}
use Rattle.stored_formats.specs.declared.fact_error.FactError.{FactError}
use Rattle.stored_formats.specs.declared.saved.SavedFact.{SavedFact}
use Rattle.peer_stores.specs.Stores.{stores_do, stores_refuse, TreeAlone, TreeLater, IsTreeError}
use Rattle.peer_spec.specs.TreeCalls.{Walks, Halts, has_position, position_plan, heard, peer_error}
use Rattle.peer_stores.specs.declared.stores.Stores.{Stores}
use Rattle.peer_spec.proofs.Whole.{never_broken, scan_whole, rebuild_whole}

-- no count of the nodes or of the hasher decreased
pub record CountsLater {N H : Type 0} (n : N → ℕ) (c d : H → ℕ) (s t : N × H) : Type 0 where
  pub nodes : n s.0 ≤ n t.0
  pub clashes : c s.1 ≤ c t.1
  pub fulls : d s.1 ≤ d t.1

-- why a plan of the tree was stopped
abbrev pub IsTreeCause : {N H : Type 0} → (N → ℕ) → (H → ℕ) → (H → ℕ) → N × H → TreeError → N × H → Type 0
IsTreeCause n c d s (trees.Damaged at) t = ⊥
IsTreeCause n c d s trees.Failed t = Rose (n s.0) (n t.0)
IsTreeCause n c d s (trees.Clash first second) t = Rose (c s.1) (c t.1)
IsTreeCause n c d s (trees.BookFull kept) t = Rose (d s.1) (d t.1)
IsTreeCause n c d s trees.Memory t = Unit {0}

module _ {N H : Type 0} (reads : N → (call : NodeCall) → NodeAnswer call → N → Type 0) (misses : N → NodeCall → StoreError → N → Type 0) (tops : N → Option (Option (List ℕ))) (n : N → ℕ)
    (strings : H → Option Book) (c d : H → ℕ) where
  abbrev pub Does : N × H → (call : Call) → AnswerOf call → N × H → Type 0
  Does s call a t = outside_does reads tops n strings c d s call a t

  abbrev pub Refuses : N × H → Call → TreeError → N × H → Type 0
  Refuses s call e t = outside_refuses misses tops n strings c d s call e t

  still : (s t : N × H) → t ≡ s → CountsLater n c d s t
  still s t same = record {
    nodes = same_count (λ (k : N × H). n k.0) s t same;
    clashes = same_count (λ (k : N × H). c k.1) s t same;
    fulls = same_count (λ (k : N × H). d k.1) s t same;
  }

  later_then : (s u t : N × H) → CountsLater n c d s u → CountsLater n c d u t → CountsLater n c d s t
  later_then s u t a b = record { nodes = omega (arith, a.nodes, b.nodes); clashes = omega (arith, a.clashes, b.clashes); fulls = omega (arith, a.fulls, b.fulls) }

  do_later : (s : N × H) (call : Call) (a : AnswerOf call) (t : N × H) → Does s call a t → CountsLater n c d s t
  do_later s (Node call) a t did = record { nodes = did.2; clashes = same_count c s.1 t.1 did.3; fulls = same_count d s.1 t.1 did.3 }
  do_later s (Hash bytes) a t did = record { nodes = same_count n s.0 t.0 did.0; clashes = did.2; fulls = did.3 }

  cause_later : (s u t : N × H) (e : TreeError) → CountsLater n c d s u → IsTreeCause n c d u e t → IsTreeCause n c d s e t
  cause_later s u t (trees.Damaged at) later cause = cause
  cause_later s u t trees.Failed later cause = rose_later (n s.0) (n u.0) (n t.0) later.nodes cause
  cause_later s u t (trees.Clash a b) later cause = rose_later (c s.1) (c u.1) (c t.1) later.clashes cause
  cause_later s u t (trees.BookFull k) later cause = rose_later (d s.1) (d u.1) (d t.1) later.fulls cause
  cause_later s u t trees.Memory later cause = tt

  node_off : (s : N × H) (call : NodeCall) (e : TreeError) (t : N × H) → Refuses s (Node call) e t → IsTreeCause n c d s e t
  node_off s call (trees.Damaged at) t off = absurd off
  node_off s call trees.Failed t off = off.3
  node_off s call (trees.Clash a b) t off = absurd off
  node_off s call (trees.BookFull k) t off = absurd off
  node_off s call trees.Memory t off = tt

  hash_off : (s : N × H) (bytes : List ℕ) (e : TreeError) (t : N × H) → Refuses s (Hash bytes) e t → IsTreeCause n c d s e t
  hash_off s bytes (trees.Damaged at) t off = absurd off
  hash_off s bytes trees.Failed t off = absurd off
  hash_off s bytes (trees.Clash a b) t off = off.2.3
  hash_off s bytes (trees.BookFull k) t off = off.2.0
  hash_off s bytes trees.Memory t off = tt

  call_off : (s : N × H) (call : Call) (e : TreeError) (t : N × H) → Refuses s call e t → IsTreeCause n c d s e t
  call_off s (Node call) e t off = node_off s call e t off
  call_off s (Hash bytes) e t off = hash_off s bytes e t off

  memory_cause : (s t : N × H) (e : TreeError) → e ≡ trees.Memory → IsTreeCause n c d s e t
  memory_cause s t e is = rw is tt

  -- a plan that came to an end decreased no count
  pub ends_later : {A : Type 0} (p : Plan A) (s t : N × H) (xs : List (List ℕ)) (out : Result A Position) → Ends Does p s xs out t → CountsLater n c d s t
  ends_later (Done x) s t xs out came = still s t came.2
  ends_later (Broken at) s t xs out came = still s t came.2
  ends_later (Ask call next) s t xs out came = later_then s came.1 t (do_later s call came.0 came.1 came.3) (ends_later (next came.0) came.1 t came.2 out came.5)

  -- a plan is stopped because a count rose, or out of memory
  pub stops_cause : {A : Type 0} (p : Plan A) (s t : N × H) (e : TreeError) → Stops Does Refuses p s e t → IsTreeCause n c d s e t
  stops_cause (Done x) s t e stopped = memory_cause s t e stopped.0
  stops_cause (Broken at) s t e stopped = memory_cause s t e stopped.0
  stops_cause (Ask call next) s t e stopped = elim stopped [
    | inl cut ↦ memory_cause s t e cut.0
    | inr (inl off) ↦ call_off s call e t off
    | inr (inr on) ↦ cause_later s on.1 t e (do_later s call on.0 on.1 on.2) (stops_cause (next on.0) on.1 t e on.3)
  ]

  module _ {B F : Type 0} (s t : Stores B N F × H) (alone : TreeAlone s t) where
    later_of : CountsLater n c d (s.0.tree.store, s.1) (t.0.tree.store, t.1) → TreeLater n c d s t
    later_of later = (later.nodes, later.clashes, later.fulls, alone)

    error_of : (e : TreeError) → IsTreeCause n c d (s.0.tree.store, s.1) e (t.0.tree.store, t.1) → IsTreeError n c d s (peer_error e) t
    error_of (trees.Damaged at) cause = absurd cause
    error_of trees.Failed cause = cause
    error_of (trees.Clash a b) cause = cause
    error_of (trees.BookFull k) cause = cause
    error_of trees.Memory cause = tt

    -- a plan that came to its end
    pub walks : {A : Type 0} (p : Plan A) (out : Result A Position) → Walks Does p (s.0.tree, s.1) out (t.0.tree, t.1) → TreeLater n c d s t
    walks p out walked = later_of (ends_later p (s.0.tree.store, s.1) (t.0.tree.store, t.1) walked.0 out walked.1)

    -- a plan that was stopped
    abbrev pub Halted : {A : Type 0} → Plan A → PeerError → Type 0
    Halted p e = Halts Does Refuses p (s.0.tree, s.1) e (t.0.tree, t.1) × IsTreeError n c d s e t × TreeAlone s t

    pub halts : {A : Type 0} (p : Plan A) (e : TreeError) → t.0.tree.top ≡ s.0.tree.top → t.0.tree.version ≡ s.0.tree.version → Stops Does Refuses p (s.0.tree.store, s.1) e (t.0.tree.store, t.1) → Halted p (peer_error e)
    halts p e top version stopped = ((e, refl, stopped, top, version), error_of e (stops_cause p (s.0.tree.store, s.1) (t.0.tree.store, t.1) e stopped), alone)

    changed : (p : Plan (List ℕ)) (o : Option (List ℕ)) → IsSomeAnd o (λ root. Walks Does p (s.0.tree, s.1) (Ok root) (t.0.tree, t.1)) → TreeLater n c d s t
    changed p (Some root) did = walks p (Ok root) did
    changed p None did = absurd did

    module _ (gives : B → (call : BackendCall) → BackendAnswer call → B → Type 0) (loses : B → BackendCall → StoreError → B → Type 0) (b : B → ℕ)
        (tells : F → (call : KeeperCall) → KeeperAnswer call → F → Type 0) (drops : F → KeeperCall → KeepError → F → Type 0) (kept : F → Option (Result SavedFact FactError)) (f : F → ℕ) where
      abbrev pub StoresAnswer : (call : peers.Call) → Result (peers.AnswerOf call) PeerError → Type 0
      StoresAnswer call r = Answers (stores_do gives b reads tops n tells kept f strings c d) (stores_refuse loses b reads misses tops n drops kept f strings c d) s call r t

      -- the tree was made empty
      pub fresh_ok : (tree : TreeVersion) (u : Unit {0}) → t.0.tree.version ≡ tree → Enters (λ r. Did Does Refuses (fresh_plan (form_of tree)) (s.0.tree.store, s.1) r (t.0.tree.store, t.1)) s.0.tree.top (Ok u) t.0.tree.top → StoresAnswer (FreshTree tree) (Ok u)
      fresh_ok tree u version did = (did, changed (fresh_plan (form_of tree)) t.0.tree.top did, version)

      pub fresh_err : (tree : TreeVersion) (e : TreeError) → t.0.tree.version ≡ s.0.tree.version → Enters (λ r. Did Does Refuses (fresh_plan (form_of tree)) (s.0.tree.store, s.1) r (t.0.tree.store, t.1)) s.0.tree.top (Err e) t.0.tree.top → StoresAnswer (FreshTree tree) (Err (peer_error e))
      fresh_err tree (trees.Damaged at) version did = let none : ⊥ = grind (arith, did.0.1.5.5.5.1) in absurd none
      fresh_err tree trees.Failed version did = halts (fresh_plan (form_of tree)) trees.Failed did.1 version did.0
      fresh_err tree (trees.Clash x y) version did = halts (fresh_plan (form_of tree)) (trees.Clash x y) did.1 version did.0
      fresh_err tree (trees.BookFull k) version did = halts (fresh_plan (form_of tree)) (trees.BookFull k) did.1 version did.0
      fresh_err tree trees.Memory version did = halts (fresh_plan (form_of tree)) trees.Memory did.1 version did.0

      -- the tree was opened
      pub open_ok : (seal : Option (List ℕ)) (tree : TreeVersion) (u : Unit {0}) → t.1 ≡ s.1 → t.0.tree.version ≡ tree → Reopens (λ r. NodesDid reads misses tops n Top s.0.tree.store r t.0.tree.store) seal s.0.tree.top (Ok u) t.0.tree.top → StoresAnswer (OpenTree seal tree) (Ok u)
      open_ok seal tree u same version did =
          let came : Walks Does open_plan (s.0.tree, s.1) (Ok did.0) (t.0.tree, t.1) = ([], (did.0, (t.0.tree.store, t.1), [], (did.1.0, did.1.1, did.1.2, same), refl, (refl, refl, refl))) in
          ((did.0, came, did.2), walks open_plan (Ok did.0) came, version)

      pub open_err : (seal : Option (List ℕ)) (tree : TreeVersion) (e : TreeError) → t.1 ≡ s.1 → t.0.tree.version ≡ s.0.tree.version → Reopens (λ r. NodesDid reads misses tops n Top s.0.tree.store r t.0.tree.store) seal s.0.tree.top (Err e) t.0.tree.top → StoresAnswer (OpenTree seal tree) (Err (peer_error e))
      open_err seal tree (trees.Damaged at) same version did = absurd did.0
      open_err seal tree trees.Failed same version did = halts open_plan trees.Failed did.1 version (inr (inl (did.0.0, did.0.1, did.0.2, did.0.3, same)))
      open_err seal tree (trees.Clash x y) same version did = absurd did.0
      open_err seal tree (trees.BookFull k) same version did = absurd did.0
      open_err seal tree trees.Memory same version did = halts open_plan trees.Memory did.1 version (inr (inl (did.0.0, did.0.1, did.0.2, same)))

      -- the root was told
      pub root_told : (a : Option (List ℕ)) → a ≡ s.0.tree.top → t ≡ s → StoresAnswer Root (Ok a)
      root_told a is same = (
        (is, ap (λ (k : Stores B N F × H). k.0.tree) same, ap (λ (k : Stores B N F × H). k.1) same),
        later_of (still (s.0.tree.store, s.1) (t.0.tree.store, t.1) (ap (λ (k : Stores B N F × H). (k.0.tree.store, k.1)) same)),
        ap (λ (k : Stores B N F × H). k.0.tree.version) same,
      )

      -- the tree was searched
      pub found : (key : List ℕ) (r : Result (Option Entry) TreeError) → t.0.tree.top ≡ s.0.tree.top → t.0.tree.version ≡ s.0.tree.version → Did Does Refuses (get_plan (form_of s.0.tree.version) s.0.tree.top key) (s.0.tree.store, s.1) r (t.0.tree.store, t.1) → StoresAnswer (Find key) (heard r)
      found key (Ok x) top version did = ((did, top), walks (get_plan (form_of s.0.tree.version) s.0.tree.top key) (Ok x) did, version)
      found key (Err (trees.Damaged at)) top version did = ((did, top), walks (get_plan (form_of s.0.tree.version) s.0.tree.top key) (Err at) did, version)
      found key (Err trees.Failed) top version did = halts (get_plan (form_of s.0.tree.version) s.0.tree.top key) trees.Failed top version did
      found key (Err (trees.Clash x y)) top version did = halts (get_plan (form_of s.0.tree.version) s.0.tree.top key) (trees.Clash x y) top version did
      found key (Err (trees.BookFull k)) top version did = halts (get_plan (form_of s.0.tree.version) s.0.tree.top key) (trees.BookFull k) top version did
      found key (Err trees.Memory) top version did = halts (get_plan (form_of s.0.tree.version) s.0.tree.top key) trees.Memory top version did

      -- an entry was entered
      pub entered : (entry : Entry) (r : Result (Unit {0}) TreeError) → t.0.tree.version ≡ s.0.tree.version → Enters (λ r. Did Does Refuses (insert_plan (form_of s.0.tree.version) s.0.tree.top entry) (s.0.tree.store, s.1) r (t.0.tree.store, t.1)) s.0.tree.top r t.0.tree.top → StoresAnswer (Enter entry) (heard r)
      entered entry (Ok u) version did = (did, changed (insert_plan (form_of s.0.tree.version) s.0.tree.top entry) t.0.tree.top did, version)
      entered entry (Err (trees.Damaged at)) version did = ((did.0, did.1), walks (insert_plan (form_of s.0.tree.version) s.0.tree.top entry) (Err at) did.0, version)
      entered entry (Err trees.Failed) version did = halts (insert_plan (form_of s.0.tree.version) s.0.tree.top entry) trees.Failed did.1 version did.0
      entered entry (Err (trees.Clash x y)) version did = halts (insert_plan (form_of s.0.tree.version) s.0.tree.top entry) (trees.Clash x y) did.1 version did.0
      entered entry (Err (trees.BookFull k)) version did = halts (insert_plan (form_of s.0.tree.version) s.0.tree.top entry) (trees.BookFull k) did.1 version did.0
      entered entry (Err trees.Memory) version did = halts (insert_plan (form_of s.0.tree.version) s.0.tree.top entry) trees.Memory did.1 version did.0

      -- the tree was scanned, which reports no damage as an error
      pub scanned_ok : (found : Scan) → t.0.tree.top ≡ s.0.tree.top → t.0.tree.version ≡ s.0.tree.version → Did Does Refuses (scan_plan (form_of s.0.tree.version) s.0.tree.top) (s.0.tree.store, s.1) (Ok found) (t.0.tree.store, t.1) → StoresAnswer ScanTree (Ok found)
      scanned_ok found top version did = ((did, top), walks (scan_plan (form_of s.0.tree.version) s.0.tree.top) (Ok found) did, version)

      pub scanned_err : (e : TreeError) → t.0.tree.top ≡ s.0.tree.top → t.0.tree.version ≡ s.0.tree.version → Did Does Refuses (scan_plan (form_of s.0.tree.version) s.0.tree.top) (s.0.tree.store, s.1) (Err e) (t.0.tree.store, t.1) → StoresAnswer ScanTree (Err (peer_error e))
      scanned_err (trees.Damaged at) top version did = absurd (never_broken Does (scan_plan (form_of s.0.tree.version) s.0.tree.top) _ did.0 at _ (scan_whole (form_of s.0.tree.version) s.0.tree.top) did.1)
      scanned_err trees.Failed top version did = halts (scan_plan (form_of s.0.tree.version) s.0.tree.top) trees.Failed top version did
      scanned_err (trees.Clash x y) top version did = halts (scan_plan (form_of s.0.tree.version) s.0.tree.top) (trees.Clash x y) top version did
      scanned_err (trees.BookFull k) top version did = halts (scan_plan (form_of s.0.tree.version) s.0.tree.top) (trees.BookFull k) top version did
      scanned_err trees.Memory top version did = halts (scan_plan (form_of s.0.tree.version) s.0.tree.top) trees.Memory top version did

      -- a node was read, or there is none at a position that the tree does not have
      position_read : (at : Position) (r : Result (Option (List ℕ)) TreeError) → t.0.tree.top ≡ s.0.tree.top → t.0.tree.version ≡ s.0.tree.version → Did Does Refuses (position_plan s.0.tree.version s.0.tree.top at) (s.0.tree.store, s.1) r (t.0.tree.store, t.1) → StoresAnswer (ReadNode at) (heard r)
      position_read at (Ok x) top version did = ((did, top), walks (position_plan s.0.tree.version s.0.tree.top at) (Ok x) did, version)
      position_read at (Err (trees.Damaged place)) top version did = ((did, top), walks (position_plan s.0.tree.version s.0.tree.top at) (Err place) did, version)
      position_read at (Err trees.Failed) top version did = halts (position_plan s.0.tree.version s.0.tree.top at) trees.Failed top version did
      position_read at (Err (trees.Clash x y)) top version did = halts (position_plan s.0.tree.version s.0.tree.top at) (trees.Clash x y) top version did
      position_read at (Err (trees.BookFull k)) top version did = halts (position_plan s.0.tree.version s.0.tree.top at) (trees.BookFull k) top version did
      position_read at (Err trees.Memory) top version did = halts (position_plan s.0.tree.version s.0.tree.top at) trees.Memory top version did

      -- what is read at a position that the tree has, or that it does not have
      abbrev PositionDid : Bool → Position → Result (Option (List ℕ)) TreeError → Type 0
      PositionDid has at r = Did Does Refuses (if has then node_plan (form_of s.0.tree.version) s.0.tree.top at else Done None) (s.0.tree.store, s.1) r (t.0.tree.store, t.1)

      pub node_read : (at : Position) (r : Result (Option (List ℕ)) TreeError) → has_position s.0.tree.version at ≡ true → t.0.tree.top ≡ s.0.tree.top → t.0.tree.version ≡ s.0.tree.version → Did Does Refuses (node_plan (form_of s.0.tree.version) s.0.tree.top at) (s.0.tree.store, s.1) r (t.0.tree.store, t.1) → StoresAnswer (ReadNode at) (heard r)
      node_read at r inside top version did = position_read at r top version (subst (λ (has : Bool). PositionDid has at r) (sym inside) did)

      pub node_absent : (at : Position) → has_position s.0.tree.version at ≡ false → t ≡ s → StoresAnswer (ReadNode at) (Ok (Reached None))
      node_absent at outside same =
          position_read at (Ok None) (ap (λ (k : Stores B N F × H). k.0.tree.top) same) (ap (λ (k : Stores B N F × H). k.0.tree.version) same)
          (subst (λ (has : Bool). PositionDid has at (Ok None)) (sym outside) ([], (refl, refl, ap (λ (k : Stores B N F × H). (k.0.tree.store, k.1)) same)))

      -- the tree was built anew and installed
      pub installed_ok : (entries : List Entry) (u : Unit {0}) → t.0.tree.version ≡ s.0.tree.version → Enters (λ r. Did Does Refuses (rebuild_plan (form_of s.0.tree.version) entries) (s.0.tree.store, s.1) r (t.0.tree.store, t.1)) s.0.tree.top (Ok u) t.0.tree.top → StoresAnswer (Install entries) (Ok u)
      installed_ok entries u version did = (did, changed (rebuild_plan (form_of s.0.tree.version) entries) t.0.tree.top did, version)

      pub installed_err : (entries : List Entry) (e : TreeError) → t.0.tree.version ≡ s.0.tree.version → Enters (λ r. Did Does Refuses (rebuild_plan (form_of s.0.tree.version) entries) (s.0.tree.store, s.1) r (t.0.tree.store, t.1)) s.0.tree.top (Err e) t.0.tree.top → StoresAnswer (Install entries) (Err (peer_error e))
      installed_err entries (trees.Damaged at) version did = absurd (never_broken Does (rebuild_plan (form_of s.0.tree.version) entries) _ did.0.0 at _ (rebuild_whole (form_of s.0.tree.version) entries) did.0.1)
      installed_err entries trees.Failed version did = halts (rebuild_plan (form_of s.0.tree.version) entries) trees.Failed did.1 version did.0
      installed_err entries (trees.Clash x y) version did = halts (rebuild_plan (form_of s.0.tree.version) entries) (trees.Clash x y) did.1 version did.0
      installed_err entries (trees.BookFull k) version did = halts (rebuild_plan (form_of s.0.tree.version) entries) (trees.BookFull k) did.1 version did.0
      installed_err entries trees.Memory version did = halts (rebuild_plan (form_of s.0.tree.version) entries) trees.Memory did.1 version did.0
