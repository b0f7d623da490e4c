-- Stores in memory answer each call, or refuse it, in one way.
use Rattle.std.specs.Option.{IsSomeAnd}
use Rattle.std.proofs.Common.{◌≡◌, ◌⊎◌, ℕ, List, [], ◌∷◌, ◌++◌, Option, None, Some, Result, Ok, Err, refl, inl, inr, ap, subst, sym, ◌∙◌, arith}
use Rattle.hash_book.specs.Hashing.{Book}
use Rattle.environment.specs.Failures.{left_by}
use Rattle.environment.specs.Maps.{value_at, with_value}
use Rattle.environment.specs.declared.memory.failing_call.Leaves.{Leaves}
use Rattle.environment.specs.declared.memory.failing_call.Leaves.TheVariants.{Old, New}
use Rattle.step_plans.specs.Calls.{Call, Load, Save, FreshTree, OpenTree, Root, Find, Enter, ScanTree, ReadNode, Install, Fetch, Put, Hash, AnswerOf}
use Rattle.step_plans.specs.declared.walked.Walked.{Walked}
use Rattle.step_plans.specs.declared.walked.Walked.TheVariants.{Reached, Broken}
use Rattle.step_plans.specs.declared.error.PeerError.{PeerError}
use Rattle.step_plans.specs.declared.error.PeerError.TheVariants as errors
use Rattle.tree_node.specs.declared.version.TreeVersion.{TreeVersion}
use Rattle.synctree.specs.Plans.{Plan}
use Rattle.synctree.specs.Trees.{open_plan, fresh_plan, get_plan, insert_plan}
use Rattle.synctree.specs.declared.error.TreeError.{TreeError}
use Rattle.synctree.specs.declared.error.TreeError.TheVariants as trees
use Rattle.synctree.specs.Sixteen.{form_of}
use Rattle.tree_node.specs.declared.position.Position.{Position}
use Rattle.peer_stores.specs.TreeRepair.{rebuild_plan, scan_plan}
use Rattle.synctree.specs.declared.tree.Tree.{Tree}
use Rattle.peer_stores.specs.Stores.{TreeAlone}
use Rattle.peer_stores.proofs.SameStores.{same_stores}
use Rattle.peer_stores.specs.PeerSpec.{Walks, Halts, Changes, position_plan, end_of, peer_error}
use Rattle.world_stores.specs.Faults.{spent}
use Rattle.world_stores.specs.Nodes.{Nodes}
use Rattle.world_stores.specs.Objects.{Objects}
use Rattle.world_stores.specs.declared.fact.HeldFact.{HeldFact}
use Rattle.world_spec.specs.Answers.{Answered, answered, by_walk, walked, looked, entered, whole, done, root_after, root_read, root_kept, version_given, facts_failed, objects_failed}
use Rattle.world_spec.specs.Held.{HeldStores, Held, Account, account, HasHashed, StartsWith, unless_failing}
use Rattle.world_spec.specs.HeldLaws.{HeldDo, HeldRefuse, IsUnplanned, held_with}
use Rattle.world_spec.specs.Walks.{End, Came, Broke, Failed, Walk, walk}
use Rattle.world_spec.proofs.Taken.{starts_here, rejected_at, hashed_more}
use Rattle.world_spec.proofs.Walking.{Does, Refuses, IsWalk, IsHalted, IsUnplannedTree, end_was, ends_walk, halts_walk, walk_grows, goes_on, fails_by}
use Rattle.ens_base.proofs.Causes.{rose_later}

with_its_facts : (s t : HeldStores) (facts : HeldFact) → t.backend ≡ s.backend → t.tree ≡ s.tree → t.facts ≡ facts → record s { facts = facts } ≡ t
with_its_facts s t facts backend tree same = sym (same_stores (record s { facts = facts }) t backend tree same)

with_its_backend : (s t : HeldStores) (objects : Objects) → t.backend ≡ objects → t.tree ≡ s.tree → t.facts ≡ s.facts → record s { backend = objects } ≡ t
with_its_backend s t objects same tree facts = sym (same_stores (record s { backend = objects }) t same tree facts)

abbrev tree_with : TreeVersion → Nodes → Option (List ℕ) → Tree Nodes
tree_with version nodes top = record { version = version; store = nodes; top = top }

same_tree : (w : Tree Nodes) (version : TreeVersion) (nodes : Nodes) (top : Option (List ℕ)) → w.version ≡ version → w.store ≡ nodes → w.top ≡ top → w ≡ tree_with version nodes top
same_tree w version nodes top version_is store same = λ i. record { version = version_is i; store = store i; top = same i }

with_its_tree : (s t : HeldStores) (version : TreeVersion) (nodes : Nodes) (top : Option (List ℕ)) → t.backend ≡ s.backend → t.facts ≡ s.facts → t.tree.version ≡ version → t.tree.store ≡ nodes → t.tree.top ≡ top → record s { tree = tree_with version nodes top } ≡ t
with_its_tree s t version nodes top backend facts version_is store same =
    sym (same_stores (record s { tree = tree_with version nodes top }) t backend (same_tree t.tree version nodes top version_is store same) facts)

-- the answer from the walk with this end
from_walk : {A : Type 0} (call : Call) (tells : End A → Result (AnswerOf call) PeerError) (root : Option (List ℕ) → End A → Option (List ℕ)) (w : Walk A) (end : End A) (s t : HeldStores) (hashed now : List (List ℕ))
    → w ≡ record { end = end; nodes = t.tree.store; hashed = now } → t.tree.top ≡ root s.tree.top end → t.tree.version ≡ version_given call s.tree.version end → t.backend ≡ s.backend → t.facts ≡ s.facts
    → by_walk call tells root w (held_with s hashed) ≡ record { result = tells end; held = held_with t now }
from_walk call tells root w end s t hashed now is top version backend facts =
    rw is (let same = with_its_tree s t (version_given call s.tree.version end) t.tree.store (root s.tree.top end) backend facts version refl top in ap (λ k. record { result = tells end; held = held_with k now }) same)

pub some_root : (P : List ℕ → Type 0) (o : Option (List ℕ)) → IsSomeAnd o P → (root : List ℕ) × (o ≡ Some root) × P root
some_root P (Some root) is = (root, refl, is)
some_root P None is = absurd is

pub looked_end : {A : Type 0} (w : Walked A) → looked (end_was (end_of w)) ≡ Ok w
looked_end (Reached x) = refl
looked_end (Broken at) = refl

module _ {H : Type 0} (strings : H → Option Book) (c d : H → ℕ) (first : Account) where
  -- what is known of a hasher
  abbrev known : H → Account
  known h = account strings c d h

  -- the call came to this answer or error, and the hasher took the strings of the call
  pub record Came_to (call : Call) (s : HeldStores × H) (hashed : List (List ℕ)) (r : Result (AnswerOf call) PeerError) (t : HeldStores × H) : Type 0 where
    pub now : List (List ℕ)
    pub is : answered call (held_with s.0 hashed) ≡ record { result = r; held = held_with t.0 now }
    pub has : HasHashed now first (known t.1)

  still : (call : Call) (s t : HeldStores × H) (hashed : List (List ℕ)) (r : Result (AnswerOf call) PeerError) → answered call (held_with s.0 hashed) ≡ record { result = r; held = held_with t.0 hashed } → t.1 ≡ s.1
      → HasHashed hashed first (known s.1) → Came_to call s hashed r t
  still call s t hashed r is same taken = record { now = hashed; is = is; has = rw same taken }

  nodes_of : HeldStores × H → Nodes × H
  nodes_of s = (s.0.tree.store, s.1)

  by_tree : {A : Type 0} (call : Call) (tells : End A → Result (AnswerOf call) PeerError) (root : Option (List ℕ) → End A → Option (List ℕ)) (p : Plan A) (end : End A) (s t : HeldStores × H) (hashed : List (List ℕ)) (r : Result (AnswerOf call) PeerError)
      → answered call (held_with s.0 hashed) ≡ by_walk call tells root (walked p (held_with s.0 hashed)) (held_with s.0 hashed) → tells end ≡ r → t.0.tree.top ≡ root s.0.tree.top end → t.0.tree.version ≡ version_given call s.0.tree.version end → TreeAlone s t
      → IsWalk strings c d first p (s.0.tree.store, s.1) hashed end (t.0.tree.store, t.1) → Came_to call s hashed r t
  by_tree call tells root p end s t hashed r is told top version alone w = record {
    now = w.now;
    is = is ∙ from_walk call tells root (walk p s.0.tree.store hashed) end s.0 t.0 hashed w.now w.is top version alone.0 alone.1 ∙ ap (λ k. record { result = k; held = held_with t.0 w.now }) told;
    has = w.has;
  }

  ended : {A : Type 0} (p : Plan A) (s t : HeldStores × H) (hashed : List (List ℕ)) (out : Result A Position) → HasHashed hashed first (known s.1) → Walks (Does strings c d first) p (s.0.tree, s.1) out (t.0.tree, t.1)
      → IsWalk strings c d first p (s.0.tree.store, s.1) hashed (end_was out) (t.0.tree.store, t.1)
  ended p s t hashed out taken walks = ends_walk strings c d first p (s.0.tree.store, s.1) (t.0.tree.store, t.1) hashed walks.0 out taken walks.1

  fresh_came : (tree : TreeVersion) (s t : HeldStores × H) (hashed : List (List ℕ)) → HasHashed hashed first (known s.1) → (root : List ℕ) → t.0.tree.top ≡ Some root → Walks (Does strings c d first) (fresh_plan (form_of tree)) (s.0.tree, s.1) (Ok root) (t.0.tree, t.1) → t.0.tree.version ≡ tree → TreeAlone s t → Came_to (FreshTree tree) s hashed (Ok tt) t
  fresh_came tree s t hashed taken root top walks version alone = by_tree (FreshTree tree) done root_after (fresh_plan (form_of tree)) (Came root) s t hashed (Ok tt) refl refl top version alone (ended (fresh_plan (form_of tree)) s t hashed (Ok root) taken walks)

  installed_came : (entries : _) (s t : HeldStores × H) (hashed : List (List ℕ)) → HasHashed hashed first (known s.1) → (root : List ℕ) → t.0.tree.top ≡ Some root → Walks (Does strings c d first) (rebuild_plan (form_of s.0.tree.version) entries) (s.0.tree, s.1) (Ok root) (t.0.tree, t.1) → t.0.tree.version ≡ s.0.tree.version → TreeAlone s t → Came_to (Install entries) s hashed (Ok tt) t
  installed_came entries s t hashed taken root top walks version alone = by_tree (Install entries) done root_after (rebuild_plan (form_of s.0.tree.version) entries) (Came root) s t hashed (Ok tt) refl refl top version alone (ended (rebuild_plan (form_of s.0.tree.version) entries) s t hashed (Ok root) taken walks)

  entered_came : (entry : _) (s t : HeldStores × H) (hashed : List (List ℕ)) (a : Walked (Unit {0})) → HasHashed hashed first (known s.1)
      → Changes (λ end. Walks (Does strings c d first) (insert_plan (form_of s.0.tree.version) s.0.tree.top entry) (s.0.tree, s.1) end (t.0.tree, t.1)) s.0.tree.top a t.0.tree.top → t.0.tree.version ≡ s.0.tree.version → TreeAlone s t → Came_to (Enter entry) s hashed (Ok a) t
  entered_came entry s t hashed (Reached u) taken did version alone =
      let at_root = some_root (λ root. Walks (Does strings c d first) (insert_plan (form_of s.0.tree.version) s.0.tree.top entry) (s.0.tree, s.1) (Ok root) (t.0.tree, t.1)) t.0.tree.top did in
      by_tree (Enter entry) entered root_after (insert_plan (form_of s.0.tree.version) s.0.tree.top entry) (Came at_root.0) s t hashed (Ok (Reached tt)) refl refl at_root.1 version alone (ended (insert_plan (form_of s.0.tree.version) s.0.tree.top entry) s t hashed (Ok at_root.0) taken at_root.2)
  entered_came entry s t hashed (Broken at) taken did version alone =
      by_tree (Enter entry) entered root_after (insert_plan (form_of s.0.tree.version) s.0.tree.top entry) (Broke at) s t hashed (Ok (Broken at)) refl refl did.1 version alone (ended (insert_plan (form_of s.0.tree.version) s.0.tree.top entry) s t hashed (Err at) taken did.0)

  -- an answered call came to its answer
  pub did_answer : (call : Call) (s t : HeldStores × H) (hashed : List (List ℕ)) (a : AnswerOf call) → HasHashed hashed first (known s.1) → HeldDo strings c d s call a t → Came_to call s hashed (Ok a) t
  did_answer Load s t hashed a taken did =
      still Load s t hashed (Ok a) (rw did.4.1 (ap (λ k. record { result = Ok s.0.facts.kept; held = held_with k hashed }) (sym (same_stores s.0 t.0 did.3.0 did.3.1 did.4.2)))) did.3.2 taken
  did_answer (Save fact) s t hashed a taken did =
      still (Save fact) s t hashed (Ok a) (goes_on s.0.facts.faults.pending _ _ _ did.3.0 (ap (λ k. record { result = Ok tt; held = held_with k hashed }) (with_its_facts s.0 t.0 (record s.0.facts { kept = Some fact }) did.2.0 did.2.1 did.3.2))) did.2.2 taken
  did_answer (FreshTree tree) s t hashed a taken did =
      let at_root = some_root (λ root. Walks (Does strings c d first) (fresh_plan (form_of tree)) (s.0.tree, s.1) (Ok root) (t.0.tree, t.1)) t.0.tree.top did.0 in
      fresh_came tree s t hashed taken at_root.0 at_root.1 at_root.2 did.2 did.1.3
  did_answer (OpenTree seal tree) s t hashed a taken did = by_tree (OpenTree seal tree) done (root_read seal) open_plan (Came did.0.0) s t hashed (Ok tt) refl refl did.0.2 did.2 did.1.3 (ended open_plan s t hashed (Ok did.0.0) taken did.0.1)
  did_answer Root s t hashed a taken did =
      still Root s t hashed (Ok a) (rw did.0.0 (ap (λ k. record { result = Ok s.0.tree.top; held = held_with k hashed }) (sym (same_stores s.0 t.0 did.1.3.0 did.0.1 did.1.3.1)))) did.0.2 taken
  did_answer (Find key) s t hashed a taken did =
      by_tree (Find key) looked root_kept (get_plan (form_of s.0.tree.version) s.0.tree.top key) (end_was (end_of a)) s t hashed (Ok a) refl (looked_end a) did.0.1 did.2 did.1.3 (ended (get_plan (form_of s.0.tree.version) s.0.tree.top key) s t hashed (end_of a) taken did.0.0)
  did_answer (Enter entry) s t hashed a taken did = entered_came entry s t hashed a taken did.0 did.2 did.1.3
  did_answer ScanTree s t hashed a taken did =
      by_tree ScanTree whole root_kept (scan_plan (form_of s.0.tree.version) s.0.tree.top) (Came a) s t hashed (Ok a) refl refl did.0.1 did.2 did.1.3 (ended (scan_plan (form_of s.0.tree.version) s.0.tree.top) s t hashed (Ok a) taken did.0.0)
  did_answer (ReadNode at) s t hashed a taken did =
      by_tree (ReadNode at) looked root_kept (position_plan s.0.tree.version s.0.tree.top at) (end_was (end_of a)) s t hashed (Ok a) refl (looked_end a) did.0.1 did.2 did.1.3 (ended (position_plan s.0.tree.version s.0.tree.top at) s t hashed (end_of a) taken did.0.0)
  did_answer (Install entries) s t hashed a taken did =
      let at_root = some_root (λ root. Walks (Does strings c d first) (rebuild_plan (form_of s.0.tree.version) entries) (s.0.tree, s.1) (Ok root) (t.0.tree, t.1)) t.0.tree.top did.0 in
      installed_came entries s t hashed taken at_root.0 at_root.1 at_root.2 did.2 did.1.3
  did_answer (Fetch key) s t hashed a taken did =
      still (Fetch key) s t hashed (Ok a) (rw did.0.1 (ap (λ k. record { result = Ok (value_at key s.0.backend.entries); held = held_with k hashed }) (sym (same_stores s.0 t.0 did.0.2 did.2.0 did.2.1)))) did.2.2 taken
  did_answer (Put key bytes) s t hashed a taken did =
      still (Put key bytes) s t hashed (Ok a) (goes_on s.0.backend.faults.pending _ _ _ did.0.0 (ap (λ k. record { result = Ok tt; held = held_with k hashed }) (with_its_backend s.0 t.0 (record s.0.backend { entries = with_value key bytes s.0.backend.entries }) did.0.2 did.2.0 did.2.1))) did.2.2 taken
  did_answer (Hash bytes) s t hashed a taken did = record {
    now = hashed ++ bytes ∷ [];
    is = rw did.0 (rw did.4 refl);
    has = hashed_more hashed bytes first (known s.1) (known t.1) taken did.1 did.2 did.3;
  }

  -- the call was refused out of memory or by the hasher, or it came to this error
  abbrev pub IsRefused : (call : Call) → HeldStores × H → List (List ℕ) → PeerError → HeldStores × H → Type 0
  IsRefused call s hashed e t = IsUnplanned (answered call (held_with s.0 hashed)).held.hashed first (known t.1) e ⊎ ((e ≡ errors.StoreFault) × Came_to call s hashed (Err e) t)

  unplanned : (whole : List (List ℕ)) (now : Account) (e : PeerError) (error : TreeError) → e ≡ peer_error error → IsUnplannedTree whole first now error → IsUnplanned whole first now e
  unplanned whole now e (trees.Damaged at) is un = absurd un
  unplanned whole now e trees.Failed is un = absurd un
  unplanned whole now e (trees.Clash a b) is un = rw is un
  unplanned whole now e (trees.BookFull n) is un = rw is un
  unplanned whole now e trees.Memory is un = rw is tt

  store_fault : (e : PeerError) (error : TreeError) → e ≡ peer_error error → error ≡ trees.Failed → e ≡ errors.StoreFault
  store_fault e error is failed = is ∙ ap peer_error failed

  tree_refused : {A : Type 0} (call : Call) (tells : End A → Result (AnswerOf call) PeerError) (root : Option (List ℕ) → End A → Option (List ℕ)) (p : Plan A) (s t : HeldStores × H) (hashed : List (List ℕ)) (e : PeerError)
      → answered call (held_with s.0 hashed) ≡ by_walk call tells root (walked p (held_with s.0 hashed)) (held_with s.0 hashed) → tells Failed ≡ Err errors.StoreFault → s.0.tree.top ≡ root s.0.tree.top Failed → s.0.tree.version ≡ version_given {A = A} call s.0.tree.version Failed → TreeAlone s t
      → HasHashed hashed first (known s.1) → Halts (Does strings c d first) (Refuses strings c d first) p (s.0.tree, s.1) e (t.0.tree, t.1) → IsRefused call s hashed e t
  tree_refused call tells root p s t hashed e is told root_is version_is alone taken off =
      by_halt (halts_walk strings c d first p (s.0.tree.store, s.1) (t.0.tree.store, t.1) hashed off.0 taken off.2)
    where
      by_halt : IsHalted strings c d first p (s.0.tree.store, s.1) hashed off.0 (t.0.tree.store, t.1) → IsRefused call s hashed e t
      by_halt (inl un) = inl (subst (λ (k : Answered call). IsUnplanned k.held.hashed first (known t.1) e) (sym is) (unplanned (walk p s.0.tree.store hashed).hashed (known t.1) e off.0 off.1 un))
      by_halt (inr halted) = let fault = store_fault e off.0 off.1 halted.0 in
          inr (fault, by_tree call tells root p Failed s t hashed (Err e) is (told ∙ ap (λ k. Err k) (sym fault)) (off.3 ∙ root_is) (off.4 ∙ version_is) alone halted.1)

  load_refused : (s t : HeldStores × H) (hashed : List (List ℕ)) (e : PeerError) → HeldRefuse strings c d s Load e t → IsRefused Load s hashed e t
  load_refused s t hashed errors.StoreFault off = let none : ⊥ = grind (arith, off.3.1) in absurd none
  load_refused s t hashed (errors.BadFact why) off = absurd off.3
  load_refused s t hashed errors.Memory off = inl tt
  load_refused s t hashed errors.Halted off = absurd off.0
  load_refused s t hashed (errors.Clash a b) off = absurd off.0
  load_refused s t hashed (errors.BookFull n) off = absurd off.0

  fetch_refused : (key : List ℕ) (s t : HeldStores × H) (hashed : List (List ℕ)) (e : PeerError) → HeldRefuse strings c d s (Fetch key) e t → IsRefused (Fetch key) s hashed e t
  fetch_refused key s t hashed errors.StoreFault off = let none : ⊥ = grind (arith, off.0.0.1) in absurd none
  fetch_refused key s t hashed (errors.BadFact why) off = absurd off.0
  fetch_refused key s t hashed errors.Memory off = inl tt
  fetch_refused key s t hashed errors.Halted off = absurd off.0
  fetch_refused key s t hashed (errors.Clash a b) off = absurd off.0
  fetch_refused key s t hashed (errors.BookFull n) off = absurd off.0

  put_refused : (key bytes : List ℕ) (s t : HeldStores × H) (hashed : List (List ℕ)) (e : PeerError) → HasHashed hashed first (known s.1) → HeldRefuse strings c d s (Put key bytes) e t → IsRefused (Put key bytes) s hashed e t
  put_refused key bytes s t hashed errors.StoreFault taken off = inr (
    refl,
    still (Put key bytes) s t hashed (Err errors.StoreFault)
        (fails_by s.0.backend.faults.pending off.0.0.0 _ _ _ off.0.0.1 (ap (λ k. record { result = Err errors.StoreFault; held = held_with k hashed })
        (with_its_backend s.0 t.0 (objects_failed s.0.backend (record s.0.backend { entries = with_value key bytes s.0.backend.entries }) off.0.0.0) (off.0.0.2 ∙ left_objects s.0.backend (with_value key bytes s.0.backend.entries) off.0.0.0) off.1.0 off.1.1))) off.1.2 taken,
  )
    where
      left_objects : (o : Objects) (es : _) (leaves : Leaves) → (let p : Objects = record { entries = left_by leaves o.entries es; faults = spent o.faults } in p) ≡ objects_failed o (record o { entries = es }) leaves
      left_objects o es Old = refl
      left_objects o es New = refl
  put_refused key bytes s t hashed (errors.BadFact why) taken off = absurd off.0
  put_refused key bytes s t hashed errors.Memory taken off = inl tt
  put_refused key bytes s t hashed errors.Halted taken off = absurd off.0
  put_refused key bytes s t hashed (errors.Clash a b) taken off = absurd off.0
  put_refused key bytes s t hashed (errors.BookFull n) taken off = absurd off.0

  hash_refused : (bytes : List ℕ) (s t : HeldStores × H) (hashed : List (List ℕ)) (e : PeerError) → HasHashed hashed first (known s.1) → HeldRefuse strings c d s (Hash bytes) e t → IsRefused (Hash bytes) s hashed e t
  hash_refused bytes s t hashed errors.StoreFault taken off = absurd off.0
  hash_refused bytes s t hashed (errors.BadFact why) taken off = absurd off.0
  hash_refused bytes s t hashed errors.Memory taken off = inl tt
  hash_refused bytes s t hashed errors.Halted taken off = absurd off.0
  hash_refused bytes s t hashed (errors.Clash kept new) taken off =
      let rejected = rejected_at hashed (hashed ++ bytes ∷ []) first bytes (known t.1) (starts_here (hashed ++ bytes ∷ [])) (rw off.0.0 taken.taken) in
      inl (rw off.0.3 rejected, off.0.1, rw off.0.0 off.0.2, rose_later first.clashes (c s.1) (c t.1) taken.clashes off.0.4)
  hash_refused bytes s t hashed (errors.BookFull n) taken off =
      let rejected = rejected_at hashed (hashed ++ bytes ∷ []) first bytes (known t.1) (starts_here (hashed ++ bytes ∷ [])) (rw off.0.0 taken.taken) in
      inl ((bytes, rejected, rose_later first.fulls (d s.1) (d t.1) taken.fulls off.0.1, rw off.0.0 off.0.3), rw off.0.0 off.0.4)

  save_refused : (fact : _) (s t : HeldStores × H) (hashed : List (List ℕ)) (e : PeerError) → HasHashed hashed first (known s.1) → HeldRefuse strings c d s (Save fact) e t → IsRefused (Save fact) s hashed e t
  save_refused fact s t hashed e taken off = inr (
    off.0,
    rw off.0 (still (Save fact) s t hashed (Err errors.StoreFault)
        (fails_by s.0.facts.faults.pending off.4.0 _ _ _ off.4.1 (ap (λ k. record { result = Err errors.StoreFault; held = held_with k hashed })
        (with_its_facts s.0 t.0 (facts_failed s.0.facts (record s.0.facts { kept = Some fact }) off.4.0) off.3.0 off.3.1 off.4.2))) off.3.2 taken),
  )

  -- a refused call was so out of memory or by the hasher, or it came to its error
  pub was_refused : (call : Call) (s t : HeldStores × H) (hashed : List (List ℕ)) (e : PeerError) → HasHashed hashed first (known s.1) → HeldRefuse strings c d s call e t → IsRefused call s hashed e t
  was_refused Load s t hashed e taken off = load_refused s t hashed e off
  was_refused (Save fact) s t hashed e taken off = save_refused fact s t hashed e taken off
  was_refused (FreshTree tree) s t hashed e taken off = tree_refused (FreshTree tree) done root_after (fresh_plan (form_of tree)) s t hashed e refl refl refl refl off.2 taken off.0
  was_refused (OpenTree seal tree) s t hashed e taken off = tree_refused (OpenTree seal tree) done (root_read seal) open_plan s t hashed e refl refl refl refl off.2 taken off.0
  was_refused Root s t hashed e taken off = absurd off.0
  was_refused (Find key) s t hashed e taken off = tree_refused (Find key) looked root_kept (get_plan (form_of s.0.tree.version) s.0.tree.top key) s t hashed e refl refl refl refl off.2 taken off.0
  was_refused (Enter entry) s t hashed e taken off = tree_refused (Enter entry) entered root_after (insert_plan (form_of s.0.tree.version) s.0.tree.top entry) s t hashed e refl refl refl refl off.2 taken off.0
  was_refused ScanTree s t hashed e taken off = tree_refused ScanTree whole root_kept (scan_plan (form_of s.0.tree.version) s.0.tree.top) s t hashed e refl refl refl refl off.2 taken off.0
  was_refused (ReadNode at) s t hashed e taken off = tree_refused (ReadNode at) looked root_kept (position_plan s.0.tree.version s.0.tree.top at) s t hashed e refl refl refl refl off.2 taken off.0
  was_refused (Install entries) s t hashed e taken off = tree_refused (Install entries) done root_after (rebuild_plan (form_of s.0.tree.version) entries) s t hashed e refl refl refl refl off.2 taken off.0
  was_refused (Fetch key) s t hashed e taken off = fetch_refused key s t hashed e off
  was_refused (Put key bytes) s t hashed e taken off = put_refused key bytes s t hashed e taken off
  was_refused (Hash bytes) s t hashed e taken off = hash_refused bytes s t hashed e taken off

-- ## A call hashes strings after those hashed before

saved_grows : {R : Type 0} (hashed : List (List ℕ)) (strings_of : R → List (List ℕ)) (o : Option Leaves) (goes : R) (fails : Leaves → R) → strings_of goes ≡ hashed → ((leaves : Leaves) → strings_of (fails leaves) ≡ hashed)
    → StartsWith hashed (strings_of (unless_failing o goes fails))
saved_grows hashed strings_of None goes fails same failed = rw same (starts_here hashed)
saved_grows hashed strings_of (Some leaves) goes fails same failed = rw (failed leaves) (starts_here hashed)

pub answered_grows : (call : Call) (h : Held) → StartsWith h.hashed (answered call h).held.hashed
answered_grows Load h = starts_here h.hashed
answered_grows (Save fact) h = saved_grows h.hashed (λ (k : Answered (Save fact)). k.held.hashed) h.stores.facts.faults.pending _ _ refl (λ leaves. refl)
answered_grows (FreshTree tree) h = walk_grows (fresh_plan (form_of tree)) h.stores.tree.store h.hashed
answered_grows (OpenTree seal tree) h = walk_grows open_plan h.stores.tree.store h.hashed
answered_grows Root h = starts_here h.hashed
answered_grows (Find key) h = walk_grows (get_plan (form_of h.stores.tree.version) h.stores.tree.top key) h.stores.tree.store h.hashed
answered_grows (Enter entry) h = walk_grows (insert_plan (form_of h.stores.tree.version) h.stores.tree.top entry) h.stores.tree.store h.hashed
answered_grows ScanTree h = walk_grows (scan_plan (form_of h.stores.tree.version) h.stores.tree.top) h.stores.tree.store h.hashed
answered_grows (ReadNode at) h = walk_grows (position_plan h.stores.tree.version h.stores.tree.top at) h.stores.tree.store h.hashed
answered_grows (Install entries) h = walk_grows (rebuild_plan (form_of h.stores.tree.version) entries) h.stores.tree.store h.hashed
answered_grows (Fetch key) h = starts_here h.hashed
answered_grows (Put key bytes) h = saved_grows h.hashed (λ (k : Answered (Put key bytes)). k.held.hashed) h.stores.backend.faults.pending _ _ refl (λ leaves. refl)
answered_grows (Hash bytes) h = (bytes ∷ [], refl)
