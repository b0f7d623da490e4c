-- What stores on disks answer to a call is what the stores in memory answer for which they stand.
use Rattle.std.proofs.Common.{◌≡◌, ℕ, List, Option, None, Some, Result, Ok, Err, refl, sym, ap, ◌∙◌, subst}
use Rattle.std.proofs.lemmas.Option.{none-some}
use Rattle.disk_stores.specs.DiskCalls.{HoldsNodes, HoldsObjects}
use Rattle.disk_stores.specs.declared.backend.DiskBackend.{DiskBackend}
use Rattle.disk_stores.specs.declared.nodes.DiskNodes.{DiskNodes}
use Rattle.ens_base.specs.declared.entry.Entry.{Entry}
use Rattle.fact_store.specs.Held.{held_kept}
use Rattle.fact_store.specs.Keeping.{Loads}
use Rattle.world_spec.proofs.Walking.{end_was, goes_on}
use Rattle.world_spec.proofs.Answering.{some_root, looked_end}
use Rattle.world_spec.specs.Answers.{Answered, answered, by_walk, walked, looked, entered, whole, done, root_after, root_read, root_kept, version_given, with_facts, with_backend, facts_failed, objects_failed}
use Rattle.world_spec.specs.Held.{HeldStores}
use Rattle.world_spec.specs.HeldLaws.{held_with}
use Rattle.world_spec.specs.Walks.{End}
use Rattle.environment.specs.Maps.{with_value}
use Rattle.stored_formats.specs.declared.fact_error.FactError.{FactError}
use Rattle.stored_formats.specs.declared.saved.SavedFact.{SavedFact}
use Rattle.peer_spec.specs.TreeCalls.{Changes, Walks, end_of, position_plan}
use Rattle.peer_server.specs.DiskPeers.{OnDisks, disks_do}
use Rattle.peer_stores.specs.Stores.{TreeAlone}
use Rattle.step_plans.specs.Calls.{Call, Load, Save, FreshTree, OpenTree, Root, Find, Enter, ScanTree, ReadNode, Install, Fetch, Put, Hash, AnswerOf}
use Rattle.step_plans.specs.declared.error.PeerError.{PeerError}
use Rattle.step_plans.specs.declared.error.PeerError.TheVariants.{StoreFault}
use Rattle.step_plans.specs.declared.walked.Walked.{Walked}
use Rattle.step_plans.specs.declared.walked.Walked.TheVariants.{Reached, Broken}
use Rattle.synctree.specs.Plans.{Plan}
use Rattle.synctree.specs.Trees.{open_plan, fresh_plan, get_plan, insert_plan}
use Rattle.synctree.specs.declared.tree.Tree.{Tree}
use Rattle.synctree.specs.Sixteen.{form_of}
use Rattle.tree_node.specs.declared.position.Position.{Position}
use Rattle.tree_node.specs.declared.version.TreeVersion.{TreeVersion}
use Rattle.tree_repair.specs.Rebuilds.{rebuild_plan}
use Rattle.tree_repair.specs.Levels.{scan_plan}
use Rattle.world_stores.specs.Facts.{kept_of}
use Rattle.process_laws.specs.Memory.{StandsFor, StandsOpen, held_in}
use Rattle.process_laws.proofs.Walks.{tree_does, walk_so}

-- what was loaded is what is kept
loads_so : (a kept : Option SavedFact) (before now : ℕ) → Loads (kept_of kept) before now (Ok a) → a ≡ kept
loads_so None None before now is = refl
loads_so None (Some f) before now is = absurd (none-some (let r : Result SavedFact FactError = Ok f in r) (sym is))
loads_so (Some f) None before now is = absurd (none-some (let r : Result SavedFact FactError = Ok f in r) is)
loads_so (Some f) (Some g) before now is = cc

module _ {D : Type 0} (seen : D → Option (List ℕ)) (faults : D → ℕ) where
  abbrev pub does : OnDisks D → (call : Call) → AnswerOf call → OnDisks D → Type 0
  does = disks_do seen faults

  abbrev Walked_to : {A : Type 0} → Plan A → OnDisks D → Result A Position → OnDisks D → Type 0
  Walked_to plan s out t = Walks (tree_does seen faults) plan (s.0.tree, s.1) out (t.0.tree, t.1)

  -- the stores in memory answer this, and what they leave is what the disks hold
  pub record AnswersSo (call : Call) (h : HeldStores) (hashed : List (List ℕ)) (a : AnswerOf call) (t : OnDisks D) : Type 0 where
    pub result : (answered call (held_with h hashed)).result ≡ Ok a
    pub stands : StandsOpen seen t (answered call (held_with h hashed)).held.stores

  -- a call that the stores in memory answer with this outcome
  came_so : (call : Call) (h : HeldStores) (hashed : List (List ℕ)) (a : AnswerOf call) (t : OnDisks D) (came : Answered call) → answered call (held_with h hashed) ≡ came → came.result ≡ Ok a → StandsOpen seen t came.held.stores → AnswersSo call h hashed a t
  came_so call h hashed a t came is result stands = record { result = ap (λ (x : Answered call). x.result) is ∙ result; stands = subst (λ (x : Answered call). StandsOpen seen t x.held.stores) (sym is) stands }

  -- no store changed
  still : (s t : OnDisks D) (h : HeldStores) → t.0.backend ≡ s.0.backend → t.0.tree ≡ s.0.tree → held_kept t.0.facts ≡ held_kept s.0.facts → StandsOpen seen s h → StandsOpen seen t h
  still s t h backend tree facts before = record {
    stands = record {
      objects = subst (λ (b : DiskBackend D). HoldsObjects seen b h.backend.entries) (sym backend) before.stands.objects;
      nodes = subst (λ (n : Tree (DiskNodes D)). HoldsNodes seen n.store (held_in h.tree.store)) (sym tree) before.stands.nodes;
      fact = facts ∙ before.stands.fact;
      none = before.stands.none;
    };
    root = ap (λ (n : Tree (DiskNodes D)). n.top) tree ∙ before.root;
    version = ap (λ (n : Tree (DiskNodes D)). n.version) tree ∙ before.version;
  }

  -- a call of the tree, from the walk of its plan
  tree_so : {A : Type 0} (call : Call) (tells : End A → Result (AnswerOf call) PeerError) (root : Option (List ℕ) → End A → Option (List ℕ)) (plan : Plan A) (out : Result A Position) (a : AnswerOf call) (s t : OnDisks D) (h : HeldStores) (hashed : List (List ℕ))
      → answered call (held_with h hashed) ≡ by_walk call tells root (walked plan (held_with h hashed)) (held_with h hashed) → tells (end_was out) ≡ Ok a → t.0.tree.top ≡ root h.tree.top (end_was out) → t.0.tree.version ≡ version_given call h.tree.version (end_was out)
      → TreeAlone s t → Walked_to plan s out t → StandsFor seen s h → AnswersSo call h hashed a t
  tree_so call tells root plan out a s t h hashed is told top version alone walks stands =
      let so = walk_so seen faults plan (s.0.tree.store, s.1) (t.0.tree.store, t.1) h.tree.store hashed walks.0 out walks.1 stands.nodes stands.none.tree in
      came_so call h hashed a t (by_walk call tells root (walked plan (held_with h hashed)) (held_with h hashed)) is (ap tells so.end ∙ told) (record {
        stands = record {
          objects = subst (λ (b : DiskBackend D). HoldsObjects seen b h.backend.entries) (sym alone.0) stands.objects;
          nodes = so.holds;
          fact = ap held_kept alone.1 ∙ stands.fact;
          none = record { facts = stands.none.facts; tree = so.none; backend = stands.none.backend };
        };
        root = top ∙ ap (root h.tree.top) (sym so.end);
        version = version ∙ ap (version_given call h.tree.version) (sym so.end);
      })

  -- ## Calls that before a tree

  abbrev pub Opens : Call → Type 0
  Opens (FreshTree tree) = Unit {0}
  Opens (OpenTree seal tree) = Unit {0}
  Opens call = ⊥

  pub opens_so : (call : Call) → Opens call → (a : AnswerOf call) (s t : OnDisks D) (h : HeldStores) (hashed : List (List ℕ)) → does s call a t → StandsFor seen s h → AnswersSo call h hashed a t
  opens_so (FreshTree tree) opens a s t h hashed did stands =
      let root = some_root (λ root. Walked_to (fresh_plan (form_of tree)) s (Ok root) t) t.0.tree.top did.0 in
      tree_so (FreshTree tree) done root_after (fresh_plan (form_of tree)) (Ok root.0) a s t h hashed refl refl root.1 did.2 did.1.3 root.2 stands
  opens_so (OpenTree seal tree) opens a s t h hashed did stands = tree_so (OpenTree seal tree) done (root_read seal) open_plan (Ok did.0.0) a s t h hashed refl refl did.0.2 did.2 did.1.3 did.0.1 stands
  opens_so call opens a s t h hashed did stands = absurd opens

  -- the fact is loaded
  pub loads_answer : (a : Option SavedFact) (s t : OnDisks D) (h : HeldStores) → does s Load a t → StandsFor seen s h → h.facts.kept ≡ a
  loads_answer a s t h did stands = sym (loads_so a h.facts.kept 0 0 (subst (λ (o : Option (Result SavedFact FactError)). Loads o 0 0 (Ok a)) stands.fact did.0))

  -- ## Calls over an before tree

  -- a plan over the root and the version of the tree
  moved : {A : Type 0} (plan : TreeVersion → Option (List ℕ) → Plan A) (out : Result A Position) (s t : OnDisks D) (h : HeldStores) → StandsOpen seen s h → Walked_to (plan s.0.tree.version s.0.tree.top) s out t → Walked_to (plan h.tree.version h.tree.top) s out t
  moved plan out s t h before walks = subst (λ (version : TreeVersion). Walked_to (plan version h.tree.top) s out t) before.version (subst (λ (root : Option (List ℕ)). Walked_to (plan s.0.tree.version root) s out t) before.root walks)

  enters_so : (entry : Entry) (a : Walked (Unit {0})) (s t : OnDisks D) (h : HeldStores) (hashed : List (List ℕ)) → Changes (λ end. Walked_to (insert_plan (form_of s.0.tree.version) s.0.tree.top entry) s end t) s.0.tree.top a t.0.tree.top → t.0.tree.version ≡ s.0.tree.version → TreeAlone s t → StandsOpen seen s h → AnswersSo (Enter entry) h hashed a t
  enters_so entry (Reached u) s t h hashed did version alone before =
      let root = some_root (λ root. Walked_to (insert_plan (form_of s.0.tree.version) s.0.tree.top entry) s (Ok root) t) t.0.tree.top did in
      tree_so (Enter entry) entered root_after (insert_plan (form_of h.tree.version) h.tree.top entry) (Ok root.0) (Reached u) s t h hashed refl refl root.1 (version ∙ before.version) alone
      (moved (λ version top. insert_plan (form_of version) top entry) (Ok root.0) s t h before root.2) before.stands
  enters_so entry (Broken at) s t h hashed did version alone before =
      tree_so (Enter entry) entered root_after (insert_plan (form_of h.tree.version) h.tree.top entry) (Err at) (Broken at) s t h hashed refl refl (did.1 ∙ before.root) (version ∙ before.version) alone
      (moved (λ version top. insert_plan (form_of version) top entry) (Err at) s t h before did.0) before.stands

  -- a save that meets no failure
  saves_so : (fact : SavedFact) (h : HeldStores) (hashed : List (List ℕ)) → h.facts.faults.pending ≡ None → answered (Save fact) (held_with h hashed) ≡ record { result = Ok tt; held = with_facts (record h.facts { kept = Some fact }) (held_with h hashed) }
  saves_so fact h hashed none = goes_on h.facts.faults.pending (record { result = Ok tt; held = with_facts (record h.facts { kept = Some fact }) (held_with h hashed) }) (record { result = Ok tt; held = with_facts (record h.facts { kept = Some fact }) (held_with h hashed) })
      (λ leaves. record { result = Err StoreFault; held = with_facts (facts_failed h.facts (record h.facts { kept = Some fact }) leaves) (held_with h hashed) }) none refl

  -- a put that meets no failure
  puts_so : (key bytes : List ℕ) (h : HeldStores) (hashed : List (List ℕ)) → h.backend.faults.pending ≡ None → answered (Put key bytes) (held_with h hashed) ≡ record { result = Ok tt; held = with_backend (record h.backend { entries = with_value key bytes h.backend.entries }) (held_with h hashed) }
  puts_so key bytes h hashed none = goes_on h.backend.faults.pending (record { result = Ok tt; held = with_backend (record h.backend { entries = with_value key bytes h.backend.entries }) (held_with h hashed) })
      (record { result = Ok tt; held = with_backend (record h.backend { entries = with_value key bytes h.backend.entries }) (held_with h hashed) })
      (λ leaves. record { result = Err StoreFault; held = with_backend (objects_failed h.backend (record h.backend { entries = with_value key bytes h.backend.entries }) leaves) (held_with h hashed) }) none refl

  -- every call
  pub call_so : (call : Call) (a : AnswerOf call) (s t : OnDisks D) (h : HeldStores) (hashed : List (List ℕ)) → does s call a t → StandsOpen seen s h → AnswersSo call h hashed a t
  call_so Load a s t h hashed did before = record { result = ap Ok (loads_answer a s t h did before.stands); stands = still s t h did.3.0 did.3.1 did.1 before }
  call_so (Save fact) a s t h hashed did before =
      came_so (Save fact) h hashed a t (record { result = Ok tt; held = with_facts (record h.facts { kept = Some fact }) (held_with h hashed) }) (saves_so fact h hashed before.stands.none.facts) refl (record {
        stands = record {
          objects = subst (λ (b : DiskBackend D). HoldsObjects seen b h.backend.entries) (sym did.2.0) before.stands.objects;
          nodes = subst (λ (n : Tree (DiskNodes D)). HoldsNodes seen n.store (held_in h.tree.store)) (sym did.2.1) before.stands.nodes;
          fact = did.0;
          none = record { facts = before.stands.none.facts; tree = before.stands.none.tree; backend = before.stands.none.backend };
        };
        root = ap (λ (n : Tree (DiskNodes D)). n.top) did.2.1 ∙ before.root;
        version = ap (λ (n : Tree (DiskNodes D)). n.version) did.2.1 ∙ before.version;
      })
  call_so (FreshTree tree) a s t h hashed did before = opens_so (FreshTree tree) tt a s t h hashed did before.stands
  call_so (OpenTree seal tree) a s t h hashed did before = opens_so (OpenTree seal tree) tt a s t h hashed did before.stands
  call_so Root a s t h hashed did before = record { result = ap Ok (sym before.root ∙ sym did.0.0); stands = still s t h did.1.3.0 did.0.1 (ap held_kept did.1.3.1) before }
  call_so (Find key) a s t h hashed did before =
      tree_so (Find key) looked root_kept (get_plan (form_of h.tree.version) h.tree.top key) (end_of a) a s t h hashed refl (looked_end a) (did.0.1 ∙ before.root) (did.2 ∙ before.version) did.1.3 (moved (λ version top. get_plan (form_of version) top key) (end_of a) s t h before did.0.0) before.stands
  call_so (Enter entry) a s t h hashed did before = enters_so entry a s t h hashed did.0 did.2 did.1.3 before
  call_so ScanTree a s t h hashed did before =
      tree_so ScanTree whole root_kept (scan_plan (form_of h.tree.version) h.tree.top) (Ok a) a s t h hashed refl refl (did.0.1 ∙ before.root) (did.2 ∙ before.version) did.1.3 (moved (λ version top. scan_plan (form_of version) top) (Ok a) s t h before did.0.0) before.stands
  call_so (ReadNode at) a s t h hashed did before =
      tree_so (ReadNode at) looked root_kept (position_plan h.tree.version h.tree.top at) (end_of a) a s t h hashed refl (looked_end a) (did.0.1 ∙ before.root) (did.2 ∙ before.version) did.1.3 (moved (λ version top. position_plan version top at) (end_of a) s t h before did.0.0) before.stands
  call_so (Install entries) a s t h hashed did before =
      let root = some_root (λ root. Walked_to (rebuild_plan (form_of s.0.tree.version) entries) s (Ok root) t) t.0.tree.top did.0 in
      tree_so (Install entries) done root_after (rebuild_plan (form_of h.tree.version) entries) (Ok root.0) a s t h hashed refl refl root.1 (did.2 ∙ before.version) did.1.3 (moved (λ version top. rebuild_plan (form_of version) entries) (Ok root.0) s t h before root.2) before.stands
  call_so (Fetch key) a s t h hashed did before = record {
    result = ap Ok (sym (did.0.answers h.backend.entries before.stands.objects));
    stands = record {
      stands = record {
        objects = did.0.holds h.backend.entries before.stands.objects;
        nodes = subst (λ (n : Tree (DiskNodes D)). HoldsNodes seen n.store (held_in h.tree.store)) (sym did.2.0) before.stands.nodes;
        fact = ap held_kept did.2.1 ∙ before.stands.fact;
        none = before.stands.none;
      };
      root = ap (λ (n : Tree (DiskNodes D)). n.top) did.2.0 ∙ before.root;
      version = ap (λ (n : Tree (DiskNodes D)). n.version) did.2.0 ∙ before.version;
    };
  }
  call_so (Put key bytes) a s t h hashed did before =
      came_so (Put key bytes) h hashed a t (record { result = Ok tt; held = with_backend (record h.backend { entries = with_value key bytes h.backend.entries }) (held_with h hashed) }) (puts_so key bytes h hashed before.stands.none.backend) refl (record {
        stands = record {
          objects = did.0.holds h.backend.entries before.stands.objects;
          nodes = subst (λ (n : Tree (DiskNodes D)). HoldsNodes seen n.store (held_in h.tree.store)) (sym did.2.0) before.stands.nodes;
          fact = ap held_kept did.2.1 ∙ before.stands.fact;
          none = record { facts = before.stands.none.facts; tree = before.stands.none.tree; backend = before.stands.none.backend };
        };
        root = ap (λ (n : Tree (DiskNodes D)). n.top) did.2.0 ∙ before.root;
        version = ap (λ (n : Tree (DiskNodes D)). n.version) did.2.0 ∙ before.version;
      })
  call_so (Hash bytes) a s t h hashed did before = record { result = ap Ok (sym did.0); stands = still s t h (ap (λ stores. stores.backend) did.4) (ap (λ stores. stores.tree) did.4) (ap (λ stores. held_kept stores.facts) did.4) before }
