-- The walk of a plan of a tree over nodes on a disk is its walk over nodes in memory.
use Rattle.std.proofs.Common.{◌≡◌, ℕ, List, [], ◌∷◌, ◌++◌, Option, None, Some, Result, Ok, Err, refl, sym, ap, ◌∙◌, subst}
use Rattle.disk_stores.specs.DiskCalls.{HoldsNodes, NodesDo}
use Rattle.disk_stores.specs.declared.nodes.DiskNodes.{DiskNodes}
use Rattle.hash_book.specs.declared.plain.PlainHasher.{PlainHasher}
use Rattle.environment.specs.MemStores.{Held as NodesHeld, node_answer, nodes_after}
use Rattle.environment.specs.Stores.{NodeCall, NodeAnswer, Read, Write, Top, SetTop}
use Rattle.world_spec.proofs.Walking.{end_was, goes_on}
use Rattle.world_spec.specs.Walks.{Failed, walk, nodes_failed}
use Rattle.synctree.specs.Outsides.{outside_does}
use Rattle.synctree.specs.Plans.{Call, Node, Hash, AnswerOf, Plan, Done, Broken, Ask, Ends}
use Rattle.tree_node.specs.declared.position.Position.{Position}
use Rattle.peer_refinement.proofs.Recording.{last_top}
use Rattle.world_stores.specs.Nodes.{Nodes, refusal, answer, after}
use Rattle.process_laws.specs.Memory.{held_in}
use Rattle.world_spec.proofs.Ending.{none_refused}

-- what a call does to nodes is the same for both
answers_same : (k : Nodes) (call : NodeCall) → node_answer (held_in k) call ≡ answer k call
answers_same k (Read digest) = refl
answers_same k (Write digest bytes) = refl
answers_same k Top = refl
answers_same k (SetTop digest) = refl

after_same : (k : Nodes) (call : NodeCall) → nodes_after (held_in k) call ≡ held_in (after k call)
after_same k (Read digest) = refl
after_same k (Write digest bytes) = refl
after_same k Top = refl
after_same k (SetTop digest) = let held : Option (List ℕ) → NodesHeld = λ top. record { entries = k.entries; top = top } in ap held (sym (last_top k.tops digest))

none_after : (k : Nodes) (call : NodeCall) → k.faults.pending ≡ None → (after k call).faults.pending ≡ None
none_after k (Read digest) none = none
none_after k (Write digest bytes) none = none
none_after k Top none = none
none_after k (SetTop digest) none = none

node_walks : {A : Type 0} (call : NodeCall) (next : NodeAnswer call → Plan A) (k : Nodes) (hashed : List (List ℕ)) → refusal k call ≡ None → walk (Ask (Node call) next) k hashed ≡ walk (next (answer k call)) (after k call) hashed
unfolding walk
node_walks call next k hashed none =
    goes_on (refusal k call) (walk (next (answer k call)) (after k call) hashed) (walk (next (answer k call)) (after k call) hashed) (λ leaves. record { end = Failed; nodes = nodes_failed k call leaves; hashed = hashed }) none refl

hash_walks : {A : Type 0} (bytes : List ℕ) (next : Unit {0} → Plan A) (k : Nodes) (hashed : List (List ℕ)) → walk (Ask (Hash bytes) next) k hashed ≡ walk (next tt) k (hashed ++ bytes ∷ [])
unfolding walk
hash_walks bytes next k hashed = refl

module _ {D : Type 0} (seen : D → Option (List ℕ)) (faults : D → ℕ) where
  -- what nodes on a disk and a hasher that keeps nothing may answer to a tree
  abbrev pub tree_does : DiskNodes D × PlainHasher → (call : Call) → AnswerOf call → DiskNodes D × PlainHasher → Type 0
  tree_does = outside_does (NodesDo seen) (λ n. Some n.top) (λ n. faults n.log.file.disk) (λ h. None) (λ h. 0) (λ h. 0)

  -- the walk over nodes in memory comes to this end, and the disk holds what it leaves
  pub record WalksSo {A : Type 0} (plan : Plan A) (k : Nodes) (hashed : List (List ℕ)) (out : Result A Position) (m : DiskNodes D) : Type 0 where
    pub end : (walk plan k hashed).end ≡ end_was out
    pub holds : HoldsNodes seen m (held_in (walk plan k hashed).nodes)
    pub none : (walk plan k hashed).nodes.faults.pending ≡ None

  done_so : {A : Type 0} (x : A) (k : Nodes) (hashed : List (List ℕ)) (out : Result A Position) (n m : DiskNodes D) → out ≡ Ok x → m ≡ n → HoldsNodes seen n (held_in k) → k.faults.pending ≡ None → WalksSo (Done x) k hashed out m
  unfolding walk
  done_so x k hashed out n m is same holds none = record { end = ap end_was (sym is); holds = subst (λ (d : DiskNodes D). HoldsNodes seen d (held_in k)) (sym same) holds; none = none }

  broken_so : {A : Type 0} (at : Position) (k : Nodes) (hashed : List (List ℕ)) (out : Result A Position) (n m : DiskNodes D) → out ≡ Err at → m ≡ n → HoldsNodes seen n (held_in k) → k.faults.pending ≡ None → WalksSo (Broken at) k hashed out m
  unfolding walk
  broken_so at k hashed out n m is same holds none = record { end = ap end_was (sym is); holds = subst (λ (d : DiskNodes D). HoldsNodes seen d (held_in k)) (sym same) holds; none = none }

  -- a walk that goes on as another one
  as_other : {A : Type 0} (plan other : Plan A) (k l : Nodes) (hashed more : List (List ℕ)) (out : Result A Position) (m : DiskNodes D) → walk plan k hashed ≡ walk other l more → WalksSo other l more out m → WalksSo plan k hashed out m
  as_other plan other k l hashed more out m same so = record {
    end = ap (λ w. w.end) same ∙ so.end;
    holds = subst (λ w. HoldsNodes seen m (held_in w.nodes)) (sym same) so.holds;
    none = ap (λ w. w.nodes.faults.pending) same ∙ so.none;
  }

  -- every plan of a tree
  pub walk_so : {A : Type 0} (plan : Plan A) (s t : DiskNodes D × PlainHasher) (k : Nodes) (hashed xs : List (List ℕ)) (out : Result A Position) → Ends tree_does plan s xs out t → HoldsNodes seen s.0 (held_in k) → k.faults.pending ≡ None → WalksSo plan k hashed out t.0
  walk_so (Done x) s t k hashed xs out came holds none = done_so x k hashed out s.0 t.0 came.1 (ap (λ p. p.0) came.2) holds none
  walk_so (Broken at) s t k hashed xs out came holds none = broken_so at k hashed out s.0 t.0 came.1 (ap (λ p. p.0) came.2) holds none
  walk_so (Ask (Hash bytes) next) s t k hashed xs out came holds none =
      as_other (Ask (Hash bytes) next) (next tt) k k hashed (hashed ++ bytes ∷ []) out t.0 (hash_walks bytes next k hashed)
      (walk_so (next tt) came.1 t k (hashed ++ bytes ∷ []) came.2 out came.5 (subst (λ (d : DiskNodes D). HoldsNodes seen d (held_in k)) (sym came.3.0) holds) none)
  walk_so (Ask (Node call) next) s t k hashed xs out came holds none =
      as_other (Ask (Node call) next) (next (answer k call)) k (after k call) hashed hashed out t.0 (node_walks call next k hashed (none_refused k call none))
      (subst (λ a. WalksSo (next a) (after k call) hashed out t.0) (came.3.0.answers (held_in k) holds ∙ answers_same k call)
      (walk_so (next came.0) came.1 t (after k call) hashed came.2 out came.5 (subst (λ (held : NodesHeld). HoldsNodes seen came.1.0 held) (after_same k call) (came.3.0.holds (held_in k) holds)) (none_after k call none)))
