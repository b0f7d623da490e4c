-- A walk that writes the top record last: what it hashed, and which top records it left, also where
-- that write is refused.
use Rattle.std.proofs.Common.{◌≡◌, ◌⊎◌, ℕ, List, [], ◌∷◌, ◌++◌, Option, None, Some, Ok, refl, ap, sym, ◌∙◌, subst, append_assoc, inl, inr}
use Rattle.std.proofs.lemmas.List.{append-nil}
use Rattle.environment.specs.Stores.{NodeCall, Read, Write, Top, SetTop}
use Rattle.environment.specs.declared.memory.failing_call.Leaves.{Leaves}
use Rattle.environment.specs.declared.memory.failing_call.Leaves.TheVariants.{Old, New}
use Rattle.world_spec.specs.Held.{unless_failing}
use Rattle.world_spec.specs.Walks.{End, Came, Broke, Failed, Walk, walk, nodes_failed}
use Rattle.synctree.specs.Plans.{Call, Node, Hash, AnswerOf, Plan, Done, Broken, Ask, Ends}
use Rattle.world_stores.specs.Nodes.{Nodes, answer, after}
use Rattle.peer_refinement.proofs.Recording.{WritesTopLast}

-- what nodes in memory do at a call if no failure waits
abbrev pub would : Nodes → (call : Call) → AnswerOf call → Nodes → Type 0
would s (Node call) a t = (a ≡ answer s call) × (t ≡ after s call)
would s (Hash bytes) a t = t ≡ s

-- the plan leads to this digest if no failure waits, and hashes the strings that were added
pub record LeadsTo (p : Plan (List ℕ)) (s : Nodes) (hashed now : List (List ℕ)) (digest : List ℕ) : Type 0 where
  pub strings : List (List ℕ)
  pub last : Nodes
  pub grew : now ≡ hashed ++ strings
  pub came : Ends would p s strings (Ok digest) last

-- The top records after a walk of the plan. A walk that fails does so at its last write, of the
-- digest to which the plan leads: the record is written, or it is not.
abbrev pub LeavesTops : Plan (List ℕ) → Nodes → List (List ℕ) → List (List ℕ) → List (List ℕ) → End (List ℕ) → Type 0
LeavesTops p s hashed tops now (Came digest) = LeadsTo p s hashed now digest × (tops ≡ s.tops ++ digest ∷ [])
LeavesTops p s hashed tops now (Broke at) = tops ≡ s.tops
LeavesTops p s hashed tops now Failed = (digest : List ℕ) × LeadsTo p s hashed now digest × ((tops ≡ s.tops) ⊎ (tops ≡ s.tops ++ digest ∷ []))

-- ## The first call of a plan

hash_leads : (bytes : List ℕ) (next : Unit {0} → Plan (List ℕ)) (s : Nodes) (hashed now : List (List ℕ)) (digest : List ℕ) → LeadsTo (next tt) s (hashed ++ bytes ∷ []) now digest → LeadsTo (Ask (Hash bytes) next) s hashed now digest
hash_leads bytes next s hashed now digest leads = record {
  strings = bytes ∷ leads.strings;
  last = leads.last;
  grew = leads.grew ∙ append_assoc hashed (bytes ∷ []) leads.strings;
  came = (tt, s, leads.strings, refl, refl, leads.came);
}

hash_leaves : (bytes : List ℕ) (next : Unit {0} → Plan (List ℕ)) (s : Nodes) (hashed tops now : List (List ℕ)) (end : End (List ℕ)) → LeavesTops (next tt) s (hashed ++ bytes ∷ []) tops now end → LeavesTops (Ask (Hash bytes) next) s hashed tops now end
hash_leaves bytes next s hashed tops now (Came digest) (leads, is) = (hash_leads bytes next s hashed now digest leads, is)
hash_leaves bytes next s hashed tops now (Broke at) is = is
hash_leaves bytes next s hashed tops now Failed (digest, leads, either) = (digest, hash_leads bytes next s hashed now digest leads, either)

node_leads : (call : NodeCall) (next : AnswerOf (Node call) → Plan (List ℕ)) (s : Nodes) (hashed now : List (List ℕ)) (digest : List ℕ) → LeadsTo (next (answer s call)) (after s call) hashed now digest → LeadsTo (Ask (Node call) next) s hashed now digest
node_leads call next s hashed now digest leads = record {
  strings = leads.strings;
  last = leads.last;
  grew = leads.grew;
  came = (answer s call, after s call, leads.strings, (refl, refl), refl, leads.came);
}

-- a call to the store that leaves the top records
node_leaves : (call : NodeCall) (next : AnswerOf (Node call) → Plan (List ℕ)) (s : Nodes) (hashed tops now : List (List ℕ)) (end : End (List ℕ)) → (after s call).tops ≡ s.tops → LeavesTops (next (answer s call)) (after s call) hashed tops now end → LeavesTops (Ask (Node call) next) s hashed tops now end
node_leaves call next s hashed tops now (Came digest) same (leads, is) = (node_leads call next s hashed now digest leads, is ∙ ap (λ (ts : List (List ℕ)). ts ++ digest ∷ []) same)
node_leaves call next s hashed tops now (Broke at) same is = is ∙ same
node_leaves call next s hashed tops now Failed same (digest, leads, inl is) = (digest, node_leads call next s hashed now digest leads, inl (is ∙ same))
node_leaves call next s hashed tops now Failed same (digest, leads, inr is) = (digest, node_leads call next s hashed now digest leads, inr (is ∙ ap (λ (ts : List (List ℕ)). ts ++ digest ∷ []) same))

-- ## The last write

set_leads : (digest : List ℕ) (next : Unit {0} → Plan (List ℕ)) (s : Nodes) (hashed : List (List ℕ)) → next tt ≡ Done digest → LeadsTo (Ask (Node (SetTop digest)) next) s hashed hashed digest
set_leads digest next s hashed is = record {
  strings = [];
  last = after s (SetTop digest);
  grew = sym (append-nil hashed);
  came = (tt, after s (SetTop digest), [], (refl, refl), refl, subst (λ (q : Plan (List ℕ)). Ends would q (after s (SetTop digest)) [] (Ok digest) (after s (SetTop digest))) (sym is) (refl, refl, refl));
}

set_leaves : (digest : List ℕ) (next : Unit {0} → Plan (List ℕ)) (s : Nodes) (hashed : List (List ℕ)) (o : Option Leaves) → next tt ≡ Done digest
    → let w = unless_failing {R = Walk (List ℕ)} o (walk (next tt) (after s (SetTop digest)) hashed) (λ leaves. record { end = Failed; nodes = nodes_failed s (SetTop digest) leaves; hashed = hashed }) in LeavesTops (Ask (Node (SetTop digest)) next) s hashed w.nodes.tops w.hashed w.end
unfolding walk
set_leaves digest next s hashed None is = subst (λ (q : Plan (List ℕ)). let w = walk q (after s (SetTop digest)) hashed in LeavesTops (Ask (Node (SetTop digest)) next) s hashed w.nodes.tops w.hashed w.end) (sym is) (set_leads digest next s hashed is, refl)
set_leaves digest next s hashed (Some Old) is = (digest, set_leads digest next s hashed is, inl refl)
set_leaves digest next s hashed (Some New) is = (digest, set_leads digest next s hashed is, inr refl)

-- so it is with each walk of a plan that writes the top record once, at its end
pub walk_leaves : (p : Plan (List ℕ)) (s : Nodes) (hashed : List (List ℕ)) → WritesTopLast p → let w = walk p s hashed in LeavesTops p s hashed w.nodes.tops w.hashed w.end
unfolding walk
walk_leaves (Done x) s hashed last = absurd last
walk_leaves (Broken at) s hashed last = refl
walk_leaves (Ask (Hash bytes) next) s hashed last =
    let w = walk (next tt) s (hashed ++ bytes ∷ []) in
    hash_leaves bytes next s hashed w.nodes.tops w.hashed w.end (walk_leaves (next tt) s (hashed ++ bytes ∷ []) (last tt))
walk_leaves (Ask (Node (Read digest)) next) s hashed last =
    let w = walk (next (answer s (Read digest))) s hashed in
    node_leaves (Read digest) next s hashed w.nodes.tops w.hashed w.end refl (walk_leaves (next (answer s (Read digest))) s hashed (last (answer s (Read digest))))
walk_leaves (Ask (Node (Write digest bytes)) next) s hashed last =
    let w = walk (next tt) (after s (Write digest bytes)) hashed in
    node_leaves (Write digest bytes) next s hashed w.nodes.tops w.hashed w.end refl (walk_leaves (next tt) (after s (Write digest bytes)) hashed (last tt))
walk_leaves (Ask (Node Top) next) s hashed last =
    let w = walk (next (answer s Top)) s hashed in
    node_leaves Top next s hashed w.nodes.tops w.hashed w.end refl (walk_leaves (next (answer s Top)) s hashed (last (answer s Top)))
walk_leaves (Ask (Node (SetTop digest)) next) s hashed last = set_leaves digest next s hashed s.faults.pending last
