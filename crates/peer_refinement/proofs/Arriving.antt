-- When the walk of a plan comes to a value.
use Rattle.std.proofs.Common.{◌≡◌, ℕ, Bool, true, cond, List, [], ◌∷◌, ◌++◌, Option, None, Some, refl, ap, sym, ◌∙◌, subst, inl}
use Rattle.ens_base.proofs.Lists.{in_right, bytes_itself}
use Rattle.md5.specs.Md5.{md5}
use Rattle.ens_base.specs.Lists.{◌∈◌, same_bytes}
use Rattle.environment.specs.Maps.{value_at}
use Rattle.environment.specs.declared.memory.failing_call.Leaves.{Leaves}
use Rattle.world_spec.specs.Held.{unless_failing}
use Rattle.world_spec.specs.Walks.{Came, Failed, Walk, walk, nodes_failed}
use Rattle.synctree.specs.Plans.{Node, Hash, Plan, Done, Broken, Ask, ◌>>=◌}
use Rattle.synctree.specs.Walks.{verified, fetch, spelled, open_node}
use Rattle.tree_node.specs.declared.position.Position.{Position}
use Rattle.world_stores.specs.Nodes.{Nodes, refusal, answer, after}
use Rattle.peer_refinement.specs.Trees.{AreAmong}
use Rattle.peer_refinement.specs.Whole.{IsStored}
use Rattle.peer_refinement.proofs.Walking.{walk_grows}

-- The walk of the plan from these nodes comes to a value, and this holds of the value and of the
-- nodes after it, if each string that is hashed on the way is in the list.
abbrev pub Reaches : {A : Type 0} → List (List ℕ) → Plan A → Nodes → (A → Nodes → Type 0) → Type 0
Reaches strings (Done x) s holds = holds x s
Reaches strings (Broken at) s holds = ⊥
Reaches strings (Ask (Hash bytes) next) s holds = bytes ∈ strings → Reaches strings (next tt) s holds
Reaches strings (Ask (Node call) next) s holds = (refusal s call ≡ None) × Reaches strings (next (answer s call)) (after s call) holds

-- it comes to this value, and leaves the nodes
abbrev pub Tells : {A : Type 0} → List (List ℕ) → Plan A → Nodes → A → Type 0
Tells strings p s x = Reaches strings p s (λ y t. (y ≡ x) × (t ≡ s))

pub record Arrives {A : Type 0} (w : Walk A) (holds : A → Nodes → Type 0) : Type 0 where
  pub value : A
  pub came : w.end ≡ Came value
  pub held : holds value w.nodes

pub goes_on : {R : Type 0} (P : R → Type 0) (o : Option Leaves) (goes : R) (fails : Leaves → R) → o ≡ None → P goes → P (unless_failing o goes fails)
goes_on P None goes fails e p = p
goes_on P (Some leaves) goes fails e p = absurd cc

pub arrives : {A : Type 0} (strings : List (List ℕ)) (p : Plan A) (s : Nodes) (hashed : List (List ℕ)) (holds : A → Nodes → Type 0) → Reaches strings p s holds → AreAmong (walk p s hashed).hashed strings → Arrives (walk p s hashed) holds
unfolding walk
arrives strings (Done x) s hashed holds r among = record { value = x; came = refl; held = r }
arrives strings (Broken at) s hashed holds r among = absurd r
arrives strings (Ask (Hash bytes) next) s hashed holds r among =
    arrives strings (next tt) s (hashed ++ bytes ∷ []) holds (r (among bytes (walk_grows (next tt) s (hashed ++ bytes ∷ []) bytes (in_right hashed (bytes ∷ []) bytes (inl refl))))) among
arrives {A} strings (Ask (Node call) next) s hashed holds r among =
    goes_on (λ (w : Walk A). AreAmong w.hashed strings → Arrives w holds) (refusal s call) (walk (next (answer s call)) (after s call) hashed) (λ leaves. record { end = Failed; nodes = nodes_failed s call leaves; hashed = hashed }) r.0
    (λ a. arrives strings (next (answer s call)) (after s call) hashed holds r.1 a) among

-- the end of a walk that tells a value
pub told : {A : Type 0} (p : Plan A) (s : Nodes) (hashed : List (List ℕ)) (x : A) → Tells (walk p s hashed).hashed p s x → (walk p s hashed).end ≡ Came x
told p s hashed x tells =
    let a = arrives (walk p s hashed).hashed p s hashed (λ y t. (y ≡ x) × (t ≡ s)) tells (λ y i. i) in
    a.came ∙ ap Came a.held.0

module _ (strings : List (List ℕ)) where
  pub reaches_then : {A B : Type 0} (p : Plan A) (f : A → Plan B) (s : Nodes) (first : A → Nodes → Type 0) (holds : B → Nodes → Type 0) → Reaches strings p s first → ((x : A) (t : Nodes) → first x t → Reaches strings (f x) t holds) → Reaches strings (p >>= f) s holds
  reaches_then (Done x) f s first holds r rest = rest x s r
  reaches_then (Broken at) f s first holds r rest = absurd r
  reaches_then (Ask (Hash bytes) next) f s first holds r rest = λ i. reaches_then (next tt) f s first holds (r i) rest
  reaches_then (Ask (Node call) next) f s first holds r rest = (r.0, reaches_then (next (answer s call)) f (after s call) first holds r.1 rest)

  pub reaches_more : {A : Type 0} (p : Plan A) (s : Nodes) (first holds : A → Nodes → Type 0) → Reaches strings p s first → ((x : A) (t : Nodes) → first x t → holds x t) → Reaches strings p s holds
  reaches_more (Done x) s first holds r more = more x s r
  reaches_more (Broken at) s first holds r more = absurd r
  reaches_more (Ask (Hash bytes) next) s first holds r more = λ i. reaches_more (next tt) s first holds (r i) more
  reaches_more (Ask (Node call) next) s first holds r more = (r.0, reaches_more (next (answer s call)) (after s call) first holds r.1 more)

  -- a plan after one that tells a value
  pub tells_then : {A B : Type 0} (p : Plan A) (f : A → Plan B) (s : Nodes) (x : A) (holds : B → Nodes → Type 0) → Tells strings p s x → Reaches strings (f x) s holds → Reaches strings (p >>= f) s holds
  tells_then {A} {B} p f s x holds tells rest = reaches_then p f s (λ y t. (y ≡ x) × (t ≡ s)) holds tells by
    where
      by : (y : A) (t : Nodes) → (y ≡ x) × (t ≡ s) → Reaches strings (f y) t holds
      by y t (e, same) = subst (λ (u : Nodes). Reaches strings (f y) u holds) (sym same) (subst (λ (z : A). Reaches strings (f z) s holds) (sym e) rest)

  -- ## Stored nodes

  pub fetch_tells : (at : Position) (digest bytes : List ℕ) (s : Nodes) → digest ≡ md5 bytes → IsStored s.entries bytes → Tells strings (fetch at digest) s bytes
  fetch_tells at digest bytes s is stored = (refl, subst (λ (o : Option (List ℕ)). Tells strings (verified at digest o) s bytes) (sym (ap (λ d. value_at d s.entries) is ∙ stored)) (λ i. subst (λ (b : Bool). Tells strings (cond b (Done bytes) (Broken at)) s bytes) (sym same) (refl, refl)))
    where
      same : same_bytes (md5 bytes) digest ≡ true
      same = ap (same_bytes (md5 bytes)) is ∙ bytes_itself (md5 bytes)

  pub open_tells : {A : Type 0} (node_at : List ℕ → Option A) (at : Position) (digest bytes : List ℕ) (node : A) (s : Nodes) → digest ≡ md5 bytes → IsStored s.entries bytes → node_at bytes ≡ Some node → Tells strings (open_node node_at at digest) s node
  open_tells {A} node_at at digest bytes node s is stored spells = tells_then (fetch at digest) (λ b. spelled at (node_at b)) s bytes (λ y t. (y ≡ node) × (t ≡ s)) (fetch_tells at digest bytes s is stored)
      (subst (λ (o : Option A). Tells strings (spelled at o) s node) (sym spells) (refl, refl))
