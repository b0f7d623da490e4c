-- What the tree of a peer and the hasher lent to it may answer: each call is a plan of the tree.
use Rattle.std.specs.Option.{IsSomeAnd}
use Rattle.std.specs.Prelude.{◌≡◌, ℕ, Bool, nat_le, if◌then◌else◌, List, Option, None, Result, Ok, Err}
use Rattle.step_plans.specs.Calls.{Call, FreshTree, OpenTree, Root, Find, Enter, ScanTree, ReadNode, Install, AnswerOf}
use Rattle.step_plans.specs.declared.walked.Walked.{Walked}
use Rattle.step_plans.specs.declared.walked.Walked.TheVariants.{Reached, Broken}
use Rattle.step_plans.specs.declared.error.PeerError.{PeerError}
use Rattle.step_plans.specs.declared.error.PeerError.TheVariants as errors
use Rattle.tree_node.specs.declared.version.TreeVersion.{TreeVersion}
use Rattle.tree_node.specs.TreeVersions.{levels}
use Rattle.synctree.specs.Nodes.{node_plan}
use Rattle.synctree.specs.Plans.{Plan, Done, Ends, Stops, Call as TreeCall, AnswerOf as TreeAnswer}
use Rattle.synctree.specs.Seals.{root_under}
use Rattle.synctree.specs.Trees.{open_plan, fresh_plan, get_plan, insert_plan}
use Rattle.synctree.specs.declared.error.TreeError.{TreeError}
use Rattle.synctree.specs.declared.error.TreeError.TheVariants as trees
use Rattle.synctree.specs.declared.tree.Tree.{Tree}
use Rattle.synctree.specs.Sixteen.{form_of}
use Rattle.tree_node.specs.declared.position.Position.{Position}
use Rattle.tree_repair.specs.Rebuilds.{rebuild_plan}
use Rattle.tree_repair.specs.Levels.{scan_plan}

-- whether a tree of this version has positions of this level
abbrev pub has_position : TreeVersion → Position → Bool
has_position tree at = nat_le at.level (levels tree)

-- the bytes of the node at a position, or none if the position is empty, or one that a tree of this version
-- does not have
abbrev pub position_plan : TreeVersion → Option (List ℕ) → Position → Plan (Option (List ℕ))
position_plan tree top at = if has_position tree at then node_plan (form_of tree) top at else Done None

-- the version of the tree after a call: one that makes or opens a tree is told it
abbrev pub version_after : Call → TreeVersion → TreeVersion
version_after (FreshTree tree) old = tree
version_after (OpenTree seal tree) old = tree
version_after call old = old

-- the end of a walk that has this answer
abbrev pub end_of : {A : Type 0} → Walked A → Result A Position
end_of (Reached found) = Ok found
end_of (Broken at) = Err at

-- the plan came to this end, and led the nodes and the hasher from one state to the other
abbrev pub Walks : {A N H : Type 0} → (N × H → (call : TreeCall) → TreeAnswer call → N × H → Type 0) → Plan A → Tree N × H → Result A Position → Tree N × H → Type 0
Walks does plan s end t = (strings : List (List ℕ)) × Ends does plan (s.0.store, s.1) strings end (t.0.store, t.1)

-- the plan of a change came to an end: the root of the tree has the digest that the plan returned,
-- or it is the old root where a position did not verify
abbrev pub Changes : (Result (List ℕ) Position → Type 0) → Option (List ℕ) → Walked (Unit {0}) → Option (List ℕ) → Type 0
Changes ended old (Reached x) new = IsSomeAnd new (λ root. ended (Ok root))
Changes ended old (Broken at) new = ended (Err at) × (new ≡ old)

-- the error of a peer whose tree was stopped by this error; damage is an answer, and stops no plan
abbrev pub peer_error : TreeError → PeerError
peer_error (trees.Damaged at) = errors.StoreFault
peer_error trees.Failed = errors.StoreFault
peer_error (trees.Clash first second) = errors.Clash first.items second.items
peer_error (trees.BookFull kept) = errors.BookFull kept
peer_error trees.Memory = errors.Memory

-- the result of a call of a peer's tree, where the call of the tree itself had this result
abbrev pub heard : {A : Type 0} → Result A TreeError → Result (Walked A) PeerError
heard (Ok x) = Ok (Reached x)
heard (Err (trees.Damaged at)) = Ok (Broken at)
heard (Err e) = Err (peer_error e)

-- the plan was stopped, with this error of the peer, and the tree has its old root and its old version
abbrev pub Halts : {A N H : Type 0} → (N × H → (call : TreeCall) → TreeAnswer call → N × H → Type 0) → (N × H → TreeCall → TreeError → N × H → Type 0)
    → Plan A → Tree N × H → PeerError → Tree N × H → Type 0
Halts does refuses plan s e t = (error : TreeError) × (e ≡ peer_error error) × Stops does refuses plan (s.0.store, s.1) error (t.0.store, t.1) × (t.0.top ≡ s.0.top) × (t.0.version ≡ s.0.version)

-- A call of the tree was answered, in the version of the tree. Calls that do not change the map leave the
-- root as it was.
abbrev pub TreeDoes : {N H : Type 0} → (N × H → (call : TreeCall) → TreeAnswer call → N × H → Type 0) → Tree N × H → (call : Call) → AnswerOf call → Tree N × H → Type 0
TreeDoes does s (FreshTree tree) a t = IsSomeAnd t.0.top (λ root. Walks does (fresh_plan (form_of tree)) s (Ok root) t)
TreeDoes does s (OpenTree seal tree) a t = (top : Option (List ℕ)) × Walks does open_plan s (Ok top) t × (t.0.top ≡ root_under seal top)
TreeDoes does s Root a t = (a ≡ s.0.top) × (t.0 ≡ s.0) × (t.1 ≡ s.1)
TreeDoes does s (Find key) a t = Walks does (get_plan (form_of s.0.version) s.0.top key) s (end_of a) t × (t.0.top ≡ s.0.top)
TreeDoes does s (Enter entry) a t = Changes (λ end. Walks does (insert_plan (form_of s.0.version) s.0.top entry) s end t) s.0.top a t.0.top
TreeDoes does s ScanTree a t = Walks does (scan_plan (form_of s.0.version) s.0.top) s (Ok a) t × (t.0.top ≡ s.0.top)
TreeDoes does s (ReadNode at) a t = Walks does (position_plan s.0.version s.0.top at) s (end_of a) t × (t.0.top ≡ s.0.top)
TreeDoes does s (Install entries) a t = IsSomeAnd t.0.top (λ root. Walks does (rebuild_plan (form_of s.0.version) entries) s (Ok root) t)
TreeDoes does s call a t = ⊥

-- A call of the tree was refused: its plan was stopped. It may have written nodes, and the stored
-- top record may be the new one.
abbrev pub TreeRefuses : {N H : Type 0} → (N × H → (call : TreeCall) → TreeAnswer call → N × H → Type 0) → (N × H → TreeCall → TreeError → N × H → Type 0)
    → Tree N × H → Call → PeerError → Tree N × H → Type 0
TreeRefuses does refuses s (FreshTree tree) e t = Halts does refuses (fresh_plan (form_of tree)) s e t
TreeRefuses does refuses s (OpenTree seal tree) e t = Halts does refuses open_plan s e t
TreeRefuses does refuses s (Find key) e t = Halts does refuses (get_plan (form_of s.0.version) s.0.top key) s e t
TreeRefuses does refuses s (Enter entry) e t = Halts does refuses (insert_plan (form_of s.0.version) s.0.top entry) s e t
TreeRefuses does refuses s ScanTree e t = Halts does refuses (scan_plan (form_of s.0.version) s.0.top) s e t
TreeRefuses does refuses s (ReadNode at) e t = Halts does refuses (position_plan s.0.version s.0.top at) s e t
TreeRefuses does refuses s (Install entries) e t = Halts does refuses (rebuild_plan (form_of s.0.version) entries) s e t
TreeRefuses does refuses s call e t = ⊥
