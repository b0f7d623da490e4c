-- What the stores of a peer in memory answer to a call, as a function.
use Rattle.std.specs.Prelude.{ℕ, List, Option, Some, Result, Ok, Err}
use Rattle.md5.specs.Md5.{md5}
use Rattle.environment.specs.Failures.{left_by}
use Rattle.environment.specs.Maps.{value_at, with_value}
use Rattle.environment.specs.declared.memory.failing_call.Leaves.{Leaves}
use Rattle.step_plans.specs.Calls.{Call, Load, Save, FreshTree, OpenTree, Root, Find, Enter, ScanTree, ReadNode, Install, Fetch, Put, Hash, AnswerOf}
use Rattle.step_plans.specs.declared.walked.Walked.{Walked}
use Rattle.step_plans.specs.declared.walked.Walked.TheVariants.{Reached, Broken}
use Rattle.step_plans.specs.declared.error.PeerError.{PeerError}
use Rattle.step_plans.specs.declared.error.PeerError.TheVariants.{StoreFault}
use Rattle.tree_node.specs.declared.version.TreeVersion.{TreeVersion}
use Rattle.synctree.specs.Plans.{Plan}
use Rattle.synctree.specs.Seals.{root_under}
use Rattle.synctree.specs.Trees.{open_plan, fresh_plan, get_plan, insert_plan}
use Rattle.synctree.specs.Sixteen.{form_of}
use Rattle.peer_stores.specs.PeerSpec.{position_plan}
use Rattle.peer_stores.specs.TreeRepair.{rebuild_plan, scan_plan}
use Rattle.world_stores.specs.Faults.{spent}
use Rattle.world_stores.specs.Objects.{Objects}
use Rattle.world_stores.specs.declared.fact.HeldFact.{HeldFact}
use Rattle.world_spec.specs.Held.{Held, and_hashed, unless_failing}
use Rattle.world_spec.specs.Walks.{End, Came, Broke, Failed, Walk, walk}

-- the answer to a call or the error by which it was refused, with the stores and the hashed strings
-- after it
pub record Answered (call : Call) : Type 0 where
  pub result : Result (AnswerOf call) PeerError
  pub held : Held

-- these stores with this fact keeper, backend or tree
abbrev pub with_facts : HeldFact → Held → Held
with_facts facts h = record h { stores = record h.stores { facts = facts } }

abbrev pub with_backend : Objects → Held → Held
with_backend objects h = record h { stores = record h.stores { backend = objects } }

abbrev pub with_tree : {A : Type 0} → TreeVersion → Option (List ℕ) → Walk A → Held → Held
with_tree tree top w h = record { stores = record h.stores { tree = record { version = tree; store = w.nodes; top = top } }; hashed = w.hashed }

-- what a walk that looks for something tells
abbrev pub looked : {A : Type 0} → End A → Result (Walked A) PeerError
looked (Came x) = Ok (Reached x)
looked (Broke at) = Ok (Broken at)
looked Failed = Err StoreFault

-- what the walk of an entering tells
abbrev pub entered : End (List ℕ) → Result (Walked (Unit {0})) PeerError
entered (Came root) = Ok (Reached tt)
entered (Broke at) = Ok (Broken at)
entered Failed = Err StoreFault

-- the value of a walk that meets no damage
abbrev pub whole : {A : Type 0} → End A → Result A PeerError
whole (Came x) = Ok x
whole (Broke at) = Err StoreFault
whole Failed = Err StoreFault

-- the end of a walk that meets no damage, without its value
abbrev pub done : {A : Type 0} → End A → Result (Unit {0}) PeerError
done (Came x) = Ok tt
done (Broke at) = Err StoreFault
done Failed = Err StoreFault

-- the root of the tree after a walk that writes it: the new one, or after damage or a failure the old
abbrev pub root_after : Option (List ℕ) → End (List ℕ) → Option (List ℕ)
root_after old (Came root) = Some root
root_after old (Broke at) = old
root_after old Failed = old

-- the root of the tree after its top record was read, under this seal
abbrev pub root_read : Option (List ℕ) → Option (List ℕ) → End (Option (List ℕ)) → Option (List ℕ)
root_read seal old (Came top) = root_under seal top
root_read seal old (Broke at) = old
root_read seal old Failed = old

-- the root stays
abbrev pub root_kept : {A : Type 0} → Option (List ℕ) → End A → Option (List ℕ)
root_kept old end = old

-- the version of a tree that was made or opened in this version, or the old one after damage or a failure
abbrev pub version_opened : {A : Type 0} → TreeVersion → TreeVersion → End A → TreeVersion
version_opened tree old (Came x) = tree
version_opened tree old (Broke at) = old
version_opened tree old Failed = old

-- the version of the tree after a call; it stays unless a tree is made or opened
abbrev pub version_given : {A : Type 0} → Call → TreeVersion → End A → TreeVersion
version_given (FreshTree tree) old end = version_opened tree old end
version_given (OpenTree seal tree) old end = version_opened tree old end
version_given call old end = old

-- the answer of the tree, from the walk of a plan: what its end tells, and which root and version it leaves
abbrev pub by_walk : {A : Type 0} → (call : Call) → (End A → Result (AnswerOf call) PeerError) → (Option (List ℕ) → End A → Option (List ℕ)) → Walk A → Held → Answered call
by_walk call tells root w h = record { result = tells w.end; held = with_tree (version_given call h.stores.tree.version w.end) (root h.stores.tree.top w.end) w h }

-- the walk of a plan over the nodes of these stores
abbrev pub walked : {A : Type 0} → Plan A → Held → Walk A
walked plan h = walk plan h.stores.tree.store h.hashed

-- the fact keeper after a save that failed and left this
abbrev pub facts_failed : HeldFact → HeldFact → Leaves → HeldFact
facts_failed old new leaves = record (left_by leaves old new) { faults = spent old.faults }

-- the objects after a put that failed and left this
abbrev pub objects_failed : Objects → Objects → Leaves → Objects
objects_failed old new leaves = record (left_by leaves old new) { faults = spent old.faults }

-- the answer to a save, from the keeper with the fact; to a put, from the objects with the new one
abbrev pub after_save : (call : Call) → AnswerOf call → HeldFact → Held → Answered call
after_save call answer new h = unless_failing h.stores.facts.faults.pending (record { result = Ok answer; held = with_facts new h })
    (λ leaves. record { result = Err StoreFault; held = with_facts (facts_failed h.stores.facts new leaves) h })

abbrev pub after_put : (call : Call) → AnswerOf call → Objects → Held → Answered call
after_put call answer new h = unless_failing h.stores.backend.faults.pending (record { result = Ok answer; held = with_backend new h })
    (λ leaves. record { result = Err StoreFault; held = with_backend (objects_failed h.stores.backend new leaves) h })

-- The answer to a call. A save, a put and a write of the top record are refused exactly if a failure
-- waits for them, and no other call is refused.
abbrev pub answered : (call : Call) → Held → Answered call
answered Load h = record { result = Ok h.stores.facts.kept; held = h }
answered (Save fact) h = after_save (Save fact) tt (record h.stores.facts { kept = Some fact }) h
answered (FreshTree tree) h = by_walk (FreshTree tree) done root_after (walked (fresh_plan (form_of tree)) h) h
answered (OpenTree seal tree) h = by_walk (OpenTree seal tree) done (root_read seal) (walked open_plan h) h
answered Root h = record { result = Ok h.stores.tree.top; held = h }
answered (Find key) h = by_walk (Find key) looked root_kept (walked (get_plan (form_of h.stores.tree.version) h.stores.tree.top key) h) h
answered (Enter entry) h = by_walk (Enter entry) entered root_after (walked (insert_plan (form_of h.stores.tree.version) h.stores.tree.top entry) h) h
answered ScanTree h = by_walk ScanTree whole root_kept (walked (scan_plan (form_of h.stores.tree.version) h.stores.tree.top) h) h
answered (ReadNode at) h = by_walk (ReadNode at) looked root_kept (walked (position_plan h.stores.tree.version h.stores.tree.top at) h) h
answered (Install entries) h = by_walk (Install entries) done root_after (walked (rebuild_plan (form_of h.stores.tree.version) entries) h) h
answered (Fetch key) h = record { result = Ok (value_at key h.stores.backend.entries); held = h }
answered (Put key bytes) h = after_put (Put key bytes) tt (record h.stores.backend { entries = with_value key bytes h.stores.backend.entries }) h
answered (Hash bytes) h = record { result = Ok (md5 bytes); held = and_hashed bytes h }
