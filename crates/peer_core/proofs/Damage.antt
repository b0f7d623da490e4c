-- The answers of a peer's stores tell of damage only at positions of the tree.
use Rattle.std.proofs.Common.{ℕ, List, Option, Result}
use Rattle.hash_book.specs.Hashing.{Book}
use Rattle.environment.specs.Stores.{BackendCall, BackendAnswer, NodeCall, NodeAnswer}
use Rattle.fact_store.specs.Keeping.{KeeperCall, KeeperAnswer}
use Rattle.stored_formats.specs.declared.fact_error.FactError.{FactError}
use Rattle.stored_formats.specs.declared.saved.SavedFact.{SavedFact}
use Rattle.step_plans.specs.Calls.{Call, Load, Save, FreshTree, OpenTree, Root, Find, Enter, ScanTree, ReadNode, Install, Fetch, Put, Hash, AnswerOf}
use Rattle.step_plans.specs.declared.walked.Walked.TheVariants.{Reached, Broken as Ended}
use Rattle.tree_node.specs.declared.version.TreeVersion.TheVariants.{Two}
use Rattle.synctree.specs.Trees.{get_plan, insert_plan}
use Rattle.synctree.specs.Sixteen.{form_of}
use Rattle.peer_spec.specs.Kept.{IsSound}
use Rattle.peer_spec.specs.TreeCalls.{position_plan}
use Rattle.peer_stores.specs.Stores.{stores_do}
use Rattle.peer_stores.specs.declared.stores.Stores.{Stores}
use Rattle.peer_spec.proofs.Inside.{walked_inside, get_inside, insert_inside, position_inside}

module _ {B N F H : Type 0} (gives : B → (call : BackendCall) → BackendAnswer call → B → Type 0) (b : B → ℕ) (reads : N → (call : NodeCall) → NodeAnswer call → N → Type 0)
    (tops : N → Option (Option (List ℕ))) (n : N → ℕ) (tells : F → (call : KeeperCall) → KeeperAnswer call → F → Type 0) (kept : F → Option (Result SavedFact FactError)) (f : F → ℕ)
    (strings : H → Option Book) (c d : H → ℕ) where
  pub stores_sound : (s : Stores B N F × H) (call : Call) (a : AnswerOf call) (t : Stores B N F × H) → stores_do gives b reads tops n tells kept f strings c d s call a t → IsSound call a
  stores_sound s (Find key) (Reached found) t told = tt
  stores_sound s (Find key) (Ended at) t told = walked_inside Two _ (get_plan (form_of s.0.tree.version) s.0.tree.top key) _ at _ (get_inside s.0.tree.version s.0.tree.top key) told.0.0
  stores_sound s (Enter entry) (Reached u) t told = tt
  stores_sound s (Enter entry) (Ended at) t told = walked_inside Two _ (insert_plan (form_of s.0.tree.version) s.0.tree.top entry) _ at _ (insert_inside s.0.tree.version s.0.tree.top entry) told.0.0
  stores_sound s Load a t told = tt
  stores_sound s (Save fact) a t told = tt
  stores_sound s (FreshTree tree) a t told = tt
  stores_sound s (OpenTree seal tree) a t told = tt
  stores_sound s Root a t told = tt
  stores_sound s ScanTree a t told = tt
  stores_sound s (ReadNode at) (Reached node) t told = λ is. tt
  stores_sound s (ReadNode at) (Ended place) t told = λ is. walked_inside Two _ (position_plan s.0.tree.version s.0.tree.top at) _ place _ (position_inside s.0.tree.version s.0.tree.top at is) told.0.0
  stores_sound s (Install entries) a t told = tt
  stores_sound s (Fetch key) a t told = tt
  stores_sound s (Put key bytes) a t told = tt
  stores_sound s (Hash bytes) a t told = tt
