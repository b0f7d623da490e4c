-- Why a scan or a rebuild was stopped.
use Rattle.std.proofs.Common.{◌≡◌, ◌≤◌, ℕ, List, [], ◌∷◌, Option, Result, Ok, Err, refl, ap, sym, subst, inl, inr, arith}
use Rattle.ens_base.specs.Causes.{Rose}
use Rattle.ens_base.specs.declared.entry.Entry.{Entry}
use Rattle.ens_base.proofs.Causes.{rose_later}
use Rattle.hash_book.specs.Hashing.{Book}
use Rattle.environment.specs.Stores.{NodeCall, NodeAnswer}
use Rattle.environment.specs.declared.errors.StoreError.{StoreError}
use Rattle.environment.specs.declared.errors.StoreError.TheVariants as stores
use Rattle.synctree.specs.Meanings.{Enters}
use Rattle.synctree.specs.Sixteen.{form_of}
use Rattle.tree_node.specs.declared.version.TreeVersion.TheVariants.{Two}
use Rattle.synctree.specs.Outsides.{outside_does, outside_refuses}
use Rattle.synctree.specs.Installs.{write_all, install_plan}
use Rattle.synctree.specs.Plans.{Call, Node, Hash, AnswerOf, Plan, Done, Broken, Ask, Stops, Did}
use Rattle.synctree.specs.Walks.{set_top}
use Rattle.synctree.specs.declared.error.TreeError.{TreeError}
use Rattle.synctree.specs.declared.error.TreeError.TheVariants as trees
use Rattle.synctree.specs.declared.stored_node.StoredNode.{StoredNode}
use Rattle.synctree.specs.Forms.{Form}
use Rattle.tree_repair.specs.Builds.{build_nodes, build_of}
use Rattle.tree_repair.specs.Rebuilds.{hash_all, rebuild_plan}
use Rattle.tree_repair.specs.Levels.{scan_plan}
use Rattle.tree_node.specs.declared.body.Scan.{Scan}
use Rattle.tree_repair.proofs.Walking.{scan_gives}
use Rattle.tree_repair.proofs.Unbroken.{IsUnbroken, then_unbroken, ends_well, scan_unbroken}
use Rattle.tree_backup.specs.Order.{Rises}
use Rattle.tree_backup.proofs.Ascending.{rises_sorted}
use Rattle.tree_backup.specs.Causes.{of_tree, of_store, IsFromOutside}
use Rattle.tree_backup.specs.declared.error.BackupError.{BackupError}
use Rattle.tree_backup.specs.declared.error.BackupError.TheVariants.{Failed}

-- the error in a result
pub error_is : (A : Type 0) (x y : BackupError) → (let r : Result A BackupError = Err x in r) ≡ Err y → x ≡ y
error_is A x y e = cc

pub store_outside : (e : StoreError) → IsFromOutside (of_store e)
store_outside stores.Failed = tt
store_outside stores.Memory = tt

pub store_failed : (e : StoreError) → of_store e ≡ Failed → e ≡ stores.Failed
store_failed stores.Failed h = refl
store_failed stores.Memory h = absurd cc

hash_unbroken : (xs : List (List ℕ)) → IsUnbroken (hash_all xs)
hash_unbroken [] = tt
hash_unbroken (x ∷ xs) = λ answer. hash_unbroken xs

write_unbroken : (nodes : List StoredNode) → IsUnbroken (write_all nodes)
write_unbroken [] = tt
write_unbroken (n ∷ ns) = λ answer. write_unbroken ns

top_unbroken : (digest : List ℕ) → IsUnbroken (set_top digest)
top_unbroken digest = λ answer. tt

install_unbroken : (nodes : List StoredNode) (top : List ℕ) → IsUnbroken (install_plan nodes top)
install_unbroken nodes top = then_unbroken (write_all nodes) (λ _. set_top top) (write_unbroken nodes) (λ _. top_unbroken top)

rebuild_unbroken : (F : Form) (m : List Entry) → IsUnbroken (rebuild_plan F m)
rebuild_unbroken F m = then_unbroken (hash_all (build_nodes F m)) (λ _. install_plan (build_of F m).nodes (build_of F m).top) (hash_unbroken (build_nodes F m)) (λ _. install_unbroken (build_of F m).nodes (build_of F m).top)

module _ {N H : Type 0} (may : N → (call : NodeCall) → NodeAnswer call → N → Type 0) (loses : N → NodeCall → StoreError → N → Type 0) (tops : N → Option (Option (List ℕ))) (n : N → ℕ)
    (kept : H → Option Book) (clashes fulls : H → ℕ) where
  abbrev Does : N × H → (call : Call) → AnswerOf call → N × H → Type 0
  Does s call a t = outside_does may tops n kept clashes fulls s call a t

  abbrev Refuses : N × H → Call → TreeError → N × H → Type 0
  Refuses s call e t = outside_refuses loses tops n kept clashes fulls s call e t

  same_count : (s t : N × H) → t.0 ≡ s.0 → n s.0 ≤ n t.0
  same_count s t e = omega (arith, ap n e)

  does_later : (s : N × H) (call : Call) (a : AnswerOf call) (t : N × H) → Does s call a t → n s.0 ≤ n t.0
  does_later s (Node call) a t did = did.2
  does_later s (Hash bytes) a t did = same_count s t did.0

  refused_rose : (s : N × H) (call : Call) (t : N × H) → Refuses s call trees.Failed t → Rose (n s.0) (n t.0)
  refused_rose s (Node call) t off = off.3
  refused_rose s (Hash bytes) t off = absurd off

  no_memory : (let e : TreeError = trees.Failed in e) ≡ trees.Memory → ⊥
  no_memory e = cc

  stops_rose : {A : Type 0} (p : Plan A) (s t : N × H) → Stops Does Refuses p s trees.Failed t → Rose (n s.0) (n t.0)
  stops_rose (Done x) s t h = absurd (no_memory h.0)
  stops_rose (Broken at) s t h = absurd (no_memory h.0)
  stops_rose (Ask call next) s t (inl cut) = absurd (no_memory cut.0)
  stops_rose (Ask call next) s t (inr (inl off)) = refused_rose s call t off
  stops_rose (Ask call next) s t (inr (inr on)) = rose_later (n s.0) (n on.1.0) (n t.0) (does_later s call on.0 on.1 on.2) (stops_rose (next on.0) on.1 t on.3)

  -- a plan that failed did so because the count of the store rose
  pub did_rose : {A : Type 0} (p : Plan A) (s t : N × H) (e : TreeError) → of_tree e ≡ Failed → Did Does Refuses p s (Err e) t → Rose (n s.0) (n t.0)
  did_rose p s t (trees.Damaged at) is did = absurd cc
  did_rose p s t trees.Failed is did = stops_rose p s t did
  did_rose p s t (trees.Clash first second) is did = absurd cc
  did_rose p s t (trees.BookFull b) is did = absurd cc
  did_rose p s t trees.Memory is did = absurd cc

  unbroken_outside : {A : Type 0} (p : Plan A) (s t : N × H) (e : TreeError) → IsUnbroken p → Did Does Refuses p s (Err e) t → IsFromOutside (of_tree e)
  unbroken_outside p s t (trees.Damaged at) whole did = absurd (ends_well Does p s t did.0 at whole did.1)
  unbroken_outside p s t trees.Failed whole did = tt
  unbroken_outside p s t (trees.Clash first second) whole did = tt
  unbroken_outside p s t (trees.BookFull b) whole did = tt
  unbroken_outside p s t trees.Memory whole did = tt

  -- a scan is stopped from outside
  pub scan_outside : (F : Form) (top : Option (List ℕ)) (s t : N × H) (e : TreeError) → Did Does Refuses (scan_plan F top) s (Err e) t → IsFromOutside (of_tree e)
  scan_outside F top s t (trees.Damaged at) did = absurd (scan_unbroken Does F top s t did.0 at did.1)
  scan_outside F top s t trees.Failed did = tt
  scan_outside F top s t (trees.Clash first second) did = tt
  scan_outside F top s t (trees.BookFull b) did = tt
  scan_outside F top s t trees.Memory did = tt

  -- and so is a rebuild
  pub rebuild_outside : (F : Form) (m : List Entry) (s t : N × H) (e : TreeError) → Did Does Refuses (rebuild_plan F m) s (Err e) t → IsFromOutside (of_tree e)
  rebuild_outside F m s t e did = unbroken_outside (rebuild_plan F m) s t e (rebuild_unbroken F m) did

  -- the entries of a scan are in the order of their keys
  pub scan_rises : (F : Form) (top : Option (List ℕ)) (s t : N × H) (found : Scan) → Did Does Refuses (scan_plan F top) s (Ok found) t → Rises [] found.entries
  scan_rises F top s t found did =
      let g = scan_gives F Does top s t did.0 found did.1 in
      subst (λ (x : Scan). Rises [] x.entries) (sym g.2) (rises_sorted g.0.entries)

  -- the same of a rebuild of equal entries
  pub rebuilds_as : (es fs : List Entry) (s t : N × H) (old new : Option (List ℕ)) (r : Result (Unit {0}) TreeError) → es ≡ fs → Enters (λ x. Did Does Refuses (rebuild_plan (form_of Two) es) s x t) old r new → Enters (λ x. Did Does Refuses (rebuild_plan (form_of Two) fs) s x t) old r new
  rebuilds_as es fs s t old new r same did = subst (λ (xs : List Entry). Enters (λ x. Did Does Refuses (rebuild_plan (form_of Two) xs) s x t) old r new) same did
