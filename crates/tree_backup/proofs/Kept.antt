-- What a backend has after puts.
use Rattle.std.proofs.Common.{◌≡◌, ℕ, List, [], ◌∷◌, map, Option, Some, ap, ◌∙◌}
use Rattle.std.specs.List.{AllByRecursion}
use Rattle.stored_formats.specs.Objects.{object_spelling}
use Rattle.stored_formats.specs.declared.object.Object.{Object}
use Rattle.environment.specs.Stores.{BackendCall, BackendAnswer}
use Rattle.synctree.proofs.Orders.{less_not_same}
use Rattle.synctree.proofs.TreeNode.{less_above}
use Rattle.tree_backup.specs.Items.{KeysAbove}
use Rattle.tree_backup.specs.Stores.{Puts, TellsPuts}
use Rattle.tree_backup.proofs.Ascending.{lower}

module _ {S : Type 0} (may : S → (call : BackendCall) → BackendAnswer call → S → Type 0) (has : S → List ℕ → Option (List ℕ)) (tells : TellsPuts may has) where
  -- puts under keys above this one leave what stands under it
  others : (key : List ℕ) (os : List Object) (s t : S) → KeysAbove key (map (λ (o : Object). o.key) os) → Puts may os s t → has t key ≡ has s key
  others key [] s t up puts = ap (λ (u : S). has u key) puts
  others key (o ∷ os) s t up puts =
      others key os puts.0 t (lower key o.key (map (λ (x : Object). x.key) os) up.0 up.1) puts.2 ∙ tells.keeps s puts.0 o.key (object_spelling o) key puts.1 (less_not_same key o.key (less_above key o.key up.0))

  -- each object stands under its key
  pub all_stand : (low : List ℕ) (os : List Object) (s t : S) → KeysAbove low (map (λ (o : Object). o.key) os) → Puts may os s t → AllByRecursion (λ (o : Object). has t o.key ≡ Some (object_spelling o)) os
  all_stand low [] s t up puts = tt
  all_stand low (o ∷ os) s t up puts = (others o.key os puts.0 t up.1 puts.2 ∙ tells.stores s puts.0 o.key (object_spelling o) puts.1, all_stand o.key os puts.0 t up.1 puts.2)
