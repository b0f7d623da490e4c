-- The positions of ids in a list.
use Rattle.std.specs.Prelude.{◌≡◌, ℕ, List, Option, None, Some, slice_get}
use Rattle.ens_base.specs.Lists.{◌∈◌}

-- a lookup finds a position of each id in the list, and of no other id
pub record ArePlaces (find : ℕ → Option ℕ) (ids : List ℕ) : Type 0 where
  pub found : (id place : ℕ) → find id ≡ Some place → slice_get ids place ≡ Some id
  pub missing : (id : ℕ) → find id ≡ None → ¬ (id ∈ ids)
