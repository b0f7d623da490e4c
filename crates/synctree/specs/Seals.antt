-- The root of a tree that is opened under a seal, the digest that its top record must have.
use Rattle.std.specs.Prelude.{ℕ, if◌then◌else◌, List, Option, None, Some}
use Rattle.ens_base.specs.Lists.{same_bytes}

-- the digest in the top record, if it is the seal
abbrev pub if_sealed : List ℕ → Option (List ℕ) → Option (List ℕ)
if_sealed seal None = None
if_sealed seal (Some top) = if same_bytes top seal then Some top else None

-- the root of a tree with this top record: without a seal the digest in the record, and under a seal
-- only that digest
abbrev pub root_under : Option (List ℕ) → Option (List ℕ) → Option (List ℕ)
root_under None top = top
root_under (Some seal) top = if_sealed seal top
