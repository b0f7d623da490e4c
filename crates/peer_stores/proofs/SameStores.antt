-- Stores with equal parts are equal.
use Rattle.std.proofs.Common.{◌≡◌}
use Rattle.peer_stores.specs.declared.stores.Stores.{Stores}

pub same_stores : {B N F : Type 0} (s t : Stores B N F) → t.backend ≡ s.backend → t.tree ≡ s.tree → t.facts ≡ s.facts → t ≡ s
same_stores s t backend tree facts = λ i. record { backend = backend i; tree = tree i; facts = facts i }
