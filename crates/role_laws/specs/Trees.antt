-- Trees of peers: their maps, and what a scan finds.
use Rattle.std.specs.Prelude.{◌≡◌, ℕ, Bool, true, false, List}
use Rattle.ens_base.specs.Lists.{◌∈◌}
use Rattle.protocol_laws.specs.Objects.{Map, Objects, IsGenuine}

-- a set of keys
abbrev pub Part : Type 0
Part = List ℕ → Bool

-- a tree: the map under its top record, all maps that ever stood there, and whether the top record
-- verifies; it always does, unless the peer has a seal and this is another record
pub record Tree : Type 0 where
  pub top : Map
  pub named : List Map
  pub intact : Bool

-- the peer shows the map under its top record; each map that ever stood there has genuine entries
pub record TreeHolds (o : Objects) (p : ℕ) (t : Tree) : Type 0 where
  pub shown : (k : List ℕ) → o.visible p k ≡ t.top k
  pub named : (m : Map) → m ∈ t.named → (k : List ℕ) → IsGenuine o (o.ledger.ballot p) k (m k)

-- a scan of the own tree: the entries that it found, the keys under a damaged position, and whether
-- there was one
pub record Scan : Type 0 where
  pub entries : Map
  pub broken : Part
  pub damaged : Bool

-- what a scan found: the map under the top record, without what is damaged
pub record IsScan (t : Tree) (x : Scan) : Type 0 where
  pub entries : (k : List ℕ) → x.broken k ≡ false → x.entries k ≡ t.top k
  pub lost : (k : List ℕ) → x.broken k ≡ true → x.entries k ≡ 0
  pub whole : x.damaged ≡ false → (k : List ℕ) → x.broken k ≡ false
  pub verifies : x.damaged ≡ false → t.intact ≡ true
