-- What the stores of a peer keep of its tree, and the map that the peer wrote last.
use Rattle.std.specs.Prelude.{◌≡◌, ℕ, Bool, true, false, ◌⊎◌, if◌then◌else◌, List, [], ◌∷◌, Option, None, Some}
use Rattle.ens_base.specs.Lists.{◌∈◌, same_bytes}
use Rattle.protocol_laws.specs.Objects.{Map, Objects, IsGenuine, IsHonest}

-- the digests that the top record held, the newest first, and the seal in the saved fact, if there is
-- one
pub record Kept : Type 0 where
  pub tops : List (List ℕ)
  pub seal : Option (List ℕ)

-- which maps stand under a digest
abbrev pub Names : Type 0
Names = List ℕ → Map → Bool

abbrev pub IsNamed : Names → List ℕ → Map → Type 0
IsNamed names digest m = names digest m ≡ true

-- the digest in the top record, if there is one
abbrev pub top_of : List (List ℕ) → Option (List ℕ)
top_of [] = None
top_of (top ∷ tops) = Some top

-- the digest that names the map that the peer wrote last: the seal, or without a seal the one in the top
-- record
abbrev pub named_by : (top seal : Option (List ℕ)) → Option (List ℕ)
named_by top None = top
named_by top (Some seal) = Some seal

-- the digest, if it is the seal
abbrev pub if_sealed : List ℕ → Option (List ℕ) → Option (List ℕ)
if_sealed seal None = None
if_sealed seal (Some top) = if same_bytes top seal then Some top else None

-- the root of a tree that is opened: the top record, but none where there is a seal and this is
-- another digest. Without a root each walk meets damage at the root.
abbrev pub opened : (top seal : Option (List ℕ)) → Option (List ℕ)
opened top None = top
opened top (Some seal) = if_sealed seal top

abbrev pub IsSealed : Option (List ℕ) → Type 0
IsSealed None = ⊥
IsSealed (Some seal) = Unit {0}

-- a top record of peer q names a map with genuine entries
pub record MayReturn (names : Names) (o : Objects) (q : ℕ) (top : List ℕ) : Type 0 where
  pub map : Map
  pub named : IsNamed names top map
  pub genuine : (k : List ℕ) → IsGenuine o (o.ledger.ballot q) k (map k)

-- What ties the stores of peer q to the protocol. The digest that names what the peer wrote last names
-- the map that its tree shows in the protocol. If there is a seal, that is the map of the last write,
-- whatever the top record is; if there is none, each map that a top record ever named may return.
pub record KeptHolds (names : Names) (o : Objects) (q : ℕ) (c : Kept) : Type 0 where
  pub digest : List ℕ
  pub is : named_by (top_of c.tops) c.seal ≡ Some digest
  pub map : Map
  pub named : IsNamed names digest map
  pub shown : (k : List ℕ) → o.visible q k ≡ map k
  pub honest : IsSealed c.seal → IsHonest o q
  pub returns : c.seal ≡ None → (top : List ℕ) → top ∈ c.tops → MayReturn names o q top

-- the root of the running tree of peer q, whose top record has this digest: it is that one, and names what
-- the peer wrote last; or there is none, and then the peer has a seal and does not trust its tree
abbrev pub RootHolds : Objects → ℕ → (top seal root : Option (List ℕ)) → Type 0
RootHolds o q top seal root = ((root ≡ top) × (root ≡ named_by top seal)) ⊎ ((root ≡ None) × IsSealed seal × (o.trusted q ≡ false))

-- at most one map stands under a digest
abbrev pub NamesOne : Names → Type 0
NamesOne names = (digest : List ℕ) (m n : Map) → IsNamed names digest m → IsNamed names digest n → (k : List ℕ) → m k ≡ n k
