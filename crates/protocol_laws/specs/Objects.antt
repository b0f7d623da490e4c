-- The versions of objects that leaders proposed, and the maps from keys to versions that peers
-- have. A version is given by its rank among all versions, from 1 on; 0 is none.
use Rattle.std.specs.Prelude.{◌≡◌, ℕ, ◌-◌, ◌<◌, ◌≤◌, ◌/◌, ◌^◌, Bool, true, false, ◌&&◌, min, nat_lt, List, [], ◌==◌, ◌⊎◌, if◌then◌else◌}
use Rattle.ens_base.specs.Lists.{same_bytes}
use Rattle.ens_base.specs.Views.{last_view}
use Rattle.quorums.specs.Quorums.{is_majority, is_quorum}
use Rattle.protocol_laws.specs.Ledger.{Ledger, opening_ledger, put, is_established}

-- a map from keys to versions
abbrev pub Map : Type 0
Map = List ℕ → ℕ

-- the epoch in which a version is proposed; a version is 1 + epoch * 2 ^ 64 + sequence number
unfoldable pub epoch_of : ℕ → ℕ
epoch_of v = (v - 1) / 2 ^ 64

-- the versions, the maps of the peers, and the ledger below them
pub record Objects : Type 0 where
  pub ledger : Ledger
  pub map : ℕ → Map  -- for each peer, the map that it wrote last
  pub visible : ℕ → Map  -- for each peer, the map that its tree shows
  pub floor : ℕ → ℕ → Map  -- floor q d: for each key, the least version in q's map from when q reached d until it left d
  pub trusted : ℕ → Bool  -- for each peer, whether it trusts its tree; false for a peer that is down
  pub reverted : ℕ → Bool  -- for each peer, whether its tree was ever reverted as a whole
  pub proposed : ℕ → Bool
  pub key : ℕ → List ℕ  -- for each proposed version
  pub parent : ℕ → ℕ  -- for each proposed version, the version that it was made from
  pub acked : ℕ → ℕ → Bool  -- acked v q: peer q acknowledged version v
  pub settled : ℕ → Bool  -- for each version, whether its leader noted it as settled
  pub settled_by : ℕ → ℕ → Bool  -- settled_by v q: peer q had acknowledged v when it was settled

-- the objects before the first step: no versions, and empty maps that are trusted
abbrev pub opening_objects : List ℕ → Objects
opening_objects view = record {
  ledger = opening_ledger view;
  map = λ q k. 0;
  visible = λ q k. 0;
  floor = λ q d k. 0;
  trusted = λ q. true;
  reverted = λ q. false;
  proposed = λ v. false;
  key = λ v. [];
  parent = λ v. 0;
  acked = λ v q. false;
  settled = λ v. false;
  settled_by = λ v q. false;
}

-- the entry is none, or a proposed version of the key whose epoch is at most d
abbrev pub IsGenuine : Objects → ℕ → List ℕ → ℕ → Type 0
IsGenuine o d k v = (v ≡ 0) ⊎ ((o.proposed v ≡ true) × (o.key v ≡ k) × (epoch_of v ≤ d))

-- the peer's tree shows the map that it wrote last
abbrev pub IsHonest : Objects → ℕ → Type 0
IsHonest o p = (k : List ℕ) → o.visible p k ≡ o.map p k

-- the map is at least what a majority of the epoch's old view, or of its only one, showed at that
-- ballot
pub record IsSynced (o : Objects) (d : ℕ) (merged : Map) : Type 0 where
  pub sources : ℕ → Bool
  pub majority : is_majority sources (last_view (o.ledger.views d)) ≡ true
  pub reached : (q : ℕ) → sources q ≡ true → d ≤ o.ledger.ballot q
  pub given : (q : ℕ) (k : List ℕ) → sources q ≡ true → o.floor q d k ≤ merged k

-- the version is at least what a quorum of the epoch's views showed for the key at that ballot
pub record IsHeard (o : Objects) (d : ℕ) (k : List ℕ) (u : ℕ) : Type 0 where
  pub readers : ℕ → Bool
  pub quorum : is_quorum readers (o.ledger.views d) ≡ true
  pub reached : (q : ℕ) → readers q ≡ true → d ≤ o.ledger.ballot q
  pub given : (q : ℕ) → readers q ≡ true → o.floor q d k ≤ u

-- no version of the key was proposed in the epoch
abbrev pub IsUntouched : Objects → ℕ → List ℕ → Type 0
IsUntouched o d k = (x : ℕ) → o.proposed x ≡ true → o.key x ≡ k → epoch_of x ≡ d → ⊥

-- the greatest version of the key in the epoch, and it is settled
pub record IsNewest (o : Objects) (d : ℕ) (k : List ℕ) (u : ℕ) : Type 0 where
  pub proposed : o.proposed u ≡ true
  pub key : o.key u ≡ k
  pub epoch : epoch_of u ≡ d
  pub settled : o.settled u ≡ true
  pub greatest : (x : ℕ) → o.proposed x ≡ true → o.key x ≡ k → epoch_of x ≡ d → x ≤ u

-- ## Steps

-- when a peer's ballot rises, its map at that time becomes the floor of all ballots above the old
-- one
abbrev pub floor_after : Objects → ℕ → ℕ → ℕ → Map
floor_after o p q d k = if (p == q) && nat_lt (o.ledger.ballot p) d then o.map q k else o.floor q d k

-- the map, with v at k
abbrev pub set_entry : Map → List ℕ → ℕ → Map
set_entry m k v j = if same_bytes k j then v else m j

-- the peer's tree takes the version
abbrev pub write : Objects → ℕ → ℕ → Objects
write o p v = record o { map = put o.map p (set_entry (o.map p) (o.key v) v); visible = put o.visible p (set_entry (o.visible p) (o.key v) v) }

-- the peer's tree becomes the merged map of a sync
abbrev pub install : Objects → ℕ → ℕ → Map → Objects
install o p d merged = record o {
  map = put o.map p merged;
  visible = put o.visible p merged;
  floor = λ q e k. if (p == q) && (d == e) then min (o.floor q e k) (merged k) else o.floor q e k;
}

-- a version is proposed, made from its parent
abbrev pub propose : Objects → ℕ → List ℕ → ℕ → Objects
propose o v k u = record o { proposed = put o.proposed v true; key = put o.key v k; parent = put o.parent v u }

-- the leader notes the version as settled
abbrev pub settle : Objects → ℕ → Objects
settle o v = record o { settled = put o.settled v true; settled_by = put o.settled_by v (o.acked v) }

-- ## Guards

-- a tree takes a version whose epoch the peer has reached, in place of one that is not greater
pub record MayWrite (o : Objects) (p v : ℕ) : Type 0 where
  pub honest : IsHonest o p
  pub proposed : o.proposed v ≡ true
  pub low : epoch_of v ≤ o.ledger.ballot p
  pub higher : o.map p (o.key v) ≤ v

-- a peer acknowledges a version in the version's epoch, which it accepted, if its tree took that
-- version or a greater one
pub record MayAcknowledge (o : Objects) (p v : ℕ) : Type 0 where
  pub proposed : o.proposed v ≡ true
  pub stands : o.ledger.ballot p ≡ epoch_of v
  pub accepted : o.ledger.accepted (epoch_of v) p ≡ true
  pub has : v ≤ o.map p (o.key v)

-- a sync may replace the tree of a peer that has not accepted the epoch of its ballot
pub record MayInstall (o : Objects) (p d : ℕ) (merged : Map) : Type 0 where
  pub elected : o.ledger.elected d ≡ true
  pub stands : o.ledger.ballot p ≡ d
  pub newer : (o.ledger.fact p).epoch < d
  pub synced : IsSynced o d merged
  pub genuine : (k : List ℕ) → IsGenuine o d k (merged k)

-- a sync ends if the tree shows at least what the sync must have
pub record MayEndSync (o : Objects) (p d : ℕ) : Type 0 where
  pub honest : IsHonest o p
  pub synced : IsSynced o d (o.map p)

-- the first version of the key in the epoch is made from what a quorum showed
pub record MayBegin (o : Objects) (d : ℕ) (k : List ℕ) (u : ℕ) : Type 0 where
  pub untouched : IsUntouched o d k
  pub heard : IsHeard o d k u
  pub genuine : IsGenuine o d k u

-- a version is proposed in an established epoch: the first of its key from what a quorum showed,
-- each later one from the settled one before it
pub record MayPropose (o : Objects) (v : ℕ) (k : List ℕ) (u : ℕ) : Type 0 where
  pub fresh : o.proposed v ≡ false
  pub led : 0 < epoch_of v
  pub elected : o.ledger.elected (epoch_of v) ≡ true
  pub established : is_established o.ledger (epoch_of v) ≡ true
  pub lower : u < v
  pub from : MayBegin o (epoch_of v) k u ⊎ IsNewest o (epoch_of v) k u

-- a version is settled once a quorum acknowledged it
pub record MaySettle (o : Objects) (v : ℕ) : Type 0 where
  pub proposed : o.proposed v ≡ true
  pub fresh : o.settled v ≡ false
  pub quorum : is_quorum (o.acked v) (o.ledger.views (epoch_of v)) ≡ true

-- only a tree that its peer does not trust may be reverted, and only to a map with genuine entries
pub record MayRevert (o : Objects) (p : ℕ) (tree : Map) : Type 0 where
  pub blind : o.trusted p ≡ false
  pub genuine : (k : List ℕ) → IsGenuine o (o.ledger.ballot p) k (tree k)
