-- The laws of versions and maps in each state of a run.
use Rattle.std.specs.Prelude.{◌≡◌, ℕ, ◌<◌, ◌≤◌, Bool, true, false, ◌||◌, not, nat_le, List, ◌⊎◌}
use Rattle.ens_base.specs.Views.{last_view}
use Rattle.quorums.specs.Quorums.{is_majority, is_quorum, MissesEveryQuorum}
use Rattle.protocol_laws.specs.Ledger.{is_established}
use Rattle.protocol_laws.specs.Elections.{Stays}
use Rattle.protocol_laws.specs.Objects.{Map, Objects, epoch_of, IsGenuine, IsHonest}

-- the peer acknowledged the version, or still may
abbrev pub may_acknowledge : Objects → ℕ → ℕ → Bool
may_acknowledge o v q = nat_le (o.ledger.ballot q) (epoch_of v) || o.acked v q

-- no quorum can acknowledge the version any more
abbrev pub IsDead : Objects → ℕ → Type 0
IsDead o v = is_quorum (may_acknowledge o v) (o.ledger.views (epoch_of v)) ≡ false

-- v, or its parent, or the parent's parent, and so on
pub data Descends (parent : ℕ → ℕ) : ℕ → ℕ → Type 0 where
  itself : (v : ℕ) → Descends parent v v
  further : (v x : ℕ) → Descends parent (parent v) x → Descends parent v x

-- a peer that acknowledged a version, or ended a sync in a later epoch, has it or a greater one
-- from then on, except for the versions that are called dead
pub record KeptBut (o : Objects) (dead : ℕ → Type 0) : Type 0 where
  pub acked : (q v : ℕ) → o.acked v q ≡ true → (v ≤ o.map q (o.key v)) ⊎ dead v
  pub synced : (q v e : ℕ) → o.proposed v ≡ true → o.ledger.synced e q ≡ true → epoch_of v < e → (v ≤ o.map q (o.key v)) ⊎ dead v

-- the same, where dead versions are the exception
abbrev pub Kept : Objects → Type 0
Kept o = KeptBut o (IsDead o)

-- one of the peers has had the version, or a greater one, since it reached the epoch
pub record HasIt (o : Objects) (d v : ℕ) (peers : ℕ → Bool) : Type 0 where
  pub peer : ℕ
  pub among : peers peer ≡ true
  pub has : v ≤ o.floor peer d (o.key v)

-- for each majority of the old view of an elected epoch, or of its only one, whose peers all
-- reached the epoch: one of them has had each lower version since then, unless the version is dead
abbrev pub Found : Objects → Type 0
Found o = (d v : ℕ) (peers : ℕ → Bool) → o.proposed v ≡ true → o.ledger.elected d ≡ true → epoch_of v < d →
    is_majority peers (last_view (o.ledger.views d)) ≡ true → ((q : ℕ) → peers q ≡ true → d ≤ o.ledger.ballot q) → HasIt o d v peers ⊎ IsDead o v

-- a lower version of the same epoch and key is settled, and an ancestor
pub record Link (o : Objects) (v x : ℕ) : Type 0 where
  pub settled : o.settled x ≡ true
  pub descends : Descends o.parent v x

-- of the versions of one epoch and key, all but the greatest are settled, and each descends from
-- all lower ones
abbrev pub Chain : Objects → Type 0
Chain o = (v x : ℕ) → o.proposed v ≡ true → o.proposed x ≡ true → o.key x ≡ o.key v → epoch_of x ≡ epoch_of v → x < v → Link o v x

-- a version descends from each version of its key, of a lower epoch, that is not dead
abbrev pub Descent : Objects → Type 0
Descent o = (v x : ℕ) → o.proposed v ≡ true → o.proposed x ≡ true → o.key x ≡ o.key v → epoch_of x < epoch_of v → Descends o.parent v x ⊎ IsDead o x

-- dead, stated differently: each quorum has a member whose ballot is above the version's epoch and
-- which never acknowledged it
abbrev pub DeadByQuorums : Objects → Type 0
DeadByQuorums o = (v : ℕ) → IsDead o v → MissesEveryQuorum (may_acknowledge o v) (o.ledger.views (epoch_of v))

-- the parent of a version is none, or a smaller proposed version of its key
pub record Lineage (o : Objects) (v : ℕ) : Type 0 where
  pub smaller : o.parent v < v
  pub parent : (o.parent v ≡ 0) ⊎ (o.proposed (o.parent v) ≡ true)
  pub same_key : o.proposed (o.parent v) ≡ true → o.key (o.parent v) ≡ o.key v

-- a version is proposed in an established epoch above the opening
pub record InEstablished (o : Objects) (v : ℕ) : Type 0 where
  pub led : 0 < epoch_of v
  pub elected : o.ledger.elected (epoch_of v) ≡ true
  pub established : is_established o.ledger (epoch_of v) ≡ true

-- a peer acknowledges a proposed version, in an epoch that it accepted
pub record IsAcknowledged (o : Objects) (v q : ℕ) : Type 0 where
  pub proposed : o.proposed v ≡ true
  pub accepted : o.ledger.accepted (epoch_of v) q ≡ true

-- a settled version: a quorum of its epoch's views had acknowledged it when it was settled, and it
-- is not dead
pub record IsSettled (o : Objects) (v : ℕ) : Type 0 where
  pub proposed : o.proposed v ≡ true
  pub quorum : is_quorum (o.settled_by v) (o.ledger.views (epoch_of v)) ≡ true
  pub acked : (q : ℕ) → o.settled_by v q ≡ true → o.acked v q ≡ true
  pub alive : ¬ IsDead o v

-- x is the version of its epoch and key that comes before v
pub record Precedes (o : Objects) (x v : ℕ) : Type 0 where
  pub proposed : o.proposed x ≡ true
  pub key : o.key x ≡ o.key v
  pub epoch : epoch_of x ≡ epoch_of v
  pub below : x < v
  pub none_between : (y : ℕ) → o.proposed y ≡ true → o.key y ≡ o.key v → epoch_of y ≡ epoch_of v → x < y → y < v → ⊥

-- the preceding version of the epoch and key is the parent
abbrev pub Successor : Objects → Type 0
Successor o = (v x : ℕ) → o.proposed v ≡ true → Precedes o x v → o.parent v ≡ x

-- each entry of a map is a proposed version of its key, of an epoch that the peer's ballot has
-- reached
pub record Genuine (o : Objects) : Type 0 where
  pub written : (q : ℕ) (k : List ℕ) → IsGenuine o (o.ledger.ballot q) k (o.map q k)
  pub shown : (q : ℕ) (k : List ℕ) → IsGenuine o (o.ledger.ballot q) k (o.visible q k)

-- a peer that trusts its tree, or whose tree was never reverted, shows the map that it wrote last
pub record Sight (o : Objects) : Type 0 where
  pub trusted : (q : ℕ) → o.trusted q ≡ true → IsHonest o q
  pub kept : (q : ℕ) → o.reverted q ≡ false → IsHonest o q

-- the floor of a peer's current ballot is at most its map
abbrev pub FloorsAreLow : Objects → Type 0
FloorsAreLow o = (q : ℕ) (k : List ℕ) → o.floor q (o.ledger.ballot q) k ≤ o.map q k

-- what such a peer shows is at least the floor of its current ballot
abbrev pub ShowsFloors : Objects → Type 0
ShowsFloors o = (q : ℕ) (k : List ℕ) → (o.trusted q ≡ true) ⊎ (o.reverted q ≡ false) → o.floor q (o.ledger.ballot q) k ≤ o.visible q k

-- the peer reached the epoch, and what it showed there is at most the merged map
pub record IsSource (o : Objects) (d : ℕ) (merged : Map) (q : ℕ) : Type 0 where
  pub reached : d ≤ o.ledger.ballot q
  pub given : (k : List ℕ) → o.floor q d k ≤ merged k

-- whether the peer's tree was never reverted
abbrev pub is_solid : Objects → ℕ → Bool
is_solid o q = not (o.reverted q)

-- the laws of versions and maps in a state
pub record VersionsAreSafe (o : Objects) : Type 0 where
  pub kept : Kept o
  pub found : Found o
  pub epochs : (v : ℕ) → o.proposed v ≡ true → InEstablished o v
  pub acknowledged : (v q : ℕ) → o.acked v q ≡ true → IsAcknowledged o v q
  pub lineage : (v : ℕ) → o.proposed v ≡ true → Lineage o v
  pub chain : Chain o
  pub successor : Successor o
  pub descent : Descent o
  pub genuine : Genuine o
  pub sight : Sight o
  pub floors : FloorsAreLow o
  pub dead : DeadByQuorums o
  pub shows : ShowsFloors o
  pub settled : (v : ℕ) → o.settled v ≡ true → IsSettled o v

-- what is preserved from one state to the next: what the ledger preserves; a floor does not rise once
-- its ballot is reached; a dead version stays dead; a version keeps its key and its parent, and what
-- was proposed, acknowledged, settled or reverted stays so
pub record VersionsStay (o next : Objects) : Type 0 where
  pub ledger : Stays o.ledger next.ledger
  pub floors : (q d : ℕ) (k : List ℕ) → d ≤ o.ledger.ballot q → next.floor q d k ≤ o.floor q d k
  pub dead : (v : ℕ) → o.ledger.elected (epoch_of v) ≡ true → IsDead o v → IsDead next v
  pub proposed : (v : ℕ) → o.proposed v ≡ true → next.proposed v ≡ true
  pub key : (v : ℕ) → o.proposed v ≡ true → next.key v ≡ o.key v
  pub parent : (v : ℕ) → o.proposed v ≡ true → next.parent v ≡ o.parent v
  pub acked : (v q : ℕ) → o.acked v q ≡ true → next.acked v q ≡ true
  pub settled : (v : ℕ) → o.settled v ≡ true → next.settled v ≡ true
  pub settled_by : (v : ℕ) → o.settled v ≡ true → next.settled_by v ≡ o.settled_by v
  pub reverted : (q : ℕ) → o.reverted q ≡ true → next.reverted q ≡ true
