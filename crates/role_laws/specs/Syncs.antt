-- Syncs: what was asked and received, and what that says of the sources.
use Rattle.std.specs.Prelude.{◌≡◌, ℕ, ◌<◌, ◌≤◌, Bool, true, false, ◌&&◌, ◌||◌, not, max, List, [], ◌∷◌, ◌==◌, ◌⊎◌, if◌then◌else◌}
use Rattle.ens_base.specs.Lists.{◌∈◌}
use Rattle.ens_base.specs.Views.{last_view}
use Rattle.quorums.specs.Quorums.{is_majority}
use Rattle.protocol_laws.specs.Objects.{Map, Objects, IsGenuine}
use Rattle.role_laws.specs.Facts.{Fact, Lines, IsFirst}
use Rattle.role_laws.specs.Trees.{Tree, IsScan, Scan}

-- how far the questions to a source are
pub data Stage : Type 0 where
  Open : Stage
  Finished : Stage
  Dropped : Stage

abbrev pub is_finished : Stage → Bool
is_finished Finished = true
is_finished stage = false

-- the questions to one source: whether each counted give said that the source trusts its tree, the
-- entries received so far, and the keys that are left to ask
pub record Asking : Type 0 where
  pub stage : Stage
  pub flagged : Bool
  pub received : Map
  pub left : List ℕ → Bool

-- no give was counted yet
abbrev pub new_ask : Stage → Asking
new_ask stage = record { stage = stage; flagged = true; received = λ k. 0; left = λ k. true }

-- a running sync: the fact that it will accept, the scan of the own tree, and the questions to each
-- source
pub record Sync : Type 0 where
  pub fact : Fact
  pub scan : Scan
  pub asks : ℕ → Asking

-- the sources: the members of the old view, or of the only one
abbrev pub sources_of : Sync → List ℕ
sources_of y = last_view y.fact.views

-- the entries of one source, none until it has finished
abbrev pub given_by : Sync → ℕ → Map
given_by y q k = if is_finished (y.asks q).stage then (y.asks q).received k else 0

-- the greatest entries of the sources and of the own scan
abbrev pub gathered : Sync → List ℕ → Map
gathered y [] k = y.scan.entries k
gathered y (q ∷ rest) k = max (given_by y q k) (gathered y rest k)

abbrev pub merged_of : Sync → Map
merged_of y = gathered y (sources_of y)

-- whether a source has finished; the peer itself has, if its scan met no damage
abbrev pub has_finished : ℕ → Sync → ℕ → Bool
has_finished p y q = if p == q then not y.scan.damaged else is_finished (y.asks q).stage

abbrev pub is_sure : ℕ → Bool → Sync → ℕ → Bool
is_sure p trusted y q = if p == q then trusted && not y.scan.damaged else is_finished (y.asks q).stage && (y.asks q).flagged

-- the sync may end: more than half of the sources have finished and trust their trees, or all have
-- finished
abbrev pub IsOver : ℕ → Bool → Sync → Type 0
IsOver p trusted y = (is_majority (is_sure p trusted y) (sources_of y) ≡ true) ⊎ ((q : ℕ) → q ∈ sources_of y → has_finished p y q ≡ true)

-- the key is left to ask, or this version or a greater one was received or scanned
abbrev pub Covered : Asking → Map → List ℕ → ℕ → Type 0
Covered a scan k v = a.left k ≡ false → v ≤ max (a.received k) (scan k)

-- what the questions to one source say: received entries are genuine; a source that answered has
-- reached the epoch; and if each of its gives was of a trusted tree, or the source is firm, each version
-- that it has had since it reached the epoch is covered
pub record AskHolds (g : Lines) (o : Objects) (d : ℕ) (scan : Map) (q : ℕ) (a : Asking) : Type 0 where
  pub genuine : (k : List ℕ) → IsGenuine o d k (a.received k)
  pub reached : (k : List ℕ) → a.left k ≡ false → d ≤ o.ledger.ballot q
  pub covered : (a.flagged || g.firm q) ≡ true → (k : List ℕ) → Covered a scan k (o.floor q d k)
  pub done : is_finished a.stage ≡ true → (k : List ℕ) → a.left k ≡ false

-- a running sync of a peer with this saved fact and this tree. If its scan is whole, and the peer
-- trusts its tree or is firm, the scan has each version that the peer has had since it reached the epoch
pub record SyncHolds (g : Lines) (o : Objects) (p : ℕ) (fact : Fact) (t : Tree) (trusted : Bool) (y : Sync) : Type 0 where
  pub first : IsFirst o.ledger y.fact
  pub stands : y.fact.epoch ≡ fact.ballot
  pub newer : fact.epoch < y.fact.epoch
  pub found : IsScan t y.scan
  pub scanned : (k : List ℕ) → IsGenuine o y.fact.epoch k (y.scan.entries k)
  pub whole : y.scan.damaged ≡ false → (trusted || g.firm p) ≡ true → (k : List ℕ) → o.floor p y.fact.epoch k ≤ y.scan.entries k
  pub asks : (q : ℕ) → AskHolds g o y.fact.epoch y.scan.entries q (y.asks q)
