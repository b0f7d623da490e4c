-- What holds of the tree of a peer, of a running sync, and of what a source sends.
use Rattle.std.specs.Prelude.{◌≡◌, ◌≤◌, ◌⊎◌, ℕ, Bool, not, ◌&&◌, List, filter, map}
use Rattle.std.specs.List.{AllByRecursion}
use Rattle.protocol_laws.specs.Numbers.{epoch_number}
use Rattle.protocol_laws.specs.Objects.{epoch_of}
use Rattle.protocol_laws.specs.Protocol.{State}
use Rattle.ens_base.specs.Lists.{◌∈◌, AreDistinct}
use Rattle.ens_base.specs.Views.{last_view}
use Rattle.ens_base.specs.declared.entry.Entry.{Entry}
use Rattle.ens_base.specs.declared.epoch.Epoch.{Epoch}
use Rattle.tree_node.specs.declared.version.TreeVersion.{TreeVersion}
use Rattle.tree_node.specs.declared.version.TreeVersion.TheVariants.{Two}
use Rattle.tree_exchange.specs.Covers.{give_of}
use Rattle.tree_exchange.specs.declared.question.Question.{Question}
use Rattle.peer_refinement.specs.LeaderRefinement.{rank}
use Rattle.stored_formats.specs.declared.fact.Fact.{Fact}
use Rattle.peer_refinement.specs.Naming.{EntrySays}
use Rattle.tree_sync.specs.Running.{Running}
use Rattle.tree_sync.specs.declared.asking.Asking.{Asking}
use Rattle.role_laws.specs.Facts.{Lines}
use Rattle.role_laws.specs.SyncMessages.{GiveSays}
use Rattle.role_laws.specs.Syncs.{SyncHolds, is_finished}
use Rattle.tree_sync.specs.Syncs.{is_source, is_trusted_source}
use Rattle.tree_sync.specs.declared.sync.Source.{Source}
use Rattle.synctree.specs.Entries.{IsMap}
use Rattle.synctree.specs.Forms.{root}
use Rattle.synctree.specs.Maps.{IsNode}
use Rattle.synctree.specs.Sixteen.{form_of}
use Rattle.tree_node.specs.Positions.{IsPosition}
use Rattle.tree_node.specs.declared.body.Scan.{Scan}
use Rattle.tree_node.specs.declared.body.TreeBody.{TreeBody}
use Rattle.tree_node.specs.declared.body.TreeBody.TheVariants as bodies
use Rattle.peer_refinement.specs.Rooted.{LosesAll}
use Rattle.tree_repair.specs.Scans.{lost}
use Rattle.peer_refinement.specs.Seen.{ranks, ask_of, seen_fact, seen_tree, seen_sync}

-- ## Trees

-- each entry of the map says what holds
abbrev pub EntriesSay : State → List (List ℕ) → List Entry → Type 0
EntriesSay s strings m = (e : Entry) → e ∈ m → EntrySays s strings e

-- the map is what the tree of peer q shows in the protocol, and its entries say what holds
pub record TreeSays (s : State) (strings : List (List ℕ)) (q : ℕ) (m : List Entry) : Type 0 where
  pub entries : EntriesSay s strings m
  pub visible : (k : List ℕ) → s.objects.visible q k ≡ ranks m k

-- a map that the tree of peer q may be put back to: its entries say what holds, and are of epochs that
-- the peer has reached
pub record MayReturn (s : State) (strings : List (List ℕ)) (q : ℕ) (m : List Entry) : Type 0 where
  pub entries : EntriesSay s strings m
  pub reached : (e : Entry) → e ∈ m → epoch_of (rank e.version) ≤ s.objects.ledger.ballot q

-- what a scan of the tree of a map returns
pub record IsScanOf (m : List Entry) (scan : Scan) : Type 0 where
  pub is_map : IsMap m
  pub entries : scan.entries ≡ filter (λ e. not (lost (form_of Two) scan.damaged e.key)) m

-- each node of the map was hashed, in this version of the tree
abbrev pub AreHashed : TreeVersion → List (List ℕ) → List Entry → Type 0
AreHashed version strings m = (node : List ℕ) → IsNode (form_of version) (form_of version).depth root m node → node ∈ strings

-- ## Syncs

-- the sources that have finished, as the asks say
pub record SourcesAre (r : Running) : Type 0 where
  pub finished : (q : ℕ) → is_source r.sync.sources q ≡ is_finished (ask_of r.asks q).stage
  pub flagged : (q : ℕ) → is_trusted_source r.sync.sources q ≡ (is_finished (ask_of r.asks q).stage && (ask_of r.asks q).flagged)
  pub given : (source : Source) → source ∈ r.sync.sources → (a : Asking) × (a ∈ r.asks) × (a.peer ≡ source.peer) × (source.entries ≡ a.ask.received)
  pub among : (source : Source) → source ∈ r.sync.sources → source.peer ∈ r.sync.view

-- what a running sync of peer p says, over a tree of this version that shows the map, or of which the scan
-- found nothing
pub record SyncSays (version : TreeVersion) (g : Lines) (s : State) (strings : List (List ℕ)) (p : ℕ) (fact : Fact) (trusted : Bool) (m : List Entry) (r : Running) : Type 0 where
  pub me : r.sync.me ≡ p
  pub trust : r.sync.trusted ≡ trusted
  pub view : r.sync.view ≡ last_view r.fact.views
  pub scan : IsScanOf m r.sync.scan
  pub positions : AllByRecursion (IsPosition version) r.sync.scan.damaged
  pub seen : LosesAll r.sync.scan ⊎ AreHashed version strings m
  pub distinct : AreDistinct (map (λ (a : Asking). a.peer) r.asks)
  pub others : (a : Asking) → a ∈ r.asks → a.peer ≡ p → ⊥
  pub sources : SourcesAre r
  pub received : (a : Asking) → a ∈ r.asks → EntriesSay s strings a.ask.received
  pub holds : SyncHolds g s.objects p (seen_fact fact) (seen_tree m) trusted (seen_sync r)

-- ## Gives

-- a part of the tree of a map that peer q showed in this version: it says what holds
pub record GiveShows (version : TreeVersion) (g : Lines) (s : State) (strings : List (List ℕ)) (q : ℕ) (ballot : Epoch) (question : Question) (trusted : Bool) (body : TreeBody) : Type 0 where
  pub map : List Entry
  pub is_map : IsMap map
  pub body_is : body ≡ give_of version map question
  pub hashed : AreHashed version strings map
  pub entries : EntriesSay s strings map
  pub says : GiveSays g s.objects q (epoch_number ballot) trusted (ranks map)

-- a node that peer q sends is of such a tree, or the peer reports damage
abbrev pub GiveFits : TreeVersion → Lines → State → List (List ℕ) → ℕ → Epoch → Question → Bool → TreeBody → Type 0
GiveFits version g s strings q ballot question trusted (bodies.Damaged at) = Unit {0}
GiveFits version g s strings q ballot question trusted body = GiveShows version g s strings q ballot question trusted body
