-- The laws of running syncs, in each state of a run.
use Rattle.std.specs.Prelude.{◌≡◌, ◌<◌, ◌⊎◌, ◌^◌, ℕ, Bool, true, false, List, Option, None, length, map}
use Rattle.std.specs.List.{AllByRecursion}
use Rattle.protocol_laws.specs.Numbers.{epoch_number}
use Rattle.protocol_laws.specs.Objects.{MayInstall}
use Rattle.protocol_laws.specs.Protocol.{State}
use Rattle.ens_base.specs.Lists.{◌∈◌, AreDistinct}
use Rattle.ens_base.specs.Views.{last_view}
use Rattle.ens_base.specs.declared.entry.Entry.{Entry}
use Rattle.ens_base.specs.declared.epoch.Epoch.{Epoch}
use Rattle.tree_node.specs.declared.version.TreeVersion.{TreeVersion}
use Rattle.tree_exchange.specs.declared.question.Question.{Question}
use Rattle.peer_refinement.specs.LeaderRefinement.{rank}
use Rattle.world_spec.specs.PeerSpec.{body_of}
use Rattle.stored_formats.specs.declared.fact.Fact.{Fact}
use Rattle.peer_refinement.specs.Replies.{MapSays}
use Rattle.tree_sync.specs.Rows.{row_start, row_resume, row_take}
use Rattle.tree_sync.specs.Running.{Running}
use Rattle.tree_sync.specs.Sends.{AsksOthers}
use Rattle.tree_sync.specs.declared.asking.Give.{Give}
use Rattle.step_plans.specs.declared.walked.Walked.{Walked}
use Rattle.step_plans.specs.declared.walked.Walked.TheVariants.{Reached, Broken}
use Rattle.role_laws.specs.Facts.{Lines, AreFirm, IsFirst}
use Rattle.tree_sync.specs.Syncs.{outcome_of, needs_build}
use Rattle.tree_sync.specs.declared.sync.Outcome.TheVariants.{Trusted}
use Rattle.synctree.specs.Entries.{IsMap}
use Rattle.synctree.specs.Paths.{node_of}
use Rattle.synctree.specs.Sixteen.{form_of}
use Rattle.tree_node.specs.Positions.{IsPosition}
use Rattle.tree_node.specs.declared.body.Scan.{Scan}
use Rattle.tree_node.specs.declared.body.TreeBody.{TreeBody}
use Rattle.tree_node.specs.declared.position.Position.{Position}
use Rattle.peer_refinement.specs.Rooted.{LosesAll}
use Rattle.peer_refinement.specs.Trees.{AreFree}
use Rattle.peer_refinement.specs.Seen.{ranks, seen_fact}
use Rattle.peer_refinement.specs.Syncs.{EntriesSay, TreeSays, MayReturn, IsScanOf, AreHashed, SyncSays, GiveFits}

-- ## Trees

-- peers in no revert line were never reverted
abbrev pub FirmAreKept : Lines → State → Type 0
FirmAreKept g s = (q : ℕ) → g.firm q ≡ true → s.objects.reverted q ≡ false

-- a peer that trusts its tree shows the map that it wrote last
abbrev pub TrustedMapsSay : State → Type 0
TrustedMapsSay s = (strings : List (List ℕ)) (q : ℕ) (m : List Entry) → s.objects.trusted q ≡ true → TreeSays s strings q m → MapSays s strings q m

-- what a tree shows may be put back later
abbrev pub ShownMayReturn : State → Type 0
ShownMayReturn s = (strings : List (List ℕ)) (q : ℕ) (m : List Entry) → IsMap m → TreeSays s strings q m → MayReturn s strings q m

-- ## Gives

-- the walk reached its position and found the node there of the map, whose nodes were hashed in this version
-- of the tree; or it met damage
abbrev pub HasWalked : TreeVersion → List (List ℕ) → List Entry → Position → Walked (Option (List ℕ)) → Type 0
HasWalked version strings m at (Reached node) = (node ≡ node_of (form_of version) at m) × AreHashed version strings m
HasWalked version strings m at (Broken damaged) = Unit {0}

-- a peer that stands at the ballot sends a part of what its tree shows, or reports damage
abbrev pub GivesShow : Lines → State → Type 0
GivesShow g s = (version : TreeVersion) (strings : List (List ℕ)) (q : ℕ) (ballot : Epoch) (question : Question) (trusted : Bool) (m : List Entry) (walked : Walked (Option (List ℕ))) → FirmAreKept g s → s.objects.trusted q ≡ trusted → s.objects.ledger.ballot q ≡ epoch_number ballot → IsMap m
    → TreeSays s strings q m → HasWalked version strings m question.position walked → GiveFits version g s strings q ballot question trusted (body_of version question walked)

-- ## Syncs

-- a sync begins, after a scan of the own tree
abbrev pub SyncsStart : Lines → State → Type 0
SyncsStart g s = (version : TreeVersion) (strings : List (List ℕ)) (p : ℕ) (fact new : Fact) (trusted : Bool) (m : List Entry) (scan : Scan) → FirmAreKept g s → s.objects.trusted p ≡ trusted → s.objects.ledger.ballot p ≡ epoch_number fact.ballot
    → IsFirst s.objects.ledger (seen_fact new) → epoch_number new.epoch ≡ epoch_number fact.ballot → epoch_number fact.epoch < epoch_number new.epoch → LosesAll scan ⊎ AreHashed version strings m → TreeSays s strings p m → IsScanOf m scan
    → AllByRecursion (IsPosition version) scan.damaged → SyncSays version g s strings p fact trusted m (row_start new p trusted scan).0

-- a sync asks again
abbrev pub SyncsResume : Lines → State → Type 0
SyncsResume g s = (version : TreeVersion) (strings : List (List ℕ)) (p : ℕ) (fact : Fact) (trusted : Bool) (m : List Entry) (r : Running) → SyncSays version g s strings p fact trusted m r → SyncSays version g s strings p fact trusted m (row_resume r).0

-- a sync takes what a source sends of a tree of the same version; the own node was read, or its path did not
-- verify, or it is not needed
abbrev pub SyncsTake : Lines → State → Type 0
SyncsTake g s = (version : TreeVersion) (strings : List (List ℕ)) (p : ℕ) (fact : Fact) (trusted : Bool) (m : List Entry) (r : Running) (from : ℕ) (give : Give) (own : Option (List ℕ)) → AreFree strings → IsPosition version give.question.position → AsksOthers p r → GiveFits version g s strings from give.ballot give.question give.trusted give.body
    → (own ≡ None) ⊎ ((own ≡ node_of (form_of version) give.question.position m) × AreHashed version strings m) → SyncSays version g s strings p fact trusted m r → SyncSays version g s strings p fact trusted m (row_take version from give own r).0

-- the end of a sync: the merged entries are a map, the peer may install it, and each entry says what
-- holds; if the tree need not be built, they are those of the own tree
pub record SyncEnds (s : State) (strings : List (List ℕ)) (p : ℕ) (m : List Entry) (r : Running) (entries : List Entry) : Type 0 where
  pub is_map : IsMap entries
  pub entries_say : EntriesSay s strings entries
  pub may : MayInstall s.objects p (epoch_number r.fact.epoch) (ranks entries)
  pub kept : needs_build r.sync.scan entries ≡ false → entries ≡ m

-- distinct keys of proposed versions are few
abbrev pub AreFewKeys : State → Type 0
AreFewKeys s = (m : List Entry) → ((e : Entry) → e ∈ m → s.objects.proposed (rank e.version) ≡ true) → ((e : Entry) → e ∈ m → e.key ≡ s.objects.key (rank e.version)) → AreDistinct (map (λ (e : Entry). e.key) m) → length m < 2 ^ 32

abbrev pub SyncsEnd : Lines → State → Type 0
SyncsEnd g s = (version : TreeVersion) (strings : List (List ℕ)) (p : ℕ) (fact : Fact) (trusted : Bool) (m : List Entry) (r : Running) (entries : List Entry) → AreFirm g → last_view r.fact.views ∈ g.voting → AreFewKeys s → s.objects.ledger.ballot p ≡ epoch_number fact.ballot → (s.objects.ledger.fact p).epoch ≡ epoch_number fact.epoch → TreeSays s strings p m
    → SyncSays version g s strings p fact trusted m r → outcome_of r.sync ≡ Trusted entries → SyncEnds s strings p m r entries

-- the laws of the state
pub record SyncLaws (g : Lines) (s : State) : Type 0 where
  pub trusted_maps : TrustedMapsSay s
  pub may_return : ShownMayReturn s
  pub gives : GivesShow g s
  pub starts : SyncsStart g s
  pub resumes : SyncsResume g s
  pub takes : SyncsTake g s
  pub ends : SyncsEnd g s

-- what syncs and gives say, and what may return, stays so
pub record SyncsStay (g : Lines) (s t : State) : Type 0 where
  pub syncs : (version : TreeVersion) (strings : List (List ℕ)) (p : ℕ) (fact : Fact) (trusted : Bool) (m : List Entry) (r : Running) → s.objects.ledger.ballot p ≡ epoch_number fact.ballot → SyncSays version g s strings p fact trusted m r → SyncSays version g t strings p fact trusted m r
  pub gives : (version : TreeVersion) (strings : List (List ℕ)) (q : ℕ) (ballot : Epoch) (question : Question) (trusted : Bool) (body : TreeBody) → GiveFits version g s strings q ballot question trusted body → GiveFits version g t strings q ballot question trusted body
  pub returns : (strings : List (List ℕ)) (q : ℕ) (m : List Entry) → MayReturn s strings q m → MayReturn t strings q m
