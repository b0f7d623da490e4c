-- What holds of a peer and its stores besides its part in elections, and what messages say besides.
use Rattle.std.specs.Prelude.{◌≡◌, ◌<◌, ◌^◌, ℕ, Bool, true, false, List, Option, None, Some}
use Rattle.ens_base.specs.Limits.{IsKey, IsCommand}
use Rattle.ens_base.specs.Lists.{◌∈◌}
use Rattle.ens_base.specs.declared.entry.Entry.{Entry}
use Rattle.ens_base.specs.declared.epoch.Version.{Version}
use Rattle.stored_formats.specs.Objects.{IsObject}
use Rattle.protocol_laws.specs.Numbers.{IsVersion}
use Rattle.protocol_laws.specs.Objects.{IsHonest}
use Rattle.protocol_laws.specs.Protocol.{State}
use Rattle.call_table.specs.Calls.{running}
use Rattle.call_table.specs.Rows.{row_at}
use Rattle.election_refinement.specs.Listed.{IsListedFact}
use Rattle.election_refinement.specs.Refinement.{IsSaved}
use Rattle.peer_refinement.specs.WorldSpec.{Held, HeldStores}
use Rattle.leader_refinement.specs.Follows.{Hash, LeaderFits, TaskHolds}
use Rattle.leader_refinement.specs.Laws.{EntryFits}
use Rattle.leader_refinement.specs.Seen.{rank}
use Rattle.leader_output.specs.declared.out.Outgoing.{Outgoing}
use Rattle.leader.specs.declared.pending.Pending.TheVariants as tasks
use Rattle.peer_state.specs.declared.state.Phase.{Phase}
use Rattle.peer_state.specs.declared.state.Phase.TheVariants as phases
use Rattle.stored_formats.specs.declared.fact.Fact.{Fact}
use Rattle.role_laws.specs.Facts.{Lines}
use Rattle.wire_frames.specs.declared.frame.Frame.{Frame}
use Rattle.wire_frames.specs.declared.message.Message.{Message}
use Rattle.wire_frames.specs.declared.message.Message.TheVariants as messages
use Rattle.role_laws.specs.Kept.{IsSealed, RootHolds, named_by}
use Rattle.step_plans.specs.Saved.{bare, kept_seal}
use Rattle.peer_refinement.specs.Naming.{VersionSays, EntryMaySay}
use Rattle.peer_refinement.specs.Syncs.{TreeSays, MayReturn, GiveFits, SyncSays}
use Rattle.tree_sync.specs.Running.{Running}
use Rattle.tree_sync.specs.Syncs.{is_clean}
use Rattle.tree_node.specs.declared.body.Scan.{Scan}
use Rattle.tree_node.specs.declared.version.TreeVersion.{TreeVersion}
use Rattle.peer_refinement.specs.Tops.{IsNamed, tops_of}
use Rattle.world_stores.specs.Nodes.{top_of}

-- ## Trees

-- a top record of peer q names a map that its tree may be put back to
pub record TopReturns (s : State) (strings hashed : List (List ℕ)) (q : ℕ) (digest : List ℕ) : Type 0 where
  pub map : List Entry
  pub named : IsNamed hashed digest map
  pub returns : MayReturn s strings q map

-- so does each of these records
abbrev pub TopsReturn : State → List (List ℕ) → List (List ℕ) → ℕ → List (List ℕ) → Type 0
TopsReturn s strings hashed q tops = (digest : List ℕ) → digest ∈ tops → TopReturns s strings hashed q digest

-- What the stores of peer q keep of the map that the peer wrote last, under this seal, if there is one, and
-- these top records, the oldest first. The seal, or without a seal the top record, names the map that the
-- protocol shows. Under a seal that is the map of the last write, and nothing is said of the top records;
-- without one the tree may be put back to each map that a top record ever named.
pub record LastMap (s : State) (strings hashed : List (List ℕ)) (q : ℕ) (seal : Option (List ℕ)) (tops : List (List ℕ)) : Type 0 where
  pub digest : List ℕ
  pub is : named_by (top_of tops) seal ≡ Some digest
  pub map : List Entry
  pub named : IsNamed hashed digest map
  pub says : TreeSays s strings q map
  pub honest : IsSealed seal → IsHonest s.objects q
  pub returns : seal ≡ None → TopsReturn s strings hashed q tops

-- The tree of the running peer q, whose saved fact has this seal, if it has one. Its root is the top record,
-- and names the map that the peer wrote last, in its own version or in the other one; or it has no root, and
-- then the peer has a seal and does not trust its tree.
pub record TreeHolds (s : State) (strings : List (List ℕ)) (q : ℕ) (seal : Option (List ℕ)) (h : Held) : Type 0 where
  pub last : LastMap s strings h.hashed q seal (tops_of h.stores)
  pub sealed : kept_seal h.stores.facts.kept ≡ seal
  pub root : RootHolds s.objects q (top_of (tops_of h.stores)) seal h.stores.tree.top

-- where every start has sealing on, the saved fact has a seal
abbrev pub SealFits : Lines → Option (List ℕ) → Type 0
SealFits lines seal = lines.sealed ≡ true → IsSealed seal

-- the stores of peer q, which is down: they keep its fact and the map that it wrote last, and the peer does
-- not trust its tree
pub record DownHolds (lines : Lines) (s : State) (strings hashed : List (List ℕ)) (q : ℕ) (stores : HeldStores) : Type 0 where
  pub fact : Fact
  pub kept : bare stores.facts.kept ≡ Some fact
  pub saved : IsSaved s.objects.ledger q fact
  pub listed : IsListedFact lines.voting fact
  pub seal : SealFits lines (kept_seal stores.facts.kept)
  pub blind : s.objects.trusted q ≡ false
  pub last : LastMap s strings hashed q (kept_seal stores.facts.kept) (tops_of stores)

-- ## Syncs

-- a clean scan is that of a tree with a root
abbrev pub IsRooted : Scan → Option (List ℕ) → Type 0
IsRooted scan root = is_clean scan ≡ true → root ≡ None → ⊥

-- what a running sync of peer p says, over a tree of this version with this root that shows the map; its scan
-- was clean only if there was a root
abbrev pub SyncFits : TreeVersion → Lines → State → List (List ℕ) → ℕ → Fact → Bool → List Entry → Option (List ℕ) → Option Running → Type 0
SyncFits version lines s strings p fact trusted m root None = Unit {0}
SyncFits version lines s strings p fact trusted m root (Some r) = SyncSays version lines s strings p fact trusted m r × IsRooted r.sync.scan root

-- ## Versions and calls

-- each version that a peer acknowledges says what holds; so its object was hashed
abbrev pub AcksSay : State → List (List ℕ) → Type 0
AcksSay s strings = (v : Version) (q : ℕ) → IsVersion v → s.objects.acked (rank v) q ≡ true → VersionSays s strings v

-- each call that came keeps the limits of its key and its command
abbrev pub AsksFit : State → Type 0
AsksFit s = (i : ℕ) → s.book.called i ≡ true → IsKey (s.book.asked i).key × IsCommand (s.book.asked i).command

-- ## Phases

-- the leader in the phase fits
abbrev pub PhaseFits : Hash → State → Phase → Type 0
PhaseFits hash s (phases.Leading l) = LeaderFits hash s l.leader
PhaseFits hash s phase = Unit {0}

-- what the task of the leader in the phase, on this key, asks for holds
abbrev pub TaskFits : State → List ℕ → Phase → Type 0
TaskFits s key (phases.Leading l) = TaskHolds s l.leader key (row_at key l.leader.table.rows).known (running key l.leader.table.calls) l.leader.task
TaskFits s key phase = Unit {0}

-- no task is at hand
abbrev pub IsAtRest : Phase → Type 0
IsAtRest (phases.Leading l) = l.leader.task ≡ tasks.Nothing
IsAtRest phase = Unit {0}

-- ## Messages

-- what a message of peer q holds besides what it says of elections and of calls: the object of a put
-- obeys the grammar, the entry of a reply says what holds, and a node of a tree is of a map that the
-- peer showed in this version of the tree
abbrev pub MessageFits : TreeVersion → Lines → State → List (List ℕ) → ℕ → Message → Type 0
MessageFits version lines s strings q (messages.Put ballot o) = IsObject o
MessageFits version lines s strings q (messages.GetReply ballot round key entry object) = EntryMaySay s strings entry × EntryFits entry
MessageFits version lines s strings q (messages.TreeGive ballot at after trusted body) = GiveFits version lines s strings q ballot (record { position = at; after = after }) trusted body
MessageFits version lines s strings q message = Unit {0}

abbrev pub SendFits : TreeVersion → Lines → State → List (List ℕ) → ℕ → Outgoing → Type 0
SendFits version lines s strings q o = MessageFits version lines s strings q o.message

abbrev pub FrameFits : TreeVersion → Lines → State → List (List ℕ) → Frame → Type 0
FrameFits version lines s strings f = MessageFits version lines s strings f.from f.message

-- the number of each epoch that was elected is below 2 ^ 96: its count has 64 bits
abbrev pub EpochsFit : State → Type 0
EpochsFit s = (d : ℕ) → s.objects.ledger.elected d ≡ true → d < 2 ^ 96
