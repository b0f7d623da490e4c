-- What entries name, and what a peer replies, in each state of a run.
use Rattle.std.specs.Prelude.{◌≡◌, ◌≤◌, ℕ, Bool, true, List, Option, Some}
use Rattle.md5.specs.Md5.{md5}
use Rattle.ens_base.specs.Lists.{◌∈◌}
use Rattle.ens_base.specs.declared.entry.Entry.{Entry}
use Rattle.ens_base.specs.declared.epoch.Epoch.{Epoch}
use Rattle.stored_formats.specs.Objects.{IsObject, object_spelling}
use Rattle.stored_formats.specs.declared.object.Object.{Object}
use Rattle.object_commands.specs.Kept.{object_in, matching, entry_of}
use Rattle.stored_formats.specs.declared.fact.Fact.{Fact}
use Rattle.synctree.specs.Entries.{put}
use Rattle.wire_frames.specs.declared.message.Message.{Message}
use Rattle.phase_rows.specs.declared.phase.Seen.{Seen}
use Rattle.phase_rules.specs.Requests.{row_20, row_21, row_22}
use Rattle.protocol_laws.specs.Numbers.{epoch_number, IsEpoch}
use Rattle.protocol_laws.specs.Protocol.{State, Step, Write, happens, after, MayAll}
use Rattle.role_laws.specs.Leaders.{TurnsHold}
use Rattle.role_laws.specs.LeaderMessages.{GetSays, CheckSays, PutSays, GetReplySays}
use Rattle.role_laws.specs.Moves.{GhostsGrow}
use Rattle.role_laws.specs.Tables.{Ghosts}
use Rattle.leader_refinement.specs.Seen.{rank, content_of, entry_rank, shown}
use Rattle.leader_refinement.specs.Laws.{FoundSays, LookSays}
use Rattle.peer_refinement.specs.Trees.{AreFree, AreAmong}
use Rattle.peer_refinement.specs.Naming.{hash_of, VersionSays, EntrySays, EntryMaySay, Names, IsDecoded, IsConfirmed, KeptIs}
use Rattle.peer_refinement.specs.Replies.{Serves, MapSays, AllSpareTree, found_in, LookSees, FindSees, SeenSays, ReplySays, Replies, IsReplyToPut}

-- ## Which object an entry names

-- the object of hashed bytes, if the entry names it by their digest, is that of the entry's version
abbrev pub DecodedAreNamed : State → Type 0
DecodedAreNamed s = (strings : List (List ℕ)) (e : Entry) (bytes : List ℕ) (o named : Object) → AreFree strings → EntrySays s strings e → bytes ∈ strings → object_in bytes ≡ Some o → matching e (Some (o, md5 bytes)) ≡ Some named → Names s e named

-- the same for an object whose spelling was hashed
abbrev pub SpelledAreNamed : State → Type 0
SpelledAreNamed s = (strings : List (List ℕ)) (e : Entry) (o named : Object) → AreFree strings → EntrySays s strings e → IsObject o → object_spelling o ∈ strings → matching e (Some (o, md5 (object_spelling o))) ≡ Some named → Names s e named

-- entries of one version are equal
abbrev pub EntriesAreOne : State → Type 0
EntriesAreOne s = (strings : List (List ℕ)) (e f : Entry) → EntrySays s strings e → EntrySays s strings f → e.version ≡ f.version → e ≡ f

-- rules 21 and 29: what a peer sees of its own tree and backend
abbrev pub LooksSay : State → Type 0
LooksSay s = (g : Ghosts) (strings : List (List ℕ)) (q : ℕ) (m : List Entry) (key : List ℕ) (seen : Seen) → g.hash ≡ hash_of → AreFree strings → MapSays s strings q m → LookSees strings m key seen → LookSays s q key seen × SeenSays g s strings q key seen

-- rule 28: what a leader finds in its own backend, if the settled version of its key says what holds
abbrev pub KeptAreNamed : State → Type 0
KeptAreNamed s = (g : Ghosts) (strings : List (List ℕ)) (key : List ℕ) (kept : Object × List ℕ) → g.hash ≡ hash_of → AreFree strings → IsDecoded strings kept
    → (s.objects.settled (rank kept.0.version) ≡ true → s.objects.key (rank kept.0.version) ≡ key → VersionSays s strings kept.0.version) → KeptIs g s key kept

-- rule 29: the object of a reply, once it is confirmed
abbrev pub RepliesAreNamed : State → Type 0
RepliesAreNamed s = (g : Ghosts) (strings : List (List ℕ)) (q d r : ℕ) (key : List ℕ) (entry : Option Entry) (object named : Option Object) → g.hash ≡ hash_of → AreFree strings → GetReplySays g s q d r key (entry_rank entry) (shown entry object) → EntryMaySay s strings entry → IsConfirmed strings entry object named
    → GetReplySays g s q d r key (entry_rank entry) (shown entry named) × FoundSays g key (found_in entry named)

-- ## What a peer replies

-- a peer with this saved fact accepted the epoch of the fact
abbrev pub PeersServe : State → Type 0
PeersServe s = (q : ℕ) (fact : Fact) (trusted : Bool) → s.objects.ledger.ballot q ≡ epoch_number fact.ballot → (s.objects.ledger.fact q).epoch ≡ epoch_number fact.epoch → s.objects.trusted q ≡ trusted
    → IsEpoch fact.ballot → IsEpoch fact.epoch → epoch_number fact.epoch ≤ epoch_number fact.ballot → Serves s q fact trusted

-- rule 20, Check
abbrev pub RepliesToChecks : State → Type 0
RepliesToChecks s = (g : Ghosts) (strings : List (List ℕ)) (q : ℕ) (fact : Fact) (trusted : Bool) (from : ℕ) (ballot : Epoch) (round : ℕ) → TurnsHold g s → Serves s q fact trusted → CheckSays g (epoch_number ballot) round → Replies g s strings q (row_20 fact from ballot round)

-- rule 21, Get
abbrev pub RepliesToGets : State → Type 0
RepliesToGets s = (g : Ghosts) (strings : List (List ℕ)) (q : ℕ) (fact : Fact) (trusted : Bool) (from : ℕ) (ballot : Epoch) (round : ℕ) (key : List ℕ) (seen : Seen) → TurnsHold g s → Serves s q fact trusted → GetSays g s (epoch_number ballot) round key → SeenSays g s strings q key seen → Replies g s strings q (row_21 fact trusted from ballot round key seen)

-- rule 22, Put; only a peer that trusts its tree has to show the map of the protocol
abbrev pub RepliesToPuts : State → Type 0
RepliesToPuts s = (g : Ghosts) (strings : List (List ℕ)) (q : ℕ) (m : List Entry) (fact : Fact) (trusted : Bool) (from : ℕ) (ballot : Epoch) (o : Object) (seen : Seen) → Serves s q fact trusted → (trusted ≡ true → MapSays s strings q m) → PutSays s (epoch_number ballot) o.key (rank o.version) (content_of o) → IsObject o → FindSees m o.key seen
    → IsReplyToPut g s strings q m from ballot o (row_22 fact trusted from ballot o seen)

-- ## What stays

-- the entry of the object of a put whose string was hashed
abbrev pub PutsAreEntries : State → Type 0
PutsAreEntries s = (strings : List (List ℕ)) (d : ℕ) (o : Object) (digest : List ℕ) → PutSays s d o.key (rank o.version) (content_of o) → IsObject o → object_spelling o ∈ strings → digest ≡ md5 (object_spelling o) → EntrySays s strings (entry_of o digest)

-- an entry goes into the tree of a peer
abbrev pub WritesShow : State → Type 0
WritesShow s = (strings more : List (List ℕ)) (q : ℕ) (m : List Entry) (e : Entry) → AreAmong strings more → MapSays s strings q m → EntrySays s more e → MapSays (happens s (Write q (rank e.version))) more q (put e m)

-- what an entry says stays so, while more strings are hashed
abbrev pub EntriesStaySo : State → Type 0
EntriesStaySo s = (strings more : List (List ℕ)) (steps : List Step) (e : Entry) → MayAll s steps → AreAmong strings more → EntrySays s strings e → EntrySays (after s steps) more e

-- so does what a map says, by steps that leave the peer's tree
abbrev pub MapsStaySo : State → Type 0
MapsStaySo s = (strings more : List (List ℕ)) (steps : List Step) (q : ℕ) (m : List Entry) → MayAll s steps → AllSpareTree q steps → AreAmong strings more → MapSays s strings q m → MapSays (after s steps) more q m

-- and what a reply says
abbrev pub RepliesStaySo : State → Type 0
RepliesStaySo s = (g h : Ghosts) (strings more : List (List ℕ)) (steps : List Step) (q : ℕ) (message : Message) → MayAll s steps → GhostsGrow s g h → TurnsHold g s → AreAmong strings more → ReplySays g s strings q message → ReplySays h (after s steps) more q message
