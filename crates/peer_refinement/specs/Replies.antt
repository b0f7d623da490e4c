-- What holds of a peer that is asked, and what its replies say.
use Rattle.std.specs.Prelude.{◌≡◌, ◌⊎◌, ◌≤◌, ℕ, Bool, true, List, [], ◌∷◌, Option, None, Some}
use Rattle.md5.specs.Md5.{md5}
use Rattle.ens_base.specs.Lists.{◌∈◌}
use Rattle.ens_base.specs.declared.entry.Entry.{Entry}
use Rattle.ens_base.specs.declared.epoch.Epoch.{Epoch}
use Rattle.stored_formats.specs.Objects.{object_spelling}
use Rattle.stored_formats.specs.declared.object.Object.{Object}
use Rattle.object_commands.specs.Kept.{entry_of}
use Rattle.stored_formats.specs.declared.fact.Fact.{Fact}
use Rattle.synctree.specs.Entries.{lookup, put}
use Rattle.tree_node.specs.declared.position.Position.{Position}
use Rattle.wire_frames.specs.declared.message.Message.{Message}
use Rattle.wire_frames.specs.declared.message.Message.TheVariants as messages
use Rattle.wire_frames.specs.declared.message.NackCause.TheVariants as causes
use Rattle.phase_rows.specs.declared.phase.PhaseOut.{PhaseOut}
use Rattle.phase_rows.specs.declared.phase.Seen.{Seen}
use Rattle.phase_rows.specs.declared.phase.Seen.TheVariants as seens
use Rattle.phase_rows.specs.declared.phase.Then.TheVariants.{Stay, Untrust, Put}
use Rattle.phase_rules.specs.Refusals.{tells_damage}
use Rattle.phase_rules.specs.Requests.{acknowledges}
use Rattle.call_table.specs.declared.row.Found.{Found}
use Rattle.protocol_laws.specs.Numbers.{epoch_number, IsEpoch}
use Rattle.protocol_laws.specs.Protocol.{State, Step, Write, Acknowledge, Install, Revert, happens, after, MayAll}
use Rattle.role_laws.specs.LeaderMessages.{GetReplySays, CheckReplySays}
use Rattle.role_laws.specs.Tables.{Ghosts}
use Rattle.leader_refinement.specs.Seen.{rank, entry_rank, shown}
use Rattle.leader_refinement.specs.Laws.{EntryFits, FoundSays, LookSays}
use Rattle.peer_refinement.specs.Trees.{AreAmong}
use Rattle.peer_refinement.specs.Naming.{EntrySays, EntryMaySay, IsMatched}

-- ## A peer that is asked

-- the saved fact of peer q, and whether it trusts its tree, are those of the protocol
pub record Serves (s : State) (q : ℕ) (fact : Fact) (trusted : Bool) : Type 0 where
  pub ballot : s.objects.ledger.ballot q ≡ epoch_number fact.ballot
  pub accepted : s.objects.ledger.accepted (epoch_number fact.epoch) q ≡ true
  pub trusts : s.objects.trusted q ≡ trusted
  pub ballot_fits : IsEpoch fact.ballot
  pub epoch_fits : IsEpoch fact.epoch
  pub below : epoch_number fact.epoch ≤ epoch_number fact.ballot

-- the map that the tree of peer q shows is that of the protocol, and each of its entries says what
-- holds
pub record MapSays (s : State) (strings : List (List ℕ)) (q : ℕ) (m : List Entry) : Type 0 where
  pub entries : (e : Entry) → e ∈ m → EntrySays s strings e
  pub map : (k : List ℕ) → s.objects.map q k ≡ entry_rank (lookup k m)
  pub visible : (k : List ℕ) → s.objects.visible q k ≡ entry_rank (lookup k m)

-- the step leaves the map of peer q and what its tree shows
abbrev pub SparesTree : ℕ → Step → Type 0
SparesTree q (Write p v) = p ≡ q → ⊥
SparesTree q (Install p d merged) = p ≡ q → ⊥
SparesTree q (Revert p tree) = p ≡ q → ⊥
SparesTree q step = Unit {0}

abbrev pub AllSpareTree : ℕ → List Step → Type 0
AllSpareTree q [] = Unit {0}
AllSpareTree q (step ∷ steps) = SparesTree q step × AllSpareTree q steps

-- ## What a peer sees

-- what was found of an entry
abbrev pub found_in : Option Entry → Option Object → Option Found
found_in None object = None
found_in (Some e) object = Some (record { entry = e; object = object })

-- rules 21 and 29 see damage, or the entry of the key in this map and what the peer has of it
abbrev pub LookSees : List (List ℕ) → List Entry → List ℕ → Seen → Type 0
LookSees strings m key (seens.Held entry object) = (entry ≡ lookup key m) × IsMatched strings entry object
LookSees strings m key (seens.Damaged at) = Unit {0}
LookSees strings m key seen = ⊥

-- rule 22 sees nothing, damage, or the entry of the key in this map
abbrev pub FindSees : List Entry → List ℕ → Seen → Type 0
FindSees m key seens.Nothing = Unit {0}
FindSees m key (seens.Damaged at) = Unit {0}
FindSees m key (seens.Held entry object) = entry ≡ lookup key m
FindSees m key seen = ⊥

-- an entry and an object that peer q shows of the key: what the entry says holds, it is the entry of
-- the protocol, and it names the object
pub record IsShown (g : Ghosts) (s : State) (strings : List (List ℕ)) (q : ℕ) (key : List ℕ) (entry : Option Entry) (object : Option Object) : Type 0 where
  pub entry_says : EntryMaySay s strings entry
  pub look : LookSays s q key (seens.Held entry object)
  pub found : FoundSays g key (found_in entry object)

-- what rule 21 sees, if anything
abbrev pub SeenSays : Ghosts → State → List (List ℕ) → ℕ → List ℕ → Seen → Type 0
SeenSays g s strings q key (seens.Held entry object) = IsShown g s strings q key entry object
SeenSays g s strings q key seen = Unit {0}

-- ## Replies

-- the reply of peer q to a read: what is said of it, and its entry says what holds
pub record GotSays (g : Ghosts) (s : State) (strings : List (List ℕ)) (q d r : ℕ) (key : List ℕ) (entry : Option Entry) (object : Option Object) : Type 0 where
  pub reply : GetReplySays g s q d r key (entry_rank entry) (shown entry object)
  pub entry_says : EntryMaySay s strings entry
  pub fits : EntryFits entry

-- what a reply of peer q says: that of a put says that the version was acknowledged, and a refusal
-- says nothing
abbrev pub ReplySays : Ghosts → State → List (List ℕ) → ℕ → Message → Type 0
ReplySays g s strings q (messages.GetReply ballot round key entry object) = GotSays g s strings q (epoch_number ballot) round key entry object
ReplySays g s strings q (messages.CheckReply ballot round) = CheckReplySays g s q (epoch_number ballot) round
ReplySays g s strings q (messages.PutReply ballot key version) = s.objects.acked (rank version) q ≡ true
ReplySays g s strings q (messages.Nack ballot cause) = Unit {0}
ReplySays g s strings q other = ⊥

abbrev pub MayReply : Ghosts → State → List (List ℕ) → ℕ → Option Message → Type 0
MayReply g s strings q None = Unit {0}
MayReply g s strings q (Some message) = ReplySays g s strings q message

-- a row that takes no step of the protocol, but that the peer may cease to trust its tree: nothing is
-- saved or written, and the reply says what holds
pub record Replies (g : Ghosts) (s : State) (strings : List (List ℕ)) (q : ℕ) (out : PhaseOut) : Type 0 where
  pub says : MayReply g s strings q out.message
  pub unsaved : out.save ≡ None
  pub next : (out.then ≡ Stay) ⊎ (out.then ≡ Untrust)

-- ## Puts

-- the tree of peer q has the version of the put already: the peer acknowledges it
pub record HasVersion (g : Ghosts) (s : State) (strings : List (List ℕ)) (q from : ℕ) (ballot : Epoch) (o : Object) (out : PhaseOut) : Type 0 where
  pub is : out ≡ acknowledges from ballot o Stay
  pub may : MayAll s (Acknowledge q (rank o.version) ∷ [])
  pub says : MayReply g (after s (Acknowledge q (rank o.version) ∷ [])) strings q out.message

-- the version goes into the tree of peer q, which showed a lower one or none, and then the peer
-- acknowledges it: with the entry of the put in the tree, and its string hashed, the map is that of
-- the protocol after the write. If the path of its key is damaged, the peer reports that instead
pub record TakesVersion (g : Ghosts) (s : State) (strings : List (List ℕ)) (q : ℕ) (m : List Entry) (from : ℕ) (ballot : Epoch) (o : Object) (out : PhaseOut) : Type 0 where
  pub is : out ≡ acknowledges from ballot o Put
  pub may : MayAll s (Write q (rank o.version) ∷ Acknowledge q (rank o.version) ∷ [])
  pub shows : (more : List (List ℕ)) (digest : List ℕ) → AreAmong strings more → object_spelling o ∈ more → digest ≡ md5 (object_spelling o) → MapSays (happens s (Write q (rank o.version))) more q (put (entry_of o digest) m)
  pub says : MayReply g (after s (Write q (rank o.version) ∷ Acknowledge q (rank o.version) ∷ [])) strings q out.message
  pub damaged : (at : Position) → Replies g s strings q (tells_damage from (messages.Nack ballot (causes.Damaged at)))

-- the three ends of a put: nothing is acknowledged, or the version is there, or it goes in
abbrev pub IsReplyToPut : Ghosts → State → List (List ℕ) → ℕ → List Entry → ℕ → Epoch → Object → PhaseOut → Type 0
IsReplyToPut g s strings q m from ballot o out = Replies g s strings q out ⊎ (HasVersion g s strings q from ballot o out ⊎ TakesVersion g s strings q m from ballot o out)
