-- What a leader says in its messages, and what holds of the versions that its steps acknowledge.
use Rattle.std.specs.Prelude.{All}
use Rattle.std.proofs.Common.{◌≡◌, ◌⊎◌, inl, inr, ◌<◌, ℕ, true, List, Option, Some, None, arith, refl, sym, ap, subst, ◌∙◌}
use Rattle.std.proofs.lemmas.List.Elements.{All-weaker}
use Rattle.ens_base.specs.Lists.{◌∈◌}
use Rattle.ens_base.specs.View.{IsPeer}
use Rattle.ens_base.specs.declared.entry.Entry.{Entry}
use Rattle.ens_base.specs.declared.epoch.Version.{Version}
use Rattle.stored_formats.specs.Objects.{IsObject}
use Rattle.object_commands.specs.Kept.{matching}
use Rattle.protocol_laws.specs.Book.{version_of}
use Rattle.protocol_laws.specs.Ledger.{Ledger}
use Rattle.protocol_laws.specs.Numbers.{epoch_number, IsVersion}
use Rattle.protocol_laws.specs.Protocol.{State, Step, after, MayAll}
use Rattle.election_refinement.specs.Listed.{IsListedMessage}
use Rattle.election_refinement.specs.Refinement.{MessageHolds}
use Rattle.protocol_laws.proofs.Later.{stay_after}
use Rattle.role_laws.specs.Roles.{Sent, SaidHolds, Reads, Checks, Puts}
use Rattle.role_laws.specs.Tables.{Ghosts}
use Rattle.leader_refinement.proofs.Numbers.{rank_back, rank_some}
use Rattle.leader_refinement.specs.Follows.{SendSays, SentSays}
use Rattle.leader_refinement.specs.Seen.{rank, content_of, entry_rank}
use Rattle.leader_output.specs.declared.out.Outgoing.{Outgoing}
use Rattle.peer_refinement.proofs.Looks.{looks_so}
use Rattle.peer_refinement.specs.Naming.{hash_of, VersionSays, EntrySays}
use Rattle.peer_refinement.specs.Replies.{MapSays}
use Rattle.role_laws.specs.Facts.{Lines}
use Rattle.peer_refinement.proofs.SyncStaying.{version_stays}
use Rattle.synctree.specs.Entries.{lookup}
use Rattle.peer_refinement.specs.Trees.{AreFree}
use Rattle.wire_frames.specs.declared.message.Message.{Message}
use Rattle.wire_frames.specs.declared.message.Message.TheVariants as messages
use Rattle.phase_rows.specs.declared.phase.Seen.TheVariants as seens
use Rattle.tree_node.specs.declared.version.TreeVersion.{TreeVersion}
use Rattle.step_refinement.proofs.SentMessages.{SaysSo, SendSaysSo, says_one, sends_say}
use Rattle.step_refinement.specs.Peers.{AcksSay, MessageFits}
use Rattle.step_refinement.specs.Roles.{said_in_sends}

-- ## What a leader sends

-- a message of a leader for a call; the object of a put obeys the grammar
abbrev pub CallFits : Message → Type 0
CallFits (messages.Check ballot round) = Unit {0}
CallFits (messages.Get ballot round key) = Unit {0}
CallFits (messages.Put ballot o) = IsObject o
CallFits other = ⊥

-- it goes to a peer
pub record AskFits (o : Outgoing) : Type 0 where
  pub to : IsPeer o.to
  pub fits : CallFits o.message

ask_says : (g : Ghosts) (s : State) (p : ℕ) (message : Message) → SendSays g s message → SaysSo g s p message
ask_says g s p (messages.Get ballot round key) says = says_one g s p (Reads (epoch_number ballot) round key) says
ask_says g s p (messages.Check ballot round) says = says_one g s p (Checks (epoch_number ballot) round) says
ask_says g s p (messages.Put ballot o) says = says_one g s p (Puts (epoch_number ballot) o.key (rank o.version) (content_of o)) says
ask_says g s p other says = absurd says

-- what a leader says in its messages holds
pub asks_say : (g : Ghosts) (s : State) (p : ℕ) (sends : List Outgoing) → All (SentSays g s) sends → (m : Sent) → m ∈ said_in_sends p sends → SaidHolds g s m.from m.said
asks_say g s p sends say = sends_say g s p sends (All-weaker (SentSays g s) (SendSaysSo g s p) (λ o says. ask_says g s p o.message says) sends say)

-- such a message says nothing of elections
pub call_holds : (l : Ledger) (p : ℕ) (message : Message) → CallFits message → MessageHolds l p message
call_holds l p (messages.Check ballot round) fits = tt
call_holds l p (messages.Get ballot round key) fits = tt
call_holds l p (messages.Put ballot o) fits = tt
call_holds l p other fits = absurd fits

-- and it names no view
pub call_listed : (voting : List (List ℕ)) (message : Message) → CallFits message → IsListedMessage voting message
call_listed voting (messages.Check ballot round) fits = tt
call_listed voting (messages.Get ballot round key) fits = tt
call_listed voting (messages.Put ballot o) fits = tt
call_listed voting other fits = absurd fits

-- and it fits
pub call_fits : (version : TreeVersion) (lines : Lines) (s : State) (strings : List (List ℕ)) (q : ℕ) (message : Message) → CallFits message → MessageFits version lines s strings q message
call_fits version lines s strings q (messages.Check ballot round) fits = tt
call_fits version lines s strings q (messages.Get ballot round key) fits = tt
call_fits version lines s strings q (messages.Put ballot o) fits = fits
call_fits version lines s strings q other fits = absurd fits

-- ## Acknowledgements

-- the versions that are acknowledged from s to t are acknowledged by peer me, whose tree shows them
abbrev pub AcksShow : State → ℕ → State → Type 0
AcksShow s me t = (v q : ℕ) → t.objects.acked v q ≡ true → (s.objects.acked v q ≡ true) ⊎ ((q ≡ me) × (s.objects.visible me (s.objects.key v) ≡ v))

-- a version that a map shows says what holds
module _ (s : State) (g : Ghosts) (strings : List (List ℕ)) (me : ℕ) (m : List Entry) (hash : g.hash ≡ hash_of) (free : AreFree strings) (map_says : MapSays s strings me m) where
  entry_says : (key : List ℕ) (e : Entry) → Some e ≡ lookup key m → EntrySays s strings e
  entry_says key e is = (looks_so s g strings me m key (seens.Held (Some e) (matching e None)) hash free map_says (is, (None, tt, refl))).1.entry_says

  shown_says : (key : List ℕ) (v : Version) → IsVersion v → s.objects.visible me key ≡ rank v → VersionSays s strings v
  shown_says key v fits shows = by_entry (lookup key m) refl (sym (map_says.visible key) ∙ shows)
    where
      same_version : (e : Entry) → EntrySays s strings e → rank e.version ≡ rank v → e.version ≡ v
      same_version e says same = sym (rank_back e.version (says.version.object.version.epoch.proposer, says.version.object.version.seq)) ∙ ap version_of same ∙ rank_back v fits

      by_entry : (entry : Option Entry) → entry ≡ lookup key m → entry_rank entry ≡ rank v → VersionSays s strings v
      by_entry None is same = absurd (not_none (rank v) (rank_some v) same)
        where
          not_none : (n : ℕ) → 0 < n → 0 ≡ n → ⊥
          not_none n some none = omega (arith, some, none)
      by_entry (Some e) is same = let says = entry_says key e is in subst (VersionSays s strings) (same_version e says same) says.version

-- the versions that were acknowledged say what holds after steps that acknowledge only what a tree shows
pub acks_later : (s : State) (g : Ghosts) (strings : List (List ℕ)) (me : ℕ) (m : List Entry) (steps : List Step) → g.hash ≡ hash_of → AreFree strings → MapSays s strings me m → MayAll s steps → AcksShow s me (after s steps) → AcksSay s strings → AcksSay (after s steps) strings
acks_later s g strings me m steps hash free map_says may shows acks v q fits acked = version_stays s (after s steps) strings (stay_after s steps may) v (by_time (shows (rank v) q acked))
  where
    by_time : (s.objects.acked (rank v) q ≡ true) ⊎ ((q ≡ me) × (s.objects.visible me (s.objects.key (rank v)) ≡ rank v)) → VersionSays s strings v
    by_time (inl before) = acks v q fits before
    by_time (inr shown) = shown_says s g strings me m hash free map_says (s.objects.key (rank v)) v fits shown.1
