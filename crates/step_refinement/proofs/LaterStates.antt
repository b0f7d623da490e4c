-- What is said in messages stays so in later states; and what holds of a peer stays so
-- while other peers take steps, and by the steps at which an event begins and calls are answered.
use Rattle.std.proofs.Common.{◌≡◌, ℕ, Bool, true, List, Option, None, Some, subst}
use Rattle.std.specs.Prelude.{All}
use Rattle.std.proofs.lemmas.List.Elements.{All-weaker}
use Rattle.ens_base.specs.declared.entry.Entry.{Entry}
use Rattle.protocol_laws.specs.Numbers.{epoch_number}
use Rattle.protocol_laws.specs.Protocol.{State}
use Rattle.protocol_laws.specs.Stays.{EntriesStay}
use Rattle.election_refinement.specs.Refinement.{PhaseHolds}
use Rattle.leader_refinement.proofs.Steps.{fits_stay}
use Rattle.leader_refinement.specs.Follows.{Hash}
use Rattle.leader_refinement.specs.Seen.{rank}
use Rattle.leader_output.specs.declared.out.Outgoing.{Outgoing}
use Rattle.peer_state.specs.declared.state.Phase.{Phase}
use Rattle.peer_state.specs.declared.state.Phase.TheVariants as phases
use Rattle.stored_formats.specs.declared.fact.Fact.{Fact}
use Rattle.peer_refinement.specs.Naming.{EntryMaySay}
use Rattle.tree_sync.specs.Running.{Running}
use Rattle.role_laws.specs.Facts.{Lines}
use Rattle.peer_refinement.proofs.SyncStaying.{stays, version_stays, entry_stays}
use Rattle.wire_frames.specs.declared.message.Message.{Message}
use Rattle.wire_frames.specs.declared.message.Message.TheVariants as messages
use Rattle.tree_node.specs.declared.version.TreeVersion.{TreeVersion}
use Rattle.step_refinement.specs.Peers.{AcksSay, PhaseFits, MessageFits, SendFits, SyncFits}

-- ## Messages

module _ (s t : State) (strings : List (List ℕ)) (stay : EntriesStay s t) where
  -- what is said of the entry that a reply may have stays so
  may_stay : (entry : Option Entry) → EntryMaySay s strings entry → EntryMaySay t strings entry
  may_stay None says = tt
  may_stay (Some e) says = entry_stays s t strings stay e says

  -- a message holds what it held
  pub message_stays : (version : TreeVersion) (lines : Lines) (q : ℕ) (message : Message) → MessageFits version lines s strings q message → MessageFits version lines t strings q message
  message_stays version lines q (messages.GetReply ballot round key entry object) fits = (may_stay entry fits.0, fits.1)
  message_stays version lines q (messages.TreeGive ballot at after trusted body) fits = (stays lines s t stay).gives version strings q ballot (record { position = at; after = after }) trusted body fits
  message_stays version lines q message fits = fits

  -- so do messages that are to be sent
  pub sends_stay : (version : TreeVersion) (lines : Lines) (q : ℕ) (sends : List Outgoing) → All (SendFits version lines s strings q) sends → All (SendFits version lines t strings q) sends
  sends_stay version lines q sends fit = All-weaker (SendFits version lines s strings q) (SendFits version lines t strings q) (λ o fits. message_stays version lines q o.message fits) sends fit

-- ## Peers

-- a running sync says what it said
pub sync_stays : (version : TreeVersion) (lines : Lines) (s t : State) (strings : List (List ℕ)) (p : ℕ) (fact : Fact) (trusted : Bool) (m : List Entry) (root : Option (List ℕ)) (sync : Option Running) → EntriesStay s t → s.objects.ledger.ballot p ≡ epoch_number fact.ballot
    → SyncFits version lines s strings p fact trusted m root sync → SyncFits version lines t strings p fact trusted m root sync
sync_stays version lines s t strings p fact trusted m root None stay stands says = tt
sync_stays version lines s t strings p fact trusted m root (Some r) stay stands says = ((stays lines s t stay).syncs version strings p fact trusted m r stands says.0, says.1)

-- what fits of a leader stays so
pub phase_stays : (hash : Hash) (s t : State) (q : ℕ) (fact : Fact) (phase : Phase) → EntriesStay s t → ((d : ℕ) → s.objects.ledger.elected d ≡ true → t.objects.ledger.views d ≡ s.objects.ledger.views d) → PhaseHolds s.objects.ledger q fact phase
    → PhaseFits hash s phase → PhaseFits hash t phase
phase_stays hash s t q fact (phases.Leading l) stays views holds fits = fits_stay hash s t l.leader stays (views (epoch_number l.leader.fact.epoch) holds.started.first.known.elected) fits
phase_stays hash s t q fact phase stays views holds fits = fits

-- ## The whole state

-- acknowledged versions say what they said
pub acks_stay : (s t : State) (strings : List (List ℕ)) → t.objects.acked ≡ s.objects.acked → EntriesStay s t → AcksSay s strings → AcksSay t strings
acks_stay s t strings same stay acks v q is acked = version_stays s t strings stay v (acks v q is (subst (λ (f : ℕ → ℕ → Bool). f (rank v) q ≡ true) same acked))
