-- Each row leaves the sync that runs, or none: a sync that runs asks other peers alone.
use Rattle.std.proofs.Common.{ℕ, Bool, true, false, List, Option, Some, None}
use Rattle.peer_state.specs.PhaseRules.{row_10, Election, Preparing, Starting, row_16, row_24}
use Rattle.stored_formats.specs.declared.fact.Change.{Change}
use Rattle.stored_formats.specs.declared.fact.Change.TheVariants.{Add}
use Rattle.wire_frames.specs.declared.message.Message.{Message}
use Rattle.wire_frames.specs.declared.message.Message.TheVariants as messages
use Rattle.phase_rows.specs.declared.phase.PhaseOut.{PhaseOut}
use Rattle.phase_rows.specs.declared.phase.Then.{Then}
use Rattle.phase_rows.specs.declared.phase.Then.TheVariants as thens
use Rattle.phase_rows.specs.declared.rules.PhaseRule.{PhaseRule}
use Rattle.phase_rows.specs.declared.rules.PhaseRule.TheVariants as phase_rules
use Rattle.peer_spec.specs.Kept.{IsOwn, SyncsAs}
use Rattle.peer_state.specs.Moves.{left, turned, stood, waiting_for}
use Rattle.peer_state.specs.Rows.{runs_sync, aged, aged_election, leads, changes, wanting, asked_change, phase_row, received}
use Rattle.peer_state.specs.declared.state.Phase.{Phase}
use Rattle.peer_state.specs.declared.state.Phase.TheVariants as phases
use Rattle.peer_state.specs.declared.state.State.{State}
use Rattle.peer_spec.proofs.Going.{left_as, turned_as}
use Rattle.leader.proofs.Cases.{either}
use Rattle.peer_state.proofs.Phases.{by_probing, by_electing, by_leading}

module _ (me : ℕ) where
  abbrev Asks : State → Type 0
  Asks x = SyncsAs me x.sync

  left_syncs : (leave : Bool) (x : State) → Asks x → Asks (left leave x)
  left_syncs true x asks = asks
  left_syncs false x asks = asks

  turned_syncs : (t : Then) (x : State) → Asks x → Asks (turned me t x)
  turned_syncs thens.Stay x asks = asks
  turned_syncs thens.Follow x asks = tt
  turned_syncs (thens.Lead fact) x asks = tt
  turned_syncs thens.Untrust x asks = tt
  turned_syncs thens.Put x asks = asks
  turned_syncs thens.Resume x asks = asks
  turned_syncs (thens.SyncOn fact) x asks = asks
  turned_syncs (thens.Rule n) x asks = asks
  turned_syncs (thens.OnKeys n) x asks = asks

  pub left_own : (leave : Bool) (x : State) → IsOwn me x → IsOwn me (left leave x)
  left_own leave x own = (left_as me leave x own.0, left_syncs leave x own.1)

  pub turned_own : (t : Then) (x : State) → IsOwn me x → IsOwn me (turned me t x)
  turned_own t x own = (turned_as me t x own.0, turned_syncs t x own.1)

  waiting_syncs : (t : Then) (x : State) → Asks x → Asks (waiting_for t x)
  waiting_syncs (thens.SyncOn fact) x asks = asks
  waiting_syncs thens.Resume x asks = asks
  waiting_syncs thens.Stay x asks = asks
  waiting_syncs thens.Follow x asks = asks
  waiting_syncs (thens.Lead fact) x asks = asks
  waiting_syncs thens.Untrust x asks = asks
  waiting_syncs thens.Put x asks = asks
  waiting_syncs (thens.Rule n) x asks = asks
  waiting_syncs (thens.OnKeys n) x asks = asks

  stood_syncs : (election : Option Election) (x : State) → Asks x → Asks (stood election x)
  stood_syncs None x asks = asks
  stood_syncs (Some e) x asks = tt

  wanting_syncs : (change : Change) (phase : Phase) (x : State) → Asks x → Asks (wanting change phase x)
  wanting_syncs change (phases.Leading l) x asks = asks
  wanting_syncs change (phases.Following f) x asks = asks
  wanting_syncs change (phases.Probing p) x asks = asks
  wanting_syncs change (phases.Electing e) x asks = asks

  pub asked_syncs : (view : List ℕ) (x : State) → Asks x → Asks (asked_change view x).0
  asked_syncs view x asks = either Asks (row_24 x.fact (leads x.phase) (changes x.phase) view).1 _ _ (wanting_syncs (Add view) x.phase x asks) asks

  -- the row leaves a sync that asks other peers alone, or none
  abbrev AsksStill : State × PhaseOut → Type 0
  AsksStill row = Asks row.0

  pub phase_row_syncs : (rule : PhaseRule) (x : State) → Asks x → Asks (phase_row rule me x).0
  phase_row_syncs phase_rules.BeginProbing x asks = tt
  phase_row_syncs phase_rules.EnoughHeard x asks = by_probing AsksStill x.phase (λ p is. asks) asks
  phase_row_syncs phase_rules.Prepare x asks = by_probing AsksStill x.phase (λ p is. stood_syncs (row_10 x.fact me p.best p.count).1 x asks) (by_leading AsksStill x.phase (λ l is. stood_syncs (row_10 x.fact me x.fact x.fact.ballot.count).1 x asks) asks)
  phase_row_syncs phase_rules.EnoughPromised x asks = by_electing AsksStill x.phase (λ e is. asks) asks
  phase_row_syncs phase_rules.EnoughAccepted x asks = by_electing AsksStill x.phase (λ e is. asks) asks
  phase_row_syncs phase_rules.BeginChange x asks = by_leading AsksStill x.phase (λ l is. asks) asks
  phase_row_syncs phase_rules.EndEpoch x asks = by_leading AsksStill x.phase (λ l is. asks) asks

  aged_election_syncs : (e : Election) (x : State) → Asks x → Asks (aged_election e me x).0
  aged_election_syncs (Preparing base promises asked age) x asks = asks
  aged_election_syncs (Starting new accepts age) x asks = asks

  pub aged_syncs : (phase : Phase) (x : State) → Asks x → Asks (aged phase me x).0
  aged_syncs (phases.Following f) x asks = asks
  aged_syncs (phases.Probing p) x asks = asks
  aged_syncs (phases.Electing e) x asks = aged_election_syncs e x asks
  aged_syncs (phases.Leading l) x asks = asks

  pub received_syncs : (from : ℕ) (message : Message) (x : State) → Asks x → Asks (received me from message x).0
  received_syncs from messages.Probe x asks = asks
  received_syncs from (messages.ProbeReply fact) x asks = by_probing AsksStill x.phase (λ p is. asks) asks
  received_syncs from (messages.Prepare ballot) x asks = asks
  received_syncs from (messages.Promise ballot fact) x asks = by_electing AsksStill x.phase (λ e is. asks) asks
  received_syncs from (messages.Nack ballot cause) x asks = by_electing AsksStill x.phase (λ e is. asks) (by_leading AsksStill x.phase (λ l is. asks) asks)
  received_syncs from (messages.NewEpoch fact) x asks = waiting_syncs (row_16 x.fact me x.trusted (runs_sync x.sync) from fact).then x asks
  received_syncs from (messages.Accepted ballot seq) x asks = by_electing AsksStill x.phase (λ e is. asks) (by_leading AsksStill x.phase (λ l is. asks) asks)
  received_syncs from (messages.Commit fact) x asks = asks
  received_syncs from (messages.Beat ballot) x asks = asks
  received_syncs from (messages.Check ballot round) x asks = asks
  received_syncs from other x asks = asks
