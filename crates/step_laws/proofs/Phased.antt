-- What holds of a new leader, and still holds when a peer accepts its epoch, holds of each leader that a row
-- of a phase leaves, if it held before.
use Rattle.std.proofs.Common.{◌==◌, ◌&&◌, subst, ℕ, Bool, true, false, List, Option, Some, None}
use Rattle.phase_rules.specs.Preparing.{row_10}
use Rattle.phase_rules.specs.declared.election.Election.{Election}
use Rattle.phase_rules.specs.declared.election.Election.TheVariants.{Preparing, Starting}
use Rattle.phase_rules.specs.Announcements.{row_16}
use Rattle.leader.specs.Leaders.{new_leader}
use Rattle.leader.specs.declared.leader.Leader.{Leader}
use Rattle.leader.proofs.Cases.{either}
use Rattle.stored_formats.specs.declared.fact.Change.{Change}
use Rattle.stored_formats.specs.declared.fact.Change.TheVariants.{Add}
use Rattle.stored_formats.specs.declared.fact.Fact.{Fact}
use Rattle.peer_state.specs.Moves.{stopped_leading, without_candidacy, left, turned, stood, waiting_phase, waiting_for}
use Rattle.peer_state.specs.Rows.{runs_sync, aged, aged_election, accepted_by, leads, changes, wanting, asked_change, finishing, begun_change, phase_row, received}
use Rattle.peer_state.specs.declared.state.ChangeState.{ChangeState}
use Rattle.peer_state.specs.declared.state.ChangeState.TheVariants.{Settled, Wanted, Finishing as Finishes}
use Rattle.peer_state.specs.declared.state.Leadership.{Leadership}
use Rattle.peer_state.specs.declared.state.Phase.{Phase}
use Rattle.peer_state.specs.declared.state.Phase.TheVariants as phases
use Rattle.peer_state.specs.declared.state.State.{State}
use Rattle.peer_state.proofs.Phases.{by_probing, by_electing, by_leading}
use Rattle.phase_rows.specs.Orders.{is_same}
use Rattle.phase_rows.specs.declared.phase.PhaseOut.{PhaseOut}
use Rattle.phase_rows.specs.declared.phase.Then.{Then}
use Rattle.phase_rows.specs.declared.phase.Then.TheVariants as thens
use Rattle.phase_rows.specs.declared.rules.PhaseRule.{PhaseRule}
use Rattle.phase_rows.specs.declared.rules.PhaseRule.TheVariants as phase_rules
use Rattle.phase_rules.specs.Changes.{row_24, row_25}
use Rattle.phase_rules.specs.declared.finishing.Finishing.{Finishing}
use Rattle.wire_frames.specs.declared.message.Message.{Message}
use Rattle.wire_frames.specs.declared.message.Message.TheVariants as messages
use Rattle.step_laws.specs.Resting.{IfLeading}

module _ (Q : Leader → Type 0) (new : (fact : Fact) (me : ℕ) (accepts : List Bool) → Q (new_leader fact me accepts)) (heard : (from : ℕ) (l : Leader) → Q l → Q (accepted_by from l)) where
  abbrev Holds : Phase → Type 0
  Holds phase = IfLeading Q phase

  stopped_keeps : (phase : Phase) → Holds (stopped_leading phase)
  stopped_keeps (phases.Leading l) = tt
  stopped_keeps (phases.Following f) = tt
  stopped_keeps (phases.Probing p) = tt
  stopped_keeps (phases.Electing e) = tt

  pub left_keeps : (leave : Bool) (x : State) → Holds x.phase → Holds (left leave x).phase
  left_keeps true x holds = stopped_keeps x.phase
  left_keeps false x holds = holds

  given_up_keeps : (e : Election) → Holds (without_candidacy (phases.Electing e))
  given_up_keeps (Starting new accepts age) = tt
  given_up_keeps (Preparing base promises sent age) = tt

  pub untrusted_keeps : (phase : Phase) → Holds (without_candidacy (stopped_leading phase))
  untrusted_keeps (phases.Leading l) = tt
  untrusted_keeps (phases.Following f) = tt
  untrusted_keeps (phases.Probing p) = tt
  untrusted_keeps (phases.Electing e) = given_up_keeps e

  pub turned_keeps : (me : ℕ) (t : Then) (x : State) → Holds x.phase → Holds (turned me t x).phase
  turned_keeps me thens.Stay x holds = holds
  turned_keeps me thens.Follow x holds = tt
  turned_keeps me (thens.Lead fact) x holds = new _ _ _
  turned_keeps me thens.Untrust x holds = untrusted_keeps x.phase
  turned_keeps me thens.Put x holds = holds
  turned_keeps me thens.Resume x holds = holds
  turned_keeps me (thens.SyncOn fact) x holds = holds
  turned_keeps me (thens.Rule n) x holds = holds
  turned_keeps me (thens.OnKeys n) x holds = holds

  waiting_phase_keeps : (phase : Phase) → Holds phase → Holds (waiting_phase phase)
  waiting_phase_keeps (phases.Leading l) holds = holds
  waiting_phase_keeps (phases.Following f) holds = tt
  waiting_phase_keeps (phases.Probing p) holds = tt
  waiting_phase_keeps (phases.Electing e) holds = tt

  waiting_keeps : (t : Then) (x : State) → Holds x.phase → Holds (waiting_for t x).phase
  waiting_keeps (thens.SyncOn fact) x holds = waiting_phase_keeps x.phase holds
  waiting_keeps thens.Resume x holds = waiting_phase_keeps x.phase holds
  waiting_keeps thens.Stay x holds = holds
  waiting_keeps thens.Follow x holds = holds
  waiting_keeps (thens.Lead fact) x holds = holds
  waiting_keeps thens.Untrust x holds = holds
  waiting_keeps thens.Put x holds = holds
  waiting_keeps (thens.Rule n) x holds = holds
  waiting_keeps (thens.OnKeys n) x holds = holds

  -- it holds after the row
  abbrev Kept : State × PhaseOut → Type 0
  Kept r = Holds r.0.phase

  stood_keeps : (election : Option Election) (x : State) → Holds x.phase → Holds (stood election x).phase
  stood_keeps None x holds = holds
  stood_keeps (Some e) x holds = tt

  finishing_keeps : (f : Option Finishing) (l : Leadership) → Q l.leader → Q (finishing f l).leader
  finishing_keeps None l holds = holds
  finishing_keeps (Some f) l holds = holds

  begun_change_keeps : (change : ChangeState) (l : Leadership) (fact : Fact) (me : ℕ) → Q l.leader → Q (begun_change change l fact me).0.leader
  begun_change_keeps (Wanted change) l fact me holds = finishing_keeps (row_25 fact me l.leader.accepts change).1 l holds
  begun_change_keeps Settled l fact me holds = holds
  begun_change_keeps (Finishes f) l fact me holds = holds

  pub phase_row_keeps : (rule : PhaseRule) (me : ℕ) (x : State) → Holds x.phase → Holds (phase_row rule me x).0.phase
  phase_row_keeps phase_rules.BeginProbing me x holds = tt
  phase_row_keeps phase_rules.EnoughHeard me x holds = by_probing Kept x.phase (λ p is. tt) holds
  phase_row_keeps phase_rules.Prepare me x holds = by_probing Kept x.phase (λ p is. stood_keeps (row_10 x.fact me p.best p.count).1 x holds) (by_leading Kept x.phase (λ l is. stood_keeps (row_10 x.fact me x.fact x.fact.ballot.count).1 x holds) holds)
  phase_row_keeps phase_rules.EnoughPromised me x holds = by_electing Kept x.phase (λ e is. tt) holds
  phase_row_keeps phase_rules.EnoughAccepted me x holds = by_electing Kept x.phase (λ e is. tt) holds
  phase_row_keeps phase_rules.BeginChange me x holds = by_leading Kept x.phase (λ l is. begun_change_keeps l.change l x.fact me (subst Holds is holds)) holds
  phase_row_keeps phase_rules.EndEpoch me x holds = by_leading Kept x.phase (λ l is. holds) holds

  pub received_keeps : (me from : ℕ) (message : Message) (x : State) → Holds x.phase → Holds (received me from message x).0.phase
  received_keeps me from messages.Probe x holds = holds
  received_keeps me from (messages.ProbeReply fact) x holds = by_probing Kept x.phase (λ p is. tt) holds
  received_keeps me from (messages.Prepare ballot) x holds = holds
  received_keeps me from (messages.Promise ballot fact) x holds = by_electing Kept x.phase (λ e is. tt) holds
  received_keeps me from (messages.Nack ballot cause) x holds = by_electing Kept x.phase (λ e is. holds) (by_leading Kept x.phase (λ l is. holds) holds)
  received_keeps me from (messages.NewEpoch fact) x holds = waiting_keeps (row_16 x.fact me x.trusted (runs_sync x.sync) from fact).then x holds
  received_keeps me from (messages.Accepted ballot seq) x holds =
      by_electing Kept x.phase (λ e is. tt)
      (by_leading Kept x.phase (λ l is. let led : Q l.leader = subst Holds is holds in either Q (is_same ballot x.fact.ballot && seq == 1) (accepted_by from l.leader) l.leader (heard from l.leader led) led) holds)
  received_keeps me from (messages.Commit fact) x holds = holds
  received_keeps me from (messages.Beat ballot) x holds = holds
  received_keeps me from (messages.Check ballot round) x holds = holds
  received_keeps me from other x holds = holds

  aged_election_keeps : (e : Election) (me : ℕ) (x : State) → Holds (aged_election e me x).0.phase
  aged_election_keeps (Preparing base promises sent age) me x = tt
  aged_election_keeps (Starting new accepts age) me x = tt

  pub aged_keeps : (phase : Phase) (me : ℕ) (x : State) → Holds x.phase → Holds (aged phase me x).0.phase
  aged_keeps (phases.Following f) me x holds = tt
  aged_keeps (phases.Probing p) me x holds = tt
  aged_keeps (phases.Electing e) me x holds = aged_election_keeps e me x
  aged_keeps (phases.Leading l) me x holds = holds

  wanting_keeps : (change : Change) (phase : Phase) (x : State) → Holds phase → Holds x.phase → Holds (wanting change phase x).phase
  wanting_keeps change (phases.Leading l) x led holds = led
  wanting_keeps change (phases.Following f) x led holds = holds
  wanting_keeps change (phases.Probing p) x led holds = holds
  wanting_keeps change (phases.Electing e) x led holds = holds

  pub asked_keeps : (view : List ℕ) (x : State) → Holds x.phase → Holds (asked_change view x).0.phase
  asked_keeps view x holds = either (λ (y : State). Holds y.phase) (row_24 x.fact (leads x.phase) (changes x.phase) view).1 _ _ (wanting_keeps (Add view) x.phase x holds holds) holds
