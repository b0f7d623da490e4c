-- The messages of each row may be sent, and a leader goes on to send as the same peer.
use Rattle.std.proofs.Common.{◌≡◌, ◌≢◌, ℕ, Bool, true, false, ◌&&◌, ◌==◌, List, Option, Some, None, refl, subst}
use Rattle.leader.specs.CallTable.{has_calls}
use Rattle.ens_base.specs.View.{IsPeer}
use Rattle.peer_state.specs.PhaseRules.{row_15, row_10, Election, Preparing, Starting, row_16, Follower, may_change, row_24, row_25, Finishing}
use Rattle.quorums.specs.Quorums.{is_member}
use Rattle.leader.specs.declared.leader.Leader.{Leader}
use Rattle.stored_formats.specs.declared.fact.Change.{Change}
use Rattle.stored_formats.specs.declared.fact.Change.TheVariants.{Add}
use Rattle.stored_formats.specs.declared.fact.Fact.{Fact}
use Rattle.phase_rows.specs.Orders.{is_same}
use Rattle.phase_rows.specs.Peers.{members}
use Rattle.phase_rows.specs.Rows.{silent}
use Rattle.wire_frames.specs.declared.message.Message.{Message}
use Rattle.wire_frames.specs.declared.message.Message.TheVariants as messages
use Rattle.phase_rows.specs.declared.phase.PhaseOut.{PhaseOut}
use Rattle.phase_rows.specs.declared.phase.Then.{Then}
use Rattle.phase_rows.specs.declared.phase.Then.TheVariants as thens
use Rattle.phase_rows.specs.declared.rules.PhaseRule.{PhaseRule}
use Rattle.phase_rows.specs.declared.rules.PhaseRule.TheVariants as phase_rules
use Rattle.peer_spec.specs.Kept.{LeadsAs}
use Rattle.peer_state.specs.Moves.{stopped_leading, without_candidacy, left, turned, stood, waiting_phase, waiting_for}
use Rattle.peer_state.specs.Rows.{runs_sync, aged, aged_election, prepared, accepted_by, leads, changes, wanting, asked_change, finishing, begun_change, ended, phase_row, received}
use Rattle.peer_state.specs.declared.state.ChangeState.{ChangeState}
use Rattle.peer_state.specs.declared.state.ChangeState.TheVariants.{Settled, Wanted, Finishing as Finishes}
use Rattle.peer_state.specs.declared.state.Leadership.{Leadership}
use Rattle.peer_state.specs.declared.state.Phase.{Phase}
use Rattle.peer_state.specs.declared.state.Phase.TheVariants as phases
use Rattle.peer_state.specs.declared.state.State.{State}
use Rattle.leader.proofs.Cases.{either}
use Rattle.peer_spec.proofs.Grammar.{RowObeys, IsElsewhere, MayGo, none_me, alone_me, others_me, row_2_obeys, row_4_obeys, row_8_obeys, row_10_obeys, row_11_obeys, row_12_obeys, row_13_obeys, row_14_obeys, row_17_obeys, row_15_obeys, row_16_obeys, row_18_obeys, row_19_obeys, row_20_obeys, row_4_elsewhere, row_8_elsewhere, row_10_elsewhere, row_12_elsewhere, row_13_elsewhere, row_14_elsewhere, row_17_elsewhere, row_15_elsewhere, row_11_elsewhere, row_16_elsewhere, row_18_elsewhere, row_19_elsewhere, row_20_elsewhere}
use Rattle.peer_state.proofs.Phases.{by_probing, by_electing, by_leading}

-- the row leaves a leader that sends as this peer, and its message may be sent
abbrev pub IsGoing : ℕ → State × PhaseOut → Type 0
IsGoing me r = LeadsAs me r.0.phase × MayGo me r.1

begun_change_obeys : (change : ChangeState) (l : Leadership) (fact : Fact) (me : ℕ) → RowObeys (begun_change change l fact me).1
begun_change_obeys Settled l fact me = tt
begun_change_obeys (Wanted change) l fact me = tt
begun_change_obeys (Finishes f) l fact me = tt

ended_obeys : (change : ChangeState) (fact : Fact) (me : ℕ) (unanswered : Bool) → RowObeys (ended change fact me unanswered)
ended_obeys Settled fact me unanswered = tt
ended_obeys (Wanted change) fact me unanswered = tt
ended_obeys (Finishes f) fact me unanswered = tt

module _ (me : ℕ) where
  stopped_as : (phase : Phase) → LeadsAs me (stopped_leading phase)
  stopped_as (phases.Leading l) = tt
  stopped_as (phases.Following f) = tt
  stopped_as (phases.Probing p) = tt
  stopped_as (phases.Electing e) = tt

  pub left_as : (leave : Bool) (x : State) → LeadsAs me x.phase → LeadsAs me (left leave x).phase
  left_as true x own = stopped_as x.phase
  left_as false x own = own

  given_up_as : (e : Election) → LeadsAs me (without_candidacy (phases.Electing e))
  given_up_as (Starting new accepts age) = tt
  given_up_as (Preparing base promises asked age) = tt

  untrusted_as : (phase : Phase) → LeadsAs me (without_candidacy (stopped_leading phase))
  untrusted_as (phases.Leading l) = tt
  untrusted_as (phases.Following f) = tt
  untrusted_as (phases.Probing p) = tt
  untrusted_as (phases.Electing e) = given_up_as e

  pub turned_as : (t : Then) (x : State) → LeadsAs me x.phase → LeadsAs me (turned me t x).phase
  turned_as thens.Stay x own = own
  turned_as thens.Follow x own = tt
  turned_as (thens.Lead fact) x own = refl
  turned_as thens.Untrust x own = untrusted_as x.phase
  turned_as thens.Put x own = own
  turned_as thens.Resume x own = own
  turned_as (thens.SyncOn fact) x own = own
  turned_as (thens.Rule n) x own = own
  turned_as (thens.OnKeys n) x own = own

  waiting_phase_as : (phase : Phase) → LeadsAs me phase → LeadsAs me (waiting_phase phase)
  waiting_phase_as (phases.Leading l) own = own
  waiting_phase_as (phases.Following f) own = tt
  waiting_phase_as (phases.Probing p) own = tt
  waiting_phase_as (phases.Electing e) own = tt

  waiting_as : (t : Then) (x : State) → LeadsAs me x.phase → LeadsAs me (waiting_for t x).phase
  waiting_as (thens.SyncOn fact) x own = waiting_phase_as x.phase own
  waiting_as thens.Resume x own = waiting_phase_as x.phase own
  waiting_as thens.Stay x own = own
  waiting_as thens.Follow x own = own
  waiting_as (thens.Lead fact) x own = own
  waiting_as thens.Untrust x own = own
  waiting_as thens.Put x own = own
  waiting_as (thens.Rule n) x own = own
  waiting_as (thens.OnKeys n) x own = own

  stood_as : (election : Option Election) (x : State) → LeadsAs me x.phase → LeadsAs me (stood election x).phase
  stood_as None x own = own
  stood_as (Some e) x own = tt

  finishing_as : (f : Option Finishing) (l : Leadership) → l.leader.me ≡ me → (finishing f l).leader.me ≡ me
  finishing_as None l own = own
  finishing_as (Some f) l own = own

  begun_change_as : (change : ChangeState) (l : Leadership) (fact : Fact) → l.leader.me ≡ me → (begun_change change l fact me).0.leader.me ≡ me
  begun_change_as (Wanted change) l fact own = finishing_as (row_25 fact me l.leader.accepts change).1 l own
  begun_change_as Settled l fact own = own
  begun_change_as (Finishes f) l fact own = own

  wanting_as : (change : Change) (phase : Phase) (x : State) → LeadsAs me phase → LeadsAs me x.phase → LeadsAs me (wanting change phase x).phase
  wanting_as change (phases.Leading l) x is own = is
  wanting_as change (phases.Following f) x is own = own
  wanting_as change (phases.Probing p) x is own = own
  wanting_as change (phases.Electing e) x is own = own

  pub asked_as : (view : List ℕ) (x : State) → LeadsAs me x.phase → LeadsAs me (asked_change view x).0.phase
  asked_as view x own = either (λ (y : State). LeadsAs me y.phase) (row_24 x.fact (leads x.phase) (changes x.phase) view).1 _ _ (wanting_as (Add view) x.phase x own own) own

  module _ (peer : IsPeer me) where
    -- nothing is sent
    quiet : MayGo me (silent thens.Stay)
    quiet = (tt, none_me me peer)

    changed_elsewhere : (change : ChangeState) (l : Leadership) (fact : Fact) → IsElsewhere me (begun_change change l fact me).1
    changed_elsewhere Settled l fact = none_me me peer
    changed_elsewhere (Wanted change) l fact = others_me me l.leader.accepts peer
    changed_elsewhere (Finishes f) l fact = none_me me peer

    ended_elsewhere : (change : ChangeState) (fact : Fact) (unanswered : Bool) → IsElsewhere me (ended change fact me unanswered)
    ended_elsewhere Settled fact unanswered = none_me me peer
    ended_elsewhere (Wanted change) fact unanswered = none_me me peer
    ended_elsewhere (Finishes f) fact unanswered = none_me me peer

    pub asked_may : (view : List ℕ) (x : State) → MayGo me (asked_change view x).1.0
    asked_may view x = either (λ (r : PhaseOut × Bool). MayGo me r.0) (may_change x.fact (leads x.phase) (changes x.phase) view) _ _ (tt, none_me me peer) (tt, none_me me peer)

    prepared_goes : (best : Fact) (count : ℕ) (x : State) → LeadsAs me x.phase → IsGoing me (prepared me best count x)
    prepared_goes best count x own = (stood_as (row_10 x.fact me best count).1 x own, (row_10_obeys x.fact me best count, row_10_elsewhere me peer x.fact best count))

    -- the row of a rule of a phase
    pub phase_row_goes : (rule : PhaseRule) (x : State) → LeadsAs me x.phase → IsGoing me (phase_row rule me x)
    phase_row_goes phase_rules.BeginProbing x own = (tt, (tt, others_me me (members x.fact.views) peer))
    phase_row_goes phase_rules.EnoughHeard x own = by_probing (IsGoing me) x.phase (λ p is. (tt, (tt, none_me me peer))) (own, quiet)
    phase_row_goes phase_rules.Prepare x own = by_probing (IsGoing me) x.phase (λ p is. prepared_goes p.best p.count x own) (by_leading (IsGoing me) x.phase (λ l is. prepared_goes x.fact x.fact.ballot.count x own) (own, quiet))
    phase_row_goes phase_rules.EnoughPromised x own = by_electing (IsGoing me) x.phase (λ e is. (tt, (row_13_obeys e x.fact me x.trusted, row_13_elsewhere me peer e x.fact x.trusted))) (own, quiet)
    phase_row_goes phase_rules.EnoughAccepted x own = by_electing (IsGoing me) x.phase (λ e is. (tt, (row_14_obeys e me, row_14_elsewhere me peer e))) (own, quiet)
    phase_row_goes phase_rules.BeginChange x own = by_leading (IsGoing me) x.phase (λ l is. (begun_change_as l.change l x.fact (subst (LeadsAs me) is own), (begun_change_obeys l.change l x.fact me, changed_elsewhere l.change l x.fact))) (own, quiet)
    phase_row_goes phase_rules.EndEpoch x own = by_leading (IsGoing me) x.phase (λ l is. (own, (ended_obeys l.change x.fact me (has_calls l.leader.table.calls), ended_elsewhere l.change x.fact (has_calls l.leader.table.calls)))) (own, quiet)

    aged_election_goes : (e : Election) (x : State) → IsGoing me (aged_election e me x)
    aged_election_goes (Preparing base promises asked age) x = (tt, (tt, none_me me peer))
    aged_election_goes (Starting new accepts age) x =
        let runs = runs_sync x.sync in (tt, (row_4_obeys (Starting new accepts age) me runs, row_4_elsewhere me peer (Starting new accepts age) runs))

    -- a tick of a peer that does not lead
    pub aged_goes : (phase : Phase) (x : State) → LeadsAs me x.phase → IsGoing me (aged phase me x)
    aged_goes (phases.Following f) x own = (tt, (row_2_obeys f x.fact me, either (λ (r : Follower × PhaseOut). IsElsewhere me r.1) (is_member x.fact.views me) _ _ (none_me me peer) (none_me me peer)))
    aged_goes (phases.Probing p) x own = (tt, (tt, none_me me peer))
    aged_goes (phases.Electing e) x own = aged_election_goes e x
    aged_goes (phases.Leading l) x own = (own, quiet)

    -- the row of a message
    pub received_goes : (from : ℕ) (message : Message) (x : State) → from ≢ me → LeadsAs me x.phase → IsGoing me (received me from message x)
    received_goes from messages.Probe x other own = (own, (tt, alone_me me from peer other))
    received_goes from (messages.ProbeReply fact) x other own = by_probing (IsGoing me) x.phase (λ p is. (tt, (row_8_obeys p me from fact, row_8_elsewhere me peer p from fact))) (own, quiet)
    received_goes from (messages.Prepare ballot) x other own = (own, (row_11_obeys x.fact from ballot, row_11_elsewhere me peer from other x.fact ballot))
    received_goes from (messages.Promise ballot fact) x other own = by_electing (IsGoing me) x.phase (λ e is. (tt, (row_12_obeys e x.fact me from ballot fact, row_12_elsewhere me peer e x.fact from ballot fact))) (own, quiet)
    received_goes from (messages.Nack ballot cause) x other own =
        let refused : IsGoing me (x, row_15 x.fact ballot cause) = (own, (row_15_obeys x.fact ballot cause, row_15_elsewhere me peer x.fact ballot cause)) in
        by_electing (IsGoing me) x.phase (λ e is. refused) (by_leading (IsGoing me) x.phase (λ l is. refused) (own, quiet))
    received_goes from (messages.NewEpoch fact) x other own =
        let runs = runs_sync x.sync in
        (waiting_as (row_16 x.fact me x.trusted runs from fact).then x own, (row_16_obeys x.fact me x.trusted runs from fact, row_16_elsewhere me peer from other x.fact x.trusted runs fact))
    received_goes from (messages.Accepted ballot seq) x other own =
        by_electing (IsGoing me) x.phase (λ e is. (tt, (row_17_obeys e x.fact from ballot seq, row_17_elsewhere me peer e x.fact from ballot seq)))
        (by_leading (IsGoing me) x.phase (λ l is. let leads = subst (LeadsAs me) is own in (either (λ (m : Leader). m.me ≡ me) (is_same ballot x.fact.ballot && seq == 1) (accepted_by from l.leader) l.leader leads leads, quiet)) (own, quiet))
    received_goes from (messages.Commit fact) x other own = (own, (row_18_obeys x.fact x.trusted from fact, row_18_elsewhere me peer from other x.fact x.trusted fact))
    received_goes from (messages.Beat ballot) x other own = (own, (row_19_obeys x.fact x.trusted from ballot, row_19_elsewhere me peer from other x.fact x.trusted ballot))
    received_goes from (messages.Check ballot round) x other own = (own, (row_20_obeys x.fact from ballot round, row_20_elsewhere me peer from other x.fact ballot round))
    received_goes from other_message x other own = (own, quiet)
