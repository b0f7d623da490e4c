-- Each row keeps ages below their limits.
use Rattle.std.proofs.Common.{◌≡◌, ◌<◌, ◌-◌, ◌^◌, lit<, ℕ, Bool, true, false, not, ◌&&◌, ◌||◌, ◌==◌, List, refl, subst}
use Rattle.ens_base.specs.PeerSet.{holds}
use Rattle.ens_base.specs.declared.epoch.Epoch.{Epoch}
use Rattle.phase_rules.specs.Preparing.{row_12, row_13, starts, first_fact}
use Rattle.phase_rules.specs.Starting.{row_14, row_17}
use Rattle.phase_rules.specs.declared.election.Election.{Election}
use Rattle.phase_rules.specs.declared.election.Election.TheVariants.{Preparing, Starting}
use Rattle.phase_rules.specs.Announcements.{row_16}
use Rattle.quorums.specs.Quorums.{is_quorum, is_member}
use Rattle.stored_formats.specs.Facts.{views_after}
use Rattle.stored_formats.specs.declared.fact.Change.{Change}
use Rattle.stored_formats.specs.declared.fact.Change.TheVariants.{Add}
use Rattle.stored_formats.specs.declared.fact.Fact.{Fact}
use Rattle.phase_rows.specs.Orders.{is_same, is_newer, may_accept}
use Rattle.phase_rules.specs.Probing.{row_8}
use Rattle.phase_rules.specs.declared.probing.Probing.{Probing}
use Rattle.step_plans.specs.Plans.{asked}
use Rattle.phase_rules.specs.Changes.{row_24}
use Rattle.phase_rules.specs.declared.finishing.Finishing.{Finishing}
use Rattle.wire_frames.specs.declared.message.Message.{Message}
use Rattle.wire_frames.specs.declared.message.Message.TheVariants as messages
use Rattle.phase_rows.specs.declared.phase.PhaseOut.{PhaseOut}
use Rattle.phase_rows.specs.declared.phase.Then.{Then}
use Rattle.phase_rows.specs.declared.phase.Then.TheVariants as thens
use Rattle.phase_rows.specs.declared.rules.PhaseRule.{PhaseRule}
use Rattle.phase_rows.specs.declared.rules.PhaseRule.TheVariants as phase_rules
use Rattle.peer_state.specs.Ages.{IsYoung, IsYoungChange, IsYoungElection}
use Rattle.peer_state.specs.Moves.{stopped_leading, without_candidacy, left, turned, waiting_phase, waiting_for}
use Rattle.peer_state.specs.Rows.{runs_sync, prepared, change_heard, leads, changes, wanting, asked_change, begun_change, phase_row, received}
use Rattle.peer_state.specs.declared.state.ChangeState.{ChangeState}
use Rattle.peer_state.specs.declared.state.ChangeState.TheVariants.{Settled, Wanted, Finishing as Finishes}
use Rattle.peer_state.specs.declared.state.Leadership.{Leadership}
use Rattle.peer_state.specs.declared.state.Phase.{Phase}
use Rattle.peer_state.specs.declared.state.Phase.TheVariants as phases
use Rattle.peer_state.specs.declared.state.State.{State}
use Rattle.leader.proofs.Cases.{either}
use Rattle.peer_state.proofs.Phases.{by_probing, by_electing, by_leading}

-- the row leaves a phase with ages below their limits
abbrev pub LeavesYoung : State × PhaseOut → Type 0
LeavesYoung row = IsYoung row.0.phase

-- a change of phase keeps ages below their limits
stopped_young : (phase : Phase) → IsYoung phase → IsYoung (stopped_leading phase)
stopped_young (phases.Leading l) young = lit< tt
stopped_young (phases.Following f) young = young
stopped_young (phases.Probing p) young = young
stopped_young (phases.Electing e) young = young

pub left_young : (leave : Bool) (x : State) → IsYoung x.phase → IsYoung (left leave x).phase
left_young true x young = stopped_young x.phase young
left_young false x young = young

given_up_young : (e : Election) → IsYoungElection e → IsYoung (without_candidacy (phases.Electing e))
given_up_young (Starting new accepts age) young = lit< tt
given_up_young (Preparing base promises asked age) young = young

without_young : (phase : Phase) → IsYoung phase → IsYoung (without_candidacy phase)
without_young (phases.Leading l) young = young
without_young (phases.Following f) young = young
without_young (phases.Probing p) young = young
without_young (phases.Electing e) young = given_up_young e young

pub turned_young : (me : ℕ) (t : Then) (x : State) → IsYoung x.phase → IsYoung (turned me t x).phase
turned_young me thens.Stay x young = young
turned_young me thens.Follow x young = lit< tt
turned_young me (thens.Lead fact) x young = tt
turned_young me thens.Untrust x young = without_young (stopped_leading x.phase) (stopped_young x.phase young)
turned_young me thens.Put x young = young
turned_young me thens.Resume x young = young
turned_young me (thens.SyncOn fact) x young = young
turned_young me (thens.Rule n) x young = young
turned_young me (thens.OnKeys n) x young = young

waiting_phase_young : (phase : Phase) → IsYoung phase → IsYoung (waiting_phase phase)
waiting_phase_young (phases.Leading l) young = young
waiting_phase_young (phases.Following f) young = lit< tt
waiting_phase_young (phases.Probing p) young = lit< tt
waiting_phase_young (phases.Electing e) young = lit< tt

waiting_young : (t : Then) (x : State) → IsYoung x.phase → IsYoung (waiting_for t x).phase
waiting_young (thens.SyncOn fact) x young = waiting_phase_young x.phase young
waiting_young thens.Resume x young = waiting_phase_young x.phase young
waiting_young thens.Stay x young = young
waiting_young thens.Follow x young = young
waiting_young (thens.Lead fact) x young = young
waiting_young thens.Untrust x young = young
waiting_young thens.Put x young = young
waiting_young (thens.Rule n) x young = young
waiting_young (thens.OnKeys n) x young = young

-- the ages of the rules
row_8_age : (p : Probing) (me from : ℕ) (reply : Fact) → p.age < 6 → (row_8 p me from reply).0.age < 6
row_8_age p me from reply young = either (λ (r : Probing × PhaseOut). r.0.age < 6) (is_newer reply p.best) _ _ young young

prepared_young : (me : ℕ) (best : Fact) (count : ℕ) (x : State) → IsYoung x.phase → IsYoung (prepared me best count x).0.phase
prepared_young me best count x young = by_test (not (is_member (views_after best) me) || count == 2 ^ 64 - 1) refl
  where
    by_test : (t : Bool) → (not (is_member (views_after best) me) || count == 2 ^ 64 - 1) ≡ t → IsYoung (prepared me best count x).0.phase
    by_test true e = rw e young
    by_test false e = rw e (lit< tt, tt)

row_12_young : (e : Election) (fact : Fact) (me from : ℕ) (ballot : Epoch) (promised : Fact) → IsYoungElection e → IsYoungElection (row_12 e fact me from ballot promised).0
row_12_young (Starting new accepts age) fact me from ballot promised young = young
row_12_young (Preparing base promises asked age) fact me from ballot promised young =
    either (λ (r : Election × PhaseOut). IsYoungElection r.0) (is_same ballot fact.ballot) _ _
    (either (λ (r : Election × PhaseOut). IsYoungElection r.0) (is_newer promised base) _ _ young young) young

starts_young : (trusted : Bool) (me : ℕ) (new : Fact) → IsYoungElection (starts trusted me new).0
unfolding starts
starts_young trusted me new = either (λ (r : Election × PhaseOut). IsYoungElection r.0) (may_accept trusted me new) _ _ (tt, lit< tt) (tt, lit< tt)

row_13_young : (e : Election) (fact : Fact) (me : ℕ) (trusted : Bool) → IsYoungElection e → IsYoungElection (row_13 e fact me trusted).0
row_13_young (Starting new accepts age) fact me trusted young = young
row_13_young (Preparing base promises asked age) fact me trusted young =
    either (λ (r : Election × PhaseOut). IsYoungElection r.0) (is_quorum (holds promises) base.views) _ _
    (either (λ (r : Election × PhaseOut). IsYoungElection r.0) (is_member (views_after base) me) _ _ (starts_young trusted me (first_fact fact me (views_after base))) young) young

row_14_young : (e : Election) (me : ℕ) → IsYoungElection e → IsYoungElection (row_14 e me).0
row_14_young (Starting new accepts age) me young = young
row_14_young (Preparing base promises asked age) me young = young

row_17_young : (e : Election) (fact : Fact) (from : ℕ) (ballot : Epoch) (seq : ℕ) → IsYoungElection e → IsYoungElection (row_17 e fact from ballot seq).0
row_17_young (Preparing base promises asked age) fact from ballot seq young = young
row_17_young (Starting new accepts age) fact from ballot seq young =
    either (λ (r : Election × PhaseOut). IsYoungElection r.0) (is_same ballot fact.ballot && seq == 1) _ _ young young

heard_young : (change : ChangeState) (fact : Fact) (from : ℕ) (ballot : Epoch) (seq : ℕ) → IsYoungChange change → IsYoungChange (change_heard change fact from ballot seq)
heard_young Settled fact from ballot seq young = tt
heard_young (Wanted change) fact from ballot seq young = tt
heard_young (Finishes f) fact from ballot seq young =
    either (λ (r : Finishing × PhaseOut). r.0.age < 8) (is_same ballot fact.ballot && seq == 2) _ _ young young

begun_change_young : (change : ChangeState) (l : Leadership) (fact : Fact) (me : ℕ) → IsYoungChange l.change → IsYoungChange (begun_change change l fact me).0.change
begun_change_young Settled l fact me young = young
begun_change_young (Wanted change) l fact me young = lit< tt
begun_change_young (Finishes f) l fact me young = young

wanting_young : (change : Change) (phase : Phase) (x : State) → IsYoung x.phase → IsYoung (wanting change phase x).phase
wanting_young change (phases.Leading l) x young = tt
wanting_young change (phases.Following f) x young = young
wanting_young change (phases.Probing p) x young = young
wanting_young change (phases.Electing e) x young = young

pub asked_young : (view : List ℕ) (x : State) → IsYoung x.phase → IsYoung (asked_change view x).0.phase
asked_young view x young = either (λ (y : State). IsYoung y.phase) (row_24 x.fact (leads x.phase) (changes x.phase) view).1 _ _ (wanting_young (Add view) x.phase x young) young

pub phase_row_young : (rule : PhaseRule) (me : ℕ) (x : State) → IsYoung x.phase → LeavesYoung (phase_row rule me x)
phase_row_young phase_rules.BeginProbing me x young = lit< tt
phase_row_young phase_rules.EnoughHeard me x young = by_probing LeavesYoung x.phase (λ p is. subst IsYoung is young) young
phase_row_young phase_rules.Prepare me x young = by_probing LeavesYoung x.phase (λ p is. prepared_young me p.best p.count x young) (by_leading LeavesYoung x.phase (λ l is. prepared_young me x.fact x.fact.ballot.count x young) young)
phase_row_young phase_rules.EnoughPromised me x young = by_electing LeavesYoung x.phase (λ e is. row_13_young e x.fact me x.trusted (subst IsYoung is young)) young
phase_row_young phase_rules.EnoughAccepted me x young = by_electing LeavesYoung x.phase (λ e is. row_14_young e me (subst IsYoung is young)) young
phase_row_young phase_rules.BeginChange me x young = by_leading LeavesYoung x.phase (λ l is. begun_change_young l.change l x.fact me (subst IsYoung is young)) young
phase_row_young phase_rules.EndEpoch me x young = by_leading LeavesYoung x.phase (λ l is. young) young

pub received_young : (me from : ℕ) (message : Message) (x : State) → IsYoung x.phase → LeavesYoung (received me from message x)
received_young me from (messages.ProbeReply fact) x young = by_probing LeavesYoung x.phase (λ p is. row_8_age p me from fact (subst IsYoung is young)) young
received_young me from (messages.Promise ballot fact) x young = by_electing LeavesYoung x.phase (λ e is. row_12_young e x.fact me from ballot fact (subst IsYoung is young)) young
received_young me from (messages.Nack ballot cause) x young = by_electing LeavesYoung x.phase (λ e is. young) (by_leading LeavesYoung x.phase (λ l is. young) young)
received_young me from (messages.NewEpoch fact) x young = waiting_young (row_16 x.fact me x.trusted (runs_sync x.sync) from fact).then x young
received_young me from (messages.Accepted ballot seq) x young =
    by_electing LeavesYoung x.phase (λ e is. row_17_young e x.fact from ballot seq (subst IsYoung is young))
    (by_leading LeavesYoung x.phase (λ l is. heard_young l.change x.fact from ballot seq (subst IsYoung is young)) young)
received_young me from other x young = young
