-- The rows of the phases keep the saved fact and its seal, and bring no calls.
use Rattle.std.proofs.Common.{◌≡◌, sym, refl, subst, ℕ, Bool, true, false, ◌==◌, ◌&&◌, List, [], Option, Some, None}
use Rattle.std.proofs.lemmas.List.Elements.{All-append}
use Rattle.phase_rules.specs.Preparing.{row_10}
use Rattle.phase_rules.specs.declared.election.Election.{Election}
use Rattle.phase_rules.specs.declared.election.Election.TheVariants.{Preparing, Starting}
use Rattle.ens_base.specs.declared.epoch.Epoch.{Epoch}
use Rattle.phase_rules.specs.Announcements.{row_16}
use Rattle.leader_output.specs.declared.out.AnswerOut.{AnswerOut}
use Rattle.leader.specs.declared.leader.Leader.{Leader}
use Rattle.leader.proofs.Cases.{either}
use Rattle.stored_formats.specs.declared.fact.Change.{Change}
use Rattle.stored_formats.specs.declared.fact.Change.TheVariants.{Add}
use Rattle.stored_formats.specs.declared.fact.Fact.{Fact}
use Rattle.peer_state.specs.Moves.{stopped_leading, without_candidacy, left, left_answers, timeouts, turned, sought, stood, waiting_phase, waiting_for, saved_by}
use Rattle.peer_state.specs.Rows.{aged_election, aged, accepted_by, leader_heard, leads, changes, wanting, asked_change, finishing, begun_change, phase_row, received, runs_sync}
use Rattle.peer_state.specs.declared.state.ChangeState.{ChangeState}
use Rattle.peer_state.specs.declared.state.ChangeState.TheVariants.{Settled, Wanted, Finishing as Finishes}
use Rattle.peer_state.specs.declared.state.Leadership.{Leadership}
use Rattle.peer_state.specs.declared.state.Phase.{Phase}
use Rattle.peer_state.specs.declared.state.Phase.TheVariants as phases
use Rattle.peer_state.specs.declared.state.State.{State}
use Rattle.peer_state.proofs.Phases.{by_probing, by_electing, by_leading}
use Rattle.phase_rows.specs.Orders.{is_same}
use Rattle.phase_rows.specs.declared.phase.PhaseOut.{PhaseOut}
use Rattle.phase_rows.specs.declared.phase.Then.{Then}
use Rattle.phase_rows.specs.declared.phase.Then.TheVariants as thens
use Rattle.phase_rows.specs.declared.rules.PhaseRule.{PhaseRule}
use Rattle.phase_rows.specs.declared.rules.PhaseRule.TheVariants as phase_rules
use Rattle.phase_rules.specs.Probing.{row_7}
use Rattle.phase_rules.specs.declared.probing.Probing.{Probing}
use Rattle.step_plans.specs.Plans.{Out}
use Rattle.phase_rules.specs.Changes.{row_24, row_25}
use Rattle.phase_rules.specs.declared.finishing.Finishing.{Finishing}
use Rattle.wire_frames.specs.declared.message.Message.{Message}
use Rattle.wire_frames.specs.declared.message.Message.TheVariants as messages
use Rattle.peer_turns.specs.Ends.{AllFrom, AllTo, calls_in}
use Rattle.peer_turns.proofs.Served.{no_calls, no_answers, left_to}

module _ (test : ℕ → Bool) (me : ℕ) where
  -- the fact and the seal stay, and the callers of all calls pass the test if they did
  abbrev pub Stays : State → State → Type 0
  Stays x y = (saved_by y ≡ saved_by x) × (AllFrom test (calls_in x.phase) → AllFrom test (calls_in y.phase))

  same : (x : State) → Stays x x
  same x = (refl, λ all. all)

  none : AllFrom test []
  none = no_calls test

  stopped_none : (phase : Phase) → AllFrom test (calls_in (stopped_leading phase))
  stopped_none (phases.Leading l) = none
  stopped_none (phases.Following f) = none
  stopped_none (phases.Probing p) = none
  stopped_none (phases.Electing e) = none

  pub left_stays : (leave : Bool) (x : State) → Stays x (left leave x)
  left_stays true x = (refl, λ all. stopped_none x.phase)
  left_stays false x = same x

  timeouts_to : (phase : Phase) → AllFrom test (calls_in phase) → AllTo test (timeouts phase)
  timeouts_to (phases.Leading l) all = left_to test l.leader.table.calls all
  timeouts_to (phases.Following f) all = no_answers test
  timeouts_to (phases.Probing p) all = no_answers test
  timeouts_to (phases.Electing e) all = no_answers test

  pub left_answers_to : (leave : Bool) (x : State) (out : Out) → AllFrom test (calls_in x.phase) → AllTo test out.answers → AllTo test (left_answers leave x out).answers
  left_answers_to true x out all answered = All-append (λ (a : AnswerOut). test a.caller ≡ true) out.answers (timeouts x.phase) answered (timeouts_to x.phase all)
  left_answers_to false x out all answered = answered

  given_up_none : (e : Election) → AllFrom test (calls_in (without_candidacy (phases.Electing e)))
  given_up_none (Starting new accepts age) = none
  given_up_none (Preparing base promises asked age) = none

  untrusted_none : (phase : Phase) → AllFrom test (calls_in (without_candidacy (stopped_leading phase)))
  untrusted_none (phases.Leading l) = none
  untrusted_none (phases.Following f) = none
  untrusted_none (phases.Probing p) = none
  untrusted_none (phases.Electing e) = given_up_none e

  pub turned_stays : (t : Then) (x : State) → Stays x (turned me t x)
  turned_stays thens.Stay x = same x
  turned_stays thens.Follow x = (refl, λ all. none)
  turned_stays (thens.Lead fact) x = (refl, λ all. none)
  turned_stays thens.Untrust x = (refl, λ all. untrusted_none x.phase)
  turned_stays thens.Put x = same x
  turned_stays thens.Resume x = same x
  turned_stays (thens.SyncOn fact) x = same x
  turned_stays (thens.Rule n) x = same x
  turned_stays (thens.OnKeys n) x = same x

  sought_stays : (p : Option Probing) (x : State) → Stays x (sought p x)
  sought_stays None x = same x
  sought_stays (Some p) x = (refl, λ all. none)

  stood_stays : (e : Option Election) (x : State) → Stays x (stood e x)
  stood_stays None x = same x
  stood_stays (Some e) x = (refl, λ all. none)

  waiting_calls : (phase : Phase) → AllFrom test (calls_in phase) → AllFrom test (calls_in (waiting_phase phase))
  waiting_calls (phases.Leading l) all = all
  waiting_calls (phases.Following f) all = none
  waiting_calls (phases.Probing p) all = none
  waiting_calls (phases.Electing e) all = none

  waiting_stays : (t : Then) (x : State) → Stays x (waiting_for t x)
  waiting_stays (thens.SyncOn fact) x = (refl, waiting_calls x.phase)
  waiting_stays thens.Resume x = (refl, waiting_calls x.phase)
  waiting_stays thens.Stay x = same x
  waiting_stays thens.Follow x = same x
  waiting_stays (thens.Lead fact) x = same x
  waiting_stays thens.Untrust x = same x
  waiting_stays thens.Put x = same x
  waiting_stays (thens.Rule n) x = same x
  waiting_stays (thens.OnKeys n) x = same x

  -- the calls of a leader
  abbrev Calls : Leadership → Type 0
  Calls l = AllFrom test l.leader.table.calls

  finishing_calls : (f : Option Finishing) (l : Leadership) → Calls l → Calls (finishing f l)
  finishing_calls None l all = all
  finishing_calls (Some f) l all = all

  begun_calls : (change : ChangeState) (l : Leadership) (fact : Fact) → Calls l → Calls (begun_change change l fact me).0
  begun_calls (Wanted change) l fact all = finishing_calls (row_25 fact me l.leader.accepts change).1 l all
  begun_calls Settled l fact all = all
  begun_calls (Finishes f) l fact all = all

  wanting_stays : (change : Change) (phase : Phase) (x : State) → phase ≡ x.phase → Stays x (wanting change phase x)
  wanting_stays change (phases.Leading l) x is = (refl, λ all. subst (λ (ph : Phase). AllFrom test (calls_in ph)) (sym is) all)
  wanting_stays change (phases.Following f) x is = same x
  wanting_stays change (phases.Probing p) x is = same x
  wanting_stays change (phases.Electing e) x is = same x

  pub asked_stays : (view : List ℕ) (x : State) → Stays x (asked_change view x).0
  asked_stays view x = either (Stays x) (row_24 x.fact (leads x.phase) (changes x.phase) view).1 _ _ (wanting_stays (Add view) x.phase x refl) (same x)

  -- the state of a row
  abbrev RowStays : State → State × PhaseOut → Type 0
  RowStays x row = Stays x row.0

  -- the calls of a leader, in its phase
  led_calls : (x : State) (l : Leadership) → x.phase ≡ phases.Leading l → AllFrom test (calls_in x.phase) → Calls l
  led_calls x l is all = subst (λ (ph : Phase). AllFrom test (calls_in ph)) is all

  pub phase_row_stays : (rule : PhaseRule) (x : State) → Stays x (phase_row rule me x).0
  phase_row_stays phase_rules.BeginProbing x = sought_stays (row_7 x.fact me).1 x
  phase_row_stays phase_rules.EnoughHeard x = by_probing (RowStays x) x.phase (λ p is. (refl, λ all. none)) (same x)
  phase_row_stays phase_rules.Prepare x = by_probing (RowStays x) x.phase (λ p is. stood_stays (row_10 x.fact me p.best p.count).1 x) (by_leading (RowStays x) x.phase (λ l is. stood_stays (row_10 x.fact me x.fact x.fact.ballot.count).1 x) (same x))
  phase_row_stays phase_rules.EnoughPromised x = by_electing (RowStays x) x.phase (λ e is. (refl, λ all. none)) (same x)
  phase_row_stays phase_rules.EnoughAccepted x = by_electing (RowStays x) x.phase (λ e is. (refl, λ all. none)) (same x)
  phase_row_stays phase_rules.BeginChange x = by_leading (RowStays x) x.phase (λ l is. (refl, λ all. begun_calls l.change l x.fact (led_calls x l is all))) (same x)
  phase_row_stays phase_rules.EndEpoch x = by_leading (RowStays x) x.phase (λ l is. same x) (same x)

  aged_election_stays : (e : Election) (x : State) → Stays x (aged_election e me x).0
  aged_election_stays (Preparing base promises asked age) x = (refl, λ all. none)
  aged_election_stays (Starting new accepts age) x = (refl, λ all. none)

  pub aged_stays : (phase : Phase) (x : State) → Stays x (aged phase me x).0
  aged_stays (phases.Following f) x = (refl, λ all. none)
  aged_stays (phases.Probing p) x = (refl, λ all. none)
  aged_stays (phases.Electing e) x = aged_election_stays e x
  aged_stays (phases.Leading l) x = same x

  heard_calls : (from : ℕ) (ballot : Epoch) (seq : ℕ) (fact : Fact) (l : Leadership) → Calls l → Calls (leader_heard l fact from ballot seq)
  heard_calls from ballot seq fact l all = either (λ (m : Leader). AllFrom test m.table.calls) (is_same ballot fact.ballot && seq == 1) (accepted_by from l.leader) l.leader all all

  pub received_stays : (from : ℕ) (message : Message) (x : State) → Stays x (received me from message x).0
  received_stays from messages.Probe x = same x
  received_stays from (messages.ProbeReply fact) x = by_probing (RowStays x) x.phase (λ p is. (refl, λ all. none)) (same x)
  received_stays from (messages.Prepare ballot) x = same x
  received_stays from (messages.Promise ballot fact) x = by_electing (RowStays x) x.phase (λ e is. (refl, λ all. none)) (same x)
  received_stays from (messages.Nack ballot cause) x = by_electing (RowStays x) x.phase (λ e is. same x) (by_leading (RowStays x) x.phase (λ l is. same x) (same x))
  received_stays from (messages.NewEpoch fact) x = waiting_stays (row_16 x.fact me x.trusted (runs_sync x.sync) from fact).then x
  received_stays from (messages.Accepted ballot seq) x =
      by_electing (RowStays x) x.phase (λ e is. (refl, λ all. none)) (by_leading (RowStays x) x.phase (λ l is. (refl, λ all. heard_calls from ballot seq x.fact l (led_calls x l is all))) (same x))
  received_stays from (messages.Commit fact) x = same x
  received_stays from (messages.Beat ballot) x = same x
  received_stays from (messages.Check ballot round) x = same x
  received_stays from other x = same x
