-- How many calls each row leaves unanswered.
use Rattle.std.specs.Prelude.{filter}
use Rattle.std.proofs.Common.{◌≡◌, ◌≤◌, ◌==◌, ◌&&◌, ◌||◌, lit≤, refl, sym, subst, cond, not, nat_le, arith, length, map, ℕ, suc, Bool, true, false, if◌then◌else◌, List, [], ◌∷◌, ◌++◌, Option, Some, None, le_refl}
use Rattle.ens_base.specs.Lists.{same_bytes}
use Rattle.ens_base.specs.declared.command.Command.{Command}
use Rattle.ens_base.specs.declared.entry.Entry.{Entry}
use Rattle.ens_base.specs.declared.epoch.Epoch.{Epoch}
use Rattle.ens_base.specs.declared.epoch.Version.{Version}
use Rattle.stored_formats.specs.declared.object.Object.{Object}
use Rattle.call_table.specs.Calls.{without_running, older, is_due, waiting_on}
use Rattle.call_table.specs.Tables.{late_put}
use Rattle.call_table.specs.declared.table.CallTable.{CallTable}
use Rattle.call_table.specs.declared.waiting.Waiting.{Waiting}
use Rattle.phase_rules.specs.Preparing.{row_10}
use Rattle.phase_rules.specs.declared.election.Election.{Election}
use Rattle.phase_rules.specs.declared.election.Election.TheVariants.{Preparing, Starting}
use Rattle.phase_rules.specs.Announcements.{row_16}
use Rattle.leader_output.specs.declared.out.AnswerOut.{AnswerOut}
use Rattle.leader_output.specs.declared.out.LeadOut.{LeadOut}
use Rattle.leader.specs.Puts.{row_35_reply}
use Rattle.leader.specs.Rounds.{row_29_reply, row_33_reply}
use Rattle.leader.specs.Rules.{lead_row}
use Rattle.leader.specs.Starts.{row_27}
use Rattle.leader_laws.specs.Steps.{Serves, IsTimely}
use Rattle.leader.specs.Ticks.{Finishing as Ending, is_late, aged as aged_table, row_5_calls}
use Rattle.leader.specs.declared.leader.Leader.{Leader}
use Rattle.leader.proofs.Cases.{either}
use Rattle.leader_laws.proofs.Steps.{lead_step, row_29_reply_step, row_33_reply_step, row_35_reply_step}
use Rattle.leader_laws.proofs.TimeOuts.{row_5_ticks}
use Rattle.stored_formats.specs.declared.fact.Change.{Change}
use Rattle.stored_formats.specs.declared.fact.Change.TheVariants.{Add}
use Rattle.stored_formats.specs.declared.fact.Fact.{Fact}
use Rattle.peer_state.specs.Moves.{stopped_leading, without_candidacy, left, turned, stood, waiting_phase, waiting_for}
use Rattle.peer_state.specs.Rows.{runs_sync, aged, aged_election, accepted_by, leads, changes, wanting, asked_change, finishing, begun_change, phase_row, received}
use Rattle.peer_state.specs.declared.state.ChangeState.{ChangeState}
use Rattle.peer_state.specs.declared.state.ChangeState.TheVariants.{Settled, Wanted, Finishing as Finishes}
use Rattle.peer_state.specs.declared.state.Leadership.{Leadership}
use Rattle.peer_state.specs.declared.state.Phase.{Phase}
use Rattle.peer_state.specs.declared.state.Phase.TheVariants as phases
use Rattle.peer_state.specs.declared.state.State.{State}
use Rattle.peer_state.proofs.Phases.{by_probing, by_electing, by_leading}
use Rattle.phase_rows.specs.Orders.{is_same}
use Rattle.phase_rows.specs.declared.phase.PhaseOut.{PhaseOut}
use Rattle.phase_rows.specs.declared.phase.Seen.{Seen}
use Rattle.phase_rows.specs.declared.phase.Then.{Then}
use Rattle.phase_rows.specs.declared.phase.Then.TheVariants as thens
use Rattle.phase_rows.specs.declared.rules.KeyRule.{KeyRule}
use Rattle.phase_rows.specs.declared.rules.PhaseRule.{PhaseRule}
use Rattle.phase_rows.specs.declared.rules.PhaseRule.TheVariants as phase_rules
use Rattle.register_model.specs.declared.note.Note.{Note}
use Rattle.phase_rules.specs.Changes.{row_24, row_25}
use Rattle.phase_rules.specs.declared.finishing.Finishing.{Finishing}
use Rattle.wire_frames.specs.declared.message.Message.{Message}
use Rattle.wire_frames.specs.declared.message.Message.TheVariants as messages
use Rattle.step_laws.specs.Reached.{unanswered}
use Rattle.peer_spec.proofs.Fuel.{owed_none}

-- how many calls are unanswered
abbrev pub count : Phase → ℕ
count phase = length (unanswered phase)

pub trans : (a b c : ℕ) → a ≤ b → b ≤ c → a ≤ c
trans a b c first second = omega (arith, first, second)

both : (a b : ℕ) → a ≤ b → suc a ≤ suc b
both a b less = omega (arith, less)

one_less : (a b : ℕ) → a ≤ b → a ≤ suc b
one_less a b less = omega (arith, less)

-- ## Phases

stopped_few : (phase : Phase) → count (stopped_leading phase) ≤ count phase
stopped_few (phases.Leading l) = owed_none (length l.leader.table.calls)
stopped_few (phases.Following f) = lit≤ tt
stopped_few (phases.Probing p) = lit≤ tt
stopped_few (phases.Electing e) = lit≤ tt

pub left_few : (leave : Bool) (x : State) → count (left leave x).phase ≤ count x.phase
left_few true x = stopped_few x.phase
left_few false x = le_refl (count x.phase)

given_up_few : (e : Election) → count (without_candidacy (phases.Electing e)) ≤ 0
given_up_few (Starting new accepts age) = lit≤ tt
given_up_few (Preparing base promises sent age) = lit≤ tt

untrusted_few : (phase : Phase) → count (without_candidacy (stopped_leading phase)) ≤ count phase
untrusted_few (phases.Leading l) = owed_none (length l.leader.table.calls)
untrusted_few (phases.Following f) = lit≤ tt
untrusted_few (phases.Probing p) = lit≤ tt
untrusted_few (phases.Electing e) = given_up_few e

pub turned_few : (me : ℕ) (t : Then) (x : State) → count (turned me t x).phase ≤ count x.phase
turned_few me thens.Stay x = le_refl (count x.phase)
turned_few me thens.Follow x = owed_none (count x.phase)
turned_few me (thens.Lead fact) x = owed_none (count x.phase)
turned_few me thens.Untrust x = untrusted_few x.phase
turned_few me thens.Put x = le_refl (count x.phase)
turned_few me thens.Resume x = le_refl (count x.phase)
turned_few me (thens.SyncOn fact) x = le_refl (count x.phase)
turned_few me (thens.Rule n) x = le_refl (count x.phase)
turned_few me (thens.OnKeys n) x = le_refl (count x.phase)

waiting_phase_few : (phase : Phase) → count (waiting_phase phase) ≤ count phase
waiting_phase_few (phases.Leading l) = le_refl (length l.leader.table.calls)
waiting_phase_few (phases.Following f) = lit≤ tt
waiting_phase_few (phases.Probing p) = lit≤ tt
waiting_phase_few (phases.Electing e) = lit≤ tt

waiting_few : (t : Then) (x : State) → count (waiting_for t x).phase ≤ count x.phase
waiting_few (thens.SyncOn fact) x = waiting_phase_few x.phase
waiting_few thens.Resume x = waiting_phase_few x.phase
waiting_few thens.Stay x = le_refl (count x.phase)
waiting_few thens.Follow x = le_refl (count x.phase)
waiting_few (thens.Lead fact) x = le_refl (count x.phase)
waiting_few thens.Untrust x = le_refl (count x.phase)
waiting_few thens.Put x = le_refl (count x.phase)
waiting_few (thens.Rule n) x = le_refl (count x.phase)
waiting_few (thens.OnKeys n) x = le_refl (count x.phase)

-- the row leaves no more calls than there were before
abbrev HasNoMore : State → State × PhaseOut → Type 0
HasNoMore x r = count r.0.phase ≤ count x.phase

same_few : (x : State) → count x.phase ≤ count x.phase
same_few x = le_refl (count x.phase)

stood_few : (election : Option Election) (x : State) → count (stood election x).phase ≤ count x.phase
stood_few None x = same_few x
stood_few (Some e) x = owed_none (count x.phase)

finishing_few : (f : Option Finishing) (l : Leadership) → length (finishing f l).leader.table.calls ≤ length l.leader.table.calls
finishing_few None l = le_refl (length l.leader.table.calls)
finishing_few (Some f) l = le_refl (length l.leader.table.calls)

begun_change_few : (change : ChangeState) (l : Leadership) (fact : Fact) (me : ℕ) → length (begun_change change l fact me).0.leader.table.calls ≤ length l.leader.table.calls
begun_change_few (Wanted change) l fact me = finishing_few (row_25 fact me l.leader.accepts change).1 l
begun_change_few Settled l fact me = le_refl (length l.leader.table.calls)
begun_change_few (Finishes f) l fact me = le_refl (length l.leader.table.calls)

led_less : (l : Leadership) (x : State) → x.phase ≡ phases.Leading l → length l.leader.table.calls ≤ count x.phase
led_less l x is = rw is (le_refl (length l.leader.table.calls))

pub phase_row_few : (rule : PhaseRule) (me : ℕ) (x : State) → HasNoMore x (phase_row rule me x)
phase_row_few phase_rules.BeginProbing me x = owed_none (count x.phase)
phase_row_few phase_rules.EnoughHeard me x = by_probing (HasNoMore x) x.phase (λ p is. owed_none (count x.phase)) (same_few x)
phase_row_few phase_rules.Prepare me x = by_probing (HasNoMore x) x.phase (λ p is. stood_few (row_10 x.fact me p.best p.count).1 x) (by_leading (HasNoMore x) x.phase (λ l is. stood_few (row_10 x.fact me x.fact x.fact.ballot.count).1 x) (same_few x))
phase_row_few phase_rules.EnoughPromised me x = by_electing (HasNoMore x) x.phase (λ e is. owed_none (count x.phase)) (same_few x)
phase_row_few phase_rules.EnoughAccepted me x = by_electing (HasNoMore x) x.phase (λ e is. owed_none (count x.phase)) (same_few x)
phase_row_few phase_rules.BeginChange me x = by_leading (HasNoMore x) x.phase (λ l is. let still = begun_change_few l.change l x.fact me in let leads = led_less l x is in omega (arith, leads, still)) (same_few x)
phase_row_few phase_rules.EndEpoch me x = by_leading (HasNoMore x) x.phase (λ l is. same_few x) (same_few x)

pub received_few : (me from : ℕ) (message : Message) (x : State) → HasNoMore x (received me from message x)
received_few me from messages.Probe x = same_few x
received_few me from (messages.ProbeReply fact) x = by_probing (HasNoMore x) x.phase (λ p is. owed_none (count x.phase)) (same_few x)
received_few me from (messages.Prepare ballot) x = same_few x
received_few me from (messages.Promise ballot fact) x = by_electing (HasNoMore x) x.phase (λ e is. owed_none (count x.phase)) (same_few x)
received_few me from (messages.Nack ballot cause) x = by_electing (HasNoMore x) x.phase (λ e is. same_few x) (by_leading (HasNoMore x) x.phase (λ l is. same_few x) (same_few x))
received_few me from (messages.NewEpoch fact) x = waiting_few (row_16 x.fact me x.trusted (runs_sync x.sync) from fact).then x
received_few me from (messages.Accepted ballot seq) x =
    by_electing (HasNoMore x) x.phase (λ e is. owed_none (count x.phase))
    (by_leading (HasNoMore x) x.phase (λ l is. either (λ (m : Leader). length m.table.calls ≤ count x.phase) (is_same ballot x.fact.ballot && seq == 1) (accepted_by from l.leader) l.leader (led_less l x is) (led_less l x is)) (same_few x))
received_few me from (messages.Commit fact) x = same_few x
received_few me from (messages.Beat ballot) x = same_few x
received_few me from (messages.Check ballot round) x = same_few x
received_few me from other x = same_few x

aged_election_few : (e : Election) (me : ℕ) (x : State) → HasNoMore x (aged_election e me x)
aged_election_few (Preparing base promises sent age) me x = owed_none (count x.phase)
aged_election_few (Starting new accepts age) me x = owed_none (count x.phase)

pub aged_few : (phase : Phase) (me : ℕ) (x : State) → HasNoMore x (aged phase me x)
aged_few (phases.Following f) me x = owed_none (count x.phase)
aged_few (phases.Probing p) me x = owed_none (count x.phase)
aged_few (phases.Electing e) me x = aged_election_few e me x
aged_few (phases.Leading l) me x = same_few x

wanting_few : (change : Change) (phase : Phase) (x : State) → count phase ≤ count x.phase → count (wanting change phase x).phase ≤ count x.phase
wanting_few change (phases.Leading l) x less = less
wanting_few change (phases.Following f) x less = same_few x
wanting_few change (phases.Probing p) x less = same_few x
wanting_few change (phases.Electing e) x less = same_few x

pub asked_few : (view : List ℕ) (x : State) → count (asked_change view x).0.phase ≤ count x.phase
asked_few view x = either (λ (y : State). count y.phase ≤ count x.phase) (row_24 x.fact (leads x.phase) (changes x.phase) view).1 _ _ (wanting_few (Add view) x.phase x (same_few x)) (same_few x)

-- ## A leader

without_few : (key : List ℕ) (calls : List Waiting) → length (without_running key calls) ≤ length calls
without_few key [] = le_refl 0
without_few key (v ∷ calls) = by (same_bytes v.key key) (without_few key calls)
  where
    by : (b : Bool) → length (without_running key calls) ≤ length calls → length (if b then calls else v ∷ without_running key calls) ≤ suc (length calls)
    by true less = one_less (length calls) (length calls) (le_refl (length calls))
    by false less = both (length (without_running key calls)) (length calls) less

filtered_few : (keep : Waiting → Bool) (calls : List Waiting) → length (filter keep calls) ≤ length calls
filtered_few keep [] = le_refl 0
filtered_few keep (v ∷ calls) = by (keep v) (filtered_few keep calls)
  where
    by : (b : Bool) → length (filter keep calls) ≤ length calls → length (cond b (v ∷ filter keep calls) (filter keep calls)) ≤ suc (length calls)
    by true less = both (length (filter keep calls)) (length calls) less
    by false less = one_less (length (filter keep calls)) (length calls) less

older_few : (calls : List Waiting) → length (map older calls) ≤ length calls
older_few [] = le_refl 0
older_few (v ∷ calls) = both (length (map older calls)) (length calls) (older_few calls)

pushed_few : (calls : List Waiting) (w : Waiting) → length (calls ++ w ∷ []) ≤ suc (length calls)
pushed_few [] w = le_refl 1
pushed_few (v ∷ calls) w = both (length (calls ++ w ∷ [])) (suc (length calls)) (pushed_few calls w)

-- a row of a leader leaves no more calls than there were before
abbrev pub LeavesNoMore : (Leader → Leader × LeadOut) → Type 0
LeavesNoMore row = (l : Leader) → length (row l).0.table.calls ≤ length l.table.calls

same_calls : (old new : List Waiting) → new ≡ old → length new ≤ length old
same_calls old new is = subst (λ (calls : List Waiting). length calls ≤ length old) (sym is) (le_refl (length old))

served_few : (key : List ℕ) (old new : CallTable) (answers : List AnswerOut) (notes : List Note) → Serves key old new answers notes → length new.calls ≤ length old.calls
served_few key old new [] notes serves = same_calls old.calls new.calls serves.0
served_few key old new (a ∷ []) notes serves = trans (length new.calls) (length (without_running key old.calls)) (length old.calls) (same_calls (without_running key old.calls) new.calls serves.1.calls) (without_few key old.calls)
served_few key old new (a ∷ (b ∷ more)) notes serves = absurd serves

pub key_few : (rule : KeyRule) (key : List ℕ) (seen : Seen) → LeavesNoMore (lead_row rule key seen)
key_few rule key seen l = served_few key l.table _ _ _ (lead_step rule key seen l).serves

pub got_few : (from : ℕ) (ballot : Epoch) (round : ℕ) (key : List ℕ) (entry : Option Entry) (object : Option Object) → LeavesNoMore (row_29_reply from ballot round key entry object)
got_few from ballot round key entry object l = served_few key l.table _ _ _ (row_29_reply_step from ballot round key entry object l).serves

pub checked_few : (from : ℕ) (ballot : Epoch) (round : ℕ) → LeavesNoMore (row_33_reply from ballot round)
checked_few from ballot round l = let step = row_33_reply_step from ballot round l in served_few step.0 l.table _ _ _ step.1.serves

pub put_few : (from : ℕ) (ballot : Epoch) (key : List ℕ) (version : Version) → LeavesNoMore (row_35_reply from ballot key version)
put_few from ballot key version l = served_few key l.table _ _ _ (row_35_reply_step from ballot key version l).serves

-- a call that joins is one more
pub joined_few : (from id : ℕ) (key : List ℕ) (command : Command) (ends : Bool) (l : Leader) → length (row_27 from id key command ends l).0.table.calls ≤ suc (length l.table.calls)
joined_few from id key command ends l =
    let w : Waiting = record { from = from; id = id; key = key; command = command; age = 0 } in
    let Q : Leader × LeadOut → Type 0 = λ r. length r.0.table.calls ≤ suc (length l.table.calls) in
    let still : length l.table.calls ≤ suc (length l.table.calls) = one_less (length l.table.calls) (length l.table.calls) (le_refl (length l.table.calls)) in
    either Q ends _ _ still (either Q (nat_le 16 (waiting_on key l.table.calls)) _ _ still (pushed_few l.table.calls w))

timely_few : (late : Bool) (l : Leader) (r : Leader × LeadOut) → IsTimely late l r → (late ≡ true → r.0.table.calls ≡ map older l.table.calls) → length r.0.table.calls ≤ length l.table.calls
timely_few true l r timely calls = trans (length r.0.table.calls) (length (map older l.table.calls)) (length l.table.calls) (same_calls (map older l.table.calls) r.0.table.calls (calls refl)) (older_few l.table.calls)
timely_few false l r timely calls =
    let aged : List Waiting = map older l.table.calls in
    let kept : List Waiting = filter (λ w. not (is_due w)) aged in
    trans (length r.0.table.calls) (length kept) (length l.table.calls) (same_calls kept r.0.table.calls (timely.calls refl)) (trans (length kept) (length aged) (length l.table.calls) (filtered_few (λ w. not (is_due w)) aged) (older_few l.table.calls))

-- the calls of a leader that steps down in a tick
pub late_calls : (late : Bool) (a b : Leader × LeadOut) → late ≡ true → (if late then a else b).0.table.calls ≡ a.0.table.calls
late_calls true a b is = refl
late_calls false a b is = absurd cc

-- a tick
pub ticked_few : (ends : Ending) → LeavesNoMore (row_5_calls ends)
ticked_few ends l = timely_few (late_put (aged_table l.table) || is_late ends) l (row_5_calls ends l) (row_5_ticks ends l).timely (λ is. late_calls (late_put (aged_table l.table) || is_late ends) _ _ is)
