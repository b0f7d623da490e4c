-- Why no task is left at the end of a step: each task lowers the number of tasks that can still run.
use Rattle.std.specs.Option.{is_some}
use Rattle.std.proofs.Common.{◌≡◌, ◌≤◌, ◌<◌, ◌+◌, ◌*◌, ◌^◌, ◌==◌, ◌&&◌, lit<, lit≤, mul-suc, mul-zero, ap, refl, sym, arith, length, map, ℕ, zero, suc, Bool, true, false, List, [], ◌∷◌, ◌++◌, Option, Some, None, le_refl}
use Rattle.leader.specs.CallTable.{has_calls}
use Rattle.ens_base.specs.declared.entry.Entry.{Entry}
use Rattle.ens_base.specs.declared.epoch.Epoch.{Epoch}
use Rattle.stored_formats.specs.declared.object.Object.{Object}
use Rattle.peer_state.specs.PhaseRules.{row_10, row_13, row_14, Election, Preparing, Starting, row_16, is_served, row_21, row_22, row_23, row_9, row_24, row_25, Finishing}
use Rattle.object_commands.specs.Kept.{entry_of, matching}
use Rattle.stored_formats.specs.Objects.{object_spelling}
use Rattle.leader_output.specs.Outs.{asked_by}
use Rattle.leader_output.specs.declared.out.LeadOut.{LeadOut}
use Rattle.leader_output.specs.declared.out.Own.{Own}
use Rattle.leader_output.specs.declared.out.Own.TheVariants as owns
use Rattle.leader_laws.specs.Measure.{turns_of, turns_again, turns_seen, turns_next, turns_after, task_turns, weight}
use Rattle.leader.specs.Puts.{row_35_reply}
use Rattle.leader.specs.Rounds.{row_29_reply, row_33_reply}
use Rattle.leader.specs.Rules.{lead_row}
use Rattle.leader.specs.Starts.{row_27}
use Rattle.leader.specs.declared.leader.Leader.{Leader}
use Rattle.leader.specs.declared.pending.Pending.{Pending}
use Rattle.leader.specs.declared.pending.Pending.TheVariants as pendings
use Rattle.leader_laws.proofs.Joins.{row_27_joins}
use Rattle.leader_laws.proofs.Steps.{lead_step, row_29_reply_step, row_33_reply_step, row_35_reply_step, some_turns as some_key_turns}
use Rattle.leader_laws.proofs.TimeOuts.{row_5_ticks}
use Rattle.leader_laws.proofs.Moves.{room_at}
use Rattle.stored_formats.specs.declared.fact.Change.{Change}
use Rattle.stored_formats.specs.declared.fact.Change.TheVariants.{Add}
use Rattle.stored_formats.specs.declared.fact.Fact.{Fact}
use Rattle.phase_rows.specs.Orders.{is_same}
use Rattle.phase_rows.specs.Peers.{joined}
use Rattle.leader_output.specs.declared.out.Outgoing.{Outgoing}
use Rattle.peer_state.specs.TreeSync.{row_start, row_resume, row_take, Running, Give, needs_build, outcome_of, Outcome, Pending as RunsOn, Trusted}
use Rattle.peer_state.specs.TreeExchange.{Question}
use Rattle.step_plans.specs.Calls.{Find, Enter, ScanTree, Put, Hash}
use Rattle.tree_node.specs.declared.version.TreeVersion.{TreeVersion}
use Rattle.step_plans.specs.Plans.{Plan, Out, Rest, Part, asked}
use Rattle.step_plans.specs.Sends.{posted_to}
use Rattle.step_plans.specs.Tasks.{named, keyed}
use Rattle.step_plans.specs.declared.tasks.Task.{Task}
use Rattle.step_plans.specs.declared.tasks.Task.TheVariants as tasks
use Rattle.step_plans.specs.declared.walked.Walked.{Walked}
use Rattle.step_plans.specs.declared.walked.Walked.TheVariants.{Reached, Broken}
use Rattle.wire_frames.specs.declared.message.Message.{Message}
use Rattle.wire_frames.specs.declared.message.Message.TheVariants as messages
use Rattle.phase_rows.specs.declared.phase.PhaseOut.{PhaseOut}
use Rattle.phase_rows.specs.declared.phase.Seen.{Seen}
use Rattle.phase_rows.specs.declared.phase.Seen.TheVariants as seens
use Rattle.phase_rows.specs.declared.phase.Then.{Then}
use Rattle.phase_rows.specs.declared.phase.Then.TheVariants as thens
use Rattle.phase_rows.specs.declared.rules.PhaseRule.TheVariants as phase_rules
use Rattle.phase_rows.specs.declared.rules.KeyRule.{KeyRule}
use Rattle.phase_rows.specs.declared.rules.PhaseRule.{PhaseRule}
use Rattle.peer_spec.specs.Drives.{row_done, owned, own_key, followed_up, and_row, lead_done, lead, reminded, task_done, driven, led_in, after_put, put_done, got_ask, in_tree, delivered, unavailable, and_change, first, most_turns}
use Rattle.peer_spec.specs.Syncs.{saved, sealed_if, and_sends, with_sync, accepted, accepted_own, accepted_in, by_outcome, go_on, resume_sync, followed_on, needs_node, take_give, tree_give}
use Rattle.peer_spec.specs.TreeCalls.{has_position}
use Rattle.peer_state.specs.Leading.{older, end_of, row_5_calls, wished, begins}
use Rattle.peer_state.specs.Moves.{keeps_seal, stopped_leading, without_candidacy, left, left_answers, turned, turned_answers, stood, leading, with_leader, and_answers, electing, without_sync, waiting_phase, waiting_for}
use Rattle.peer_spec.specs.Owns.{looked, looked_at, held, fetched, found, stored, written, entered}
use Rattle.peer_state.specs.Rows.{runs_sync, aged, aged_election, prepared, accepted_by, leads, changes, wanting, asked_change, finishing, begun_change, ended, phase_row, received}
use Rattle.peer_spec.specs.Turns.{StepsAlone, IsFineAtNone, HasFewCalls}
use Rattle.peer_state.specs.declared.event.Event.{Event}
use Rattle.peer_state.specs.declared.event.Event.TheVariants as events
use Rattle.peer_state.specs.declared.state.ChangeState.{ChangeState}
use Rattle.peer_state.specs.declared.state.ChangeState.TheVariants.{Settled, Wanted, Finishing as Finishes}
use Rattle.peer_state.specs.declared.state.Leadership.{Leadership}
use Rattle.peer_state.specs.declared.state.Phase.{Phase}
use Rattle.peer_state.specs.declared.state.Phase.TheVariants as phases
use Rattle.peer_state.specs.declared.state.State.{State}
use Rattle.peer_spec.proofs.Aging.{if_follows, asked_asks, installed_asks, own_node_asks, shown_node_asks, kept_asks, looked_asks, found_asks, sealed_asks, resealed_asks, written_asks, confirmed_asks, noted_follows, shown_asks}
use Rattle.leader.proofs.Cases.{either}
use Rattle.peer_state.proofs.Names.{NamesOnly, NamesNone, then_9, then_10, then_13, then_14, then_changed, then_ended}
use Rattle.peer_state.proofs.Phases.{by_probing, by_electing, by_leading}

-- ## The measure

-- the most tasks that run from the rule of a phase on, itself among them
abbrev phase_turns : PhaseRule → ℕ
phase_turns phase_rules.BeginProbing = 5
phase_turns phase_rules.EnoughHeard = 4
phase_turns phase_rules.Prepare = 3
phase_turns phase_rules.EnoughPromised = 2
phase_turns phase_rules.EnoughAccepted = 1
phase_turns phase_rules.BeginChange = 1
phase_turns phase_rules.EndEpoch = 4

abbrev turns_for : Task → ℕ
turns_for (tasks.Phase n) = phase_turns n
turns_for tasks.Remind = 2
turns_for (tasks.Key n key) = turns_of n
turns_for (tasks.Again n key seen) = turns_seen n seen

abbrev turns : List Task → ℕ
turns [] = 0
turns (t ∷ ts) = turns_for t + turns ts

-- the most tasks that run for the unanswered calls of a leader
abbrev owed : Phase → ℕ
owed (phases.Leading l) = weight l.leader
owed (phases.Following f) = 0
owed (phases.Probing p) = 0
owed (phases.Electing e) = 0

plus_none : (n : ℕ) → n ≡ 0 + n
plus_none n = omega arith

turns_more : (more ts : List Task) → turns (more ++ ts) ≡ turns more + turns ts
turns_more [] ts = plus_none (turns ts)
turns_more (t ∷ more) ts = let rest = turns_more more ts in omega (arith, rest)

turns_keys : (m : KeyRule) (keys : List (List ℕ)) → turns (map (tasks.Key m) keys) ≡ turns_of m * length keys
turns_keys m [] = sym (mul-zero (turns_of m))
turns_keys m (key ∷ keys) = let rest = turns_keys m keys in let one = mul-suc (turns_of m) (length keys) in omega (arith, rest, one)

turns_keyed : (turn : Then) (keys : List (List ℕ)) → turns (keyed turn keys) ≡ turns_next None turn keys
turns_keyed (thens.OnKeys m) keys = turns_keys m keys
turns_keyed (thens.Rule m) keys = refl
turns_keyed thens.Stay keys = refl
turns_keyed thens.Follow keys = refl
turns_keyed (thens.Lead fact) keys = refl
turns_keyed thens.Untrust keys = refl
turns_keyed thens.Put keys = refl
turns_keyed thens.Resume keys = refl
turns_keyed (thens.SyncOn fact) keys = refl

-- something was seen of the stores
abbrev IsSeen : Seen → Type 0
IsSeen seens.Nothing = ⊥
IsSeen (seens.Damaged at) = Unit {0}
IsSeen (seens.Held entry object) = Unit {0}
IsSeen (seens.Kept object) = Unit {0}
IsSeen (seens.Stored digest) = Unit {0}

seen_turns : (rule : KeyRule) (seen : Seen) → IsSeen seen → turns_seen rule seen ≡ turns_again rule
seen_turns rule seens.Nothing is = absurd is
seen_turns rule (seens.Damaged at) is = refl
seen_turns rule (seens.Held entry object) is = refl
seen_turns rule (seens.Kept object) is = refl
seen_turns rule (seens.Stored digest) is = refl

phase_few : (rule : PhaseRule) → phase_turns rule + 0 < 26
phase_few phase_rules.BeginProbing = lit< tt
phase_few phase_rules.EnoughHeard = lit< tt
phase_few phase_rules.Prepare = lit< tt
phase_few phase_rules.EnoughPromised = lit< tt
phase_few phase_rules.EnoughAccepted = lit< tt
phase_few phase_rules.BeginChange = lit< tt
phase_few phase_rules.EndEpoch = lit< tt

phase_some : (rule : PhaseRule) → 0 < phase_turns rule
phase_some phase_rules.BeginProbing = lit< tt
phase_some phase_rules.EnoughHeard = lit< tt
phase_some phase_rules.Prepare = lit< tt
phase_some phase_rules.EnoughPromised = lit< tt
phase_some phase_rules.EnoughAccepted = lit< tt
phase_some phase_rules.BeginChange = lit< tt
phase_some phase_rules.EndEpoch = lit< tt

some_turns : (t : Task) → 0 < turns_for t
some_turns (tasks.Phase n) = phase_some n
some_turns tasks.Remind = lit< tt
some_turns (tasks.Key n key) = some_key_turns n seens.Nothing
some_turns (tasks.Again n key seen) = some_key_turns n seen

-- the most tasks that run after a row: those of the rule that it names, or rule 14 after a sync
abbrev then_turns : Then → ℕ
then_turns (thens.Rule n) = phase_turns n + 0
then_turns (thens.OnKeys n) = 0
then_turns thens.Stay = 0
then_turns thens.Follow = 0
then_turns (thens.Lead fact) = 0
then_turns thens.Untrust = 0
then_turns thens.Put = 0
then_turns thens.Resume = 0
then_turns (thens.SyncOn fact) = 1

-- what a row names takes fewer turns than any row of an event may
named_few : (t : Then) → then_turns t < 26
named_few (thens.Rule n) = phase_few n
named_few (thens.OnKeys n) = lit< tt
named_few thens.Stay = lit< tt
named_few thens.Follow = lit< tt
named_few (thens.Lead fact) = lit< tt
named_few thens.Untrust = lit< tt
named_few thens.Put = lit< tt
named_few thens.Resume = lit< tt
named_few (thens.SyncOn fact) = lit< tt

named_rule : (r m : PhaseRule) (k : ℕ) → r ≡ m → phase_turns m < k → phase_turns r + 0 < k
named_rule r m k is less = rw is (omega (arith, less))

after_some : (m k : ℕ) → 0 < m → m < k → 1 < k
after_some m k some less = omega (arith, some, less)

named_only : (m : PhaseRule) (k : ℕ) (t : Then) → NamesOnly m t → phase_turns m < k → then_turns t < k
named_only m k (thens.Rule r) is less = named_rule r m k is less
named_only m k (thens.OnKeys n) is less = omega (arith, less)
named_only m k thens.Stay is less = omega (arith, less)
named_only m k thens.Follow is less = omega (arith, less)
named_only m k (thens.Lead fact) is less = omega (arith, less)
named_only m k thens.Untrust is less = omega (arith, less)
named_only m k thens.Put is less = omega (arith, less)
named_only m k thens.Resume is less = omega (arith, less)
named_only m k (thens.SyncOn fact) is less = after_some (phase_turns m) k (phase_some m) less

named_none : (t : Then) → NamesNone t → then_turns t < 1
named_none (thens.Rule r) is = absurd is
named_none (thens.OnKeys n) is = lit< tt
named_none thens.Stay is = lit< tt
named_none thens.Follow is = lit< tt
named_none (thens.Lead fact) is = lit< tt
named_none thens.Untrust is = lit< tt
named_none thens.Put is = lit< tt
named_none thens.Resume is = lit< tt
named_none (thens.SyncOn fact) is = absurd is

-- ## The rows owe no more than before

pub owed_none : (n : ℕ) → 0 ≤ n
owed_none n = omega arith

stopped_owed : (phase : Phase) → owed (stopped_leading phase) ≤ owed phase
stopped_owed (phases.Leading l) = owed_none (weight l.leader)
stopped_owed (phases.Following f) = lit≤ tt
stopped_owed (phases.Probing p) = lit≤ tt
stopped_owed (phases.Electing e) = lit≤ tt

left_owed : (leave : Bool) (x : State) → owed (left leave x).phase ≤ owed x.phase
left_owed true x = stopped_owed x.phase
left_owed false x = le_refl (owed x.phase)

given_up_owed : (e : Election) → owed (without_candidacy (phases.Electing e)) ≤ 0
given_up_owed (Starting new accepts age) = lit≤ tt
given_up_owed (Preparing base promises sent age) = lit≤ tt

untrusted_owed : (phase : Phase) → owed (without_candidacy (stopped_leading phase)) ≤ owed phase
untrusted_owed (phases.Leading l) = owed_none (weight l.leader)
untrusted_owed (phases.Following f) = lit≤ tt
untrusted_owed (phases.Probing p) = lit≤ tt
untrusted_owed (phases.Electing e) = given_up_owed e

turned_owed : (me : ℕ) (t : Then) (x : State) → owed (turned me t x).phase ≤ owed x.phase
turned_owed me thens.Stay x = le_refl (owed x.phase)
turned_owed me thens.Follow x = owed_none (owed x.phase)
turned_owed me (thens.Lead fact) x = owed_none (owed x.phase)
turned_owed me thens.Untrust x = untrusted_owed x.phase
turned_owed me thens.Put x = le_refl (owed x.phase)
turned_owed me thens.Resume x = le_refl (owed x.phase)
turned_owed me (thens.SyncOn fact) x = le_refl (owed x.phase)
turned_owed me (thens.Rule n) x = le_refl (owed x.phase)
turned_owed me (thens.OnKeys n) x = le_refl (owed x.phase)

waiting_phase_owed : (phase : Phase) → owed (waiting_phase phase) ≤ owed phase
waiting_phase_owed (phases.Leading l) = le_refl (weight l.leader)
waiting_phase_owed (phases.Following f) = lit≤ tt
waiting_phase_owed (phases.Probing p) = lit≤ tt
waiting_phase_owed (phases.Electing e) = lit≤ tt

waiting_owed : (t : Then) (x : State) → owed (waiting_for t x).phase ≤ owed x.phase
waiting_owed (thens.SyncOn fact) x = waiting_phase_owed x.phase
waiting_owed thens.Resume x = waiting_phase_owed x.phase
waiting_owed thens.Stay x = le_refl (owed x.phase)
waiting_owed thens.Follow x = le_refl (owed x.phase)
waiting_owed (thens.Lead fact) x = le_refl (owed x.phase)
waiting_owed thens.Untrust x = le_refl (owed x.phase)
waiting_owed thens.Put x = le_refl (owed x.phase)
waiting_owed (thens.Rule n) x = le_refl (owed x.phase)
waiting_owed (thens.OnKeys n) x = le_refl (owed x.phase)

-- the row owes no more than before, where this phase owed no more
abbrev OwesNoMore : State → State × PhaseOut → Type 0
OwesNoMore x r = owed r.0.phase ≤ owed x.phase

same_owed : (x : State) → owed x.phase ≤ owed x.phase
same_owed x = le_refl (owed x.phase)

stood_owes : (election : Option Election) (x : State) → owed (stood election x).phase ≤ owed x.phase
stood_owes None x = same_owed x
stood_owes (Some e) x = owed_none (owed x.phase)

finishing_owes : (f : Option Finishing) (l : Leadership) → weight (finishing f l).leader ≤ weight l.leader
finishing_owes None l = le_refl (weight l.leader)
finishing_owes (Some f) l = le_refl (weight l.leader)

begun_change_owes : (change : ChangeState) (l : Leadership) (fact : Fact) (me : ℕ) → weight (begun_change change l fact me).0.leader ≤ weight l.leader
begun_change_owes (Wanted change) l fact me = finishing_owes (row_25 fact me l.leader.accepts change).1 l
begun_change_owes Settled l fact me = le_refl (weight l.leader)
begun_change_owes (Finishes f) l fact me = le_refl (weight l.leader)

led_less : (l : Leadership) (x : State) → x.phase ≡ phases.Leading l → weight l.leader ≤ owed x.phase
led_less l x is = rw is (le_refl (weight l.leader))

phase_row_owes : (rule : PhaseRule) (me : ℕ) (x : State) → OwesNoMore x (phase_row rule me x)
phase_row_owes phase_rules.BeginProbing me x = owed_none (owed x.phase)
phase_row_owes phase_rules.EnoughHeard me x = by_probing (OwesNoMore x) x.phase (λ p is. owed_none (owed x.phase)) (same_owed x)
phase_row_owes phase_rules.Prepare me x = by_probing (OwesNoMore x) x.phase (λ p is. stood_owes (row_10 x.fact me p.best p.count).1 x) (by_leading (OwesNoMore x) x.phase (λ l is. stood_owes (row_10 x.fact me x.fact x.fact.ballot.count).1 x) (same_owed x))
phase_row_owes phase_rules.EnoughPromised me x = by_electing (OwesNoMore x) x.phase (λ e is. owed_none (owed x.phase)) (same_owed x)
phase_row_owes phase_rules.EnoughAccepted me x = by_electing (OwesNoMore x) x.phase (λ e is. owed_none (owed x.phase)) (same_owed x)
phase_row_owes phase_rules.BeginChange me x = by_leading (OwesNoMore x) x.phase (λ l is. let still = begun_change_owes l.change l x.fact me in let leads = led_less l x is in omega (arith, leads, still)) (same_owed x)
phase_row_owes phase_rules.EndEpoch me x = by_leading (OwesNoMore x) x.phase (λ l is. same_owed x) (same_owed x)

received_owes : (me from : ℕ) (message : Message) (x : State) → OwesNoMore x (received me from message x)
received_owes me from messages.Probe x = same_owed x
received_owes me from (messages.ProbeReply fact) x = by_probing (OwesNoMore x) x.phase (λ p is. owed_none (owed x.phase)) (same_owed x)
received_owes me from (messages.Prepare ballot) x = same_owed x
received_owes me from (messages.Promise ballot fact) x = by_electing (OwesNoMore x) x.phase (λ e is. owed_none (owed x.phase)) (same_owed x)
received_owes me from (messages.Nack ballot cause) x = by_electing (OwesNoMore x) x.phase (λ e is. same_owed x) (by_leading (OwesNoMore x) x.phase (λ l is. same_owed x) (same_owed x))
received_owes me from (messages.NewEpoch fact) x = waiting_owed (row_16 x.fact me x.trusted (runs_sync x.sync) from fact).then x
received_owes me from (messages.Accepted ballot seq) x =
    by_electing (OwesNoMore x) x.phase (λ e is. owed_none (owed x.phase))
    (by_leading (OwesNoMore x) x.phase (λ l is. either (λ (m : Leader). weight m ≤ owed x.phase) (is_same ballot x.fact.ballot && seq == 1) (accepted_by from l.leader) l.leader (led_less l x is) (led_less l x is)) (same_owed x))
received_owes me from (messages.Commit fact) x = same_owed x
received_owes me from (messages.Beat ballot) x = same_owed x
received_owes me from (messages.Check ballot round) x = same_owed x
received_owes me from other x = same_owed x

aged_election_owes : (e : Election) (me : ℕ) (x : State) → OwesNoMore x (aged_election e me x)
aged_election_owes (Preparing base promises sent age) me x = owed_none (owed x.phase)
aged_election_owes (Starting new accepts age) me x = owed_none (owed x.phase)

aged_owes : (phase : Phase) (me : ℕ) (x : State) → OwesNoMore x (aged phase me x)
aged_owes (phases.Following f) me x = owed_none (owed x.phase)
aged_owes (phases.Probing p) me x = owed_none (owed x.phase)
aged_owes (phases.Electing e) me x = aged_election_owes e me x
aged_owes (phases.Leading l) me x = same_owed x

wanting_owes : (change : Change) (phase : Phase) (x : State) → owed phase ≤ owed x.phase → owed (wanting change phase x).phase ≤ owed x.phase
wanting_owes change (phases.Leading l) x less = less
wanting_owes change (phases.Following f) x less = same_owed x
wanting_owes change (phases.Probing p) x less = same_owed x
wanting_owes change (phases.Electing e) x less = same_owed x

asked_owes : (view : List ℕ) (x : State) → owed (asked_change view x).0.phase ≤ owed x.phase
asked_owes view x = either (λ (y : State). owed y.phase ≤ owed x.phase) (row_24 x.fact (leads x.phase) (changes x.phase) view).1 _ _ (wanting_owes (Add view) x.phase x (same_owed x)) (same_owed x)

-- ## The rows of rules name rules that take fewer turns

abbrev NamesFewer : ℕ → State × PhaseOut → Type 0
NamesFewer k r = then_turns r.1.then < k

prepared_names : (me : ℕ) (best : Fact) (count : ℕ) (x : State) → NamesFewer 3 (prepared me best count x)
prepared_names me best count x = named_only phase_rules.EnoughPromised 3 (row_10 x.fact me best count).0.then (then_10 x.fact me best count) (lit< tt)

phase_row_names : (rule : PhaseRule) (me : ℕ) (x : State) → NamesFewer (phase_turns rule) (phase_row rule me x)
phase_row_names phase_rules.BeginProbing me x = lit< tt
phase_row_names phase_rules.EnoughHeard me x = by_probing (NamesFewer 4) x.phase (λ p is. named_only phase_rules.Prepare 4 (row_9 p).1.then (then_9 p) (lit< tt)) (lit< tt)
phase_row_names phase_rules.Prepare me x =
    by_probing (NamesFewer 3) x.phase (λ p is. prepared_names me p.best p.count x) (by_leading (NamesFewer 3) x.phase (λ l is. prepared_names me x.fact x.fact.ballot.count x) (lit< tt))
phase_row_names phase_rules.EnoughPromised me x =
    by_electing (NamesFewer 2) x.phase (λ e is. named_only phase_rules.EnoughAccepted 2 (row_13 e x.fact me x.trusted).1.then (then_13 e x.fact me x.trusted) (lit< tt)) (lit< tt)
phase_row_names phase_rules.EnoughAccepted me x = by_electing (NamesFewer 1) x.phase (λ e is. named_none (row_14 e me).1.then (then_14 e me)) (lit< tt)
phase_row_names phase_rules.BeginChange me x =
    by_leading (NamesFewer 1) x.phase (λ l is. named_none (begun_change l.change l x.fact me).1.then (then_changed l.change l x.fact me)) (lit< tt)
phase_row_names phase_rules.EndEpoch me x =
    by_leading (NamesFewer 4) x.phase
    (λ l is. named_only phase_rules.Prepare 4 (ended l.change x.fact me (has_calls l.leader.table.calls)).then (then_ended l.change x.fact me (has_calls l.leader.table.calls)) (lit< tt)) (lit< tt)

-- ## Each part of a step

-- what may follow
abbrev P : State → Out → Type 0
P x out = Unit {0}

saved_fine : (save : Option Fact) (x : State) (out : Out) (next : Rest State (Unit {0})) → ((y : State) (o : Out) → y.phase ≡ x.phase → StepsAlone (next tt y o)) → StepsAlone (saved save x out next)
unfolding asked
saved_fine None x out next go = go x out refl
saved_fine (Some fact) x out next go = (tt, λ u. go (record x { fact = fact }) out refl)

sealed_if_fine : (seals : Bool) (fact : Fact) (x : State) (out : Out) (next : Rest State (Unit {0})) → ((y : State) (o : Out) → y.phase ≡ x.phase → StepsAlone (next tt y o)) → StepsAlone (sealed_if seals fact x out next)
sealed_if_fine true fact x out next go = sealed_asks P fact x out next (λ seal. go (record x { fact = fact; seal = seal }) out refl)
sealed_if_fine false fact x out next go = saved_fine (Some fact) x out next go

-- what follows takes fewer tasks than this, besides those for the unanswered calls
abbrev Lowers : ℕ → State → Rest State (List Task) → Type 0
Lowers k x next = (ts : List Task) (y : State) (o : Out) → turns ts + owed y.phase < k + owed x.phase → StepsAlone (next ts y o)

none_then : (k u : ℕ) → 0 < k → 0 + u < k + u
none_then k u some = omega (arith, some)

accepted_then : (k u : ℕ) → 1 < k → 1 + 0 + 0 < k + u
accepted_then k u some = omega (arith, some)

some_then : (t k : ℕ) → t < k → 0 < k
some_then t k less = omega (arith, less)

accepted_own_lowers : (me k : ℕ) → 1 < k → (e : Election) (x : State) (out : Out) (next : Rest State (List Task)) → Lowers k x next → StepsAlone (accepted_own me e x out next)
accepted_own_lowers me k some (Starting new accepts age) x out next go = go (tasks.Phase phase_rules.EnoughAccepted ∷ []) (electing (Starting new (joined me accepts) age) x) out (accepted_then k (owed x.phase) some)
accepted_own_lowers me k some (Preparing base promises sent age) x out next go = go [] x out (none_then k (owed x.phase) (some_then 1 k some))

accepted_in_lowers : (me k : ℕ) → 1 < k → (fact : Fact) (phase : Phase) (x : State) (out : Out) (next : Rest State (List Task)) → Lowers k x next → StepsAlone (accepted_in me fact phase x out next)
accepted_in_lowers me k some fact (phases.Electing e) x out next go = accepted_own_lowers me k some e x out next go
accepted_in_lowers me k some fact (phases.Following f) x out next go = go [] x (and_sends out (accepted me fact)) (none_then k (owed x.phase) (some_then 1 k some))
accepted_in_lowers me k some fact (phases.Probing p) x out next go = go [] x out (none_then k (owed x.phase) (some_then 1 k some))
accepted_in_lowers me k some fact (phases.Leading l) x out next go = go [] x out (none_then k (owed x.phase) (some_then 1 k some))

in_phase : (a k u v : ℕ) → a < k + u → u ≡ v → a < k + v
in_phase a k u v less same = omega (arith, less, same)

by_outcome_lowers : (me k : ℕ) → 1 < k → (r : Running) (outcome : Outcome) (x : State) (out : Out) (next : Rest State (List Task)) → Lowers k x next → StepsAlone (by_outcome me r outcome x out next)
by_outcome_lowers me k some r RunsOn x out next go = go [] (with_sync r x) out (none_then k (owed x.phase) (some_then 1 k some))
by_outcome_lowers me k some r (Trusted entries) x out next go =
    installed_asks P (needs_build r.sync.scan entries) entries (without_sync x) out
    (λ u y o. sealed_if (keeps_seal y) r.fact y o (λ v z p. accepted_in me r.fact z.phase (record z { trusted = true }) p next))
    (λ u. sealed_if_fine (keeps_seal (without_sync x)) r.fact (without_sync x) out (λ v z p. accepted_in me r.fact z.phase (record z { trusted = true }) p next)
    (λ z p same. accepted_in_lowers me k some r.fact z.phase (record z { trusted = true }) p next
    (λ ts y o less. go ts y o (in_phase (turns ts + owed y.phase) k (owed z.phase) (owed x.phase) less (ap owed same)))))

go_on_lowers : (me k : ℕ) → 1 < k → (r : Running × List Outgoing) (x : State) (out : Out) (next : Rest State (List Task)) → Lowers k x next → StepsAlone (go_on me r x out next)
go_on_lowers me k some r x out next go = by_outcome_lowers me k some r.0 (outcome_of r.0.sync) x (and_sends out r.1) next go

resumed_lowers : (k : ℕ) → 0 < k → (running : Option Running) (x : State) (out : Out) (next : Rest State (List Task)) → Lowers k x next → StepsAlone (resume_sync running x out next)
resumed_lowers k some None x out next go = go [] x out (none_then k (owed x.phase) some)
resumed_lowers k some (Some r) x out next go = go [] (with_sync (row_resume r).0 x) (and_sends out (row_resume r).1) (none_then k (owed x.phase) some)

followed_on_lowers : (me k : ℕ) (t : Then) → then_turns t < k → (x : State) (out : Out) (next : Rest State (List Task)) → Lowers k x next → StepsAlone (followed_on me t x out next)
followed_on_lowers me k (thens.SyncOn fact) few x out next go =
    asked_asks P ScanTree tt x out (λ scan y o. go_on me (row_start fact me y.trusted scan) y o next) (λ scan. go_on_lowers me k few (row_start fact me x.trusted scan) x out next go)
followed_on_lowers me k thens.Resume few x out next go = resumed_lowers k few x.sync x out next go
followed_on_lowers me k (thens.Rule n) few x out next go = go (named (thens.Rule n)) x out (room_at (phase_turns n + 0) k (owed x.phase) few)
followed_on_lowers me k (thens.OnKeys n) few x out next go = go [] x out (none_then k (owed x.phase) few)
followed_on_lowers me k thens.Stay few x out next go = go [] x out (none_then k (owed x.phase) few)
followed_on_lowers me k thens.Follow few x out next go = go [] x out (none_then k (owed x.phase) few)
followed_on_lowers me k (thens.Lead fact) few x out next go = go [] x out (none_then k (owed x.phase) few)
followed_on_lowers me k thens.Untrust few x out next go = go [] x out (none_then k (owed x.phase) few)
followed_on_lowers me k thens.Put few x out next go = go [] x out (none_then k (owed x.phase) few)

in_order_of : (a k u v w z : ℕ) → a < k + u → u ≤ v → v ≡ w → w ≤ z → a < k + z
in_order_of a k u v w z less first same last = omega (arith, less, first, same, last)

row_lowers : (me k : ℕ) (row : PhaseOut) (x : State) (out : Out) (next : Rest State (List Task)) → then_turns row.then < k → Lowers k x next → StepsAlone (row_done me row x out next)
row_lowers me k row x out next few go =
    saved_fine row.save (left row.leave x) (left_answers row.leave x out)
    (λ u y o. followed_on me row.then (turned me row.then y) (turned_answers row.then y (and_sends o (posted_to row.to row.message))) next)
    (λ y o same. followed_on_lowers me k row.then few (turned me row.then y) (turned_answers row.then y (and_sends o (posted_to row.to row.message))) next
    (λ ts z p less. go ts z p
    (in_order_of (turns ts + owed z.phase) k (owed (turned me row.then y).phase) (owed y.phase) (owed (left row.leave x).phase) (owed x.phase) less (turned_owed me row.then y) (ap owed same) (left_owed row.leave x))))

-- the part asks the stores, and sees something of them
abbrev Sees : (State → Out → Rest State Seen → Plan State) → Type 0
Sees part = (x : State) (out : Out) (next : Rest State Seen) → ((seen : Seen) → IsSeen seen → StepsAlone (next seen x out)) → StepsAlone (part x out next)

fetched_sees : (key : List ℕ) → Sees (fetched key)
fetched_sees key x out next go = kept_asks P key x out (λ o y p. next (seens.Kept o) y p) (λ o. go (seens.Kept o) tt)

held_sees : (key : List ℕ) (entry : Option Entry) → Sees (held key entry)
held_sees key None x out next go = go (seens.Held None None) tt
held_sees key (Some entry) x out next go = kept_asks P key x out (λ o y p. next (seens.Held (Some entry) (matching entry o)) y p) (λ o. go (seens.Held (Some entry) (matching entry o)) tt)

looked_at_sees : (key : List ℕ) (end : Walked (Option Entry)) → Sees (looked_at key end)
looked_at_sees key (Broken at) x out next go = go (seens.Damaged at) tt
looked_at_sees key (Reached entry) x out next go = held_sees key entry x out next go

looked_sees : (key : List ℕ) → Sees (looked key)
looked_sees key x out next go = asked_asks P (Find key) tt x out (λ end y p. looked_at key end y p next) (λ end. looked_at_sees key end x out next go)

-- the same of a part at whose end the peer may have another seal
abbrev SeesAnew : (State → Out → Rest State Seen → Plan State) → Type 0
SeesAnew part = (x : State) (out : Out) (next : Rest State Seen) → ((seen : Seen) (seal : Option (List ℕ)) → IsSeen seen → StepsAlone (next seen (record x { seal = seal }) out)) → StepsAlone (part x out next)

entered_sees : (o : Object) (bytes digest : List ℕ) (end : Walked (Unit {0})) → SeesAnew (entered o bytes digest end)
entered_sees o bytes digest (Broken at) x out next go = go (seens.Damaged at) x.seal tt
entered_sees o bytes digest (Reached u) x out next go =
    resealed_asks P (is_some x.seal) x out (λ v y p. stored o bytes digest y p next)
    (λ v seal. asked_asks P (Put o.key bytes) tt (record x { seal = seal }) out (λ w y p. next (seens.Stored digest) y p) (λ w. go (seens.Stored digest) seal tt))

written_sees : (o : Object) → SeesAnew (written o)
written_sees o x out next go =
    let bytes = object_spelling o in
    asked_asks P (Hash bytes) tt x out (λ digest y p. asked (Enter (entry_of o digest)) y p (λ end z q. entered o bytes digest end z q next))
    (λ digest. asked_asks P (Enter (entry_of o digest)) tt x out (λ end z q. entered o bytes digest end z q next) (λ end. entered_sees o bytes digest end x out next go))

owned_sees : (own : Own) → SeesAnew (owned own)
owned_sees (owns.Fetch key) x out next go = fetched_sees key x out next (λ seen. go seen x.seal)
owned_sees (owns.Look key) x out next go = looked_sees key x out next (λ seen. go seen x.seal)
owned_sees (owns.Put o) x out next go = written_sees o x out next go

seen_again : (rule : KeyRule) (seen : Seen) (w : ℕ) → IsSeen seen → turns_seen rule seen + 0 + w ≤ turns_again rule + w
seen_again rule seen w is = let same = seen_turns rule seen is in omega (arith, same)

keyed_after : (a b u v : ℕ) → a ≡ b → u ≤ v → a + u ≤ b + v
keyed_after a b u v same less = omega (arith, same, less)

followed_lowers : (me : ℕ) (own : Option Own) (turn : Then) (keys : List (List ℕ)) (x : State) (out : Out) (next : Rest State (List Task))
    → ((ts : List Task) (y : State) (o : Out) → turns ts + owed y.phase ≤ turns_next own turn keys + owed x.phase → StepsAlone (next ts y o)) → StepsAlone (followed_up me own turn keys x out next)
followed_lowers me None turn keys x out next go =
    go (keyed turn keys) (turned me turn x) (turned_answers turn x out)
    (keyed_after (turns (keyed turn keys)) (turns_next None turn keys) (owed (turned me turn x).phase) (owed x.phase) (turns_keyed turn keys) (turned_owed me turn x))
followed_lowers me (Some own) turn keys x out next go =
    owned_sees own x out (λ seen y o. next (tasks.Again (asked_by own) (own_key own) seen ∷ []) y o) (λ seen seal is. go (tasks.Again (asked_by own) (own_key own) seen ∷ []) (record x { seal = seal }) out (seen_again (asked_by own) seen (owed x.phase) is))

in_order : (a b u v : ℕ) → a ≤ b + u → u ≤ v → a ≤ b + v
in_order a b u v first less = omega (arith, first, less)

lead_lowers : (me : ℕ) (row : LeadOut) (x : State) (out : Out) (next : Rest State (List Task))
    → ((ts : List Task) (y : State) (o : Out) → turns ts + owed y.phase ≤ turns_after row + owed x.phase → StepsAlone (next ts y o)) → StepsAlone (lead_done me row x out next)
lead_lowers me row x out next go =
    noted_follows P row.notes (followed_up me row.own row.then row.keys (left row.leave x) (and_row row x out) next)
    (followed_lowers me row.own row.then row.keys (left row.leave x) (and_row row x out) next
    (λ ts y o less. go ts y o (in_order (turns ts + owed y.phase) (turns_after row) (owed (left row.leave x).phase) (owed x.phase) less (left_owed row.leave x))))

-- the row of a leader lowers the number of tasks that can still run, if this many can run for the event
abbrev LowersFrom : ℕ → (Leader → Leader × LeadOut) → Type 0
LowersFrom k row = (l : Leader) → turns_after (row l).1 + weight (row l).0 < k + weight l

less_then : (a b c d : ℕ) → a ≤ b → b < c → c ≤ d → a < d
less_then a b c d first less last = omega (arith, first, less, last)

led_lowers : (me k : ℕ) (row : Leader → Leader × LeadOut) → 0 < k → LowersFrom k row → (phase : Phase) (x : State) (out : Out) (next : Rest State (List Task)) → owed phase ≤ owed x.phase
    → ((ts : List Task) (y : State) (o : Out) → turns ts + owed y.phase < k + owed x.phase → StepsAlone (next ts y o)) → StepsAlone (lead row me phase x out next)
led_lowers me k row some lowers (phases.Leading l) x out next less go =
    lead_lowers me (row l.leader).1 (leading (with_leader (row l.leader).0 l) x) out next
    (λ ts y o few. go ts y o (less_then (turns ts + owed y.phase) (turns_after (row l.leader).1 + weight (row l.leader).0) (k + weight l.leader) (k + owed x.phase) few (lowers l.leader) (omega (arith, less))))
led_lowers me k row some lowers (phases.Following f) x out next less go = go [] x out (omega (arith, some))
led_lowers me k row some lowers (phases.Probing p) x out next less go = go [] x out (omega (arith, some))
led_lowers me k row some lowers (phases.Electing e) x out next less go = go [] x out (omega (arith, some))

begins_few : (change : ChangeState) → turns (named (begins change)) < 2
begins_few (Wanted change) = lit< tt
begins_few Settled = lit< tt
begins_few (Finishes f) = lit< tt

reminded_lowers : (k : ℕ) (phase : Phase) (x : State) (out : Out) (next : Rest State (List Task)) → k ≡ 2 → owed phase ≤ owed x.phase
    → ((ts : List Task) (y : State) (o : Out) → turns ts + owed y.phase < k + owed x.phase → StepsAlone (next ts y o)) → StepsAlone (reminded phase x out next)
reminded_lowers k (phases.Leading l) x out next two less go = go _ _ _ (let few = begins_few (wished l.leader.fact l.change) in omega (arith, two, less, few))
reminded_lowers k (phases.Following f) x out next two less go = go [] x out (omega (arith, two))
reminded_lowers k (phases.Probing p) x out next two less go = go [] x out (omega (arith, two))
reminded_lowers k (phases.Electing e) x out next two less go = go [] x out (omega (arith, two))

owes_less : (a k u v : ℕ) → a < k + u → u ≤ v → a < k + v
owes_less a k u v less owes = omega (arith, less, owes)

task_lowers : (me : ℕ) (t : Task) (x : State) (out : Out) (next : Rest State (List Task))
    → ((ts : List Task) (y : State) (o : Out) → turns ts + owed y.phase < turns_for t + owed x.phase → StepsAlone (next ts y o)) → StepsAlone (task_done me t x out next)
task_lowers me (tasks.Phase n) x out next go =
    row_lowers me (phase_turns n) (phase_row n me x).1 (phase_row n me x).0 out next (phase_row_names n me x)
    (λ ts y o less. go ts y o (owes_less (turns ts + owed y.phase) (phase_turns n) (owed (phase_row n me x).0.phase) (owed x.phase) less (phase_row_owes n me x)))
task_lowers me tasks.Remind x out next go = reminded_lowers 2 x.phase x out next refl (same_owed x) go
task_lowers me (tasks.Key n key) x out next go =
    led_lowers me (turns_of n) (lead_row n key seens.Nothing) (some_key_turns n seens.Nothing) (λ l. (lead_step n key seens.Nothing l).lowers) x.phase x out next (same_owed x) go
task_lowers me (tasks.Again n key seen) x out next go =
    led_lowers me (turns_seen n seen) (lead_row n key seen) (some_key_turns n seen) (λ l. (lead_step n key seen l).lowers) x.phase x out next (same_owed x) go

-- ## The loop

none_possible : (a b c : ℕ) → 0 < a → a + b + c ≤ 0 → ⊥
none_possible a b c some le = omega (arith, some, le)

still_enough : (more ts owes t x n both : ℕ) → more + owes < t + x → both ≡ more + ts → t + ts + x ≤ suc n → both + owes ≤ n
still_enough more ts owes t x n both less same le = omega (arith, less, same, le)

cleared : (me n : ℕ) (ts : List Task) (x : State) (out : Out) (next : Rest State (List Task)) → turns ts + owed x.phase ≤ n → IsFineAtNone next → StepsAlone (driven me n ts x out next)
unfolding driven
cleared me zero [] x out next le go = go x out
cleared me zero (t ∷ ts) x out next le go = absurd (none_possible (turns_for t) (turns ts) (owed x.phase) (some_turns t) le)
cleared me (suc n) [] x out next le go = go x out
cleared me (suc n) (t ∷ ts) x out next le go =
    task_lowers me t x out (λ more y o. driven me n (more ++ ts) y o next)
    (λ more y o less. cleared me n (more ++ ts) y o next (still_enough (turns more) (turns ts) (owed y.phase) (turns_for t) (owed x.phase) n (turns (more ++ ts)) less (turns_more more ts) le) go)

-- ## The row of an event

-- the most tasks that the row of an event leaves, besides those for the unanswered calls
abbrev Few : State → Rest State (List Task) → Type 0
Few x next = (ts : List Task) (y : State) (o : Out) → turns ts + owed y.phase < 26 + owed x.phase → StepsAlone (next ts y o)

event_row_few : (me : ℕ) (row : PhaseOut) (x z : State) (out : Out) (next : Rest State (List Task)) → owed z.phase ≤ owed x.phase → Few x next → StepsAlone (row_done me row z out next)
event_row_few me row x z out next owes go =
    row_lowers me 26 row z out next (named_few row.then) (λ ts y o less. go ts y o (owes_less (turns ts + owed y.phase) 26 (owed z.phase) (owed x.phase) less owes))

more_few : (a j k u : ℕ) → a < j + u → j ≤ k → a < k + u
more_few a j k u less le = omega (arith, less, le)

event_led_few : (me k : ℕ) (row : Leader → Leader × LeadOut) → 0 < k → k ≤ 26 → LowersFrom k row → (x : State) (out : Out) (next : Rest State (List Task)) → Few x next → StepsAlone (lead row me x.phase x out next)
event_led_few me k row some le lowers x out next go =
    led_lowers me k row some lowers x.phase x out next (same_owed x) (λ ts y o less. go ts y o (more_few (turns ts + owed y.phase) k 26 (owed x.phase) less le))

put_done_few : (me : ℕ) (turn : Then) (from : ℕ) (ballot : Epoch) (object : Object) (row : PhaseOut) (x : State) (out : Out) (next : Rest State (List Task)) → Few x next → StepsAlone (put_done turn me from ballot object row x out next)
put_done_few me thens.Put from ballot object row x out next go =
    written_asks P object x out (λ seen y p. row_done me (after_put from ballot row seen) y p next) (λ seen seal. event_row_few me (after_put from ballot row seen) x (record x { seal = seal }) out next (same_owed x) go)
put_done_few me thens.Stay from ballot object row x out next go = event_row_few me row x x out next (same_owed x) go
put_done_few me thens.Follow from ballot object row x out next go = event_row_few me row x x out next (same_owed x) go
put_done_few me (thens.Lead fact) from ballot object row x out next go = event_row_few me row x x out next (same_owed x) go
put_done_few me thens.Untrust from ballot object row x out next go = event_row_few me row x x out next (same_owed x) go
put_done_few me thens.Resume from ballot object row x out next go = event_row_few me row x x out next (same_owed x) go
put_done_few me (thens.SyncOn fact) from ballot object row x out next go = event_row_few me row x x out next (same_owed x) go
put_done_few me (thens.Rule n) from ballot object row x out next go = event_row_few me row x x out next (same_owed x) go
put_done_few me (thens.OnKeys n) from ballot object row x out next go = event_row_few me row x x out next (same_owed x) go

nothing_few : (x : State) (out : Out) (next : Rest State (List Task)) → Few x next → StepsAlone (next [] x out)
nothing_few x out next go = go [] x out (omega arith)

taken_few : (tree : TreeVersion) (me from : ℕ) (give : Give) (own : Option (List ℕ)) (running : Option Running) (x : State) (out : Out) (next : Rest State (List Task)) → Few x next → StepsAlone (take_give tree me from give own running x out next)
taken_few tree me from give own None x out next go = nothing_few x out next go
taken_few tree me from give own (Some r) x out next go = go_on_lowers me 26 (lit< tt) (row_take tree from give own r) x out next go

in_tree_few : (has : Bool) (part : Part State (List Task)) (x : State) (out : Out) (next : Rest State (List Task)) → Few x next → StepsAlone (part x out next) → StepsAlone (in_tree has part x out next)
in_tree_few true part x out next go few = few
in_tree_few false part x out next go few = nothing_few x out next go

delivered_few : (me from : ℕ) (message : Message) (x : State) (out : Out) (next : Rest State (List Task)) → Few x next → StepsAlone (delivered me from message x out next)
delivered_few me from (messages.Get ballot round key) x out next go =
    shown_asks P (is_served x.fact x.trusted ballot) (looked key) (looked_asks P key) x out (λ seen y o. row_done me (row_21 y.fact y.trusted from ballot round key seen) y o next)
    (λ seen. event_row_few me (row_21 x.fact x.trusted from ballot round key seen) x x out next (same_owed x) go)
delivered_few me from (messages.Put ballot object) x out next go =
    shown_asks P (is_served x.fact x.trusted ballot) (found object.key) (found_asks P object.key) x out
    (λ seen y p. put_done (row_22 y.fact y.trusted from ballot object seen).then me from ballot object (row_22 y.fact y.trusted from ballot object seen) y p next)
    (λ seen. put_done_few me (row_22 x.fact x.trusted from ballot object seen).then from ballot object (row_22 x.fact x.trusted from ballot object seen) x out next go)
delivered_few me from (messages.GetReply ballot round key entry object) x out next go =
    if_follows P (leads x.phase) _ _
    (confirmed_asks P entry object x out (λ confirmed y o. lead (row_29_reply from ballot round key entry confirmed) me y.phase y o next)
    (λ confirmed. event_led_few me 9 (row_29_reply from ballot round key entry confirmed) (lit< tt) (lit≤ tt) (λ l. (row_29_reply_step from ballot round key entry confirmed l).lowers) x out next go))
    (nothing_few x out next go)
delivered_few me from (messages.PutReply ballot key version) x out next go =
    event_led_few me 5 (row_35_reply from ballot key version) (lit< tt) (lit≤ tt) (λ l. (row_35_reply_step from ballot key version l).lowers) x out next go
delivered_few me from (messages.CheckReply ballot round) x out next go =
    event_led_few me 1 (row_33_reply from ballot round) (lit< tt) (lit≤ tt) (λ l. (row_33_reply_step from ballot round l).1.lowers) x out next go
delivered_few me from (messages.TreeAsk ballot at after) x out next go =
    let q : Question = record { position = at; after = after } in
    in_tree_few (has_position x.mode.tree at) (got_ask me from ballot q) x out next go
    (shown_node_asks P x.mode.tree (is_same ballot x.fact.ballot) q x out (λ body y o. row_done me (row_23 y.fact y.trusted from ballot q.position q.after body) y o next)
    (λ body. event_row_few me (row_23 x.fact x.trusted from ballot at after body) x x out next (same_owed x) go))
delivered_few me from (messages.TreeGive ballot at after trusted body) x out next go =
    let give : Give = record { ballot = ballot; question = record { position = at; after = after }; trusted = trusted; body = body } in
    in_tree_few (has_position x.mode.tree at) (tree_give me from give) x out next go
    (own_node_asks P (needs_node x.mode.tree from give x.sync) at x out (λ own y o. take_give x.mode.tree me from give own y.sync y o next)
    (λ own. taken_few x.mode.tree me from give own x.sync x out next go))
delivered_few me from message x out next go = event_row_few me (received me from message x).1 x (received me from message x).0 out next (received_owes me from message x) go

in_tick : (more ts u w b v z : ℕ) → more ≡ ts + 2 → ts + u ≤ b + w → b + w ≤ v → v ≤ z → more + u < 26 + z
in_tick more ts u w b v z same few lowers less = omega (arith, same, few, lowers, less)

led_in_few : (me : ℕ) (phase : Phase) (x : State) (out : Out) (next : Rest State (List Task)) → owed phase ≤ owed x.phase → Few x next → StepsAlone (led_in me phase x out next)
led_in_few me (phases.Leading l) x out next less go =
    let tick = row_5_ticks (end_of (older l.change)) l.leader in
    lead_lowers me (row_5_calls x.fact l).1 (leading (row_5_calls x.fact l).0 x) out (λ ts y o. next (ts ++ tasks.Remind ∷ []) y o)
    (λ ts y o few. go (ts ++ tasks.Remind ∷ []) y o
    (in_tick (turns (ts ++ tasks.Remind ∷ [])) (turns ts) (owed y.phase) (weight (row_5_calls x.fact l).0.leader) (turns_after (row_5_calls x.fact l).1) (weight l.leader) (owed x.phase) (turns_more ts (tasks.Remind ∷ [])) few tick.lowers less))
led_in_few me (phases.Following f) x out next less go = nothing_few x out next go
led_in_few me (phases.Probing p) x out next less go = nothing_few x out next go
led_in_few me (phases.Electing e) x out next less go = nothing_few x out next go

join_less : (a w : ℕ) → a ≤ 25 + w → a < 26 + w
join_less a w le = omega (arith, le)

joined_lowers : (from id : ℕ) (key : List ℕ) (command : _) (ends : Bool) → LowersFrom 26 (row_27 from id key command ends)
joined_lowers from id key command ends l = join_less _ (weight l) (row_27_joins from id key command ends l).lowers

first_few : (me : ℕ) (event : Event) (x : State) (out : Out) (next : Rest State (List Task)) → Few x next → StepsAlone (first me event x out next)
first_few me (events.Deliver from message) x out next go = delivered_few me from message x out next go
first_few me events.Tick x out next go =
    if_follows P (leads x.phase) _ _ (led_in_few me x.phase x out next (same_owed x) go) (event_row_few me (aged x.phase me x).1 x (aged x.phase me x).0 out next (aged_owes x.phase me x) go)
first_few me (events.Call call) x out next go =
    if_follows P (leads x.phase) _ _
    (event_led_few me 26 (row_27 call.from call.id call.key call.command (changes x.phase)) (lit< tt) (lit≤ tt) (joined_lowers call.from call.id call.key call.command (changes x.phase)) x out next go)
    (go [] x (and_answers out (unavailable call ∷ [])) (omega arith))
first_few me (events.Change view) x out next go =
    event_row_few me (asked_change view x).1.0 x (asked_change view x).0 (and_change out (asked_change view x).1.1) next (asked_owes view x) go

-- ## A whole step

few_for_task : (task : Pending) → task_turns task ≤ 4
few_for_task pendings.Nothing = lit≤ tt
few_for_task (pendings.Write content parent) = lit≤ tt
few_for_task (pendings.Rewrite o) = lit≤ tt
few_for_task (pendings.Check reply) = lit≤ tt
few_for_task (pendings.Apply current) = lit≤ tt
few_for_task (pendings.Propose o parent None) = lit≤ tt
few_for_task (pendings.Propose o parent (Some id)) = lit≤ tt

enough_for : (calls task : ℕ) → calls < 2 ^ 60 → task ≤ 4 → 26 + (13 * calls + task) ≤ most_turns
unfolding most_turns
enough_for calls task few less = omega (arith, few, less)

enough : (phase : Phase) → HasFewCalls phase → 26 + owed phase ≤ most_turns
enough (phases.Leading l) few = enough_for (length l.leader.table.calls) (task_turns l.leader.task) few (few_for_task l.leader.task)
enough (phases.Following f) few = enough_for 0 0 (omega arith) (lit≤ tt)
enough (phases.Probing p) few = enough_for 0 0 (omega arith) (lit≤ tt)
enough (phases.Electing e) few = enough_for 0 0 (omega arith) (lit≤ tt)

below : (a b c : ℕ) → a < b → b ≤ c → a ≤ c
below a b c less le = omega (arith, less, le)

-- after the row of the event, and the rules that follow, no task is left
pub responded_left : (me : ℕ) (event : Event) (x : State) (out : Out) (next : Rest State (List Task)) → HasFewCalls x.phase → IsFineAtNone next → StepsAlone (first me event x out (λ ts y o. driven me most_turns ts y o next))
responded_left me event x out next few go =
    first_few me event x out (λ ts y o. driven me most_turns ts y o next)
    (λ ts y o less. cleared me most_turns ts y o next (below (turns ts + owed y.phase) (26 + owed x.phase) most_turns less (enough x.phase few)) go)

-- and after rule 26 at the end of the step
pub concluded_left : (me : ℕ) (x : State) (out : Out) (next : Rest State (List Task)) → HasFewCalls x.phase → IsFineAtNone next → StepsAlone (task_done me (tasks.Phase phase_rules.EndEpoch) x out (λ ts y o. driven me most_turns ts y o next))
concluded_left me x out next few go =
    task_lowers me (tasks.Phase phase_rules.EndEpoch) x out (λ ts y o. driven me most_turns ts y o next)
    (λ ts y o less. cleared me most_turns ts y o next (below (turns ts + owed y.phase) (26 + owed x.phase) most_turns (more_few (turns ts + owed y.phase) 4 26 (owed x.phase) less (lit≤ tt)) (enough x.phase few)) go)
