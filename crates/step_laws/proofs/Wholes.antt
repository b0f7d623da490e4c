-- A step of a leader that is at rest with its table whole. Each rule on a key begins where the key does not
-- check, so the table stays whole; and what holds of the unanswered calls and of the answers so far holds at the
-- end, if each rule keeps it whose replies come with their notes.
use Rattle.std.specs.Prelude.{All, IsSome}
use Rattle.std.proofs.Common.{◌≡◌, ◌∙◌, ◌+◌, ◌==◌, ◌||◌, ap, arith, refl, sym, subst, inl, inr, map, ℕ, zero, suc, Bool, true, false, if◌then◌else◌, List, [], ◌∷◌, ◌++◌, Option, Some, None, append-nil, eqb-true}
use Rattle.std.proofs.lemmas.Bool.{false≢true}
use Rattle.std.proofs.lemmas.List.Elements.{All-nil, All-head, All-tail, All-cons}
use Rattle.call_table.specs.Calls.{older as older_call, waiting_on, is_due, due, due_after, key_if_running}
use Rattle.call_table.specs.Rows.{check_round}
use Rattle.call_table.specs.Tables.{late_put}
use Rattle.call_table.specs.declared.row.KeyRow.{KeyRow}
use Rattle.call_table.specs.declared.table.CallTable.{CallTable}
use Rattle.call_table.specs.declared.waiting.Waiting.{Waiting}
use Rattle.phase_rules.specs.declared.election.Election.{Election}
use Rattle.phase_rules.specs.declared.election.Election.TheVariants.{Preparing, Starting}
use Rattle.ens_base.specs.Lists.{◌∈◌, AreDistinct, same_bytes}
use Rattle.ens_base.proofs.Lists.{bytes_same, bytes_itself}
use Rattle.ens_base.specs.declared.command.Command.{Command}
use Rattle.ens_base.specs.declared.entry.Entry.{Entry}
use Rattle.ens_base.specs.declared.epoch.Epoch.{Epoch}
use Rattle.ens_base.specs.declared.epoch.Version.{Version}
use Rattle.stored_formats.specs.declared.object.Object.{Object}
use Rattle.tree_exchange.specs.declared.question.Question.{Question}
use Rattle.phase_rules.specs.Refusals.{is_served}
use Rattle.phase_rules.specs.Requests.{row_21, row_22, row_23}
use Rattle.leader_output.specs.Outs.{asked_by, comes, leaves}
use Rattle.leader_output.specs.declared.out.AnswerOut.{AnswerOut}
use Rattle.leader_output.specs.declared.out.LeadOut.{LeadOut}
use Rattle.leader_output.specs.declared.out.Own.{Own}
use Rattle.leader_output.specs.declared.out.Own.TheVariants as owns
use Rattle.leader.specs.Puts.{row_35_reply}
use Rattle.leader.specs.Rounds.{row_29_reply, row_33_reply}
use Rattle.leader.specs.Rules.{lead_row}
use Rattle.leader.specs.Starts.{row_27}
use Rattle.leader_laws.specs.Steps.{AsksOn, NamesOn, IsReady, IsReadyFor, IsAtRest, KeepsOthers, Serves, Fits as FitsRule, is_start}
use Rattle.leader.specs.Ticks.{Finishing as Ending, is_late, timed_out, aged as aged_table, row_5_calls as tick_row, left_answer}
use Rattle.leader.specs.declared.leader.Leader.{Leader}
use Rattle.leader.specs.declared.pending.Pending.{Pending as LeadTask}
use Rattle.leader.specs.declared.pending.Pending.TheVariants as pendings
use Rattle.leader_laws.proofs.Joins.{row_27_joins}
use Rattle.leader_laws.proofs.Steps.{lead_step, row_29_reply_step, row_33_reply_step, row_35_reply_step}
use Rattle.leader_laws.proofs.TimeOuts.{row_5_ticks}
use Rattle.stored_formats.specs.declared.fact.Fact.{Fact}
use Rattle.peer_spec.specs.Drives.{row_done, own_key, followed_up, and_row, lead_done, lead, reminded, task_done, driven, led_in, ticked, got_ask, after_put, put_done, in_tree, delivered, unavailable, first, and_change, most_turns, concluded, step_of}
use Rattle.peer_spec.specs.Owns.{looked, found}
use Rattle.peer_spec.specs.Kept.{IsStepCall}
use Rattle.peer_spec.specs.Syncs.{saved, and_sends, with_sync, accepted, accepted_own, accepted_in, by_outcome, go_on, resume_sync, followed_on, needs_node, take_give, tree_give, sealed_if}
use Rattle.peer_spec.specs.TreeCalls.{has_position}
use Rattle.peer_spec.proofs.Aging.{asked_asks, looked_asks, found_asks, written_asks, confirmed_asks, if_follows, owned_asks, noted_follows, installed_asks, own_node_asks, shown_node_asks, shown_asks, sealed_asks}
use Rattle.peer_state.specs.Leading.{older, end_of, ticks, wished, begins}
use Rattle.peer_state.specs.Moves.{left, left_answers, turned, turned_answers, leading, and_answers, electing, without_sync, keeps_seal, with_leader, stopped_leading, without_candidacy}
use Rattle.peer_state.specs.Rows.{accepted_by, aged, asked_change, changes, has_begun, leads, phase_row, received}
use Rattle.peer_state.specs.declared.event.CallIn.{CallIn}
use Rattle.peer_state.specs.declared.event.Event.{Event}
use Rattle.peer_state.specs.declared.event.Event.TheVariants as events
use Rattle.peer_state.specs.declared.state.ChangeState.{ChangeState}
use Rattle.peer_state.specs.declared.state.ChangeState.TheVariants.{Settled, Wanted, Finishing as Finishes}
use Rattle.peer_state.specs.declared.state.Leadership.{Leadership}
use Rattle.peer_state.specs.declared.state.Phase.{Phase}
use Rattle.peer_state.specs.declared.state.Phase.TheVariants as phases
use Rattle.peer_state.specs.declared.state.State.{State}
use Rattle.phase_rows.specs.Orders.{is_same}
use Rattle.phase_rows.specs.Peers.{joined}
use Rattle.phase_rows.specs.declared.phase.PhaseOut.{PhaseOut}
use Rattle.phase_rows.specs.declared.phase.Seen.{Seen}
use Rattle.phase_rows.specs.declared.phase.Seen.TheVariants as seens
use Rattle.phase_rows.specs.declared.phase.Then.{Then}
use Rattle.phase_rows.specs.declared.phase.Then.TheVariants as thens
use Rattle.phase_rows.specs.declared.rules.KeyRule.{KeyRule}
use Rattle.phase_rows.specs.declared.rules.KeyRule.TheVariants as key_rules
use Rattle.phase_rows.specs.declared.rules.PhaseRule.TheVariants as phase_rules
use Rattle.tree_sync.specs.Rows.{row_start, row_resume, row_take}
use Rattle.tree_sync.specs.Running.{Running}
use Rattle.tree_sync.specs.declared.asking.Give.{Give}
use Rattle.leader_output.specs.declared.out.Outgoing.{Outgoing}
use Rattle.register_model.specs.declared.note.Note.{Note}
use Rattle.step_laws.specs.Whole.{IsWhole, IsClear, StaysWhole, IsGivenFor, AreGiven}
use Rattle.step_laws.proofs.KeepsWhole.{rule_so, got_so, checked_reply_so, put_reply_so}
use Rattle.step_laws.proofs.Resting.{key_list, keys_of_due, timed_out_keys}
use Rattle.step_laws.proofs.WholeTicks.{new_whole, joined_so, tick_so}
use Rattle.step_plans.specs.Calls.{ScanTree}
use Rattle.step_plans.specs.Plans.{Done, Out, Rest, Part, Follows, asked, nothing}
use Rattle.step_plans.specs.Sends.{posted_to}
use Rattle.step_plans.specs.Tasks.{named, keyed}
use Rattle.step_plans.specs.declared.tasks.Task.{Task}
use Rattle.step_plans.specs.declared.tasks.Task.TheVariants as tasks
use Rattle.tree_node.specs.declared.version.TreeVersion.{TreeVersion}
use Rattle.wire_frames.specs.declared.message.Message.{Message}
use Rattle.wire_frames.specs.declared.message.Message.TheVariants as messages
use Rattle.step_laws.specs.Reached.{unanswered}
use Rattle.step_laws.specs.Resting.{IfLeading, IsResting, LeadsWhole}
use Rattle.tree_sync.specs.Syncs.{needs_build, outcome_of}
use Rattle.tree_sync.specs.declared.sync.Outcome.{Outcome}
use Rattle.tree_sync.specs.declared.sync.Outcome.TheVariants.{Pending, Trusted}
use Rattle.step_laws.proofs.Phased.{left_keeps, turned_keeps, phase_row_keeps, received_keeps, aged_keeps, asked_keeps}
use Rattle.step_laws.proofs.Rested.{OwnOn, lead_own, look_own, reply_own}
use Rattle.step_laws.proofs.FittingRows.{Needs, NamesFit, SafeRow, Fits, safe_fits, safe_21, safe_22, safe_23, safe_after_put, phase_row_fits, received_fits, aged_fits, asked_fits}
use Rattle.step_laws.proofs.Walks.{left_calls, left_given, left_good, turned_good, turned_fits, left_row}

-- ## The keys of a tick differ

some_waits : (k : List ℕ) (before : List Waiting) (w : Waiting) → (waiting_on k before ≡ 0 → ⊥) → waiting_on k (before ++ w ∷ []) ≡ 0 → ⊥
some_waits k [] w waits none = waits refl
some_waits k (v ∷ before) w waits none = by (same_bytes v.key k) waits none (some_waits k before w)
  where
    by : (b : Bool) → ((if b then waiting_on k before + 1 else waiting_on k before) ≡ 0 → ⊥) → (if b then waiting_on k (before ++ w ∷ []) + 1 else waiting_on k (before ++ w ∷ [])) ≡ 0
        → ((waiting_on k before ≡ 0 → ⊥) → waiting_on k (before ++ w ∷ []) ≡ 0 → ⊥) → ⊥
    by true waits none later = omega (arith, none)
    by false waits none later = later waits none

it_waits : (before : List Waiting) (w : Waiting) → waiting_on w.key (before ++ w ∷ []) ≡ 0 → ⊥
it_waits [] w none = by (same_bytes w.key w.key) (bytes_itself w.key) none
  where
    by : (b : Bool) → b ≡ true → (if b then 0 + 1 else 0) ≡ 0 → ⊥
    by true is none = omega (arith, none)
    by false is none = absurd cc
it_waits (v ∷ before) w none = by (same_bytes v.key w.key) none (it_waits before w)
  where
    by : (b : Bool) → (if b then waiting_on w.key (before ++ w ∷ []) + 1 else waiting_on w.key (before ++ w ∷ [])) ≡ 0 → (waiting_on w.key (before ++ w ∷ []) ≡ 0 → ⊥) → ⊥
    by true none later = omega (arith, none)
    by false none later = later none

-- a key that has a call before is not among those of the calls after
none_of_key : (k : List ℕ) (before calls : List Waiting) → (waiting_on k before ≡ 0 → ⊥) → k ∈ keys_of_due (due_after before calls) → ⊥
none_of_key k before [] waits here = here
none_of_key k before (w ∷ calls) waits here = by (is_due w) here (none_of_key k (before ++ w ∷ []) calls (some_waits k before w waits))
  where
    at_first : (b : Bool) → (waiting_on w.key before == 0) ≡ b → k ∈ (key_list (if b then Some w.key else None) ++ keys_of_due (due_after (before ++ w ∷ []) calls)) → (k ∈ keys_of_due (due_after (before ++ w ∷ []) calls) → ⊥) → ⊥
    at_first true is (inl e) later = waits (subst (λ (q : List ℕ). waiting_on q before ≡ 0) (sym e) (eqb-true (waiting_on w.key before) 0 is))
    at_first true is (inr there) later = later there
    at_first false is there later = later there

    by : (b : Bool) → k ∈ keys_of_due (if b then record { from = w.from; id = w.id; running = key_if_running before w } ∷ due_after (before ++ w ∷ []) calls else due_after (before ++ w ∷ []) calls) → (k ∈ keys_of_due (due_after (before ++ w ∷ []) calls) → ⊥) → ⊥
    by true there later = at_first (waiting_on w.key before == 0) refl there later
    by false there later = later there

pub due_keys_differ : (before calls : List Waiting) → AreDistinct (keys_of_due (due_after before calls))
due_keys_differ before [] = tt
due_keys_differ before (w ∷ calls) = by (is_due w) (due_keys_differ (before ++ w ∷ []) calls)
  where
    at_first : (b : Bool) → AreDistinct (keys_of_due (due_after (before ++ w ∷ []) calls)) → AreDistinct (key_list (if b then Some w.key else None) ++ keys_of_due (due_after (before ++ w ∷ []) calls))
    at_first true rest = (none_of_key w.key (before ++ w ∷ []) calls (it_waits before w), rest)
    at_first false rest = rest

    by : (b : Bool) → AreDistinct (keys_of_due (due_after (before ++ w ∷ []) calls)) → AreDistinct (keys_of_due (if b then record { from = w.from; id = w.id; running = key_if_running before w } ∷ due_after (before ++ w ∷ []) calls else due_after (before ++ w ∷ []) calls))
    by true rest = at_first (waiting_on w.key before == 0) rest
    by false rest = rest

-- ## Tasks

-- no task is at hand, and the table is whole
abbrev pub FreeWhole : Leader → Type 0
FreeWhole l = IsWhole l × (l.task ≡ pendings.Nothing)

accepted_whole : (from : ℕ) (l : Leader) → IsWhole l → IsWhole (accepted_by from l)
accepted_whole from l whole = record { stages = whole.stages; task = whole.task; index = whole.index }

pub if_map : (P Q : Leader → Type 0) → ((l : Leader) → P l → Q l) → (phase : Phase) → IfLeading P phase → IfLeading Q phase
if_map P Q f (phases.Leading l) holds = f l.leader holds
if_map P Q f (phases.Following g) holds = tt
if_map P Q f (phases.Probing p) holds = tt
if_map P Q f (phases.Electing e) holds = tt

-- nobody leads once a leader stepped down
none_stopped : (Q : Leader → Type 0) (phase : Phase) → IfLeading Q (stopped_leading phase)
none_stopped Q (phases.Leading l) = tt
none_stopped Q (phases.Following f) = tt
none_stopped Q (phases.Probing p) = tt
none_stopped Q (phases.Electing e) = tt

none_untrusted : (Q : Leader → Type 0) (phase : Phase) → IfLeading Q (without_candidacy (stopped_leading phase))
none_untrusted Q (phases.Leading l) = tt
none_untrusted Q (phases.Following f) = tt
none_untrusted Q (phases.Probing p) = tt
none_untrusted Q (phases.Electing e) = given_up e
  where
    given_up : (election : Election) → IfLeading Q (without_candidacy (phases.Electing election))
    given_up (Starting new accepts age) = tt
    given_up (Preparing base promises sent age) = tt

-- the keys of the tasks
abbrev pub keys_in : List Task → List (List ℕ)
keys_in [] = []
keys_in (tasks.Phase n ∷ ts) = keys_in ts
keys_in (tasks.Remind ∷ ts) = keys_in ts
keys_in (tasks.Key n key ∷ ts) = key ∷ keys_in ts
keys_in (tasks.Again n key seen ∷ ts) = key ∷ keys_in ts

-- each of the tasks begins without a task at hand; what reminds comes last
abbrev pub AllStart : List Task → Type 0
AllStart [] = Unit {0}
AllStart (tasks.Phase n ∷ ts) = ⊥
AllStart (tasks.Remind ∷ ts) = ts ≡ []
AllStart (tasks.Key n key ∷ ts) = (is_start n ≡ true) × AllStart ts
AllStart (tasks.Again n key seen ∷ ts) = ⊥

-- the leader is ready for the rule on the key, which does not check, and none of the other keys checks
pub record OnKey (n : KeyRule) (key : List ℕ) (others : List (List ℕ)) (l : Leader) : Type 0 where
  pub whole : IsWhole l
  pub ready : IsReady n key l
  pub clear : IsClear l key
  pub rest : All (IsClear l) others

-- a leader is ready for the tasks, which are about different keys; a rule of phases comes last, where it may run
abbrev pub Ready : List Task → Phase → Type 0
Ready [] phase = LeadsWhole phase
Ready (tasks.Phase n ∷ ts) phase = LeadsWhole phase × (ts ≡ []) × Needs n phase
Ready (tasks.Remind ∷ ts) phase = LeadsWhole phase × (ts ≡ [])
Ready (tasks.Key n key ∷ ts) phase = IfLeading (OnKey n key (keys_in ts)) phase × AllStart ts × AreDistinct (key ∷ keys_in ts)
Ready (tasks.Again n key seen ∷ ts) phase = IfLeading (OnKey n key (keys_in ts)) phase × AllStart ts × AreDistinct (key ∷ keys_in ts)

pub ready_whole : (ts : List Task) (phase : Phase) → Ready ts phase → LeadsWhole phase
ready_whole [] phase ready = ready
ready_whole (tasks.Phase n ∷ ts) phase ready = ready.0
ready_whole (tasks.Remind ∷ ts) phase ready = ready.0
ready_whole (tasks.Key n key ∷ ts) phase ready = if_map (OnKey n key (keys_in ts)) IsWhole (λ l on. on.whole) phase ready.0
ready_whole (tasks.Again n key seen ∷ ts) phase ready = if_map (OnKey n key (keys_in ts)) IsWhole (λ l on. on.whole) phase ready.0

-- between tasks: no task is at hand, and none of these keys checks
abbrev pub Between : List (List ℕ) → Leader → Type 0
Between keys l = FreeWhole l × All (IsClear l) keys

pub tail_ready : (ts : List Task) (phase : Phase) → AllStart ts → AreDistinct (keys_in ts) → IfLeading (Between (keys_in ts)) phase → Ready ts phase
tail_ready [] phase start apart free = if_map (Between []) IsWhole (λ l h. h.0.0) phase free
tail_ready (tasks.Remind ∷ ts) phase start apart free = (if_map (Between (keys_in ts)) IsWhole (λ l h. h.0.0) phase free, start)
tail_ready (tasks.Key n key ∷ ts) phase start apart free = (
  if_map (Between (key ∷ keys_in ts)) (OnKey n key (keys_in ts))
      (λ l h. record { whole = h.0.0; ready = subst (λ (task : LeadTask). FitsRule n key l task) (sym h.0.1) start.0; clear = All-head (IsClear l) key (keys_in ts) h.1; rest = All-tail (IsClear l) key (keys_in ts) h.1 }) phase free,
  start.1,
  apart,
)
tail_ready (tasks.Phase n ∷ ts) phase start apart free = absurd start
tail_ready (tasks.Again n key seen ∷ ts) phase start apart free = absurd start

-- a rule on a key leaves every other key as it was
kept_clear : (key : List ℕ) (keys : List (List ℕ)) (l m : Leader) → KeepsOthers key l.table m.table → (key ∈ keys → ⊥) → All (IsClear l) keys → All (IsClear m) keys
kept_clear key [] l m others apart clear = All-nil (IsClear m)
kept_clear key (k ∷ keys) l m others apart clear =
    All-cons (IsClear m) k keys (by (same_bytes key k) refl) (kept_clear key keys l m others (λ there. apart (inr there)) (All-tail (IsClear l) k keys clear))
  where
    by : (b : Bool) → same_bytes key k ≡ b → IsClear m k
    by true on = absurd (apart (inl (bytes_same key k on)))
    by false off = ap (λ (row : KeyRow). check_round row.stage) (others k off) ∙ All-head (IsClear l) k keys clear

-- ## Rows of a leader

-- what a row on the key does
pub record Led (key : List ℕ) (l : Leader) (r : Leader × LeadOut) : Type 0 where
  pub stays : StaysWhole key r
  pub ready : IsReadyFor key r.1.own r.1.then r.0
  pub names : NamesOn key r.1.then r.1.keys
  pub on : OwnOn key r.1.own
  pub others : KeepsOthers key l.table r.0.table

pub key_led : (rule : KeyRule) (key : List ℕ) (seen : Seen) (l : Leader) → IsWhole l → IsClear l key → IsReady rule key l → Led key l (lead_row rule key seen l)
key_led rule key seen l whole clear ready =
    let step = lead_step rule key seen l in
    record { stays = (rule_so key seen l whole clear rule).stays; ready = step.ready ready; names = step.names; on = lead_own rule key seen l ready; others = step.others }

-- whom a row on the key answers, and with which replies; a leader that steps down answers nobody so
record Answering (key : List ℕ) (l : Leader) (r : Leader × LeadOut) : Type 0 where
  serves : Serves key l.table r.0.table r.1.answers r.1.notes
  given : AreGiven r.1
  quiet : r.1.leave ≡ true → r.1.answers ≡ []

-- both
abbrev Serving : List ℕ → Leader → Leader × LeadOut → Type 0
Serving key l r = Led key l r × Answering key l r

key_serves : (rule : KeyRule) (key : List ℕ) (seen : Seen) (l : Leader) → IsWhole l → IsClear l key → IsReady rule key l → Serving key l (lead_row rule key seen l)
key_serves rule key seen l whole clear ready =
    let so = rule_so key seen l whole clear rule in
    (key_led rule key seen l whole clear ready, record { serves = (lead_step rule key seen l).serves; given = so.given; quiet = so.quiet })

-- ## What a part of a step keeps

-- What holds of the calls, the answers and the replies to requests is kept: when a leader steps down, and by a
-- rule on a key whose replies come with their notes.
pub record KeepsGiven (I : List Waiting → List AnswerOut → List Bool → Type 0) : Type 0 where
  pub left : (calls : List Waiting) (answers : List AnswerOut) (taken : List Bool) → I calls answers taken → I [] (answers ++ map left_answer calls) taken
  pub served : (key : List ℕ) (old new : CallTable) (more : List AnswerOut) (notes : List Note) (answers : List AnswerOut) (taken : List Bool) → Serves key old new more notes → All (λ a. IsGivenFor notes a.reply) more
      → I old.calls answers taken → I new.calls (answers ++ more) taken

-- what holds after a row of a leader
abbrev pub After : (List Waiting → List AnswerOut → List Bool → Type 0) → Leader × LeadOut → Out → Type 0
After I r out = I (left_calls r.1.leave r.0.table.calls) (left_given r.1.leave r.0.table.calls out.answers ++ r.1.answers) out.changes

served_after : (I : List Waiting → List AnswerOut → List Bool → Type 0) → KeepsGiven I → (key : List ℕ) (l : Leader) (r : Leader × LeadOut) (out : Out) → Answering key l r → I l.table.calls out.answers out.changes → After I r out
served_after I keeps key l r out row good = by r.1.leave row.quiet (keeps.served key l.table r.0.table r.1.answers r.1.notes out.answers out.changes row.serves row.given good)
  where
    by : (leave : Bool) → (leave ≡ true → r.1.answers ≡ []) → I r.0.table.calls (out.answers ++ r.1.answers) out.changes → I (left_calls leave r.0.table.calls) (left_given leave r.0.table.calls out.answers ++ r.1.answers) out.changes
    by false quiet kept = kept
    by true quiet kept =
        let none : r.1.answers ≡ [] = quiet refl in
        let before : I r.0.table.calls out.answers out.changes = subst (λ (answers : List AnswerOut). I r.0.table.calls answers out.changes) (ap (λ (more : List AnswerOut). out.answers ++ more) none ∙ append-nil out.answers) kept in
        subst (λ (answers : List AnswerOut). I [] answers out.changes) (sym (ap (λ (more : List AnswerOut). (out.answers ++ map left_answer r.0.table.calls) ++ more) none ∙ append-nil (out.answers ++ map left_answer r.0.table.calls)))
        (keeps.left r.0.table.calls out.answers out.changes before)

-- ## What an event begins with

module _ (I : List Waiting → List AnswerOut → List Bool → Type 0) where
  -- what holds once a tick came
  abbrev pub TickComes : Phase → Out → Type 0
  TickComes (phases.Leading l) out = After I (tick_row (end_of (older l.change)) l.leader) out
  TickComes (phases.Following f) out = I [] out.answers out.changes
  TickComes (phases.Probing p) out = I [] out.answers out.changes
  TickComes (phases.Electing e) out = I [] out.answers out.changes

  -- what holds once a call came
  abbrev pub CallComes : CallIn → Phase → Out → Type 0
  CallComes call (phases.Leading l) out = After I (row_27 call.from call.id call.key call.command (has_begun l.change) l.leader) out
  CallComes call (phases.Following f) out = I [] (out.answers ++ unavailable call ∷ []) out.changes
  CallComes call (phases.Probing p) out = I [] (out.answers ++ unavailable call ∷ []) out.changes
  CallComes call (phases.Electing e) out = I [] (out.answers ++ unavailable call ∷ []) out.changes

  -- what holds as a step begins: what an event makes of it
  abbrev pub Comes : Event → State → Out → Type 0
  Comes (events.Deliver from message) x out = I (unanswered x.phase) out.answers out.changes
  Comes events.Tick x out = TickComes x.phase out
  Comes (events.Call call) x out = CallComes call x.phase out
  Comes (events.Change view) x out = I (unanswered x.phase) out.answers (out.changes ++ (asked_change view x).1.1 ∷ [])

module _ (me : ℕ) (I : List Waiting → List AnswerOut → List Bool → Type 0) (keeps : KeepsGiven I) (P : State → Out → Type 0) where
  -- it holds here
  abbrev Good : State → Out → Type 0
  Good y o = I (unanswered y.phase) o.answers o.changes

  -- what follows a task before these tasks
  abbrev pub GoesBefore : List Task → Rest State (List Task) → Type 0
  GoesBefore ts next = (more : List Task) (y : State) (o : Out) → Ready (more ++ ts) y.phase → Good y o → Follows IsStepCall P (next more y o)

  module _ (key : List ℕ) (ts : List Task) (start : AllStart ts) (apart : AreDistinct (key ∷ keys_in ts)) where
    -- what is known of a leader after the row
    abbrev Stands : Option Own → Then → List (List ℕ) → Leader → Type 0
    Stands own turn keys l = IsWhole l × IsReadyFor key own turn l × All (IsClear l) keys × (IsSome own → IsClear l key) × All (IsClear l) (keys_in ts)

    turned_ready : (turn : Then) (keys : List (List ℕ)) (x : State) → NamesOn key turn keys → IfLeading (Stands None turn keys) x.phase → Ready (keyed turn keys ++ ts) (turned me turn x).phase
    turned_ready thens.Stay keys x names after = tail_ready ts x.phase start apart.1 (if_map (Stands None thens.Stay keys) (Between (keys_in ts)) (λ l h. ((h.0, h.1), h.4)) x.phase after)
    turned_ready thens.Untrust keys x names after = tail_ready ts (turned me thens.Untrust x).phase start apart.1 (none_untrusted (Between (keys_in ts)) x.phase)
    turned_ready (thens.OnKeys m) keys x names after =
        subst (λ (ks : List (List ℕ)). Ready (keyed (thens.OnKeys m) ks ++ ts) x.phase) (sym names)
        (if_map (Stands None (thens.OnKeys m) keys) (OnKey m key (keys_in ts)) (λ l h. record { whole = h.0; ready = h.1; clear = All-head (IsClear l) key [] (subst (All (IsClear l)) names h.2); rest = h.4 }) x.phase after, start, apart)
    turned_ready (thens.Rule r) keys x names after = absurd names
    turned_ready thens.Follow keys x names after = absurd names
    turned_ready (thens.Lead fact) keys x names after = absurd names
    turned_ready thens.Put keys x names after = absurd names
    turned_ready thens.Resume keys x names after = absurd names
    turned_ready (thens.SyncOn fact) keys x names after = absurd names

    followed_up_before : (own : Option Own) (turn : Then) (keys : List (List ℕ)) (x : State) (out : Out) (next : Rest State (List Task)) → NamesOn key turn keys → OwnOn key own → IfLeading (Stands own turn keys) x.phase → Good x out → GoesBefore ts next
        → Follows IsStepCall P (followed_up me own turn keys x out next)
    followed_up_before None turn keys x out next names on after good go = go (keyed turn keys) (turned me turn x) (turned_answers turn x out) (turned_ready turn keys x names after) (turned_good me I keeps.left turn x out good)
    followed_up_before (Some own) turn keys x out next names on after good go =
        owned_asks P own x out (λ seen y o. next (tasks.Again (asked_by own) (own_key own) seen ∷ []) y o)
        (λ seen seal. go (tasks.Again (asked_by own) (own_key own) seen ∷ []) (record x { seal = seal }) out
        (subst (λ (k : List ℕ). IfLeading (OnKey (asked_by own) k (keys_in ts)) x.phase × AllStart ts × AreDistinct (k ∷ keys_in ts)) (sym on)
        (if_map (Stands (Some own) turn keys) (OnKey (asked_by own) key (keys_in ts)) (λ l h. record { whole = h.0; ready = h.1; clear = h.3 refl; rest = h.4 }) x.phase after, start, apart)) good)

    left_after : (own : Option Own) (turn : Then) (keys : List (List ℕ)) (leave : Bool) (x : State) → IfLeading (Stands own turn keys) x.phase → IfLeading (Stands own turn keys) (left leave x).phase
    left_after own turn keys true x after = none_stopped (Stands own turn keys) x.phase
    left_after own turn keys false x after = after

    lead_done_before : (l : Leader) (r : Leader × LeadOut) (m : Leadership) (x : State) (out : Out) (next : Rest State (List Task)) → Led key l r → All (IsClear l) (keys_in ts) → After I r out → GoesBefore ts next
        → Follows IsStepCall P (lead_done me r.1 (leading (with_leader r.0 m) x) out next)
    lead_done_before l r m x out next led clear good go =
        let y : State = leading (with_leader r.0 m) x in
        noted_follows P r.1.notes (followed_up me r.1.own r.1.then r.1.keys (left r.1.leave y) (and_row r.1 y out) next)
        (followed_up_before r.1.own r.1.then r.1.keys (left r.1.leave y) (and_row r.1 y out) next led.names led.on
        (left_after r.1.own r.1.then r.1.keys r.1.leave y (led.stays.whole, led.ready, led.stays.clear, led.stays.own, kept_clear key (keys_in ts) l r.0 led.others apart.0 clear)) (left_row I r.1.leave (with_leader r.0 m) x out r.1.answers good) go)

    -- nobody leads, so nothing happens
    none_before : (phase : Phase) (x : State) (out : Out) (next : Rest State (List Task)) → x.phase ≡ phase → IfLeading (Between (keys_in ts)) phase → Good x out → GoesBefore ts next → Follows IsStepCall P (next [] x out)
    none_before phase x out next same free good go = go [] x out (tail_ready ts x.phase start apart.1 (subst (IfLeading (Between (keys_in ts))) (sym same) free)) good

    -- a rule on a key, in any phase
    lead_before : (row : Leader → Leader × LeadOut) (phase : Phase) (x : State) (out : Out) (next : Rest State (List Task)) → x.phase ≡ phase → IfLeading (λ l. Serving key l (row l) × All (IsClear l) (keys_in ts)) phase → Good x out → GoesBefore ts next
        → Follows IsStepCall P (lead row me phase x out next)
    lead_before row (phases.Leading l) x out next same led good go =
        lead_done_before l.leader (row l.leader) l x out next led.0.0 led.1
        (served_after I keeps key l.leader (row l.leader) out led.0.1 (subst (λ (phase : Phase). I (unanswered phase) out.answers out.changes) same good)) go
    lead_before row (phases.Following f) x out next same led good go = none_before (phases.Following f) x out next same tt good go
    lead_before row (phases.Probing p) x out next same led good go = none_before (phases.Probing p) x out next same tt good go
    lead_before row (phases.Electing e) x out next same led good go = none_before (phases.Electing e) x out next same tt good go

  -- ## Rows of phases, and syncs

  abbrev Goes : Rest State (List Task) → Type 0
  Goes next = GoesBefore [] next

  -- the table is whole, and what is kept holds
  abbrev Whole : State → Out → Type 0
  Whole x out = LeadsWhole x.phase × Good x out

  abbrev Passes : Part State (List Task) → Type 0
  Passes part = (x : State) (out : Out) (next : Rest State (List Task)) → Whole x out → Goes next → Follows IsStepCall P (part x out next)

  named_ready : (turn : Then) (phase : Phase) → NamesFit turn phase → LeadsWhole phase → Ready (named turn ++ []) phase
  named_ready (thens.Rule n) phase fits free = (free, refl, fits)
  named_ready (thens.OnKeys n) phase fits free = free
  named_ready thens.Stay phase fits free = free
  named_ready thens.Follow phase fits free = free
  named_ready (thens.Lead fact) phase fits free = free
  named_ready thens.Untrust phase fits free = free
  named_ready thens.Put phase fits free = free
  named_ready thens.Resume phase fits free = free
  named_ready (thens.SyncOn fact) phase fits free = free

  -- the fact is saved; what holds of the phase stays
  saved_passes : (save : Option Fact) (x : State) (out : Out) (next : Rest State (Unit {0})) (Q : Phase → Type 0) → Q x.phase → ((y : State) → Q y.phase → Follows IsStepCall P (next tt y out)) → Follows IsStepCall P (saved save x out next)
  unfolding asked
  saved_passes None x out next Q holds go = go x holds
  saved_passes (Some fact) x out next Q holds go = (tt, λ u. go (record x { fact = fact }) holds)

  sealed_if_passes : (seals : Bool) (fact : Fact) (x : State) (out : Out) (next : Rest State (Unit {0})) → Whole x out → ((y : State) → Whole y out → Follows IsStepCall P (next tt y out)) → Follows IsStepCall P (sealed_if seals fact x out next)
  sealed_if_passes true fact x out next good go = sealed_asks P fact x out next (λ seal. go (record x { fact = fact; seal = seal }) good)
  sealed_if_passes false fact x out next good go = saved_passes (Some fact) x out next (λ phase. LeadsWhole phase × I (unanswered phase) out.answers out.changes) good go

  accepted_own_passes : (e : Election) (x : State) (out : Out) (next : Rest State (List Task)) → unanswered x.phase ≡ [] → Whole x out → Goes next → Follows IsStepCall P (accepted_own me e x out next)
  accepted_own_passes (Starting new accepts age) x out next none good go =
      go (tasks.Phase phase_rules.EnoughAccepted ∷ []) (electing (Starting new (joined me accepts) age) x) out (tt, refl, tt) (subst (λ (calls : List Waiting). I calls out.answers out.changes) none good.1)
  accepted_own_passes (Preparing base promises sent age) x out next none good go = go [] x out good.0 good.1

  accepted_in_passes : (fact : Fact) (phase : Phase) (x : State) (out : Out) (next : Rest State (List Task)) → unanswered x.phase ≡ unanswered phase → Whole x out → Goes next → Follows IsStepCall P (accepted_in me fact phase x out next)
  accepted_in_passes fact (phases.Electing e) x out next same good go = accepted_own_passes e x out next same good go
  accepted_in_passes fact (phases.Following f) x out next same good go = go [] x (and_sends out (accepted me fact)) good.0 good.1
  accepted_in_passes fact (phases.Probing p) x out next same good go = go [] x out good.0 good.1
  accepted_in_passes fact (phases.Leading l) x out next same good go = go [] x out good.0 good.1

  by_outcome_passes : (r : Running) (outcome : Outcome) → Passes (by_outcome me r outcome)
  by_outcome_passes r Pending x out next good go = go [] (with_sync r x) out good.0 good.1
  by_outcome_passes r (Trusted entries) x out next good go =
      installed_asks P (needs_build r.sync.scan entries) entries (without_sync x) out
      (λ u y o. sealed_if (keeps_seal y) r.fact y o (λ v z p. accepted_in me r.fact z.phase (record z { trusted = true }) p next))
      (λ u. sealed_if_passes (keeps_seal (without_sync x)) r.fact (without_sync x) out (λ v z p. accepted_in me r.fact z.phase (record z { trusted = true }) p next) good
      (λ z fine. accepted_in_passes r.fact z.phase (record z { trusted = true }) out next refl fine go))

  go_on_passes : (r : Running × List Outgoing) → Passes (go_on me r)
  go_on_passes r x out next good go = by_outcome_passes r.0 (outcome_of r.0.sync) x (and_sends out r.1) next good go

  resumed_passes : (running : Option Running) → Passes (resume_sync running)
  resumed_passes None x out next good go = go [] x out good.0 good.1
  resumed_passes (Some r) x out next good go = go [] (with_sync (row_resume r).0 x) (and_sends out (row_resume r).1) good.0 good.1

  followed_on_passes : (t : Then) (x : State) (out : Out) (next : Rest State (List Task)) → NamesFit t x.phase → Whole x out → Goes next → Follows IsStepCall P (followed_on me t x out next)
  followed_on_passes (thens.SyncOn fact) x out next fits good go =
      asked_asks P ScanTree tt x out (λ scan y o. go_on me (row_start fact me y.trusted scan) y o next) (λ scan. go_on_passes (row_start fact me x.trusted scan) x out next good go)
  followed_on_passes thens.Resume x out next fits good go = resumed_passes x.sync x out next good go
  followed_on_passes (thens.Rule n) x out next fits good go = go (named (thens.Rule n)) x out (named_ready (thens.Rule n) x.phase fits good.0) good.1
  followed_on_passes (thens.OnKeys n) x out next fits good go = go [] x out good.0 good.1
  followed_on_passes thens.Stay x out next fits good go = go [] x out good.0 good.1
  followed_on_passes thens.Follow x out next fits good go = go [] x out good.0 good.1
  followed_on_passes (thens.Lead fact) x out next fits good go = go [] x out good.0 good.1
  followed_on_passes thens.Untrust x out next fits good go = go [] x out good.0 good.1
  followed_on_passes thens.Put x out next fits good go = go [] x out good.0 good.1

  take_give_passes : (tree : TreeVersion) (from : ℕ) (give : Give) (own : Option (List ℕ)) (running : Option Running) → Passes (take_give tree me from give own running)
  take_give_passes tree from give own None x out next good go = go [] x out good.0 good.1
  take_give_passes tree from give own (Some r) x out next good go = go_on_passes (row_take tree from give own r) x out next good go

  row_done_passes : (row : PhaseOut) (x : State) (out : Out) (next : Rest State (List Task)) → NamesFit row.then (left row.leave x).phase → Whole x out → Goes next → Follows IsStepCall P (row_done me row x out next)
  row_done_passes row x out next fits good go =
      let o : Out = left_answers row.leave x out in
      let sent : Out = and_sends o (posted_to row.to row.message) in
      saved_passes row.save (left row.leave x) o
      (λ u y p. followed_on me row.then (turned me row.then y) (turned_answers row.then y (and_sends p (posted_to row.to row.message))) next)
      (λ phase. NamesFit row.then phase × LeadsWhole phase × I (unanswered phase) o.answers o.changes) (fits, left_keeps IsWhole new_whole accepted_whole row.leave x good.0, left_good me I keeps.left row.leave x out good.1)
      (λ y fine.
      followed_on_passes row.then (turned me row.then y) (turned_answers row.then y sent) next (turned_fits me row.then y fine.0)
      (turned_keeps IsWhole new_whole accepted_whole me row.then y fine.1, turned_good me I keeps.left row.then y sent fine.2) go)

  -- a row that keeps the calls
  fits_passes : (x : State) (r : State × PhaseOut) (out : Out) (next : Rest State (List Task)) → Fits x r → LeadsWhole r.0.phase → Good x out → Goes next → Follows IsStepCall P (row_done me r.1 r.0 out next)
  fits_passes x r out next fits whole good go = row_done_passes r.1 r.0 out next fits.1 (whole, subst (λ (calls : List Waiting). I calls out.answers out.changes) (sym fits.0) good) go

  safe_passes : (row : PhaseOut) → SafeRow row → Passes (row_done me row)
  safe_passes row safe x out next good go = row_done_passes row x out next (safe_fits row.then (left row.leave x).phase safe) good go

  begins_fits : (change : ChangeState) (phase : Phase) → NamesFit (begins change) phase
  begins_fits Settled phase = tt
  begins_fits (Wanted change) phase = tt
  begins_fits (Finishes f) phase = tt

  reminded_passes : (phase : Phase) (x : State) (out : Out) (next : Rest State (List Task)) → x.phase ≡ phase → Whole x out → Goes next → Follows IsStepCall P (reminded phase x out next)
  reminded_passes (phases.Leading l) x out next same good go =
      let m : Leadership = record l { change = wished l.leader.fact l.change } in
      go (named (begins m.change)) (leading m x) (and_sends out (ticks x.fact l)) (named_ready (begins m.change) (phases.Leading m) (begins_fits m.change (phases.Leading m)) (subst LeadsWhole same good.0))
      (subst (λ (phase : Phase). I (unanswered phase) out.answers out.changes) same good.1)
  reminded_passes (phases.Following f) x out next same good go = go [] x out good.0 good.1
  reminded_passes (phases.Probing p) x out next same good go = go [] x out good.0 good.1
  reminded_passes (phases.Electing e) x out next same good go = go [] x out good.0 good.1

  -- one task before others
  task_done_before : (t : Task) (ts : List Task) (x : State) (out : Out) (next : Rest State (List Task)) → Ready (t ∷ ts) x.phase → Good x out → GoesBefore ts next → Follows IsStepCall P (task_done me t x out next)
  task_done_before (tasks.Phase n) ts x out next (free, last, need) good go =
      fits_passes x (phase_row n me x) out next (phase_row_fits n me x need) (phase_row_keeps IsWhole new_whole accepted_whole n me x free) good (subst (λ (us : List Task). GoesBefore us next) last go)
  task_done_before tasks.Remind ts x out next (free, last) good go = reminded_passes x.phase x out next refl (free, good) (subst (λ (us : List Task). GoesBefore us next) last go)
  task_done_before (tasks.Key n key) ts x out next (on, start, apart) good go =
      lead_before key ts start apart (lead_row n key seens.Nothing) x.phase x out next refl
      (if_map (OnKey n key (keys_in ts)) (λ l. Serving key l (lead_row n key seens.Nothing l) × All (IsClear l) (keys_in ts)) (λ l h. (key_serves n key seens.Nothing l h.whole h.clear h.ready, h.rest)) x.phase on) good go
  task_done_before (tasks.Again n key seen) ts x out next (on, start, apart) good go =
      lead_before key ts start apart (lead_row n key seen) x.phase x out next refl
      (if_map (OnKey n key (keys_in ts)) (λ l. Serving key l (lead_row n key seen l) × All (IsClear l) (keys_in ts)) (λ l h. (key_serves n key seen l h.whole h.clear h.ready, h.rest)) x.phase on) good go

  -- the end is reached whatever tasks are left
  driven_whole : (n : ℕ) (ts : List Task) (x : State) (out : Out) (next : Rest State (List Task)) → Ready ts x.phase → Good x out → ((us : List Task) (y : State) (o : Out) → Ready us y.phase → Good y o → Follows IsStepCall P (next us y o))
      → Follows IsStepCall P (driven me n ts x out next)
  unfolding driven
  driven_whole zero ts x out next ready good end = end ts x out ready good
  driven_whole (suc n) [] x out next ready good end = end [] x out ready good
  driven_whole (suc n) (t ∷ ts) x out next ready good end =
      task_done_before t ts x out (λ more y o. driven me n (more ++ ts) y o next) ready good (λ more y o still fine. driven_whole n (more ++ ts) y o next still fine end)

  -- ## Events

  -- between steps: a leader is at rest, and its table is whole
  abbrev Base : Leader → Type 0
  Base l = IsAtRest l × IsWhole l

  base_whole : (phase : Phase) → IfLeading Base phase → LeadsWhole phase
  base_whole phase base = if_map Base IsWhole (λ l h. h.1) phase base

  -- a row on one key, with no task behind it
  row_before : (key : List ℕ) (row : Leader → Leader × LeadOut) (x : State) (out : Out) (next : Rest State (List Task)) → ((l : Leader) → Base l → Serving key l (row l)) → IfLeading Base x.phase → Good x out → Goes next
      → Follows IsStepCall P (lead row me x.phase x out next)
  row_before key row x out next led base good go =
      lead_before key [] tt ((λ here. here), tt) row x.phase x out next refl (if_map Base (λ l. Serving key l (row l) × All (IsClear l) []) (λ l h. (led l h, All-nil (IsClear l))) x.phase base) good go

  got_led : (from : ℕ) (ballot : Epoch) (round : ℕ) (key : List ℕ) (entry : Option Entry) (object : Option Object) (l : Leader) → Base l → Serving key l (row_29_reply from ballot round key entry object l)
  got_led from ballot round key entry object l base =
      let step = row_29_reply_step from ballot round key entry object l in
      let so = got_so from ballot round key entry object l base.1 in (
        record { stays = so.stays; ready = step.ready base.0; names = step.names; on = look_own key_rules.Read key (row_29_reply from ballot round key entry object l).1.own (λ is. cc is) step.asks; others = step.others },
        record { serves = step.serves; given = so.given; quiet = so.quiet },
      )

  put_led : (from : ℕ) (ballot : Epoch) (key : List ℕ) (version : Version) (l : Leader) → Base l → Serving key l (row_35_reply from ballot key version l)
  put_led from ballot key version l base =
      let step = row_35_reply_step from ballot key version l in
      let so = put_reply_so from ballot key version l base.1 in (
        record { stays = so.stays; ready = step.ready base.0; names = step.names; on = reply_own from ballot key version l; others = step.others },
        record { serves = step.serves; given = so.given; quiet = so.quiet },
      )

  joined_led : (from id : ℕ) (key : List ℕ) (command : Command) (ends : Bool) (l : Leader) → Base l → Led key l (row_27 from id key command ends l)
  joined_led from id key command ends l base =
      let joins = row_27_joins from id key command ends l in
      let r = row_27 from id key command ends l in
      record {
        stays = joined_so from id key command ends l base.1 base.0.calm;
        ready = subst (λ (own : Option Own). IsReadyFor key own r.1.then r.0) (sym joins.own) (joins.ready base.0);
        names = joins.names;
        on = subst (OwnOn key) (sym joins.own) tt;
        others = joins.others;
      }

  -- a reply to a check asks the stores nothing
  no_own : (key : List ℕ) (own : Option Own) → AsksOn key_rules.Check key own → IsSome own → ⊥
  no_own key None asks some = false≢true some
  no_own key (Some (owns.Fetch k)) asks some = cc asks.1
  no_own key (Some (owns.Look k)) asks some = cc asks.1
  no_own key (Some (owns.Put o)) asks some = cc asks

  -- nobody leads, so nothing happens
  idle_passes : (phase : Phase) (x : State) (out : Out) (next : Rest State (List Task)) → x.phase ≡ phase → LeadsWhole phase → Good x out → Goes next → Follows IsStepCall P (next [] x out)
  idle_passes phase x out next same whole good go = go [] x out (subst LeadsWhole (sym same) whole) good

  checked_before : (from : ℕ) (ballot : Epoch) (round : ℕ) (phase : Phase) (x : State) (out : Out) (next : Rest State (List Task)) → x.phase ≡ phase → IfLeading Base phase → Good x out → Goes next
      → Follows IsStepCall P (lead (row_33_reply from ballot round) me phase x out next)
  checked_before from ballot round (phases.Leading l) x out next same base good go =
      let step = row_33_reply_step from ballot round l.leader in
      let r = row_33_reply from ballot round l.leader in
      let kept = (checked_reply_so from ballot round l.leader base.1).1 in
      lead_done_before step.0 [] tt ((λ here. here), tt) l.leader r l x out next
      (record {
        stays = record { whole = kept.stays.whole; clear = kept.stays.clear; own = λ some. absurd (no_own step.0 r.1.own step.1.asks some) };
        ready = step.1.ready base.0;
        names = step.1.names;
        on = look_own key_rules.Check step.0 r.1.own (λ is. cc is) step.1.asks;
        others = step.1.others;
      }) (All-nil (IsClear l.leader))
      (served_after I keeps step.0 l.leader r out (record { serves = step.1.serves; given = kept.given; quiet = kept.quiet }) (subst (λ (phase : Phase). I (unanswered phase) out.answers out.changes) same good)) go
  checked_before from ballot round (phases.Following f) x out next same base good go = idle_passes (phases.Following f) x out next same tt good go
  checked_before from ballot round (phases.Probing p) x out next same base good go = idle_passes (phases.Probing p) x out next same tt good go
  checked_before from ballot round (phases.Electing e) x out next same base good go = idle_passes (phases.Electing e) x out next same tt good go

  -- ## A tick

  keys_are : (m : KeyRule) (keys : List (List ℕ)) → keys_in (map (tasks.Key m) keys ++ tasks.Remind ∷ []) ≡ keys
  keys_are m [] = refl
  keys_are m (key ∷ keys) = ap (λ (ks : List (List ℕ)). key ∷ ks) (keys_are m keys)

  all_start : (keys : List (List ℕ)) → AllStart (map (tasks.Key key_rules.StartNextCall) keys ++ tasks.Remind ∷ [])
  all_start [] = refl
  all_start (key ∷ keys) = (refl, all_start keys)

  tick_ready : (late : Bool) (turn : Then) (keys : List (List ℕ)) (x : State) → turn ≡ (if late then thens.Stay else thens.OnKeys key_rules.StartNextCall) → AreDistinct keys → IfLeading (Between keys) x.phase
      → Ready (keyed turn keys ++ tasks.Remind ∷ []) (turned me turn x).phase
  tick_ready true turn keys x is apart between =
      subst (λ (t : Then). Ready (keyed t keys ++ tasks.Remind ∷ []) (turned me t x).phase) (sym is) (if_map (Between keys) IsWhole (λ l h. h.0.0) x.phase between, refl)
  tick_ready false turn keys x is apart between =
      let ts : List Task = map (tasks.Key key_rules.StartNextCall) keys ++ tasks.Remind ∷ [] in
      let same : keys_in ts ≡ keys = keys_are key_rules.StartNextCall keys in
      subst (λ (t : Then). Ready (keyed t keys ++ tasks.Remind ∷ []) (turned me t x).phase) (sym is)
      (tail_ready ts x.phase (all_start keys) (subst AreDistinct (sym same) apart) (if_map (Between keys) (Between (keys_in ts)) (λ l h. (h.0, subst (All (IsClear l)) (sym same) h.1)) x.phase between))

  tick_keys : (late : Bool) (l m : Leader) (calls : List Waiting) → AreDistinct (if◌then◌else◌ {A = Leader × LeadOut} late (m, leaves) (l, timed_out (due calls) (comes (thens.OnKeys key_rules.StartNextCall)))).1.keys
  tick_keys true l m calls = tt
  tick_keys false l m calls = subst AreDistinct (sym (timed_out_keys (due calls) (comes (thens.OnKeys key_rules.StartNextCall)))) (due_keys_differ [] calls)

  ticked_up : (own : Option Own) (turn : Then) (keys : List (List ℕ)) (x : State) (out : Out) (next : Rest State (List Task)) → own ≡ None → Ready (keyed turn keys ++ tasks.Remind ∷ []) (turned me turn x).phase → Good x out → Goes next
      → Follows IsStepCall P (followed_up me own turn keys x out (λ ts y o. next (ts ++ tasks.Remind ∷ []) y o))
  ticked_up None turn keys x out next is ready good go =
      go (keyed turn keys ++ tasks.Remind ∷ []) (turned me turn x) (turned_answers turn x out) (subst (λ (ts : List Task). Ready ts (turned me turn x).phase) (sym (append-nil (keyed turn keys ++ tasks.Remind ∷ []))) ready)
      (turned_good me I keeps.left turn x out good)
  ticked_up (Some own) turn keys x out next is ready good go = absurd cc

  left_between : (keys : List (List ℕ)) (leave : Bool) (x : State) → IfLeading (Between keys) x.phase → IfLeading (Between keys) (left leave x).phase
  left_between keys true x between = none_stopped (Between keys) x.phase
  left_between keys false x between = between

  -- what follows the row of a tick
  ticked_before : (r : Leader × LeadOut) (m : Leadership) (x : State) (out : Out) (next : Rest State (List Task)) → r.1.own ≡ None
      → Ready (keyed r.1.then r.1.keys ++ tasks.Remind ∷ []) (turned me r.1.then (left r.1.leave (leading (with_leader r.0 m) x))).phase → After I r out → Goes next
      → Follows IsStepCall P (lead_done me r.1 (leading (with_leader r.0 m) x) out (λ ts z o. next (ts ++ tasks.Remind ∷ []) z o))
  ticked_before r m x out next own ready came go =
      let y : State = leading (with_leader r.0 m) x in
      noted_follows P r.1.notes (followed_up me r.1.own r.1.then r.1.keys (left r.1.leave y) (and_row r.1 y out) (λ ts z o. next (ts ++ tasks.Remind ∷ []) z o))
      (ticked_up r.1.own r.1.then r.1.keys (left r.1.leave y) (and_row r.1 y out) next own ready (left_row I r.1.leave (with_leader r.0 m) x out r.1.answers came) go)

  led_in_whole : (l : Leadership) (x : State) (out : Out) (next : Rest State (List Task)) → Base l.leader → After I (tick_row (end_of (older l.change)) l.leader) out → Goes next → Follows IsStepCall P (led_in me (phases.Leading l) x out next)
  led_in_whole l x out next base came go =
      let ending : Ending = end_of (older l.change) in
      let r = tick_row ending l.leader in
      let tick = row_5_ticks ending l.leader in
      let so = tick_so ending l.leader base.1 in
      let late : Bool = late_put (aged_table l.leader.table) || is_late ending in
      let y : State = leading (with_leader r.0 (record l { change = older l.change })) x in
      ticked_before r (record l { change = older l.change }) x out next tick.own
      (tick_ready late r.1.then r.1.keys (left r.1.leave y) tick.next (tick_keys late _ _ (map older_call l.leader.table.calls)) (left_between r.1.keys r.1.leave y ((so.0, tick.task ∙ base.0.task), so.1)))
      came go

  -- a tick of a peer that does not lead
  aged_passes : (phase : Phase) (x : State) (out : Out) (next : Rest State (List Task)) → x.phase ≡ phase → unanswered phase ≡ [] → LeadsWhole phase → I [] out.answers out.changes → Goes next → Follows IsStepCall P (row_done me (aged phase me x).1 (aged phase me x).0 out next)
  aged_passes phase x out next same none whole good go =
      fits_passes x (aged phase me x) out next (aged_fits phase me x same) (aged_keeps IsWhole new_whole accepted_whole phase me x (subst LeadsWhole (sym same) whole))
      (subst (λ (calls : List Waiting). I calls out.answers out.changes) (sym (ap unanswered same ∙ none)) good) go

  ticked_whole : (phase : Phase) (x : State) (out : Out) (next : Rest State (List Task)) → x.phase ≡ phase → IfLeading Base phase → TickComes I phase out → Goes next → Follows IsStepCall P (ticked me phase x out next)
  ticked_whole (phases.Leading l) x out next same base came go = led_in_whole l x out next base came go
  ticked_whole (phases.Following f) x out next same base came go = aged_passes (phases.Following f) x out next same refl tt came go
  ticked_whole (phases.Probing p) x out next same base came go = aged_passes (phases.Probing p) x out next same refl tt came go
  ticked_whole (phases.Electing e) x out next same base came go = aged_passes (phases.Electing e) x out next same refl tt came go

  -- ## The rest of a step

  put_done_passes : (turn : Then) (from : ℕ) (ballot : Epoch) (o : Object) (row : PhaseOut) → SafeRow row → Passes (put_done turn me from ballot o row)
  put_done_passes thens.Put from ballot o row safe x out next good go =
      written_asks P o x out (λ seen y p. row_done me (after_put from ballot row seen) y p next) (λ seen seal. safe_passes (after_put from ballot row seen) (safe_after_put from ballot row seen safe) (record x { seal = seal }) out next good go)
  put_done_passes thens.Stay from ballot o row safe x out next good go = safe_passes row safe x out next good go
  put_done_passes thens.Follow from ballot o row safe x out next good go = safe_passes row safe x out next good go
  put_done_passes (thens.Lead fact) from ballot o row safe x out next good go = safe_passes row safe x out next good go
  put_done_passes thens.Untrust from ballot o row safe x out next good go = safe_passes row safe x out next good go
  put_done_passes thens.Resume from ballot o row safe x out next good go = safe_passes row safe x out next good go
  put_done_passes (thens.SyncOn fact) from ballot o row safe x out next good go = safe_passes row safe x out next good go
  put_done_passes (thens.Rule n) from ballot o row safe x out next good go = safe_passes row safe x out next good go
  put_done_passes (thens.OnKeys n) from ballot o row safe x out next good go = safe_passes row safe x out next good go

  got_ask_passes : (from : ℕ) (ballot : Epoch) (q : Question) → Passes (got_ask me from ballot q)
  got_ask_passes from ballot q x out next good go =
      shown_node_asks P x.mode.tree (is_same ballot x.fact.ballot) q x out (λ body y o. row_done me (row_23 y.fact y.trusted from ballot q.position q.after body) y o next)
      (λ body. safe_passes (row_23 x.fact x.trusted from ballot q.position q.after body) (safe_23 x.fact x.trusted from ballot q body) x out next good go)

  tree_give_passes : (from : ℕ) (give : Give) → Passes (tree_give me from give)
  tree_give_passes from give x out next good go =
      own_node_asks P (needs_node x.mode.tree from give x.sync) give.question.position x out (λ own y o. take_give x.mode.tree me from give own y.sync y o next)
      (λ own. take_give_passes x.mode.tree from give own x.sync x out next good go)

  -- a message about a node that the tree does not have does nothing
  in_tree_passes : (has : Bool) (part : Part State (List Task)) → Passes part → Passes (in_tree has part)
  in_tree_passes true part passes x out next good go = passes x out next good go
  in_tree_passes false part passes x out next good go = go [] x out good.0 good.1

  delivered_whole : (from : ℕ) (message : Message) (x : State) (out : Out) (next : Rest State (List Task)) → IfLeading Base x.phase → Good x out → Goes next → Follows IsStepCall P (delivered me from message x out next)
  delivered_whole from (messages.Get ballot round key) x out next base good go =
      shown_asks P (is_served x.fact x.trusted ballot) (looked key) (looked_asks P key) x out (λ seen y o. row_done me (row_21 y.fact y.trusted from ballot round key seen) y o next)
      (λ seen. safe_passes (row_21 x.fact x.trusted from ballot round key seen) (safe_21 x.fact x.trusted from ballot round key seen) x out next (base_whole x.phase base, good) go)
  delivered_whole from (messages.Put ballot o) x out next base good go =
      shown_asks P (is_served x.fact x.trusted ballot) (found o.key) (found_asks P o.key) x out
      (λ seen y p. put_done (row_22 y.fact y.trusted from ballot o seen).then me from ballot o (row_22 y.fact y.trusted from ballot o seen) y p next)
      (λ seen.
      put_done_passes (row_22 x.fact x.trusted from ballot o seen).then from ballot o (row_22 x.fact x.trusted from ballot o seen) (safe_22 x.fact x.trusted from ballot o seen) x out next (base_whole x.phase base, good) go)
  delivered_whole from (messages.GetReply ballot round key entry object) x out next base good go =
      if_follows P (leads x.phase) _ _
      (confirmed_asks P entry object x out (λ named y o. lead (row_29_reply from ballot round key entry named) me y.phase y o next)
      (λ named. row_before key (row_29_reply from ballot round key entry named) x out next (got_led from ballot round key entry named) base good go))
      (go [] x out (base_whole x.phase base) good)
  delivered_whole from (messages.PutReply ballot key version) x out next base good go = row_before key (row_35_reply from ballot key version) x out next (put_led from ballot key version) base good go
  delivered_whole from (messages.CheckReply ballot round) x out next base good go = checked_before from ballot round x.phase x out next refl base good go
  delivered_whole from (messages.TreeAsk ballot at after) x out next base good go =
      let q : Question = record { position = at; after = after } in
      in_tree_passes (has_position x.mode.tree at) (got_ask me from ballot q) (got_ask_passes from ballot q) x out next (base_whole x.phase base, good) go
  delivered_whole from (messages.TreeGive ballot at after trusted body) x out next base good go =
      let give : Give = record { ballot = ballot; question = record { position = at; after = after }; trusted = trusted; body = body } in
      in_tree_passes (has_position x.mode.tree at) (tree_give me from give) (tree_give_passes from give) x out next (base_whole x.phase base, good) go
  delivered_whole from message x out next base good go =
      fits_passes x (received me from message x) out next (received_fits me from message x) (received_keeps IsWhole new_whole accepted_whole me from message x (base_whole x.phase base)) good go

  refused_passes : (call : CallIn) (phase : Phase) (x : State) (out : Out) (next : Rest State (List Task)) → x.phase ≡ phase → unanswered phase ≡ [] → LeadsWhole phase → I [] (out.answers ++ unavailable call ∷ []) out.changes → Goes next
      → Follows IsStepCall P (next [] x (and_answers out (unavailable call ∷ [])))
  refused_passes call phase x out next same none whole came go =
      go [] x (and_answers out (unavailable call ∷ [])) (subst LeadsWhole (sym same) whole) (subst (λ (calls : List Waiting). I calls (out.answers ++ unavailable call ∷ []) out.changes) (sym (ap unanswered same ∙ none)) came)

  called_whole : (call : CallIn) (phase : Phase) (x : State) (out : Out) (next : Rest State (List Task)) → x.phase ≡ phase → IfLeading Base phase → CallComes I call phase out → Goes next
      → Follows IsStepCall P (if leads phase then lead (row_27 call.from call.id call.key call.command (changes phase)) me phase x out next else next [] x (and_answers out (unavailable call ∷ [])))
  called_whole call (phases.Leading l) x out next same base came go =
      lead_done_before call.key [] tt ((λ here. here), tt) l.leader (row_27 call.from call.id call.key call.command (has_begun l.change) l.leader) l x out next
      (joined_led call.from call.id call.key call.command (has_begun l.change) l.leader base) (All-nil (IsClear l.leader)) came go
  called_whole call (phases.Following f) x out next same base came go = refused_passes call (phases.Following f) x out next same refl tt came go
  called_whole call (phases.Probing p) x out next same base came go = refused_passes call (phases.Probing p) x out next same refl tt came go
  called_whole call (phases.Electing e) x out next same base came go = refused_passes call (phases.Electing e) x out next same refl tt came go

  first_whole : (event : Event) (x : State) (out : Out) (next : Rest State (List Task)) → IfLeading Base x.phase → Comes I event x out → Goes next → Follows IsStepCall P (first me event x out next)
  first_whole (events.Deliver from message) x out next base came go = delivered_whole from message x out next base came go
  first_whole events.Tick x out next base came go = ticked_whole x.phase x out next refl base came go
  first_whole (events.Call call) x out next base came go = called_whole call x.phase x out next refl base came go
  first_whole (events.Change view) x out next base came go =
      fits_passes x ((asked_change view x).0, (asked_change view x).1.0) (and_change out (asked_change view x).1.1) next (asked_fits view x) (asked_keeps IsWhole new_whole accepted_whole view x (base_whole x.phase base)) came go

  abbrev onward : Rest State (Unit {0}) → Rest State (List Task)
  onward next ts y o = driven me most_turns ts y o (λ rest z q. next tt z q)

  onward_goes : (next : Rest State (Unit {0})) → ((y : State) (o : Out) → Whole y o → Follows IsStepCall P (next tt y o)) → Goes (onward next)
  onward_goes next go ts y o ready good =
      driven_whole most_turns ts y o (λ rest z q. next tt z q) (subst (λ (us : List Task). Ready us y.phase) (append-nil ts) ready) good (λ us z q left fine. go z q (ready_whole us z.phase left, fine))

  -- each end of a step satisfies P, if a whole table and what is kept give that
  pub step_follows : (event : Event) (x : State) → IfLeading Base x.phase → Comes I event x nothing → ((y : State) (o : Out) → Whole y o → P y o) → Follows IsStepCall P (step_of me event x)
  step_follows event x base came ends =
      first_whole event x nothing (onward (λ u y o. concluded me y o (λ v z q. Done z q))) base came
      (onward_goes (λ u y o. concluded me y o (λ v z q. Done z q))
      (λ y o good. task_done_before (tasks.Phase phase_rules.EndEpoch) [] y o (onward (λ v z q. Done z q)) (good.0, refl, tt) good.1 (onward_goes (λ v z q. Done z q) (λ z q still. ends z q still))))

-- a leader between steps
pub both : (phase : Phase) → IsResting phase → LeadsWhole phase → IfLeading (λ l. IsAtRest l × IsWhole l) phase
both (phases.Leading l) rests whole = (rests, whole)
both (phases.Following f) rests whole = tt
both (phases.Probing p) rests whole = tt
both (phases.Electing e) rests whole = tt

-- nothing is to be kept
abbrev Nothing : List Waiting → List AnswerOut → List Bool → Type 0
Nothing calls answers taken = Unit {0}

nothing_comes : (event : Event) (x : State) → Comes Nothing event x nothing
nothing_comes (events.Deliver from message) x = tt
nothing_comes events.Tick x = by x.phase
  where
    by : (phase : Phase) → TickComes Nothing phase nothing
    by (phases.Leading l) = tt
    by (phases.Following f) = tt
    by (phases.Probing p) = tt
    by (phases.Electing e) = tt
nothing_comes (events.Call call) x = by x.phase
  where
    by : (phase : Phase) → CallComes Nothing call phase nothing
    by (phases.Leading l) = tt
    by (phases.Following f) = tt
    by (phases.Probing p) = tt
    by (phases.Electing e) = tt
nothing_comes (events.Change view) x = tt

-- a step from rest, with a whole table, leaves a whole table
pub step_whole : (me : ℕ) (event : Event) (x : State) → IsResting x.phase → LeadsWhole x.phase → Follows IsStepCall (λ y o. LeadsWhole y.phase) (step_of me event x)
step_whole me event x rests whole =
    step_follows me Nothing (record { left = λ calls answers taken is. tt; served = λ key old new more notes answers taken serves given is. tt }) (λ y o. LeadsWhole y.phase) event x (both x.phase rests whole) (nothing_comes event x) (λ y o still. still.0)
