-- A step from its event to its end: what holds of the unanswered calls, of the answers so far and of the
-- replies to requests to change the view, if each part of a step keeps it.
use Rattle.std.specs.Prelude.{filter}
use Rattle.std.proofs.Common.{◌≡◌, ◌||◌, refl, sym, subst, append-nil, map, ℕ, zero, suc, Bool, true, false, if◌then◌else◌, List, [], ◌∷◌, ◌++◌, Option, Some, None}
use Rattle.call_table.specs.Calls.{is_due, not_due, older as older_call}
use Rattle.call_table.specs.Tables.{late_put}
use Rattle.call_table.specs.declared.table.CallTable.{CallTable}
use Rattle.call_table.specs.declared.waiting.Waiting.{Waiting}
use Rattle.phase_rules.specs.declared.election.Election.{Election}
use Rattle.phase_rules.specs.declared.election.Election.TheVariants.{Preparing, Starting}
use Rattle.ens_base.specs.declared.entry.Entry.{Entry}
use Rattle.ens_base.specs.declared.epoch.Epoch.{Epoch}
use Rattle.ens_base.specs.declared.epoch.Version.{Version}
use Rattle.stored_formats.specs.declared.object.Object.{Object}
use Rattle.tree_exchange.specs.declared.question.Question.{Question}
use Rattle.phase_rules.specs.Refusals.{is_served}
use Rattle.phase_rules.specs.Requests.{row_21, row_22, row_23}
use Rattle.leader_output.specs.Outs.{asked_by}
use Rattle.leader_output.specs.declared.out.AnswerOut.{AnswerOut}
use Rattle.leader_output.specs.declared.out.LeadOut.{LeadOut}
use Rattle.leader_output.specs.declared.out.Outgoing.{Outgoing}
use Rattle.leader_output.specs.declared.out.Own.{Own}
use Rattle.leader.specs.Puts.{row_35_reply}
use Rattle.leader.specs.Rounds.{row_29_reply, row_33_reply}
use Rattle.leader.specs.Rules.{lead_row}
use Rattle.leader.specs.Starts.{row_27}
use Rattle.leader_laws.specs.Steps.{NamesOn, Serves, IsTimely}
use Rattle.leader.specs.Ticks.{Finishing as Ending, is_late, aged as aged_table, row_5_calls as tick_row, left_answer}
use Rattle.leader.specs.declared.leader.Leader.{Leader}
use Rattle.leader_laws.proofs.Joins.{row_27_joins}
use Rattle.leader_laws.proofs.Steps.{lead_step, row_29_reply_step, row_33_reply_step, row_35_reply_step}
use Rattle.leader_laws.proofs.TimeOuts.{row_5_ticks}
use Rattle.stored_formats.specs.declared.fact.Change.{Change}
use Rattle.stored_formats.specs.declared.fact.Fact.{Fact}
use Rattle.peer_spec.specs.Drives.{row_done, own_key, followed_up, and_row, lead_done, lead, reminded, task_done, driven, led_in, got_ask, after_put, put_done, in_tree, delivered, unavailable, first, and_change, most_turns, concluded, step_of}
use Rattle.peer_spec.specs.Kept.{IsStepCall}
use Rattle.peer_spec.specs.Owns.{looked, found}
use Rattle.peer_spec.specs.Syncs.{saved, and_sends, with_sync, accepted, accepted_own, accepted_in, by_outcome, go_on, resume_sync, followed_on, needs_node, take_give, tree_give, sealed_if}
use Rattle.peer_spec.specs.TreeCalls.{has_position}
use Rattle.peer_spec.proofs.Aging.{asked_asks, looked_asks, found_asks, written_asks, confirmed_asks, if_follows, owned_asks, noted_follows, installed_asks, own_node_asks, shown_node_asks, shown_asks, sealed_asks}
use Rattle.peer_state.specs.Leading.{older, end_of, ticks, wished, begins}
use Rattle.peer_state.specs.Moves.{stopped_leading, without_candidacy, left, left_answers, timeouts, turned, turned_answers, leading, with_leader, and_answers, electing, without_sync, keeps_seal}
use Rattle.peer_state.specs.Rows.{aged, phase_row, received, asked_change, leads, changes, has_begun}
use Rattle.peer_state.specs.declared.event.CallIn.{CallIn}
use Rattle.peer_state.specs.declared.event.Event.{Event}
use Rattle.peer_state.specs.declared.event.Event.TheVariants as events
use Rattle.peer_state.specs.declared.state.ChangeState.{ChangeState}
use Rattle.peer_state.specs.declared.state.ChangeState.TheVariants.{Settled, Wanted, Finishing as Finishes}
use Rattle.peer_state.specs.declared.state.Leadership.{Leadership}
use Rattle.peer_state.specs.declared.state.Phase.{Phase}
use Rattle.peer_state.specs.declared.state.Phase.TheVariants as phases
use Rattle.peer_state.specs.declared.state.State.{State}
use Rattle.phase_rows.specs.Orders.{is_same}
use Rattle.phase_rows.specs.Peers.{joined}
use Rattle.phase_rows.specs.declared.phase.PhaseOut.{PhaseOut}
use Rattle.phase_rows.specs.declared.phase.Seen.{Seen}
use Rattle.phase_rows.specs.declared.phase.Seen.TheVariants as seens
use Rattle.phase_rows.specs.declared.phase.Then.{Then}
use Rattle.phase_rows.specs.declared.phase.Then.TheVariants as thens
use Rattle.phase_rows.specs.declared.rules.KeyRule.{KeyRule}
use Rattle.phase_rows.specs.declared.rules.KeyRule.TheVariants as key_rules
use Rattle.phase_rows.specs.declared.rules.PhaseRule.TheVariants as phase_rules
use Rattle.register_model.specs.declared.note.Note.{Note}
use Rattle.tree_sync.specs.Rows.{row_start, row_resume, row_take}
use Rattle.tree_sync.specs.Running.{Running}
use Rattle.tree_sync.specs.declared.asking.Give.{Give}
use Rattle.step_plans.specs.Calls.{ScanTree}
use Rattle.step_plans.specs.Plans.{Done, Out, Rest, Part, Follows, asked, nothing}
use Rattle.step_plans.specs.Sends.{posted_to}
use Rattle.step_plans.specs.Tasks.{named, keyed}
use Rattle.step_plans.specs.declared.tasks.Task.{Task}
use Rattle.step_plans.specs.declared.tasks.Task.TheVariants as tasks
use Rattle.tree_sync.specs.Syncs.{needs_build, outcome_of}
use Rattle.tree_sync.specs.declared.sync.Outcome.{Outcome}
use Rattle.tree_sync.specs.declared.sync.Outcome.TheVariants.{Pending, Trusted}
use Rattle.tree_node.specs.declared.version.TreeVersion.{TreeVersion}
use Rattle.wire_frames.specs.declared.message.Message.{Message}
use Rattle.wire_frames.specs.declared.message.Message.TheVariants as messages
use Rattle.step_laws.specs.Reached.{unanswered}
use Rattle.step_laws.proofs.Counts.{late_calls}
use Rattle.step_laws.proofs.FittingRows.{Needs, NamesFit, safe_fits, SafeRow, safe_21, safe_22, safe_after_put, safe_23, stopped_none, untrusted_none, Fits, phase_row_fits, aged_fits, received_fits, asked_fits}

-- ## What a part of a step keeps

-- the calls that are left, and the answers that are given, if a leader steps down or not
abbrev pub left_calls : Bool → List Waiting → List Waiting
left_calls true calls = []
left_calls false calls = calls

abbrev pub left_given : Bool → List Waiting → List AnswerOut → List AnswerOut
left_given true calls answers = answers ++ map left_answer calls
left_given false calls answers = answers

-- What holds of the calls, the answers and the replies to requests is kept: when a leader steps down, by
-- a rule on a key, and by a tick. Rules on keys and ticks come only if `on_keys`.
pub record Keeps (on_keys : Bool) (I : List Waiting → List AnswerOut → List Bool → Type 0) : Type 0 where
  pub left : (calls : List Waiting) (answers : List AnswerOut) (taken : List Bool) → I calls answers taken → I [] (answers ++ map left_answer calls) taken
  pub served : on_keys ≡ true → (leave : Bool) (key : List ℕ) (old new : CallTable) (more : List AnswerOut) (notes : List Note) (answers : List AnswerOut) (taken : List Bool) → Serves key old new more notes
      → I old.calls answers taken → I (left_calls leave new.calls) (left_given leave new.calls answers ++ more) taken
  pub aged : on_keys ≡ true → (calls : List Waiting) (answers : List AnswerOut) (taken : List Bool) → I calls answers taken → I (map older_call calls) answers taken
  pub due : on_keys ≡ true → (calls : List Waiting) (answers : List AnswerOut) (taken : List Bool) → I calls answers taken → I (not_due calls) (answers ++ map left_answer (filter is_due calls)) taken

-- ## Leading ends

module _ (me : ℕ) (I : List Waiting → List AnswerOut → List Bool → Type 0) (ends : (calls : List Waiting) (answers : List AnswerOut) (taken : List Bool) → I calls answers taken → I [] (answers ++ map left_answer calls) taken) where
  -- in a phase without calls, after the calls of this phase are answered `timeout`
  emptied : (phase : Phase) (answers : List AnswerOut) (taken : List Bool) → I (unanswered phase) answers taken → I [] (answers ++ timeouts phase) taken
  emptied (phases.Leading l) answers taken good = ends l.leader.table.calls answers taken good
  emptied (phases.Following f) answers taken good = ends [] answers taken good
  emptied (phases.Probing p) answers taken good = ends [] answers taken good
  emptied (phases.Electing e) answers taken good = ends [] answers taken good

  emptied_in : (phase after : Phase) (answers : List AnswerOut) (taken : List Bool) → unanswered after ≡ [] → I (unanswered phase) answers taken → I (unanswered after) (answers ++ timeouts phase) taken
  emptied_in phase after answers taken none good = subst (λ (calls : List Waiting). I calls (answers ++ timeouts phase) taken) (sym none) (emptied phase answers taken good)

  pub left_good : (leave : Bool) (x : State) (out : Out) → I (unanswered x.phase) out.answers out.changes → I (unanswered (left leave x).phase) (left_answers leave x out).answers (left_answers leave x out).changes
  left_good true x out good = emptied_in x.phase (stopped_leading x.phase) out.answers out.changes (stopped_none x.phase) good
  left_good false x out good = good

  pub turned_good : (t : Then) (x : State) (out : Out) → I (unanswered x.phase) out.answers out.changes → I (unanswered (turned me t x).phase) (turned_answers t x out).answers (turned_answers t x out).changes
  turned_good thens.Follow x out good = emptied x.phase out.answers out.changes good
  turned_good (thens.Lead fact) x out good = emptied x.phase out.answers out.changes good
  turned_good thens.Untrust x out good = emptied_in x.phase (without_candidacy (stopped_leading x.phase)) out.answers out.changes (untrusted_none x.phase) good
  turned_good thens.Stay x out good = good
  turned_good thens.Put x out good = good
  turned_good thens.Resume x out good = good
  turned_good (thens.SyncOn fact) x out good = good
  turned_good (thens.Rule n) x out good = good
  turned_good (thens.OnKeys n) x out good = good

pub turned_fits : (me : ℕ) (t : Then) (x : State) → NamesFit t x.phase → NamesFit t (turned me t x).phase
turned_fits me (thens.Rule n) x fits = fits
turned_fits me (thens.OnKeys n) x fits = tt
turned_fits me thens.Stay x fits = tt
turned_fits me thens.Follow x fits = tt
turned_fits me (thens.Lead fact) x fits = tt
turned_fits me thens.Untrust x fits = tt
turned_fits me thens.Put x fits = tt
turned_fits me thens.Resume x fits = tt
turned_fits me (thens.SyncOn fact) x fits = tt

-- the calls that are left after a row of a leader, which steps down or not, and the answers that are given
pub left_row : (I : List Waiting → List AnswerOut → List Bool → Type 0) (leave : Bool) (m : Leadership) (x : State) (out : Out) (more : List AnswerOut) → I (left_calls leave m.leader.table.calls) (left_given leave m.leader.table.calls out.answers ++ more) out.changes
    → I (unanswered (left leave (leading m x)).phase) ((left_answers leave (leading m x) out).answers ++ more) (left_answers leave (leading m x) out).changes
left_row I true m x out more good = good
left_row I false m x out more good = good

-- ## Which rules come next

-- a rule on keys comes next only if `on_keys`
abbrev pub TurnKeyed : Bool → Then → Type 0
TurnKeyed on_keys (thens.OnKeys n) = on_keys ≡ true
TurnKeyed on_keys (thens.Rule n) = ⊥
TurnKeyed on_keys other = Unit {0}

abbrev OwnKeyed : Bool → Option Own → Type 0
OwnKeyed on_keys None = Unit {0}
OwnKeyed on_keys (Some own) = on_keys ≡ true

-- whether a leader counts the message for a call
abbrev pub is_reply : Message → Bool
is_reply (messages.GetReply ballot round key entry object) = true
is_reply (messages.PutReply ballot key version) = true
is_reply (messages.CheckReply ballot round) = true
is_reply other = false

-- ## What an event begins with

module _ (on_keys : Bool) (I : List Waiting → List AnswerOut → List Bool → Type 0) where
  -- what holds once a call came
  abbrev pub CallComes : CallIn → Phase → Out → Type 0
  CallComes call (phases.Leading l) out =
      I (row_27 call.from call.id call.key call.command (has_begun l.change) l.leader).0.table.calls (out.answers ++ (row_27 call.from call.id call.key call.command (has_begun l.change) l.leader).1.answers) out.changes
      × TurnKeyed on_keys (row_27 call.from call.id call.key call.command (has_begun l.change) l.leader).1.then
  CallComes call (phases.Following f) out = I [] (out.answers ++ unavailable call ∷ []) out.changes
  CallComes call (phases.Probing p) out = I [] (out.answers ++ unavailable call ∷ []) out.changes
  CallComes call (phases.Electing e) out = I [] (out.answers ++ unavailable call ∷ []) out.changes

  -- what holds as a step begins: it, or what an event makes of it
  abbrev pub Comes : Event → State → Out → Type 0
  Comes (events.Deliver from message) x out = I (unanswered x.phase) out.answers out.changes × (is_reply message ≡ true → on_keys ≡ true)
  Comes events.Tick x out = I (unanswered x.phase) out.answers out.changes × (on_keys ≡ true)
  Comes (events.Call call) x out = CallComes call x.phase out
  Comes (events.Change view) x out = I (unanswered x.phase) out.answers (out.changes ++ (asked_change view x).1.1 ∷ [])

module _ (me : ℕ) (on_keys : Bool) (I : List Waiting → List AnswerOut → List Bool → Type 0) (keeps : Keeps on_keys I) (P : State → Out → Type 0) where
  -- it holds here
  abbrev Good : State → Out → Type 0
  Good y o = I (unanswered y.phase) o.answers o.changes

  -- ## Tasks

  -- the task may run in this phase
  abbrev FitsTask : Task → Phase → Type 0
  FitsTask (tasks.Phase n) phase = Needs n phase
  FitsTask tasks.Remind phase = Unit {0}
  FitsTask (tasks.Key n key) phase = on_keys ≡ true
  FitsTask (tasks.Again n key seen) phase = on_keys ≡ true

  -- the tasks may run in each phase
  abbrev AllFit : List Task → Type 0
  AllFit [] = Unit {0}
  AllFit (t ∷ ts) = ((phase : Phase) → FitsTask t phase) × AllFit ts

  -- the first of the tasks may run in this phase, and the others in each
  abbrev Ready : List Task → Phase → Type 0
  Ready [] phase = Unit {0}
  Ready (t ∷ ts) phase = FitsTask t phase × AllFit ts

  all_ready : (ts : List Task) (phase : Phase) → AllFit ts → Ready ts phase
  all_ready [] phase fit = tt
  all_ready (t ∷ ts) phase fit = (fit.0 phase, fit.1)

  all_more : (more ts : List Task) → AllFit more → AllFit ts → AllFit (more ++ ts)
  all_more [] ts first second = second
  all_more (t ∷ more) ts first second = (first.0, all_more more ts first.1 second)

  ready_more : (more ts : List Task) (phase : Phase) → Ready more phase → AllFit ts → Ready (more ++ ts) phase
  ready_more [] ts phase ready fit = all_ready ts phase fit
  ready_more (t ∷ more) ts phase ready fit = (ready.0, all_more more ts ready.1 fit)

  keys_fit : on_keys ≡ true → (m : KeyRule) (keys : List (List ℕ)) → AllFit (map (tasks.Key m) keys)
  keys_fit is m [] = tt
  keys_fit is m (key ∷ keys) = ((λ phase. is), keys_fit is m keys)

  keyed_fit : (turn : Then) (keys : List (List ℕ)) → TurnKeyed on_keys turn → AllFit (keyed turn keys)
  keyed_fit (thens.OnKeys m) keys is = keys_fit is m keys
  keyed_fit (thens.Rule n) keys is = absurd is
  keyed_fit thens.Stay keys is = tt
  keyed_fit thens.Follow keys is = tt
  keyed_fit (thens.Lead fact) keys is = tt
  keyed_fit thens.Untrust keys is = tt
  keyed_fit thens.Put keys is = tt
  keyed_fit thens.Resume keys is = tt
  keyed_fit (thens.SyncOn fact) keys is = tt

  names_keyed : (key : List ℕ) (turn : Then) (keys : List (List ℕ)) → on_keys ≡ true → NamesOn key turn keys → TurnKeyed on_keys turn
  names_keyed key (thens.OnKeys m) keys is names = is
  names_keyed key thens.Stay keys is names = tt
  names_keyed key thens.Untrust keys is names = tt
  names_keyed key (thens.Rule n) keys is names = absurd names
  names_keyed key thens.Follow keys is names = absurd names
  names_keyed key (thens.Lead fact) keys is names = absurd names
  names_keyed key thens.Put keys is names = absurd names
  names_keyed key thens.Resume keys is names = absurd names
  names_keyed key (thens.SyncOn fact) keys is names = absurd names

  own_keyed : (own : Option Own) → on_keys ≡ true → OwnKeyed on_keys own
  own_keyed None is = tt
  own_keyed (Some own) is = is

  -- ## Parts

  -- from each state in which it holds, and which is ready for the tasks, the end is reached
  abbrev Goes : Rest State (List Task) → Type 0
  Goes next = (ts : List Task) (y : State) (o : Out) → Good y o → Ready ts y.phase → Follows IsStepCall P (next ts y o)

  abbrev Passes : Part State (List Task) → Type 0
  Passes part = (x : State) (out : Out) (next : Rest State (List Task)) → Good x out → Goes next → Follows IsStepCall P (part x out next)

  -- the fact is saved; what holds of the phase stays
  saved_passes : (save : Option Fact) (x : State) (out : Out) (next : Rest State (Unit {0})) (Q : Phase → Type 0) → Q x.phase → ((y : State) → Q y.phase → Follows IsStepCall P (next tt y out)) → Follows IsStepCall P (saved save x out next)
  unfolding asked
  saved_passes None x out next Q holds go = go x holds
  saved_passes (Some fact) x out next Q holds go = (tt, λ u. go (record x { fact = fact }) holds)

  sealed_if_passes : (seals : Bool) (fact : Fact) (x : State) (out : Out) (next : Rest State (Unit {0})) (Q : Phase → Type 0) → Q x.phase → ((y : State) → Q y.phase → Follows IsStepCall P (next tt y out)) → Follows IsStepCall P (sealed_if seals fact x out next)
  sealed_if_passes true fact x out next Q holds go = sealed_asks P fact x out next (λ seal. go (record x { fact = fact; seal = seal }) holds)
  sealed_if_passes false fact x out next Q holds go = saved_passes (Some fact) x out next Q holds go

  accepted_own_passes : (e : Election) (x : State) (out : Out) (next : Rest State (List Task)) → unanswered x.phase ≡ [] → Good x out → Goes next → Follows IsStepCall P (accepted_own me e x out next)
  accepted_own_passes (Starting new accepts age) x out next none good go =
      go (tasks.Phase phase_rules.EnoughAccepted ∷ []) (electing (Starting new (joined me accepts) age) x) out (subst (λ (calls : List Waiting). I calls out.answers out.changes) none good) (tt, tt)
  accepted_own_passes (Preparing base promises sent age) x out next none good go = go [] x out good tt

  accepted_in_passes : (fact : Fact) (phase : Phase) (x : State) (out : Out) (next : Rest State (List Task)) → unanswered x.phase ≡ unanswered phase → Good x out → Goes next → Follows IsStepCall P (accepted_in me fact phase x out next)
  accepted_in_passes fact (phases.Electing e) x out next same good go = accepted_own_passes e x out next same good go
  accepted_in_passes fact (phases.Following f) x out next same good go = go [] x (and_sends out (accepted me fact)) good tt
  accepted_in_passes fact (phases.Probing p) x out next same good go = go [] x out good tt
  accepted_in_passes fact (phases.Leading l) x out next same good go = go [] x out good tt

  by_outcome_passes : (r : Running) (outcome : Outcome) → Passes (by_outcome me r outcome)
  by_outcome_passes r Pending x out next good go = go [] (with_sync r x) out good tt
  by_outcome_passes r (Trusted entries) x out next good go =
      installed_asks P (needs_build r.sync.scan entries) entries (without_sync x) out
      (λ u y o. sealed_if (keeps_seal y) r.fact y o (λ v z p. accepted_in me r.fact z.phase (record z { trusted = true }) p next))
      (λ u. sealed_if_passes (keeps_seal (without_sync x)) r.fact (without_sync x) out (λ v z p. accepted_in me r.fact z.phase (record z { trusted = true }) p next) (λ phase. I (unanswered phase) out.answers out.changes) good
      (λ z fine. accepted_in_passes r.fact z.phase (record z { trusted = true }) out next refl fine go))

  go_on_passes : (r : Running × List Outgoing) → Passes (go_on me r)
  go_on_passes r x out next good go = by_outcome_passes r.0 (outcome_of r.0.sync) x (and_sends out r.1) next good go

  resumed_passes : (running : Option Running) → Passes (resume_sync running)
  resumed_passes None x out next good go = go [] x out good tt
  resumed_passes (Some r) x out next good go = go [] (with_sync (row_resume r).0 x) (and_sends out (row_resume r).1) good tt

  followed_on_passes : (t : Then) (x : State) (out : Out) (next : Rest State (List Task)) → Good x out → NamesFit t x.phase → Goes next → Follows IsStepCall P (followed_on me t x out next)
  followed_on_passes (thens.SyncOn fact) x out next good fits go =
      asked_asks P ScanTree tt x out (λ scan y o. go_on me (row_start fact me y.trusted scan) y o next) (λ scan. go_on_passes (row_start fact me x.trusted scan) x out next good go)
  followed_on_passes thens.Resume x out next good fits go = resumed_passes x.sync x out next good go
  followed_on_passes (thens.Rule n) x out next good fits go = go (named (thens.Rule n)) x out good (fits, tt)
  followed_on_passes (thens.OnKeys n) x out next good fits go = go [] x out good tt
  followed_on_passes thens.Stay x out next good fits go = go [] x out good tt
  followed_on_passes thens.Follow x out next good fits go = go [] x out good tt
  followed_on_passes (thens.Lead fact) x out next good fits go = go [] x out good tt
  followed_on_passes thens.Untrust x out next good fits go = go [] x out good tt
  followed_on_passes thens.Put x out next good fits go = go [] x out good tt

  take_give_passes : (tree : TreeVersion) (from : ℕ) (give : Give) (own : Option (List ℕ)) (running : Option Running) → Passes (take_give tree me from give own running)
  take_give_passes tree from give own None x out next good go = go [] x out good tt
  take_give_passes tree from give own (Some r) x out next good go = go_on_passes (row_take tree from give own r) x out next good go

  -- ## Rows of phases

  row_done_passes : (row : PhaseOut) (x : State) (out : Out) (next : Rest State (List Task)) → Good x out → NamesFit row.then (left row.leave x).phase → Goes next → Follows IsStepCall P (row_done me row x out next)
  row_done_passes row x out next good fits go =
      let o : Out = left_answers row.leave x out in
      let sent : Out = and_sends o (posted_to row.to row.message) in
      saved_passes row.save (left row.leave x) o
      (λ u y p. followed_on me row.then (turned me row.then y) (turned_answers row.then y (and_sends p (posted_to row.to row.message))) next)
      (λ phase. I (unanswered phase) o.answers o.changes × NamesFit row.then phase) (left_good me I keeps.left row.leave x out good, fits)
      (λ y fine. followed_on_passes row.then (turned me row.then y) (turned_answers row.then y sent) next (turned_good me I keeps.left row.then y sent fine.0) (turned_fits me row.then y fine.1) go)

  -- a row that keeps the calls
  fits_passes : (x : State) (r : State × PhaseOut) (out : Out) (next : Rest State (List Task)) → Fits x r → Good x out → Goes next → Follows IsStepCall P (row_done me r.1 r.0 out next)
  fits_passes x r out next fits good go = row_done_passes r.1 r.0 out next (subst (λ (calls : List Waiting). I calls out.answers out.changes) (sym fits.0) good) fits.1 go

  -- ## Rows of a leader

  followed_up_passes : (own : Option Own) (turn : Then) (keys : List (List ℕ)) (x : State) (out : Out) (next : Rest State (List Task)) → OwnKeyed on_keys own → TurnKeyed on_keys turn → Good x out → Goes next
      → Follows IsStepCall P (followed_up me own turn keys x out next)
  followed_up_passes None turn keys x out next asks comes good go =
      go (keyed turn keys) (turned me turn x) (turned_answers turn x out) (turned_good me I keeps.left turn x out good) (all_ready (keyed turn keys) (turned me turn x).phase (keyed_fit turn keys comes))
  followed_up_passes (Some own) turn keys x out next asks comes good go =
      owned_asks P own x out (λ seen y o. next (tasks.Again (asked_by own) (own_key own) seen ∷ []) y o) (λ seen seal. go (tasks.Again (asked_by own) (own_key own) seen ∷ []) (record x { seal = seal }) out good (asks, tt))

  -- what holds after a row of a leader
  abbrev After : Leader × LeadOut → Out → Type 0
  After r out = I (left_calls r.1.leave r.0.table.calls) (left_given r.1.leave r.0.table.calls out.answers ++ r.1.answers) out.changes

  lead_done_passes : (l : Leadership) (r : Leader × LeadOut) (x : State) (out : Out) (next : Rest State (List Task)) → OwnKeyed on_keys r.1.own → TurnKeyed on_keys r.1.then → After r out → Goes next
      → Follows IsStepCall P (lead_done me r.1 (leading (with_leader r.0 l) x) out next)
  lead_done_passes l r x out next asks comes good go =
      let y : State = leading (with_leader r.0 l) x in
      noted_follows P r.1.notes (followed_up me r.1.own r.1.then r.1.keys (left r.1.leave y) (and_row r.1 y out) next)
      (followed_up_passes r.1.own r.1.then r.1.keys (left r.1.leave y) (and_row r.1 y out) next asks comes (left_row I r.1.leave (with_leader r.0 l) x out r.1.answers good) go)

  -- a row on a key
  abbrev OnKey : (Leader → Leader × LeadOut) → Type 0
  OnKey row = (l : Leader) → (key : List ℕ) × Serves key l.table (row l).0.table (row l).1.answers (row l).1.notes × NamesOn key (row l).1.then (row l).1.keys

  lead_passes : (row : Leader → Leader × LeadOut) → OnKey row → on_keys ≡ true → (phase : Phase) (x : State) (out : Out) (next : Rest State (List Task)) → x.phase ≡ phase → Good x out → Goes next
      → Follows IsStepCall P (lead row me phase x out next)
  lead_passes row on is (phases.Leading l) x out next same good go =
      let r = row l.leader in
      let k = on l.leader in
      lead_done_passes l r x out next (own_keyed r.1.own is) (names_keyed k.0 r.1.then r.1.keys is k.2)
      (keeps.served is r.1.leave k.0 l.leader.table r.0.table r.1.answers r.1.notes out.answers out.changes k.1 (subst (λ (phase : Phase). I (unanswered phase) out.answers out.changes) same good)) go
  lead_passes row on is (phases.Following f) x out next same good go = go [] x out good tt
  lead_passes row on is (phases.Probing p) x out next same good go = go [] x out good tt
  lead_passes row on is (phases.Electing e) x out next same good go = go [] x out good tt

  key_on : (rule : KeyRule) (key : List ℕ) (seen : Seen) → OnKey (lead_row rule key seen)
  key_on rule key seen l = let step = lead_step rule key seen l in (key, step.serves, step.names)

  got_on : (from : ℕ) (ballot : Epoch) (round : ℕ) (key : List ℕ) (entry : Option Entry) (object : Option Object) → OnKey (row_29_reply from ballot round key entry object)
  got_on from ballot round key entry object l = let step = row_29_reply_step from ballot round key entry object l in (key, step.serves, step.names)

  checked_on : (from : ℕ) (ballot : Epoch) (round : ℕ) → OnKey (row_33_reply from ballot round)
  checked_on from ballot round l = let step = row_33_reply_step from ballot round l in (step.0, step.1.serves, step.1.names)

  put_on : (from : ℕ) (ballot : Epoch) (key : List ℕ) (version : Version) → OnKey (row_35_reply from ballot key version)
  put_on from ballot key version l = let step = row_35_reply_step from ballot key version l in (key, step.serves, step.names)

  begins_ready : (change : ChangeState) (phase : Phase) → Ready (named (begins change)) phase
  begins_ready Settled phase = tt
  begins_ready (Wanted change) phase = (tt, tt)
  begins_ready (Finishes f) phase = tt

  reminded_passes : (phase : Phase) (x : State) (out : Out) (next : Rest State (List Task)) → x.phase ≡ phase → Good x out → Goes next → Follows IsStepCall P (reminded phase x out next)
  reminded_passes (phases.Leading l) x out next same good go =
      let m : Leadership = record l { change = wished l.leader.fact l.change } in
      go (named (begins m.change)) (leading m x) (and_sends out (ticks x.fact l)) (subst (λ (phase : Phase). I (unanswered phase) out.answers out.changes) same good) (begins_ready m.change (phases.Leading m))
  reminded_passes (phases.Following f) x out next same good go = go [] x out good tt
  reminded_passes (phases.Probing p) x out next same good go = go [] x out good tt
  reminded_passes (phases.Electing e) x out next same good go = go [] x out good tt

  task_done_passes : (t : Task) (x : State) (out : Out) (next : Rest State (List Task)) → Good x out → FitsTask t x.phase → Goes next → Follows IsStepCall P (task_done me t x out next)
  task_done_passes (tasks.Phase n) x out next good fits go = fits_passes x (phase_row n me x) out next (phase_row_fits n me x fits) good go
  task_done_passes tasks.Remind x out next good fits go = reminded_passes x.phase x out next refl good go
  task_done_passes (tasks.Key n key) x out next good fits go = lead_passes (lead_row n key seens.Nothing) (key_on n key seens.Nothing) fits x.phase x out next refl good go
  task_done_passes (tasks.Again n key seen) x out next good fits go = lead_passes (lead_row n key seen) (key_on n key seen) fits x.phase x out next refl good go

  -- the end is reached whatever tasks are left
  abbrev Ends : Rest State (List Task) → Type 0
  Ends next = (ts : List Task) (y : State) (o : Out) → Good y o → Follows IsStepCall P (next ts y o)

  driven_passes : (n : ℕ) (ts : List Task) (x : State) (out : Out) (next : Rest State (List Task)) → Good x out → Ready ts x.phase → Ends next → Follows IsStepCall P (driven me n ts x out next)
  unfolding driven
  driven_passes zero ts x out next good ready end = end ts x out good
  driven_passes (suc n) [] x out next good ready end = end [] x out good
  driven_passes (suc n) (t ∷ ts) x out next good ready end =
      task_done_passes t x out (λ more y o. driven me n (more ++ ts) y o next) good ready.0 (λ more y o fine still. driven_passes n (more ++ ts) y o next fine (ready_more more ts y.phase still ready.1) end)

  -- ## Ticks

  -- what holds if a leader with these calls steps down or not, and gives these answers
  abbrev Left : Out → Bool → List Waiting → List AnswerOut → Type 0
  Left out leave left more = I (left_calls leave left) (left_given leave left out.answers ++ more) out.changes

  timely_good : (late : Bool) (l : Leader) (r : Leader × LeadOut) (out : Out) → on_keys ≡ true → IsTimely late l r → (late ≡ true → r.0.table.calls ≡ map older_call l.table.calls) → I l.table.calls out.answers out.changes → After r out
  timely_good late l r out is timely calls good = by late timely.leave timely.answers calls timely.calls
    where
      by : (late : Bool) → r.1.leave ≡ late → r.1.answers ≡ (if late then [] else map left_answer (filter is_due (map older_call l.table.calls))) → (late ≡ true → r.0.table.calls ≡ map older_call l.table.calls)
          → (late ≡ false → r.0.table.calls ≡ not_due (map older_call l.table.calls)) → After r out
      by true leave answers kept rest =
          let aged : I (map older_call l.table.calls) out.answers out.changes = keeps.aged is l.table.calls out.answers out.changes good in
          let none : Left out true (map older_call l.table.calls) [] = subst (λ (z : List AnswerOut). I [] z out.changes) (sym (append-nil (out.answers ++ map left_answer (map older_call l.table.calls)))) (keeps.left (map older_call l.table.calls) out.answers out.changes aged) in
          subst (λ (b : Bool). Left out b r.0.table.calls r.1.answers) (sym leave)
          (subst (λ (cs : List Waiting). Left out true cs r.1.answers) (sym (kept refl)) (subst (λ (more : List AnswerOut). Left out true (map older_call l.table.calls) more) (sym answers) none))
      by false leave answers kept rest =
          let aged : I (map older_call l.table.calls) out.answers out.changes = keeps.aged is l.table.calls out.answers out.changes good in
          let some : Left out false (not_due (map older_call l.table.calls)) (map left_answer (filter is_due (map older_call l.table.calls))) = keeps.due is (map older_call l.table.calls) out.answers out.changes aged in
          subst (λ (b : Bool). Left out b r.0.table.calls r.1.answers) (sym leave)
          (subst (λ (cs : List Waiting). Left out false cs r.1.answers) (sym (rest refl)) (subst (λ (more : List AnswerOut). Left out false (not_due (map older_call l.table.calls)) more) (sym answers) some))

  tick_good : (ending : Ending) (l : Leader) (out : Out) → on_keys ≡ true → I l.table.calls out.answers out.changes → After (tick_row ending l) out
  tick_good ending l out is good =
      timely_good (late_put (aged_table l.table) || is_late ending) l (tick_row ending l) out is (row_5_ticks ending l).timely (λ late. late_calls (late_put (aged_table l.table) || is_late ending) _ _ late) good

  late_comes : on_keys ≡ true → (late : Bool) → TurnKeyed on_keys (if late then thens.Stay else thens.OnKeys key_rules.StartNextCall)
  late_comes is true = tt
  late_comes is false = is

  led_in_passes : (phase : Phase) (x : State) (out : Out) (next : Rest State (List Task)) → on_keys ≡ true → x.phase ≡ phase → Good x out → Goes next → Follows IsStepCall P (led_in me phase x out next)
  led_in_passes (phases.Leading l) x out next is same good go =
      let ending : Ending = end_of (older l.change) in
      let tick = row_5_ticks ending l.leader in
      lead_done_passes (record l { change = older l.change }) (tick_row ending l.leader) x out (λ ts y o. next (ts ++ tasks.Remind ∷ []) y o)
      (subst (OwnKeyed on_keys) (sym tick.own) tt) (subst (TurnKeyed on_keys) (sym tick.next) (late_comes is (late_put (aged_table l.leader.table) || is_late ending)))
      (tick_good ending l.leader out is (subst (λ (phase : Phase). I (unanswered phase) out.answers out.changes) same good))
      (λ ts y o fine ready. go (ts ++ tasks.Remind ∷ []) y o fine (ready_more ts (tasks.Remind ∷ []) y.phase ready ((λ phase. tt), tt)))
  led_in_passes (phases.Following f) x out next is same good go = go [] x out good tt
  led_in_passes (phases.Probing p) x out next is same good go = go [] x out good tt
  led_in_passes (phases.Electing e) x out next is same good go = go [] x out good tt

  -- ## Events

  safe_passes : (row : PhaseOut) → SafeRow row → Passes (row_done me row)
  safe_passes row safe x out next good go = row_done_passes row x out next good (safe_fits row.then (left row.leave x).phase safe) go

  put_done_passes : (turn : Then) (from : ℕ) (ballot : Epoch) (o : Object) (row : PhaseOut) → SafeRow row → Passes (put_done turn me from ballot o row)
  put_done_passes thens.Put from ballot o row safe x out next good go =
      written_asks P o x out (λ seen y p. row_done me (after_put from ballot row seen) y p next) (λ seen seal. safe_passes (after_put from ballot row seen) (safe_after_put from ballot row seen safe) (record x { seal = seal }) out next good go)
  put_done_passes thens.Stay from ballot o row safe x out next good go = safe_passes row safe x out next good go
  put_done_passes thens.Follow from ballot o row safe x out next good go = safe_passes row safe x out next good go
  put_done_passes (thens.Lead fact) from ballot o row safe x out next good go = safe_passes row safe x out next good go
  put_done_passes thens.Untrust from ballot o row safe x out next good go = safe_passes row safe x out next good go
  put_done_passes thens.Resume from ballot o row safe x out next good go = safe_passes row safe x out next good go
  put_done_passes (thens.SyncOn fact) from ballot o row safe x out next good go = safe_passes row safe x out next good go
  put_done_passes (thens.Rule n) from ballot o row safe x out next good go = safe_passes row safe x out next good go
  put_done_passes (thens.OnKeys n) from ballot o row safe x out next good go = safe_passes row safe x out next good go

  got_ask_passes : (from : ℕ) (ballot : Epoch) (q : Question) → Passes (got_ask me from ballot q)
  got_ask_passes from ballot q x out next good go =
      shown_node_asks P x.mode.tree (is_same ballot x.fact.ballot) q x out (λ body y o. row_done me (row_23 y.fact y.trusted from ballot q.position q.after body) y o next)
      (λ body. safe_passes (row_23 x.fact x.trusted from ballot q.position q.after body) (safe_23 x.fact x.trusted from ballot q body) x out next good go)

  tree_give_passes : (from : ℕ) (give : Give) → Passes (tree_give me from give)
  tree_give_passes from give x out next good go =
      own_node_asks P (needs_node x.mode.tree from give x.sync) give.question.position x out (λ own y o. take_give x.mode.tree me from give own y.sync y o next)
      (λ own. take_give_passes x.mode.tree from give own x.sync x out next good go)

  -- a message about a node that the tree does not have does nothing
  in_tree_passes : (has : Bool) (part : Part State (List Task)) → Passes part → Passes (in_tree has part)
  in_tree_passes true part passes x out next good go = passes x out next good go
  in_tree_passes false part passes x out next good go = go [] x out good tt

  delivered_passes : (from : ℕ) (message : Message) → (is_reply message ≡ true → on_keys ≡ true) → Passes (delivered me from message)
  delivered_passes from (messages.Get ballot round key) counts x out next good go =
      shown_asks P (is_served x.fact x.trusted ballot) (looked key) (looked_asks P key) x out (λ seen y o. row_done me (row_21 y.fact y.trusted from ballot round key seen) y o next)
      (λ seen. safe_passes (row_21 x.fact x.trusted from ballot round key seen) (safe_21 x.fact x.trusted from ballot round key seen) x out next good go)
  delivered_passes from (messages.Put ballot o) counts x out next good go =
      shown_asks P (is_served x.fact x.trusted ballot) (found o.key) (found_asks P o.key) x out
      (λ seen y p. put_done (row_22 y.fact y.trusted from ballot o seen).then me from ballot o (row_22 y.fact y.trusted from ballot o seen) y p next)
      (λ seen. put_done_passes (row_22 x.fact x.trusted from ballot o seen).then from ballot o (row_22 x.fact x.trusted from ballot o seen) (safe_22 x.fact x.trusted from ballot o seen) x out next good go)
  delivered_passes from (messages.GetReply ballot round key entry object) counts x out next good go =
      if_follows P (leads x.phase) _ _
      (confirmed_asks P entry object x out (λ named y o. lead (row_29_reply from ballot round key entry named) me y.phase y o next)
      (λ named. lead_passes (row_29_reply from ballot round key entry named) (got_on from ballot round key entry named) (counts refl) x.phase x out next refl good go))
      (go [] x out good tt)
  delivered_passes from (messages.PutReply ballot key version) counts x out next good go = lead_passes (row_35_reply from ballot key version) (put_on from ballot key version) (counts refl) x.phase x out next refl good go
  delivered_passes from (messages.CheckReply ballot round) counts x out next good go = lead_passes (row_33_reply from ballot round) (checked_on from ballot round) (counts refl) x.phase x out next refl good go
  delivered_passes from (messages.TreeAsk ballot at after) counts x out next good go =
      let q : Question = record { position = at; after = after } in
      in_tree_passes (has_position x.mode.tree at) (got_ask me from ballot q) (got_ask_passes from ballot q) x out next good go
  delivered_passes from (messages.TreeGive ballot at after trusted body) counts x out next good go =
      let give : Give = record { ballot = ballot; question = record { position = at; after = after }; trusted = trusted; body = body } in
      in_tree_passes (has_position x.mode.tree at) (tree_give me from give) (tree_give_passes from give) x out next good go
  delivered_passes from message counts x out next good go = fits_passes x (received me from message x) out next (received_fits me from message x) good go

  called_passes : (call : CallIn) (phase : Phase) (x : State) (out : Out) (next : Rest State (List Task)) → x.phase ≡ phase → CallComes on_keys I call phase out → Goes next
      → Follows IsStepCall P (if leads phase then lead (row_27 call.from call.id call.key call.command (changes phase)) me phase x out next else next [] x (and_answers out (unavailable call ∷ [])))
  called_passes call (phases.Leading l) x out next same came go =
      let r = row_27 call.from call.id call.key call.command (has_begun l.change) l.leader in
      let join = row_27_joins call.from call.id call.key call.command (has_begun l.change) l.leader in
      lead_done_passes l r x out next (subst (OwnKeyed on_keys) (sym join.own) tt) came.1
      (subst (λ (b : Bool). I (left_calls b r.0.table.calls) (left_given b r.0.table.calls out.answers ++ r.1.answers) out.changes) (sym join.leave) came.0) go
  called_passes call (phases.Following f) x out next same came go = go [] x _ (subst (λ (phase : Phase). I (unanswered phase) (out.answers ++ unavailable call ∷ []) out.changes) (sym same) came) tt
  called_passes call (phases.Probing p) x out next same came go = go [] x _ (subst (λ (phase : Phase). I (unanswered phase) (out.answers ++ unavailable call ∷ []) out.changes) (sym same) came) tt
  called_passes call (phases.Electing e) x out next same came go = go [] x _ (subst (λ (phase : Phase). I (unanswered phase) (out.answers ++ unavailable call ∷ []) out.changes) (sym same) came) tt

  first_passes : (event : Event) (x : State) (out : Out) (next : Rest State (List Task)) → Comes on_keys I event x out → Goes next → Follows IsStepCall P (first me event x out next)
  first_passes (events.Deliver from message) x out next came go = delivered_passes from message came.1 x out next came.0 go
  first_passes events.Tick x out next came go =
      if_follows P (leads x.phase) _ _ (led_in_passes x.phase x out next came.1 refl came.0 go) (fits_passes x (aged x.phase me x) out next (aged_fits x.phase me x refl) came.0 go)
  first_passes (events.Call call) x out next came go = called_passes call x.phase x out next refl came go
  first_passes (events.Change view) x out next came go =
      fits_passes x ((asked_change view x).0, (asked_change view x).1.0) (and_change out (asked_change view x).1.1) next (asked_fits view x) came go

  -- what follows a row, until no task is left
  abbrev onward : Rest State (Unit {0}) → Rest State (List Task)
  onward next ts y o = driven me most_turns ts y o (λ rest z q. next tt z q)

  onward_goes : (next : Rest State (Unit {0})) → ((y : State) (o : Out) → Good y o → Follows IsStepCall P (next tt y o)) → Goes (onward next)
  onward_goes next go ts y o good ready = driven_passes most_turns ts y o (λ rest z q. next tt z q) good ready (λ rest z q fine. go z q fine)

  concluded_passes : (x : State) (out : Out) (next : Rest State (Unit {0})) → Good x out → ((y : State) (o : Out) → Good y o → Follows IsStepCall P (next tt y o)) → Follows IsStepCall P (concluded me x out next)
  concluded_passes x out next good go = task_done_passes (tasks.Phase phase_rules.EndEpoch) x out (onward next) good tt (onward_goes next go)

  -- each end of a step satisfies P, if what is kept gives that
  pub step_keeps : (event : Event) (x : State) → Comes on_keys I event x nothing → ((y : State) (o : Out) → Good y o → P y o) → Follows IsStepCall P (step_of me event x)
  step_keeps event x came ends =
      first_passes event x nothing (onward (λ u y o. concluded me y o (λ v z q. Done z q))) came
      (onward_goes (λ u y o. concluded me y o (λ v z q. Done z q)) (λ y o good. concluded_passes y o (λ v z q. Done z q) good ends))
