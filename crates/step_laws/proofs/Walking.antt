-- How many calls the parts of a step leave unanswered.
use Rattle.std.proofs.Common.{◌≤◌, ◌+◌, arith, length, ℕ, zero, suc, Bool, true, false, List, [], ◌∷◌, ◌++◌, Option, Some, None}
use Rattle.phase_rules.specs.declared.election.Election.{Election}
use Rattle.phase_rules.specs.declared.election.Election.TheVariants.{Preparing, Starting}
use Rattle.ens_base.specs.declared.epoch.Epoch.{Epoch}
use Rattle.stored_formats.specs.declared.object.Object.{Object}
use Rattle.tree_exchange.specs.declared.question.Question.{Question}
use Rattle.tree_node.specs.declared.version.TreeVersion.{TreeVersion}
use Rattle.phase_rules.specs.Refusals.{is_served}
use Rattle.phase_rules.specs.Requests.{row_21, row_22, row_23}
use Rattle.leader_output.specs.Outs.{asked_by}
use Rattle.leader_output.specs.declared.out.LeadOut.{LeadOut}
use Rattle.leader_output.specs.declared.out.Outgoing.{Outgoing}
use Rattle.leader_output.specs.declared.out.Own.{Own}
use Rattle.leader.specs.Puts.{row_35_reply}
use Rattle.leader.specs.Rounds.{row_29_reply, row_33_reply}
use Rattle.leader.specs.Rules.{lead_row}
use Rattle.leader.specs.Starts.{row_27}
use Rattle.leader.specs.declared.leader.Leader.{Leader}
use Rattle.stored_formats.specs.declared.fact.Fact.{Fact}
use Rattle.peer_spec.specs.Drives.{row_done, own_key, followed_up, and_row, lead_done, lead, reminded, task_done, driven, led_in, got_ask, after_put, put_done, in_tree, delivered, unavailable, first, and_change, most_turns, responded, concluded}
use Rattle.peer_spec.specs.Kept.{IsStepCall}
use Rattle.peer_spec.specs.Owns.{looked, found}
use Rattle.peer_spec.specs.TreeCalls.{has_position}
use Rattle.peer_spec.specs.Syncs.{saved, and_sends, with_sync, accepted, accepted_own, accepted_in, by_outcome, go_on, resume_sync, followed_on, needs_node, take_give, tree_give, sealed_if}
use Rattle.peer_spec.proofs.Aging.{asked_asks, looked_asks, found_asks, written_asks, confirmed_asks, if_follows, owned_asks, noted_follows, installed_asks, own_node_asks, shown_node_asks, shown_asks, sealed_asks}
use Rattle.peer_spec.proofs.Fuel.{owed_none}
use Rattle.peer_state.specs.Leading.{older, end_of, ticks, row_5_calls, wished, begins}
use Rattle.peer_state.specs.Moves.{left, left_answers, turned, turned_answers, leading, with_leader, and_answers, electing, without_sync, keeps_seal}
use Rattle.peer_state.specs.Rows.{aged, phase_row, received, asked_change, leads, changes}
use Rattle.peer_state.specs.declared.event.Event.{Event}
use Rattle.peer_state.specs.declared.event.Event.TheVariants as events
use Rattle.peer_state.specs.declared.state.Phase.{Phase}
use Rattle.peer_state.specs.declared.state.Phase.TheVariants as phases
use Rattle.peer_state.specs.declared.state.State.{State}
use Rattle.phase_rows.specs.Orders.{is_same}
use Rattle.phase_rows.specs.Peers.{joined}
use Rattle.phase_rows.specs.declared.phase.PhaseOut.{PhaseOut}
use Rattle.phase_rows.specs.declared.phase.Seen.TheVariants as seens
use Rattle.phase_rows.specs.declared.phase.Then.{Then}
use Rattle.phase_rows.specs.declared.phase.Then.TheVariants as thens
use Rattle.phase_rows.specs.declared.rules.PhaseRule.TheVariants as phase_rules
use Rattle.tree_sync.specs.Rows.{row_start, row_resume, row_take}
use Rattle.tree_sync.specs.Running.{Running}
use Rattle.tree_sync.specs.declared.asking.Give.{Give}
use Rattle.step_plans.specs.Calls.{ScanTree}
use Rattle.step_plans.specs.Plans.{Out, Rest, Part, Follows, asked}
use Rattle.step_plans.specs.Sends.{posted_to}
use Rattle.step_plans.specs.Tasks.{named, keyed}
use Rattle.step_plans.specs.declared.tasks.Task.{Task}
use Rattle.step_plans.specs.declared.tasks.Task.TheVariants as tasks
use Rattle.tree_sync.specs.Syncs.{needs_build, outcome_of}
use Rattle.tree_sync.specs.declared.sync.Outcome.{Outcome}
use Rattle.tree_sync.specs.declared.sync.Outcome.TheVariants.{Pending, Trusted}
use Rattle.wire_frames.specs.declared.message.Message.{Message}
use Rattle.wire_frames.specs.declared.message.Message.TheVariants as messages
use Rattle.step_laws.specs.Reached.{calls_of}
use Rattle.step_laws.proofs.Counts.{count, trans, left_few, turned_few, phase_row_few, received_few, aged_few, asked_few, LeavesNoMore, key_few, got_few, checked_few, put_few, joined_few, ticked_few}

pub plus_none : (a k : ℕ) → a + 0 ≤ k → a ≤ k
plus_none a k less = omega (arith, less)

pub joined_room : (a b k : ℕ) → a ≤ suc b → b + 1 ≤ k → a ≤ k
joined_room a b k first second = omega (arith, first, second)

pub some_room : (b k : ℕ) → b + 1 ≤ k → b ≤ k
some_room b k less = omega (arith, less)

module _ (k me : ℕ) (P : State → Out → Type 0) where
  -- from each state with at most k calls, the end is reached
  abbrev Goes : {A : Type 0} → Rest State A → Type 0
  Goes {A} next = (v : A) (y : State) (o : Out) → count y.phase ≤ k → Follows IsStepCall P (next v y o)

  -- from such a state, the part reaches such states
  abbrev Passes : {A : Type 0} → Part State A → Type 0
  Passes {A} part = (x : State) (out : Out) (next : Rest State A) → count x.phase ≤ k → Goes next → Follows IsStepCall P (part x out next)

  saved_passes : (save : Option Fact) → Passes (saved save)
  unfolding asked
  saved_passes None x out next few go = go tt x out few
  saved_passes (Some fact) x out next few go = (tt, λ u. go tt (record x { fact = fact }) out few)

  sealed_if_passes : (seals : Bool) (fact : Fact) → Passes (sealed_if seals fact)
  sealed_if_passes true fact x out next few go = sealed_asks P fact x out next (λ seal. go tt (record x { fact = fact; seal = seal }) out few)
  sealed_if_passes false fact x out next few go = saved_passes (Some fact) x out next few go

  -- ## Syncs

  accepted_own_passes : (e : Election) → Passes (accepted_own me e)
  accepted_own_passes (Starting new accepts age) x out next few go = go (tasks.Phase phase_rules.EnoughAccepted ∷ []) (electing (Starting new (joined me accepts) age) x) out (owed_none k)
  accepted_own_passes (Preparing base promises sent age) x out next few go = go [] x out few

  accepted_in_passes : (fact : Fact) (phase : Phase) → Passes (accepted_in me fact phase)
  accepted_in_passes fact (phases.Electing e) x out next few go = accepted_own_passes e x out next few go
  accepted_in_passes fact (phases.Following f) x out next few go = go [] x (and_sends out (accepted me fact)) few
  accepted_in_passes fact (phases.Probing p) x out next few go = go [] x out few
  accepted_in_passes fact (phases.Leading l) x out next few go = go [] x out few

  by_outcome_passes : (r : Running) (outcome : Outcome) → Passes (by_outcome me r outcome)
  by_outcome_passes r Pending x out next few go = go [] (with_sync r x) out few
  by_outcome_passes r (Trusted entries) x out next few go =
      installed_asks P (needs_build r.sync.scan entries) entries (without_sync x) out
      (λ u y o. sealed_if (keeps_seal y) r.fact y o (λ v z p. accepted_in me r.fact z.phase (record z { trusted = true }) p next))
      (λ u. sealed_if_passes (keeps_seal (without_sync x)) r.fact (without_sync x) out (λ v z p. accepted_in me r.fact z.phase (record z { trusted = true }) p next) few
      (λ v z p fine. accepted_in_passes r.fact z.phase (record z { trusted = true }) p next fine go))

  go_on_passes : (r : Running × List Outgoing) → Passes (go_on me r)
  go_on_passes r x out next few go = by_outcome_passes r.0 (outcome_of r.0.sync) x (and_sends out r.1) next few go

  resumed_passes : (running : Option Running) → Passes (resume_sync running)
  resumed_passes None x out next few go = go [] x out few
  resumed_passes (Some r) x out next few go = go [] (with_sync (row_resume r).0 x) (and_sends out (row_resume r).1) few

  followed_on_passes : (t : Then) → Passes (followed_on me t)
  followed_on_passes (thens.SyncOn fact) x out next few go =
      asked_asks P ScanTree tt x out (λ scan y o. go_on me (row_start fact me y.trusted scan) y o next) (λ scan. go_on_passes (row_start fact me x.trusted scan) x out next few go)
  followed_on_passes thens.Resume x out next few go = resumed_passes x.sync x out next few go
  followed_on_passes (thens.Rule n) x out next few go = go (named (thens.Rule n)) x out few
  followed_on_passes (thens.OnKeys n) x out next few go = go [] x out few
  followed_on_passes thens.Stay x out next few go = go [] x out few
  followed_on_passes thens.Follow x out next few go = go [] x out few
  followed_on_passes (thens.Lead fact) x out next few go = go [] x out few
  followed_on_passes thens.Untrust x out next few go = go [] x out few
  followed_on_passes thens.Put x out next few go = go [] x out few

  take_give_passes : (tree : TreeVersion) (from : ℕ) (give : Give) (own : Option (List ℕ)) (running : Option Running) → Passes (take_give tree me from give own running)
  take_give_passes tree from give own None x out next few go = go [] x out few
  take_give_passes tree from give own (Some r) x out next few go = go_on_passes (row_take tree from give own r) x out next few go

  -- ## Rows

  row_done_passes : (row : PhaseOut) → Passes (row_done me row)
  row_done_passes row x out next few go =
      saved_passes row.save (left row.leave x) (left_answers row.leave x out)
      (λ u y o. followed_on me row.then (turned me row.then y) (turned_answers row.then y (and_sends o (posted_to row.to row.message))) next)
      (trans (count (left row.leave x).phase) (count x.phase) k (left_few row.leave x) few)
      (λ u y o fine. followed_on_passes row.then (turned me row.then y) (turned_answers row.then y (and_sends o (posted_to row.to row.message))) next
      (trans (count (turned me row.then y).phase) (count y.phase) k (turned_few me row.then y) fine) go)

  -- a row of a phase, whose state has no more calls than before
  moved_passes : (x y : State) (row : PhaseOut) (out : Out) (next : Rest State (List Task)) → count y.phase ≤ count x.phase → count x.phase ≤ k → Goes next → Follows IsStepCall P (row_done me row y out next)
  moved_passes x y row out next less few go = row_done_passes row y out next (trans (count y.phase) (count x.phase) k less few) go

  followed_up_passes : (own : Option Own) (turn : Then) (keys : List (List ℕ)) → Passes (followed_up me own turn keys)
  followed_up_passes None turn keys x out next few go =
      go (keyed turn keys) (turned me turn x) (turned_answers turn x out) (trans (count (turned me turn x).phase) (count x.phase) k (turned_few me turn x) few)
  followed_up_passes (Some own) turn keys x out next few go =
      owned_asks P own x out (λ seen y o. next (tasks.Again (asked_by own) (own_key own) seen ∷ []) y o) (λ seen seal. go (tasks.Again (asked_by own) (own_key own) seen ∷ []) (record x { seal = seal }) out few)

  lead_done_passes : (row : LeadOut) → Passes (lead_done me row)
  lead_done_passes row x out next few go =
      noted_follows P row.notes (followed_up me row.own row.then row.keys (left row.leave x) (and_row row x out) next)
      (followed_up_passes row.own row.then row.keys (left row.leave x) (and_row row x out) next (trans (count (left row.leave x).phase) (count x.phase) k (left_few row.leave x) few) go)

  -- the row leaves at most k calls of a leader in this phase
  abbrev Leaves : (Leader → Leader × LeadOut) → Phase → Type 0
  Leaves row (phases.Leading l) = length (row l.leader).0.table.calls ≤ k
  Leaves row (phases.Following f) = Unit {0}
  Leaves row (phases.Probing p) = Unit {0}
  Leaves row (phases.Electing e) = Unit {0}

  leaves_of : (row : Leader → Leader × LeadOut) → LeavesNoMore row → (phase : Phase) → count phase ≤ k → Leaves row phase
  leaves_of row less (phases.Leading l) few = trans (length (row l.leader).0.table.calls) (length l.leader.table.calls) k (less l.leader) few
  leaves_of row less (phases.Following f) few = tt
  leaves_of row less (phases.Probing p) few = tt
  leaves_of row less (phases.Electing e) few = tt

  lead_passes : (row : Leader → Leader × LeadOut) (phase : Phase) → Leaves row phase → Passes (lead row me phase)
  lead_passes row (phases.Leading l) leaves x out next few go = lead_done_passes (row l.leader).1 (leading (with_leader (row l.leader).0 l) x) out next leaves go
  lead_passes row (phases.Following f) leaves x out next few go = go [] x out few
  lead_passes row (phases.Probing p) leaves x out next few go = go [] x out few
  lead_passes row (phases.Electing e) leaves x out next few go = go [] x out few

  -- a row of a leader in the phase of the state
  led_passes : (row : Leader → Leader × LeadOut) → LeavesNoMore row → (x : State) (out : Out) (next : Rest State (List Task)) → count x.phase ≤ k → Goes next → Follows IsStepCall P (lead row me x.phase x out next)
  led_passes row less x out next few go = lead_passes row x.phase (leaves_of row less x.phase few) x out next few go

  reminded_passes : (phase : Phase) → count phase ≤ k → Passes (reminded phase)
  reminded_passes (phases.Leading l) still x out next few go =
      go (named (begins (wished l.leader.fact l.change))) (leading (record l { change = wished l.leader.fact l.change }) x) (and_sends out (ticks x.fact l)) still
  reminded_passes (phases.Following f) still x out next few go = go [] x out few
  reminded_passes (phases.Probing p) still x out next few go = go [] x out few
  reminded_passes (phases.Electing e) still x out next few go = go [] x out few

  task_done_passes : (t : Task) → Passes (task_done me t)
  task_done_passes (tasks.Phase n) x out next few go = moved_passes x (phase_row n me x).0 (phase_row n me x).1 out next (phase_row_few n me x) few go
  task_done_passes tasks.Remind x out next few go = reminded_passes x.phase few x out next few go
  task_done_passes (tasks.Key n key) x out next few go = led_passes (lead_row n key seens.Nothing) (key_few n key seens.Nothing) x out next few go
  task_done_passes (tasks.Again n key seen) x out next few go = led_passes (lead_row n key seen) (key_few n key seen) x out next few go

  driven_passes : (n : ℕ) (ts : List Task) → Passes (driven me n ts)
  unfolding driven
  driven_passes zero ts x out next few go = go ts x out few
  driven_passes (suc n) [] x out next few go = go [] x out few
  driven_passes (suc n) (t ∷ ts) x out next few go =
      task_done_passes t x out (λ more y o. driven me n (more ++ ts) y o next) few (λ more y o fine. driven_passes n (more ++ ts) y o next fine go)

  -- ## Events

  led_in_passes : (phase : Phase) → count phase ≤ k → Passes (led_in me phase)
  led_in_passes (phases.Leading l) still x out next few go =
      lead_done_passes (row_5_calls x.fact l).1 (leading (row_5_calls x.fact l).0 x) out (λ ts y o. next (ts ++ tasks.Remind ∷ []) y o)
      (trans (length (row_5_calls x.fact l).0.leader.table.calls) (length l.leader.table.calls) k (ticked_few (end_of (older l.change)) l.leader) still)
      (λ ts y o fine. go (ts ++ tasks.Remind ∷ []) y o fine)
  led_in_passes (phases.Following f) still x out next few go = go [] x out few
  led_in_passes (phases.Probing p) still x out next few go = go [] x out few
  led_in_passes (phases.Electing e) still x out next few go = go [] x out few

  put_done_passes : (turn : Then) (from : ℕ) (ballot : Epoch) (o : Object) (row : PhaseOut) → Passes (put_done turn me from ballot o row)
  put_done_passes thens.Put from ballot o row x out next few go =
      written_asks P o x out (λ seen y p. row_done me (after_put from ballot row seen) y p next) (λ seen seal. row_done_passes (after_put from ballot row seen) (record x { seal = seal }) out next few go)
  put_done_passes thens.Stay from ballot o row x out next few go = row_done_passes row x out next few go
  put_done_passes thens.Follow from ballot o row x out next few go = row_done_passes row x out next few go
  put_done_passes (thens.Lead fact) from ballot o row x out next few go = row_done_passes row x out next few go
  put_done_passes thens.Untrust from ballot o row x out next few go = row_done_passes row x out next few go
  put_done_passes thens.Resume from ballot o row x out next few go = row_done_passes row x out next few go
  put_done_passes (thens.SyncOn fact) from ballot o row x out next few go = row_done_passes row x out next few go
  put_done_passes (thens.Rule n) from ballot o row x out next few go = row_done_passes row x out next few go
  put_done_passes (thens.OnKeys n) from ballot o row x out next few go = row_done_passes row x out next few go

  got_ask_passes : (from : ℕ) (ballot : Epoch) (q : Question) → Passes (got_ask me from ballot q)
  got_ask_passes from ballot q x out next few go =
      shown_node_asks P x.mode.tree (is_same ballot x.fact.ballot) q x out (λ body y o. row_done me (row_23 y.fact y.trusted from ballot q.position q.after body) y o next)
      (λ body. row_done_passes (row_23 x.fact x.trusted from ballot q.position q.after body) x out next few go)

  tree_give_passes : (from : ℕ) (give : Give) → Passes (tree_give me from give)
  tree_give_passes from give x out next few go =
      own_node_asks P (needs_node x.mode.tree from give x.sync) give.question.position x out (λ own y o. take_give x.mode.tree me from give own y.sync y o next)
      (λ own. take_give_passes x.mode.tree from give own x.sync x out next few go)

  -- a message about a node that the tree does not have does nothing
  in_tree_passes : (has : Bool) (part : Part State (List Task)) → Passes part → Passes (in_tree has part)
  in_tree_passes true part passes x out next few go = passes x out next few go
  in_tree_passes false part passes x out next few go = go [] x out few

  delivered_passes : (from : ℕ) (message : Message) → Passes (delivered me from message)
  delivered_passes from (messages.Get ballot round key) x out next few go =
      shown_asks P (is_served x.fact x.trusted ballot) (looked key) (looked_asks P key) x out (λ seen y o. row_done me (row_21 y.fact y.trusted from ballot round key seen) y o next)
      (λ seen. row_done_passes (row_21 x.fact x.trusted from ballot round key seen) x out next few go)
  delivered_passes from (messages.Put ballot o) x out next few go =
      shown_asks P (is_served x.fact x.trusted ballot) (found o.key) (found_asks P o.key) x out
      (λ seen y p. put_done (row_22 y.fact y.trusted from ballot o seen).then me from ballot o (row_22 y.fact y.trusted from ballot o seen) y p next)
      (λ seen. put_done_passes (row_22 x.fact x.trusted from ballot o seen).then from ballot o (row_22 x.fact x.trusted from ballot o seen) x out next few go)
  delivered_passes from (messages.GetReply ballot round key entry object) x out next few go =
      if_follows P (leads x.phase) _ _
      (confirmed_asks P entry object x out (λ named y o. lead (row_29_reply from ballot round key entry named) me y.phase y o next)
      (λ named. led_passes (row_29_reply from ballot round key entry named) (got_few from ballot round key entry named) x out next few go))
      (go [] x out few)
  delivered_passes from (messages.PutReply ballot key version) x out next few go = led_passes (row_35_reply from ballot key version) (put_few from ballot key version) x out next few go
  delivered_passes from (messages.CheckReply ballot round) x out next few go = led_passes (row_33_reply from ballot round) (checked_few from ballot round) x out next few go
  delivered_passes from (messages.TreeAsk ballot at after) x out next few go =
      let q : Question = record { position = at; after = after } in
      in_tree_passes (has_position x.mode.tree at) (got_ask me from ballot q) (got_ask_passes from ballot q) x out next few go
  delivered_passes from (messages.TreeGive ballot at after trusted body) x out next few go =
      let give : Give = record { ballot = ballot; question = record { position = at; after = after }; trusted = trusted; body = body } in
      in_tree_passes (has_position x.mode.tree at) (tree_give me from give) (tree_give_passes from give) x out next few go
  delivered_passes from message x out next few go = moved_passes x (received me from message x).0 (received me from message x).1 out next (received_few me from message x) few go

  -- a call that joins in this phase
  joins : (from id : ℕ) (key : List ℕ) (command : _) (ends : Bool) (phase : Phase) → count phase + 1 ≤ k → Leaves (row_27 from id key command ends) phase
  joins from id key command ends (phases.Leading l) room = joined_room (length (row_27 from id key command ends l.leader).0.table.calls) (length l.leader.table.calls) k (joined_few from id key command ends l.leader) room
  joins from id key command ends (phases.Following f) room = tt
  joins from id key command ends (phases.Probing p) room = tt
  joins from id key command ends (phases.Electing e) room = tt

  first_passes : (event : Event) (x : State) (out : Out) (next : Rest State (List Task)) → count x.phase + calls_of event ≤ k → Goes next → Follows IsStepCall P (first me event x out next)
  first_passes (events.Deliver from message) x out next room go = delivered_passes from message x out next (plus_none (count x.phase) k room) go
  first_passes events.Tick x out next room go =
      let few : count x.phase ≤ k = plus_none (count x.phase) k room in
      if_follows P (leads x.phase) _ _ (led_in_passes x.phase few x out next few go) (moved_passes x (aged x.phase me x).0 (aged x.phase me x).1 out next (aged_few x.phase me x) few go)
  first_passes (events.Call call) x out next room go =
      let few : count x.phase ≤ k = some_room (count x.phase) k room in
      if_follows P (leads x.phase) _ _
      (lead_passes (row_27 call.from call.id call.key call.command (changes x.phase)) x.phase (joins call.from call.id call.key call.command (changes x.phase) x.phase room) x out next few go)
      (go [] x (and_answers out (unavailable call ∷ [])) few)
  first_passes (events.Change view) x out next room go =
      moved_passes x (asked_change view x).0 (asked_change view x).1.0 (and_change out (asked_change view x).1.1) next (asked_few view x) (plus_none (count x.phase) k room) go

  -- what follows a row, until no task is left
  abbrev onward : Rest State (Unit {0}) → Rest State (List Task)
  onward next ts y o = driven me most_turns ts y o (λ rest z q. next tt z q)

  onward_goes : (next : Rest State (Unit {0})) → Goes next → Goes (onward next)
  onward_goes next go ts y o few = driven_passes most_turns ts y o (λ rest z q. next tt z q) few (λ rest z q fine. go tt z q fine)

  pub responded_passes : (event : Event) (x : State) (out : Out) (next : Rest State (Unit {0})) → count x.phase + calls_of event ≤ k → Goes next → Follows IsStepCall P (responded me event x out next)
  responded_passes event x out next room go = first_passes event x out (onward next) room (onward_goes next go)

  pub concluded_passes : Passes (concluded me)
  concluded_passes x out next few go = task_done_passes (tasks.Phase phase_rules.EndEpoch) x out (onward next) few (onward_goes next go)
