-- A step of a peer replies to the request for a change of view that it is on, and to nothing else.
use Rattle.std.proofs.Common.{◌≡◌, ℕ, zero, suc, Bool, true, false, List, [], ◌∷◌, ◌++◌, Option, Some, None, refl, ◌∙◌}
use Rattle.phase_rules.specs.declared.election.Election.{Election}
use Rattle.phase_rules.specs.declared.election.Election.TheVariants.{Preparing, Starting}
use Rattle.ens_base.specs.declared.epoch.Epoch.{Epoch}
use Rattle.stored_formats.specs.declared.object.Object.{Object}
use Rattle.tree_exchange.specs.declared.question.Question.{Question}
use Rattle.phase_rules.specs.Refusals.{is_served}
use Rattle.phase_rules.specs.Requests.{row_21, row_22, row_23}
use Rattle.leader_output.specs.Outs.{asked_by}
use Rattle.leader_output.specs.declared.out.LeadOut.{LeadOut}
use Rattle.leader_output.specs.declared.out.Outgoing.{Outgoing}
use Rattle.leader_output.specs.declared.out.Own.{Own}
use Rattle.leader.specs.Puts.{row_35_reply}
use Rattle.leader.specs.Rounds.{row_29_reply, row_33_reply}
use Rattle.leader.specs.Rules.{lead_row}
use Rattle.leader.specs.Starts.{row_27}
use Rattle.leader.specs.declared.leader.Leader.{Leader}
use Rattle.stored_formats.specs.declared.fact.Fact.{Fact}
use Rattle.peer_spec.specs.Drives.{row_done, own_key, followed_up, and_row, lead_done, lead, reminded, task_done, driven, led_in, ticked, got_ask, after_put, put_done, in_tree, delivered, unavailable, and_change, most_turns, concluded, step_of}
use Rattle.peer_spec.proofs.Aging.{asked_asks, confirmed_asks, found_asks, if_follows, installed_asks, looked_asks, noted_follows, own_node_asks, owned_asks, shown_asks, shown_node_asks, written_asks, sealed_asks}
use Rattle.peer_spec.specs.Kept.{IsStepCall}
use Rattle.peer_spec.specs.TreeCalls.{has_position}
use Rattle.peer_spec.specs.Owns.{looked, found}
use Rattle.peer_spec.specs.Syncs.{saved, and_sends, with_sync, accepted, accepted_own, accepted_in, by_outcome, go_on, resume_sync, followed_on, needs_node, take_give, tree_give, sealed_if}
use Rattle.peer_state.specs.Leading.{ticks, row_5_calls, wished, begins}
use Rattle.peer_state.specs.Moves.{left, left_answers, turned, turned_answers, ends_leading, leading, with_leader, and_answers, electing, without_sync, keeps_seal}
use Rattle.peer_state.specs.Rows.{aged, phase_row, received, asked_change, leads, changes}
use Rattle.peer_state.specs.declared.event.Event.{Event}
use Rattle.peer_state.specs.declared.event.Event.TheVariants as events
use Rattle.peer_state.specs.declared.state.Phase.{Phase}
use Rattle.peer_state.specs.declared.state.Phase.TheVariants as phases
use Rattle.peer_state.specs.declared.state.State.{State}
use Rattle.phase_rows.specs.Orders.{is_same}
use Rattle.phase_rows.specs.Peers.{joined}
use Rattle.phase_rows.specs.declared.phase.PhaseOut.{PhaseOut}
use Rattle.phase_rows.specs.declared.phase.Seen.TheVariants as seens
use Rattle.phase_rows.specs.declared.phase.Then.{Then}
use Rattle.phase_rows.specs.declared.phase.Then.TheVariants as thens
use Rattle.phase_rows.specs.declared.rules.PhaseRule.TheVariants as phase_rules
use Rattle.tree_sync.specs.Rows.{row_start, row_resume, row_take}
use Rattle.tree_sync.specs.Running.{Running}
use Rattle.tree_sync.specs.declared.asking.Give.{Give}
use Rattle.step_plans.specs.Calls.{Save, ScanTree}
use Rattle.step_plans.specs.Plans.{Done, Out, Follows, nothing, Rest, Part}
use Rattle.step_plans.specs.Saved.{with_seal}
use Rattle.step_plans.specs.Sends.{posted_to}
use Rattle.step_plans.specs.Tasks.{named, keyed}
use Rattle.step_plans.specs.declared.tasks.Task.{Task}
use Rattle.step_plans.specs.declared.tasks.Task.TheVariants as tasks
use Rattle.tree_sync.specs.Syncs.{needs_build, outcome_of}
use Rattle.tree_sync.specs.declared.sync.Outcome.{Outcome}
use Rattle.tree_sync.specs.declared.sync.Outcome.TheVariants.{Pending, Trusted}
use Rattle.tree_node.specs.declared.version.TreeVersion.{TreeVersion}
use Rattle.wire_frames.specs.declared.message.Message.{Message}
use Rattle.wire_frames.specs.declared.message.Message.TheVariants as messages

module _ (me : ℕ) (P : State → Out → Type 0) (replies : List Bool) where
  -- what follows the part, from an output with these replies
  abbrev Goes : {A : Type 0} → Rest State A → Type 0
  Goes {A} next = (v : A) (y : State) (o : Out) → o.changes ≡ replies → Follows IsStepCall P (next v y o)

  -- the part replies to no request
  abbrev Passes : {A : Type 0} → Part State A → Type 0
  Passes {A} part = (x : State) (out : Out) (next : Rest State A) → out.changes ≡ replies → Goes next → Follows IsStepCall P (part x out next)

  saved_passes : (save : Option Fact) → Passes (saved save)
  saved_passes None x out next is go = go tt x out is
  saved_passes (Some fact) x out next is go = asked_asks P (Save (with_seal x.seal fact)) tt x out (λ u y o. next tt (record y { fact = fact }) o) (λ u. go tt (record x { fact = fact }) out is)

  sealed_if_passes : (seals : Bool) (fact : Fact) → Passes (sealed_if seals fact)
  sealed_if_passes true fact x out next is go = sealed_asks P fact x out next (λ seal. go tt (record x { fact = fact; seal = seal }) out is)
  sealed_if_passes false fact x out next is go = saved_passes (Some fact) x out next is go

  -- ## Syncs

  accepted_own_passes : (e : Election) → Passes (accepted_own me e)
  accepted_own_passes (Starting new accepts age) x out next is go = go (tasks.Phase phase_rules.EnoughAccepted ∷ []) (electing (Starting new (joined me accepts) age) x) out is
  accepted_own_passes (Preparing base promises sent age) x out next is go = go [] x out is

  accepted_in_passes : (fact : Fact) (phase : Phase) → Passes (accepted_in me fact phase)
  accepted_in_passes fact (phases.Electing e) x out next is go = accepted_own_passes e x out next is go
  accepted_in_passes fact (phases.Following f) x out next is go = go [] x (and_sends out (accepted me fact)) is
  accepted_in_passes fact (phases.Probing p) x out next is go = go [] x out is
  accepted_in_passes fact (phases.Leading l) x out next is go = go [] x out is

  by_outcome_passes : (r : Running) (outcome : Outcome) → Passes (by_outcome me r outcome)
  by_outcome_passes r Pending x out next is go = go [] (with_sync r x) out is
  by_outcome_passes r (Trusted entries) x out next is go =
      installed_asks P (needs_build r.sync.scan entries) entries (without_sync x) out
      (λ u y o. sealed_if (keeps_seal y) r.fact y o (λ v z p. accepted_in me r.fact z.phase (record z { trusted = true }) p next))
      (λ u. sealed_if_passes (keeps_seal (without_sync x)) r.fact (without_sync x) out (λ v z p. accepted_in me r.fact z.phase (record z { trusted = true }) p next) is
      (λ v z p alike. accepted_in_passes r.fact z.phase (record z { trusted = true }) p next alike go))

  go_on_passes : (r : Running × List Outgoing) → Passes (go_on me r)
  go_on_passes r x out next is go = by_outcome_passes r.0 (outcome_of r.0.sync) x (and_sends out r.1) next is go

  resumed_passes : (running : Option Running) → Passes (resume_sync running)
  resumed_passes None x out next is go = go [] x out is
  resumed_passes (Some r) x out next is go = go [] (with_sync (row_resume r).0 x) (and_sends out (row_resume r).1) is

  followed_on_passes : (t : Then) → Passes (followed_on me t)
  followed_on_passes (thens.SyncOn fact) x out next is go =
      asked_asks P ScanTree tt x out (λ scan y o. go_on me (row_start fact me y.trusted scan) y o next) (λ scan. go_on_passes (row_start fact me x.trusted scan) x out next is go)
  followed_on_passes thens.Resume x out next is go = resumed_passes x.sync x out next is go
  followed_on_passes (thens.Rule n) x out next is go = go (named (thens.Rule n)) x out is
  followed_on_passes (thens.OnKeys n) x out next is go = go [] x out is
  followed_on_passes thens.Stay x out next is go = go [] x out is
  followed_on_passes thens.Follow x out next is go = go [] x out is
  followed_on_passes (thens.Lead fact) x out next is go = go [] x out is
  followed_on_passes thens.Untrust x out next is go = go [] x out is
  followed_on_passes thens.Put x out next is go = go [] x out is

  take_give_passes : (tree : TreeVersion) (from : ℕ) (give : Give) (own : Option (List ℕ)) (running : Option Running) → Passes (take_give tree me from give own running)
  take_give_passes tree from give own None x out next is go = go [] x out is
  take_give_passes tree from give own (Some r) x out next is go = go_on_passes (row_take tree from give own r) x out next is go

  -- ## Rows

  -- answers to calls are no replies
  left_same : (leave : Bool) (x : State) (out : Out) → out.changes ≡ replies → (left_answers leave x out).changes ≡ replies
  left_same true x out is = is
  left_same false x out is = is

  row_done_passes : (row : PhaseOut) → Passes (row_done me row)
  row_done_passes row x out next is go =
      saved_passes row.save (left row.leave x) (left_answers row.leave x out) (λ u y o. followed_on me row.then (turned me row.then y) (turned_answers row.then y (and_sends o (posted_to row.to row.message))) next) (left_same row.leave x out is)
      (λ u y o same. followed_on_passes row.then (turned me row.then y) (turned_answers row.then y (and_sends o (posted_to row.to row.message))) next (left_same (ends_leading row.then) y (and_sends o (posted_to row.to row.message)) same) go)

  followed_up_passes : (own : Option Own) (turn : Then) (keys : List (List ℕ)) → Passes (followed_up me own turn keys)
  followed_up_passes None turn keys x out next is go = go (keyed turn keys) (turned me turn x) (turned_answers turn x out) (left_same (ends_leading turn) x out is)
  followed_up_passes (Some own) turn keys x out next is go =
      owned_asks P own x out (λ seen y o. next (tasks.Again (asked_by own) (own_key own) seen ∷ []) y o) (λ seen seal. go (tasks.Again (asked_by own) (own_key own) seen ∷ []) (record x { seal = seal }) out is)

  lead_done_passes : (row : LeadOut) → Passes (lead_done me row)
  lead_done_passes row x out next is go =
      noted_follows P row.notes (followed_up me row.own row.then row.keys (left row.leave x) (and_row row x out) next)
      (followed_up_passes row.own row.then row.keys (left row.leave x) (and_row row x out) next (left_same row.leave x out is) go)

  lead_passes : (row : Leader → Leader × LeadOut) (phase : Phase) → Passes (lead row me phase)
  lead_passes row (phases.Leading l) x out next is go = lead_done_passes (row l.leader).1 (leading (with_leader (row l.leader).0 l) x) out next is go
  lead_passes row (phases.Following f) x out next is go = go [] x out is
  lead_passes row (phases.Probing p) x out next is go = go [] x out is
  lead_passes row (phases.Electing e) x out next is go = go [] x out is

  reminded_passes : (phase : Phase) → Passes (reminded phase)
  reminded_passes (phases.Leading l) x out next is go =
      go (named (begins (wished l.leader.fact l.change))) (leading (record l { change = wished l.leader.fact l.change }) x) (and_sends out (ticks x.fact l)) is
  reminded_passes (phases.Following f) x out next is go = go [] x out is
  reminded_passes (phases.Probing p) x out next is go = go [] x out is
  reminded_passes (phases.Electing e) x out next is go = go [] x out is

  task_done_passes : (t : Task) → Passes (task_done me t)
  task_done_passes (tasks.Phase n) x out next is go = row_done_passes (phase_row n me x).1 (phase_row n me x).0 out next is go
  task_done_passes tasks.Remind x out next is go = reminded_passes x.phase x out next is go
  task_done_passes (tasks.Key n key) x out next is go = lead_passes (lead_row n key seens.Nothing) x.phase x out next is go
  task_done_passes (tasks.Again n key seen) x out next is go = lead_passes (lead_row n key seen) x.phase x out next is go

  driven_passes : (n : ℕ) (ts : List Task) → Passes (driven me n ts)
  unfolding driven
  driven_passes zero ts x out next is go = go ts x out is
  driven_passes (suc n) [] x out next is go = go [] x out is
  driven_passes (suc n) (t ∷ ts) x out next is go = task_done_passes t x out (λ more y o. driven me n (more ++ ts) y o next) is (λ more y o same. driven_passes n (more ++ ts) y o next same go)

  -- ## Events

  ticked_passes : (phase : Phase) → Passes (ticked me phase)
  ticked_passes phase x out next is go = if_follows P (leads phase) _ _ (led_in_passes phase x out next is go) (row_done_passes (aged phase me x).1 (aged phase me x).0 out next is go)
    where
      led_in_passes : (phase : Phase) → Passes (led_in me phase)
      led_in_passes (phases.Leading l) x out next is go =
          lead_done_passes (row_5_calls x.fact l).1 (leading (row_5_calls x.fact l).0 x) out (λ ts y o. next (ts ++ tasks.Remind ∷ []) y o) is (λ ts y o same. go (ts ++ tasks.Remind ∷ []) y o same)
      led_in_passes (phases.Following f) x out next is go = go [] x out is
      led_in_passes (phases.Probing p) x out next is go = go [] x out is
      led_in_passes (phases.Electing e) x out next is go = go [] x out is

  put_done_passes : (turn : Then) (from : ℕ) (ballot : Epoch) (o : Object) (row : PhaseOut) → Passes (put_done turn me from ballot o row)
  put_done_passes thens.Put from ballot o row x out next is go =
      written_asks P o x out (λ seen y p. row_done me (after_put from ballot row seen) y p next) (λ seen seal. row_done_passes (after_put from ballot row seen) (record x { seal = seal }) out next is go)
  put_done_passes thens.Stay from ballot o row x out next is go = row_done_passes row x out next is go
  put_done_passes thens.Follow from ballot o row x out next is go = row_done_passes row x out next is go
  put_done_passes (thens.Lead fact) from ballot o row x out next is go = row_done_passes row x out next is go
  put_done_passes thens.Untrust from ballot o row x out next is go = row_done_passes row x out next is go
  put_done_passes thens.Resume from ballot o row x out next is go = row_done_passes row x out next is go
  put_done_passes (thens.SyncOn fact) from ballot o row x out next is go = row_done_passes row x out next is go
  put_done_passes (thens.Rule n) from ballot o row x out next is go = row_done_passes row x out next is go
  put_done_passes (thens.OnKeys n) from ballot o row x out next is go = row_done_passes row x out next is go

  got_ask_passes : (from : ℕ) (ballot : Epoch) (q : Question) → Passes (got_ask me from ballot q)
  got_ask_passes from ballot q x out next is go =
      shown_node_asks P x.mode.tree (is_same ballot x.fact.ballot) q x out (λ body y o. row_done me (row_23 y.fact y.trusted from ballot q.position q.after body) y o next)
      (λ body. row_done_passes (row_23 x.fact x.trusted from ballot q.position q.after body) x out next is go)

  tree_give_passes : (from : ℕ) (give : Give) → Passes (tree_give me from give)
  tree_give_passes from give x out next is go =
      own_node_asks P (needs_node x.mode.tree from give x.sync) give.question.position x out (λ own y o. take_give x.mode.tree me from give own y.sync y o next)
      (λ own. take_give_passes x.mode.tree from give own x.sync x out next is go)

  -- a message about a node
  in_tree_passes : (has : Bool) (part : Part State (List Task)) → Passes part → Passes (in_tree has part)
  in_tree_passes true part passes x out next is go = passes x out next is go
  in_tree_passes false part passes x out next is go = go [] x out is

  delivered_passes : (from : ℕ) (message : Message) → Passes (delivered me from message)
  delivered_passes from (messages.Get ballot round key) x out next is go =
      shown_asks P (is_served x.fact x.trusted ballot) (looked key) (looked_asks P key) x out (λ seen y o. row_done me (row_21 y.fact y.trusted from ballot round key seen) y o next)
      (λ seen. row_done_passes (row_21 x.fact x.trusted from ballot round key seen) x out next is go)
  delivered_passes from (messages.Put ballot o) x out next is go =
      shown_asks P (is_served x.fact x.trusted ballot) (found o.key) (found_asks P o.key) x out
      (λ seen y p. put_done (row_22 y.fact y.trusted from ballot o seen).then me from ballot o (row_22 y.fact y.trusted from ballot o seen) y p next)
      (λ seen. put_done_passes (row_22 x.fact x.trusted from ballot o seen).then from ballot o (row_22 x.fact x.trusted from ballot o seen) x out next is go)
  delivered_passes from (messages.GetReply ballot round key entry object) x out next is go =
      if_follows P (leads x.phase) _ _
      (confirmed_asks P entry object x out (λ named y o. lead (row_29_reply from ballot round key entry named) me y.phase y o next)
      (λ named. lead_passes (row_29_reply from ballot round key entry named) x.phase x out next is go))
      (go [] x out is)
  delivered_passes from (messages.PutReply ballot key version) x out next is go = lead_passes (row_35_reply from ballot key version) x.phase x out next is go
  delivered_passes from (messages.CheckReply ballot round) x out next is go = lead_passes (row_33_reply from ballot round) x.phase x out next is go
  delivered_passes from (messages.TreeAsk ballot at after) x out next is go =
      let q : Question = record { position = at; after = after } in
      in_tree_passes (has_position x.mode.tree at) (got_ask me from ballot q) (got_ask_passes from ballot q) x out next is go
  delivered_passes from (messages.TreeGive ballot at after trusted body) x out next is go =
      let give : Give = record { ballot = ballot; question = record { position = at; after = after }; trusted = trusted; body = body } in
      in_tree_passes (has_position x.mode.tree at) (tree_give me from give) (tree_give_passes from give) x out next is go
  delivered_passes from message x out next is go = row_done_passes (received me from message x).1 (received me from message x).0 out next is go

  -- what follows a row, until no task is left
  abbrev onward : Rest State (Unit {0}) → Rest State (List Task)
  onward next ts y o = driven me most_turns ts y o (λ rest z q. next tt z q)

  onward_goes : (next : Rest State (Unit {0})) → Goes next → Goes (onward next)
  onward_goes next go ts y o is = driven_passes most_turns ts y o (λ rest z q. next tt z q) is (λ rest z q same. go tt z q same)

  concluded_passes : Passes (concluded me)
  concluded_passes x out next is go = task_done_passes (tasks.Phase phase_rules.EndEpoch) x out (onward next) is (onward_goes next go)

-- the replies of a step: one to a request for a change of view, and none on another event
abbrev pub HasReplies : Event → List Bool → Type 0
HasReplies (events.Change view) replies = (taken : Bool) × (replies ≡ taken ∷ [])
HasReplies event replies = replies ≡ []

module _ (me : ℕ) (event : Event) where
  abbrev Replied : State → Out → Type 0
  Replied y o = HasReplies event o.changes

  -- the rest of the step
  ends : (replies : List Bool) → HasReplies event replies → Goes me Replied replies (onward me Replied replies (λ u y o. concluded me y o (λ v z q. Done z q)))
  ends replies has = onward_goes me Replied replies (λ u y o. concluded me y o (λ v z q. Done z q))
      (λ u y o is. concluded_passes me Replied replies y o (λ v z q. Done z q) is (λ v z q same. has_same event replies q.changes same has))
    where
      has_same : (e : Event) (a b : List Bool) → b ≡ a → HasReplies e a → HasReplies e b
      has_same (events.Change view) a b same has = (has.0, same ∙ has.1)
      has_same (events.Deliver from message) a b same has = same ∙ has
      has_same events.Tick a b same has = same ∙ has
      has_same (events.Call call) a b same has = same ∙ has

pub step_replies : (me : ℕ) (event : Event) (x : State) → Follows IsStepCall (λ y o. HasReplies event o.changes) (step_of me event x)
step_replies me (events.Deliver from message) x = delivered_passes me (Replied me (events.Deliver from message)) [] from message x nothing _ refl (ends me (events.Deliver from message) [] refl)
step_replies me events.Tick x = ticked_passes me (Replied me events.Tick) [] x.phase x nothing _ refl (ends me events.Tick [] refl)
step_replies me (events.Call call) x =
    let go = ends me (events.Call call) [] refl in
    if_follows (Replied me (events.Call call)) (leads x.phase) _ _
    (lead_passes me (Replied me (events.Call call)) [] (row_27 call.from call.id call.key call.command (changes x.phase)) x.phase x nothing _ refl go) (go [] x (and_answers nothing (unavailable call ∷ [])) refl)
step_replies me (events.Change view) x =
    row_done_passes me (Replied me (events.Change view)) ((asked_change view x).1.1 ∷ []) (asked_change view x).1.0 (asked_change view x).0 (and_change nothing (asked_change view x).1.1) _ refl
    (ends me (events.Change view) ((asked_change view x).1.1 ∷ []) ((asked_change view x).1.1, refl))
