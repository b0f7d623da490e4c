-- A step beside the same step with a mark where a task is left: it leaves the peer at rest.
use Rattle.std.specs.Option.{is_some}
use Rattle.std.proofs.Common.{◌≡◌, ◌≤◌, ◌+◌, ◌||◌, refl, sym, subst, ◌∙◌, length, map, ℕ, zero, suc, Bool, true, false, if◌then◌else◌, List, [], ◌∷◌, ◌++◌, Option, Some, None}
use Rattle.phase_rules.specs.declared.election.Election.{Election}
use Rattle.phase_rules.specs.declared.election.Election.TheVariants.{Preparing, Starting}
use Rattle.ens_base.specs.declared.epoch.Epoch.{Epoch}
use Rattle.call_table.specs.Tables.{late_put}
use Rattle.ens_base.specs.declared.command.Command.{Command}
use Rattle.ens_base.specs.declared.entry.Entry.{Entry}
use Rattle.ens_base.specs.declared.epoch.Version.{Version}
use Rattle.stored_formats.specs.Objects.{object_spelling}
use Rattle.stored_formats.specs.declared.object.Object.{Object}
use Rattle.object_commands.specs.Kept.{entry_of, matching, object_in}
use Rattle.register_model.specs.declared.note.Note.{Note}
use Rattle.step_plans.specs.declared.walked.Walked.{Walked}
use Rattle.step_plans.specs.declared.walked.Walked.TheVariants.{Reached, Broken}
use Rattle.tree_node.specs.declared.position.Position.{Position}
use Rattle.tree_node.specs.declared.version.TreeVersion.{TreeVersion}
use Rattle.tree_exchange.specs.declared.question.Question.{Question}
use Rattle.phase_rules.specs.Refusals.{is_served}
use Rattle.phase_rules.specs.Requests.{row_21, row_22, row_23}
use Rattle.leader_output.specs.Outs.{asked_by}
use Rattle.leader_output.specs.declared.out.LeadOut.{LeadOut}
use Rattle.leader_output.specs.declared.out.Outgoing.{Outgoing}
use Rattle.leader_output.specs.declared.out.Own.{Own}
use Rattle.leader_output.specs.declared.out.Own.TheVariants as owns
use Rattle.leader.specs.Puts.{row_35_reply}
use Rattle.leader.specs.Rounds.{row_29_reply, row_33_reply}
use Rattle.leader.specs.Rules.{lead_row}
use Rattle.leader.specs.Starts.{row_27}
use Rattle.leader_laws.specs.Steps.{NamesOn, Fits, IsReady, IsReadyFor, IsCalm, IsAtRest, is_start}
use Rattle.leader_laws.specs.Measure.{turns_seen}
use Rattle.leader.specs.Ticks.{is_late, aged as aged_table}
use Rattle.leader.specs.declared.leader.Leader.{Leader}
use Rattle.leader.specs.declared.pending.Pending.{Pending as LeadTask}
use Rattle.leader_laws.proofs.Idle.{calm_kept}
use Rattle.leader_laws.proofs.Joins.{row_27_joins}
use Rattle.leader_laws.proofs.Steps.{lead_step, row_29_reply_step, row_33_reply_step, row_35_reply_step}
use Rattle.leader_laws.proofs.TimeOuts.{row_5_ticks}
use Rattle.stored_formats.specs.declared.fact.Fact.{Fact}
use Rattle.peer_spec.specs.Drives.{row_done, owned, own_key, followed_up, and_row, lead_done, lead, reminded, task_done, driven, led_in, shown, got_ask, after_put, put_done, in_tree, delivered, unavailable, first, and_change, most_turns}
use Rattle.peer_spec.specs.Kept.{IsStepCall}
use Rattle.peer_spec.specs.Owns.{digested, read, kept, fetched, held, looked_at, looked, found_at, found, entered, written, confirmed, stored, resealed}
use Rattle.peer_spec.specs.TreeCalls.{has_position}
use Rattle.peer_spec.specs.Syncs.{saved, and_sends, with_sync, accepted, accepted_own, accepted_in, by_outcome, go_on, resume_sync, followed_on, needs_node, take_give, tree_give, installed, reached, own_node, body_of, shown_node, sealed, sealed_if}
use Rattle.peer_spec.specs.Turns.{StepsAlone}
use Rattle.peer_spec.proofs.Fuel.{owed_none}
use Rattle.peer_state.specs.Leading.{older, end_of, ticks, row_5_calls, wished, begins}
use Rattle.peer_state.specs.Moves.{left, left_answers, turned, turned_answers, leading, with_leader, and_answers, electing, without_sync, keeps_seal}
use Rattle.peer_state.specs.Rows.{aged, phase_row, received, asked_change, leads, changes}
use Rattle.peer_state.specs.declared.event.Event.{Event}
use Rattle.peer_state.specs.declared.event.Event.TheVariants as events
use Rattle.peer_state.specs.declared.state.Phase.{Phase}
use Rattle.peer_state.specs.declared.state.Phase.TheVariants as phases
use Rattle.peer_state.specs.declared.state.State.{State}
use Rattle.phase_rows.specs.Orders.{is_same}
use Rattle.phase_rows.specs.Peers.{joined}
use Rattle.phase_rows.specs.declared.phase.PhaseOut.{PhaseOut}
use Rattle.phase_rows.specs.declared.phase.Seen.{Seen}
use Rattle.phase_rows.specs.declared.phase.Seen.TheVariants as seens
use Rattle.phase_rows.specs.declared.phase.Then.{Then}
use Rattle.phase_rows.specs.declared.phase.Then.TheVariants as thens
use Rattle.phase_rows.specs.declared.rules.KeyRule.{KeyRule}
use Rattle.phase_rows.specs.declared.rules.KeyRule.TheVariants as key_rules
use Rattle.phase_rows.specs.declared.rules.PhaseRule.{PhaseRule}
use Rattle.phase_rows.specs.declared.rules.PhaseRule.TheVariants as phase_rules
use Rattle.tree_sync.specs.Rows.{row_start, row_resume, row_take}
use Rattle.tree_sync.specs.Running.{Running}
use Rattle.tree_sync.specs.declared.asking.Give.{Give}
use Rattle.step_plans.specs.Saved.{with_seal}
use Rattle.step_plans.specs.Calls.{Call, Find, Enter, ScanTree, ReadNode, Install, Fetch, Put, Hash, Root, Save}
use Rattle.step_plans.specs.Plans.{Plan, Out, Rest, Part, Follows, asked, noted}
use Rattle.step_plans.specs.Sends.{posted_to}
use Rattle.step_plans.specs.Tasks.{named, keyed}
use Rattle.step_plans.specs.declared.tasks.Task.{Task}
use Rattle.step_plans.specs.declared.tasks.Task.TheVariants as tasks
use Rattle.tree_sync.specs.Syncs.{needs_build, outcome_of}
use Rattle.tree_sync.specs.declared.sync.Outcome.{Outcome}
use Rattle.tree_sync.specs.declared.sync.Outcome.TheVariants.{Pending, Trusted}
use Rattle.wire_frames.specs.declared.message.Message.{Message}
use Rattle.wire_frames.specs.declared.message.Message.TheVariants as messages
use Rattle.step_laws.specs.Reached.{calls_of}
use Rattle.step_laws.specs.Resting.{IsResting}
use Rattle.step_laws.proofs.Counts.{count, trans, left_few, turned_few, phase_row_few, received_few, aged_few, asked_few, LeavesNoMore, key_few, got_few, checked_few, put_few, joined_few, ticked_few}
use Rattle.step_laws.proofs.Rested.{left_rests, untrusted_rests, turned_rests, phase_row_rests, received_rests, aged_rests, asked_rests, OwnOn, lead_own, look_own, reply_own}
use Rattle.step_laws.proofs.Walking.{plus_none, joined_room, some_room}

-- ## Tasks

-- the leader is ready for the task
abbrev FitsLed : Task → Leader → Type 0
FitsLed (tasks.Phase n) l = IsAtRest l
FitsLed tasks.Remind l = IsAtRest l
FitsLed (tasks.Key n key) l = IsReady n key l × IsCalm l.table
FitsLed (tasks.Again n key seen) l = IsReady n key l × IsCalm l.table

-- a leader in the phase is ready for the task
abbrev FitsTask : Task → Phase → Type 0
FitsTask t (phases.Leading l) = FitsLed t l.leader
FitsTask t (phases.Following f) = Unit {0}
FitsTask t (phases.Probing p) = Unit {0}
FitsTask t (phases.Electing e) = Unit {0}

-- the task begins at rest
abbrev Starts : Task → Type 0
Starts (tasks.Phase n) = Unit {0}
Starts tasks.Remind = Unit {0}
Starts (tasks.Key n key) = is_start n ≡ true
Starts (tasks.Again n key seen) = ⊥

abbrev AllStart : List Task → Type 0
AllStart [] = Unit {0}
AllStart (t ∷ ts) = Starts t × AllStart ts

-- the peer is ready for the tasks: for the first of them, or at rest if there is none; the others begin at rest
abbrev Ready : List Task → Phase → Type 0
Ready [] phase = IsResting phase
Ready (t ∷ ts) phase = FitsTask t phase × AllStart ts

start_led : (t : Task) (l : Leader) → Starts t → IsAtRest l → FitsLed t l
start_led (tasks.Phase n) l start rests = rests
start_led tasks.Remind l start rests = rests
start_led (tasks.Key n key) l start rests = (subst (λ (task : LeadTask). Fits n key l task) (sym rests.task) start, rests.calm)
start_led (tasks.Again n key seen) l start rests = absurd start

start_fits : (t : Task) (phase : Phase) → Starts t → IsResting phase → FitsTask t phase
start_fits t (phases.Leading l) start rests = start_led t l.leader start rests
start_fits t (phases.Following f) start rests = tt
start_fits t (phases.Probing p) start rests = tt
start_fits t (phases.Electing e) start rests = tt

starts_ready : (ts : List Task) (phase : Phase) → AllStart ts → IsResting phase → Ready ts phase
starts_ready [] phase start rests = rests
starts_ready (t ∷ ts) phase start rests = (start_fits t phase start.0 rests, start.1)

starts_more : (more ts : List Task) → AllStart more → AllStart ts → AllStart (more ++ ts)
starts_more [] ts first second = second
starts_more (t ∷ more) ts first second = (first.0, starts_more more ts first.1 second)

ready_more : (more ts : List Task) (phase : Phase) → Ready more phase → AllStart ts → Ready (more ++ ts) phase
ready_more [] ts phase ready start = starts_ready ts phase start ready
ready_more (t ∷ more) ts phase ready start = (ready.0, starts_more more ts ready.1 start)

named_starts : (turn : Then) → AllStart (named turn)
named_starts (thens.Rule n) = (tt, tt)
named_starts (thens.OnKeys n) = tt
named_starts thens.Stay = tt
named_starts thens.Follow = tt
named_starts (thens.Lead fact) = tt
named_starts thens.Untrust = tt
named_starts thens.Put = tt
named_starts thens.Resume = tt
named_starts (thens.SyncOn fact) = tt

-- ## After a row of a leader

-- after a rule on the key a leader in the phase is ready for what comes next
abbrev After : List ℕ → Option Own → Then → Phase → Type 0
After key own turn (phases.Leading l) = IsReadyFor key own turn l.leader × IsCalm l.leader.table
After key own turn (phases.Following f) = Unit {0}
After key own turn (phases.Probing p) = Unit {0}
After key own turn (phases.Electing e) = Unit {0}

stopped_after : (key : List ℕ) (own : Option Own) (turn : Then) (x : State) → After key own turn (left true x).phase
stopped_after key own turn x = by x.phase
  where
    by : (phase : Phase) → After key own turn (left true (record x { phase = phase })).phase
    by (phases.Leading l) = tt
    by (phases.Following f) = tt
    by (phases.Probing p) = tt
    by (phases.Electing e) = tt

left_after : (key : List ℕ) (own : Option Own) (turn : Then) (leave : Bool) (x : State) → After key own turn x.phase → After key own turn (left leave x).phase
left_after key own turn true x after = stopped_after key own turn x
left_after key own turn false x after = after

stay_rests : (key : List ℕ) (phase : Phase) → After key None thens.Stay phase → IsResting phase
stay_rests key (phases.Leading l) after = record { task = after.0; calm = after.1 }
stay_rests key (phases.Following f) after = tt
stay_rests key (phases.Probing p) after = tt
stay_rests key (phases.Electing e) after = tt

rule_fits : (m : KeyRule) (key : List ℕ) (phase : Phase) → After key None (thens.OnKeys m) phase → FitsTask (tasks.Key m key) phase
rule_fits m key (phases.Leading l) after = after
rule_fits m key (phases.Following f) after = tt
rule_fits m key (phases.Probing p) after = tt
rule_fits m key (phases.Electing e) after = tt

turned_ready : (me : ℕ) (key : List ℕ) (turn : Then) (keys : List (List ℕ)) (x : State) → NamesOn key turn keys → After key None turn x.phase → Ready (keyed turn keys) (turned me turn x).phase
turned_ready me key thens.Stay keys x names after = stay_rests key x.phase after
turned_ready me key thens.Untrust keys x names after = untrusted_rests x.phase
turned_ready me key (thens.OnKeys m) keys x names after = subst (λ (ks : List (List ℕ)). Ready (keyed (thens.OnKeys m) ks) x.phase) (sym names) (rule_fits m key x.phase after, tt)
turned_ready me key (thens.Rule r) keys x names after = absurd names
turned_ready me key thens.Follow keys x names after = absurd names
turned_ready me key (thens.Lead fact) keys x names after = absurd names
turned_ready me key thens.Put keys x names after = absurd names
turned_ready me key thens.Resume keys x names after = absurd names
turned_ready me key (thens.SyncOn fact) keys x names after = absurd names

again_fits : (key k : List ℕ) (own : Own) (turn : Then) (seen : Seen) (phase : Phase) → k ≡ key → After key (Some own) turn phase → FitsTask (tasks.Again (asked_by own) k seen) phase
again_fits key k own turn seen (phases.Leading l) same after = (subst (λ (z : List ℕ). IsReady (asked_by own) z l.leader) (sym same) after.0, after.1)
again_fits key k own turn seen (phases.Following f) same after = tt
again_fits key k own turn seen (phases.Probing p) same after = tt
again_fits key k own turn seen (phases.Electing e) same after = tt

-- after a tick the next calls start, if any do
abbrev TurnStarts : Then → Type 0
TurnStarts thens.Stay = Unit {0}
TurnStarts (thens.OnKeys m) = is_start m ≡ true
TurnStarts turn = ⊥

keys_start : (m : KeyRule) (keys : List (List ℕ)) → is_start m ≡ true → AllStart (map (tasks.Key m) keys)
keys_start m [] start = tt
keys_start m (key ∷ keys) start = (start, keys_start m keys start)

turn_starts : (turn : Then) (keys : List (List ℕ)) → TurnStarts turn → AllStart (keyed turn keys)
turn_starts thens.Stay keys start = tt
turn_starts (thens.OnKeys m) keys start = keys_start m keys start
turn_starts (thens.Rule r) keys start = absurd start
turn_starts thens.Follow keys start = absurd start
turn_starts (thens.Lead fact) keys start = absurd start
turn_starts thens.Untrust keys start = absurd start
turn_starts thens.Put keys start = absurd start
turn_starts thens.Resume keys start = absurd start
turn_starts (thens.SyncOn fact) keys start = absurd start

late_starts : (late : Bool) → TurnStarts (if late then thens.Stay else thens.OnKeys key_rules.StartNextCall)
late_starts true = tt
late_starts false = refl

read_is_no_put : key_rules.Read ≡ key_rules.Put → ⊥
read_is_no_put is = absurd cc

check_is_no_put : key_rules.Check ≡ key_rules.Put → ⊥
check_is_no_put is = absurd cc

-- ## Two plans side by side

module _ (k me : ℕ) (P : State → Out → Type 0) where
  -- if the second plan makes the calls of a step alone, the first reaches its ends
  abbrev Safe : Plan State → Plan State → Type 0
  Safe p q = StepsAlone q → Follows IsStepCall P p

  -- the part asks the stores; the state is the same at its end
  abbrev Asks : {A : Type 0} → Part State A → Type 0
  Asks {A} part = (x : State) (out : Out) (next mark : Rest State A) → ((v : A) → Safe (next v x out) (mark v x out)) → Safe (part x out next) (part x out mark)

  asked_asks : (call : Call) → Asks (asked call)
  unfolding asked
  asked_asks call x out next mark go = λ alone. (alone.0, λ a. go a (alone.1 a))

  digested_asks : (object : Option Object) (bytes : List ℕ) → Asks (digested object bytes)
  digested_asks None bytes x out next mark go = go None
  digested_asks (Some o) bytes x out next mark go = asked_asks (Hash bytes) x out (λ digest y p. next (Some (o, digest)) y p) (λ digest y p. mark (Some (o, digest)) y p) (λ digest. go (Some (o, digest)))

  read_asks : (bytes : Option (List ℕ)) → Asks (read bytes)
  read_asks None x out next mark go = go None
  read_asks (Some bytes) x out next mark go = digested_asks (object_in bytes) bytes x out next mark go

  kept_asks : (key : List ℕ) → Asks (kept key)
  kept_asks key x out next mark go = asked_asks (Fetch key) x out (λ bytes y p. read bytes y p next) (λ bytes y p. read bytes y p mark) (λ bytes. read_asks bytes x out next mark go)

  fetched_asks : (key : List ℕ) → Asks (fetched key)
  fetched_asks key x out next mark go = kept_asks key x out (λ o y p. next (seens.Kept o) y p) (λ o y p. mark (seens.Kept o) y p) (λ o. go (seens.Kept o))

  held_asks : (key : List ℕ) (entry : Option Entry) → Asks (held key entry)
  held_asks key None x out next mark go = go (seens.Held None None)
  held_asks key (Some entry) x out next mark go =
      kept_asks key x out (λ o y p. next (seens.Held (Some entry) (matching entry o)) y p) (λ o y p. mark (seens.Held (Some entry) (matching entry o)) y p) (λ o. go (seens.Held (Some entry) (matching entry o)))

  looked_at_asks : (key : List ℕ) (end : Walked (Option Entry)) → Asks (looked_at key end)
  looked_at_asks key (Broken at) x out next mark go = go (seens.Damaged at)
  looked_at_asks key (Reached entry) x out next mark go = held_asks key entry x out next mark go

  looked_asks : (key : List ℕ) → Asks (looked key)
  looked_asks key x out next mark go = asked_asks (Find key) x out (λ end y p. looked_at key end y p next) (λ end y p. looked_at key end y p mark) (λ end. looked_at_asks key end x out next mark go)

  found_asks : (key : List ℕ) → Asks (found key)
  found_asks key x out next mark go = asked_asks (Find key) x out (λ end y p. next (found_at end) y p) (λ end y p. mark (found_at end) y p) (λ end. go (found_at end))

  -- the same of a part at whose end the peer may have another seal
  abbrev AsksAnew : {A : Type 0} → Part State A → Type 0
  AsksAnew {A} part = (x : State) (out : Out) (next mark : Rest State A) → ((v : A) (seal : Option (List ℕ)) → Safe (next v (record x { seal = seal }) out) (mark v (record x { seal = seal }) out)) → Safe (part x out next) (part x out mark)

  sealed_asks : (fact : Fact) (x : State) (out : Out) (next mark : Rest State (Unit {0})) → ((seal : Option (List ℕ)) → Safe (next tt (record x { fact = fact; seal = seal }) out) (mark tt (record x { fact = fact; seal = seal }) out))
      → Safe (sealed fact x out next) (sealed fact x out mark)
  sealed_asks fact x out next mark go =
      asked_asks Root x out (λ root y o. asked (Save (with_seal root fact)) y o (λ u z q. next tt (record z { fact = fact; seal = root }) q)) (λ root y o. asked (Save (with_seal root fact)) y o (λ u z q. mark tt (record z { fact = fact; seal = root }) q))
      (λ root. asked_asks (Save (with_seal root fact)) x out (λ u z q. next tt (record z { fact = fact; seal = root }) q) (λ u z q. mark tt (record z { fact = fact; seal = root }) q) (λ u. go root))

  resealed_asks : (seals : Bool) → AsksAnew (resealed seals)
  resealed_asks true x out next mark go = sealed_asks x.fact x out next mark (λ seal. go tt seal)
  resealed_asks false x out next mark go = go tt x.seal

  entered_asks : (o : Object) (bytes digest : List ℕ) (end : Walked (Unit {0})) → AsksAnew (entered o bytes digest end)
  entered_asks o bytes digest (Broken at) x out next mark go = go (seens.Damaged at) x.seal
  entered_asks o bytes digest (Reached u) x out next mark go =
      resealed_asks (is_some x.seal) x out (λ v y p. stored o bytes digest y p next) (λ v y p. stored o bytes digest y p mark)
      (λ v seal. asked_asks (Put o.key bytes) (record x { seal = seal }) out (λ w y p. next (seens.Stored digest) y p) (λ w y p. mark (seens.Stored digest) y p) (λ w. go (seens.Stored digest) seal))

  written_asks : (o : Object) → AsksAnew (written o)
  written_asks o x out next mark go =
      let bytes = object_spelling o in
      asked_asks (Hash bytes) x out (λ digest y p. asked (Enter (entry_of o digest)) y p (λ end z q. entered o bytes digest end z q next)) (λ digest y p. asked (Enter (entry_of o digest)) y p (λ end z q. entered o bytes digest end z q mark))
      (λ digest. asked_asks (Enter (entry_of o digest)) x out (λ end z q. entered o bytes digest end z q next) (λ end z q. entered o bytes digest end z q mark) (λ end. entered_asks o bytes digest end x out next mark go))

  confirmed_asks : (entry : Option Entry) (object : Option Object) → Asks (confirmed entry object)
  confirmed_asks None object x out next mark go = go None
  confirmed_asks (Some entry) None x out next mark go = go None
  confirmed_asks (Some entry) (Some o) x out next mark go =
      asked_asks (Hash (object_spelling o)) x out (λ digest y p. next (matching entry (Some (o, digest))) y p) (λ digest y p. mark (matching entry (Some (o, digest))) y p) (λ digest. go (matching entry (Some (o, digest))))

  if_safe : (test : Bool) (p q p' q' : Plan State) → Safe p p' → Safe q q' → Safe (if test then p else q) (if test then p' else q')
  if_safe true p q p' q' first second = first
  if_safe false p q p' q' first second = second

  owned_asks : (own : Own) → AsksAnew (owned own)
  owned_asks (owns.Fetch key) x out next mark go = fetched_asks key x out next mark (λ seen. go seen x.seal)
  owned_asks (owns.Look key) x out next mark go = looked_asks key x out next mark (λ seen. go seen x.seal)
  owned_asks (owns.Put o) x out next mark go = written_asks o x out next mark go

  noted_safe : (notes : List Note) (p q : Plan State) → Safe p q → Safe (noted notes p) (noted notes q)
  noted_safe [] p q safe = safe
  noted_safe (n ∷ notes) p q safe = noted_safe notes p q safe

  installed_asks : (needed : Bool) (entries : List Entry) → Asks (installed needed entries)
  installed_asks true entries x out next mark go = asked_asks (Install entries) x out next mark (λ u. go u)
  installed_asks false entries x out next mark go = go tt

  own_node_asks : (needed : Bool) (at : Position) → Asks (own_node needed at)
  own_node_asks true at x out next mark go = asked_asks (ReadNode at) x out (λ walked y o. next (reached walked) y o) (λ walked y o. mark (reached walked) y o) (λ walked. go (reached walked))
  own_node_asks false at x out next mark go = go None

  shown_node_asks : (tree : TreeVersion) (answered : Bool) (q : Question) → Asks (shown_node tree answered q)
  shown_node_asks tree true q x out next mark go = asked_asks (ReadNode q.position) x out (λ walked y o. next (Some (body_of tree q walked)) y o) (λ walked y o. mark (Some (body_of tree q walked)) y o) (λ walked. go (Some (body_of tree q walked)))
  shown_node_asks tree false q x out next mark go = go None

  shown_asks : (served : Bool) (part : Part State Seen) → Asks part → Asks (shown served part)
  shown_asks true part asks x out next mark go = asks x out next mark go
  shown_asks false part asks x out next mark go = go seens.Nothing

  -- ## Parts that go on with tasks

  abbrev Goes : Rest State (List Task) → Rest State (List Task) → Type 0
  Goes next mark = (ts : List Task) (y : State) (o : Out) → count y.phase ≤ k → Ready ts y.phase → Safe (next ts y o) (mark ts y o)

  -- from a state at rest, the part reaches states that are ready for its tasks
  abbrev Passes : Part State (List Task) → Type 0
  Passes part = (x : State) (out : Out) (next mark : Rest State (List Task)) → count x.phase ≤ k → IsResting x.phase → Goes next mark → Safe (part x out next) (part x out mark)

  saved_safe : (save : Option Fact) (x : State) (out : Out) (next mark : Rest State (Unit {0})) → count x.phase ≤ k → IsResting x.phase
      → ((y : State) (o : Out) → count y.phase ≤ k → IsResting y.phase → Safe (next tt y o) (mark tt y o)) → Safe (saved save x out next) (saved save x out mark)
  unfolding asked
  saved_safe None x out next mark few rests go = go x out few rests
  saved_safe (Some fact) x out next mark few rests go = λ alone. (tt, λ u. go (record x { fact = fact }) out few rests (alone.1 u))

  sealed_if_safe : (seals : Bool) (fact : Fact) (x : State) (out : Out) (next mark : Rest State (Unit {0})) → count x.phase ≤ k → IsResting x.phase
      → ((y : State) (o : Out) → count y.phase ≤ k → IsResting y.phase → Safe (next tt y o) (mark tt y o)) → Safe (sealed_if seals fact x out next) (sealed_if seals fact x out mark)
  sealed_if_safe true fact x out next mark few rests go = sealed_asks fact x out next mark (λ seal. go (record x { fact = fact; seal = seal }) out few rests)
  sealed_if_safe false fact x out next mark few rests go = saved_safe (Some fact) x out next mark few rests go

  accepted_own_safe : (e : Election) → Passes (accepted_own me e)
  accepted_own_safe (Starting new accepts age) x out next mark few rests go = go (tasks.Phase phase_rules.EnoughAccepted ∷ []) (electing (Starting new (joined me accepts) age) x) out (owed_none k) (tt, tt)
  accepted_own_safe (Preparing base promises sent age) x out next mark few rests go = go [] x out few rests

  accepted_in_safe : (fact : Fact) (phase : Phase) → Passes (accepted_in me fact phase)
  accepted_in_safe fact (phases.Electing e) x out next mark few rests go = accepted_own_safe e x out next mark few rests go
  accepted_in_safe fact (phases.Following f) x out next mark few rests go = go [] x (and_sends out (accepted me fact)) few rests
  accepted_in_safe fact (phases.Probing p) x out next mark few rests go = go [] x out few rests
  accepted_in_safe fact (phases.Leading l) x out next mark few rests go = go [] x out few rests

  by_outcome_safe : (r : Running) (outcome : Outcome) → Passes (by_outcome me r outcome)
  by_outcome_safe r Pending x out next mark few rests go = go [] (with_sync r x) out few rests
  by_outcome_safe r (Trusted entries) x out next mark few rests go =
      installed_asks (needs_build r.sync.scan entries) entries (without_sync x) out
      (λ u y o. sealed_if (keeps_seal y) r.fact y o (λ v z p. accepted_in me r.fact z.phase (record z { trusted = true }) p next))
      (λ u y o. sealed_if (keeps_seal y) r.fact y o (λ v z p. accepted_in me r.fact z.phase (record z { trusted = true }) p mark))
      (λ u. sealed_if_safe (keeps_seal (without_sync x)) r.fact (without_sync x) out (λ v z p. accepted_in me r.fact z.phase (record z { trusted = true }) p next) (λ v z p. accepted_in me r.fact z.phase (record z { trusted = true }) p mark) few rests
      (λ z p less still. accepted_in_safe r.fact z.phase (record z { trusted = true }) p next mark less still go))

  go_on_safe : (r : Running × List Outgoing) → Passes (go_on me r)
  go_on_safe r x out next mark few rests go = by_outcome_safe r.0 (outcome_of r.0.sync) x (and_sends out r.1) next mark few rests go

  resumed_safe : (running : Option Running) → Passes (resume_sync running)
  resumed_safe None x out next mark few rests go = go [] x out few rests
  resumed_safe (Some r) x out next mark few rests go = go [] (with_sync (row_resume r).0 x) (and_sends out (row_resume r).1) few rests

  followed_on_safe : (t : Then) → Passes (followed_on me t)
  followed_on_safe (thens.SyncOn fact) x out next mark few rests go =
      asked_asks ScanTree x out (λ scan y o. go_on me (row_start fact me y.trusted scan) y o next) (λ scan y o. go_on me (row_start fact me y.trusted scan) y o mark) (λ scan. go_on_safe (row_start fact me x.trusted scan) x out next mark few rests go)
  followed_on_safe thens.Resume x out next mark few rests go = resumed_safe x.sync x out next mark few rests go
  followed_on_safe (thens.Rule n) x out next mark few rests go = go (named (thens.Rule n)) x out few (starts_ready (named (thens.Rule n)) x.phase (tt, tt) rests)
  followed_on_safe (thens.OnKeys n) x out next mark few rests go = go [] x out few rests
  followed_on_safe thens.Stay x out next mark few rests go = go [] x out few rests
  followed_on_safe thens.Follow x out next mark few rests go = go [] x out few rests
  followed_on_safe (thens.Lead fact) x out next mark few rests go = go [] x out few rests
  followed_on_safe thens.Untrust x out next mark few rests go = go [] x out few rests
  followed_on_safe thens.Put x out next mark few rests go = go [] x out few rests

  take_give_safe : (tree : TreeVersion) (from : ℕ) (give : Give) (own : Option (List ℕ)) (running : Option Running) → Passes (take_give tree me from give own running)
  take_give_safe tree from give own None x out next mark few rests go = go [] x out few rests
  take_give_safe tree from give own (Some r) x out next mark few rests go = go_on_safe (row_take tree from give own r) x out next mark few rests go

  -- ## Rows of phases

  row_done_safe : (row : PhaseOut) → Passes (row_done me row)
  row_done_safe row x out next mark few rests go =
      saved_safe row.save (left row.leave x) (left_answers row.leave x out)
      (λ u y o. followed_on me row.then (turned me row.then y) (turned_answers row.then y (and_sends o (posted_to row.to row.message))) next)
      (λ u y o. followed_on me row.then (turned me row.then y) (turned_answers row.then y (and_sends o (posted_to row.to row.message))) mark)
      (trans (count (left row.leave x).phase) (count x.phase) k (left_few row.leave x) few) (left_rests row.leave x rests)
      (λ y o less still. followed_on_safe row.then (turned me row.then y) (turned_answers row.then y (and_sends o (posted_to row.to row.message))) next mark
      (trans (count (turned me row.then y).phase) (count y.phase) k (turned_few me row.then y) less) (turned_rests me row.then y still) go)

  moved_safe : (x y : State) (row : PhaseOut) (out : Out) (next mark : Rest State (List Task)) → count y.phase ≤ count x.phase → count x.phase ≤ k → IsResting y.phase → Goes next mark → Safe (row_done me row y out next) (row_done me row y out mark)
  moved_safe x y row out next mark less few rests go = row_done_safe row y out next mark (trans (count y.phase) (count x.phase) k less few) rests go

  -- ## Rows of a leader

  followed_up_safe : (key : List ℕ) (own : Option Own) (turn : Then) (keys : List (List ℕ)) (x : State) (out : Out) (next mark : Rest State (List Task)) → count x.phase ≤ k
      → NamesOn key turn keys → OwnOn key own → After key own turn x.phase → Goes next mark → Safe (followed_up me own turn keys x out next) (followed_up me own turn keys x out mark)
  followed_up_safe key None turn keys x out next mark few names on after go =
      go (keyed turn keys) (turned me turn x) (turned_answers turn x out) (trans (count (turned me turn x).phase) (count x.phase) k (turned_few me turn x) few) (turned_ready me key turn keys x names after)
  followed_up_safe key (Some own) turn keys x out next mark few names on after go =
      owned_asks own x out (λ seen y o. next (tasks.Again (asked_by own) (own_key own) seen ∷ []) y o) (λ seen y o. mark (tasks.Again (asked_by own) (own_key own) seen ∷ []) y o)
      (λ seen seal. go (tasks.Again (asked_by own) (own_key own) seen ∷ []) (record x { seal = seal }) out few (again_fits key (own_key own) own turn seen x.phase on after, tt))

  lead_done_safe : (key : List ℕ) (row : LeadOut) (x : State) (out : Out) (next mark : Rest State (List Task)) → count x.phase ≤ k
      → NamesOn key row.then row.keys → OwnOn key row.own → After key row.own row.then x.phase → Goes next mark → Safe (lead_done me row x out next) (lead_done me row x out mark)
  lead_done_safe key row x out next mark few names on after go =
      noted_safe row.notes (followed_up me row.own row.then row.keys (left row.leave x) (and_row row x out) next) (followed_up me row.own row.then row.keys (left row.leave x) (and_row row x out) mark)
      (followed_up_safe key row.own row.then row.keys (left row.leave x) (and_row row x out) next mark (trans (count (left row.leave x).phase) (count x.phase) k (left_few row.leave x) few) names on
      (left_after key row.own row.then row.leave x after) go)

  -- what a row of a rule on the key does
  record Led (key : List ℕ) (r : Leader × LeadOut) : Type 0 where
    few : length r.0.table.calls ≤ k
    ready : IsReadyFor key r.1.own r.1.then r.0
    calm : IsCalm r.0.table
    names : NamesOn key r.1.then r.1.keys
    on : OwnOn key r.1.own

  abbrev LedIn : (Leader → Leader × LeadOut) → Phase → Type 0
  LedIn row (phases.Leading l) = (key : List ℕ) × Led key (row l.leader)
  LedIn row (phases.Following f) = Unit {0}
  LedIn row (phases.Probing p) = Unit {0}
  LedIn row (phases.Electing e) = Unit {0}

  lead_safe : (row : Leader → Leader × LeadOut) (phase : Phase) (x : State) (out : Out) (next mark : Rest State (List Task)) → x.phase ≡ phase → LedIn row phase → count x.phase ≤ k → Goes next mark
      → Safe (lead row me phase x out next) (lead row me phase x out mark)
  lead_safe row (phases.Leading l) x out next mark is (key, led) few go = lead_done_safe key (row l.leader).1 (leading (with_leader (row l.leader).0 l) x) out next mark led.few led.names led.on (led.ready, led.calm) go
  lead_safe row (phases.Following f) x out next mark is led few go = go [] x out few (subst IsResting (sym is) tt)
  lead_safe row (phases.Probing p) x out next mark is led few go = go [] x out few (subst IsResting (sym is) tt)
  lead_safe row (phases.Electing e) x out next mark is led few go = go [] x out few (subst IsResting (sym is) tt)

  less_of : (row : Leader → Leader × LeadOut) (l : Leader) → LeavesNoMore row → length l.table.calls ≤ k → length (row l).0.table.calls ≤ k
  less_of row l less few = trans (length (row l).0.table.calls) (length l.table.calls) k (less l) few

  key_led : (rule : KeyRule) (key : List ℕ) (seen : Seen) (phase : Phase) → FitsTask (tasks.Again rule key seen) phase → count phase ≤ k → LedIn (lead_row rule key seen) phase
  key_led rule key seen (phases.Leading l) fits few =
      let step = lead_step rule key seen l.leader in (
        key,
        record {
          few = less_of (lead_row rule key seen) l.leader (key_few rule key seen) few;
          ready = step.ready fits.0;
          calm = calm_kept rule key (turns_seen rule seen) (IsReady rule key l.leader) l.leader (lead_row rule key seen l.leader) step fits.0 fits.1;
          names = step.names;
          on = lead_own rule key seen l.leader fits.0;
        },
      )
  key_led rule key seen (phases.Following f) fits few = tt
  key_led rule key seen (phases.Probing p) fits few = tt
  key_led rule key seen (phases.Electing e) fits few = tt

  got_led : (from : ℕ) (ballot : Epoch) (round : ℕ) (key : List ℕ) (entry : Option Entry) (object : Option Object) (phase : Phase) → IsResting phase → count phase ≤ k → LedIn (row_29_reply from ballot round key entry object) phase
  got_led from ballot round key entry object (phases.Leading l) rests few =
      let step = row_29_reply_step from ballot round key entry object l.leader in (
        key,
        record {
          few = less_of (row_29_reply from ballot round key entry object) l.leader (got_few from ballot round key entry object) few;
          ready = step.ready rests;
          calm = calm_kept key_rules.Read key 9 (IsAtRest l.leader) l.leader (row_29_reply from ballot round key entry object l.leader) step rests rests.calm;
          names = step.names;
          on = look_own key_rules.Read key (row_29_reply from ballot round key entry object l.leader).1.own read_is_no_put step.asks;
        },
      )
  got_led from ballot round key entry object (phases.Following f) rests few = tt
  got_led from ballot round key entry object (phases.Probing p) rests few = tt
  got_led from ballot round key entry object (phases.Electing e) rests few = tt

  checked_led : (from : ℕ) (ballot : Epoch) (round : ℕ) (phase : Phase) → IsResting phase → count phase ≤ k → LedIn (row_33_reply from ballot round) phase
  checked_led from ballot round (phases.Leading l) rests few =
      let step = row_33_reply_step from ballot round l.leader in (
        step.0,
        record {
          few = less_of (row_33_reply from ballot round) l.leader (checked_few from ballot round) few;
          ready = step.1.ready rests;
          calm = calm_kept key_rules.Check step.0 1 (IsAtRest l.leader) l.leader (row_33_reply from ballot round l.leader) step.1 rests rests.calm;
          names = step.1.names;
          on = look_own key_rules.Check step.0 (row_33_reply from ballot round l.leader).1.own check_is_no_put step.1.asks;
        },
      )
  checked_led from ballot round (phases.Following f) rests few = tt
  checked_led from ballot round (phases.Probing p) rests few = tt
  checked_led from ballot round (phases.Electing e) rests few = tt

  put_led : (from : ℕ) (ballot : Epoch) (key : List ℕ) (version : Version) (phase : Phase) → IsResting phase → count phase ≤ k → LedIn (row_35_reply from ballot key version) phase
  put_led from ballot key version (phases.Leading l) rests few =
      let step = row_35_reply_step from ballot key version l.leader in (
        key,
        record {
          few = less_of (row_35_reply from ballot key version) l.leader (put_few from ballot key version) few;
          ready = step.ready rests;
          calm = calm_kept key_rules.Put key 5 (IsAtRest l.leader) l.leader (row_35_reply from ballot key version l.leader) step rests rests.calm;
          names = step.names;
          on = reply_own from ballot key version l.leader;
        },
      )
  put_led from ballot key version (phases.Following f) rests few = tt
  put_led from ballot key version (phases.Probing p) rests few = tt
  put_led from ballot key version (phases.Electing e) rests few = tt

  joined_led : (from id : ℕ) (key : List ℕ) (command : Command) (ends : Bool) (phase : Phase) → IsResting phase → count phase + 1 ≤ k → LedIn (row_27 from id key command ends) phase
  joined_led from id key command ends (phases.Leading l) rests room =
      let joins = row_27_joins from id key command ends l.leader in
      let r = row_27 from id key command ends l.leader in (
        key,
        record {
          few = joined_room (length r.0.table.calls) (length l.leader.table.calls) k (joined_few from id key command ends l.leader) room;
          ready = subst (λ (own : Option Own). IsReadyFor key own r.1.then r.0) (sym joins.own) (joins.ready rests);
          calm = joins.calm rests.calm;
          names = joins.names;
          on = subst (OwnOn key) (sym joins.own) tt;
        },
      )
  joined_led from id key command ends (phases.Following f) rests room = tt
  joined_led from id key command ends (phases.Probing p) rests room = tt
  joined_led from id key command ends (phases.Electing e) rests room = tt

  reminded_safe : (phase : Phase) → IsResting phase → count phase ≤ k → Passes (reminded phase)
  reminded_safe (phases.Leading l) led still x out next mark few rests go =
      let turn : Then = begins (wished l.leader.fact l.change) in
      go (named turn) (leading (record l { change = wished l.leader.fact l.change }) x) (and_sends out (ticks x.fact l)) still (starts_ready (named turn) (phases.Leading (record l { change = wished l.leader.fact l.change })) (named_starts turn) led)
  reminded_safe (phases.Following f) led still x out next mark few rests go = go [] x out few rests
  reminded_safe (phases.Probing p) led still x out next mark few rests go = go [] x out few rests
  reminded_safe (phases.Electing e) led still x out next mark few rests go = go [] x out few rests

  phase_rests : (rule : PhaseRule) (phase : Phase) → FitsTask (tasks.Phase rule) phase → IsResting phase
  phase_rests rule (phases.Leading l) fits = fits
  phase_rests rule (phases.Following f) fits = tt
  phase_rests rule (phases.Probing p) fits = tt
  phase_rests rule (phases.Electing e) fits = tt

  remind_rests : (phase : Phase) → FitsTask tasks.Remind phase → IsResting phase
  remind_rests (phases.Leading l) fits = fits
  remind_rests (phases.Following f) fits = tt
  remind_rests (phases.Probing p) fits = tt
  remind_rests (phases.Electing e) fits = tt

  task_done_safe : (t : Task) (x : State) (out : Out) (next mark : Rest State (List Task)) → count x.phase ≤ k → FitsTask t x.phase → Goes next mark → Safe (task_done me t x out next) (task_done me t x out mark)
  task_done_safe (tasks.Phase n) x out next mark few fits go =
      moved_safe x (phase_row n me x).0 (phase_row n me x).1 out next mark (phase_row_few n me x) few (phase_row_rests n me x (phase_rests n x.phase fits)) go
  task_done_safe tasks.Remind x out next mark few fits go = let rests : IsResting x.phase = remind_rests x.phase fits in reminded_safe x.phase rests few x out next mark few rests go
  task_done_safe (tasks.Key n key) x out next mark few fits go = lead_safe (lead_row n key seens.Nothing) x.phase x out next mark refl (key_led n key seens.Nothing x.phase (key_fits n key x.phase fits) few) few go
    where
      key_fits : (m : KeyRule) (key' : List ℕ) (phase : Phase) → FitsTask (tasks.Key m key') phase → FitsTask (tasks.Again m key' seens.Nothing) phase
      key_fits m key' (phases.Leading l) same = same
      key_fits m key' (phases.Following f) same = tt
      key_fits m key' (phases.Probing p) same = tt
      key_fits m key' (phases.Electing e) same = tt
  task_done_safe (tasks.Again n key seen) x out next mark few fits go = lead_safe (lead_row n key seen) x.phase x out next mark refl (key_led n key seen x.phase fits few) few go

  -- what follows the tasks: nothing is known of a task that is left, but that the mark makes another call
  record Marks (next mark : Rest State (List Task)) : Type 0 where
    none : (y : State) (o : Out) → count y.phase ≤ k → IsResting y.phase → Safe (next [] y o) (mark [] y o)
    some : (t : Task) (ts : List Task) (y : State) (o : Out) → StepsAlone (mark (t ∷ ts) y o) → ⊥

  driven_safe : (n : ℕ) (ts : List Task) (x : State) (out : Out) (next mark : Rest State (List Task)) → count x.phase ≤ k → Ready ts x.phase → Marks next mark → Safe (driven me n ts x out next) (driven me n ts x out mark)
  unfolding driven
  driven_safe zero [] x out next mark few ready marks = marks.none x out few ready
  driven_safe zero (t ∷ ts) x out next mark few ready marks = λ alone. absurd (marks.some t ts x out alone)
  driven_safe (suc n) [] x out next mark few ready marks = marks.none x out few ready
  driven_safe (suc n) (t ∷ ts) x out next mark few ready marks =
      task_done_safe t x out (λ more y o. driven me n (more ++ ts) y o next) (λ more y o. driven me n (more ++ ts) y o mark) few ready.0
      (λ more y o less still. driven_safe n (more ++ ts) y o next mark less (ready_more more ts y.phase still ready.1) marks)

  -- ## Events

  ticked_up : (own : Option Own) (turn : Then) (keys : List (List ℕ)) (x : State) (out : Out) (next mark : Rest State (List Task)) → own ≡ None → TurnStarts turn → count x.phase ≤ k → IsResting x.phase
      → ((ts : List Task) (y : State) (o : Out) → count y.phase ≤ k → IsResting y.phase → AllStart ts → Safe (next ts y o) (mark ts y o)) → Safe (followed_up me own turn keys x out next) (followed_up me own turn keys x out mark)
  ticked_up None turn keys x out next mark is start few rests go =
      go (keyed turn keys) (turned me turn x) (turned_answers turn x out) (trans (count (turned me turn x).phase) (count x.phase) k (turned_few me turn x) few) (turned_rests me turn x rests) (turn_starts turn keys start)
  ticked_up (Some own) turn keys x out next mark is start few rests go = absurd cc

  led_in_safe : (phase : Phase) → IsResting phase → count phase ≤ k → Passes (led_in me phase)
  led_in_safe (phases.Leading l) led still x out next mark few rests go =
      let tick = row_5_ticks (end_of (older l.change)) l.leader in
      let row : LeadOut = (row_5_calls x.fact l).1 in
      let y : State = leading (row_5_calls x.fact l).0 x in
      let less : count y.phase ≤ k = trans (length (row_5_calls x.fact l).0.leader.table.calls) (length l.leader.table.calls) k (ticked_few (end_of (older l.change)) l.leader) still in
      let rest : IsResting y.phase = record { task = tick.task ∙ led.task; calm = tick.calm led.calm } in
      let more : Rest State (List Task) = λ ts z o. next (ts ++ tasks.Remind ∷ []) z o in
      let marked : Rest State (List Task) = λ ts z o. mark (ts ++ tasks.Remind ∷ []) z o in
      noted_safe row.notes (followed_up me row.own row.then row.keys (left row.leave y) (and_row row y out) more) (followed_up me row.own row.then row.keys (left row.leave y) (and_row row y out) marked)
      (ticked_up row.own row.then row.keys (left row.leave y) (and_row row y out) more marked tick.own (subst TurnStarts (sym tick.next) (late_starts (late_put (aged_table l.leader.table) || is_late (end_of (older l.change)))))
      (trans (count (left row.leave y).phase) (count y.phase) k (left_few row.leave y) less) (left_rests row.leave y rest)
      (λ ts z o fine still start. go (ts ++ tasks.Remind ∷ []) z o fine (starts_ready (ts ++ tasks.Remind ∷ []) z.phase (starts_more ts (tasks.Remind ∷ []) start (tt, tt)) still)))
  led_in_safe (phases.Following f) led still x out next mark few rests go = go [] x out few rests
  led_in_safe (phases.Probing p) led still x out next mark few rests go = go [] x out few rests
  led_in_safe (phases.Electing e) led still x out next mark few rests go = go [] x out few rests

  put_done_safe : (turn : Then) (from : ℕ) (ballot : Epoch) (o : Object) (row : PhaseOut) → Passes (put_done turn me from ballot o row)
  put_done_safe thens.Put from ballot o row x out next mark few rests go =
      written_asks o x out (λ seen y p. row_done me (after_put from ballot row seen) y p next) (λ seen y p. row_done me (after_put from ballot row seen) y p mark) (λ seen seal. row_done_safe (after_put from ballot row seen) (record x { seal = seal }) out next mark few rests go)
  put_done_safe thens.Stay from ballot o row x out next mark few rests go = row_done_safe row x out next mark few rests go
  put_done_safe thens.Follow from ballot o row x out next mark few rests go = row_done_safe row x out next mark few rests go
  put_done_safe (thens.Lead fact) from ballot o row x out next mark few rests go = row_done_safe row x out next mark few rests go
  put_done_safe thens.Untrust from ballot o row x out next mark few rests go = row_done_safe row x out next mark few rests go
  put_done_safe thens.Resume from ballot o row x out next mark few rests go = row_done_safe row x out next mark few rests go
  put_done_safe (thens.SyncOn fact) from ballot o row x out next mark few rests go = row_done_safe row x out next mark few rests go
  put_done_safe (thens.Rule n) from ballot o row x out next mark few rests go = row_done_safe row x out next mark few rests go
  put_done_safe (thens.OnKeys n) from ballot o row x out next mark few rests go = row_done_safe row x out next mark few rests go

  got_ask_safe : (from : ℕ) (ballot : Epoch) (q : Question) → Passes (got_ask me from ballot q)
  got_ask_safe from ballot q x out next mark few rests go =
      shown_node_asks x.mode.tree (is_same ballot x.fact.ballot) q x out (λ body y o. row_done me (row_23 y.fact y.trusted from ballot q.position q.after body) y o next) (λ body y o. row_done me (row_23 y.fact y.trusted from ballot q.position q.after body) y o mark)
      (λ body. row_done_safe (row_23 x.fact x.trusted from ballot q.position q.after body) x out next mark few rests go)

  tree_give_safe : (from : ℕ) (give : Give) → Passes (tree_give me from give)
  tree_give_safe from give x out next mark few rests go =
      own_node_asks (needs_node x.mode.tree from give x.sync) give.question.position x out (λ own y o. take_give x.mode.tree me from give own y.sync y o next) (λ own y o. take_give x.mode.tree me from give own y.sync y o mark)
      (λ own. take_give_safe x.mode.tree from give own x.sync x out next mark few rests go)

  -- a message about a node that the tree does not have does nothing
  in_tree_safe : (has : Bool) (part : Part State (List Task)) → Passes part → Passes (in_tree has part)
  in_tree_safe true part passes x out next mark few rests go = passes x out next mark few rests go
  in_tree_safe false part passes x out next mark few rests go = go [] x out few rests

  delivered_safe : (from : ℕ) (message : Message) → Passes (delivered me from message)
  delivered_safe from (messages.Get ballot round key) x out next mark few rests go =
      shown_asks (is_served x.fact x.trusted ballot) (looked key) (looked_asks key) x out (λ seen y o. row_done me (row_21 y.fact y.trusted from ballot round key seen) y o next) (λ seen y o. row_done me (row_21 y.fact y.trusted from ballot round key seen) y o mark)
      (λ seen. row_done_safe (row_21 x.fact x.trusted from ballot round key seen) x out next mark few rests go)
  delivered_safe from (messages.Put ballot o) x out next mark few rests go =
      shown_asks (is_served x.fact x.trusted ballot) (found o.key) (found_asks o.key) x out
      (λ seen y p. put_done (row_22 y.fact y.trusted from ballot o seen).then me from ballot o (row_22 y.fact y.trusted from ballot o seen) y p next)
      (λ seen y p. put_done (row_22 y.fact y.trusted from ballot o seen).then me from ballot o (row_22 y.fact y.trusted from ballot o seen) y p mark)
      (λ seen. put_done_safe (row_22 x.fact x.trusted from ballot o seen).then from ballot o (row_22 x.fact x.trusted from ballot o seen) x out next mark few rests go)
  delivered_safe from (messages.GetReply ballot round key entry object) x out next mark few rests go =
      if_safe (leads x.phase) _ _ _ _
      (confirmed_asks entry object x out (λ named y o. lead (row_29_reply from ballot round key entry named) me y.phase y o next) (λ named y o. lead (row_29_reply from ballot round key entry named) me y.phase y o mark)
      (λ named. lead_safe (row_29_reply from ballot round key entry named) x.phase x out next mark refl (got_led from ballot round key entry named x.phase rests few) few go))
      (go [] x out few rests)
  delivered_safe from (messages.PutReply ballot key version) x out next mark few rests go = lead_safe (row_35_reply from ballot key version) x.phase x out next mark refl (put_led from ballot key version x.phase rests few) few go
  delivered_safe from (messages.CheckReply ballot round) x out next mark few rests go = lead_safe (row_33_reply from ballot round) x.phase x out next mark refl (checked_led from ballot round x.phase rests few) few go
  delivered_safe from (messages.TreeAsk ballot at after) x out next mark few rests go =
      let q : Question = record { position = at; after = after } in
      in_tree_safe (has_position x.mode.tree at) (got_ask me from ballot q) (got_ask_safe from ballot q) x out next mark few rests go
  delivered_safe from (messages.TreeGive ballot at after trusted body) x out next mark few rests go =
      let give : Give = record { ballot = ballot; question = record { position = at; after = after }; trusted = trusted; body = body } in
      in_tree_safe (has_position x.mode.tree at) (tree_give me from give) (tree_give_safe from give) x out next mark few rests go
  delivered_safe from message x out next mark few rests go = moved_safe x (received me from message x).0 (received me from message x).1 out next mark (received_few me from message x) few (received_rests me from message x rests) go

  first_safe : (event : Event) (x : State) (out : Out) (next mark : Rest State (List Task)) → count x.phase + calls_of event ≤ k → IsResting x.phase → Goes next mark → Safe (first me event x out next) (first me event x out mark)
  first_safe (events.Deliver from message) x out next mark room rests go = delivered_safe from message x out next mark (plus_none (count x.phase) k room) rests go
  first_safe events.Tick x out next mark room rests go =
      let few : count x.phase ≤ k = plus_none (count x.phase) k room in
      if_safe (leads x.phase) _ _ _ _ (led_in_safe x.phase rests few x out next mark few rests go) (moved_safe x (aged x.phase me x).0 (aged x.phase me x).1 out next mark (aged_few x.phase me x) few (aged_rests x.phase me x rests) go)
  first_safe (events.Call call) x out next mark room rests go =
      let few : count x.phase ≤ k = some_room (count x.phase) k room in
      if_safe (leads x.phase) _ _ _ _
      (lead_safe (row_27 call.from call.id call.key call.command (changes x.phase)) x.phase x out next mark refl (joined_led call.from call.id call.key call.command (changes x.phase) x.phase rests room) few go)
      (go [] x (and_answers out (unavailable call ∷ [])) few rests)
  first_safe (events.Change view) x out next mark room rests go =
      moved_safe x (asked_change view x).0 (asked_change view x).1.0 (and_change out (asked_change view x).1.1) next mark (asked_few view x) (plus_none (count x.phase) k room) (asked_rests view x rests) go

  -- from the event on, until no task is left
  pub responded_safe : (event : Event) (x : State) (out : Out) (next mark : Rest State (List Task)) → count x.phase + calls_of event ≤ k → IsResting x.phase
      → ((y : State) (o : Out) → count y.phase ≤ k → IsResting y.phase → Safe (next [] y o) (mark [] y o)) → ((t : Task) (ts : List Task) (y : State) (o : Out) → StepsAlone (mark (t ∷ ts) y o) → ⊥)
      → Safe (first me event x out (λ ts y o. driven me most_turns ts y o next)) (first me event x out (λ ts y o. driven me most_turns ts y o mark))
  responded_safe event x out next mark room rests none some =
      first_safe event x out (λ ts y o. driven me most_turns ts y o next) (λ ts y o. driven me most_turns ts y o mark) room rests
      (λ ts y o few ready. driven_safe most_turns ts y o next mark few ready (record { none = none; some = some }))

  -- from rule 26 on
  pub concluded_safe : (x : State) (out : Out) (next mark : Rest State (List Task)) → count x.phase ≤ k → IsResting x.phase
      → ((y : State) (o : Out) → count y.phase ≤ k → IsResting y.phase → Safe (next [] y o) (mark [] y o)) → ((t : Task) (ts : List Task) (y : State) (o : Out) → StepsAlone (mark (t ∷ ts) y o) → ⊥)
      → Safe (task_done me (tasks.Phase phase_rules.EndEpoch) x out (λ ts y o. driven me most_turns ts y o next)) (task_done me (tasks.Phase phase_rules.EndEpoch) x out (λ ts y o. driven me most_turns ts y o mark))
  concluded_safe x out next mark few rests none some =
      task_done_safe (tasks.Phase phase_rules.EndEpoch) x out (λ ts y o. driven me most_turns ts y o next) (λ ts y o. driven me most_turns ts y o mark) few (start_fits (tasks.Phase phase_rules.EndEpoch) x.phase tt rests)
      (λ ts y o less ready. driven_safe most_turns ts y o next mark less ready (record { none = none; some = some }))
