-- What was sent in a step stays in front of what its tasks send later, and what a tick sends first.
use Rattle.std.specs.Prelude.{filter}
use Rattle.std.proofs.Common.{◌≡◌, ◌+◌, ◌^◌, ◌-◌, ◌∙◌, arith, ap, refl, sym, subst, map, append-nil, append_assoc, ℕ, zero, suc, Bool, true, false, if◌then◌else◌, List, [], ◌∷◌, ◌++◌, Option, Some, None}
use Rattle.call_table.specs.Calls.{is_due, due, due_after, key_if_running, older as older_call}
use Rattle.call_table.specs.Tables.{without_due}
use Rattle.call_table.specs.declared.table.CallTable.{CallTable}
use Rattle.call_table.specs.declared.waiting.DueCall.{DueCall}
use Rattle.call_table.specs.declared.waiting.Waiting.{Waiting}
use Rattle.phase_rules.specs.declared.election.Election.{Election}
use Rattle.phase_rules.specs.declared.election.Election.TheVariants.{Preparing, Starting}
use Rattle.leader_output.specs.Outs.{asked_by, comes, leaves}
use Rattle.leader_output.specs.declared.out.LeadOut.{LeadOut}
use Rattle.leader_output.specs.declared.out.Outgoing.{Outgoing}
use Rattle.leader_output.specs.declared.out.Own.{Own}
use Rattle.leader.specs.Rules.{lead_row}
use Rattle.leader_output.specs.Sends.{is_other}
use Rattle.leader.specs.Ticks.{Finishing as Ending, aged as aged_table, row_5_calls as tick_row, tick_message, ticks_up_to, timed_out}
use Rattle.leader.specs.declared.leader.Leader.{Leader}
use Rattle.stored_formats.specs.declared.fact.Change.{Change}
use Rattle.stored_formats.specs.declared.fact.Fact.{Fact}
use Rattle.peer_spec.proofs.Aging.{asked_asks, installed_asks, most_is_some, noted_follows, owned_asks, sealed_asks}
use Rattle.peer_spec.specs.Drives.{and_row, concluded, driven, followed_up, lead, lead_done, most_turns, own_key, reminded, row_done, step_of, task_done}
use Rattle.peer_spec.specs.Kept.{IsStepCall}
use Rattle.peer_spec.specs.Syncs.{accepted, accepted_in, accepted_own, and_sends, by_outcome, followed_on, go_on, resume_sync, saved, sealed_if, with_sync}
use Rattle.peer_state.specs.Leading.{begins, end_of, older, ticks, wished}
use Rattle.peer_state.specs.Moves.{electing, ends_leading, keeps_seal, leading, left, left_answers, turned, turned_answers, with_leader, without_sync}
use Rattle.peer_state.specs.Rows.{phase_row}
use Rattle.peer_state.specs.declared.event.Event.TheVariants as events
use Rattle.peer_state.specs.declared.state.ChangeState.{ChangeState}
use Rattle.peer_state.specs.declared.state.ChangeState.TheVariants.{Settled, Wanted, Finishing}
use Rattle.peer_state.specs.declared.state.Leadership.{Leadership}
use Rattle.peer_state.specs.declared.state.Phase.{Phase}
use Rattle.peer_state.specs.declared.state.Phase.TheVariants as phases
use Rattle.peer_state.specs.declared.state.State.{State}
use Rattle.phase_rows.specs.Peers.{joined}
use Rattle.phase_rows.specs.declared.phase.PhaseOut.{PhaseOut}
use Rattle.phase_rows.specs.declared.phase.Seen.TheVariants as seens
use Rattle.phase_rows.specs.declared.phase.Then.{Then}
use Rattle.phase_rows.specs.declared.phase.Then.TheVariants as thens
use Rattle.phase_rows.specs.declared.rules.KeyRule.TheVariants as key_rules
use Rattle.phase_rows.specs.declared.rules.PhaseRule.TheVariants as phase_rules
use Rattle.tree_sync.specs.Rows.{row_resume, row_start}
use Rattle.tree_sync.specs.Running.{Running}
use Rattle.step_plans.specs.Calls.{Save, ScanTree}
use Rattle.step_plans.specs.Plans.{Plan, Ask, Done, Out, Part, Rest, Follows, asked, nothing}
use Rattle.step_plans.specs.Saved.{with_seal}
use Rattle.step_plans.specs.Sends.{posted_to}
use Rattle.step_plans.specs.Tasks.{keyed, named}
use Rattle.step_plans.specs.declared.tasks.Task.{Task}
use Rattle.step_plans.specs.declared.tasks.Task.TheVariants as tasks
use Rattle.tree_sync.specs.Syncs.{needs_build, outcome_of}
use Rattle.tree_sync.specs.declared.sync.Outcome.{Outcome}
use Rattle.tree_sync.specs.declared.sync.Outcome.TheVariants.{Pending, Trusted}
use Rattle.phase_rules.specs.Changes.{second_fact}
use Rattle.step_laws.specs.Answering.{stops_by_age}
use Rattle.step_laws.specs.Telling.{BeginsChange, HasNoneDue, SendsFirst, commit_messages, tick_messages}

-- ## What was sent stays in front

more_sent : (prefix : List Outgoing) (out : Out) (more : List Outgoing) → SendsFirst prefix out → SendsFirst prefix (and_sends out more)
more_sent prefix out more first = (first.0 ++ more, ap (λ (sends : List Outgoing). sends ++ more) first.1 ∙ append_assoc prefix first.0 more)

left_sent : (prefix : List Outgoing) (leave : Bool) (x : State) (out : Out) → SendsFirst prefix out → SendsFirst prefix (left_answers leave x out)
left_sent prefix true x out first = first
left_sent prefix false x out first = first

module _ (me : ℕ) (prefix : List Outgoing) where
  -- the end of a step, after which these messages were sent first
  abbrev P : State → Out → Type 0
  P y out = SendsFirst prefix out

  -- from each point at which they were sent first, the end is reached
  abbrev Goes : Rest State (List Task) → Type 0
  Goes next = (ts : List Task) (y : State) (o : Out) → SendsFirst prefix o → Follows IsStepCall P (next ts y o)

  abbrev Passes : Part State (List Task) → Type 0
  Passes part = (x : State) (out : Out) (next : Rest State (List Task)) → SendsFirst prefix out → Goes next → Follows IsStepCall P (part x out next)

  saved_sends : (save : Option Fact) (x : State) (out : Out) (next : Rest State (Unit {0})) → ((y : State) → Follows IsStepCall P (next tt y out)) → Follows IsStepCall P (saved save x out next)
  unfolding asked
  saved_sends None x out next go = go x
  saved_sends (Some fact) x out next go = (tt, λ u. go (record x { fact = fact }))

  sealed_if_sends : (seals : Bool) (fact : Fact) (x : State) (out : Out) (next : Rest State (Unit {0})) → ((y : State) → Follows IsStepCall P (next tt y out)) → Follows IsStepCall P (sealed_if seals fact x out next)
  sealed_if_sends true fact x out next go = sealed_asks P fact x out next (λ seal. go (record x { fact = fact; seal = seal }))
  sealed_if_sends false fact x out next go = saved_sends (Some fact) x out next go

  accepted_own_sends : (e : Election) → Passes (accepted_own me e)
  accepted_own_sends (Starting new accepts age) x out next first go = go (tasks.Phase phase_rules.EnoughAccepted ∷ []) (electing (Starting new (joined me accepts) age) x) out first
  accepted_own_sends (Preparing base promises sent age) x out next first go = go [] x out first

  accepted_in_sends : (fact : Fact) (phase : Phase) → Passes (accepted_in me fact phase)
  accepted_in_sends fact (phases.Electing e) x out next first go = accepted_own_sends e x out next first go
  accepted_in_sends fact (phases.Following f) x out next first go = go [] x (and_sends out (accepted me fact)) (more_sent prefix out (accepted me fact) first)
  accepted_in_sends fact (phases.Probing p) x out next first go = go [] x out first
  accepted_in_sends fact (phases.Leading l) x out next first go = go [] x out first

  by_outcome_sends : (r : Running) (outcome : Outcome) → Passes (by_outcome me r outcome)
  by_outcome_sends r Pending x out next first go = go [] (with_sync r x) out first
  by_outcome_sends r (Trusted entries) x out next first go =
      installed_asks P (needs_build r.sync.scan entries) entries (without_sync x) out
      (λ u y o. sealed_if (keeps_seal y) r.fact y o (λ v z p. accepted_in me r.fact z.phase (record z { trusted = true }) p next))
      (λ u. sealed_if_sends (keeps_seal (without_sync x)) r.fact (without_sync x) out (λ v z p. accepted_in me r.fact z.phase (record z { trusted = true }) p next)
      (λ z. accepted_in_sends r.fact z.phase (record z { trusted = true }) out next first go))

  go_on_sends : (r : Running × List Outgoing) → Passes (go_on me r)
  go_on_sends r x out next first go = by_outcome_sends r.0 (outcome_of r.0.sync) x (and_sends out r.1) next (more_sent prefix out r.1 first) go

  resumed_sends : (running : Option Running) → Passes (resume_sync running)
  resumed_sends None x out next first go = go [] x out first
  resumed_sends (Some r) x out next first go = go [] (with_sync (row_resume r).0 x) (and_sends out (row_resume r).1) (more_sent prefix out (row_resume r).1 first)

  followed_on_sends : (t : Then) → Passes (followed_on me t)
  followed_on_sends (thens.SyncOn fact) x out next first go =
      asked_asks P ScanTree tt x out (λ scan y o. go_on me (row_start fact me y.trusted scan) y o next) (λ scan. go_on_sends (row_start fact me x.trusted scan) x out next first go)
  followed_on_sends thens.Resume x out next first go = resumed_sends x.sync x out next first go
  followed_on_sends (thens.Rule n) x out next first go = go (named (thens.Rule n)) x out first
  followed_on_sends (thens.OnKeys n) x out next first go = go [] x out first
  followed_on_sends thens.Stay x out next first go = go [] x out first
  followed_on_sends thens.Follow x out next first go = go [] x out first
  followed_on_sends (thens.Lead fact) x out next first go = go [] x out first
  followed_on_sends thens.Untrust x out next first go = go [] x out first
  followed_on_sends thens.Put x out next first go = go [] x out first

  -- what follows the message of a row
  turned_sends : (t : Then) (x : State) (out : Out) (next : Rest State (List Task)) → SendsFirst prefix out → Goes next → Follows IsStepCall P (followed_on me t (turned me t x) (turned_answers t x out) next)
  turned_sends t x out next first go = followed_on_sends t (turned me t x) (turned_answers t x out) next (left_sent prefix (ends_leading t) x out first) go

  row_done_sends : (row : PhaseOut) → Passes (row_done me row)
  row_done_sends row x out next first go =
      let o : Out = left_answers row.leave x out in
      let sent : Out = and_sends o (posted_to row.to row.message) in
      saved_sends row.save (left row.leave x) o (λ u y p. followed_on me row.then (turned me row.then y) (turned_answers row.then y (and_sends p (posted_to row.to row.message))) next)
      (λ y. turned_sends row.then y sent next (more_sent prefix o (posted_to row.to row.message) (left_sent prefix row.leave x out first)) go)

  followed_up_sends : (own : Option Own) (turn : Then) (keys : List (List ℕ)) → Passes (followed_up me own turn keys)
  followed_up_sends None turn keys x out next first go = go (keyed turn keys) (turned me turn x) (turned_answers turn x out) (left_sent prefix (ends_leading turn) x out first)
  followed_up_sends (Some own) turn keys x out next first go =
      owned_asks P own x out (λ seen y o. next (tasks.Again (asked_by own) (own_key own) seen ∷ []) y o) (λ seen seal. go (tasks.Again (asked_by own) (own_key own) seen ∷ []) (record x { seal = seal }) out first)

  lead_done_sends : (row : LeadOut) → Passes (lead_done me row)
  lead_done_sends row x out next first go =
      noted_follows P row.notes (followed_up me row.own row.then row.keys (left row.leave x) (and_row row x out) next)
      (followed_up_sends row.own row.then row.keys (left row.leave x) (and_row row x out) next (more_sent prefix (left_answers row.leave x out) row.sends (left_sent prefix row.leave x out first)) go)

  lead_sends : (row : Leader → Leader × LeadOut) (phase : Phase) → Passes (lead row me phase)
  lead_sends row (phases.Leading l) x out next first go = lead_done_sends (row l.leader).1 (leading (with_leader (row l.leader).0 l) x) out next first go
  lead_sends row (phases.Following f) x out next first go = go [] x out first
  lead_sends row (phases.Probing p) x out next first go = go [] x out first
  lead_sends row (phases.Electing e) x out next first go = go [] x out first

  reminded_sends : (phase : Phase) → Passes (reminded phase)
  reminded_sends (phases.Leading l) x out next first go =
      let m : Leadership = record l { change = wished l.leader.fact l.change } in
      go (named (begins m.change)) (leading m x) (and_sends out (ticks x.fact l)) (more_sent prefix out (ticks x.fact l) first)
  reminded_sends (phases.Following f) x out next first go = go [] x out first
  reminded_sends (phases.Probing p) x out next first go = go [] x out first
  reminded_sends (phases.Electing e) x out next first go = go [] x out first

  task_sends : (t : Task) → Passes (task_done me t)
  task_sends (tasks.Phase n) x out next first go = row_done_sends (phase_row n me x).1 (phase_row n me x).0 out next first go
  task_sends tasks.Remind x out next first go = reminded_sends x.phase x out next first go
  task_sends (tasks.Key n key) x out next first go = lead_sends (lead_row n key seens.Nothing) x.phase x out next first go
  task_sends (tasks.Again n key seen) x out next first go = lead_sends (lead_row n key seen) x.phase x out next first go

  driven_sends : (n : ℕ) (ts : List Task) → Passes (driven me n ts)
  unfolding driven
  driven_sends zero ts x out next first go = go ts x out first
  driven_sends (suc n) [] x out next first go = go [] x out first
  driven_sends (suc n) (t ∷ ts) x out next first go = task_sends t x out (λ more y o. driven me n (more ++ ts) y o next) first (λ more y o still. driven_sends n (more ++ ts) y o next still go)

  -- the end of a step
  concluded_sends : (x : State) (out : Out) → SendsFirst prefix out → Follows IsStepCall P (concluded me x out (λ u y o. Done y o))
  concluded_sends x out first =
      task_sends (tasks.Phase phase_rules.EndEpoch) x out (λ ts y o. driven me most_turns ts y o (λ rest z q. Done z q)) first
      (λ ts y o still. driven_sends most_turns ts y o (λ rest z q. Done z q) still (λ rest z q last. last))

  -- the tasks that are left, and the end
  pub rest_sends : (n : ℕ) (ts : List Task) (x : State) (out : Out) → SendsFirst prefix out → Follows IsStepCall P (driven me n ts x out (λ rest z q. concluded me z q (λ u y o. Done y o)))
  rest_sends n ts x out first = driven_sends n ts x out (λ rest z q. concluded me z q (λ u y o. Done y o)) first (λ rest z q still. concluded_sends z q still)

-- ## A tick in which no call is due

none_due : (before calls : List Waiting) → filter is_due calls ≡ [] → due_after before calls ≡ []
none_due before [] none = refl
none_due before (w ∷ calls) none = by (is_due w) none (none_due (before ++ w ∷ []) calls)
  where
    by : (b : Bool) → (if b then w ∷ filter is_due calls else filter is_due calls) ≡ [] → (filter is_due calls ≡ [] → due_after (before ++ w ∷ []) calls ≡ [])
        → (if b then record { from = w.from; id = w.id; running = key_if_running before w } ∷ due_after (before ++ w ∷ []) calls else due_after (before ++ w ∷ []) calls) ≡ []
    by true none later = absurd (some none)
      where
        some : (w ∷ filter is_due calls) ≡ [] → ⊥
        some is = cc is
    by false none later = later none

-- the messages of a tick do not depend on the calls
ticks_same : (finishing : Ending) (fact : Fact) (leader : Leader) (table : CallTable) (n : ℕ) → ticks_up_to finishing fact (record leader { table = table }) n ≡ ticks_up_to finishing fact leader n
unfolding ticks_up_to
ticks_same finishing fact leader table zero = refl
ticks_same None fact leader table (suc n) =
    ap (λ (sends : List Outgoing). sends ++ (if is_other leader.me leader.fact.views (n + 1) then record { to = n + 1; message = tick_message None fact leader (n + 1) } ∷ [] else [])) (ticks_same None fact leader table n)
ticks_same (Some f) fact leader table (suc n) =
    ap (λ (sends : List Outgoing). sends ++ (if is_other leader.me leader.fact.views (n + 1) then record { to = n + 1; message = tick_message (Some f) fact leader (n + 1) } ∷ [] else [])) (ticks_same (Some f) fact leader table n)

fewer_is_some : 2 ^ 64 - 2 ≡ suc (2 ^ 64 - 3)
fewer_is_some = omega arith

one_task : (n m me : ℕ) → n ≡ suc m → (t : Task) (x : State) (o : Out) (next : Rest State (List Task)) → driven me n (t ∷ []) x o next ≡ task_done me t x o (λ more y p. driven me m (more ++ []) y p next)
unfolding driven
one_task n m me is t x o next = ap (λ (k : ℕ). driven me k (t ∷ []) x o next) is

module _ (me : ℕ) (l : Leadership) (x : State) (lasts : stops_by_age l ≡ false) (none : HasNoneDue l) where
  -- the leader after the ages of its calls and of its change have risen
  abbrev older_leader : Leader
  older_leader = record l.leader { table = without_due (aged_table l.leader.table) }

  abbrev older_one : Leadership
  older_one = record { leader = older_leader; change = older l.change }

  abbrev after : Rest State (List Task)
  after rest z q = concluded me z q (λ u y p. Done y p)

  abbrev told : Out
  told = and_sends nothing (ticks x.fact older_one)

  told_is : told.sends ≡ tick_messages x.fact l
  told_is = ticks_same (end_of (older l.change)) x.fact l.leader (without_due (aged_table l.leader.table)) 31

  -- no call is answered, and no rule on a key comes next
  row_is : tick_row (end_of (older l.change)) l.leader ≡ (older_leader, comes (thens.OnKeys key_rules.StartNextCall))
  row_is =
      ap (λ (late : Bool). if late then (record l.leader { table = aged_table l.leader.table }, leaves) else (older_leader, timed_out (due (map older_call l.leader.table.calls)) (comes (thens.OnKeys key_rules.StartNextCall)))) lasts
      ∙ ap (λ (ds : List DueCall). (older_leader, timed_out ds (comes (thens.OnKeys key_rules.StartNextCall)))) (none_due [] (map older_call l.leader.table.calls) none)

  -- what follows the calls of the tick
  abbrev ticked : Leader × LeadOut → Plan State
  ticked r = lead_done me r.1 (leading (with_leader r.0 (record l { change = older l.change })) (leading l x)) nothing (λ ts y o. driven me most_turns (ts ++ tasks.Remind ∷ []) y o after)

  -- what follows once the members were sent their messages, by what is asked for
  abbrev onward : ChangeState → Plan State
  onward change = driven me (2 ^ 64 - 2) (named (begins change) ++ []) (leading (record older_one { change = change }) x) told after

  step_is : step_of me events.Tick (leading l x) ≡ onward (wished l.leader.fact (older l.change))
  step_is = ap (λ (r : Leader × LeadOut). ticked r) row_is ∙ one_task most_turns (2 ^ 64 - 2) me most_is_some tasks.Remind (leading older_one x) nothing after

  pub reminds : Follows IsStepCall (λ y out. SendsFirst (tick_messages x.fact l) out) (step_of me events.Tick (leading l x))
  reminds =
      subst (λ (p : Plan State). Follows IsStepCall (λ y out. SendsFirst (tick_messages x.fact l) out) p) (sym step_is)
      (rest_sends me (tick_messages x.fact l) (2 ^ 64 - 2) (named (begins (wished l.leader.fact (older l.change))) ++ []) (leading (record older_one { change = wished l.leader.fact (older l.change) }) x) told ([], told_is ∙ sym (append-nil (tick_messages x.fact l))))

  module _ (change : Change) (wanted : wished l.leader.fact l.change ≡ Wanted change) where
    still_wanted : (c : ChangeState) → wished l.leader.fact c ≡ Wanted change → wished l.leader.fact (older c) ≡ Wanted change
    still_wanted Settled is = is
    still_wanted (Wanted other) is = is
    still_wanted (Finishing f) is = absurd (ends is)
      where
        ends : ◌≡◌ {A = ChangeState} (Finishing f) (Wanted change) → ⊥
        ends is = cc is

    abbrev second : Fact
    second = second_fact x.fact change

    abbrev begun_one : State → State
    begun_one y = record (phase_row phase_rules.BeginChange me (leading (record older_one { change = Wanted change }) x)).0 { fact = second }

    abbrev onward_begun : Unit {0} → Plan State
    onward_begun u = driven me (2 ^ 64 - 3) [] (begun_one x) (and_sends told (commit_messages me l second)) after

    change_is : onward (Wanted change) ≡ Ask (Save (with_seal x.seal second)) onward_begun
    unfolding asked
    change_is = one_task (2 ^ 64 - 2) (2 ^ 64 - 3) me fewer_is_some (tasks.Phase phase_rules.BeginChange) (leading (record older_one { change = Wanted change }) x) told after

    pub begins_change : BeginsChange me l change x (step_of me events.Tick (leading l x))
    begins_change = record {
      rest = onward_begun;
      saves = step_is ∙ ap onward (still_wanted l.change wanted) ∙ change_is;
      tells = rest_sends me (tick_messages x.fact l ++ commit_messages me l second) (2 ^ 64 - 3) [] (begun_one x) (and_sends told (commit_messages me l second)) ([], ap (λ (sends : List Outgoing). sends ++ commit_messages me l second) told_is ∙ sym (append-nil (tick_messages x.fact l ++ commit_messages me l second)));
    }

pub tick_tells : (me : ℕ) (l : Leadership) (x : State) → x.phase ≡ phases.Leading l → stops_by_age l ≡ false → HasNoneDue l → Follows IsStepCall (λ y out. SendsFirst (tick_messages x.fact l) out) (step_of me events.Tick x)
tick_tells me l x same lasts none = subst (λ (phase : Phase). Follows IsStepCall (λ y out. SendsFirst (tick_messages x.fact l) out) (step_of me events.Tick (record x { phase = phase }))) (sym same) (reminds me l x lasts none)

pub tick_begins : (me : ℕ) (l : Leadership) (x : State) → x.phase ≡ phases.Leading l → stops_by_age l ≡ false → HasNoneDue l → (change : Change) → wished l.leader.fact l.change ≡ Wanted change → BeginsChange me l change x (step_of me events.Tick x)
tick_begins me l x same lasts none change wanted = subst (λ (phase : Phase). BeginsChange me l change x (step_of me events.Tick (record x { phase = phase }))) (sym same) (begins_change me l x lasts none change wanted)
