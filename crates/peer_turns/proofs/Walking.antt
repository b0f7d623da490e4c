-- A step from its event to its end.
use Rattle.std.specs.Option.{is_some}
use Rattle.std.proofs.Common.{◌≡◌, ℕ, zero, suc, Bool, true, false, if◌then◌else◌, List, [], ◌∷◌, ◌++◌, Option, Some, None, refl, subst}
use Rattle.std.proofs.lemmas.List.Elements.{All-append, All-push}
use Rattle.phase_rules.specs.declared.election.Election.{Election}
use Rattle.phase_rules.specs.declared.election.Election.TheVariants.{Preparing, Starting}
use Rattle.ens_base.specs.declared.entry.Entry.{Entry}
use Rattle.ens_base.specs.declared.epoch.Epoch.{Epoch}
use Rattle.stored_formats.specs.Objects.{object_spelling}
use Rattle.stored_formats.specs.declared.object.Object.{Object}
use Rattle.tree_exchange.specs.declared.question.Question.{Question}
use Rattle.phase_rules.specs.Refusals.{is_served}
use Rattle.phase_rules.specs.Requests.{row_21, row_22, row_23}
use Rattle.object_commands.specs.Kept.{entry_of, matching, object_in}
use Rattle.leader_output.specs.Outs.{asked_by}
use Rattle.leader_output.specs.declared.out.AnswerOut.{AnswerOut}
use Rattle.leader_output.specs.declared.out.LeadOut.{LeadOut}
use Rattle.leader_output.specs.declared.out.Outgoing.{Outgoing}
use Rattle.leader_output.specs.declared.out.Own.{Own}
use Rattle.leader_output.specs.declared.out.Own.TheVariants as owns
use Rattle.leader.specs.Puts.{row_35_reply}
use Rattle.leader.specs.Rounds.{row_29_reply, row_33_reply}
use Rattle.leader.specs.Rules.{lead_row}
use Rattle.leader.specs.Starts.{row_27}
use Rattle.leader.specs.declared.leader.Leader.{Leader}
use Rattle.stored_formats.specs.declared.fact.Fact.{Fact}
use Rattle.stored_formats.specs.declared.saved.SavedFact.{SavedFact}
use Rattle.peer_spec.specs.Drives.{row_done, owned, own_key, followed_up, and_row, lead_done, lead, reminded, task_done, driven, led_in, ticked, shown, got_ask, after_put, put_done, in_tree, delivered, unavailable, first, and_change, most_turns, responded, concluded, step_of}
use Rattle.peer_spec.specs.Owns.{digested, read, kept, fetched, held, looked_at, looked, found_at, found, entered, written, confirmed, stored, resealed}
use Rattle.peer_spec.specs.TreeCalls.{has_position}
use Rattle.peer_spec.specs.Syncs.{saved, and_sends, with_sync, installed, accepted, accepted_own, accepted_in, end_sync, by_outcome, go_on, resume_sync, followed_on, reached, own_node, body_of, shown_node, needs_node, take_give, tree_give, sealed, sealed_if}
use Rattle.peer_state.specs.Leading.{older, end_of, ticks, row_5_calls, wished, begins}
use Rattle.peer_state.specs.Moves.{left, left_answers, turned, turned_answers, ends_leading, leading, with_leader, and_answers, electing, without_sync, saved_by, keeps_seal}
use Rattle.peer_state.specs.Rows.{aged, phase_row, received, asked_change, leads, changes}
use Rattle.peer_state.specs.declared.event.Event.{Event}
use Rattle.peer_state.specs.declared.event.Event.TheVariants as events
use Rattle.peer_state.specs.declared.state.Phase.{Phase}
use Rattle.peer_state.specs.declared.state.Phase.TheVariants as phases
use Rattle.peer_state.specs.declared.state.State.{State}
use Rattle.phase_rows.specs.Orders.{is_same}
use Rattle.phase_rows.specs.Peers.{joined}
use Rattle.phase_rows.specs.declared.phase.PhaseOut.{PhaseOut}
use Rattle.phase_rows.specs.declared.phase.Seen.{Seen}
use Rattle.phase_rows.specs.declared.phase.Seen.TheVariants as seens
use Rattle.phase_rows.specs.declared.phase.Then.{Then}
use Rattle.phase_rows.specs.declared.phase.Then.TheVariants as thens
use Rattle.phase_rows.specs.declared.rules.PhaseRule.TheVariants as phase_rules
use Rattle.register_model.specs.declared.note.Note.{Note}
use Rattle.tree_sync.specs.Rows.{row_start, row_resume, row_take}
use Rattle.tree_sync.specs.Running.{Running}
use Rattle.tree_sync.specs.declared.asking.Give.{Give}
use Rattle.step_plans.specs.Calls.{Call, Save, Find, Enter, ScanTree, ReadNode, Install, Fetch, Put, Hash, AnswerOf, Root}
use Rattle.step_plans.specs.Plans.{Plan, Done, Out, nothing, Rest, Part, asked, noted}
use Rattle.step_plans.specs.Saved.{with_seal}
use Rattle.step_plans.specs.Sends.{posted_to}
use Rattle.step_plans.specs.Tasks.{named, keyed}
use Rattle.step_plans.specs.declared.tasks.Task.{Task}
use Rattle.step_plans.specs.declared.tasks.Task.TheVariants as tasks
use Rattle.step_plans.specs.declared.walked.Walked.{Walked}
use Rattle.step_plans.specs.declared.walked.Walked.TheVariants.{Reached, Broken}
use Rattle.tree_sync.specs.Syncs.{needs_build, outcome_of}
use Rattle.tree_sync.specs.declared.sync.Outcome.{Outcome}
use Rattle.tree_sync.specs.declared.sync.Outcome.TheVariants.{Pending, Trusted}
use Rattle.tree_node.specs.declared.position.Position.{Position}
use Rattle.tree_node.specs.declared.version.TreeVersion.{TreeVersion}
use Rattle.wire_frames.specs.declared.message.Message.{Message}
use Rattle.wire_frames.specs.declared.message.Message.TheVariants as messages
use Rattle.peer_turns.specs.Ends.{AllFrom, AllTo, ComesFrom, EndsIn, calls_in, last_saved}
use Rattle.peer_turns.proofs.Served.{no_calls, no_answers, IsFair, key_fair, got_fair, checked_fair, put_fair, joined_fair, ticked_fair}
use Rattle.peer_turns.proofs.Moved.{left_stays, left_answers_to, turned_stays, asked_stays, phase_row_stays, aged_stays, received_stays}

module _ (test : ℕ → Bool) (me : ℕ) (P : SavedFact → State → Out → Type 0) where
  -- the callers of the unanswered calls, and those that are answered, pass the test
  abbrev Good : State → Out → Type 0
  Good x out = AllFrom test (calls_in x.phase) × AllTo test out.answers

  abbrev Goes : {A : Type 0} → Rest State A → Type 0
  Goes {A} next = (v : A) (y : State) (o : Out) → Good y o → EndsIn P (saved_by y) (next v y o)

  -- from a good state, whose fact is the one that was saved last, the part reaches such states
  abbrev Passes : {A : Type 0} → Part State A → Type 0
  Passes {A} part = (x : State) (out : Out) (next : Rest State A) → Good x out → Goes next → EndsIn P (saved_by x) (part x out next)

  -- the part asks the stores and saves no fact; the state stays
  abbrev Reads : {A : Type 0} → Part State A → Type 0
  Reads {A} part = (x : State) (out : Out) (next : Rest State A) → ((v : A) → EndsIn P (saved_by x) (next v x out)) → EndsIn P (saved_by x) (part x out next)

  at_fact : (f g : SavedFact) (p : Plan State) → f ≡ g → EndsIn P f p → EndsIn P g p
  at_fact f g p is ends = subst (λ (h : SavedFact). EndsIn P h p) is ends

  if_ends : (f : SavedFact) (t : Bool) (p q : Plan State) → EndsIn P f p → EndsIn P f q → EndsIn P f (if t then p else q)
  if_ends f true p q first second = first
  if_ends f false p q first second = second

  asked_ends : (call : Call) (x : State) (out : Out) (next : Rest State (AnswerOf call)) → ((a : AnswerOf call) → EndsIn P (last_saved call (saved_by x)) (next a x out)) → EndsIn P (saved_by x) (asked call x out next)
  unfolding asked
  asked_ends call x out next go = go

  digested_reads : (object : Option Object) (bytes : List ℕ) → Reads (digested object bytes)
  digested_reads None bytes x out next go = go None
  digested_reads (Some o) bytes x out next go = asked_ends (Hash bytes) x out (λ digest y p. next (Some (o, digest)) y p) (λ digest. go (Some (o, digest)))

  read_reads : (bytes : Option (List ℕ)) → Reads (read bytes)
  read_reads None x out next go = go None
  read_reads (Some bytes) x out next go = digested_reads (object_in bytes) bytes x out next go

  kept_reads : (key : List ℕ) → Reads (kept key)
  kept_reads key x out next go = asked_ends (Fetch key) x out (λ bytes y p. read bytes y p next) (λ bytes. read_reads bytes x out next go)

  fetched_reads : (key : List ℕ) → Reads (fetched key)
  fetched_reads key x out next go = kept_reads key x out (λ o y p. next (seens.Kept o) y p) (λ o. go (seens.Kept o))

  held_reads : (key : List ℕ) (entry : Option Entry) → Reads (held key entry)
  held_reads key None x out next go = go (seens.Held None None)
  held_reads key (Some entry) x out next go = kept_reads key x out (λ o y p. next (seens.Held (Some entry) (matching entry o)) y p) (λ o. go (seens.Held (Some entry) (matching entry o)))

  looked_at_reads : (key : List ℕ) (end : Walked (Option Entry)) → Reads (looked_at key end)
  looked_at_reads key (Broken at) x out next go = go (seens.Damaged at)
  looked_at_reads key (Reached entry) x out next go = held_reads key entry x out next go

  looked_reads : (key : List ℕ) → Reads (looked key)
  looked_reads key x out next go = asked_ends (Find key) x out (λ end y p. looked_at key end y p next) (λ end. looked_at_reads key end x out next go)

  found_reads : (key : List ℕ) → Reads (found key)
  found_reads key x out next go = asked_ends (Find key) x out (λ end y p. next (found_at end) y p) (λ end. go (found_at end))

  -- the same of a part that may save the fact with another seal
  abbrev ReadsAnew : {A : Type 0} → Part State A → Type 0
  ReadsAnew {A} part = (x : State) (out : Out) (next : Rest State A) → ((v : A) (seal : Option (List ℕ)) → EndsIn P (saved_by (record x { seal = seal })) (next v (record x { seal = seal }) out)) → EndsIn P (saved_by x) (part x out next)

  sealed_ends : (fact : Fact) (x : State) (out : Out) (next : Rest State (Unit {0})) → ((seal : Option (List ℕ)) → EndsIn P (with_seal seal fact) (next tt (record x { fact = fact; seal = seal }) out)) → EndsIn P (saved_by x) (sealed fact x out next)
  sealed_ends fact x out next go =
      asked_ends Root x out (λ root y o. asked (Save (with_seal root fact)) y o (λ u z q. next tt (record z { fact = fact; seal = root }) q))
      (λ root. asked_ends (Save (with_seal root fact)) x out (λ u z q. next tt (record z { fact = fact; seal = root }) q) (λ u. go root))

  resealed_reads : (seals : Bool) → ReadsAnew (resealed seals)
  resealed_reads true x out next go = sealed_ends x.fact x out next (λ seal. go tt seal)
  resealed_reads false x out next go = go tt x.seal

  entered_reads : (o : Object) (bytes digest : List ℕ) (end : Walked (Unit {0})) → ReadsAnew (entered o bytes digest end)
  entered_reads o bytes digest (Broken at) x out next go = go (seens.Damaged at) x.seal
  entered_reads o bytes digest (Reached u) x out next go =
      resealed_reads (is_some x.seal) x out (λ v y p. stored o bytes digest y p next)
      (λ v seal. asked_ends (Put o.key bytes) (record x { seal = seal }) out (λ w y p. next (seens.Stored digest) y p) (λ w. go (seens.Stored digest) seal))

  written_reads : (o : Object) → ReadsAnew (written o)
  written_reads o x out next go =
      let bytes = object_spelling o in
      asked_ends (Hash bytes) x out (λ digest y p. asked (Enter (entry_of o digest)) y p (λ end z q. entered o bytes digest end z q next))
      (λ digest. asked_ends (Enter (entry_of o digest)) x out (λ end z q. entered o bytes digest end z q next) (λ end. entered_reads o bytes digest end x out next go))

  confirmed_reads : (entry : Option Entry) (object : Option Object) → Reads (confirmed entry object)
  confirmed_reads None object x out next go = go None
  confirmed_reads (Some entry) None x out next go = go None
  confirmed_reads (Some entry) (Some o) x out next go =
      asked_ends (Hash (object_spelling o)) x out (λ digest y p. next (matching entry (Some (o, digest))) y p) (λ digest. go (matching entry (Some (o, digest))))

  owned_reads : (own : Own) → ReadsAnew (owned own)
  owned_reads (owns.Fetch key) x out next go = fetched_reads key x out next (λ seen. go seen x.seal)
  owned_reads (owns.Look key) x out next go = looked_reads key x out next (λ seen. go seen x.seal)
  owned_reads (owns.Put o) x out next go = written_reads o x out next go

  noted_ends : (f : SavedFact) (notes : List Note) (p : Plan State) → EndsIn P f p → EndsIn P f (noted notes p)
  noted_ends f [] p ends = ends
  noted_ends f (n ∷ notes) p ends = noted_ends f notes p ends

  shown_reads : (served : Bool) (part : Part State Seen) → Reads part → Reads (shown served part)
  shown_reads true part reads x out next go = reads x out next go
  shown_reads false part reads x out next go = go seens.Nothing

  saved_passes : (save : Option Fact) → Passes (saved save)
  saved_passes None x out next good go = go tt x out good
  saved_passes (Some fact) x out next good go =
      asked_ends (Save (with_seal x.seal fact)) x out (λ u y o. next tt (record y { fact = fact }) o) (λ u. go tt (record x { fact = fact }) out good)

  sealed_if_passes : (seals : Bool) (fact : Fact) → Passes (sealed_if seals fact)
  sealed_if_passes true fact x out next good go = sealed_ends fact x out next (λ seal. go tt (record x { fact = fact; seal = seal }) out good)
  sealed_if_passes false fact x out next good go = saved_passes (Some fact) x out next good go

  -- ## Syncs

  installed_reads : (needed : Bool) (entries : List Entry) → Reads (installed needed entries)
  installed_reads true entries x out next go = asked_ends (Install entries) x out next (λ u. go u)
  installed_reads false entries x out next go = go tt

  own_node_reads : (needed : Bool) (at : Position) → Reads (own_node needed at)
  own_node_reads true at x out next go = asked_ends (ReadNode at) x out (λ walked y o. next (reached walked) y o) (λ walked. go (reached walked))
  own_node_reads false at x out next go = go None

  shown_node_reads : (tree : TreeVersion) (answered : Bool) (q : Question) → Reads (shown_node tree answered q)
  shown_node_reads tree true q x out next go = asked_ends (ReadNode q.position) x out (λ walked y o. next (Some (body_of tree q walked)) y o) (λ walked. go (Some (body_of tree q walked)))
  shown_node_reads tree false q x out next go = go None

  accepted_own_passes : (e : Election) → Passes (accepted_own me e)
  accepted_own_passes (Starting new accepts age) x out next good go = go (tasks.Phase phase_rules.EnoughAccepted ∷ []) (electing (Starting new (joined me accepts) age) x) out (no_calls test, good.1)
  accepted_own_passes (Preparing base promises asked age) x out next good go = go [] x out good

  accepted_in_passes : (fact : Fact) (phase : Phase) → Passes (accepted_in me fact phase)
  accepted_in_passes fact (phases.Electing e) x out next good go = accepted_own_passes e x out next good go
  accepted_in_passes fact (phases.Following f) x out next good go = go [] x (and_sends out (accepted me fact)) good
  accepted_in_passes fact (phases.Probing p) x out next good go = go [] x out good
  accepted_in_passes fact (phases.Leading l) x out next good go = go [] x out good

  end_sync_passes : (r : Running) (entries : List Entry) → Passes (end_sync me r entries)
  end_sync_passes r entries x out next good go =
      installed_reads (needs_build r.sync.scan entries) entries (without_sync x) out
      (λ u y o. sealed_if (keeps_seal y) r.fact y o (λ v z p. accepted_in me r.fact z.phase (record z { trusted = true }) p next))
      (λ u. sealed_if_passes (keeps_seal (without_sync x)) r.fact (without_sync x) out (λ v z p. accepted_in me r.fact z.phase (record z { trusted = true }) p next) good
      (λ v z p fine. accepted_in_passes r.fact z.phase (record z { trusted = true }) p next fine go))

  by_outcome_passes : (r : Running) (outcome : Outcome) → Passes (by_outcome me r outcome)
  by_outcome_passes r Pending x out next good go = go [] (with_sync r x) out good
  by_outcome_passes r (Trusted entries) x out next good go = end_sync_passes r entries x out next good go

  go_on_passes : (r : Running × List Outgoing) → Passes (go_on me r)
  go_on_passes r x out next good go = by_outcome_passes r.0 (outcome_of r.0.sync) x (and_sends out r.1) next good go

  resumed_passes : (running : Option Running) → Passes (resume_sync running)
  resumed_passes None x out next good go = go [] x out good
  resumed_passes (Some r) x out next good go = go [] (with_sync (row_resume r).0 x) (and_sends out (row_resume r).1) good

  followed_on_passes : (t : Then) → Passes (followed_on me t)
  followed_on_passes (thens.SyncOn fact) x out next good go =
      asked_ends ScanTree x out (λ scan y o. go_on me (row_start fact me y.trusted scan) y o next) (λ scan. go_on_passes (row_start fact me x.trusted scan) x out next good go)
  followed_on_passes thens.Resume x out next good go = resumed_passes x.sync x out next good go
  followed_on_passes (thens.Rule n) x out next good go = go (named (thens.Rule n)) x out good
  followed_on_passes (thens.OnKeys n) x out next good go = go [] x out good
  followed_on_passes thens.Stay x out next good go = go [] x out good
  followed_on_passes thens.Follow x out next good go = go [] x out good
  followed_on_passes (thens.Lead fact) x out next good go = go [] x out good
  followed_on_passes thens.Untrust x out next good go = go [] x out good
  followed_on_passes thens.Put x out next good go = go [] x out good

  take_give_passes : (tree : TreeVersion) (from : ℕ) (give : Give) (own : Option (List ℕ)) (running : Option Running) → Passes (take_give tree me from give own running)
  take_give_passes tree from give own None x out next good go = go [] x out good
  take_give_passes tree from give own (Some r) x out next good go = go_on_passes (row_take tree from give own r) x out next good go

  -- ## Rows

  left_good : (leave : Bool) (x : State) (out : Out) → Good x out → Good (left leave x) (left_answers leave x out)
  left_good leave x out good = ((left_stays test me leave x).1 good.0, left_answers_to test me leave x out good.0 good.1)

  turned_good : (t : Then) (x : State) (out : Out) → Good x out → Good (turned me t x) (turned_answers t x out)
  turned_good t x out good = ((turned_stays test me t x).1 good.0, left_answers_to test me (ends_leading t) x out good.0 good.1)

  row_followed : (row : PhaseOut) (y : State) (o : Out) (next : Rest State (List Task)) → Good y o → Goes next → EndsIn P (saved_by y) (followed_on me row.then (turned me row.then y) (turned_answers row.then y o) next)
  row_followed row y o next good go =
      at_fact _ _ (followed_on me row.then (turned me row.then y) (turned_answers row.then y o) next) (turned_stays test me row.then y).0
      (followed_on_passes row.then (turned me row.then y) (turned_answers row.then y o) next (turned_good row.then y o good) go)

  row_done_passes : (row : PhaseOut) → Passes (row_done me row)
  row_done_passes row x out next good go =
      let followed : Rest State (Unit {0}) = λ u y o. followed_on me row.then (turned me row.then y) (turned_answers row.then y (and_sends o (posted_to row.to row.message))) next in
      at_fact _ _ (saved row.save (left row.leave x) (left_answers row.leave x out) followed) (left_stays test me row.leave x).0
      (saved_passes row.save (left row.leave x) (left_answers row.leave x out) followed (left_good row.leave x out good) (λ u y o fine. row_followed row y (and_sends o (posted_to row.to row.message)) next fine go))

  followed_up_passes : (own : Option Own) (turn : Then) (keys : List (List ℕ)) → Passes (followed_up me own turn keys)
  followed_up_passes None turn keys x out next good go =
      at_fact _ _ (next (keyed turn keys) (turned me turn x) (turned_answers turn x out)) (turned_stays test me turn x).0 (go (keyed turn keys) (turned me turn x) (turned_answers turn x out) (turned_good turn x out good))
  followed_up_passes (Some own) turn keys x out next good go =
      owned_reads own x out (λ seen y o. next (tasks.Again (asked_by own) (own_key own) seen ∷ []) y o) (λ seen seal. go (tasks.Again (asked_by own) (own_key own) seen ∷ []) (record x { seal = seal }) out good)

  lead_done_passes : (row : LeadOut) → AllTo test row.answers → Passes (lead_done me row)
  lead_done_passes row to x out next good go =
      let fine = left_good row.leave x out good in
      noted_ends (saved_by x) row.notes (followed_up me row.own row.then row.keys (left row.leave x) (and_row row x out) next)
      (at_fact _ _ (followed_up me row.own row.then row.keys (left row.leave x) (and_row row x out) next) (left_stays test me row.leave x).0 (followed_up_passes row.own row.then row.keys (left row.leave x) (and_row row x out) next
      (fine.0, All-append (λ (a : AnswerOut). test a.caller ≡ true) (left_answers row.leave x out).answers row.answers fine.1 to) go))

  lead_passes : (row : Leader → Leader × LeadOut) → IsFair test row → (phase : Phase) → AllFrom test (calls_in phase) → Passes (lead row me phase)
  lead_passes row fair (phases.Leading l) from x out next good go =
      let fine = fair l.leader from in lead_done_passes (row l.leader).1 fine.0 (leading (with_leader (row l.leader).0 l) x) out next (fine.1, good.1) go
  lead_passes row fair (phases.Following f) from x out next good go = go [] x out good
  lead_passes row fair (phases.Probing p) from x out next good go = go [] x out good
  lead_passes row fair (phases.Electing e) from x out next good go = go [] x out good

  reminded_passes : (phase : Phase) → AllFrom test (calls_in phase) → Passes (reminded phase)
  reminded_passes (phases.Leading l) from x out next good go =
      go (named (begins (wished l.leader.fact l.change))) (leading (record l { change = wished l.leader.fact l.change }) x) (and_sends out (ticks x.fact l)) (from, good.1)
  reminded_passes (phases.Following f) from x out next good go = go [] x out good
  reminded_passes (phases.Probing p) from x out next good go = go [] x out good
  reminded_passes (phases.Electing e) from x out next good go = go [] x out good

  -- a row of a phase, whose state keeps the fact
  moved_passes : (x y : State) (row : PhaseOut) (out : Out) (next : Rest State (List Task)) → (saved_by y ≡ saved_by x) × (AllFrom test (calls_in x.phase) → AllFrom test (calls_in y.phase)) → Good x out → Goes next → EndsIn P (saved_by x) (row_done me row y out next)
  moved_passes x y row out next stays good go = at_fact _ _ (row_done me row y out next) stays.0 (row_done_passes row y out next (stays.1 good.0, good.1) go)

  task_done_passes : (t : Task) → Passes (task_done me t)
  task_done_passes (tasks.Phase n) x out next good go = moved_passes x (phase_row n me x).0 (phase_row n me x).1 out next (phase_row_stays test me n x) good go
  task_done_passes tasks.Remind x out next good go = reminded_passes x.phase good.0 x out next good go
  task_done_passes (tasks.Key n key) x out next good go = lead_passes (lead_row n key seens.Nothing) (key_fair test n key seens.Nothing) x.phase good.0 x out next good go
  task_done_passes (tasks.Again n key seen) x out next good go = lead_passes (lead_row n key seen) (key_fair test n key seen) x.phase good.0 x out next good go

  driven_passes : (n : ℕ) (ts : List Task) → Passes (driven me n ts)
  unfolding driven
  driven_passes zero ts x out next good go = go ts x out good
  driven_passes (suc n) [] x out next good go = go [] x out good
  driven_passes (suc n) (t ∷ ts) x out next good go =
      task_done_passes t x out (λ more y o. driven me n (more ++ ts) y o next) good (λ more y o fine. driven_passes n (more ++ ts) y o next fine go)

  -- ## Events

  led_in_passes : (phase : Phase) → AllFrom test (calls_in phase) → Passes (led_in me phase)
  led_in_passes (phases.Leading l) from x out next good go =
      let fine = ticked_fair test (end_of (older l.change)) l.leader from in
      lead_done_passes (row_5_calls x.fact l).1 fine.0 (leading (row_5_calls x.fact l).0 x) out (λ ts y o. next (ts ++ tasks.Remind ∷ []) y o) (fine.1, good.1)
      (λ ts y o fair. go (ts ++ tasks.Remind ∷ []) y o fair)
  led_in_passes (phases.Following f) from x out next good go = go [] x out good
  led_in_passes (phases.Probing p) from x out next good go = go [] x out good
  led_in_passes (phases.Electing e) from x out next good go = go [] x out good

  ticked_passes : (phase : Phase) → AllFrom test (calls_in phase) → Passes (ticked me phase)
  ticked_passes phase from x out next good go =
      if_ends (saved_by x) (leads phase) _ _ (led_in_passes phase from x out next good go) (moved_passes x (aged phase me x).0 (aged phase me x).1 out next (aged_stays test me phase x) good go)

  put_done_passes : (turn : Then) (from : ℕ) (ballot : Epoch) (o : Object) (row : PhaseOut) → Passes (put_done turn me from ballot o row)
  put_done_passes thens.Put from ballot o row x out next good go =
      written_reads o x out (λ seen y p. row_done me (after_put from ballot row seen) y p next) (λ seen seal. row_done_passes (after_put from ballot row seen) (record x { seal = seal }) out next good go)
  put_done_passes thens.Stay from ballot o row x out next good go = row_done_passes row x out next good go
  put_done_passes thens.Follow from ballot o row x out next good go = row_done_passes row x out next good go
  put_done_passes (thens.Lead fact) from ballot o row x out next good go = row_done_passes row x out next good go
  put_done_passes thens.Untrust from ballot o row x out next good go = row_done_passes row x out next good go
  put_done_passes thens.Resume from ballot o row x out next good go = row_done_passes row x out next good go
  put_done_passes (thens.SyncOn fact) from ballot o row x out next good go = row_done_passes row x out next good go
  put_done_passes (thens.Rule n) from ballot o row x out next good go = row_done_passes row x out next good go
  put_done_passes (thens.OnKeys n) from ballot o row x out next good go = row_done_passes row x out next good go

  got_ask_passes : (from : ℕ) (ballot : Epoch) (q : Question) → Passes (got_ask me from ballot q)
  got_ask_passes from ballot q x out next good go =
      shown_node_reads x.mode.tree (is_same ballot x.fact.ballot) q x out (λ body y o. row_done me (row_23 y.fact y.trusted from ballot q.position q.after body) y o next)
      (λ body. row_done_passes (row_23 x.fact x.trusted from ballot q.position q.after body) x out next good go)

  tree_give_passes : (from : ℕ) (give : Give) → Passes (tree_give me from give)
  tree_give_passes from give x out next good go =
      own_node_reads (needs_node x.mode.tree from give x.sync) give.question.position x out (λ own y o. take_give x.mode.tree me from give own y.sync y o next)
      (λ own. take_give_passes x.mode.tree from give own x.sync x out next good go)

  -- a message about a node that the tree does not have does nothing
  in_tree_passes : (has : Bool) (part : Part State (List Task)) → Passes part → Passes (in_tree has part)
  in_tree_passes true part passes x out next good go = passes x out next good go
  in_tree_passes false part passes x out next good go = go [] x out good

  delivered_passes : (from : ℕ) (message : Message) → Passes (delivered me from message)
  delivered_passes from (messages.Get ballot round key) x out next good go =
      shown_reads (is_served x.fact x.trusted ballot) (looked key) (looked_reads key) x out (λ seen y o. row_done me (row_21 y.fact y.trusted from ballot round key seen) y o next)
      (λ seen. row_done_passes (row_21 x.fact x.trusted from ballot round key seen) x out next good go)
  delivered_passes from (messages.Put ballot o) x out next good go =
      shown_reads (is_served x.fact x.trusted ballot) (found o.key) (found_reads o.key) x out
      (λ seen y p. put_done (row_22 y.fact y.trusted from ballot o seen).then me from ballot o (row_22 y.fact y.trusted from ballot o seen) y p next)
      (λ seen. put_done_passes (row_22 x.fact x.trusted from ballot o seen).then from ballot o (row_22 x.fact x.trusted from ballot o seen) x out next good go)
  delivered_passes from (messages.GetReply ballot round key entry object) x out next good go =
      if_ends (saved_by x) (leads x.phase) _ _
      (confirmed_reads entry object x out (λ named y o. lead (row_29_reply from ballot round key entry named) me y.phase y o next)
      (λ named. lead_passes (row_29_reply from ballot round key entry named) (got_fair test from ballot round key entry named) x.phase good.0 x out next good go))
      (go [] x out good)
  delivered_passes from (messages.PutReply ballot key version) x out next good go = lead_passes (row_35_reply from ballot key version) (put_fair test from ballot key version) x.phase good.0 x out next good go
  delivered_passes from (messages.CheckReply ballot round) x out next good go = lead_passes (row_33_reply from ballot round) (checked_fair test from ballot round) x.phase good.0 x out next good go
  delivered_passes from (messages.TreeAsk ballot at after) x out next good go =
      let q : Question = record { position = at; after = after } in
      in_tree_passes (has_position x.mode.tree at) (got_ask me from ballot q) (got_ask_passes from ballot q) x out next good go
  delivered_passes from (messages.TreeGive ballot at after trusted body) x out next good go =
      let give : Give = record { ballot = ballot; question = record { position = at; after = after }; trusted = trusted; body = body } in
      in_tree_passes (has_position x.mode.tree at) (tree_give me from give) (tree_give_passes from give) x out next good go
  delivered_passes from message x out next good go = moved_passes x (received me from message x).0 (received me from message x).1 out next (received_stays test me from message x) good go

  first_passes : (event : Event) → ComesFrom test event → Passes (first me event)
  first_passes (events.Deliver from message) come x out next good go = delivered_passes from message x out next good go
  first_passes events.Tick come x out next good go = ticked_passes x.phase good.0 x out next good go
  first_passes (events.Call call) come x out next good go =
      if_ends (saved_by x) (leads x.phase) _ _
      (lead_passes (row_27 call.from call.id call.key call.command (changes x.phase)) (joined_fair test call.from call.id call.key call.command (changes x.phase) come) x.phase good.0 x out next good go)
      (go [] x (and_answers out (unavailable call ∷ [])) (good.0, All-push (λ (a : AnswerOut). test a.caller ≡ true) out.answers (unavailable call) good.1 come))
  first_passes (events.Change view) come x out next good go =
      moved_passes x (asked_change view x).0 (asked_change view x).1.0 (and_change out (asked_change view x).1.1) next (asked_stays test me view x) good go

  -- what follows a row, until no task is left
  abbrev onward : Rest State (Unit {0}) → Rest State (List Task)
  onward next ts y o = driven me most_turns ts y o (λ rest z q. next tt z q)

  onward_goes : (next : Rest State (Unit {0})) → Goes next → Goes (onward next)
  onward_goes next go ts y o good = driven_passes most_turns ts y o (λ rest z q. next tt z q) good (λ rest z q fine. go tt z q fine)

  responded_passes : (event : Event) → ComesFrom test event → Passes (responded me event)
  responded_passes event come x out next good go = first_passes event come x out (onward next) good (onward_goes next go)

  concluded_passes : Passes (concluded me)
  concluded_passes x out next good go = task_done_passes (tasks.Phase phase_rules.EndEpoch) x out (onward next) good (onward_goes next go)

-- the ends of a step: its state has the fact and the seal that were saved last; those that it answers, and the
-- callers of the calls that it leaves, pass the test
pub steps_end : (test : ℕ → Bool) (me : ℕ) (event : Event) (x : State) → ComesFrom test event → AllFrom test (calls_in x.phase)
    → EndsIn (λ last y out. (saved_by y ≡ last) × (AllTo test out.answers × AllFrom test (calls_in y.phase))) (saved_by x) (step_of me event x)
steps_end test me event x come from =
    let P : SavedFact → State → Out → Type 0 = λ last y out. (saved_by y ≡ last) × (AllTo test out.answers × AllFrom test (calls_in y.phase)) in
    responded_passes test me P event come x nothing (λ u y o. concluded me y o (λ v z q. Done z q)) (from, no_answers test)
    (λ u y o good. concluded_passes test me P y o (λ v z q. Done z q) good (λ v z q fine. (refl, (fine.1, fine.0))))
