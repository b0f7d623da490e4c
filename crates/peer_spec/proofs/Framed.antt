-- What a step adds to the outbox does not depend on what is in it.
use Rattle.std.specs.Option.{is_some}
use Rattle.std.proofs.Common.{◌≡◌, ◌∙◌, ℕ, zero, suc, Bool, true, false, if◌then◌else◌, List, [], ◌∷◌, ◌++◌, Option, Some, None, Ok, Err, refl, sym, ap, subst, inr}
use Rattle.std.proofs.Math.Path.{fun_ext}
use Rattle.std.proofs.lemmas.List.{append_assoc}
use Rattle.ens_base.specs.declared.entry.Entry.{Entry}
use Rattle.ens_base.specs.declared.epoch.Epoch.{Epoch}
use Rattle.stored_formats.specs.Objects.{object_spelling}
use Rattle.stored_formats.specs.declared.object.Object.{Object}
use Rattle.peer_state.specs.PhaseRules.{is_served, row_21, row_22, row_23, Election, Preparing, Starting}
use Rattle.object_commands.specs.Kept.{entry_of, matching, object_in}
use Rattle.leader_output.specs.declared.out.AnswerOut.{AnswerOut}
use Rattle.leader_output.specs.Outs.{asked_by}
use Rattle.leader_output.specs.declared.out.LeadOut.{LeadOut}
use Rattle.leader_output.specs.declared.out.Outgoing.{Outgoing}
use Rattle.leader_output.specs.declared.out.Own.{Own}
use Rattle.leader_output.specs.declared.out.Own.TheVariants as owns
use Rattle.leader.specs.Puts.{row_35_reply}
use Rattle.leader.specs.Rounds.{row_29_reply, row_33_reply}
use Rattle.leader.specs.Rules.{lead_row}
use Rattle.leader.specs.Starts.{row_27}
use Rattle.leader.specs.declared.leader.Leader.{Leader}
use Rattle.stored_formats.specs.declared.fact.Fact.{Fact}
use Rattle.phase_rows.specs.Orders.{is_same}
use Rattle.phase_rows.specs.Peers.{joined}
use Rattle.peer_state.specs.TreeSync.{row_start, row_resume, row_take, Running, Give, needs_build, outcome_of, Outcome, Pending, Trusted}
use Rattle.peer_state.specs.TreeExchange.{Question}
use Rattle.tree_node.specs.declared.position.Position.{Position}
use Rattle.tree_node.specs.declared.version.TreeVersion.{TreeVersion}
use Rattle.register_model.specs.declared.note.Note.{Note}
use Rattle.step_plans.specs.Calls.{Call, Save, Root, Find, Enter, ScanTree, ReadNode, Install, Fetch, Put, Hash, AnswerOf}
use Rattle.step_plans.specs.Outboxes.{out_of}
use Rattle.step_plans.specs.Plans.{Plan, Done, Say, Ask, Out, nothing, Rest, Part, Spot, Finished, Stopped, Runs, Did, asked, noted}
use Rattle.step_plans.specs.Saved.{with_seal}
use Rattle.step_plans.specs.Sends.{posted_to}
use Rattle.step_plans.specs.Steps.{HasFinished}
use Rattle.step_plans.specs.Tasks.{named, keyed}
use Rattle.step_plans.specs.declared.error.PeerError.{PeerError}
use Rattle.step_plans.specs.declared.outbox.Outbox.{Outbox}
use Rattle.step_plans.specs.declared.tasks.Task.{Task}
use Rattle.step_plans.specs.declared.tasks.Task.TheVariants as tasks
use Rattle.step_plans.specs.declared.walked.Walked.{Walked}
use Rattle.step_plans.specs.declared.walked.Walked.TheVariants.{Reached, Broken}
use Rattle.step_plans.proofs.Framed.{added, framed, added_nothing, finished_framed, stopped_framed}
use Rattle.wire_frames.specs.declared.message.Message.{Message}
use Rattle.wire_frames.specs.declared.message.Message.TheVariants as messages
use Rattle.phase_rows.specs.declared.phase.PhaseOut.{PhaseOut}
use Rattle.phase_rows.specs.declared.phase.Seen.{Seen}
use Rattle.phase_rows.specs.declared.phase.Seen.TheVariants as seens
use Rattle.phase_rows.specs.declared.phase.Then.{Then}
use Rattle.phase_rows.specs.declared.phase.Then.TheVariants as thens
use Rattle.phase_rows.specs.declared.rules.PhaseRule.TheVariants as phase_rules
use Rattle.peer_spec.specs.Drives.{performed, row_done, owned, own_key, followed_up, and_row, lead_done, lead, reminded, task_done, driven, ticked, shown, got, got_ask, after_put, put_done, put_in, get_replied, in_tree, delivered, unavailable, called, and_change, first, responded, concluded, whole, step_of, most_turns}
use Rattle.peer_spec.specs.Syncs.{saved, sealed, sealed_if, and_sends, with_sync, installed, accepted, accepted_own, accepted_in, end_sync, by_outcome, go_on, start_sync, resume_sync, followed_on, reached, own_node, body_of, shown_node, needs_node, take_give, tree_give}
use Rattle.peer_spec.specs.TreeCalls.{has_position}
use Rattle.peer_state.specs.Leading.{row_5_calls, ticks, wished, begins}
use Rattle.peer_state.specs.Moves.{keeps_seal, left, left_answers, and_answers, timeouts, ends_leading, turned, turned_answers, leading, with_leader, electing, without_sync}
use Rattle.peer_spec.specs.Owns.{digested, read, kept, fetched, held, looked_at, looked, found_at, found, stored, resealed, entered, written, confirmed}
use Rattle.peer_state.specs.Rows.{aged, phase_row, received, asked_change, leads, changes}
use Rattle.peer_state.specs.declared.event.CallIn.{CallIn}
use Rattle.peer_state.specs.declared.event.Event.{Event}
use Rattle.peer_state.specs.declared.event.Event.TheVariants as events
use Rattle.peer_state.specs.declared.state.Phase.{Phase}
use Rattle.peer_state.specs.declared.state.Phase.TheVariants as phases
use Rattle.peer_state.specs.declared.state.State.{State}

module _ (me : ℕ) (a : Out) where
  sends_after : (o : Out) (more : List Outgoing) → and_sends (added a o) more ≡ added a (and_sends o more)
  sends_after o more = rw (append_assoc a.sends o.sends more) refl

  answers_after : (o : Out) (more : List AnswerOut) → and_answers (added a o) more ≡ added a (and_answers o more)
  answers_after o more = rw (append_assoc a.answers o.answers more) refl

  left_after : (leave : Bool) (x : State) (o : Out) → left_answers leave x (added a o) ≡ added a (left_answers leave x o)
  left_after true x o = answers_after o (timeouts x.phase)
  left_after false x o = refl

  row_after : (row : LeadOut) (x : State) (o : Out) → and_row row x (added a o) ≡ added a (and_row row x o)
  row_after row x o =
      let told = left_answers row.leave x o in
      ap (λ (k : Out). and_sends (and_answers k row.answers) row.sends) (left_after row.leave x o) ∙ ap (λ (k : Out). and_sends k row.sends) (answers_after told row.answers) ∙ sends_after (and_answers told row.answers) row.sends

  change_after : (o : Out) (taken : Bool) → and_change (added a o) taken ≡ added a (and_change o taken)
  change_after o taken = rw (append_assoc a.changes o.changes (taken ∷ [])) refl

  -- with this output before, what follows does the same
  abbrev Same : {A : Type 0} → Rest State A → Rest State A → Type 0
  Same {A} next later = (v : A) (y : State) (o : Out) → next v y (added a o) ≡ framed a (later v y o)

  -- with this output before, the part does the same
  abbrev Frames : {A : Type 0} → Part State A → Type 0
  Frames {A} part = (x : State) (out : Out) (next later : Rest State A) → Same next later → part x (added a out) next ≡ framed a (part x out later)

  if_same : (test : Bool) (p q r s : Plan State) → p ≡ framed a r → q ≡ framed a s → (if test then p else q) ≡ framed a (if test then r else s)
  if_same true p q r s first second = first
  if_same false p q r s first second = second

  noted_same : (notes : List Note) (p q : Plan State) → p ≡ framed a q → noted notes p ≡ framed a (noted notes q)
  noted_same [] p q same = same
  noted_same (n ∷ notes) p q same = ap (Say n) (noted_same notes p q same)

  asked_frames : (call : Call) → Frames (asked call)
  unfolding asked
  asked_frames call x out next later same = ap (Ask call) (fun_ext (λ r. same r x out))

  saved_frames : (save : Option Fact) → Frames (saved save)
  saved_frames None x out next later same = same tt x out
  saved_frames (Some fact) x out next later same =
      asked_frames (Save (with_seal x.seal fact)) x out (λ u y o. next tt (record y { fact = fact }) o) (λ u y o. later tt (record y { fact = fact }) o)
      (λ u y o. same tt (record y { fact = fact }) o)

  sealed_frames : (fact : Fact) → Frames (sealed fact)
  sealed_frames fact x out next later same =
      asked_frames Root x out (λ root y o. asked (Save (with_seal root fact)) y o (λ u z q. next tt (record z { fact = fact; seal = root }) q)) (λ root y o. asked (Save (with_seal root fact)) y o (λ u z q. later tt (record z { fact = fact; seal = root }) q))
      (λ root y o. asked_frames (Save (with_seal root fact)) y o (λ u z q. next tt (record z { fact = fact; seal = root }) q) (λ u z q. later tt (record z { fact = fact; seal = root }) q)
      (λ u z q. same tt (record z { fact = fact; seal = root }) q))

  sealed_if_frames : (seals : Bool) (fact : Fact) → Frames (sealed_if seals fact)
  sealed_if_frames true fact x out next later same = sealed_frames fact x out next later same
  sealed_if_frames false fact x out next later same = saved_frames (Some fact) x out next later same

  resealed_frames : (seals : Bool) → Frames (resealed seals)
  resealed_frames true x out next later same = sealed_frames x.fact x out next later same
  resealed_frames false x out next later same = same tt x out

  performed_frames : (row : PhaseOut) → Frames (performed row)
  performed_frames row x out next later same =
      let more = posted_to row.to row.message in
      rw (left_after row.leave x out) (
      saved_frames row.save (left row.leave x) (left_answers row.leave x out) (λ u y o. next tt y (and_sends o more)) (λ u y o. later tt y (and_sends o more))
      (λ u y o. rw (sends_after o more) (same tt y (and_sends o more)))
      )

  installed_frames : (needed : Bool) (entries : List Entry) → Frames (installed needed entries)
  installed_frames true entries x out next later same = asked_frames (Install entries) x out next later same
  installed_frames false entries x out next later same = same tt x out

  accepted_own_frames : (e : Election) → Frames (accepted_own me e)
  accepted_own_frames (Starting new accepts age) x out next later same = same (tasks.Phase phase_rules.EnoughAccepted ∷ []) (electing (Starting new (joined me accepts) age) x) out
  accepted_own_frames (Preparing base promises sent age) x out next later same = same [] x out

  accepted_in_frames : (fact : Fact) (phase : Phase) → Frames (accepted_in me fact phase)
  accepted_in_frames fact (phases.Electing e) x out next later same = accepted_own_frames e x out next later same
  accepted_in_frames fact (phases.Following f) x out next later same = rw (sends_after out (accepted me fact)) (same [] x (and_sends out (accepted me fact)))
  accepted_in_frames fact (phases.Probing p) x out next later same = same [] x out
  accepted_in_frames fact (phases.Leading l) x out next later same = same [] x out

  end_sync_frames : (r : Running) (entries : List Entry) → Frames (end_sync me r entries)
  end_sync_frames r entries x out next later same =
      installed_frames (needs_build r.sync.scan entries) entries (without_sync x) out
      (λ u y o. sealed_if (keeps_seal y) r.fact y o (λ v z p. accepted_in me r.fact z.phase (record z { trusted = true }) p next))
      (λ u y o. sealed_if (keeps_seal y) r.fact y o (λ v z p. accepted_in me r.fact z.phase (record z { trusted = true }) p later))
      (λ u y o. sealed_if_frames (keeps_seal y) r.fact y o (λ v z p. accepted_in me r.fact z.phase (record z { trusted = true }) p next) (λ v z p. accepted_in me r.fact z.phase (record z { trusted = true }) p later)
      (λ v z p. accepted_in_frames r.fact z.phase (record z { trusted = true }) p next later same))

  by_outcome_frames : (r : Running) (outcome : Outcome) → Frames (by_outcome me r outcome)
  by_outcome_frames r Pending x out next later same = same [] (with_sync r x) out
  by_outcome_frames r (Trusted entries) x out next later same = end_sync_frames r entries x out next later same

  go_on_frames : (r : Running × List Outgoing) → Frames (go_on me r)
  go_on_frames r x out next later same = rw (sends_after out r.1) (by_outcome_frames r.0 (outcome_of r.0.sync) x (and_sends out r.1) next later same)

  start_sync_frames : (fact : Fact) → Frames (start_sync me fact)
  start_sync_frames fact x out next later same =
      asked_frames ScanTree x out (λ scan y o. go_on me (row_start fact me y.trusted scan) y o next) (λ scan y o. go_on me (row_start fact me y.trusted scan) y o later)
      (λ scan y o. go_on_frames (row_start fact me y.trusted scan) y o next later same)

  resumed_frames : (running : Option Running) → Frames (resume_sync running)
  resumed_frames None x out next later same = same [] x out
  resumed_frames (Some r) x out next later same = rw (sends_after out (row_resume r).1) (same [] (with_sync (row_resume r).0 x) (and_sends out (row_resume r).1))

  followed_on_frames : (t : Then) → Frames (followed_on me t)
  followed_on_frames (thens.SyncOn fact) x out next later same = start_sync_frames fact x out next later same
  followed_on_frames thens.Resume x out next later same = resumed_frames x.sync x out next later same
  followed_on_frames (thens.Rule n) x out next later same = same (named (thens.Rule n)) x out
  followed_on_frames (thens.OnKeys n) x out next later same = same [] x out
  followed_on_frames thens.Stay x out next later same = same [] x out
  followed_on_frames thens.Follow x out next later same = same [] x out
  followed_on_frames (thens.Lead fact) x out next later same = same [] x out
  followed_on_frames thens.Untrust x out next later same = same [] x out
  followed_on_frames thens.Put x out next later same = same [] x out

  row_done_frames : (row : PhaseOut) → Frames (row_done me row)
  row_done_frames row x out next later same =
      performed_frames row x out (λ u y o. followed_on me row.then (turned me row.then y) (turned_answers row.then y o) next) (λ u y o. followed_on me row.then (turned me row.then y) (turned_answers row.then y o) later)
      (λ u y o. rw (left_after (ends_leading row.then) y o) (followed_on_frames row.then (turned me row.then y) (turned_answers row.then y o) next later same))

  digested_frames : (object : Option Object) (bytes : List ℕ) → Frames (digested object bytes)
  digested_frames None bytes x out next later same = same None x out
  digested_frames (Some o) bytes x out next later same =
      asked_frames (Hash bytes) x out (λ digest y p. next (Some (o, digest)) y p) (λ digest y p. later (Some (o, digest)) y p) (λ digest y p. same (Some (o, digest)) y p)

  read_frames : (bytes : Option (List ℕ)) → Frames (read bytes)
  read_frames None x out next later same = same None x out
  read_frames (Some bytes) x out next later same = digested_frames (object_in bytes) bytes x out next later same

  kept_frames : (key : List ℕ) → Frames (kept key)
  kept_frames key x out next later same =
      asked_frames (Fetch key) x out (λ bytes y p. read bytes y p next) (λ bytes y p. read bytes y p later) (λ bytes y p. read_frames bytes y p next later same)

  fetched_frames : (key : List ℕ) → Frames (fetched key)
  fetched_frames key x out next later same =
      kept_frames key x out (λ o y p. next (seens.Kept o) y p) (λ o y p. later (seens.Kept o) y p) (λ o y p. same (seens.Kept o) y p)

  held_frames : (key : List ℕ) (entry : Option Entry) → Frames (held key entry)
  held_frames key None x out next later same = same (seens.Held None None) x out
  held_frames key (Some entry) x out next later same =
      kept_frames key x out (λ o y p. next (seens.Held (Some entry) (matching entry o)) y p) (λ o y p. later (seens.Held (Some entry) (matching entry o)) y p)
      (λ o y p. same (seens.Held (Some entry) (matching entry o)) y p)

  looked_at_frames : (key : List ℕ) (end : Walked (Option Entry)) → Frames (looked_at key end)
  looked_at_frames key (Broken at) x out next later same = same (seens.Damaged at) x out
  looked_at_frames key (Reached entry) x out next later same = held_frames key entry x out next later same

  looked_frames : (key : List ℕ) → Frames (looked key)
  looked_frames key x out next later same =
      asked_frames (Find key) x out (λ end y p. looked_at key end y p next) (λ end y p. looked_at key end y p later) (λ end y p. looked_at_frames key end y p next later same)

  found_frames : (key : List ℕ) → Frames (found key)
  found_frames key x out next later same =
      asked_frames (Find key) x out (λ end y p. next (found_at end) y p) (λ end y p. later (found_at end) y p) (λ end y p. same (found_at end) y p)

  entered_frames : (o : Object) (bytes digest : List ℕ) (end : Walked (Unit {0})) → Frames (entered o bytes digest end)
  entered_frames o bytes digest (Broken at) x out next later same = same (seens.Damaged at) x out
  entered_frames o bytes digest (Reached u) x out next later same =
      resealed_frames (is_some x.seal) x out (λ v y p. stored o bytes digest y p next) (λ v y p. stored o bytes digest y p later)
      (λ v y p. asked_frames (Put o.key bytes) y p (λ u z q. next (seens.Stored digest) z q) (λ u z q. later (seens.Stored digest) z q) (λ u z q. same (seens.Stored digest) z q))

  written_frames : (o : Object) → Frames (written o)
  written_frames o x out next later same =
      let bytes = object_spelling o in
      asked_frames (Hash bytes) x out
      (λ digest y p. asked (Enter (entry_of o digest)) y p (λ end z q. entered o bytes digest end z q next))
      (λ digest y p. asked (Enter (entry_of o digest)) y p (λ end z q. entered o bytes digest end z q later))
      (λ digest y p. asked_frames (Enter (entry_of o digest)) y p (λ end z q. entered o bytes digest end z q next) (λ end z q. entered o bytes digest end z q later)
      (λ end z q. entered_frames o bytes digest end z q next later same))

  confirmed_frames : (entry : Option Entry) (object : Option Object) → Frames (confirmed entry object)
  confirmed_frames None object x out next later same = same None x out
  confirmed_frames (Some entry) None x out next later same = same None x out
  confirmed_frames (Some entry) (Some o) x out next later same =
      asked_frames (Hash (object_spelling o)) x out (λ digest y p. next (matching entry (Some (o, digest))) y p) (λ digest y p. later (matching entry (Some (o, digest))) y p)
      (λ digest y p. same (matching entry (Some (o, digest))) y p)

  owned_frames : (own : Own) → Frames (owned own)
  owned_frames (owns.Fetch key) x out next later same = fetched_frames key x out next later same
  owned_frames (owns.Look key) x out next later same = looked_frames key x out next later same
  owned_frames (owns.Put o) x out next later same = written_frames o x out next later same

  followed_up_frames : (own : Option Own) (turn : Then) (keys : List (List ℕ)) → Frames (followed_up me own turn keys)
  followed_up_frames None turn keys x out next later same =
      rw (left_after (ends_leading turn) x out) (same (keyed turn keys) (turned me turn x) (turned_answers turn x out))
  followed_up_frames (Some own) turn keys x out next later same =
      owned_frames own x out (λ seen y o. next (tasks.Again (asked_by own) (own_key own) seen ∷ []) y o) (λ seen y o. later (tasks.Again (asked_by own) (own_key own) seen ∷ []) y o)
      (λ seen y o. same (tasks.Again (asked_by own) (own_key own) seen ∷ []) y o)

  lead_done_frames : (row : LeadOut) → Frames (lead_done me row)
  lead_done_frames row x out next later same =
      noted_same row.notes _ _ (rw (row_after row x out) (followed_up_frames row.own row.then row.keys (left row.leave x) (and_row row x out) next later same))

  lead_frames : (row : Leader → Leader × LeadOut) (phase : Phase) → Frames (lead row me phase)
  lead_frames row (phases.Leading l) x out next later same =
      lead_done_frames (row l.leader).1 (leading (with_leader (row l.leader).0 l) x) out next later same
  lead_frames row (phases.Following f) x out next later same = same [] x out
  lead_frames row (phases.Probing p) x out next later same = same [] x out
  lead_frames row (phases.Electing e) x out next later same = same [] x out

  reminded_frames : (phase : Phase) → Frames (reminded phase)
  reminded_frames (phases.Leading l) x out next later same =
      rw (sends_after out (ticks x.fact l)) (same (named (begins (wished l.leader.fact l.change))) (leading (record l { change = wished l.leader.fact l.change }) x) (and_sends out (ticks x.fact l)))
  reminded_frames (phases.Following f) x out next later same = same [] x out
  reminded_frames (phases.Probing p) x out next later same = same [] x out
  reminded_frames (phases.Electing e) x out next later same = same [] x out

  task_done_frames : (t : Task) → Frames (task_done me t)
  task_done_frames (tasks.Phase n) x out next later same = row_done_frames (phase_row n me x).1 (phase_row n me x).0 out next later same
  task_done_frames tasks.Remind x out next later same = reminded_frames x.phase x out next later same
  task_done_frames (tasks.Key n key) x out next later same = lead_frames (lead_row n key seens.Nothing) x.phase x out next later same
  task_done_frames (tasks.Again n key seen) x out next later same = lead_frames (lead_row n key seen) x.phase x out next later same

  driven_frames : (n : ℕ) (ts : List Task) → Frames (driven me n ts)
  unfolding driven
  driven_frames zero ts x out next later same = same ts x out
  driven_frames (suc n) [] x out next later same = same [] x out
  driven_frames (suc n) (t ∷ ts) x out next later same =
      task_done_frames t x out (λ more y o. driven me n (more ++ ts) y o next) (λ more y o. driven me n (more ++ ts) y o later)
      (λ more y o. driven_frames n (more ++ ts) y o next later same)

  ticked_frames : (phase : Phase) → Frames (ticked me phase)
  ticked_frames (phases.Leading l) x out next later same =
      lead_done_frames (row_5_calls x.fact l).1 (leading (row_5_calls x.fact l).0 x) out (λ ts y o. next (ts ++ tasks.Remind ∷ []) y o) (λ ts y o. later (ts ++ tasks.Remind ∷ []) y o)
      (λ ts y o. same (ts ++ tasks.Remind ∷ []) y o)
  ticked_frames (phases.Following f) x out next later same = row_done_frames (aged (phases.Following f) me x).1 (aged (phases.Following f) me x).0 out next later same
  ticked_frames (phases.Probing p) x out next later same = row_done_frames (aged (phases.Probing p) me x).1 (aged (phases.Probing p) me x).0 out next later same
  ticked_frames (phases.Electing e) x out next later same = row_done_frames (aged (phases.Electing e) me x).1 (aged (phases.Electing e) me x).0 out next later same

  shown_frames : (served : Bool) (part : Part State Seen) → Frames part → Frames (shown served part)
  shown_frames true part frames x out next later same = frames x out next later same
  shown_frames false part frames x out next later same = same seens.Nothing x out

  got_frames : (from : ℕ) (ballot : Epoch) (round : ℕ) (key : List ℕ) → Frames (got me from ballot round key)
  got_frames from ballot round key x out next later same =
      shown_frames (is_served x.fact x.trusted ballot) (looked key) (looked_frames key) x out
      (λ seen y o. row_done me (row_21 y.fact y.trusted from ballot round key seen) y o next)
      (λ seen y o. row_done me (row_21 y.fact y.trusted from ballot round key seen) y o later)
      (λ seen y o. row_done_frames (row_21 y.fact y.trusted from ballot round key seen) y o next later same)

  put_done_frames : (turn : Then) (from : ℕ) (ballot : Epoch) (o : Object) (row : PhaseOut) → Frames (put_done turn me from ballot o row)
  put_done_frames thens.Put from ballot o row x out next later same =
      written_frames o x out (λ seen y p. row_done me (after_put from ballot row seen) y p next) (λ seen y p. row_done me (after_put from ballot row seen) y p later)
      (λ seen y p. row_done_frames (after_put from ballot row seen) y p next later same)
  put_done_frames other from ballot o row x out next later same = row_done_frames row x out next later same

  put_in_frames : (from : ℕ) (ballot : Epoch) (o : Object) → Frames (put_in me from ballot o)
  put_in_frames from ballot o x out next later same =
      shown_frames (is_served x.fact x.trusted ballot) (found o.key) (found_frames o.key) x out
      (λ seen y p. put_done (row_22 y.fact y.trusted from ballot o seen).then me from ballot o (row_22 y.fact y.trusted from ballot o seen) y p next)
      (λ seen y p. put_done (row_22 y.fact y.trusted from ballot o seen).then me from ballot o (row_22 y.fact y.trusted from ballot o seen) y p later)
      (λ seen y p. put_done_frames (row_22 y.fact y.trusted from ballot o seen).then from ballot o (row_22 y.fact y.trusted from ballot o seen) y p next later same)

  get_replied_frames : (from : ℕ) (ballot : Epoch) (round : ℕ) (key : List ℕ) (entry : Option Entry) (object : Option Object) → Frames (get_replied me from ballot round key entry object)
  get_replied_frames from ballot round key entry object x out next later same =
      confirmed_frames entry object x out
      (λ named y o. lead (row_29_reply from ballot round key entry named) me y.phase y o next)
      (λ named y o. lead (row_29_reply from ballot round key entry named) me y.phase y o later)
      (λ named y o. lead_frames (row_29_reply from ballot round key entry named) y.phase y o next later same)

  shown_node_frames : (tree : TreeVersion) (answered : Bool) (q : Question) → Frames (shown_node tree answered q)
  shown_node_frames tree true q x out next later same =
      asked_frames (ReadNode q.position) x out (λ walked y o. next (Some (body_of tree q walked)) y o) (λ walked y o. later (Some (body_of tree q walked)) y o) (λ walked y o. same (Some (body_of tree q walked)) y o)
  shown_node_frames tree false q x out next later same = same None x out

  got_ask_frames : (from : ℕ) (ballot : Epoch) (q : Question) → Frames (got_ask me from ballot q)
  got_ask_frames from ballot q x out next later same =
      shown_node_frames x.mode.tree (is_same ballot x.fact.ballot) q x out
      (λ body y o. row_done me (row_23 y.fact y.trusted from ballot q.position q.after body) y o next)
      (λ body y o. row_done me (row_23 y.fact y.trusted from ballot q.position q.after body) y o later)
      (λ body y o. row_done_frames (row_23 y.fact y.trusted from ballot q.position q.after body) y o next later same)

  own_node_frames : (needed : Bool) (at : Position) → Frames (own_node needed at)
  own_node_frames true at x out next later same =
      asked_frames (ReadNode at) x out (λ walked y o. next (reached walked) y o) (λ walked y o. later (reached walked) y o) (λ walked y o. same (reached walked) y o)
  own_node_frames false at x out next later same = same None x out

  take_give_frames : (tree : TreeVersion) (from : ℕ) (give : Give) (own : Option (List ℕ)) (running : Option Running) → Frames (take_give tree me from give own running)
  take_give_frames tree from give own None x out next later same = same [] x out
  take_give_frames tree from give own (Some r) x out next later same = go_on_frames (row_take tree from give own r) x out next later same

  tree_give_frames : (from : ℕ) (give : Give) → Frames (tree_give me from give)
  tree_give_frames from give x out next later same =
      own_node_frames (needs_node x.mode.tree from give x.sync) give.question.position x out
      (λ own y o. take_give x.mode.tree me from give own y.sync y o next) (λ own y o. take_give x.mode.tree me from give own y.sync y o later)
      (λ own y o. take_give_frames x.mode.tree from give own y.sync y o next later same)

  in_tree_frames : (has : Bool) (part : Part State (List Task)) → Frames part → Frames (in_tree has part)
  in_tree_frames true part frames x out next later same = frames x out next later same
  in_tree_frames false part frames x out next later same = same [] x out

  delivered_frames : (from : ℕ) (message : Message) → Frames (delivered me from message)
  delivered_frames from (messages.Get ballot round key) x out next later same = got_frames from ballot round key x out next later same
  delivered_frames from (messages.Put ballot o) x out next later same = put_in_frames from ballot o x out next later same
  delivered_frames from (messages.GetReply ballot round key entry object) x out next later same =
      if_same (leads x.phase) _ _ _ _ (get_replied_frames from ballot round key entry object x out next later same) (same [] x out)
  delivered_frames from (messages.PutReply ballot key version) x out next later same = lead_frames (row_35_reply from ballot key version) x.phase x out next later same
  delivered_frames from (messages.CheckReply ballot round) x out next later same = lead_frames (row_33_reply from ballot round) x.phase x out next later same
  delivered_frames from (messages.TreeAsk ballot at after) x out next later same =
      let q : Question = record { position = at; after = after } in
      in_tree_frames (has_position x.mode.tree at) (got_ask me from ballot q) (got_ask_frames from ballot q) x out next later same
  delivered_frames from (messages.TreeGive ballot at after trusted body) x out next later same =
      let give : Give = record { ballot = ballot; question = record { position = at; after = after }; trusted = trusted; body = body } in
      in_tree_frames (has_position x.mode.tree at) (tree_give me from give) (tree_give_frames from give) x out next later same
  delivered_frames from message x out next later same = row_done_frames (received me from message x).1 (received me from message x).0 out next later same

  called_frames : (call : CallIn) → Frames (called me call)
  called_frames call x out next later same =
      if_same (leads x.phase) _ _ _ _ (lead_frames (row_27 call.from call.id call.key call.command (changes x.phase)) x.phase x out next later same)
      (rw (answers_after out (unavailable call ∷ [])) (same [] x (and_answers out (unavailable call ∷ []))))

  first_frames : (event : Event) → Frames (first me event)
  first_frames (events.Deliver from message) x out next later same = delivered_frames from message x out next later same
  first_frames events.Tick x out next later same = ticked_frames x.phase x out next later same
  first_frames (events.Call call) x out next later same = called_frames call x out next later same
  first_frames (events.Change view) x out next later same =
      rw (change_after out (asked_change view x).1.1) (row_done_frames (asked_change view x).1.0 (asked_change view x).0 (and_change out (asked_change view x).1.1) next later same)

  -- what follows a row, until no task is left
  abbrev onward : Rest State (Unit {0}) → Rest State (List Task)
  onward next ts y o = driven me most_turns ts y o (λ rest z q. next tt z q)

  onward_same : (next later : Rest State (Unit {0})) → Same next later → Same (onward next) (onward later)
  onward_same next later same ts y o = driven_frames most_turns ts y o (λ rest z q. next tt z q) (λ rest z q. later tt z q) (λ rest z q. same tt z q)

  responded_frames : (event : Event) → Frames (responded me event)
  responded_frames event x out next later same = first_frames event x out (onward next) (onward later) (onward_same next later same)

  concluded_frames : Frames (concluded me)
  concluded_frames x out next later same = task_done_frames (tasks.Phase phase_rules.EndEpoch) x out (onward next) (onward later) (onward_same next later same)

  whole_frames : (event : Event) → Frames (whole me event)
  whole_frames event x out next later same =
      responded_frames event x out (λ u y o. concluded me y o next) (λ u y o. concluded me y o later) (λ u y o. concluded_frames y o next later same)

  whole_framed : (event : Event) (x : State) → whole me event x a (λ u y o. Done y o) ≡ framed a (step_of me event x)
  whole_framed event x =
      ap (λ k. whole me event x k (λ u y o. Done y o)) (sym (added_nothing a)) ∙ whole_frames event x nothing (λ u y o. Done y o) (λ u y o. Done y o) (λ u y o. refl)

module _ {P : Type 0} (does : P → (call : Call) → AnswerOf call → P → Type 0) (refuses : P → Call → PeerError → P → Type 0) (me : ℕ) (event : Event) (x y : State) (s t : P) (o p : Outbox) where
  abbrev before : Spot State P
  before = record { state = x; out = out_of o; stores = s; notes = o.notes.items }

  abbrev after : Spot State P
  after = record { state = y; out = out_of p; stores = t; notes = p.notes.items }

  -- a step that ended well, in the outbox of the caller
  pub has_finished : Did does refuses (whole me event) before (Ok tt) after → HasFinished does refuses (step_of me event x) s o y t p
  has_finished did =
      let ran = did (λ u z q. Done z q) (Finished y (out_of p)) t p.notes.items (inr (refl, refl, refl)) in
      let split = finished_framed does refuses (out_of o) (step_of me event x) s o.notes.items y (out_of p) t p.notes.items
      (subst (λ k. Runs does refuses k s o.notes.items (Finished y (out_of p)) t p.notes.items) (whole_framed me (out_of o) event x) ran) in
      record { out = split.0; ran = split.2; sends = ap (λ k. k.sends) split.1; answers = ap (λ k. k.answers) split.1; changes = ap (λ k. k.changes) split.1 }

  -- a step that an error stopped
  pub has_stopped : (e : PeerError) → Did {A = Unit {0}} does refuses (whole me event) before (Err e) after → Runs does refuses (step_of me event x) s o.notes.items (Stopped e) t p.notes.items
  has_stopped e did =
      stopped_framed does refuses (out_of o) (step_of me event x) s o.notes.items e t p.notes.items
      (subst (λ k. Runs does refuses k s o.notes.items (Stopped e) t p.notes.items) (whole_framed me (out_of o) event x) (did (λ u z q. Done z q)))
