-- A tick of a leader: calls that are due are answered, and the next calls of their keys are looked for.
use Rattle.std.specs.Prelude.{All}
use Rattle.std.proofs.Common.{◌≡◌, ◌⊎◌, inl, inr, ℕ, ◌+◌, ◌==◌, ◌||◌, Bool, true, false, if◌then◌else◌, List, [], ◌∷◌, ◌++◌, append_assoc, append-nil, arith, Option, Some, None, refl, sym, ap, subst, ◌∙◌}
use Rattle.std.proofs.lemmas.Bool.{true≢false}
use Rattle.std.proofs.lemmas.Bool.Decides.{nat_tests}
use Rattle.std.proofs.lemmas.List.Elements.{All-nil}
use Rattle.election_refinement.proofs.Changes.{older_holds}
use Rattle.election_refinement.proofs.Listed.{listed_calls}
use Rattle.election_refinement.proofs.Tests.{by_test}
use Rattle.election_refinement.specs.Refinement.{IsLeading}
use Rattle.ens_base.proofs.Lists.{bytes_same, bytes_itself}
use Rattle.ens_base.specs.Lists.{◌∈◌, same_bytes}
use Rattle.protocol_laws.specs.Protocol.{State}
use Rattle.call_table.specs.Calls.{is_due, key_if_running, due_after, due, waiting_on, running}
use Rattle.call_table.specs.Rows.{row_at}
use Rattle.call_table.specs.Tables.{late_put, without_due}
use Rattle.call_table.specs.declared.row.Stage.TheVariants as stages
use Rattle.call_table.specs.declared.waiting.DueCall.{DueCall}
use Rattle.call_table.specs.declared.waiting.Waiting.{Waiting}
use Rattle.ens_base.specs.declared.reply.Reply.TheVariants as replies
use Rattle.peer_refinement.specs.WorldSpec.{Held}
use Rattle.role_laws.specs.Tables.{Ghosts, Owed}
use Rattle.leader_refinement.proofs.Ticks.{run_ticks}
use Rattle.leader_refinement.specs.Follows.{Ends as LeaderEnds, TimesOut, SentSays, TaskHolds}
use Rattle.leader_refinement.specs.Seen.{owed_after}
use Rattle.leader_output.specs.Outs.{comes, leaves, and_answer}
use Rattle.leader_output.specs.declared.out.LeadOut.{LeadOut}
use Rattle.leader.specs.Ticks.{Finishing, is_late, aged, timed_out, and_key_if, row_5_calls}
use Rattle.leader.specs.declared.leader.Leader.{Leader}
use Rattle.leader.specs.declared.pending.Pending.{Pending}
use Rattle.leader.specs.declared.pending.Pending.TheVariants as pendings
use Rattle.peer_spec.specs.Drives.{lead_done, led_in}
use Rattle.peer_state.specs.Leading.{older, end_of}
use Rattle.peer_state.specs.Moves.{and_answers, leading, with_leader, turned, turned_answers}
use Rattle.peer_spec.specs.Syncs.{and_sends}
use Rattle.peer_state.specs.declared.state.Leadership.{Leadership}
use Rattle.peer_state.specs.declared.state.Phase.TheVariants as phases
use Rattle.peer_state.specs.declared.state.State.{State as PeerState}
use Rattle.register_model.specs.declared.note.Note.{Note}
use Rattle.step_plans.specs.Plans.{Out, Rest}
use Rattle.step_plans.specs.Tasks.{keyed}
use Rattle.step_plans.specs.declared.tasks.Task.{Task}
use Rattle.step_plans.specs.declared.tasks.Task.TheVariants as tasks
use Rattle.phase_rows.specs.declared.phase.Then.{Then}
use Rattle.phase_rows.specs.declared.phase.Then.TheVariants.{Stay, OnKeys}
use Rattle.phase_rows.specs.declared.rules.KeyRule.TheVariants as key_rules
use Rattle.step_refinement.proofs.CallByCall.{Ends, Onward}
use Rattle.step_refinement.specs.Scenes.{Scene, now, Here, AtRest}
use Rattle.step_refinement.proofs.LeadersAtWork.{at_work, moved_here}
use Rattle.step_refinement.proofs.LeaderPlans.{leave_ends, stays_plan, stays_on}
use Rattle.step_refinement.proofs.LeaderOutcomes.{IsCalmOut, IsTame, tame_5}
use Rattle.step_refinement.proofs.LeaderTasks.{ArePhases, AreApart, AreIdle, phases_idle, phases_apart, TasksFit}

-- ## The keys of due calls

-- one more key, if there is one
abbrev pub key_or_none : Option (List ℕ) → List (List ℕ) → List (List ℕ)
key_or_none None keys = keys
key_or_none (Some key) keys = key ∷ keys

-- the keys whose running calls are among these
abbrev pub keys_due : List DueCall → List (List ℕ)
keys_due [] = []
keys_due (d ∷ ds) = key_or_none d.running (keys_due ds)

timed_keys : (ds : List DueCall) (o : LeadOut) → (timed_out ds o).keys ≡ o.keys ++ keys_due ds
timed_keys [] o = sym (append-nil o.keys)
timed_keys (d ∷ ds) o = by_key d.running (and_answer d.from d.id replies.Timeout o) (timed_keys ds)
  where
    by_key : (key : Option (List ℕ)) (q : LeadOut) → ((more : LeadOut) → (timed_out ds more).keys ≡ more.keys ++ keys_due ds) → (timed_out ds (and_key_if key q)).keys ≡ q.keys ++ key_or_none key (keys_due ds)
    by_key None q rest = rest q
    by_key (Some key) q rest = rest (and_key_if (Some key) q) ∙ append_assoc q.keys (key ∷ []) (keys_due ds)

not_none : (n : ℕ) → (n + 1 == 0) ≡ false
not_none n = grind (arith, nat_tests)

-- a call on a key more
waits_more : (key : List ℕ) (calls : List Waiting) (w : Waiting) → same_bytes w.key key ≡ true → (waiting_on key (calls ++ w ∷ []) == 0) ≡ false
waits_more key [] w on = rw on refl
waits_more key (v ∷ calls) w on = by_key (same_bytes v.key key) (waits_more key calls w on)
  where
    by_key : (b : Bool) → (waiting_on key (calls ++ w ∷ []) == 0) ≡ false → ((if b then waiting_on key (calls ++ w ∷ []) + 1 else waiting_on key (calls ++ w ∷ [])) == 0) ≡ false
    by_key true rest = not_none (waiting_on key (calls ++ w ∷ []))
    by_key false rest = rest

-- and it stays
waits_still : (key : List ℕ) (calls : List Waiting) (w : Waiting) → (waiting_on key calls == 0) ≡ false → (waiting_on key (calls ++ w ∷ []) == 0) ≡ false
waits_still key [] w some = absurd (true≢false some)
waits_still key (v ∷ calls) w some = by_key (same_bytes v.key key) some (waits_still key calls w)
  where
    by_key : (b : Bool) → ((if b then waiting_on key calls + 1 else waiting_on key calls) == 0) ≡ false → ((waiting_on key calls == 0) ≡ false → (waiting_on key (calls ++ w ∷ []) == 0) ≡ false)
        → ((if b then waiting_on key (calls ++ w ∷ []) + 1 else waiting_on key (calls ++ w ∷ [])) == 0) ≡ false
    by_key true some rest = not_none (waiting_on key (calls ++ w ∷ []))
    by_key false some rest = rest some

-- the tasks of these keys
abbrev pub key_tasks : List (List ℕ) → List Task → List Task
key_tasks keys ts = keyed (OnKeys key_rules.StartNextCall) keys ++ ts

-- a key with a call among those before is none of the keys that follow
apart_due : (key : List ℕ) (before calls : List Waiting) (ts : List Task) → AreApart key ts → (waiting_on key before == 0) ≡ false → AreApart key (key_tasks (keys_due (due_after before calls)) ts)
apart_due key before [] ts apart some = apart
apart_due key before (w ∷ ws) ts apart some = by_age (is_due w) (apart_due key (before ++ w ∷ []) ws ts apart (waits_still key before w some))
  where
    Later : Type 0
    Later = AreApart key (key_tasks (keys_due (due_after (before ++ w ∷ []) ws)) ts)

    other : (waiting_on w.key before == 0) ≡ true → (b : Bool) → same_bytes key w.key ≡ b → b ≡ false
    other first true is = absurd (true≢false (sym (subst (λ k. (waiting_on k before == 0) ≡ true) (sym (bytes_same key w.key is)) first) ∙ some))
    other first false is = refl

    by_first : (b : Bool) → (waiting_on w.key before == 0) ≡ b → Later → AreApart key (key_tasks (key_or_none (if b then Some w.key else None) (keys_due (due_after (before ++ w ∷ []) ws))) ts)
    by_first true is rest = (other is (same_bytes key w.key) refl, rest)
    by_first false is rest = rest

    by_age : (b : Bool) → Later → AreApart key (key_tasks (keys_due (if b then record { from = w.from; id = w.id; running = key_if_running before w } ∷ due_after (before ++ w ∷ []) ws else due_after (before ++ w ∷ []) ws)) ts)
    by_age true rest = by_first (waiting_on w.key before == 0) refl rest
    by_age false rest = rest

-- each of these keys is idle
abbrev pub EachIsIdle : Leader → List (List ℕ) → Type 0
EachIsIdle l keys = (key : List ℕ) → key ∈ keys → (row_at key l.table.rows).stage ≡ stages.Idle

-- the keys of the due calls that run are different, and idle if each is
idle_due : (l : Leader) (before calls : List Waiting) (ts : List Task) → ArePhases ts → EachIsIdle l (keys_due (due_after before calls)) → AreIdle l (key_tasks (keys_due (due_after before calls)) ts)
idle_due l before [] ts are ready = phases_idle l ts are
idle_due l before (w ∷ ws) ts are ready = by_age (is_due w) ready (idle_due l (before ++ w ∷ []) ws ts are)
  where
    later_keys : List (List ℕ)
    later_keys = keys_due (due_after (before ++ w ∷ []) ws)

    by_first : (b : Bool) → (waiting_on w.key before == 0) ≡ b → EachIsIdle l (key_or_none (if b then Some w.key else None) later_keys) → (EachIsIdle l later_keys → AreIdle l (key_tasks later_keys ts)) → AreIdle l (key_tasks (key_or_none (if b then Some w.key else None) later_keys) ts)
    by_first true is ready rest = (refl, (ready w.key (inl refl), (apart_due w.key (before ++ w ∷ []) ws ts (phases_apart w.key ts are) (waits_more w.key before w (bytes_itself w.key)), rest (λ key at. ready key (inr at)))))
    by_first false is ready rest = rest ready

    by_age : (b : Bool) → EachIsIdle l (keys_due (if b then record { from = w.from; id = w.id; running = key_if_running before w } ∷ due_after (before ++ w ∷ []) ws else due_after (before ++ w ∷ []) ws)) → (EachIsIdle l later_keys → AreIdle l (key_tasks later_keys ts))
        → AreIdle l (key_tasks (keys_due (if b then record { from = w.from; id = w.id; running = key_if_running before w } ∷ due_after (before ++ w ∷ []) ws else due_after (before ++ w ∷ []) ws)) ts)
    by_age true ready rest = by_first (waiting_on w.key before == 0) refl ready rest
    by_age false ready rest = rest ready

-- the tasks after the calls of a tick
abbrev pub IdlesAfter : List Task → Leader × LeadOut → Type 0
IdlesAfter ts r = r.1.then ≡ OnKeys key_rules.StartNextCall → EachIsIdle r.0 r.1.keys → AreIdle r.0 (key_tasks r.1.keys ts)

-- so are those of a tick
pub ticked_idle : (finishing : Finishing) (l : Leader) (ts : List Task) → ArePhases ts → IdlesAfter ts (row_5_calls finishing l)
ticked_idle finishing l ts are = by_test (IdlesAfter ts) (late_put (aged l.table) || is_late finishing) (record l { table = aged l.table }, leaves) (now, timed_out (due (aged l.table).calls) (comes (OnKeys key_rules.StartNextCall)))
    (λ late next ready. absurd (not_stay next))
    (λ on_time next ready. subst (λ keys. AreIdle now (key_tasks keys ts)) (sym (timed_keys (due (aged l.table).calls) (comes (OnKeys key_rules.StartNextCall))))
    (idle_due now [] (aged l.table).calls ts are (subst (EachIsIdle now) (timed_keys (due (aged l.table).calls) (comes (OnKeys key_rules.StartNextCall))) ready)))
  where
    now : Leader
    now = record l { table = without_due (aged l.table) }

    not_stay : Stay ≡ OnKeys key_rules.StartNextCall → ⊥
    not_stay e = cc

-- ## A tick

module _ (c : Scene) where
  open c use {view, strings, peer as p}

  module _ (key : List ℕ) {h : Held} {out : Out} {notes : List Note} (finishing : Finishing) (l : Leadership) (x : PeerState) (here : Here c key (leading l x) h out notes) (free : l.leader.task ≡ pendings.Nothing) (next mark : Rest PeerState (List Task)) (go : Onward c (TasksFit c) next mark) where
    abbrev s : State
    s = now c here.reached

    abbrev g : Ghosts
    g = here.reached.ghosts

    abbrev owes : List Owed
    owes = owed_after [] out.answers

    abbrev r : Leader × LeadOut
    r = row_5_calls finishing l.leader

    -- rule 5 (d) and (e) come after the keys
    abbrev later : Rest PeerState (List Task) → Rest PeerState (List Task)
    later rest ts y o = rest (ts ++ tasks.Remind ∷ []) y o

    timed_here : TimesOut g s owes l.leader r → IsCalmOut r.1 → Here c key (leading (with_leader r.0 l) x) h (and_sends (and_answers out r.1.answers) r.1.sends) (notes ++ r.1.notes)
    timed_here t calm = moved_here c l x here r [] g (t.move key) tt here.roles.turns t.fits t.same
        (subst (λ (task : Pending). TaskHolds s r.0 key (row_at key r.0.table.rows).known (running key r.0.table.calls) task) (sym t.task) tt)
        (subst (λ ns. s.book.notes ≡ s.book.notes ++ ns) (sym t.notes) (sym (append-nil s.book.notes)))
        (subst (All (SentSays g s)) (sym t.sends) (All-nil (SentSays g s))) calm.sends

    timed_ends : TimesOut g s owes l.leader r → IsCalmOut r.1 → Ends c (lead_done p r.1 (leading (with_leader r.0 l) x) out (later next)) (lead_done p r.1 (leading (with_leader r.0 l) x) out (later mark)) h notes
    timed_ends t calm = stays_plan c key l x r h out notes calm (later next) (later mark)
        (subst (λ (turn : Then). Ends c (later next (keyed turn r.1.keys) (turned p turn y) (turned_answers turn y told)) (later mark (keyed turn r.1.keys) (turned p turn y) (turned_answers turn y told)) h (notes ++ r.1.notes)) (sym t.next)
        (go (key_tasks r.1.keys (tasks.Remind ∷ [])) key y h told (notes ++ r.1.notes) (inl ((timed_here t calm, t.task), ticked_idle finishing l.leader (tasks.Remind ∷ []) tt t.next t.ready))))
      where
        y : PeerState
        y = leading (with_leader r.0 l) x

        told : Out
        told = and_sends (and_answers out r.1.answers) r.1.sends

    calls_end : Ends c (lead_done p r.1 (leading (with_leader r.0 l) x) out (later next)) (lead_done p r.1 (leading (with_leader r.0 l) x) out (later mark)) h notes
    calls_end = by_way (run_ticks view here.reached.steps here.reached.run g key owes l.leader finishing (at_work c l x here) free) (tame_5 finishing l.leader)
      where
        not_both : r.1 ≡ leaves → r.1.then ≡ OnKeys key_rules.StartNextCall → ⊥
        not_both is next = stay_not (sym (ap (λ (o : LeadOut). o.then) is) ∙ next)
          where
            stay_not : Stay ≡ OnKeys key_rules.StartNextCall → ⊥
            stay_not e = cc

        untrusts : IsCalmOut r.1 → LeaderEnds l.leader r → ⊥
        untrusts calm ends = stays_on c l x here r calm.leave calm.next ends

        by_way : LeaderEnds l.leader r ⊎ TimesOut g s owes l.leader r → IsTame r.1 → Ends c (lead_done p r.1 (leading (with_leader r.0 l) x) out (later next)) (lead_done p r.1 (leading (with_leader r.0 l) x) out (later mark)) h notes
        by_way (inl ends) (inl is) = leave_ends c l x here r (tasks.Remind ∷ []) is (inl ends) tt (later next) (later mark) (λ more k y q o ns there. go (more ++ tasks.Remind ∷ []) k y q o ns there)
        by_way (inl ends) (inr calm) = absurd (untrusts calm ends)
        by_way (inr t) (inl is) = absurd (not_both is t.next)
        by_way (inr t) (inr calm) = timed_ends t calm

  -- an ending epoch is one tick older
  abbrev aged_leadership : Leadership → Leadership
  aged_leadership l = record l { change = older l.change }

  older_here : (key : List ℕ) (l : Leadership) (x : PeerState) (h : Held) (out : Out) (notes : List Note) → Here c key (leading l x) h out notes → Here c key (leading (aged_leadership l) x) h out notes
  older_here key l x h out notes here = record {
    reached = here.reached;
    roles = here.roles;
    peer = record { saved = here.peer.saved; kept = here.peer.kept; phase = record { started = phase.started; established = phase.established; has = phase.has; change = older_holds (now c here.reached).objects.ledger x.fact l.change phase.change }; sync = here.peer.sync };
    listed = record { fact = here.listed.fact; phase = record { fact = here.listed.phase.fact; wish = (listed_calls here.listed.phase x.fact).wish; sees = here.listed.phase.sees }; sync = here.listed.sync };
    trust = here.trust;
    tree = here.tree;
    seal = here.seal;
    mode = here.mode;
    held = here.held;
    sync = here.sync;
    fits = here.fits;
    task = here.task;
    noted = here.noted;
    sends = here.sends;
    listed_sends = here.listed_sends;
    fits_sends = here.fits_sends;
  }
    where
      phase : IsLeading (now c here.reached).objects.ledger p x.fact l
      phase = here.peer.phase

  -- a tick of a leader, which steps down if a put or the end of its epoch is late
  pub led_tick : (key : List ℕ) (l : Leadership) (x : PeerState) (h : Held) (out : Out) (notes : List Note) → AtRest c key (leading l x) h out notes → (next mark : Rest PeerState (List Task)) → Onward c (TasksFit c) next mark
      → Ends c (led_in p (phases.Leading l) (leading l x) out next) (led_in p (phases.Leading l) (leading l x) out mark) h notes
  led_tick key l x h out notes rest next mark go = calls_end key (end_of (older l.change)) (aged_leadership l) x (older_here key l x h out notes rest.0) rest.1 next mark go
