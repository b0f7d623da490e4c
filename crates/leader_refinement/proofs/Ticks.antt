-- Rule 5 is a move of the theory: the calls that are due leave their queues and are answered.
use Rattle.std.specs.Prelude.{map}
use Rattle.std.proofs.Common.{◌≡◌, ◌⊎◌, inl, inr, ℕ, ◌||◌, Bool, true, false, cond, filter, if◌then◌else◌, List, [], ◌∷◌, ◌++◌, Option, Some, None, refl, sym, ap, subst, ◌∙◌}
use Rattle.std.proofs.lemmas.Bool.{or_parts}
use Rattle.ens_base.specs.Lists.{◌∈◌, same_bytes}
use Rattle.protocol_laws.specs.Book.{Book}
use Rattle.protocol_laws.specs.Numbers.{epoch_number}
use Rattle.protocol_laws.specs.Protocol.{State, Step, IsRun, state_after}
use Rattle.call_table.specs.Calls.{running, older, is_due, not_due, due}
use Rattle.call_table.specs.Rows.{row_at, has_put}
use Rattle.call_table.specs.Tables.{without_due, late_put}
use Rattle.call_table.specs.declared.row.KeyRow.{KeyRow}
use Rattle.call_table.specs.declared.row.Known.{Known}
use Rattle.call_table.specs.declared.row.Stage.{Stage}
use Rattle.call_table.specs.declared.row.Stage.TheVariants as stages
use Rattle.call_table.specs.declared.table.CallTable.{CallTable}
use Rattle.call_table.specs.declared.waiting.Waiting.{Waiting}
use Rattle.leader_output.specs.Outs.{comes, leaves}
use Rattle.leader_output.specs.declared.out.AnswerOut.{AnswerOut}
use Rattle.leader_output.specs.declared.out.LeadOut.{LeadOut}
use Rattle.phase_rows.specs.declared.phase.Then.TheVariants.{OnKeys}
use Rattle.phase_rows.specs.declared.rules.KeyRule.TheVariants as key_rules
use Rattle.leader_laws.specs.Steps.{IsCalm}
use Rattle.leader.specs.Ticks.{Finishing, is_late, timed_out, aged, row_5_calls, left_answer}
use Rattle.leader.specs.declared.leader.Leader.{Leader}
use Rattle.leader.specs.declared.pending.Pending.{Pending}
use Rattle.leader.specs.declared.pending.Pending.TheVariants as tasks
use Rattle.leader_laws.proofs.TimeOuts.{IsTick, row_5_ticks, without_due_calls as calls_left}
use Rattle.role_laws.proofs.Acts.{reading_began, checking_began, began_ends}
use Rattle.role_laws.proofs.Tables.{leader_same}
use Rattle.role_laws.proofs.Turns.{leader_leaves}
use Rattle.role_laws.specs.Leaders.{CallHolds, RowHolds, LeaderHolds}
use Rattle.role_laws.specs.Tables as theory
use Rattle.role_laws.specs.Tables.{Ghosts, Owed, Seat, calls_owed, timeouts}
use Rattle.leader_refinement.proofs.Base.{IsSplit, calls_split, begins, no_move}
use Rattle.leader_refinement.proofs.Leaving.{running_calls, ids_distinct, ids_among, owed_timeouts, no_task_on, keys_alike}
use Rattle.leader_refinement.proofs.Resting.{idle_if, row_left, named_idle, due_has_no_put}
use Rattle.leader_refinement.proofs.Staying.{IsFewer, fewer_both, filtered, stays_or_due, one_of_all, is_due_call, RunsOn, young_runs, due_runs}
use Rattle.leader_refinement.specs.Seen.{known_of, voters, best_rank, best_object, stage_of, running_stage, ids_on, ids_of, waiting_behind, row_parts, row_seen, task_on, table_of, owed_after}
use Rattle.leader_refinement.specs.Follows.{Hash, RowFits, CallsAgree, LeaderFits, IsAtWork, Ends, TimesOut}
use Rattle.leader_refinement.specs.Laws.{TicksPass, LeadersAreSeen}

-- ## Ages

older_stage : (key : List ℕ) (task : Pending) (stage : Stage) (calls : List Waiting) → running_stage (running key calls) task stage ≡ running_stage (running key (map older calls)) task stage
older_stage key task stage [] = refl
older_stage key task stage (w ∷ ws) = by_key (same_bytes w.key key) (older_stage key task stage ws)
  where
    by_key : (b : Bool) → running_stage (running key ws) task stage ≡ running_stage (running key (map older ws)) task stage → running_stage (cond b (Some w) (running key ws)) task stage ≡ running_stage (cond b (Some (older w)) (running key (map older ws))) task stage
    by_key true later = refl
    by_key false later = later

older_on : (key : List ℕ) (calls : List Waiting) → ids_on key calls ≡ ids_on key (map older calls)
older_on key [] = refl
older_on key (w ∷ ws) = ap (λ (ids : List ℕ). cond (same_bytes w.key key) (w.id ∷ ids) ids) (older_on key ws)

older_behind : (key : List ℕ) (calls : List Waiting) → waiting_behind key calls ≡ waiting_behind key (map older calls)
older_behind key [] = refl
older_behind key (w ∷ ws) = by_key (same_bytes w.key key) (older_behind key ws)
  where
    by_key : (b : Bool) → waiting_behind key ws ≡ waiting_behind key (map older ws) → cond b (ids_on key ws) (waiting_behind key ws) ≡ cond b (ids_on key (map older ws)) (waiting_behind key (map older ws))
    by_key true later = older_on key ws
    by_key false later = later

older_answers : (calls : List Waiting) → map left_answer (map older calls) ≡ map left_answer calls
older_answers [] = refl
older_answers (w ∷ ws) = ap (λ (answers : List AnswerOut). left_answer w ∷ answers) (older_answers ws)

ages_alike : (key : List ℕ) (owed : List Owed) (l : Leader) (j : List ℕ) → (table_of key owed l).rows j ≡ (table_of key owed (record l { table = aged l.table })).rows j
ages_alike key owed l j = same_row (running_stage (running j l.table.calls) (task_on key l.task j) (row_at j l.table.rows).stage) (running_stage (running j (map older l.table.calls)) (task_on key l.task j) (row_at j l.table.rows).stage) (waiting_behind j l.table.calls) (waiting_behind j (map older l.table.calls))
    (older_stage j (task_on key l.task j) (row_at j l.table.rows).stage l.table.calls) (older_behind j l.table.calls)
  where
    same_row : (a b : theory.Stage) (xs ys : List ℕ) → a ≡ b → xs ≡ ys → theory.row_of (known_of (row_at j l.table.rows).known) a xs ≡ theory.row_of (known_of (row_at j l.table.rows).known) b ys
    same_row a b xs ys e f = rw (e, f) refl

pub seen_alike : LeadersAreSeen
seen_alike key owed l = record { ages = ages_alike key owed l; keys = λ k j free. keys_alike key k owed l free j }

-- ## One row

abbrev seat_of : ℕ → List Owed → Seat
seat_of me owed = record { peer = me; owed = owed }

in_owed : (o : List Owed) (is : List ℕ) (i : ℕ) → i ∈ calls_owed (o ++ timeouts is) → (i ∈ calls_owed o) ⊎ (i ∈ is)
in_owed [] [] i m = absurd m
in_owed [] (x ∷ is) i (inl e) = inr (inl e)
in_owed [] (x ∷ is) i (inr m) = by_rest (in_owed [] is i m)
  where
    by_rest : ⊥ ⊎ (i ∈ is) → ⊥ ⊎ ((i ≡ x) ⊎ (i ∈ is))
    by_rest (inl n) = absurd n
    by_rest (inr n) = inr (inr n)
in_owed (a ∷ o) is i (inl e) = inl (inl e)
in_owed (a ∷ o) is i (inr m) = by_rest (in_owed o is i m)
  where
    by_rest : (i ∈ calls_owed o) ⊎ (i ∈ is) → ((i ≡ a.call) ⊎ (i ∈ calls_owed o)) ⊎ (i ∈ is)
    by_rest (inl n) = inl (inr n)
    by_rest (inr n) = inr n

fewer_running : (stage : theory.Stage) (less rest : List ℕ) → IsFewer less rest → IsFewer (theory.with_running stage less) (theory.with_running stage rest)
fewer_running theory.Idle less rest fewer = fewer
fewer_running (theory.Begun i) less rest fewer = fewer_both i less rest fewer
fewer_running (theory.Reading i r replied best object) less rest fewer = fewer_both i less rest fewer
fewer_running (theory.Sure i) less rest fewer = fewer_both i less rest fewer
fewer_running (theory.Checking i r replied reply) less rest fewer = fewer_both i less rest fewer
fewer_running (theory.Writing i v x acks) less rest fewer = fewer_both i less rest fewer
fewer_running (theory.Rewriting i v x acks) less rest fewer = fewer_both i less rest fewer

module _ (g : Ghosts) (s : State) (me : ℕ) (owed : List Owed) (d : ℕ) (key : List ℕ) (known : Known) where
  abbrev Row : List Owed → theory.Stage → List ℕ → Type 0
  Row o stage rest = RowHolds g s (seat_of me o) d key (theory.row_of (known_of known) stage rest)

  -- the row with fewer calls that wait, once timeouts are owed to calls that it has no more
  fewer_wait : (is : List ℕ) (stage : theory.Stage) (less rest : List ℕ) → IsFewer less rest → ((i : ℕ) → i ∈ theory.with_running stage less → i ∈ is → ⊥) → Row owed stage rest → Row (owed ++ timeouts is) stage less
  fewer_wait is stage less rest fewer free row = record { known = row.known; stage = row.stage; calls = λ i m. call i m (row.calls i (all.among i m)); waiting = λ i m. row.waiting i (fewer.among i m); distinct = all.distinct row.distinct }
    where
      all : IsFewer (theory.with_running stage less) (theory.with_running stage rest)
      all = fewer_running stage less rest fewer

      call : (i : ℕ) → i ∈ theory.with_running stage less → CallHolds g s (seat_of me owed) d key i → CallHolds g s (seat_of me (owed ++ timeouts is)) d key i
      call i m a = record { called = a.called; on_key = a.on_key; home = a.home; free = λ n. by_owed (in_owed owed is i n); later = a.later; unanswered = a.unanswered; unnoted = a.unnoted }
        where
          by_owed : (i ∈ calls_owed owed) ⊎ (i ∈ is) → ⊥
          by_owed (inl n) = a.free n
          by_owed (inr n) = free i m n

  -- without a put the running call has what a call that began has
  stage_began : (stage : Stage) (i : ℕ) (rest : List ℕ) → has_put stage ≡ false → Row owed (stage_of stage i) rest → Row owed (theory.Begun i) rest
  stage_began stages.Idle i rest free row = row
  stage_began (stages.Reading round heard best) i rest free row = reading_began g s (seat_of me owed) d key (known_of known) rest i round (voters heard) (best_rank best) (best_object best) row
  stage_began (stages.Checking round heard reply) i rest free row = checking_began g s (seat_of me owed) d key (known_of known) rest i round (voters heard) reply row
  stage_began (stages.Putting o digest acks rewrite) i rest free row = absurd cc

  module _ (is : List ℕ) (calls : List Waiting) (stage : Stage) (free : (i : ℕ) → i ∈ ids_on key (not_due calls) → i ∈ is → ⊥) where
    -- the running call, if any, stays
    row_stays : is_due_call (running key calls) ≡ false → RowHolds g s (seat_of me owed) d key (row_parts known (running key calls) tasks.Nothing stage (waiting_behind key calls))
        → RowHolds g s (seat_of me (owed ++ timeouts is)) d key (row_parts known (running key (not_due calls)) tasks.Nothing stage (waiting_behind key (not_due calls)))
    row_stays young row = subst (λ (call : Option Waiting). RowHolds g s (seat_of me (owed ++ timeouts is)) d key (row_parts known call tasks.Nothing stage (waiting_behind key (not_due calls)))) (sym runs.running_is)
        (fewer_wait is (running_stage (running key calls) tasks.Nothing stage) (waiting_behind key (not_due calls)) (waiting_behind key calls) runs.waiting (λ i m. free i (subst (λ (ids : List ℕ). i ∈ ids) same m)) row)
      where
        runs : RunsOn key calls (not_due calls)
        runs = young_runs key calls young

        same : theory.with_running (running_stage (running key calls) tasks.Nothing stage) (waiting_behind key (not_due calls)) ≡ ids_on key (not_due calls)
        same = running_calls (running key calls) tasks.Nothing stage (ids_on key (not_due calls)) (waiting_behind key (not_due calls))
            (subst (λ (call : Option Waiting). IsSplit call (ids_on key (not_due calls)) (waiting_behind key (not_due calls))) runs.running_is (calls_split key (not_due calls)))

    -- the running call is answered: its stage has no put, and the next call begins
    row_rests : has_put stage ≡ false → is_due_call (running key calls) ≡ true → RowHolds g s (seat_of me owed) d key (row_parts known (running key calls) tasks.Nothing stage (waiting_behind key calls))
        → RowHolds g s (seat_of me (owed ++ timeouts is)) d key (row_parts known (running key (not_due calls)) tasks.Nothing stages.Idle (waiting_behind key (not_due calls)))
    row_rests unput due row = begins g s (seat_of me (owed ++ timeouts is)) d key known (running key (not_due calls)) (ids_on key (not_due calls)) (waiting_behind key (not_due calls)) (calls_split key (not_due calls))
        (fewer_wait is theory.Idle (ids_on key (not_due calls)) (waiting_behind key calls) (due_runs key calls due) free (by_call (running key calls) due row))
      where
        by_call : (call : Option Waiting) → is_due_call call ≡ true → RowHolds g s (seat_of me owed) d key (row_parts known call tasks.Nothing stage (waiting_behind key calls)) → Row owed theory.Idle (waiting_behind key calls)
        by_call None due row = absurd cc
        by_call (Some w) due row = began_ends g s (seat_of me owed) d key (known_of known) (waiting_behind key calls) w.id (stage_began stage w.id (waiting_behind key calls) unput row)

    -- either way
    row_passes : (b : Bool) → is_due_call (running key calls) ≡ b → (is_due_call (running key calls) ≡ true → has_put stage ≡ false) → RowHolds g s (seat_of me owed) d key (row_parts known (running key calls) tasks.Nothing stage (waiting_behind key calls))
        → RowHolds g s (seat_of me (owed ++ timeouts is)) d key (row_parts known (running key (not_due calls)) tasks.Nothing (if b then stages.Idle else stage) (waiting_behind key (not_due calls)))
    row_passes true due unput row = row_rests (unput due) due row
    row_passes false young unput row = row_stays young row

-- ## All rows

row_of_left : (t : CallTable) (j : List ℕ) → row_seen tasks.Nothing j (without_due t) ≡ row_parts (row_at j t.rows).known (running j (not_due t.calls)) tasks.Nothing (if is_due_call (running j t.calls) then stages.Idle else (row_at j t.rows).stage) (waiting_behind j (not_due t.calls))
row_of_left t j =
    ap (λ (calls : List Waiting). row_parts (row_at j (without_due t).rows).known (running j calls) tasks.Nothing (row_at j (without_due t).rows).stage (waiting_behind j calls)) (calls_left t)
    ∙ ap (λ (row : KeyRow). row_parts row.known (running j (not_due t.calls)) tasks.Nothing row.stage (waiting_behind j (not_due t.calls))) (row_left j t)

-- the calls of the leader that are due
abbrev due_ids : Leader → List ℕ
due_ids l = ids_of (filter is_due l.table.calls)

module _ (g : Ghosts) (s : State) (key : List ℕ) (owed : List Owed) (l : Leader) (free : l.task ≡ tasks.Nothing) (early : late_put l.table ≡ false) (holds : LeaderHolds g s (table_of key owed l)) where
  row_now : (j : List ℕ) → RowHolds g s (seat_of l.me (owed ++ timeouts (due_ids l))) (epoch_number l.fact.epoch) j (row_seen (task_on key l.task j) j (without_due l.table))
  row_now j = subst (λ (task : Pending). RowHolds g s (seat_of l.me (owed ++ timeouts (due_ids l))) (epoch_number l.fact.epoch) j (row_seen task j (without_due l.table))) (sym (no_task_on key l.task j free))
      (subst (RowHolds g s (seat_of l.me (owed ++ timeouts (due_ids l))) (epoch_number l.fact.epoch) j) (sym (row_of_left l.table j))
      (row_passes g s l.me owed (epoch_number l.fact.epoch) j (row_at j l.table.rows).known (due_ids l) l.table.calls (row_at j l.table.rows).stage
      (λ i m n. stays_or_due l.table.calls (ids_distinct g s key owed l holds) i (one_of_all j (not_due l.table.calls) i m) n) (is_due_call (running j l.table.calls)) refl (due_has_no_put j l.table early)
      (subst (λ (task : Pending). RowHolds g s (seat_of l.me owed) (epoch_number l.fact.epoch) j (row_seen task j l.table)) (no_task_on key l.task j free) (holds.rows j))))

  -- the calls that are due have left their queues, and the others are as before
  pub due_leave : LeaderHolds g s (table_of key (owed ++ timeouts (due_ids l)) (record l { table = without_due l.table }))
  due_leave = record {
    led = holds.led;
    elected = holds.elected;
    established = holds.established;
    numbers = holds.numbers;
    rounds = holds.rounds;
    rows = row_now;
    owes = leader_leaves g s (table_of key owed l) (due_ids l) holds ((filtered is_due l.table.calls).distinct (ids_distinct g s key owed l holds)) (λ i m. ids_among g s key owed l holds i ((filtered is_due l.table.calls).among i m));
  }

-- ## What the program keeps

agree_older : (b : Book) (calls : List Waiting) → CallsAgree b calls → CallsAgree b (map older calls)
agree_older b [] agree = tt
agree_older b (w ∷ ws) agree = (agree.0, agree_older b ws agree.1)

agree_filtered : (b : Book) (test : Waiting → Bool) (calls : List Waiting) → CallsAgree b calls → CallsAgree b (filter test calls)
agree_filtered b test [] agree = tt
agree_filtered b test (w ∷ ws) agree = by_test (test w) (agree_filtered b test ws agree.1)
  where
    by_test : (t : Bool) → CallsAgree b (filter test ws) → CallsAgree b (cond t (w ∷ filter test ws) (filter test ws))
    by_test true later = (agree.0, later)
    by_test false later = later

idle_fits : (hash : Hash) (views : List (List ℕ)) (key : List ℕ) (b : Bool) (row : KeyRow) → RowFits hash views key row → RowFits hash views key (idle_if b row)
idle_fits hash views key true row fits = (fits.0, tt)
idle_fits hash views key false row fits = fits

left_fits : (hash : Hash) (s : State) (l : Leader) → IsCalm (without_due (aged l.table)) → LeaderFits hash s l → LeaderFits hash s (record l { table = without_due (aged l.table) })
left_fits hash s l calm fits = record {
  epoch = fits.epoch;
  seq = fits.seq;
  views = fits.views;
  rows = λ j. subst (RowFits hash l.fact.views j) (sym (row_left j (aged l.table))) (idle_fits hash l.fact.views j (is_due_call (running j (map older l.table.calls))) (row_at j l.table.rows) (fits.rows j));
  calls = subst (CallsAgree s.book) (sym (calls_left (aged l.table))) (agree_filtered s.book _ (map older l.table.calls) (agree_older s.book l.table.calls fits.calls));
  calm = calm;
}

-- ## Rule 5

module _ (g : Ghosts) (s : State) (key : List ℕ) (owed : List Owed) (l : Leader) (work : IsAtWork g s key owed l) (free : l.task ≡ tasks.Nothing) where
  abbrev Left : Leader
  Left = record l { table = without_due (aged l.table) }

  abbrev Out : LeadOut
  Out = timed_out (due (map older l.table.calls)) (comes (OnKeys key_rules.StartNextCall))

  holds_aged : LeaderHolds g s (table_of key owed (record l { table = aged l.table }))
  holds_aged = leader_same g s (table_of key owed l) (table_of key owed (record l { table = aged l.table })).rows (ages_alike key owed l) work.holds

  times_out : late_put (aged l.table) ≡ false → IsTick false l (record l { table = without_due (aged l.table) }, timed_out (due (map older l.table.calls)) (comes (OnKeys key_rules.StartNextCall))) → TimesOut g s owed l (record l { table = without_due (aged l.table) }, timed_out (due (map older l.table.calls)) (comes (OnKeys key_rules.StartNextCall)))
  times_out early tick = record {
    move = λ k. no_move g s (table_of k (owed_after owed Out.answers) Left) (leader_same g s (table_of key (owed_after owed Out.answers) Left) (table_of k (owed_after owed Out.answers) Left).rows (keys_alike key k (owed_after owed Out.answers) Left free) here);
    fits = left_fits g.hash s l (tick.calm work.fits.calm) work.fits;
    same = (refl, (refl, refl));
    task = free;
    notes = tick.notes;
    sends = tick.sends;
    own = tick.own;
    next = tick.next;
    ready = λ k m. named_idle (comes (OnKeys key_rules.StartNextCall)) (aged l.table) k (λ n. n) m;
  }
    where
      here : LeaderHolds g s (table_of key (owed_after owed Out.answers) Left)
      here = subst (λ (o : List Owed). LeaderHolds g s (table_of key o Left)) (sym (ap (owed_after owed) tick.timely.answers ∙ owed_timeouts owed (filter is_due (map older l.table.calls))))
          (due_leave g s key owed (record l { table = aged l.table }) free early holds_aged)

  by_late : (b : Bool) → (late_put (aged l.table) ≡ false → IsTick false l (Left, Out) → TimesOut g s owed l (Left, Out)) → ((b ≡ false) → late_put (aged l.table) ≡ false)
      → IsTick b l (if b then (record l { table = aged l.table }, leaves) else (Left, Out)) → Ends l (if b then (record l { table = aged l.table }, leaves) else (Left, Out)) ⊎ TimesOut g s owed l (if b then (record l { table = aged l.table }, leaves) else (Left, Out))
  by_late true later early tick = inl (record { why = inl refl; calls = older_answers l.table.calls; same = (refl, (refl, refl)) })
  by_late false later early tick = inr (later (early refl) tick)

  ticks_so : (finishing : Finishing) → Ends l (row_5_calls finishing l) ⊎ TimesOut g s owed l (row_5_calls finishing l)
  ticks_so finishing = by_late (late_put (aged l.table) || is_late finishing) times_out (λ e. (or_parts (late_put (aged l.table)) (is_late finishing) e).0) (row_5_ticks finishing l)

pub run_ticks : (view : List ℕ) (steps : List Step) → IsRun view steps → TicksPass (state_after view steps)
run_ticks view steps run g key owed l finishing work free = ticks_so g (state_after view steps) key owed l work free finishing
