-- What rule 5 keeps to: the calls that are late time out.
use Rattle.std.proofs.Common.{◌≡◌, ◌≤◌, ◌⊎◌, ◌+◌, ◌*◌, ◌==◌, ◌||◌, ◌∙◌, ap, sym, refl, subst, inl, inr, lit≤, ℕ, Bool, true, false, not, cond, length, map, filter, if◌then◌else◌, List, [], ◌∷◌, ◌++◌, append_assoc, append-nil, Option, Some, None, arith}
use Rattle.std.proofs.lemmas.List.{length-map}
use Rattle.ens_base.specs.Lists.{same_bytes}
use Rattle.ens_base.proofs.Lists.{bytes_same, bytes_itself}
use Rattle.ens_base.specs.declared.reply.Reply.TheVariants as replies
use Rattle.phase_rows.specs.declared.phase.Then.{Then}
use Rattle.phase_rows.specs.declared.phase.Then.TheVariants.{Stay, OnKeys}
use Rattle.phase_rows.specs.declared.rules.KeyRule.TheVariants as key_rules
use Rattle.call_table.specs.Calls.{running, waiting_on, older, is_due, not_due, due, due_after, key_if_running}
use Rattle.call_table.specs.Rows.{Rows, row_at}
use Rattle.call_table.specs.Tables.{rested, rested_if, rested_all, without_due, late_put}
use Rattle.call_table.specs.declared.row.KeyRow.{KeyRow}
use Rattle.call_table.specs.declared.row.Stage.{Stage}
use Rattle.call_table.specs.declared.row.Stage.TheVariants.{Idle}
use Rattle.call_table.specs.declared.table.CallTable.{CallTable}
use Rattle.call_table.specs.declared.waiting.DueCall.{DueCall}
use Rattle.call_table.specs.declared.waiting.Waiting.{Waiting}
use Rattle.leader_output.specs.Outs.{leaves, comes, and_answer, and_key}
use Rattle.leader_output.specs.declared.out.AnswerOut.{AnswerOut}
use Rattle.leader_output.specs.declared.out.LeadOut.{LeadOut}
use Rattle.leader_output.specs.declared.out.Own.{Own}
use Rattle.leader_laws.specs.Measure.{turns_next, turns_after, weight, task_turns}
use Rattle.leader_laws.specs.Steps.{IsCalm, IsTimely, CountsIn, CountsInOwnViews}
use Rattle.leader.specs.Ticks.{Finishing, is_late, and_key_if, timed_out, aged, row_5_calls, left_answer}
use Rattle.leader.specs.declared.leader.Leader.{Leader}
use Rattle.leader_laws.proofs.Lookups.{stage_other, stage_here, stages_then}

-- ## The calls that are due

-- the answer to a call that is due
abbrev due_answer : DueCall → AnswerOut
due_answer d = record { caller = d.from; id = d.id; reply = replies.Timeout }

abbrev key_list : Option (List ℕ) → List (List ℕ)
key_list None = []
key_list (Some key) = key ∷ []

-- the keys whose running call is among these
abbrev keys_of_due : List DueCall → List (List ℕ)
keys_of_due [] = []
keys_of_due (d ∷ ds) = key_list d.running ++ keys_of_due ds

few_keys : (ds : List DueCall) → length (keys_of_due ds) ≤ length ds
few_keys [] = lit≤ tt
few_keys (d ∷ ds) = by_key d.running (few_keys ds)
  where
    by_key : (key : Option (List ℕ)) → length (keys_of_due ds) ≤ length ds → length (key_list key ++ keys_of_due ds) ≤ length (d ∷ ds)
    by_key None rest = omega (arith, rest)
    by_key (Some key) rest = omega (arith, rest)

-- what the answers to these calls leave of an answer
record IsTimedOut (ds : List DueCall) (o p : LeadOut) : Type 0 where
  leave : p.leave ≡ o.leave
  sends : p.sends ≡ o.sends
  answers : p.answers ≡ o.answers ++ map due_answer ds
  notes : p.notes ≡ o.notes
  own : p.own ≡ o.own
  next : p.then ≡ o.then
  keys : p.keys ≡ o.keys ++ keys_of_due ds

times_out : (ds : List DueCall) (o : LeadOut) → IsTimedOut ds o (timed_out ds o)
times_out [] o = record { leave = refl; sends = refl; answers = sym (append-nil o.answers); notes = refl; own = refl; next = refl; keys = sym (append-nil o.keys) }
times_out (d ∷ ds) o = by_key d.running refl (times_out ds)
  where
    by_key : (key : Option (List ℕ)) → d.running ≡ key → ((p : LeadOut) → IsTimedOut ds p (timed_out ds p)) → IsTimedOut (d ∷ ds) o (timed_out ds (and_key_if key (and_answer d.from d.id replies.Timeout o)))
    by_key None e later =
        let rest : IsTimedOut ds (and_answer d.from d.id replies.Timeout o) (timed_out ds (and_answer d.from d.id replies.Timeout o)) = later (and_answer d.from d.id replies.Timeout o) in
        record {
          leave = rest.leave;
          sends = rest.sends;
          answers = rest.answers ∙ append_assoc o.answers (due_answer d ∷ []) (map due_answer ds);
          notes = rest.notes;
          own = rest.own;
          next = rest.next;
          keys = rest.keys ∙ ap (λ (k : Option (List ℕ)). o.keys ++ (key_list k ++ keys_of_due ds)) (sym e);
        }
    by_key (Some key) e later =
        let rest : IsTimedOut ds (and_key key (and_answer d.from d.id replies.Timeout o)) (timed_out ds (and_key key (and_answer d.from d.id replies.Timeout o))) = later (and_key key (and_answer d.from d.id replies.Timeout o)) in
        record {
          leave = rest.leave;
          sends = rest.sends;
          answers = rest.answers ∙ append_assoc o.answers (due_answer d ∷ []) (map due_answer ds);
          notes = rest.notes;
          own = rest.own;
          next = rest.next;
          keys = rest.keys ∙ append_assoc o.keys (key ∷ []) (keys_of_due ds) ∙ ap (λ (k : Option (List ℕ)). o.keys ++ (key_list k ++ keys_of_due ds)) (sym e);
        }

-- the answers to the calls that are due are those to the calls of 8 ticks
due_answers : (before calls : List Waiting) → map due_answer (due_after before calls) ≡ map left_answer (filter is_due calls)
due_answers before [] = refl
due_answers before (w ∷ ws) = by_age (is_due w) (due_answers (before ++ w ∷ []) ws)
  where
    by_age : (b : Bool) → map due_answer (due_after (before ++ w ∷ []) ws) ≡ map left_answer (filter is_due ws)
        → map due_answer (cond b (record { from = w.from; id = w.id; running = key_if_running before w } ∷ due_after (before ++ w ∷ []) ws) (due_after (before ++ w ∷ []) ws)) ≡ map left_answer (cond b (w ∷ filter is_due ws) (filter is_due ws))
    by_age true rest = ap (λ (answers : List AnswerOut). left_answer w ∷ answers) rest
    by_age false rest = rest

-- each call is due or stays
due_count : (before calls : List Waiting) → length (due_after before calls) + length (not_due calls) ≡ length calls
due_count before [] = refl
due_count before (w ∷ ws) = by_age (is_due w) (due_count (before ++ w ∷ []) ws)
  where
    by_age : (b : Bool) → length (due_after (before ++ w ∷ []) ws) + length (not_due ws) ≡ length ws
        → length (cond b (record { from = w.from; id = w.id; running = key_if_running before w } ∷ due_after (before ++ w ∷ []) ws) (due_after (before ++ w ∷ []) ws)) + length (cond (not b) (w ∷ not_due ws) (not_due ws)) ≡ length (w ∷ ws)
    by_age true rest = omega (arith, rest)
    by_age false rest = omega (arith, rest)

-- ## The keys that become idle

pub rested_calls : (key : List ℕ) (t : CallTable) → (rested key t).calls ≡ t.calls
unfolding rested
rested_calls key t = refl

pub all_calls : (ds : List DueCall) (t : CallTable) → (rested_all ds t).calls ≡ t.calls
all_calls [] t = refl
all_calls (d ∷ ds) t = by_key d.running (all_calls ds)
  where
    by_key : (key : Option (List ℕ)) → ((u : CallTable) → (rested_all ds u).calls ≡ u.calls) → (rested_all ds (rested_if key t)).calls ≡ t.calls
    by_key None later = later t
    by_key (Some key) later = later (rested key t) ∙ rested_calls key t

rested_here : (key k : List ℕ) (t : CallTable) → same_bytes key k ≡ true → (row_at k (rested key t).rows).stage ≡ Idle
unfolding rested
rested_here key k t on = subst (λ (q : List ℕ). (row_at q (rested key t).rows).stage ≡ Idle) (bytes_same key k on) (stage_here key Idle t.rows)

rested_still : (key k : List ℕ) (t : CallTable) → (row_at k t.rows).stage ≡ Idle → (row_at k (rested key t).rows).stage ≡ Idle
unfolding rested
rested_still key k t idle = by_test (same_bytes key k) refl
  where
    by_test : (b : Bool) → same_bytes key k ≡ b → (row_at k (rested key t).rows).stage ≡ Idle
    by_test true on = rested_here key k t on
    by_test false off = ap (λ (row : KeyRow). row.stage) (stage_other key k Idle t.rows off) ∙ idle

all_still : (ds : List DueCall) (k : List ℕ) (t : CallTable) → (row_at k t.rows).stage ≡ Idle → (row_at k (rested_all ds t).rows).stage ≡ Idle
all_still [] k t idle = idle
all_still (d ∷ ds) k t idle = by_key d.running (all_still ds k)
  where
    by_key : (key : Option (List ℕ)) → ((u : CallTable) → (row_at k u.rows).stage ≡ Idle → (row_at k (rested_all ds u).rows).stage ≡ Idle) → (row_at k (rested_all ds (rested_if key t)).rows).stage ≡ Idle
    by_key None later = later t idle
    by_key (Some key) later = later (rested key t) (rested_still key k t idle)

-- the key is among those whose running call is one of these
abbrev pub HasKey : List ℕ → List DueCall → Type 0
HasKey k [] = ⊥
HasKey k (d ∷ ds) = (d.running ≡ Some k) ⊎ HasKey k ds

pub all_rested : (ds : List DueCall) (k : List ℕ) (t : CallTable) → HasKey k ds → (row_at k (rested_all ds t).rows).stage ≡ Idle
all_rested [] k t has = absurd has
all_rested (d ∷ ds) k t (inl e) = subst (λ (key : Option (List ℕ)). (row_at k (rested_all ds (rested_if key t)).rows).stage ≡ Idle) (sym e) (all_still ds k (rested k t) (rested_here k k t (bytes_itself k)))
all_rested (d ∷ ds) k t (inr has) = all_rested ds k (rested_if d.running t) has

first_key : (before : List Waiting) (w : Waiting) (k : List ℕ) → same_bytes w.key k ≡ true → waiting_on k before ≡ 0 → key_if_running before w ≡ Some k
first_key before w k on none =
    let same : w.key ≡ k = bytes_same w.key k on in
    ap (λ (n : ℕ). if n == 0 then Some w.key else None) (ap (λ (q : List ℕ). waiting_on q before) same ∙ none) ∙ ap Some same

counted : (k : List ℕ) (before : List Waiting) (w : Waiting) → same_bytes w.key k ≡ false → waiting_on k before ≡ 0 → waiting_on k (before ++ w ∷ []) ≡ 0
counted k [] w off none = ap (λ (b : Bool). cond b 1 0) off
counted k (v ∷ before) w off none = by_key (same_bytes v.key k) none (counted k before w off)
  where
    by_key : (b : Bool) → cond b (waiting_on k before + 1) (waiting_on k before) ≡ 0 → (waiting_on k before ≡ 0 → waiting_on k (before ++ w ∷ []) ≡ 0) → cond b (waiting_on k (before ++ w ∷ []) + 1) (waiting_on k (before ++ w ∷ [])) ≡ 0
    by_key true h later = let none : ⊥ = omega (arith, h) in absurd none
    by_key false h later = later h

some_none : (w : Waiting) → Some w ≡ None → ⊥
some_none w h = absurd cc

in_due : (k : List ℕ) (w : Waiting) (ws : List Waiting) (d : DueCall) (ds : List DueCall) → same_bytes w.key k ≡ false → (running k ws ≡ None) ⊎ HasKey k ds → (running k (w ∷ ws) ≡ None) ⊎ HasKey k (d ∷ ds)
in_due k w ws d ds off (inl h) = inl (ap (λ (b : Bool). cond b (Some w) (running k ws)) off ∙ h)
in_due k w ws d ds off (inr h) = inr (inr h)

in_others : (k : List ℕ) (w : Waiting) (ws : List Waiting) (ds : List DueCall) → same_bytes w.key k ≡ false → (running k ws ≡ None) ⊎ HasKey k ds → (running k (w ∷ ws) ≡ None) ⊎ HasKey k ds
in_others k w ws ds off (inl h) = inl (ap (λ (b : Bool). cond b (Some w) (running k ws)) off ∙ h)
in_others k w ws ds off (inr h) = inr h

-- a key that has no call any more had none, or its running call is due
no_more : (k : List ℕ) (before calls : List Waiting) → waiting_on k before ≡ 0 → running k (not_due calls) ≡ None → (running k calls ≡ None) ⊎ HasKey k (due_after before calls)
no_more k before [] first e = inl refl
no_more k before (w ∷ ws) first e = by_key (same_bytes w.key k) refl (is_due w) e (no_more k (before ++ w ∷ []) ws)
  where
    by_key : (b : Bool) → same_bytes w.key k ≡ b → (d : Bool) → running k (cond (not d) (w ∷ not_due ws) (not_due ws)) ≡ None
        → (waiting_on k (before ++ w ∷ []) ≡ 0 → running k (not_due ws) ≡ None → (running k ws ≡ None) ⊎ HasKey k (due_after (before ++ w ∷ []) ws))
        → (running k (w ∷ ws) ≡ None) ⊎ HasKey k (cond d (record { from = w.from; id = w.id; running = key_if_running before w } ∷ due_after (before ++ w ∷ []) ws) (due_after (before ++ w ∷ []) ws))
    by_key true on true none later = inr (inl (first_key before w k on first))
    by_key true on false none later = absurd (some_none w (subst (λ (b : Bool). cond b (Some w) (running k (not_due ws)) ≡ None) on none))
    by_key false off true none later = in_due k w ws (record { from = w.from; id = w.id; running = key_if_running before w }) (due_after (before ++ w ∷ []) ws) off (later (counted k before w off first) none)
    by_key false off false none later =
        in_others k w ws (due_after (before ++ w ∷ []) ws) off (later (counted k before w off first) (sym (ap (λ (b : Bool). cond b (Some w) (running k (not_due ws))) off) ∙ none))

pub without_due_calls : (t : CallTable) → (without_due t).calls ≡ not_due t.calls
unfolding without_due
without_due_calls t = ap not_due (all_calls (due t.calls) t)

pub without_due_rows : (t : CallTable) → (without_due t).rows ≡ (rested_all (due t.calls) t).rows
unfolding without_due
without_due_rows t = refl

calm_without_due : (t : CallTable) → IsCalm t → IsCalm (without_due t)
calm_without_due t calm k none = subst (λ (rows : Rows). (row_at k rows).stage ≡ Idle) (sym (without_due_rows t)) (by_call (no_more k [] t.calls refl (sym (ap (running k) (without_due_calls t)) ∙ none)))
  where
    by_call : (running k t.calls ≡ None) ⊎ HasKey k (due t.calls) → (row_at k (rested_all (due t.calls) t).rows).stage ≡ Idle
    by_call (inl h) = all_still (due t.calls) k t (calm k h)
    by_call (inr h) = all_rested (due t.calls) k t h

-- what holds of the stage of each key, and of no stage, still holds after keys became idle
all_then : (P : Stage → Type 0) → P Idle → (ds : List DueCall) (k : List ℕ) (t : CallTable) → P (row_at k t.rows).stage → P (row_at k (rested_all ds t).rows).stage
unfolding rested
all_then P idle [] k t old = old
all_then P idle (d ∷ ds) k t old = by_key d.running (all_then P idle ds k)
  where
    by_key : (key : Option (List ℕ)) → ((u : CallTable) → P (row_at k u.rows).stage → P (row_at k (rested_all ds u).rows).stage) → P (row_at k (rested_all ds (rested_if key t)).rows).stage
    by_key None later = later t old
    by_key (Some key) later = later (rested key t) (stages_then P key k Idle t.rows idle old)

pub due_then : (P : Stage → Type 0) → P Idle → (k : List ℕ) (t : CallTable) → P (row_at k t.rows).stage → P (row_at k (without_due t).rows).stage
due_then P idle k t old = subst (λ (rows : Rows). P (row_at k rows).stage) (sym (without_due_rows t)) (all_then P idle (due t.calls) k t old)

-- ## Age

older_running : (k : List ℕ) (calls : List Waiting) → running k (map older calls) ≡ None → running k calls ≡ None
older_running k [] e = refl
older_running k (w ∷ ws) e = by_key (same_bytes w.key k) e (older_running k ws)
  where
    by_key : (b : Bool) → cond b (Some (older w)) (running k (map older ws)) ≡ None → (running k (map older ws) ≡ None → running k ws ≡ None) → cond b (Some w) (running k ws) ≡ None
    by_key true h later = absurd cc
    by_key false h later = later h

calm_aged : (t : CallTable) → IsCalm t → IsCalm (aged t)
calm_aged t calm k none = calm k (older_running k t.calls none)

-- ## Rule 5

-- what the first half of rule 5 keeps to
pub record IsTick (late : Bool) (l : Leader) (r : Leader × LeadOut) : Type 0 where
  pub fact : r.0.fact ≡ l.fact
  pub me : r.0.me ≡ l.me
  pub accepts : r.0.accepts ≡ l.accepts
  pub seq : r.0.seq ≡ l.seq
  pub task : r.0.task ≡ l.task
  pub sends : r.1.sends ≡ []
  pub notes : r.1.notes ≡ []
  pub own : r.1.own ≡ None
  pub next : r.1.then ≡ (if late then Stay else OnKeys key_rules.StartNextCall)
  pub timely : IsTimely late l r
  pub lowers : turns_after r.1 + weight r.0 ≤ weight l
  pub calm : IsCalm l.table → IsCalm r.0.table
  pub counts : CountsInOwnViews l → CountsInOwnViews r.0

less_due : (calls : List Waiting) (x : ℕ) → 13 * length (keys_of_due (due (map older calls))) + (13 * length (not_due (map older calls)) + x) ≤ 13 * length calls + x
less_due calls x =
    let few : length (keys_of_due (due (map older calls))) ≤ length (due (map older calls)) = few_keys (due (map older calls)) in
    let all : length (due (map older calls)) + length (not_due (map older calls)) ≡ length (map older calls) = due_count [] (map older calls) in
    let same : length (map older calls) ≡ length calls = length-map calls older in
    omega (arith, few, all, same)

-- the answer of a tick
abbrev tick_out : Leader → LeadOut
tick_out l = timed_out (due (map older l.table.calls)) (comes (OnKeys key_rules.StartNextCall))

tick_times_out : (l : Leader) → IsTimedOut (due (map older l.table.calls)) (comes (OnKeys key_rules.StartNextCall)) (tick_out l)
tick_times_out l = times_out (due (map older l.table.calls)) (comes (OnKeys key_rules.StartNextCall))

turns_of_keys : (o : LeadOut) (keys : List (List ℕ)) → o.own ≡ None → o.then ≡ OnKeys key_rules.StartNextCall → o.keys ≡ keys → turns_after o ≡ 13 * length keys
turns_of_keys o keys own next same =
    ap (λ (w : Option Own). turns_next w o.then o.keys) own ∙ ap (λ (t : Then). turns_next None t o.keys) next ∙ ap (λ (ks : List (List ℕ)). turns_next None (OnKeys key_rules.StartNextCall) ks) same

in_turns : (t k a b x c : ℕ) → t ≡ 13 * k → a ≡ b → 13 * k + (13 * b + x) ≤ c → t + (13 * a + x) ≤ c
in_turns t k a b x c e f h = omega (arith, e, f, h)

few_turns : (l : Leader) → turns_after (tick_out l) + weight (record l { table = without_due (aged l.table) }) ≤ weight l
few_turns l =
    in_turns (turns_after (tick_out l)) (length (keys_of_due (due (map older l.table.calls)))) (length (without_due (aged l.table)).calls) (length (not_due (map older l.table.calls))) (task_turns l.task) (weight l)
    (turns_of_keys (tick_out l) (keys_of_due (due (map older l.table.calls))) (tick_times_out l).own (tick_times_out l).next (tick_times_out l).keys) (ap length (without_due_calls (aged l.table))) (less_due l.table.calls (task_turns l.task))

aged_tick : (late : Bool) (l : Leader) → IsTick late l (if late then (record l { table = aged l.table }, leaves) else (record l { table = without_due (aged l.table) }, timed_out (due (map older l.table.calls)) (comes (OnKeys key_rules.StartNextCall))))
aged_tick true l = record {
  fact = refl;
  me = refl;
  accepts = refl;
  seq = refl;
  task = refl;
  sends = refl;
  notes = refl;
  own = refl;
  next = refl;
  timely = record { leave = refl; answers = refl; calls = λ timely. absurd cc };
  lowers = let same : length (map older l.table.calls) ≡ length l.table.calls = length-map l.table.calls older in omega (arith, same);
  calm = calm_aged l.table;
  counts = λ before. before;
}
aged_tick false l = record {
  fact = refl;
  me = refl;
  accepts = refl;
  seq = refl;
  task = refl;
  sends = (tick_times_out l).sends;
  notes = (tick_times_out l).notes;
  own = (tick_times_out l).own;
  next = (tick_times_out l).next;
  timely = record { leave = (tick_times_out l).leave; answers = (tick_times_out l).answers ∙ due_answers [] (map older l.table.calls); calls = λ timely. without_due_calls (aged l.table) };
  lowers = few_turns l;
  calm = λ calm. calm_without_due (aged l.table) (calm_aged l.table calm);
  counts = λ before k. due_then (CountsIn l.fact.views) tt k (aged l.table) (before k);
}

pub row_5_ticks : (finishing : Finishing) (l : Leader) → IsTick (late_put (aged l.table) || is_late finishing) l (row_5_calls finishing l)
row_5_ticks finishing l = aged_tick (late_put (aged l.table) || is_late finishing) l
