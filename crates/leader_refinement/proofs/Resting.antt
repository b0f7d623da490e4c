-- A key whose running call is due becomes idle, if no put of it is out. All other keys stay as they
-- are.
use Rattle.std.proofs.Common.{◌≡◌, ◌⊎◌, inl, inr, ℕ, ◌+◌, ◌<◌, ◌==◌, ◌&&◌, ◌||◌, Bool, true, false, cond, if◌then◌else◌, List, [], ◌∷◌, ◌++◌, Option, Some, None, arith, eqb-true, refl, sym, ap, subst, ◌∙◌}
use Rattle.std.proofs.lemmas.Bool.{or_parts, or_left, or_right}
use Rattle.ens_base.specs.Lists.{◌∈◌, same_bytes}
use Rattle.ens_base.proofs.Lists.{bytes_same, bytes_itself}
use Rattle.ens_base.specs.declared.reply.Reply.TheVariants as replies
use Rattle.call_table.specs.Calls.{running, waiting_on, is_due, due, due_after, key_if_running}
use Rattle.call_table.specs.Late.{late_put_after}
use Rattle.call_table.specs.Rows.{Rows, row_at, with_stage, has_put}
use Rattle.call_table.specs.Tables.{rested, rested_if, rested_all, without_due, late_put}
use Rattle.call_table.specs.declared.row.KeyRow.{KeyRow}
use Rattle.call_table.specs.declared.row.Stage.TheVariants as stages
use Rattle.call_table.specs.declared.table.CallTable.{CallTable}
use Rattle.call_table.specs.declared.waiting.DueCall.{DueCall}
use Rattle.call_table.specs.declared.waiting.Waiting.{Waiting}
use Rattle.leader_output.specs.Outs.{and_answer}
use Rattle.leader_output.specs.declared.out.LeadOut.{LeadOut}
use Rattle.leader.specs.Ticks.{and_key_if, timed_out}
use Rattle.leader_laws.proofs.Lookups.{stage_other}
use Rattle.leader_refinement.proofs.Base.{stage_row}
use Rattle.leader_refinement.proofs.Staying.{is_due_call}

-- ## Rows

abbrev is_named_by : List ℕ → Option (List ℕ) → Bool
is_named_by key None = false
is_named_by key (Some other) = same_bytes other key

-- whether the running call of the key is one of these
abbrev pub is_named : List ℕ → List DueCall → Bool
is_named key [] = false
is_named key (d ∷ ds) = is_named_by key d.running || is_named key ds

-- the row, idle if so
abbrev pub idle_if : Bool → KeyRow → KeyRow
idle_if b row = record row { stage = if b then stages.Idle else row.stage }

rested_row : (key k : List ℕ) (t : CallTable) → row_at k (rested key t).rows ≡ idle_if (same_bytes key k) (row_at k t.rows)
unfolding rested
rested_row key k t = by_key (same_bytes key k) refl
  where
    by_key : (b : Bool) → same_bytes key k ≡ b → row_at k (with_stage key stages.Idle t.rows) ≡ idle_if b (row_at k t.rows)
    by_key true on = subst (λ (j : List ℕ). row_at j (with_stage key stages.Idle t.rows) ≡ idle_if true (row_at j t.rows)) (bytes_same key k on) (stage_row key stages.Idle t.rows)
    by_key false off = stage_other key k stages.Idle t.rows off

rested_if_row : (o : Option (List ℕ)) (k : List ℕ) (t : CallTable) → row_at k (rested_if o t).rows ≡ idle_if (is_named_by k o) (row_at k t.rows)
rested_if_row None k t = refl
rested_if_row (Some key) k t = rested_row key k t

idle_twice : (a b : Bool) (row : KeyRow) → idle_if b (idle_if a row) ≡ idle_if (a || b) row
idle_twice true true row = refl
idle_twice true false row = refl
idle_twice false b row = refl

rested_all_row : (ds : List DueCall) (k : List ℕ) (t : CallTable) → row_at k (rested_all ds t).rows ≡ idle_if (is_named k ds) (row_at k t.rows)
rested_all_row [] k t = refl
rested_all_row (d ∷ ds) k t = rested_all_row ds k (rested_if d.running t) ∙ ap (idle_if (is_named k ds)) (rested_if_row d.running k t) ∙ idle_twice (is_named_by k d.running) (is_named k ds) (row_at k t.rows)

-- ## Which keys are named

counted_on : (k : List ℕ) (before : List Waiting) (w : Waiting) → same_bytes w.key k ≡ true → waiting_on k (before ++ w ∷ []) ≡ waiting_on k before + 1
counted_on k [] w on = ap (λ (b : Bool). cond b 1 0) on
counted_on k (v ∷ before) w on = by_key (same_bytes v.key k) (counted_on k before w on)
  where
    by_key : (b : Bool) → waiting_on k (before ++ w ∷ []) ≡ waiting_on k before + 1 → cond b (waiting_on k (before ++ w ∷ []) + 1) (waiting_on k (before ++ w ∷ [])) ≡ cond b (waiting_on k before + 1) (waiting_on k before) + 1
    by_key true later = ap (λ (n : ℕ). n + 1) later
    by_key false later = later

counted_off : (k : List ℕ) (before : List Waiting) (w : Waiting) → same_bytes w.key k ≡ false → waiting_on k (before ++ w ∷ []) ≡ waiting_on k before
counted_off k [] w off = ap (λ (b : Bool). cond b 1 0) off
counted_off k (v ∷ before) w off = by_key (same_bytes v.key k) (counted_off k before w off)
  where
    by_key : (b : Bool) → waiting_on k (before ++ w ∷ []) ≡ waiting_on k before → cond b (waiting_on k (before ++ w ∷ []) + 1) (waiting_on k (before ++ w ∷ [])) ≡ cond b (waiting_on k before + 1) (waiting_on k before)
    by_key true later = ap (λ (n : ℕ). n + 1) later
    by_key false later = later

off_is_not_named : (k : List ℕ) (before : List Waiting) (w : Waiting) → same_bytes w.key k ≡ false → is_named_by k (key_if_running before w) ≡ false
off_is_not_named k before w off = by_test (waiting_on w.key before == 0)
  where
    by_test : (b : Bool) → is_named_by k (if b then Some w.key else None) ≡ false
    by_test true = off
    by_test false = refl

first_is_named : (k : List ℕ) (before : List Waiting) (w : Waiting) → same_bytes w.key k ≡ true → waiting_on k before ≡ 0 → is_named_by k (key_if_running before w) ≡ true
first_is_named k before w on first = ap (λ (n : ℕ). is_named_by k (if n == 0 then Some w.key else None)) (ap (λ (q : List ℕ). waiting_on q before) (bytes_same w.key k on) ∙ first) ∙ on

later_is_not_named : (k : List ℕ) (before : List Waiting) (w : Waiting) → 0 < waiting_on k before → is_named_by k (key_if_running before w) ≡ false
later_is_not_named k before w some = by_key (same_bytes w.key k) refl
  where
    by_test : same_bytes w.key k ≡ true → (b : Bool) → (waiting_on w.key before == 0) ≡ b → is_named_by k (if b then Some w.key else None) ≡ false
    by_test on true e =
        let none : waiting_on k before ≡ 0 = subst (λ (q : List ℕ). waiting_on q before ≡ 0) (bytes_same w.key k on) (eqb-true (waiting_on w.key before) 0 e) in
        let not : ⊥ = omega (arith, none, some) in
        absurd not
    by_test on false e = refl

    by_key : (b : Bool) → same_bytes w.key k ≡ b → is_named_by k (key_if_running before w) ≡ false
    by_key true on = by_test on (waiting_on w.key before == 0) refl
    by_key false off = off_is_not_named k before w off

-- after a call on the key no further one names it
none_named : (k : List ℕ) (before calls : List Waiting) → 0 < waiting_on k before → is_named k (due_after before calls) ≡ false
none_named k before [] some = refl
none_named k before (w ∷ ws) some = by_age (is_due w) (none_named k (before ++ w ∷ []) ws (by_key (same_bytes w.key k) refl))
  where
    by_key : (b : Bool) → same_bytes w.key k ≡ b → 0 < waiting_on k (before ++ w ∷ [])
    by_key true on = let more : waiting_on k (before ++ w ∷ []) ≡ waiting_on k before + 1 = counted_on k before w on in omega (arith, more, some)
    by_key false off = let same : waiting_on k (before ++ w ∷ []) ≡ waiting_on k before = counted_off k before w off in omega (arith, same, some)

    by_age : (d : Bool) → is_named k (due_after (before ++ w ∷ []) ws) ≡ false → is_named k (cond d (record { from = w.from; id = w.id; running = key_if_running before w } ∷ due_after (before ++ w ∷ []) ws) (due_after (before ++ w ∷ []) ws)) ≡ false
    by_age true later = ap (λ (b : Bool). b || is_named k (due_after (before ++ w ∷ []) ws)) (later_is_not_named k before w some) ∙ later
    by_age false later = later

-- a key is named if its running call is due
first_named : (k : List ℕ) (before calls : List Waiting) → waiting_on k before ≡ 0 → is_named k (due_after before calls) ≡ is_due_call (running k calls)
first_named k before [] none = refl
first_named k before (w ∷ ws) none = by_key (same_bytes w.key k) refl (first_named k (before ++ w ∷ []) ws)
  where
    others : same_bytes w.key k ≡ true → is_named k (due_after (before ++ w ∷ []) ws) ≡ false
    others on = let one : waiting_on k (before ++ w ∷ []) ≡ waiting_on k before + 1 = counted_on k before w on in none_named k (before ++ w ∷ []) ws (omega (arith, one))

    here : same_bytes w.key k ≡ true → (d : Bool) → is_named k (cond d (record { from = w.from; id = w.id; running = key_if_running before w } ∷ due_after (before ++ w ∷ []) ws) (due_after (before ++ w ∷ []) ws)) ≡ d
    here on true = or_left (is_named_by k (key_if_running before w)) (is_named k (due_after (before ++ w ∷ []) ws)) (first_is_named k before w on none)
    here on false = others on

    there : same_bytes w.key k ≡ false → (d : Bool) → is_named k (due_after (before ++ w ∷ []) ws) ≡ is_due_call (running k ws) → is_named k (cond d (record { from = w.from; id = w.id; running = key_if_running before w } ∷ due_after (before ++ w ∷ []) ws) (due_after (before ++ w ∷ []) ws)) ≡ is_due_call (running k ws)
    there off true later = ap (λ (b : Bool). b || is_named k (due_after (before ++ w ∷ []) ws)) (off_is_not_named k before w off) ∙ later
    there off false later = later

    by_key : (b : Bool) → same_bytes w.key k ≡ b → (waiting_on k (before ++ w ∷ []) ≡ 0 → is_named k (due_after (before ++ w ∷ []) ws) ≡ is_due_call (running k ws)) → is_named k (due_after before (w ∷ ws)) ≡ is_due_call (cond b (Some w) (running k ws))
    by_key true on later = here on (is_due w)
    by_key false off later = there off (is_due w) (later (counted_off k before w off ∙ none))

pub row_left : (k : List ℕ) (t : CallTable) → row_at k (without_due t).rows ≡ idle_if (is_due_call (running k t.calls)) (row_at k t.rows)
unfolding without_due
row_left k t = rested_all_row (due t.calls) k t ∙ ap (λ (b : Bool). idle_if b (row_at k t.rows)) (first_named k [] t.calls refl)

-- ## The keys that start their next call

in_end : (xs : List (List ℕ)) (y x : List ℕ) → x ∈ xs ++ y ∷ [] → (x ∈ xs) ⊎ (x ≡ y)
in_end [] y x (inl e) = inr e
in_end [] y x (inr m) = absurd m
in_end (z ∷ xs) y x (inl e) = inl (inl e)
in_end (z ∷ xs) y x (inr m) = by_end (in_end xs y x m)
  where
    by_end : (x ∈ xs) ⊎ (x ≡ y) → ((x ≡ z) ⊎ (x ∈ xs)) ⊎ (x ≡ y)
    by_end (inl n) = inl (inr n)
    by_end (inr e) = inr e

named_keys : (ds : List DueCall) (o : LeadOut) (k : List ℕ) → k ∈ (timed_out ds o).keys → (k ∈ o.keys) ⊎ (is_named k ds ≡ true)
named_keys [] o k m = inl m
named_keys (d ∷ ds) o k m = by_rest (named_keys ds (and_key_if d.running (and_answer d.from d.id replies.Timeout o)) k m)
  where
    by_end : (key : List ℕ) → (k ∈ o.keys) ⊎ (k ≡ key) → (k ∈ o.keys) ⊎ ((same_bytes key k || is_named k ds) ≡ true)
    by_end key (inl n) = inl n
    by_end key (inr e) = inr (or_left (same_bytes key k) (is_named k ds) (subst (λ (j : List ℕ). same_bytes j k ≡ true) e (bytes_itself k)))

    by_key : (key : Option (List ℕ)) → k ∈ (and_key_if key (and_answer d.from d.id replies.Timeout o)).keys → (k ∈ o.keys) ⊎ ((is_named_by k key || is_named k ds) ≡ true)
    by_key None n = inl n
    by_key (Some key) n = by_end key (in_end o.keys key k n)

    by_rest : (k ∈ (and_key_if d.running (and_answer d.from d.id replies.Timeout o)).keys) ⊎ (is_named k ds ≡ true) → (k ∈ o.keys) ⊎ ((is_named_by k d.running || is_named k ds) ≡ true)
    by_rest (inl n) = by_key d.running n
    by_rest (inr e) = inr (or_right (is_named_by k d.running) (is_named k ds) e)

-- each key that starts its next call is idle
pub named_idle : (o : LeadOut) (t : CallTable) (k : List ℕ) → (k ∈ o.keys → ⊥) → k ∈ (timed_out (due t.calls) o).keys → (row_at k (without_due t).rows).stage ≡ stages.Idle
named_idle o t k old m = by_name (named_keys (due t.calls) o k m)
  where
    by_name : (k ∈ o.keys) ⊎ (is_named k (due t.calls) ≡ true) → (row_at k (without_due t).rows).stage ≡ stages.Idle
    by_name (inl n) = absurd (old n)
    by_name (inr e) = ap (λ (row : KeyRow). row.stage) (row_left k t) ∙ ap (λ (b : Bool). (idle_if b (row_at k t.rows)).stage) (sym (first_named k [] t.calls refl) ∙ e)

-- ## Late puts

last_of : (a b c : Bool) → (a && (b && c)) ≡ false → a ≡ true → b ≡ true → c ≡ false
last_of true true c e f h = e
last_of true false c e f h = absurd cc
last_of false b c e f h = absurd cc

-- no running call that is due has a put
no_late_put : (k : List ℕ) (rows : Rows) (before calls : List Waiting) → waiting_on k before ≡ 0 → late_put_after rows before calls ≡ false → is_due_call (running k calls) ≡ true → has_put (row_at k rows).stage ≡ false
no_late_put k rows before [] none early due = absurd cc
no_late_put k rows before (v ∷ vs) none early due = by_key (same_bytes v.key k) refl due (no_late_put k rows (before ++ v ∷ []) vs)
  where
    parts : ((is_due v && (waiting_on v.key before == 0 && has_put (row_at v.key rows).stage)) ≡ false) × (late_put_after rows (before ++ v ∷ []) vs ≡ false)
    parts = or_parts (is_due v && (waiting_on v.key before == 0 && has_put (row_at v.key rows).stage)) (late_put_after rows (before ++ v ∷ []) vs) early

    here : v.key ≡ k → is_due v ≡ true → has_put (row_at v.key rows).stage ≡ false
    here same due = last_of (is_due v) (waiting_on v.key before == 0) (has_put (row_at v.key rows).stage) parts.0 due (ap (λ (n : ℕ). n == 0) (ap (λ (q : List ℕ). waiting_on q before) same ∙ none))

    by_key : (b : Bool) → same_bytes v.key k ≡ b → is_due_call (cond b (Some v) (running k vs)) ≡ true → (waiting_on k (before ++ v ∷ []) ≡ 0 → late_put_after rows (before ++ v ∷ []) vs ≡ false → is_due_call (running k vs) ≡ true → has_put (row_at k rows).stage ≡ false) → has_put (row_at k rows).stage ≡ false
    by_key true on due later = subst (λ (q : List ℕ). has_put (row_at q rows).stage ≡ false) (bytes_same v.key k on) (here (bytes_same v.key k on) due)
    by_key false off due later = later (counted_off k before v off ∙ none) parts.1 due

pub due_has_no_put : (k : List ℕ) (t : CallTable) → late_put t ≡ false → is_due_call (running k t.calls) ≡ true → has_put (row_at k t.rows).stage ≡ false
unfolding late_put
due_has_no_put k t early due = no_late_put k t.rows [] t.calls refl early due
