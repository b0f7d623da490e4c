-- The calls that are not due stay, in their order.
use Rattle.std.specs.Prelude.{not}
use Rattle.std.proofs.Common.{◌≡◌, ◌⊎◌, inl, inr, ℕ, Bool, true, false, cond, filter, List, [], ◌∷◌, Option, Some, None, refl, sym, ap, subst, ◌∙◌}
use Rattle.ens_base.specs.Lists.{◌∈◌, AreDistinct, same_bytes}
use Rattle.call_table.specs.Calls.{running, is_due, not_due}
use Rattle.call_table.specs.declared.waiting.Waiting.{Waiting}
use Rattle.leader_refinement.specs.Seen.{ids_on, ids_of, waiting_behind}

-- ## Fewer calls

-- each of these is one of those, and they are distinct if those are
pub record IsFewer (xs ys : List ℕ) : Type 0 where
  pub among : (i : ℕ) → i ∈ xs → i ∈ ys
  pub distinct : AreDistinct ys → AreDistinct xs

fewer_same : (xs : List ℕ) → IsFewer xs xs
fewer_same xs = record { among = λ i m. m; distinct = λ d. d }

pub fewer_both : (x : ℕ) (xs ys : List ℕ) → IsFewer xs ys → IsFewer (x ∷ xs) (x ∷ ys)
fewer_both x xs ys fewer = record { among = λ i m. or i m; distinct = λ d. (λ m. d.0 (fewer.among x m), fewer.distinct d.1) }
  where
    or : (i : ℕ) → (i ≡ x) ⊎ (i ∈ xs) → (i ≡ x) ⊎ (i ∈ ys)
    or i (inl e) = inl e
    or i (inr m) = inr (fewer.among i m)

fewer_more : (y : ℕ) (xs ys : List ℕ) → IsFewer xs ys → IsFewer xs (y ∷ ys)
fewer_more y xs ys fewer = record { among = λ i m. inr (fewer.among i m); distinct = λ d. fewer.distinct d.1 }

-- one more that is kept, if there is one
fewer_kept : (b : Bool) (x : ℕ) (xs ys : List ℕ) → IsFewer xs ys → IsFewer (cond b (x ∷ xs) xs) (cond b (x ∷ ys) ys)
fewer_kept true x xs ys fewer = fewer_both x xs ys fewer
fewer_kept false x xs ys fewer = fewer

-- one more that is dropped, if there is one
fewer_dropped : (b : Bool) (x : ℕ) (xs ys : List ℕ) → IsFewer xs ys → IsFewer xs (cond b (x ∷ ys) ys)
fewer_dropped true x xs ys fewer = fewer_more x xs ys fewer
fewer_dropped false x xs ys fewer = fewer

-- ## All calls

pub filtered : (test : Waiting → Bool) (calls : List Waiting) → IsFewer (ids_of (filter test calls)) (ids_of calls)
filtered test [] = fewer_same []
filtered test (w ∷ ws) = by_test (test w) (filtered test ws)
  where
    by_test : (b : Bool) → IsFewer (ids_of (filter test ws)) (ids_of ws) → IsFewer (ids_of (cond b (w ∷ filter test ws) (filter test ws))) (w.id ∷ ids_of ws)
    by_test true fewer = fewer_both w.id (ids_of (filter test ws)) (ids_of ws) fewer
    by_test false fewer = fewer_more w.id (ids_of (filter test ws)) (ids_of ws) fewer

stays_among : (calls : List Waiting) (i : ℕ) → i ∈ ids_of (not_due calls) → i ∈ ids_of calls
stays_among calls i m = (filtered (λ w. not (is_due w)) calls).among i m

-- a call that stays is not one that is due
pub stays_or_due : (calls : List Waiting) → AreDistinct (ids_of calls) → (i : ℕ) → i ∈ ids_of (not_due calls) → i ∈ ids_of (filter is_due calls) → ⊥
stays_or_due [] d i m n = m
stays_or_due (w ∷ ws) d i m n = by_age (is_due w) m n (stays_or_due ws d.1 i)
  where
    by_age : (b : Bool) → i ∈ ids_of (cond (not b) (w ∷ not_due ws) (not_due ws)) → i ∈ ids_of (cond b (w ∷ filter is_due ws) (filter is_due ws)) → (i ∈ ids_of (not_due ws) → i ∈ ids_of (filter is_due ws) → ⊥) → ⊥
    by_age true m (inl e) later = d.0 (subst (λ (j : ℕ). j ∈ ids_of ws) e (stays_among ws i m))
    by_age true m (inr n) later = later m n
    by_age false (inl e) n later = d.0 (subst (λ (j : ℕ). j ∈ ids_of ws) e ((filtered is_due ws).among i n))
    by_age false (inr m) n later = later m n

pub one_of_all : (key : List ℕ) (calls : List Waiting) (i : ℕ) → i ∈ ids_on key calls → i ∈ ids_of calls
one_of_all key [] i m = m
one_of_all key (w ∷ ws) i m = by_key (same_bytes w.key key) m (one_of_all key ws i)
  where
    by_key : (b : Bool) → i ∈ cond b (w.id ∷ ids_on key ws) (ids_on key ws) → (i ∈ ids_on key ws → i ∈ ids_of ws) → (i ≡ w.id) ⊎ (i ∈ ids_of ws)
    by_key true (inl e) later = inl e
    by_key true (inr m) later = inr (later m)
    by_key false m later = inr (later m)

-- ## The calls on a key

-- whether this call is due, if there is one
abbrev pub is_due_call : Option Waiting → Bool
is_due_call None = false
is_due_call (Some w) = is_due w

pub staying_on : (key : List ℕ) (calls : List Waiting) → IsFewer (ids_on key (not_due calls)) (ids_on key calls)
staying_on key [] = fewer_same []
staying_on key (w ∷ ws) = by_age (is_due w) (staying_on key ws)
  where
    by_age : (d : Bool) → IsFewer (ids_on key (not_due ws)) (ids_on key ws) → IsFewer (ids_on key (cond (not d) (w ∷ not_due ws) (not_due ws))) (cond (same_bytes w.key key) (w.id ∷ ids_on key ws) (ids_on key ws))
    by_age true fewer = fewer_dropped (same_bytes w.key key) w.id (ids_on key (not_due ws)) (ids_on key ws) fewer
    by_age false fewer = fewer_kept (same_bytes w.key key) w.id (ids_on key (not_due ws)) (ids_on key ws) fewer

-- the running call, if any, stays, and so do some of those that wait
pub record RunsOn (key : List ℕ) (calls staying : List Waiting) : Type 0 where
  pub running_is : running key staying ≡ running key calls
  pub waiting : IsFewer (waiting_behind key staying) (waiting_behind key calls)

-- a call on another key changes neither
runs_off : (key : List ℕ) (v : Waiting) (calls staying : List Waiting) → same_bytes v.key key ≡ false → RunsOn key calls staying → RunsOn key calls (v ∷ staying)
runs_off key v calls staying off runs = record {
  running_is = ap (λ (b : Bool). cond b (Some v) (running key staying)) off ∙ runs.running_is;
  waiting = subst (λ (b : Bool). IsFewer (cond b (ids_on key staying) (waiting_behind key staying)) (waiting_behind key calls)) (sym off) runs.waiting;
}

pub young_runs : (key : List ℕ) (calls : List Waiting) → is_due_call (running key calls) ≡ false → RunsOn key calls (not_due calls)
young_runs key [] young = record { running_is = refl; waiting = fewer_same [] }
young_runs key (v ∷ vs) young = by_key (same_bytes v.key key) refl young (young_runs key vs)
  where
    -- it runs
    here : same_bytes v.key key ≡ true → RunsOn key (v ∷ vs) (v ∷ not_due vs)
    here on = record {
      running_is = ap (λ (b : Bool). cond b (Some v) (running key (not_due vs))) on ∙ sym (ap (λ (b : Bool). cond b (Some v) (running key vs)) on);
      waiting = subst (λ (b : Bool). IsFewer (cond b (ids_on key (not_due vs)) (waiting_behind key (not_due vs))) (cond b (ids_on key vs) (waiting_behind key vs))) (sym on) (staying_on key vs);
    }

    -- it is on another key
    there : same_bytes v.key key ≡ false → RunsOn key vs (not_due vs) → RunsOn key vs (not_due (v ∷ vs))
    there off runs = by_age (is_due v)
      where
        by_age : (d : Bool) → RunsOn key vs (cond (not d) (v ∷ not_due vs) (not_due vs))
        by_age true = runs
        by_age false = runs_off key v vs (not_due vs) off runs

    passed : same_bytes v.key key ≡ false → (staying : List Waiting) → RunsOn key vs staying → RunsOn key (v ∷ vs) staying
    passed off staying runs = record {
      running_is = runs.running_is ∙ sym (ap (λ (b : Bool). cond b (Some v) (running key vs)) off);
      waiting = subst (λ (b : Bool). IsFewer (waiting_behind key staying) (cond b (ids_on key vs) (waiting_behind key vs))) (sym off) runs.waiting;
    }

    by_key : (b : Bool) → same_bytes v.key key ≡ b → is_due_call (cond b (Some v) (running key vs)) ≡ false → (is_due_call (running key vs) ≡ false → RunsOn key vs (not_due vs)) → RunsOn key (v ∷ vs) (not_due (v ∷ vs))
    by_key true on young later = subst (λ (d : Bool). RunsOn key (v ∷ vs) (cond (not d) (v ∷ not_due vs) (not_due vs))) (sym young) (here on)
    by_key false off young later = passed off (not_due (v ∷ vs)) (there off (later young))

-- the running call is due: those that stay had waited
pub due_runs : (key : List ℕ) (calls : List Waiting) → is_due_call (running key calls) ≡ true → IsFewer (ids_on key (not_due calls)) (waiting_behind key calls)
due_runs key [] due = fewer_same []
due_runs key (v ∷ vs) due = by_key (same_bytes v.key key) refl due (due_runs key vs)
  where
    by_age : same_bytes v.key key ≡ false → (d : Bool) → IsFewer (ids_on key (not_due vs)) (waiting_behind key vs) → IsFewer (ids_on key (cond (not d) (v ∷ not_due vs) (not_due vs))) (waiting_behind key vs)
    by_age off true fewer = fewer
    by_age off false fewer = subst (λ (b : Bool). IsFewer (cond b (v.id ∷ ids_on key (not_due vs)) (ids_on key (not_due vs))) (waiting_behind key vs)) (sym off) fewer

    by_key : (b : Bool) → same_bytes v.key key ≡ b → is_due_call (cond b (Some v) (running key vs)) ≡ true → (is_due_call (running key vs) ≡ true → IsFewer (ids_on key (not_due vs)) (waiting_behind key vs)) → IsFewer (ids_on key (not_due (v ∷ vs))) (cond b (ids_on key vs) (waiting_behind key vs))
    by_key true on due later = subst (λ (d : Bool). IsFewer (ids_on key (cond (not d) (v ∷ not_due vs) (not_due vs))) (ids_on key vs)) (sym due) (staying_on key vs)
    by_key false off due later = by_age off (is_due v) (later due)
