-- The keys that a reply to a check, or a tick, leaves as they are.
use Rattle.std.proofs.Common.{◌≡◌, ◌+◌, ◌==◌, ◌||◌, ◌∙◌, ap, sym, refl, subst, inl, inr, ℕ, Bool, true, false, cond, eqb-true, map, if◌then◌else◌, List, [], ◌∷◌, ◌++◌, Option, Some, None, arith}
use Rattle.std.proofs.lemmas.Bool.{true≢false}
use Rattle.ens_base.specs.Lists.{same_bytes}
use Rattle.ens_base.proofs.Lists.{bytes_same, bytes_itself}
use Rattle.ens_base.specs.declared.epoch.Epoch.{Epoch}
use Rattle.ens_base.specs.declared.reply.Reply.{Reply}
use Rattle.quorums.specs.Rounds.{answered as heard_from, state_of}
use Rattle.quorums.specs.declared.round.Round.{Round}
use Rattle.quorums.specs.declared.round.RoundState.{RoundState}
use Rattle.quorums.specs.declared.round.RoundState.TheVariants.{Open, Met, AllAnswered}
use Rattle.phase_rows.specs.declared.phase.Then.TheVariants.{OnKeys}
use Rattle.phase_rows.specs.declared.rules.KeyRule.TheVariants as key_rules
use Rattle.call_table.specs.Calls.{running, waiting_on, older, is_due, due, due_after, key_if_running}
use Rattle.call_table.specs.Rows.{row_at, check_at}
use Rattle.call_table.specs.Tables.{ended, rested, rested_if, rested_all, without_due, late_put}
use Rattle.call_table.specs.declared.row.Stage.{Stage}
use Rattle.call_table.specs.declared.row.Stage.TheVariants as stages
use Rattle.call_table.specs.declared.table.CallTable.{CallTable}
use Rattle.call_table.specs.declared.waiting.DueCall.{DueCall}
use Rattle.call_table.specs.declared.waiting.Waiting.{Waiting}
use Rattle.leader_output.specs.Outs.{rests, leaves, comes}
use Rattle.leader_output.specs.declared.out.LeadOut.{LeadOut}
use Rattle.leader.specs.Leaders.{idle, read_answered}
use Rattle.leader.specs.Rounds.{counts, goes_on_checking, stood, stood_at, row_33_reply}
use Rattle.leader_laws.specs.Steps.{KeepsOthers}
use Rattle.leader.specs.Ticks.{Finishing, is_late, aged, timed_out, row_5_calls}
use Rattle.leader.specs.declared.leader.Leader.{Leader}
use Rattle.step_laws.specs.Answers.{IsRunningDue}
use Rattle.leader_laws.proofs.Lookups.{stage_other}
use Rattle.leader_laws.proofs.TimeOuts.{without_due_rows, HasKey}
use Rattle.leader.proofs.Cases.{either}

-- ## Replies to checks

read_keeps : (key : List ℕ) (l : Leader) (w : Waiting) (reply : Reply) → KeepsOthers key l.table (read_answered w reply key rests l).0.table
unfolding ended rested
read_keeps key l w reply k off = stage_other key k stages.Idle l.table.rows off

going_keeps : (key : List ℕ) (l : Leader) (w : Waiting) (state : RoundState) (round : ℕ) (votes : Round) (reply : Reply) → KeepsOthers key l.table (goes_on_checking state round votes reply w key l).0.table
going_keeps key l w Open round votes reply k off = stage_other key k (stages.Checking round votes reply) l.table.rows off
going_keeps key l w Met round votes reply k off = read_keeps key l w reply k off
going_keeps key l w AllAnswered round votes reply k off = read_keeps key l w reply k off

stood_keeps : (key : List ℕ) (l : Leader) (call : Option Waiting) (stage : Stage) (from : ℕ) (ballot : Epoch) (round : ℕ) → KeepsOthers key l.table (stood call stage from ballot round key l).0.table
stood_keeps key l None stage from ballot round k off = refl
stood_keeps key l (Some w) (stages.Checking asked votes reply) from ballot round k off =
    either (λ (r : Leader × LeadOut). row_at k r.0.table.rows ≡ row_at k l.table.rows) (counts ballot round asked l) _ _ (going_keeps key l w (state_of (heard_from from votes)) asked (heard_from from votes) reply k off) refl
stood_keeps key l (Some w) stages.Idle from ballot round k off = refl
stood_keeps key l (Some w) (stages.Reading asked votes best) from ballot round k off = refl
stood_keeps key l (Some w) (stages.Putting o digest acks rewrite) from ballot round k off = refl

pub check_keeps : (from : ℕ) (ballot : Epoch) (round : ℕ) (key : List ℕ) (l : Leader) → check_at round l.table.checks ≡ Some key → KeepsOthers key l.table (row_33_reply from ballot round l).0.table
check_keeps from ballot round key l found =
    subst (λ (o : Option (List ℕ)). KeepsOthers key l.table (stood_at o from ballot round l).0.table) (sym found) (stood_keeps key l (running key l.table.calls) (row_at key l.table.rows).stage from ballot round)

pub check_unknown : (from : ℕ) (ballot : Epoch) (round : ℕ) (l : Leader) → check_at round l.table.checks ≡ None → row_33_reply from ballot round l ≡ idle l
check_unknown from ballot round l none = ap (λ (o : Option (List ℕ)). stood_at o from ballot round l) none

-- ## Ticks

-- with a call on the key before these, none of these is the running call of the key
not_first : (k : List ℕ) (before calls : List Waiting) → (waiting_on k before ≡ 0 → ⊥) → HasKey k (due_after before calls) → ⊥
not_first k before [] some has = has
not_first k before (w ∷ ws) some has = by_age (is_due w) has (not_first k (before ++ w ∷ []) ws (λ none. some (fewer before none)))
  where
    fewer : (vs : List Waiting) → waiting_on k (vs ++ w ∷ []) ≡ 0 → waiting_on k vs ≡ 0
    fewer [] none = refl
    fewer (v ∷ vs) none = by_key (same_bytes v.key k) none (fewer vs)
      where
        by_key : (b : Bool) → cond b (waiting_on k (vs ++ w ∷ []) + 1) (waiting_on k (vs ++ w ∷ [])) ≡ 0 → (waiting_on k (vs ++ w ∷ []) ≡ 0 → waiting_on k vs ≡ 0) → cond b (waiting_on k vs + 1) (waiting_on k vs) ≡ 0
        by_key true h later = absurd (omega (arith, h))
        by_key false h later = later h

    by_first : (b : Bool) → (waiting_on w.key before == 0) ≡ b → (if b then Some w.key else None) ≡ Some k → ⊥
    by_first true e same = some (subst (λ (q : List ℕ). waiting_on q before ≡ 0) (same_key same) (eqb-true (waiting_on w.key before) 0 e))
      where
        same_key : Some w.key ≡ Some k → w.key ≡ k
        same_key s = cc
    by_first false e same = absurd cc

    by_age : (b : Bool) → HasKey k (cond b (record { from = w.from; id = w.id; running = key_if_running before w } ∷ due_after (before ++ w ∷ []) ws) (due_after (before ++ w ∷ []) ws)) → (HasKey k (due_after (before ++ w ∷ []) ws) → ⊥) → ⊥
    by_age true (inl first) later = by_first (waiting_on w.key before == 0) refl first
    by_age true (inr rest) later = later rest
    by_age false rest later = later rest

-- the first of these calls, and those after it
module _ (k : List ℕ) (before : List Waiting) (w : Waiting) (ws : List Waiting) where
  -- the calls that are due, by whether the first is
  abbrev due_from : Bool → List DueCall
  due_from b = cond b (record { from = w.from; id = w.id; running = key_if_running before w } ∷ due_after (before ++ w ∷ []) ws) (due_after (before ++ w ∷ []) ws)

  some_before : same_bytes w.key k ≡ true → (vs : List Waiting) → waiting_on k (vs ++ w ∷ []) ≡ 0 → ⊥
  some_before on [] none = let one : cond true 1 0 ≡ 0 = sym (ap (λ (b : Bool). cond b 1 0) on) ∙ none in omega (arith, one)
  some_before on (v ∷ vs) none = by_v (same_bytes v.key k) none (some_before on vs)
    where
      by_v : (b : Bool) → cond b (waiting_on k (vs ++ w ∷ []) + 1) (waiting_on k (vs ++ w ∷ [])) ≡ 0 → (waiting_on k (vs ++ w ∷ []) ≡ 0 → ⊥) → ⊥
      by_v true h later = absurd (omega (arith, h))
      by_v false h later = later h

  by_age : (b : Bool) → is_due w ≡ b → same_bytes w.key k ≡ true → HasKey k (due_from b) → is_due w ≡ true
  by_age true age on here = age
  by_age false age on here = absurd (not_first k (before ++ w ∷ []) ws (some_before on before) here)

  same_key : Some w.key ≡ Some k → w.key ≡ k
  same_key s = cc

  by_first : (b : Bool) → same_bytes w.key k ≡ false → (if b then Some w.key else None) ≡ Some k → ⊥
  by_first true off same = true≢false (sym (bytes_itself k) ∙ ap (λ (q : List ℕ). same_bytes q k) (sym (same_key same)) ∙ off)
  by_first false off same = absurd cc

  other : (b : Bool) → same_bytes w.key k ≡ false → HasKey k (due_from b) → HasKey k (due_after (before ++ w ∷ []) ws)
  other true off (inl first) = absurd (by_first (waiting_on w.key before == 0) off first)
  other true off (inr rest) = rest
  other false off rest = rest

  first_or_later : HasKey k (due_after before (w ∷ ws)) → (HasKey k (due_after (before ++ w ∷ []) ws) → IsRunningDue k ws) → IsRunningDue k (w ∷ ws)
  first_or_later has later = by_key (same_bytes w.key k) refl
    where
      by_key : (b : Bool) → same_bytes w.key k ≡ b → IsRunningDue k (w ∷ ws)
      by_key true on = (w, ap (λ (b : Bool). cond b (Some w) (running k ws)) on, by_age (is_due w) refl on has)
      by_key false off = let rest = later (other (is_due w) off has) in (rest.0, ap (λ (b : Bool). cond b (Some w) (running k ws)) off ∙ rest.1, rest.2)

-- a key among those whose running call is due has such a call
due_running : (k : List ℕ) (before calls : List Waiting) → HasKey k (due_after before calls) → IsRunningDue k calls
due_running k before [] has = absurd has
due_running k before (w ∷ ws) has = first_or_later k before w ws has (due_running k (before ++ w ∷ []) ws)

still : (key k : List ℕ) (t : CallTable) → same_bytes key k ≡ false → row_at k (rested key t).rows ≡ row_at k t.rows
unfolding rested
still key k t off = stage_other key k stages.Idle t.rows off

all_still : (ds : List DueCall) (k : List ℕ) (t : CallTable) → (HasKey k ds → ⊥) → row_at k (rested_all ds t).rows ≡ row_at k t.rows
all_still [] k t none = refl
all_still (d ∷ ds) k t none = by_running d.running refl (all_still ds k)
  where
    by_running : (key : Option (List ℕ)) → d.running ≡ key → ((u : CallTable) → (HasKey k ds → ⊥) → row_at k (rested_all ds u).rows ≡ row_at k u.rows) → row_at k (rested_all ds (rested_if key t)).rows ≡ row_at k t.rows
    by_running None e later = later t (λ has. none (inr has))
    by_running (Some key) e later = later (rested key t) (λ has. none (inr has)) ∙ still key k t (apart (same_bytes key k) refl)
      where
        apart : (b : Bool) → same_bytes key k ≡ b → b ≡ false
        apart false off = refl
        apart true on = absurd (none (inl (e ∙ ap Some (bytes_same key k on))))

-- the leader after a tick
abbrev ticked : Bool → Leader → Leader × LeadOut
ticked late l = if late then (record l { table = aged l.table }, leaves) else (record l { table = without_due (aged l.table) }, timed_out (due (map older l.table.calls)) (comes (OnKeys key_rules.StartNextCall)))

ticks_keep : (late : Bool) (k : List ℕ) (l : Leader) → ¬ IsRunningDue k (map older l.table.calls) → row_at k (ticked late l).0.table.rows ≡ row_at k l.table.rows
ticks_keep true k l none = refl
ticks_keep false k l none = ap (row_at k) (without_due_rows (aged l.table)) ∙ all_still (due (map older l.table.calls)) k (aged l.table) (λ has. none (due_running k [] (map older l.table.calls) has))

pub tick_keeps : (finishing : Finishing) (k : List ℕ) (l : Leader) → ¬ IsRunningDue k (map older l.table.calls) → row_at k (row_5_calls finishing l).0.table.rows ≡ row_at k l.table.rows
tick_keeps finishing k l none = ticks_keep (late_put (aged l.table) || is_late finishing) k l none
