-- A leader leaves: its unanswered calls are distinct, and each is a call of its table. And a leader
-- without a task is seen the same whatever the key is.
use Rattle.std.specs.Prelude.{map}
use Rattle.std.proofs.Common.{◌≡◌, inl, inr, ℕ, Bool, true, false, cond, if◌then◌else◌, List, [], ◌∷◌, ◌++◌, append_assoc, append-nil, Option, Some, None, refl, sym, ap, subst, ◌∙◌}
use Rattle.ens_base.specs.Lists.{◌∈◌, AreDistinct, same_bytes}
use Rattle.ens_base.proofs.Lists.{bytes_itself}
use Rattle.ens_base.specs.declared.reply.Reply.{Reply}
use Rattle.protocol_laws.specs.Book.{Book}
use Rattle.protocol_laws.specs.Protocol.{State, Step, IsRun, state_after, after}
use Rattle.call_table.specs.Calls.{running}
use Rattle.call_table.specs.Rows.{row_at}
use Rattle.call_table.specs.declared.row.Stage.{Stage}
use Rattle.call_table.specs.declared.row.Stage.TheVariants as stages
use Rattle.call_table.specs.declared.table.CallTable.{CallTable}
use Rattle.call_table.specs.declared.waiting.Waiting.{Waiting}
use Rattle.leader.specs.Ticks.{left_answer}
use Rattle.leader.specs.declared.leader.Leader.{Leader}
use Rattle.leader.specs.declared.pending.Pending.{Pending}
use Rattle.leader.specs.declared.pending.Pending.TheVariants as tasks
use Rattle.role_laws.proofs.Runs.{run_leaders}
use Rattle.role_laws.proofs.Tables.{leader_same}
use Rattle.role_laws.specs.Leaders.{LeaderHolds, OwesHold}
use Rattle.role_laws.specs.Moves.{IsLeaderMove}
use Rattle.role_laws.specs.Tables as theory
use Rattle.role_laws.specs.Tables.{Ghosts, Owed, calls_of, timeouts}
use Rattle.leader_refinement.proofs.Base.{IsSplit, calls_split}
use Rattle.leader_refinement.specs.Seen.{tasked, running_stage, ids_on, ids_of, waiting_behind, row_seen, task_on, table_of, owed_after}
use Rattle.leader_refinement.specs.Follows.{TaskHolds, IsAtWork}
use Rattle.leader_refinement.specs.Laws.{LeadersLeave, KeysChange}

-- ## The calls of a row

-- each stage that is not idle has its call
tasked_call : (task : Pending) (stage : Stage) (i : ℕ) (rest : List ℕ) → theory.with_running (tasked task stage i) rest ≡ i ∷ rest
tasked_call tasks.Nothing stages.Idle i rest = refl
tasked_call tasks.Nothing (stages.Reading round heard best) i rest = refl
tasked_call tasks.Nothing (stages.Checking round heard reply) i rest = refl
tasked_call tasks.Nothing (stages.Putting o digest acks true) i rest = refl
tasked_call tasks.Nothing (stages.Putting o digest acks false) i rest = refl
tasked_call (tasks.Apply current) stage i rest = refl
tasked_call (tasks.Propose o parent None) stage i rest = refl
tasked_call (tasks.Propose o parent (Some call)) stage i rest = refl
tasked_call task stage i rest = refl

pub running_calls : (call : Option Waiting) (task : Pending) (stage : Stage) (ids rest : List ℕ) → IsSplit call ids rest → theory.with_running (running_stage call task stage) rest ≡ ids
running_calls None task stage ids rest split = split.1 ∙ sym split.0
running_calls (Some w) task stage ids rest split = tasked_call task stage w.id rest ∙ sym split

-- the calls of the row of a key are the calls on the key
pub row_calls : (task : Pending) (key : List ℕ) (t : CallTable) → calls_of (row_seen task key t) ≡ ids_on key t.calls
row_calls task key t = running_calls (running key t.calls) task (row_at key t.rows).stage (ids_on key t.calls) (waiting_behind key t.calls) (calls_split key t.calls)

-- ## All calls

-- the calls on each key are distinct, and are on that key
record AreApart (b : Book) (calls : List Waiting) : Type 0 where
  distinct : (key : List ℕ) → AreDistinct (ids_on key calls)
  on_key : (key : List ℕ) (i : ℕ) → i ∈ ids_on key calls → (b.asked i).key ≡ key

more_on : (key : List ℕ) (w : Waiting) (ws : List Waiting) (i : ℕ) → i ∈ ids_on key ws → i ∈ ids_on key (w ∷ ws)
more_on key w ws i m = by_key (same_bytes w.key key)
  where
    by_key : (b : Bool) → i ∈ cond b (w.id ∷ ids_on key ws) (ids_on key ws)
    by_key true = inr m
    by_key false = m

rest_apart : (b : Book) (w : Waiting) (ws : List Waiting) → AreApart b (w ∷ ws) → AreApart b ws
rest_apart b w ws apart = record { distinct = λ key. by_key key (same_bytes w.key key) (apart.distinct key); on_key = λ key i m. apart.on_key key i (more_on key w ws i m) }
  where
    by_key : (key : List ℕ) (t : Bool) → AreDistinct (cond t (w.id ∷ ids_on key ws) (ids_on key ws)) → AreDistinct (ids_on key ws)
    by_key key true d = d.1
    by_key key false d = d

on_its_key : (w : Waiting) (ws : List Waiting) → ids_on w.key (w ∷ ws) ≡ w.id ∷ ids_on w.key ws
on_its_key w ws = ap (λ (b : Bool). cond b (w.id ∷ ids_on w.key ws) (ids_on w.key ws)) (bytes_itself w.key)

is_on : (w : Waiting) (ws : List Waiting) → w.id ∈ ids_on w.key (w ∷ ws)
is_on w ws = subst (λ (ids : List ℕ). w.id ∈ ids) (sym (on_its_key w ws)) (inl refl)

-- each call is on some key
on_some_key : (calls : List Waiting) (i : ℕ) → i ∈ ids_of calls → (key : List ℕ) × (i ∈ ids_on key calls)
on_some_key [] i m = absurd m
on_some_key (w ∷ ws) i (inl e) = (w.key, subst (λ (j : ℕ). j ∈ ids_on w.key (w ∷ ws)) (sym e) (is_on w ws))
on_some_key (w ∷ ws) i (inr m) = let on = on_some_key ws i m in (on.0, more_on on.0 w ws i on.1)

all_distinct : (b : Book) (calls : List Waiting) → AreApart b calls → AreDistinct (ids_of calls)
all_distinct b [] apart = tt
all_distinct b (w ∷ ws) apart = (λ m. twice (on_some_key ws w.id m), all_distinct b ws (rest_apart b w ws apart))
  where
    once : AreDistinct (w.id ∷ ids_on w.key ws)
    once = subst AreDistinct (on_its_key w ws) (apart.distinct w.key)

    twice : (key : List ℕ) × (w.id ∈ ids_on key ws) → ⊥
    twice on = once.0 (subst (λ (key : List ℕ). w.id ∈ ids_on key ws) (sym (apart.on_key on.0 w.id (more_on on.0 w ws w.id on.1)) ∙ apart.on_key w.key w.id (is_on w ws)) on.1)

module _ (g : Ghosts) (s : State) (key : List ℕ) (owed : List Owed) (l : Leader) (holds : LeaderHolds g s (table_of key owed l)) where
  pub on_row : (j : List ℕ) (i : ℕ) → i ∈ ids_on j l.table.calls → i ∈ calls_of ((table_of key owed l).rows j)
  on_row j i m = subst (λ (ids : List ℕ). i ∈ ids) (sym (row_calls (task_on key l.task j) j l.table)) m

  apart_here : AreApart s.book l.table.calls
  apart_here = record {
    distinct = λ j. subst AreDistinct (row_calls (task_on key l.task j) j l.table) (holds.rows j).distinct;
    on_key = λ j i m. ((holds.rows j).calls i (on_row j i m)).on_key;
  }

  pub ids_distinct : AreDistinct (ids_of l.table.calls)
  ids_distinct = all_distinct s.book l.table.calls apart_here

  pub ids_among : (i : ℕ) → i ∈ ids_of l.table.calls → (k : List ℕ) × (i ∈ calls_of ((table_of key owed l).rows k))
  ids_among i m = let on = on_some_key l.table.calls i m in (on.0, on_row on.0 i on.1)

-- ## Leaving

pub owed_timeouts : (owed : List Owed) (calls : List Waiting) → owed_after owed (map left_answer calls) ≡ owed ++ timeouts (ids_of calls)
owed_timeouts owed [] = sym (append-nil owed)
owed_timeouts owed (w ∷ ws) = owed_timeouts (owed ++ record { call = w.id; reply = Reply.Timeout } ∷ []) ws ∙ append_assoc owed (record { call = w.id; reply = Reply.Timeout } ∷ []) (timeouts (ids_of ws))

pub run_leaves : (view : List ℕ) (steps : List Step) → IsRun view steps → LeadersLeave (state_after view steps)
run_leaves view steps run g key owed l work = let s = state_after view steps in record {
  distinct = ids_distinct g s key owed l work.holds;
  among = ids_among g s key owed l work.holds;
  answers = owed_timeouts owed l.table.calls;
  owes = subst (λ (o : List Owed). OwesHold g s l.me o) (sym (owed_timeouts owed l.table.calls))
      ((run_leaders view steps run).leaves g (table_of key owed l) (ids_of l.table.calls) work.holds (ids_distinct g s key owed l work.holds) (ids_among g s key owed l work.holds));
}

-- ## Keys

-- without a task no key has one
pub no_task_on : (key : List ℕ) (task : Pending) (j : List ℕ) → task ≡ tasks.Nothing → task_on key task j ≡ tasks.Nothing
no_task_on key task j free = by_key (same_bytes key j)
  where
    by_key : (b : Bool) → (if b then task else tasks.Nothing) ≡ tasks.Nothing
    by_key true = free
    by_key false = refl

pub keys_alike : (key k : List ℕ) (owed : List Owed) (l : Leader) → l.task ≡ tasks.Nothing → (j : List ℕ) → (table_of key owed l).rows j ≡ (table_of k owed l).rows j
keys_alike key k owed l free j = ap (λ (task : Pending). row_seen task j l.table) (no_task_on key l.task j free ∙ sym (no_task_on k l.task j free))

works_too : (g : Ghosts) (s : State) (key k : List ℕ) (owed : List Owed) (l : Leader) → l.task ≡ tasks.Nothing → IsAtWork g s key owed l → IsAtWork g s k owed l
works_too g s key k owed l free work = record {
  holds = leader_same g s (table_of key owed l) (table_of k owed l).rows (keys_alike key k owed l free) work.holds;
  turns = work.turns;
  fits = work.fits;
  task = subst (λ (task : Pending). TaskHolds s l k (row_at k l.table.rows).known (running k l.table.calls) task) (sym free) tt;
}

moves_too : (g h : Ghosts) (s : State) (steps : List Step) (key k : List ℕ) (owed : List Owed) (l : Leader) → l.task ≡ tasks.Nothing → IsLeaderMove g s steps h (table_of key owed l) → IsLeaderMove g s steps h (table_of k owed l)
moves_too g h s steps key k owed l free move = record {
  may = move.may;
  holds = leader_same h (after s steps) (table_of key owed l) (table_of k owed l).rows (keys_alike key k owed l free) move.holds;
  own = move.own;
  ghosts = move.ghosts;
  turns = move.turns;
}

pub run_changes : (view : List ℕ) (steps : List Step) → IsRun view steps → KeysChange (state_after view steps)
run_changes view steps run = let s = state_after view steps in record {
  works = λ g key k owed l free work. works_too g s key k owed l free work;
  moves = λ g h moved key k owed l free move. moves_too g h s moved key k owed l free move;
}
