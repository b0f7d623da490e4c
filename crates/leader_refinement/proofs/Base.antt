-- How a change of one key of the program's leader is a change of one row of the theory's leader.
use Rattle.std.specs.Prelude.{All, IsSome}
use Rattle.std.proofs.Common.{◌≡◌, ℕ, Bool, true, false, if◌then◌else◌, cond, List, [], ◌∷◌, ◌++◌, Option, Some, None, refl, sym, ap, subst, ◌∙◌}
use Rattle.std.proofs.lemmas.List.{append-nil}
use Rattle.std.proofs.lemmas.List.Elements.{All-nil}
use Rattle.ens_base.specs.Lists.{same_bytes}
use Rattle.ens_base.proofs.Lists.{bytes_same, bytes_itself}
use Rattle.protocol_laws.specs.Book.{Book}
use Rattle.protocol_laws.specs.Numbers.{epoch_number}
use Rattle.protocol_laws.specs.Protocol.{State, Step, after}
use Rattle.call_table.specs.Calls.{running, without_running}
use Rattle.call_table.specs.Rows.{Rows, row_at, with_stage, with_known}
use Rattle.call_table.specs.Tables.{ended, rested}
use Rattle.call_table.specs.declared.row.KeyRow.{KeyRow}
use Rattle.call_table.specs.declared.row.Known.{Known}
use Rattle.call_table.specs.declared.row.Stage.{Stage}
use Rattle.call_table.specs.declared.row.Stage.TheVariants as stages
use Rattle.call_table.specs.declared.table.CallTable.{CallTable}
use Rattle.call_table.specs.declared.waiting.Waiting.{Waiting}
use Rattle.leader_laws.proofs.Lookups.{row_here, stage_other, known_other, running_other}
use Rattle.leader.specs.declared.leader.Leader.{Leader}
use Rattle.leader.specs.declared.pending.Pending.{Pending}
use Rattle.leader.specs.declared.pending.Pending.TheVariants as tasks
use Rattle.leader_output.specs.Outs.{rests, leads_on}
use Rattle.leader.specs.Leaders.{with_task}
use Rattle.leader_laws.specs.Steps.{Fits, IsCalm}
use Rattle.phase_rows.specs.declared.phase.Then.TheVariants.{OnKeys}
use Rattle.phase_rows.specs.declared.rules.KeyRule.{KeyRule}
use Rattle.leader_output.specs.declared.out.AnswerOut.{AnswerOut}
use Rattle.leader_output.specs.declared.out.LeadOut.{LeadOut}
use Rattle.leader_output.specs.declared.out.Outgoing.{Outgoing}
use Rattle.register_model.specs.declared.note.Note.{Note}
use Rattle.role_laws.proofs.LeaderMoves.{row_set, next_begins}
use Rattle.role_laws.proofs.Rounds.{move_same}
use Rattle.role_laws.proofs.Tables.{leader_same}
use Rattle.role_laws.specs.Leaders.{RowHolds, LeaderHolds}
use Rattle.role_laws.specs.Moves.{IsLeaderMove}
use Rattle.role_laws.specs.Tables as theory
use Rattle.role_laws.specs.Tables.{Ghosts, Owed, Seat}
use Rattle.leader_laws.proofs.Moves.{runs as runs_now}
use Rattle.leader_refinement.specs.Seen.{ids_on, waiting_behind, row_parts, row_seen, task_on, table_of, owed_after, known_of}
use Rattle.leader_refinement.specs.Follows.{IsAtWork, CallsAgree, TaskHolds, IsReadyFor, NextFits, Follows, SentSays, Hash, RowFits, StageFits}

-- ## One row

pub task_here : (key : List ℕ) (task : Pending) → task_on key task key ≡ task
task_here key task = rw (bytes_itself key) refl

-- the row of the key at work
pub row_of_work : (g : Ghosts) (s : State) (key : List ℕ) (owed : List Owed) (l : Leader) → LeaderHolds g s (table_of key owed l) → RowHolds g s (record { peer = l.me; owed = owed }) (epoch_number l.fact.epoch) key (row_seen l.task key l.table)
row_of_work g s key owed l holds = subst (λ (t : Pending). RowHolds g s (record { peer = l.me; owed = owed }) (epoch_number l.fact.epoch) key (row_seen t key l.table)) (task_here key l.task) (holds.rows key)

-- so, with the call, the task and the stage that it has there
pub row_told : (g : Ghosts) (s : State) (key : List ℕ) (owed : List Owed) (l : Leader) → LeaderHolds g s (table_of key owed l) → (call : Option Waiting) → running key l.table.calls ≡ call → (task : Pending) → l.task ≡ task → (stage : Stage) → (row_at key l.table.rows).stage ≡ stage
    → RowHolds g s (record { peer = l.me; owed = owed }) (epoch_number l.fact.epoch) key (row_parts (row_at key l.table.rows).known call task stage (waiting_behind key l.table.calls))
row_told g s key owed l holds call is task at_hand stage stands = subst (λ (st : Stage). RowHolds g s (record { peer = l.me; owed = owed }) (epoch_number l.fact.epoch) key (row_parts (row_at key l.table.rows).known call task st (waiting_behind key l.table.calls))) stands
    (subst (λ (c : Option Waiting). RowHolds g s (record { peer = l.me; owed = owed }) (epoch_number l.fact.epoch) key (row_parts (row_at key l.table.rows).known c task (row_at key l.table.rows).stage (waiting_behind key l.table.calls))) is
    (subst (λ (t : Pending). RowHolds g s (record { peer = l.me; owed = owed }) (epoch_number l.fact.epoch) key (row_parts (row_at key l.table.rows).known (running key l.table.calls) t (row_at key l.table.rows).stage (waiting_behind key l.table.calls))) at_hand (row_of_work g s key owed l holds)))

-- the rows of all other keys are the same
abbrev pub Elsewhere : List ℕ → CallTable → CallTable → Type 0
Elsewhere key old new = (j : List ℕ) → same_bytes key j ≡ false → row_seen tasks.Nothing j old ≡ row_seen tasks.Nothing j new

-- of these rows too
abbrev pub AreElsewhere : List ℕ → (List ℕ → theory.KeyRow) → CallTable → Type 0
AreElsewhere key rows new = (j : List ℕ) → same_bytes key j ≡ false → rows j ≡ row_seen tasks.Nothing j new

pub set_off : (key : List ℕ) (task : Pending) (old new : CallTable) (row : theory.KeyRow) → Elsewhere key old new → AreElsewhere key (theory.set_row (λ j. row_seen (task_on key task j) j old) key row) new
set_off key task old new row others j off = rw off (others j off)

pub off_same : (key : List ℕ) (owed : List Owed) (l : Leader) → AreElsewhere key (table_of key owed l).rows l.table
off_same key owed l j off = rw off refl

-- a row that was set is found
pub set_here : (rows : List ℕ → theory.KeyRow) (key : List ℕ) (row : theory.KeyRow) → theory.set_row rows key row key ≡ row
set_here rows key row = rw (bytes_itself key) refl

rows_agree : (key : List ℕ) (task : Pending) (rows : List ℕ → theory.KeyRow) (new : CallTable) → AreElsewhere key rows new → (j : List ℕ) → theory.set_row rows key (row_seen task key new) j ≡ row_seen (task_on key task j) j new
rows_agree key task rows new others j = by_key (same_bytes key j) refl
  where
    by_key : (b : Bool) → same_bytes key j ≡ b → (if b then row_seen task key new else rows j) ≡ row_seen (if b then task else tasks.Nothing) j new
    by_key true on = ap (λ (k : List ℕ). row_seen task k new) (bytes_same key j on)
    by_key false off = others j off

-- a move of the theory, whose row at the key also holds in the form of the program
pub finish : (g h : Ghosts) (s : State) (steps : List Step) (t : theory.Leader) (key : List ℕ) (task : Pending) (new : CallTable) → IsLeaderMove g s steps h t → AreElsewhere key t.rows new → RowHolds h (after s steps) t.seat t.epoch key (row_seen task key new)
    → IsLeaderMove g s steps h (record t { rows = λ j. row_seen (task_on key task j) j new })
finish g h s steps t key task new move others row = record {
  may = move.may;
  holds = leader_same h (after s steps) (theory.with_row t key (row_seen task key new)) (λ j. row_seen (task_on key task j) j new) (rows_agree key task t.rows new others) (row_set h (after s steps) t key (row_seen task key new) move.holds row);
  own = move.own;
  ghosts = move.ghosts;
  turns = move.turns;
}

-- a move of the theory, with this row too
pub with_row_too : (g h : Ghosts) (s : State) (steps : List Step) (t : theory.Leader) (key : List ℕ) (row : theory.KeyRow) → IsLeaderMove g s steps h t → RowHolds h (after s steps) t.seat t.epoch key row → IsLeaderMove g s steps h (theory.with_row t key row)
with_row_too g h s steps t key row move holds = record { may = move.may; holds = row_set h (after s steps) t key row move.holds holds; own = move.own; ghosts = move.ghosts; turns = move.turns }

pub no_move : (g : Ghosts) (s : State) (t : theory.Leader) → LeaderHolds g s t → IsLeaderMove g s [] g t
no_move g s t holds = move_same g s [] t tt holds tt

pub same_elsewhere : (key : List ℕ) (table : CallTable) → Elsewhere key table table
same_elsewhere key table j off = refl

-- ## Tables

pub stage_row : (key : List ℕ) (stage : Stage) (rows : Rows) → row_at key (with_stage key stage rows) ≡ record (row_at key rows) { stage = stage }
unfolding with_stage
stage_row key stage rows = row_here key (record (row_at key rows) { stage = stage }) rows

pub known_row : (key : List ℕ) (known : Known) (rows : Rows) → row_at key (with_known key known rows) ≡ record (row_at key rows) { known = known }
unfolding with_known
known_row key known rows = row_here key (record (row_at key rows) { known = known }) rows

behind_other : (key k : List ℕ) (calls : List Waiting) → same_bytes key k ≡ false → (ids_on k (without_running key calls) ≡ ids_on k calls) × (waiting_behind k (without_running key calls) ≡ waiting_behind k calls)
behind_other key k [] off = (refl, refl)
behind_other key k (v ∷ calls) off = by_key (same_bytes v.key key) refl (behind_other key k calls off)
  where
    by_key : (b : Bool) → same_bytes v.key key ≡ b → (ids_on k (without_running key calls) ≡ ids_on k calls) × (waiting_behind k (without_running key calls) ≡ waiting_behind k calls)
        → (ids_on k (cond b calls (v ∷ without_running key calls)) ≡ ids_on k (v ∷ calls)) × (waiting_behind k (cond b calls (v ∷ without_running key calls)) ≡ waiting_behind k (v ∷ calls))
    by_key true on later =
        let here : same_bytes v.key k ≡ false = subst (λ (q : List ℕ). same_bytes q k ≡ false) (sym (bytes_same v.key key on)) off in
        (sym (ap (λ (b : Bool). cond b (v.id ∷ ids_on k calls) (ids_on k calls)) here), sym (ap (λ (b : Bool). cond b (ids_on k calls) (waiting_behind k calls)) here))
    by_key false on later =
        (ap (λ (xs : List ℕ). cond (same_bytes v.key k) (v.id ∷ xs) xs) later.0, rw (later.0, later.1) refl)

-- the row of another key, after the stage of the key has changed
pub stands_elsewhere : (key : List ℕ) (stage : Stage) (t : CallTable) → Elsewhere key t (record t { rows = with_stage key stage t.rows })
stands_elsewhere key stage t j off = ap (λ (row : KeyRow). row_parts row.known (running j t.calls) tasks.Nothing row.stage (waiting_behind j t.calls)) (sym (stage_other key j stage t.rows off))

pub knows_elsewhere : (key : List ℕ) (known : Known) (t : CallTable) → Elsewhere key t (record t { rows = with_known key known t.rows })
knows_elsewhere key known t j off = ap (λ (row : KeyRow). row_parts row.known (running j t.calls) tasks.Nothing row.stage (waiting_behind j t.calls)) (sym (known_other key j known t.rows off))

parts_same : (k : List ℕ) (old new : KeyRow) (a b : Option Waiting) (xs ys : List ℕ) → old ≡ new → a ≡ b → xs ≡ ys → row_parts old.known a tasks.Nothing old.stage xs ≡ row_parts new.known b tasks.Nothing new.stage ys
parts_same k old new a b xs ys e f h = rw (e, f, h) refl

pub ended_elsewhere : (key : List ℕ) (t : CallTable) → Elsewhere key t (ended key t)
unfolding ended rested
ended_elsewhere key t j off = parts_same j (row_at j t.rows) (row_at j (with_stage key stages.Idle t.rows)) (running j t.calls) (running j (without_running key t.calls)) (waiting_behind j t.calls) (waiting_behind j (without_running key t.calls))
    (sym (stage_other key j stages.Idle t.rows off)) (sym (running_other key j t.calls off)) (sym (behind_other key j t.calls off).1)

-- ## The calls of a key

-- the first of these calls runs, if there is one, and the others wait
abbrev pub IsSplit : Option Waiting → List ℕ → List ℕ → Type 0
IsSplit None ids rest = (ids ≡ []) × (rest ≡ [])
IsSplit (Some w) ids rest = ids ≡ w.id ∷ rest

pub calls_split : (key : List ℕ) (calls : List Waiting) → IsSplit (running key calls) (ids_on key calls) (waiting_behind key calls)
calls_split key [] = (refl, refl)
calls_split key (v ∷ calls) = by_key (same_bytes v.key key) (calls_split key calls)
  where
    by_key : (b : Bool) → IsSplit (running key calls) (ids_on key calls) (waiting_behind key calls) → IsSplit (cond b (Some v) (running key calls)) (cond b (v.id ∷ ids_on key calls) (ids_on key calls)) (cond b (ids_on key calls) (waiting_behind key calls))
    by_key true later = refl
    by_key false later = later

-- without the running call, those that waited behind it are left
pub left_behind : (key : List ℕ) (calls : List Waiting) (w : Waiting) → running key calls ≡ Some w → ids_on key (without_running key calls) ≡ waiting_behind key calls
left_behind key [] w e = absurd cc
left_behind key (v ∷ calls) w e = by_key (same_bytes v.key key) refl e (left_behind key calls w)
  where
    by_key : (b : Bool) → same_bytes v.key key ≡ b → cond b (Some v) (running key calls) ≡ Some w → (running key calls ≡ Some w → ids_on key (without_running key calls) ≡ waiting_behind key calls)
        → ids_on key (cond b calls (v ∷ without_running key calls)) ≡ cond b (ids_on key calls) (waiting_behind key calls)
    by_key true on h later = refl
    by_key false off h later = rw off (later h)

-- an idle row, whose first call, if any, begins
pub begins : (g : Ghosts) (s : State) (p : Seat) (d : ℕ) (key : List ℕ) (known : Known) (call : Option Waiting) (ids rest : List ℕ) → IsSplit call ids rest → RowHolds g s p d key (theory.row_of (known_of known) theory.Idle ids) → RowHolds g s p d key (row_parts known call tasks.Nothing stages.Idle rest)
begins g s p d key known None ids rest split row = subst (λ (xs : List ℕ). RowHolds g s p d key (theory.row_of (known_of known) theory.Idle xs)) (split.0 ∙ sym split.1) row
begins g s p d key known (Some w) ids rest split row = next_begins g s p d key (known_of known) rest w.id (subst (λ (xs : List ℕ). RowHolds g s p d key (theory.row_of (known_of known) theory.Idle xs)) split row)

-- ## What the program keeps

pub agree_running : (b : Book) (key : List ℕ) (calls : List Waiting) (w : Waiting) → CallsAgree b calls → running key calls ≡ Some w → (b.asked w.id).command ≡ w.command
agree_running b key [] w agree e = absurd cc
agree_running b key (v ∷ calls) w agree e = by_key (same_bytes v.key key) e (agree_running b key calls w agree.1)
  where
    by_key : (t : Bool) → cond t (Some v) (running key calls) ≡ Some w → (running key calls ≡ Some w → (b.asked w.id).command ≡ w.command) → (b.asked w.id).command ≡ w.command
    by_key true h later = subst (λ (x : Waiting). (b.asked x.id).command ≡ x.command) (some_same v w h) agree.0.1
      where
        some_same : (x y : Waiting) → Some x ≡ Some y → x ≡ y
        some_same x y e = cc
    by_key false h later = later h

pub agree_without : (b : Book) (key : List ℕ) (calls : List Waiting) → CallsAgree b calls → CallsAgree b (without_running key calls)
agree_without b key [] agree = tt
agree_without b key (v ∷ calls) agree = by_key (same_bytes v.key key) (agree_without b key calls agree.1)
  where
    by_key : (t : Bool) → CallsAgree b (without_running key calls) → CallsAgree b (cond t calls (v ∷ without_running key calls))
    by_key true later = agree.1
    by_key false later = (agree.0, later)

-- what fits of each row still does after a change at one key
pub rows_fit : (hash : Hash) (views : List (List ℕ)) (key : List ℕ) (old new : Rows) → ((j : List ℕ) → same_bytes key j ≡ false → row_at j new ≡ row_at j old) → RowFits hash views key (row_at key new) → ((j : List ℕ) → RowFits hash views j (row_at j old)) → (j : List ℕ) → RowFits hash views j (row_at j new)
rows_fit hash views key old new others here fits j = by_key (same_bytes key j) refl
  where
    by_key : (b : Bool) → same_bytes key j ≡ b → RowFits hash views j (row_at j new)
    by_key true on = subst (λ (k : List ℕ). RowFits hash views k (row_at k new)) (bytes_same key j on) here
    by_key false off = subst (λ (row : KeyRow). RowFits hash views j row) (sym (others j off)) (fits j)

pub staged_fits : (hash : Hash) (views : List (List ℕ)) (key : List ℕ) (stage : Stage) (rows : Rows) → StageFits hash key views stage → ((j : List ℕ) → RowFits hash views j (row_at j rows)) → (j : List ℕ) → RowFits hash views j (row_at j (with_stage key stage rows))
staged_fits hash views key stage rows new fits = rows_fit hash views key rows (with_stage key stage rows) (λ j off. stage_other key j stage rows off)
    (subst (λ (row : KeyRow). RowFits hash views key row) (sym (stage_row key stage rows)) ((fits key).0, new)) fits

pub ended_fits : (hash : Hash) (views : List (List ℕ)) (key : List ℕ) (t : CallTable) → ((j : List ℕ) → RowFits hash views j (row_at j t.rows)) → (j : List ℕ) → RowFits hash views j (row_at j (ended key t).rows)
unfolding ended rested
ended_fits hash views key t fits = staged_fits hash views key stages.Idle t.rows tt fits

-- ## A key without a call is idle

-- after a change of the stage of a key that has one
pub calm_staged : (key : List ℕ) (stage : Stage) (t : CallTable) (w : Waiting) → running key t.calls ≡ Some w → IsCalm t → IsCalm (record t { rows = with_stage key stage t.rows })
calm_staged key stage t w is calm k none = by_key (same_bytes key k) refl
  where
    some_call : Some w ≡ None → ⊥
    some_call e = cc

    by_key : (b : Bool) → same_bytes key k ≡ b → (row_at k (with_stage key stage t.rows)).stage ≡ stages.Idle
    by_key true on = absurd (some_call (sym is ∙ ap (λ (j : List ℕ). running j t.calls) (bytes_same key k on) ∙ none))
    by_key false off = ap (λ (row : KeyRow). row.stage) (stage_other key k stage t.rows off) ∙ calm k none

pub calm_known : (key : List ℕ) (known : Known) (t : CallTable) → IsCalm t → IsCalm (record t { rows = with_known key known t.rows })
calm_known key known t calm k none = by_key (same_bytes key k) refl
  where
    by_key : (b : Bool) → same_bytes key k ≡ b → (row_at k (with_known key known t.rows)).stage ≡ stages.Idle
    by_key true on = subst (λ (j : List ℕ). (row_at j (with_known key known t.rows)).stage ≡ stages.Idle) (bytes_same key k on)
        (ap (λ (row : KeyRow). row.stage) (known_row key known t.rows) ∙ calm key (ap (λ (j : List ℕ). running j t.calls) (bytes_same key k on) ∙ none))
    by_key false off = ap (λ (row : KeyRow). row.stage) (known_other key k known t.rows off) ∙ calm k none

pub calm_ended : (key : List ℕ) (t : CallTable) → IsCalm t → IsCalm (ended key t)
unfolding ended rested
calm_ended key t calm k none = by_key (same_bytes key k) refl none
  where
    by_key : (b : Bool) → same_bytes key k ≡ b → running k (without_running key t.calls) ≡ None → (row_at k (with_stage key stages.Idle t.rows)).stage ≡ stages.Idle
    by_key true on none = subst (λ (j : List ℕ). (row_at j (with_stage key stages.Idle t.rows)).stage ≡ stages.Idle) (bytes_same key k on) (ap (λ (row : KeyRow). row.stage) (stage_row key stages.Idle t.rows))
    by_key false off none = ap (λ (row : KeyRow). row.stage) (stage_other key k stages.Idle t.rows off) ∙ calm k (sym (running_other key k t.calls off) ∙ none)

-- ## Nothing changes

module _ (g : Ghosts) (s : State) (key : List ℕ) (owed : List Owed) (l : Leader) (work : IsAtWork g s key owed l) where
  -- the leader stays as it is, and owes and notes nothing
  pub stays : (out : LeadOut) → out.answers ≡ [] → out.notes ≡ [] → out.sends ≡ [] → IsReadyFor out.then key l → NextFits key l out.own out.then out.keys → Follows g s key owed l (l, out)
  stays out answers notes sends ready next = record {
    steps = [];
    ghosts = g;
    move = subst (λ (given : List AnswerOut). IsLeaderMove g s [] g (table_of key (owed_after owed given) l)) (sym answers) (no_move g s (table_of key owed l) work.holds);
    kinds = tt;
    turns = work.turns;
    fits = work.fits;
    same = (refl, (refl, refl));
    task = work.task;
    notes = sym (ap (λ (told : List Note). s.book.notes ++ told) notes ∙ append-nil s.book.notes);
    sends = subst (λ (sent : List Outgoing). All (SentSays g s) sent) (sym sends) (All-nil (SentSays g s));
    ready = ready;
    next = next;
  }

  pub rests_so : l.task ≡ tasks.Nothing → Follows g s key owed l (l, rests)
  rests_so free = stays rests refl refl refl tt (refl, free)

  -- the leader has a task for the running call of the key, on whose row what leads to it holds
  pub tasked_so : (w : Waiting) → running key l.table.calls ≡ Some w → (rule : KeyRule) (task : Pending)
      → RowHolds g s (record { peer = l.me; owed = owed }) (epoch_number l.fact.epoch) key (row_parts (row_at key l.table.rows).known (Some w) task (row_at key l.table.rows).stage (waiting_behind key l.table.calls))
      → TaskHolds s (with_task task l) key (row_at key l.table.rows).known (Some w) task → IsReadyFor (OnKeys rule) key l → (IsSome (running key l.table.calls) → Fits rule key (with_task task l) task)
      → Follows g s key owed l (with_task task l, leads_on rule key)
  tasked_so w is rule task row holds ready suits = record {
    steps = [];
    ghosts = g;
    move = finish g g s [] (table_of key owed l) key task l.table (no_move g s (table_of key owed l) work.holds) (off_same key owed l)
        (subst (λ (call : Option Waiting). RowHolds g s (record { peer = l.me; owed = owed }) (epoch_number l.fact.epoch) key (row_parts (row_at key l.table.rows).known call task (row_at key l.table.rows).stage (waiting_behind key l.table.calls))) (sym is) row);
    kinds = tt;
    turns = work.turns;
    fits = record { epoch = work.fits.epoch; seq = work.fits.seq; views = work.fits.views; rows = work.fits.rows; calls = work.fits.calls; calm = work.fits.calm };
    same = (refl, (refl, refl));
    task = subst (λ (call : Option Waiting). TaskHolds s (with_task task l) key (row_at key l.table.rows).known call task) (sym is) holds;
    notes = sym (append-nil s.book.notes);
    sends = All-nil (SentSays g s);
    ready = ready;
    next = (refl, suits (runs_now key l.table.calls w is));
  }
