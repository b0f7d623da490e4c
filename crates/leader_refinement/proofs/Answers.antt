-- A call is answered: its row is idle, and the next call of the key begins. Rule 34 is a move of the
-- theory.
use Rattle.std.specs.Prelude.{All}
use Rattle.std.proofs.Common.{◌≡◌, inr, ℕ, false, List, [], ◌∷◌, ◌++◌, Option, Some, None, refl, sym, ap, subst, ◌∙◌}
use Rattle.std.proofs.lemmas.List.Elements.{All-nil}
use Rattle.ens_base.specs.declared.command.Command.{Command}
use Rattle.ens_base.specs.declared.reply.Reply.{Reply}
use Rattle.register_model.specs.declared.register.Register.{Register}
use Rattle.phase_rows.specs.declared.phase.Then.TheVariants.{Stay}
use Rattle.phase_rows.specs.declared.rules.KeyRule.TheVariants as key_rules
use Rattle.ens_base.specs.declared.epoch.Version.{Version}
use Rattle.stored_formats.specs.declared.object.Object.{Object}
use Rattle.object_commands.specs.Commands.{verdict_of}
use Rattle.register_model.specs.Registers.{Outcome, Keeps, Writes, outcome}
use Rattle.register_model.specs.declared.note.Note.{Note as Told}
use Rattle.register_model.specs.declared.note.Note.TheVariants.{Read}
use Rattle.protocol_laws.specs.Book.{Book, register_at, version_or_none}
use Rattle.protocol_laws.specs.Numbers.{epoch_number}
use Rattle.protocol_laws.specs.Protocol.{State, Step, Note, IsRun, state_after, after}
use Rattle.call_table.specs.Calls.{running, without_running}
use Rattle.call_table.specs.Rows.{row_at, base_of}
use Rattle.call_table.specs.Tables.{ended, rested}
use Rattle.call_table.specs.declared.row.KeyRow.{KeyRow}
use Rattle.call_table.specs.declared.row.Stage.TheVariants as stages
use Rattle.call_table.specs.declared.table.CallTable.{CallTable}
use Rattle.call_table.specs.declared.waiting.Waiting.{Waiting}
use Rattle.leader_output.specs.declared.out.Outgoing.{Outgoing}
use Rattle.leader.specs.Leaders.{base, answered, concluded, with_task}
use Rattle.leader.specs.Rounds.{register_at as object_register, applied_for}
use Rattle.leader.specs.declared.leader.Leader.{Leader}
use Rattle.leader_laws.proofs.Moves.{free as ready_free}
use Rattle.leader.specs.declared.pending.Pending.{Pending}
use Rattle.leader.specs.declared.pending.Pending.TheVariants as tasks
use Rattle.role_laws.proofs.Acts.{sure_began}
use Rattle.role_laws.proofs.Guards.{settled_parent}
use Rattle.role_laws.proofs.Runs.{run_leaders, run_tables}
use Rattle.role_laws.specs.LeaderLaws.{LeadersMove, TablesStay}
use Rattle.role_laws.specs.Leaders.{RowHolds, TurnsHold, IsParent}
use Rattle.role_laws.specs.Moves.{IsLeaderMove}
use Rattle.role_laws.specs.Tables as theory
use Rattle.role_laws.specs.Tables.{Ghosts, Owed, Seat}
use Rattle.leader_refinement.proofs.Base.{AreElsewhere, row_of_work, finish, same_elsewhere, ended_elsewhere, stage_row, calls_split, left_behind, begins, agree_running, agree_without, ended_fits, calm_ended, set_off, set_here, tasked_so}
use Rattle.leader_refinement.proofs.Numbers.{option_back, base_rank, base_fits}
use Rattle.leader_refinement.specs.Seen.{ids_on, known_of, waiting_behind, row_parts, row_seen, table_of}
use Rattle.leader_refinement.specs.Follows.{settled_rank, ApplyHolds, TaskHolds, IsAtWork, LeaderFits, AreLeaderSteps, Follows, SentSays, CallsAgree}
use Rattle.leader_refinement.specs.Laws.{TasksApply}

-- ## The table after an answer

-- the row of the key once its running call is gone: what is known stays, and the next call begins
ended_row : (g : Ghosts) (s : State) (p : Seat) (d : ℕ) (key : List ℕ) (t : CallTable) (w : Waiting) → running key t.calls ≡ Some w → RowHolds g s p d key (theory.row_of (known_of (row_at key t.rows).known) theory.Idle (waiting_behind key t.calls)) → RowHolds g s p d key (row_seen tasks.Nothing key (ended key t))
unfolding ended rested
ended_row g s p d key t w is row = subst (λ (r : KeyRow). RowHolds g s p d key (row_parts r.known (running key (without_running key t.calls)) tasks.Nothing r.stage (waiting_behind key (without_running key t.calls)))) (sym (stage_row key stages.Idle t.rows))
    (begins g s p d key (row_at key t.rows).known (running key (without_running key t.calls)) (ids_on key (without_running key t.calls)) (waiting_behind key (without_running key t.calls)) (calls_split key (without_running key t.calls))
    (subst (λ (ids : List ℕ). RowHolds g s p d key (theory.row_of (known_of (row_at key t.rows).known) theory.Idle ids)) (sym (left_behind key t.calls w is)) row))

ended_idle : (key : List ℕ) (t : CallTable) → (row_at key (ended key t).rows).stage ≡ stages.Idle
unfolding ended rested
ended_idle key t = ap (λ (r : KeyRow). r.stage) (stage_row key stages.Idle t.rows)

ended_agrees : (b : Book) (key : List ℕ) (t : CallTable) → CallsAgree b t.calls → CallsAgree b (ended key t).calls
unfolding ended rested
ended_agrees b key t agree = agree_without b key t.calls agree

-- the seat with one more answer
abbrev pub seat_owing : Leader → List Owed → ℕ → Reply → Seat
seat_owing l owed i reply = record { peer = l.me; owed = owed ++ record { call = i; reply = reply } ∷ [] }

-- the running call is answered after a move of the theory that owes the answer
module _ (g h : Ghosts) (s : State) (steps : List Step) (key : List ℕ) (owed : List Owed) (l : Leader) (w : Waiting) (reply : Reply) (rows : List ℕ → theory.KeyRow) (free : l.task ≡ tasks.Nothing) (is : running key l.table.calls ≡ Some w) where
  pub answered_so : IsLeaderMove g s steps h (record { epoch = epoch_number l.fact.epoch; seat = seat_owing l owed w.id reply; seq = l.seq; round = l.round; rows = rows }) → AreElsewhere key rows l.table
      → RowHolds h (after s steps) (seat_owing l owed w.id reply) (epoch_number l.fact.epoch) key (theory.row_of (known_of (row_at key l.table.rows).known) theory.Idle (waiting_behind key l.table.calls))
      → TurnsHold h (after s steps) → LeaderFits h.hash (after s steps) l → AreLeaderSteps s l.me steps → (sends : List Outgoing) (notes : List Told) → (after s steps).book.notes ≡ s.book.notes ++ notes → All (SentSays h (after s steps)) sends
      → Follows g s key owed l (answered w reply key (record { leave = false; sends = sends; answers = []; notes = notes; own = None; then = Stay; keys = [] }) l)
  answered_so move others row turns fits kinds sends notes noted say = record {
    steps = steps;
    ghosts = h;
    move = finish g h s steps (record { epoch = epoch_number l.fact.epoch; seat = seat_owing l owed w.id reply; seq = l.seq; round = l.round; rows = rows }) key l.task (ended key l.table) move (λ j off. others j off ∙ ended_elsewhere key l.table j off)
        (subst (λ (task : Pending). RowHolds h (after s steps) (seat_owing l owed w.id reply) (epoch_number l.fact.epoch) key (row_seen task key (ended key l.table))) (sym free) (ended_row h (after s steps) (seat_owing l owed w.id reply) (epoch_number l.fact.epoch) key l.table w is row));
    kinds = kinds;
    turns = turns;
    fits = record { epoch = fits.epoch; seq = fits.seq; views = fits.views; rows = ended_fits h.hash l.fact.views key l.table fits.rows; calls = ended_agrees (after s steps).book key l.table fits.calls; calm = calm_ended key l.table fits.calm };
    same = (refl, (refl, refl));
    task = subst (λ (task : Pending). TaskHolds (after s steps) (record l { table = ended key l.table }) key (row_at key (ended key l.table).rows).known (running key (ended key l.table).calls) task) (sym free) tt;
    notes = noted;
    sends = say;
    ready = λ e. ended_idle key l.table;
    next = (refl, ready_free key_rules.StartNextCall key (record l { table = ended key l.table }) refl free);
  }

-- ## Rule 34

-- what a read is noted with
pub noted_base : (g : Ghosts) (s : State) (key : List ℕ) (i : ℕ) (d : ℕ) (l : Leader) → LeaderFits g.hash s l → (after s (Note i key (settled_rank (row_at key l.table.rows).known) d ∷ [])).book.notes ≡ s.book.notes ++ Read i key (base key l) ∷ []
noted_base g s key i d l fits = ap (λ (v : Option Version). s.book.notes ++ Read i key v ∷ []) (ap version_or_none (sym (base_rank (row_at key l.table.rows).known)) ∙ option_back (base_of (row_at key l.table.rows).known) (base_fits (row_at key l.table.rows).known (fits.rows key).0))

module _ (g : Ghosts) (s : State) (laws : LeadersMove s) (stay : TablesStay s) (key : List ℕ) (owed : List Owed) (l : Leader) (work : IsAtWork g s key owed l) where
  module _ (w : Waiting) (is : running key l.table.calls ≡ Some w) (current : Option Object) (task : l.task ≡ tasks.Apply current) where
    abbrev Sure_row : Option Waiting → Pending → Type 0
    Sure_row call task = RowHolds g s (record { peer = l.me; owed = owed }) (epoch_number l.fact.epoch) key (row_parts (row_at key l.table.rows).known call task (row_at key l.table.rows).stage (waiting_behind key l.table.calls))

    sure_row : RowHolds g s (record { peer = l.me; owed = owed }) (epoch_number l.fact.epoch) key (theory.row_of (known_of (row_at key l.table.rows).known) (theory.Sure w.id) (waiting_behind key l.table.calls))
    sure_row = subst (λ (call : Option Waiting). Sure_row call (tasks.Apply current)) is (subst (Sure_row (running key l.table.calls)) task (row_of_work g s key owed l work.holds))

    applies : ApplyHolds s (row_at key l.table.rows).known current
    applies = subst (λ (call : Option Waiting). TaskHolds s l key (row_at key l.table.rows).known call (tasks.Apply current)) is (subst (λ (t : Pending). TaskHolds s l key (row_at key l.table.rows).known (running key l.table.calls) t) task work.task)

    outcome_here : (o : Outcome) → outcome w.command (object_register current) ≡ o → outcome w.command (register_at s.book (settled_rank (row_at key l.table.rows).known)) ≡ o
    outcome_here o e = ap (λ (r : Register). outcome w.command r) (sym applies.register) ∙ e

    reads_now : (reply : Reply) → outcome w.command (register_at s.book (settled_rank (row_at key l.table.rows).known)) ≡ Keeps reply
        → IsLeaderMove g s (Note w.id key (settled_rank (row_at key l.table.rows).known) (epoch_number l.fact.epoch) ∷ []) g (theory.owing (table_of key owed l) key (theory.row_of (known_of (row_at key l.table.rows).known) theory.Idle (waiting_behind key l.table.calls)) w.id reply)
    reads_now reply e = (laws.rows g (table_of key owed l) key (known_of (row_at key l.table.rows).known) (waiting_behind key l.table.calls) work.holds).reads w.id reply sure_row
        (ap (λ (c : Command). outcome c (register_at s.book (settled_rank (row_at key l.table.rows).known))) (agree_running s.book key l.table.calls w work.fits.calls is) ∙ e)

    concluded_so : (o : Outcome) → outcome w.command (object_register current) ≡ o → Follows g s key owed l (concluded (verdict_of o) w key (with_task tasks.Nothing l))
    concluded_so (Writes content) e = tasked_so g s key owed l work w is key_rules.Write (tasks.Write content (base key l)) (sure_began g s (record { peer = l.me; owed = owed }) (epoch_number l.fact.epoch) key (known_of (row_at key l.table.rows).known) (waiting_behind key l.table.calls) w.id sure_row) (record {
      parent_holds = subst (λ (u : ℕ). IsParent s (epoch_number l.fact.epoch) key u) (sym (base_rank (row_at key l.table.rows).known)) (settled_parent g s (epoch_number l.fact.epoch) key (known_of (row_at key l.table.rows).known) sure_row.stage.2 (sure_row.known refl));
      applies = ap (λ (u : ℕ). outcome w.command (register_at s.book u)) (base_rank (row_at key l.table.rows).known) ∙ outcome_here (Writes content) e;
      fits = base_fits (row_at key l.table.rows).known (work.fits.rows key).0;
    }) (λ n. absurd cc) (λ runs. (refl, runs))
    concluded_so (Keeps reply) e = let move = reads_now reply (outcome_here (Keeps reply) e) in
        answered_so g g s (Note w.id key (settled_rank (row_at key l.table.rows).known) (epoch_number l.fact.epoch) ∷ []) key owed (with_task tasks.Nothing l) w reply (theory.set_row (table_of key owed l).rows key (theory.row_of (known_of (row_at key l.table.rows).known) theory.Idle (waiting_behind key l.table.calls))) refl is move
        (set_off key l.task l.table l.table (theory.row_of (known_of (row_at key l.table.rows).known) theory.Idle (waiting_behind key l.table.calls)) (same_elsewhere key l.table))
        (subst (λ (r : theory.KeyRow). RowHolds g (after s (Note w.id key (settled_rank (row_at key l.table.rows).known) (epoch_number l.fact.epoch) ∷ [])) (seat_owing l owed w.id reply) (epoch_number l.fact.epoch) key r)
        (set_here (table_of key owed l).rows key (theory.row_of (known_of (row_at key l.table.rows).known) theory.Idle (waiting_behind key l.table.calls))) (move.holds.rows key))
        (stay.turns g (Note w.id key (settled_rank (row_at key l.table.rows).known) (epoch_number l.fact.epoch) ∷ []) move.may work.turns) (record { epoch = work.fits.epoch; seq = work.fits.seq; views = work.fits.views; rows = work.fits.rows; calls = work.fits.calls; calm = work.fits.calm })
        (tt, tt) [] (Read w.id key (base key l) ∷ []) (noted_base g s key w.id (epoch_number l.fact.epoch) l work.fits) (All-nil (SentSays g (after s (Note w.id key (settled_rank (row_at key l.table.rows).known) (epoch_number l.fact.epoch) ∷ []))))

  applied_so : (current : Option Object) → l.task ≡ tasks.Apply current → (call : Option Waiting) → running key l.table.calls ≡ call → Follows g s key owed l (applied_for call (tasks.Apply current) key (with_task tasks.Nothing l))
  applied_so current task None is = absurd (subst (λ (call : Option Waiting). TaskHolds s l key (row_at key l.table.rows).known call (tasks.Apply current)) is (subst (λ (t : Pending). TaskHolds s l key (row_at key l.table.rows).known (running key l.table.calls) t) task work.task))
  applied_so current task (Some w) is = concluded_so w is current task (outcome w.command (object_register current)) refl

pub run_applies : (view : List ℕ) (steps : List Step) → IsRun view steps → TasksApply (state_after view steps)
run_applies view steps run g key owed l current work task = let s = state_after view steps in
    inr (subst (λ (t : Pending). Follows g s key owed l (applied_for (running key l.table.calls) t key (with_task tasks.Nothing l))) (sym task) (applied_so g s (run_leaders view steps run) (run_tables view steps run) key owed l work current task (running key l.table.calls) refl))
