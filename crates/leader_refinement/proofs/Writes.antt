-- Rules 31 and 32, with the first run of rule 35, are moves of the theory.
use Rattle.std.proofs.Common.{◌≡◌, inl, inr, ℕ, suc, ◌<◌, ◌+◌, ◌^◌, Bool, true, false, if◌then◌else◌, List, [], ◌∷◌, ◌++◌, Option, Some, None, arith, refl, sym, ap, subst, ◌∙◌}
use Rattle.std.proofs.lemmas.Bool.Decides.{nat_tests}
use Rattle.std.proofs.lemmas.List.Elements.{All-nil}
use Rattle.std.proofs.Math.Numerals.{suc-eq-add-one}
use Rattle.phase_rows.specs.declared.rules.KeyRule.TheVariants as key_rules
use Rattle.ens_base.specs.declared.command.Command.{Command}
use Rattle.ens_base.specs.declared.epoch.Version.{Version}
use Rattle.stored_formats.specs.declared.object.Object.{Object}
use Rattle.register_model.specs.Registers.{outcome}
use Rattle.register_model.specs.declared.note.Note.TheVariants.{Proposed}
use Rattle.protocol_laws.specs.Book.{register_at, version_of, version_or_none}
use Rattle.protocol_laws.specs.Numbers.{epoch_number, IsVersion}
use Rattle.protocol_laws.specs.Protocol.{State, Step, Propose, IsRun, state_after, after}
use Rattle.call_table.specs.Calls.{running}
use Rattle.call_table.specs.Rows.{row_at}
use Rattle.call_table.specs.declared.waiting.Waiting.{Waiting}
use Rattle.leader_output.specs.Outs.{rests, leaves, leads_on, and_own, and_note}
use Rattle.leader_output.specs.declared.out.LeadOut.{LeadOut}
use Rattle.leader_output.specs.declared.out.Own.TheVariants as owns
use Rattle.leader.specs.Leaders.{with_task, is_spent}
use Rattle.leader.specs.Puts.{written_for, rewritten}
use Rattle.leader.specs.declared.leader.Leader.{Leader}
use Rattle.leader.specs.declared.pending.Pending.{Pending}
use Rattle.leader.specs.declared.pending.Pending.TheVariants as tasks
use Rattle.role_laws.proofs.Runs.{run_leaders, run_tables}
use Rattle.role_laws.specs.LeaderLaws.{LeadersMove, TablesStay}
use Rattle.role_laws.specs.Leaders.{RowHolds}
use Rattle.role_laws.specs.Moves.{IsLeaderMove, put_write, write_step}
use Rattle.role_laws.specs.Tables as theory
use Rattle.role_laws.specs.Tables.{Ghosts, Owed}
use Rattle.leader_refinement.proofs.Base.{finish, set_here, agree_running, row_told}
use Rattle.leader_refinement.proofs.Numbers.{rank_back, option_back}
use Rattle.leader_refinement.specs.Seen.{rank, rank_or_none, content_of, known_of, waiting_behind, row_parts, table_of}
use Rattle.leader_refinement.specs.Follows.{MayBeVersion, WriteHolds, RewriteHolds, TaskHolds, IsAtWork, Follows, GoesOn, SentSays}
use Rattle.leader_refinement.specs.Laws.{noted_next, WritesGoOut, RewritesGoOut}

-- a number that is not spent has a next one
next_fits : (n : ℕ) → n < 2 ^ 64 → is_spent n ≡ false → suc n < 2 ^ 64
next_fits n below unspent = grind (arith, nat_tests)

-- the version with this number, and the objects of a write and of a rewrite
abbrev numbered : Leader → ℕ → Version
numbered l n = record { epoch = l.fact.epoch; seq = n }

abbrev written_at : Leader → List ℕ → Option (List ℕ) → ℕ → Object
written_at l key content n = record { version = numbered l n; stamp = numbered l n; key = key; value = content }

abbrev again_at : Leader → List ℕ → Object → ℕ → Object
again_at l key o n = record { version = numbered l n; stamp = o.stamp; key = key; value = o.value }

-- the leader that has noted a proposal, with this number
abbrev proposing : Leader → List ℕ → ℕ → Object → Option Version → Option ℕ → Leader × LeadOut
proposing l key n o parent call = (record l { seq = n; task = tasks.Propose o parent call }, and_own (owns.Put o) (and_note (Proposed key o.version parent call) rests))

module _ (g : Ghosts) (s : State) (tables : TablesStay s) (key : List ℕ) (owed : List Owed) (l : Leader) (work : IsAtWork g s key owed l) (w : Waiting) (is : running key l.table.calls ≡ Some w) where
  next_is_version : is_spent l.seq ≡ false → IsVersion (numbered l (suc l.seq))
  next_is_version unspent = (work.fits.epoch, next_fits l.seq work.fits.seq unspent)

  -- a version is proposed and noted
  proposed_so : (o : Object) (parent : Option Version) (call : Option ℕ) (row : theory.KeyRow) → o.key ≡ key → o.version ≡ numbered l (suc l.seq) → IsVersion o.version → MayBeVersion parent → ((i : ℕ) → call ≡ Some i → i ≡ w.id) → ((i : ℕ) → call ≡ Some i → o.stamp ≡ o.version)
      → IsLeaderMove g s (Propose (rank o.version) key (rank_or_none parent) o.stamp o.value call ∷ []) g (record { epoch = epoch_number l.fact.epoch; seat = record { peer = l.me; owed = owed }; seq = suc l.seq; round = l.round; rows = theory.set_row (table_of key owed l).rows key row })
      → row ≡ row_parts (row_at key l.table.rows).known (Some w) (tasks.Propose o parent call) (row_at key l.table.rows).stage (waiting_behind key l.table.calls) → suc l.seq < 2 ^ 64
      → Follows g s key owed l (proposing l key (suc l.seq) o parent call)
  proposed_so o parent call row on_key version fits parent_fits for_call own_stamp move row_is below = record {
    steps = steps;
    ghosts = g;
    move = finish g g s steps leader key (tasks.Propose o parent call) l.table move (λ j off. rw off refl)
        (subst (λ (c : Option Waiting). RowHolds g (after s steps) (record { peer = l.me; owed = owed }) (epoch_number l.fact.epoch) key (row_parts (row_at key l.table.rows).known c (tasks.Propose o parent call) (row_at key l.table.rows).stage (waiting_behind key l.table.calls))) (sym is)
        (subst (λ (r : theory.KeyRow). RowHolds g (after s steps) (record { peer = l.me; owed = owed }) (epoch_number l.fact.epoch) key r) (set_here (table_of key owed l).rows key row ∙ row_is) (move.holds.rows key)));
    kinds = (tt, tt);
    turns = tables.turns g steps move.may work.turns;
    fits = record { epoch = work.fits.epoch; seq = below; views = work.fits.views; rows = work.fits.rows; calls = work.fits.calls; calm = work.fits.calm };
    same = (refl, (refl, refl));
    task = subst (λ (c : Option Waiting). TaskHolds (after s steps) (record l { seq = suc l.seq; task = tasks.Propose o parent call }) key (row_at key l.table.rows).known c (tasks.Propose o parent call)) (sym is) (record { on_key = on_key; version = version; fits = fits; for_call = for_call; own_stamp = own_stamp });
    notes = noted (version_of (rank o.version)) (version_or_none (rank_or_none parent)) (rank_back o.version fits) (option_back parent parent_fits);
    sends = All-nil (SentSays g (after s steps));
    ready = tt;
    next = (on_key, parent, call, refl);
  }
    where
      steps : List Step
      steps = Propose (rank o.version) key (rank_or_none parent) o.stamp o.value call ∷ []

      leader : theory.Leader
      leader = record { epoch = epoch_number l.fact.epoch; seat = record { peer = l.me; owed = owed }; seq = suc l.seq; round = l.round; rows = theory.set_row (table_of key owed l).rows key row }

      noted : (v : Version) (u : Option Version) → v ≡ o.version → u ≡ parent → s.book.notes ++ Proposed key v u call ∷ [] ≡ s.book.notes ++ Proposed key o.version parent call ∷ []
      noted v u e f = rw (e, f) refl

  -- ## Rule 31

  module _ (content : Option (List ℕ)) (parent : Option Version) (task : l.task ≡ tasks.Write content parent) where
    write_holds : WriteHolds s (epoch_number l.fact.epoch) key w content parent
    write_holds = subst (λ (call : Option Waiting). TaskHolds s l key (row_at key l.table.rows).known call (tasks.Write content parent)) is (subst (λ (t : Pending). TaskHolds s l key (row_at key l.table.rows).known (running key l.table.calls) t) task work.task)

    writes_now : LeadersMove s → is_spent l.seq ≡ false → IsLeaderMove g s (write_step (table_of key owed l) key (rank_or_none parent) content w.id ∷ []) g (put_write (table_of key owed l) key (known_of (row_at key l.table.rows).known) w.id (waiting_behind key l.table.calls) content)
    writes_now laws unspent = (laws.rows g (table_of key owed l) key (known_of (row_at key l.table.rows).known) (waiting_behind key l.table.calls) work.holds).writes w.id (rank_or_none parent) content (next_fits l.seq work.fits.seq unspent) (row_told g s key owed l work.holds (Some w) is (tasks.Write content parent) task _ refl) write_holds.parent_holds
        (ap (λ (c : Command). outcome c (register_at s.book (rank_or_none parent))) (agree_running s.book key l.table.calls w work.fits.calls is) ∙ write_holds.applies)

    written_so : LeadersMove s → is_spent l.seq ≡ false → Follows g s key owed l (proposing l key (suc l.seq) (written_at l key content (suc l.seq)) parent (Some w.id))
    written_so laws unspent = proposed_so (written_at l key content (suc l.seq)) parent (Some w.id) (row_with (version_of (theory.next_version (table_of key owed l)))) refl refl (next_is_version unspent) write_holds.fits (λ i e. some_same i w.id e) (λ i e. refl)
        (subst (λ (v : Version). IsLeaderMove g s (Propose (rank (numbered l (suc l.seq))) key (rank_or_none parent) v content (Some w.id) ∷ []) g (put_write (table_of key owed l) key (known_of (row_at key l.table.rows).known) w.id (waiting_behind key l.table.calls) content)) (rank_back (numbered l (suc l.seq)) (next_is_version unspent)) (writes_now laws unspent))
        (ap row_with (rank_back (numbered l (suc l.seq)) (next_is_version unspent))) (next_fits l.seq work.fits.seq unspent)
      where
        row_with : Version → theory.KeyRow
        row_with stamp = theory.row_of (known_of (row_at key l.table.rows).known) (theory.Writing w.id (theory.next_version (table_of key owed l)) (record { stamp = stamp; content = content }) (λ q. false)) (waiting_behind key l.table.calls)

        some_same : (i j : ℕ) → Some j ≡ Some i → i ≡ j
        some_same i j e = cc

    by_spent : LeadersMove s → (b : Bool) → is_spent l.seq ≡ b → GoesOn g s key owed l (noted_next key (if b then (with_task tasks.Nothing l, leaves) else (record l { seq = l.seq + 1; task = tasks.Propose (written_at l key content (l.seq + 1)) parent (Some w.id) }, leads_on key_rules.Put key)))
    by_spent laws true spent = inl (record { why = inl refl; calls = refl; same = (refl, (refl, refl)) })
    by_spent laws false unspent = inr (subst (λ (n : ℕ). Follows g s key owed l (proposing l key n (written_at l key content n) parent (Some w.id))) (suc-eq-add-one l.seq) (written_so laws unspent))

  -- ## Rule 32

  module _ (o : Object) (task : l.task ≡ tasks.Rewrite o) where
    rewrite_holds : RewriteHolds s (epoch_number l.fact.epoch) key w o
    rewrite_holds = subst (λ (call : Option Waiting). TaskHolds s l key (row_at key l.table.rows).known call (tasks.Rewrite o)) is (subst (λ (t : Pending). TaskHolds s l key (row_at key l.table.rows).known (running key l.table.calls) t) task work.task)

    again_so : LeadersMove s → is_spent l.seq ≡ false → Follows g s key owed l (proposing l key (suc l.seq) (again_at l key o (suc l.seq)) (Some o.version) None)
    again_so laws unspent = proposed_so (again_at l key o (suc l.seq)) (Some o.version) None (theory.row_of (known_of (row_at key l.table.rows).known) (theory.Rewriting w.id (theory.next_version (table_of key owed l)) (content_of o) (λ q. false)) (waiting_behind key l.table.calls)) refl refl (next_is_version unspent) rewrite_holds.fits (λ i e. absurd cc) (λ i e. absurd cc)
        ((laws.rows g (table_of key owed l) key (known_of (row_at key l.table.rows).known) (waiting_behind key l.table.calls) work.holds).rewrites w.id (rank o.version) (content_of o) (next_fits l.seq work.fits.seq unspent) (row_told g s key owed l work.holds (Some w) is (tasks.Rewrite o) task _ refl) rewrite_holds.parent_holds rewrite_holds.object rewrite_holds.fresh)
        refl (next_fits l.seq work.fits.seq unspent)

    again_by_spent : LeadersMove s → (b : Bool) → is_spent l.seq ≡ b → GoesOn g s key owed l (noted_next key (if b then (with_task tasks.Nothing l, leaves) else (record l { seq = l.seq + 1; task = tasks.Propose (again_at l key o (l.seq + 1)) (Some o.version) None }, leads_on key_rules.Put key)))
    again_by_spent laws true spent = inl (record { why = inl refl; calls = refl; same = (refl, (refl, refl)) })
    again_by_spent laws false unspent = inr (subst (λ (n : ℕ). Follows g s key owed l (proposing l key n (again_at l key o n) (Some o.version) None)) (suc-eq-add-one l.seq) (again_so laws unspent))

module _ (g : Ghosts) (s : State) (laws : LeadersMove s) (tables : TablesStay s) (key : List ℕ) (owed : List Owed) (l : Leader) (work : IsAtWork g s key owed l) where
  -- a task needs a running call
  no_call : (task : Pending) → l.task ≡ task → (task ≡ tasks.Nothing → ⊥) → running key l.table.calls ≡ None → TaskHolds s l key (row_at key l.table.rows).known None task
  no_call task e some is = subst (λ (call : Option Waiting). TaskHolds s l key (row_at key l.table.rows).known call task) is (subst (λ (t : Pending). TaskHolds s l key (row_at key l.table.rows).known (running key l.table.calls) t) e work.task)

  write_goes_out : (content : Option (List ℕ)) (parent : Option Version) → l.task ≡ tasks.Write content parent → (call : Option Waiting) → running key l.table.calls ≡ call → GoesOn g s key owed l (noted_next key (written_for call (tasks.Write content parent) key (with_task tasks.Nothing l)))
  write_goes_out content parent task None is = absurd (no_call (tasks.Write content parent) task (λ e. cc) is)
  write_goes_out content parent task (Some w) is = by_spent g s tables key owed l work w is content parent task laws (is_spent l.seq) refl

  rewrite_goes_out : (o : Object) → l.task ≡ tasks.Rewrite o → (call : Option Waiting) → running key l.table.calls ≡ call → GoesOn g s key owed l (noted_next key (rewritten (tasks.Rewrite o) key (with_task tasks.Nothing l)))
  rewrite_goes_out o task None is = absurd (no_call (tasks.Rewrite o) task (λ e. cc) is)
  rewrite_goes_out o task (Some w) is = again_by_spent g s tables key owed l work w is o task laws (is_spent l.seq) refl

pub run_writes : (view : List ℕ) (steps : List Step) → IsRun view steps → WritesGoOut (state_after view steps)
run_writes view steps run g key owed l content parent work task = let s = state_after view steps in
    subst (λ (t : Pending). GoesOn g s key owed l (noted_next key (written_for (running key l.table.calls) t key (with_task tasks.Nothing l)))) (sym task)
    (write_goes_out g s (run_leaders view steps run) (run_tables view steps run) key owed l work content parent task (running key l.table.calls) refl)

pub run_rewrites : (view : List ℕ) (steps : List Step) → IsRun view steps → RewritesGoOut (state_after view steps)
run_rewrites view steps run g key owed l o work task = let s = state_after view steps in
    subst (λ (t : Pending). GoesOn g s key owed l (noted_next key (rewritten t key (with_task tasks.Nothing l)))) (sym task)
    (rewrite_goes_out g s (run_leaders view steps run) (run_tables view steps run) key owed l work o task (running key l.table.calls) refl)
