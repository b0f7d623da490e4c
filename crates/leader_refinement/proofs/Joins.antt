-- Rule 27 is a move of the theory.
use Rattle.std.specs.Prelude.{All, nat_le}
use Rattle.std.proofs.Common.{◌≡◌, ℕ, ◌+◌, ◌==◌, Bool, true, false, cond, if◌then◌else◌, List, [], ◌∷◌, ◌++◌, Option, Some, None, eqb-true, arith, refl, sym, ap, subst, ◌∙◌}
use Rattle.std.proofs.lemmas.Bool.{false≢true}
use Rattle.std.proofs.lemmas.Bool.Decides.{nat_tests}
use Rattle.std.proofs.lemmas.List.{append-nil}
use Rattle.std.proofs.lemmas.List.Elements.{All-nil}
use Rattle.phase_rows.specs.declared.rules.KeyRule.TheVariants as key_rules
use Rattle.ens_base.specs.Lists.{same_bytes}
use Rattle.ens_base.proofs.Lists.{bytes_itself}
use Rattle.ens_base.specs.declared.command.Command.{Command}
use Rattle.ens_base.specs.declared.reply.Reply.{Reply}
use Rattle.ens_base.specs.declared.reply.Reply.TheVariants as replies
use Rattle.register_model.specs.declared.call.Call.{Call}
use Rattle.register_model.specs.Histories.{IsRefused}
use Rattle.protocol_laws.specs.Ledger.{put}
use Rattle.protocol_laws.specs.Book.{Book, MayCall, take_call}
use Rattle.protocol_laws.specs.Numbers.{epoch_number}
use Rattle.protocol_laws.specs.Protocol.{State, Step, Ask, IsRun, state_after, after, happens}
use Rattle.call_table.specs.Calls.{running, waiting_on}
use Rattle.call_table.specs.Rows.{row_at}
use Rattle.call_table.specs.declared.row.Known.{Known}
use Rattle.call_table.specs.declared.row.Stage.{Stage}
use Rattle.call_table.specs.declared.table.CallTable.{CallTable}
use Rattle.call_table.specs.declared.waiting.Waiting.{Waiting}
use Rattle.leader_output.specs.Outs.{rests, leads_on, and_answer}
use Rattle.leader_output.specs.declared.out.AnswerOut.{AnswerOut}
use Rattle.leader_output.specs.declared.out.LeadOut.{LeadOut}
use Rattle.leader_output.specs.declared.out.Outgoing.{Outgoing}
use Rattle.register_model.specs.declared.note.Note.{Note as Told}
use Rattle.protocol_laws.proofs.Maps.{put_here, put_other}
use Rattle.leader_laws.proofs.Moves.{free as ready_free}
use Rattle.leader.specs.Leaders.{joined}
use Rattle.leader.specs.Starts.{row_27}
use Rattle.leader.specs.declared.leader.Leader.{Leader}
use Rattle.leader.specs.declared.pending.Pending.{Pending}
use Rattle.leader.specs.declared.pending.Pending.TheVariants as tasks
use Rattle.role_laws.proofs.LeaderMoves.{next_begins}
use Rattle.role_laws.proofs.Runs.{run_leaders, run_tables}
use Rattle.role_laws.specs.LeaderLaws.{LeadersMove, TablesStay}
use Rattle.role_laws.specs.Leaders.{RowHolds, TurnsHold}
use Rattle.role_laws.specs.Moves.{GhostsGrow, IsLeaderMove}
use Rattle.role_laws.specs.Tables as theory
use Rattle.role_laws.specs.Tables.{Ghosts, Owed}
use Rattle.leader_laws.proofs.Joins.{none_before}
use Rattle.leader_laws.proofs.Lookups.{nobody_waits}
use Rattle.leader_refinement.proofs.Base.{Elsewhere, IsSplit, finish, no_move, task_here, set_here, set_off, calls_split}
use Rattle.leader_refinement.specs.Seen.{ids_on, known_of, running_stage, waiting_behind, row_seen, task_on, table_of, owed_after}
use Rattle.leader_refinement.specs.Follows.{TaskHolds, IsAtWork, CallsAgree, IsReadyFor, NextFits, Follows, TakesCall, SentSays}
use Rattle.leader_refinement.specs.Laws.{CallsJoin}

-- ## The calls with one more

one_more : (key : List ℕ) (calls : List Waiting) (w : Waiting) → same_bytes w.key key ≡ true → ids_on key (calls ++ w ∷ []) ≡ ids_on key calls ++ w.id ∷ []
one_more key [] w on = rw on refl
one_more key (v ∷ calls) w on = by_key (same_bytes v.key key) (one_more key calls w on)
  where
    by_key : (b : Bool) → ids_on key (calls ++ w ∷ []) ≡ ids_on key calls ++ w.id ∷ [] → cond b (v.id ∷ ids_on key (calls ++ w ∷ [])) (ids_on key (calls ++ w ∷ [])) ≡ cond b (v.id ∷ ids_on key calls) (ids_on key calls) ++ w.id ∷ []
    by_key true later = ap (λ (xs : List ℕ). v.id ∷ xs) later
    by_key false later = later

-- the joined call runs if no other does, and waits behind the others otherwise
abbrev IsLast : List ℕ → List Waiting → Waiting → Option Waiting → Type 0
IsLast key calls w None = (running key (calls ++ w ∷ []) ≡ Some w) × (waiting_behind key (calls ++ w ∷ []) ≡ [])
IsLast key calls w (Some v) = (running key (calls ++ w ∷ []) ≡ Some v) × (waiting_behind key (calls ++ w ∷ []) ≡ waiting_behind key calls ++ w.id ∷ [])

comes_last : (key : List ℕ) (calls : List Waiting) (w : Waiting) → same_bytes w.key key ≡ true → IsLast key calls w (running key calls)
comes_last key [] w on = (rw on refl, rw on refl)
comes_last key (v ∷ calls) w on = by_key (same_bytes v.key key) refl (running key calls) (comes_last key calls w on)
  where
    by_key : (b : Bool) → same_bytes v.key key ≡ b → (o : Option Waiting) → IsLast key calls w o → IsLast key (v ∷ calls) w (cond b (Some v) o)
    by_key true here o later = (rw here refl, rw here (one_more key calls w on))
    by_key false here None later = (rw here later.0, rw here later.1)
    by_key false here (Some u) later = (rw here later.0, rw here later.1)

elsewhere_calls : (j : List ℕ) (calls : List Waiting) (w : Waiting) → same_bytes w.key j ≡ false → (running j calls ≡ running j (calls ++ w ∷ [])) × ((waiting_behind j calls ≡ waiting_behind j (calls ++ w ∷ [])) × (ids_on j calls ≡ ids_on j (calls ++ w ∷ [])))
elsewhere_calls j [] w off = (rw off refl, (rw off refl, rw off refl))
elsewhere_calls j (v ∷ calls) w off = by_key (same_bytes v.key j) (elsewhere_calls j calls w off)
  where
    by_key : (b : Bool) → (running j calls ≡ running j (calls ++ w ∷ [])) × ((waiting_behind j calls ≡ waiting_behind j (calls ++ w ∷ [])) × (ids_on j calls ≡ ids_on j (calls ++ w ∷ [])))
        → (cond b (Some v) (running j calls) ≡ cond b (Some v) (running j (calls ++ w ∷ []))) × ((cond b (ids_on j calls) (waiting_behind j calls) ≡ cond b (ids_on j (calls ++ w ∷ [])) (waiting_behind j (calls ++ w ∷ []))) × (cond b (v.id ∷ ids_on j calls) (ids_on j calls) ≡ cond b (v.id ∷ ids_on j (calls ++ w ∷ [])) (ids_on j (calls ++ w ∷ []))))
    by_key true later = (refl, (later.1.1, ap (λ (xs : List ℕ). v.id ∷ xs) later.1.1))
    by_key false later = later

-- ## A new call

-- the calls of the table came before the new one
agree_asked : (b : Book) (c : Call) (ballots : ℕ → ℕ) (calls : List Waiting) → b.called c.id ≡ false → CallsAgree b calls → CallsAgree (take_call b ballots c) calls
agree_asked b c ballots [] fresh agree = tt
agree_asked b c ballots (w ∷ calls) fresh agree = ((called_too, asked_too ∙ agree.0.1), agree_asked b c ballots calls fresh agree.1)
  where
    other : c.id ≡ w.id → ⊥
    other same = false≢true (sym fresh ∙ ap b.called same ∙ agree.0.0)

    called_too : put b.called c.id true w.id ≡ true
    called_too = grind (arith, nat_tests, agree.0.0)

    asked_too : (put b.asked c.id c w.id).command ≡ (b.asked w.id).command
    asked_too = ap (λ (x : Call). x.command) (put_other b.asked c.id c w.id other)

agree_with : (b : Book) (calls : List Waiting) (w : Waiting) → b.called w.id ≡ true → (b.asked w.id).command ≡ w.command → CallsAgree b calls → CallsAgree b (calls ++ w ∷ [])
agree_with b [] w called asked agree = ((called, asked), tt)
agree_with b (v ∷ calls) w called asked agree = (agree.0, agree_with b calls w called asked agree.1)

module _ (g : Ghosts) (s : State) (laws : LeadersMove s) (tables : TablesStay s) (key : List ℕ) (owed : List Owed) (l : Leader) (work : IsAtWork g s key owed l) (free : l.task ≡ tasks.Nothing) (from id : ℕ) (command : Command) (fresh : s.book.called id ≡ false) where
  abbrev New : Call
  New = record { id = id; key = key; command = command; event = s.book.now + 1 }

  may_call : MayCall s.book (record { id = id; key = key; command = command; event = s.book.now + 1 })
  may_call = record { fresh = fresh; event = refl }

  -- the state after the call came, and what is remembered then
  abbrev Called : State
  Called = happens s (Ask (record { id = id; key = key; command = command; event = s.book.now + 1 }))

  abbrev Home : Ghosts
  Home = theory.with_home g id l.me

  turns_called : TurnsHold (theory.with_home g id l.me) (happens s (Ask (record { id = id; key = key; command = command; event = s.book.now + 1 })))
  turns_called = tables.turns g (Ask (record { id = id; key = key; command = command; event = s.book.now + 1 }) ∷ []) ((tt, may_call), tt) work.turns

  -- the call is refused at once
  refused_so : (reply : Reply) → IsRefused reply → Follows Home Called key owed l (l, and_answer from id reply rests)
  refused_so reply refused = let move = laws.refused g (table_of key owed l) (record { id = id; key = key; command = command; event = s.book.now + 1 }) reply refused work.holds may_call in record {
    steps = [];
    ghosts = theory.with_home g id l.me;
    move = no_move Home Called (record (table_of key owed l) { seat = theory.owe (record { peer = l.me; owed = owed }) id reply }) move.holds;
    kinds = tt;
    turns = turns_called;
    fits = record { epoch = work.fits.epoch; seq = work.fits.seq; views = work.fits.views; rows = work.fits.rows; calls = agree_asked s.book (record { id = id; key = key; command = command; event = s.book.now + 1 }) s.objects.ledger.ballot l.table.calls fresh work.fits.calls; calm = work.fits.calm };
    same = (refl, (refl, refl));
    task = subst (λ (task : Pending). TaskHolds Called l key (row_at key l.table.rows).known (running key l.table.calls) task) (sym free) tt;
    notes = sym (append-nil s.book.notes);
    sends = All-nil (SentSays Home Called);
    ready = tt;
    next = (refl, free);
  }

  -- the call joins the others of its key
  abbrev Joining : Waiting
  Joining = record { from = from; id = id; key = key; command = command; age = 0 }

  abbrev New_row : Known → Option Waiting → Stage → List ℕ → Type 0
  New_row known call stage rest = RowHolds (theory.with_home g id l.me) (after s (Ask (record { id = id; key = key; command = command; event = s.book.now + 1 }) ∷ [])) (record { peer = l.me; owed = owed }) (epoch_number l.fact.epoch) key (theory.row_of (known_of known) (running_stage call tasks.Nothing stage) rest)

  row_joins : (call : Option Waiting) → running key l.table.calls ≡ call → IsLast key l.table.calls Joining call → New_row (row_at key l.table.rows).known (running key l.table.calls) (row_at key l.table.rows).stage (waiting_behind key l.table.calls ++ id ∷ [])
      → New_row (row_at key l.table.rows).known (running key (l.table.calls ++ Joining ∷ [])) (row_at key l.table.rows).stage (waiting_behind key (l.table.calls ++ Joining ∷ []))
  row_joins (Some v) is last row = subst (λ (c : Option Waiting). New_row (row_at key l.table.rows).known c (row_at key l.table.rows).stage (waiting_behind key (l.table.calls ++ Joining ∷ []))) (is ∙ sym last.0)
      (subst (λ (rest : List ℕ). New_row (row_at key l.table.rows).known (running key l.table.calls) (row_at key l.table.rows).stage rest) (sym last.1) row)
  row_joins None is last row = subst (λ (c : Option Waiting). New_row (row_at key l.table.rows).known c (row_at key l.table.rows).stage (waiting_behind key (l.table.calls ++ Joining ∷ []))) (sym last.0)
      (subst (λ (rest : List ℕ). New_row (row_at key l.table.rows).known (Some Joining) (row_at key l.table.rows).stage rest) (sym last.1)
      (subst (λ (stage : Stage). New_row (row_at key l.table.rows).known (Some Joining) stage []) (sym (work.fits.calm key is))
      (next_begins (theory.with_home g id l.me) (after s (Ask (record { id = id; key = key; command = command; event = s.book.now + 1 }) ∷ [])) (record { peer = l.me; owed = owed }) (epoch_number l.fact.epoch) key (known_of (row_at key l.table.rows).known) [] id
      (subst (λ (c : Option Waiting). New_row (row_at key l.table.rows).known c (row_at key l.table.rows).stage (id ∷ [])) is (subst (λ (rest : List ℕ). New_row (row_at key l.table.rows).known (running key l.table.calls) (row_at key l.table.rows).stage (rest ++ id ∷ [])) (nobody_behind (running key l.table.calls) is (calls_split key l.table.calls)) row)))))
    where
      nobody_behind : (call : Option Waiting) → call ≡ None → IsSplit call (ids_on key l.table.calls) (waiting_behind key l.table.calls) → waiting_behind key l.table.calls ≡ []
      nobody_behind None e split = split.1
      nobody_behind (Some v) e split = absurd cc

  join_elsewhere : Elsewhere key l.table (record l.table { calls = l.table.calls ++ Joining ∷ [] })
  join_elsewhere j off = let same = elsewhere_calls j l.table.calls Joining off in rw (same.0, same.1.0) refl

  joined_so : (out : LeadOut) → out.answers ≡ [] → out.notes ≡ [] → out.sends ≡ [] → IsReadyFor out.then key (joined Joining l) → NextFits key (joined Joining l) out.own out.then out.keys → Follows Home Called key owed l (joined Joining l, out)
  joined_so out answers notes sends ready next = record {
    steps = [];
    ghosts = theory.with_home g id l.me;
    move = subst (λ (given : List AnswerOut). IsLeaderMove Home Called [] Home (table_of key (owed_after owed given) (joined Joining l))) (sym answers)
        (finish Home Home Called [] (theory.with_row (table_of key owed l) key new_row) key l.task new_table (no_move Home Called (theory.with_row (table_of key owed l) key new_row) move.holds) (set_off key l.task l.table new_table new_row join_elsewhere)
        (subst (λ (task : Pending). RowHolds Home Called (record { peer = l.me; owed = owed }) (epoch_number l.fact.epoch) key (row_seen task key new_table)) (sym free) (row_joins (running key l.table.calls) refl (comes_last key l.table.calls Joining (bytes_itself key)) first)));
    kinds = tt;
    turns = turns_called;
    fits = record { epoch = work.fits.epoch; seq = work.fits.seq; views = work.fits.views; rows = work.fits.rows; calls = agree_with Called.book l.table.calls Joining (put_here s.book.called id true) (ap (λ (c : Call). c.command) (put_here s.book.asked id New)) (agree_asked s.book New s.objects.ledger.ballot l.table.calls fresh work.fits.calls); calm = λ k none. work.fits.calm k (none_before k l.table.calls Joining none) };
    same = (refl, (refl, refl));
    task = subst (λ (task : Pending). TaskHolds Called (joined Joining l) key (row_at key l.table.rows).known (running key new_table.calls) task) (sym free) tt;
    notes = sym (ap (λ (told : List Told). s.book.notes ++ told) notes ∙ append-nil s.book.notes);
    sends = subst (λ (sent : List Outgoing). All (SentSays Home Called) sent) (sym sends) (All-nil (SentSays Home Called));
    ready = ready;
    next = next;
  }
    where
      new_table : CallTable
      new_table = record l.table { calls = l.table.calls ++ record { from = from; id = id; key = key; command = command; age = 0 } ∷ [] }

      old_row : theory.KeyRow
      old_row = row_seen (task_on key l.task key) key l.table

      new_row : theory.KeyRow
      new_row = theory.row_of old_row.known old_row.stage (old_row.waiting ++ id ∷ [])

      move : IsLeaderMove g s (Ask (record { id = id; key = key; command = command; event = s.book.now + 1 }) ∷ []) (theory.with_home g id l.me) (theory.with_row (table_of key owed l) key new_row)
      move = laws.joins g (table_of key owed l) (record { id = id; key = key; command = command; event = s.book.now + 1 }) work.holds may_call

      first : New_row (row_at key l.table.rows).known (running key l.table.calls) (row_at key l.table.rows).stage (waiting_behind key l.table.calls ++ id ∷ [])
      first = subst (λ (task : Pending). RowHolds Home Called (record { peer = l.me; owed = owed }) (epoch_number l.fact.epoch) key (theory.row_of (known_of (row_at key l.table.rows).known) (running_stage (running key l.table.calls) task (row_at key l.table.rows).stage) (waiting_behind key l.table.calls ++ id ∷ []))) (task_here key l.task ∙ free)
          (subst (λ (row : theory.KeyRow). RowHolds Home Called (record { peer = l.me; owed = owed }) (epoch_number l.fact.epoch) key row) (set_here (table_of key owed l).rows key new_row) (move.holds.rows key))

  by_tests : (finishing busy alone : Bool) → (waiting_on key l.table.calls == 0) ≡ alone
      → Follows Home Called key owed l (if finishing then (l, and_answer from id replies.Unavailable rests) else (if busy then (l, and_answer from id replies.Busy rests) else (joined Joining l, if alone then leads_on key_rules.StartCall key else rests)))
  by_tests true busy alone e = refused_so replies.Unavailable tt
  by_tests false true alone e = refused_so replies.Busy tt
  by_tests false false true e = joined_so (leads_on key_rules.StartCall key) refl refl refl (λ n. work.fits.calm key (nobody_waits key l.table.calls (eqb-true (waiting_on key l.table.calls) 0 e))) (refl, ready_free key_rules.StartCall key (joined Joining l) refl free)
  by_tests false false false e = joined_so rests refl refl refl tt (refl, free)

  -- the call and what follows
  with_call : (r : Leader × LeadOut) → Follows Home Called key owed l r → TakesCall g s key owed l New r
  with_call r f = record {
    follows = f;
    move = record {
      may = ((tt, may_call), f.move.may);
      holds = f.move.holds;
      own = (tt, f.move.own);
      ghosts = record { turn = f.move.ghosts.turn; home = λ i called. f.move.ghosts.home i (called_too i called) ∙ grows.home i called; hash = f.move.ghosts.hash };
      turns = f.move.turns;
    };
  }
    where
      grows : GhostsGrow s g (theory.with_home g id l.me)
      grows = (laws.joins g (table_of key owed l) (record { id = id; key = key; command = command; event = s.book.now + 1 }) work.holds may_call).ghosts

      called_too : (i : ℕ) → s.book.called i ≡ true → put s.book.called id true i ≡ true
      called_too i called = grind (arith, nat_tests, called)

pub run_joins : (view : List ℕ) (steps : List Step) → IsRun view steps → CallsJoin (state_after view steps)
run_joins view steps run g key owed l from id command finishing work free fresh =
    with_call g (state_after view steps) (run_leaders view steps run) (run_tables view steps run) key owed l work free from id command fresh (row_27 from id key command finishing l)
    (by_tests g (state_after view steps) (run_leaders view steps run) (run_tables view steps run) key owed l work free from id command fresh finishing (nat_le 16 (waiting_on key l.table.calls)) (waiting_on key l.table.calls == 0) refl)
