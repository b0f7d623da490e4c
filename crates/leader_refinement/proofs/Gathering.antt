-- Rule 30 is a move of the theory.
use Rattle.std.specs.Prelude.{is_none}
use Rattle.std.proofs.Common.{◌≡◌, inr, ℕ, Bool, true, false, if◌then◌else◌, List, [], Option, Some, None, refl, sym, ap, subst, ◌∙◌}
use Rattle.std.proofs.lemmas.List.{append-nil}
use Rattle.std.proofs.lemmas.List.Elements.{All-nil}
use Rattle.ens_base.specs.declared.command.Command.{Command}
use Rattle.ens_base.specs.declared.command.Command.TheVariants.{Get, PutOnce, Update, Append, Add, Swap, Over, Delete}
use Rattle.ens_base.specs.declared.epoch.Version.{Version}
use Rattle.ens_base.specs.declared.reply.Reply.TheVariants as replies
use Rattle.stored_formats.specs.declared.object.Object.{Object}
use Rattle.object_commands.specs.Commands.{blind_verdict}
use Rattle.object_commands.specs.declared.verdict.Verdict.{Verdict}
use Rattle.object_commands.specs.declared.verdict.Verdict.TheVariants.{Write}
use Rattle.phase_rows.specs.Orders.{is_same}
use Rattle.phase_rows.specs.declared.rules.KeyRule.TheVariants as key_rules
use Rattle.phase_rows.proofs.Epochs.{same_epochs}
use Rattle.quorums.specs.Quorums.{is_quorum}
use Rattle.quorums.specs.Rounds.{state_of}
use Rattle.quorums.specs.declared.round.Round.{Round}
use Rattle.quorums.specs.declared.round.RoundState.{RoundState}
use Rattle.quorums.specs.declared.round.RoundState.TheVariants.{Open, Met, AllAnswered}
use Rattle.register_model.specs.Registers.{outcome, Writes}
use Rattle.register_model.specs.declared.register.Register.{Register}
use Rattle.protocol_laws.specs.Objects.{epoch_of}
use Rattle.protocol_laws.specs.Book.{register_at, version_of}
use Rattle.protocol_laws.specs.Numbers.{epoch_number, IsVersion}
use Rattle.protocol_laws.specs.Protocol.{State, Step, IsRun, state_after}
use Rattle.call_table.specs.Calls.{running}
use Rattle.call_table.specs.Rows.{row_at, with_known}
use Rattle.call_table.specs.declared.row.Found.{Found}
use Rattle.call_table.specs.declared.row.KeyRow.{KeyRow}
use Rattle.call_table.specs.declared.row.Known.{Known}
use Rattle.call_table.specs.declared.row.Known.TheVariants as knowns
use Rattle.call_table.specs.declared.row.Stage.{Stage}
use Rattle.call_table.specs.declared.row.Stage.TheVariants as stages
use Rattle.call_table.specs.declared.table.CallTable.{CallTable}
use Rattle.call_table.specs.declared.waiting.Waiting.{Waiting}
use Rattle.leader_output.specs.Outs.{leads_on}
use Rattle.leader_laws.proofs.Lookups.{known_other}
use Rattle.leader.specs.Leaders.{with_task, knows, settled_as, decided}
use Rattle.leader.specs.Rounds.{register_at as object_register, without_object, on_found, on_greatest, on_best, by_state, gathered, gathered_for}
use Rattle.leader.specs.declared.leader.Leader.{Leader}
use Rattle.leader.specs.declared.pending.Pending.TheVariants as tasks
use Rattle.role_laws.proofs.Acts.{reading_began}
use Rattle.role_laws.proofs.Guards.{version_epoch, fresh_of_replies}
use Rattle.role_laws.proofs.Outcomes.{object_register as register_of_object}
use Rattle.role_laws.proofs.Runs.{run_leaders, run_keys, run_rows}
use Rattle.role_laws.specs.LeaderLaws.{LeadersMove, KeyLaws, RowMoves}
use Rattle.role_laws.specs.Leaders.{RowHolds, IsObjectOf, IsParent}
use Rattle.role_laws.specs.Tables as theory
use Rattle.role_laws.specs.Tables.{Ghosts, Owed, Seat}
use Rattle.leader_refinement.proofs.Answers.{answered_so, seat_owing}
use Rattle.leader_laws.proofs.Moves.{runs as runs_now}
use Rattle.leader_refinement.proofs.Base.{finish, no_move, rests_so, tasked_so, knows_elsewhere, known_row, rows_fit, calm_known, set_here, set_off, same_elsewhere, off_same, row_told}
use Rattle.leader_refinement.proofs.Numbers.{rank_back}
use Rattle.leader_refinement.proofs.Puts.{gone_same}
use Rattle.leader_refinement.proofs.Votes.{IsClosed, closed_quorum}
use Rattle.leader_refinement.specs.Seen.{rank, content_of, content_or_none, known_of, best_rank, best_object, voters, waiting_behind, row_parts, table_of}
use Rattle.leader_refinement.specs.Follows.{settled_rank, KnownFits, FoundFits, FoundNames, StageFits, RowFits, IsOn, TaskHolds, IsAtWork, Follows, SentSays}
use Rattle.leader_refinement.specs.Laws.{RepliesAreRead}
use Rattle.leader_refinement.proofs.Starts.{none_verdict}

-- ## What a quorum showed

-- a command that is decided blindly writes the same content on every register
record IsBlind (c : Command) (verdict : Verdict) : Type 0 where
  content : Option (List ℕ)
  verdict_is : Write content ≡ verdict
  writes : (r : Register) → outcome c r ≡ Writes content

blind : (c : Command) (verdict : Verdict) → blind_verdict c ≡ Some verdict → IsBlind c verdict
blind (Over value) verdict e = record { content = Some value; verdict_is = cc; writes = λ r. refl }
blind Delete verdict e = record { content = None; verdict_is = cc; writes = λ r. refl }
blind Get verdict e = none_verdict verdict e
blind (PutOnce value) verdict e = none_verdict verdict e
blind (Update wanted value) verdict e = none_verdict verdict e
blind (Append tail) verdict e = none_verdict verdict e
blind (Add number) verdict e = none_verdict verdict e
blind (Swap old new) verdict e = none_verdict verdict e

module _ (g : Ghosts) (s : State) (laws : LeadersMove s) (key : List ℕ) (owed : List Owed) (l : Leader) (keys : KeyLaws s g (epoch_number l.fact.epoch) key) (work : IsAtWork g s key owed l) (free : l.task ≡ tasks.Nothing) (w : Waiting) (is : running key l.table.calls ≡ Some w) where
  abbrev D : ℕ
  D = epoch_number l.fact.epoch

  abbrev P : Seat
  P = record { peer = l.me; owed = owed }

  abbrev Rest : List ℕ
  Rest = waiting_behind key l.table.calls

  abbrev K : theory.Known
  K = known_of (row_at key l.table.rows).known

  -- the command is applied, now that this is known of the key
  applies_so : (known : Known) (current : Option Object) → RowHolds g s P D key (theory.row_of (known_of known) (theory.Sure w.id) Rest) → KnownFits known → object_register current ≡ register_at s.book (settled_rank known) → Follows g s key owed l (with_task (tasks.Apply current) (knows key known l), leads_on key_rules.Apply key)
  applies_so known current row fits register = record {
    steps = [];
    ghosts = g;
    move = finish g g s [] (table_of key owed l) key (tasks.Apply current) new_table (no_move g s (table_of key owed l) work.holds) (λ j off. off_same key owed l j off ∙ knows_elsewhere key known l.table j off)
        (subst (λ (r : KeyRow). RowHolds g s P D key (row_parts r.known (running key l.table.calls) (tasks.Apply current) r.stage Rest)) (sym (known_row key known l.table.rows))
        (subst (λ (call : Option Waiting). RowHolds g s P D key (row_parts known call (tasks.Apply current) (row_at key l.table.rows).stage Rest)) (sym is) row));
    kinds = tt;
    turns = work.turns;
    fits = record { epoch = work.fits.epoch; seq = work.fits.seq; views = work.fits.views; rows = rows_fit g.hash l.fact.views key l.table.rows (with_known key known l.table.rows) (λ j off. known_other key j known l.table.rows off) (subst (λ (r : KeyRow). RowFits g.hash l.fact.views key r) (sym (known_row key known l.table.rows)) (fits, (work.fits.rows key).1)) work.fits.rows; calls = work.fits.calls; calm = calm_known key known l.table work.fits.calm };
    same = (refl, (refl, refl));
    task = subst (λ (call : Option Waiting). TaskHolds s (with_task (tasks.Apply current) (knows key known l)) key (row_at key new_table.rows).known call (tasks.Apply current)) (sym is) (record { register = register ∙ ap (λ (r : KeyRow). register_at s.book (settled_rank r.known)) (sym (known_row key known l.table.rows)) });
    notes = sym (append-nil s.book.notes);
    sends = All-nil (SentSays g s);
    ready = λ e. absurd cc;
    next = (refl, (refl, runs_now key l.table.calls w is));
  }
    where
      new_table : CallTable
      new_table = record l.table { rows = with_known key known l.table.rows }

  -- ## The replies of a round

  module _ (round : ℕ) (votes : Round) (best : Option Found) (stage : (row_at key l.table.rows).stage ≡ stages.Reading round votes best) (rows : RowMoves s g P D key K Rest) where
    reading_row : RowHolds g s P D key (theory.row_of K (theory.Reading w.id round (voters votes) (best_rank best) (best_object best)) Rest)
    reading_row = row_told g s key owed l work.holds (Some w) is tasks.Nothing free _ stage

    fits_here : IsOn l.fact.views votes × (FoundFits best × FoundNames g.hash key best)
    fits_here = subst (λ (st : Stage). StageFits g.hash key l.fact.views st) stage (work.fits.rows key).1

    began_row : RowHolds g s P D key (theory.row_of K (theory.Begun w.id) Rest)
    began_row = reading_began g s P D key K Rest w.id round (voters votes) (best_rank best) (best_object best) reading_row

    quorum : IsClosed (state_of votes) → is_quorum (voters votes) (s.objects.ledger.views D) ≡ true
    quorum closed = subst (λ (views : List (List ℕ)). is_quorum (voters votes) views ≡ true) (fits_here.0 ∙ sym work.fits.views) (closed_quorum votes closed)

    parent : IsClosed (state_of votes) → IsParent s D key (best_rank best)
    parent closed = keys.read_parent K w.id round (voters votes) (best_rank best) (best_object best) work.holds.elected (reading_row.known refl) reading_row.stage (quorum closed)

    nothing_so : best ≡ None → IsClosed (state_of votes) → Follows g s key owed l (with_task (tasks.Apply None) (knows key knowns.Absent l), leads_on key_rules.Apply key)
    nothing_so none closed = applies_so knowns.Absent None (rows.finds_nothing w.id round (voters votes) (best_rank best) (best_object best) work.holds.elected (quorum closed) (ap best_rank none) reading_row) tt refl

    module _ (u : Found) (some : best ≡ Some u) (closed : IsClosed (state_of votes)) where
      u_fits : IsVersion u.entry.version
      u_fits = subst FoundFits some fits_here.1.0

      u_parent : IsParent s D key (rank u.entry.version)
      u_parent = subst (λ (b : Option Found). IsParent s D key (best_rank b)) some (parent closed)

      u_row : RowHolds g s P D key (theory.row_of K (theory.Reading w.id round (voters votes) (rank u.entry.version) (content_or_none u.object)) Rest)
      u_row = subst (λ (b : Option Found). RowHolds g s P D key (theory.row_of K (theory.Reading w.id round (voters votes) (best_rank b) (best_object b)) Rest)) some reading_row

      blind_so : (verdict : Verdict) → blind_verdict w.command ≡ Some verdict → Follows g s key owed l (decided (Some u.entry.version) verdict key l)
      blind_so verdict e = let is_blind = blind w.command verdict e in
          subst (λ (v : Verdict). Follows g s key owed l (decided (Some u.entry.version) v key l)) is_blind.verdict_is
          (tasked_so g s key owed l work w is key_rules.Write (tasks.Write is_blind.content (Some u.entry.version)) began_row (record { parent_holds = u_parent; applies = is_blind.writes (register_at s.book (rank u.entry.version)); fits = u_fits }) (λ n. absurd cc) (λ runs. (refl, runs)))

      lost_so : Follows g s key owed l (without_object AllAnswered w key l)
      lost_so = let move = (laws.rows g (table_of key owed l) key K Rest work.holds).is_lost w.id began_row in
          answered_so g g s [] key owed l w replies.Lost (theory.set_row (table_of key owed l).rows key (theory.row_of K theory.Idle Rest)) free is move (set_off key l.task l.table l.table (theory.row_of K theory.Idle Rest) (same_elsewhere key l.table))
          (subst (λ (r : theory.KeyRow). RowHolds g s (seat_owing l owed w.id replies.Lost) D key r) (set_here (table_of key owed l).rows key (theory.row_of K theory.Idle Rest)) (move.holds.rows key))
          work.turns work.fits tt [] [] (sym (append-nil s.book.notes)) (All-nil (SentSays g s))

      without_so : (state : RoundState) → Follows g s key owed l (without_object state w key l)
      without_so AllAnswered = lost_so
      without_so Open = rests_so g s key owed l work free
      without_so Met = rests_so g s key owed l work free

      module _ (o : Object) (object : u.object ≡ Some o) where
        o_says : (o.version ≡ u.entry.version) × (u.entry.digest ≡ g.hash u.entry.version key o.stamp o.value)
        o_says = (subst (FoundNames g.hash key) some fits_here.1.1) o object

        o_row : RowHolds g s P D key (theory.row_of K (theory.Reading w.id round (voters votes) (rank u.entry.version) (Some (content_of o))) Rest)
        o_row = subst (λ (x : Option Object). RowHolds g s P D key (theory.row_of K (theory.Reading w.id round (voters votes) (rank u.entry.version) (content_or_none x)) Rest)) object u_row

        o_is : IsObjectOf s (rank u.entry.version) (content_of o)
        o_is = o_row.stage.holds (content_of o) refl

        held_same : theory.held g key (rank u.entry.version) (content_of o) ≡ known_of (settled_as u.entry.version o u.entry.digest)
        held_same = parts (g.hash (version_of (rank u.entry.version)) key o.stamp o.value) (theory.is_gone o.value) (ap (λ (v : Version). g.hash v key o.stamp o.value) (rank_back u.entry.version u_fits) ∙ sym o_says.1) (sym (gone_same o.value))
          where
            parts : (d : List ℕ) (gone : Bool) → d ≡ u.entry.digest → gone ≡ is_none o.value → theory.Held (rank u.entry.version) o.stamp d gone ≡ theory.Held (rank u.entry.version) o.stamp u.entry.digest (is_none o.value)
            parts d gone e f = rw (e, f) refl

        own_so : is_same u.entry.version.epoch l.fact.epoch ≡ true → Follows g s key owed l (with_task (tasks.Apply (Some o)) (knows key (settled_as u.entry.version o u.entry.digest) l), leads_on key_rules.Apply key)
        own_so same = applies_so (settled_as u.entry.version o u.entry.digest) (Some o)
            (subst (λ (known : theory.Known). RowHolds g s P D key (theory.row_of known (theory.Sure w.id) Rest)) held_same (rows.finds_settled w.id round (voters votes) (rank u.entry.version) (content_of o) work.holds.elected (quorum closed) epoch_is o_row))
            u_fits (register_of_object s (rank u.entry.version) (content_of o) o_is)
          where
            epoch_is : epoch_of (rank u.entry.version) ≡ D
            epoch_is = version_epoch (epoch_number u.entry.version.epoch) u.entry.version.seq u_fits.1 ∙ ap epoch_number (same_epochs u.entry.version.epoch l.fact.epoch same)

        earlier_so : Follows g s key owed l (with_task (tasks.Rewrite o) l, leads_on key_rules.Rewrite key)
        earlier_so = tasked_so g s key owed l work w is key_rules.Rewrite (tasks.Rewrite o) began_row (record {
          parent_holds = subst (λ (v : Version). IsParent s D key (rank v)) (sym o_says.0) u_parent;
          object = subst (λ (v : Version). IsObjectOf s (rank v) (content_of o)) (sym o_says.0) o_is;
          fresh = fresh_of_replies s D w.id (voters votes) reading_row.stage.stood (quorum closed);
          fits = subst IsVersion (sym o_says.0) u_fits;
        }) (λ n. absurd cc) (λ runs. (refl, runs))

        by_epoch : (b : Bool) → is_same u.entry.version.epoch l.fact.epoch ≡ b → Follows g s key owed l (if b then (with_task (tasks.Apply (Some o)) (knows key (settled_as u.entry.version o u.entry.digest) l), leads_on key_rules.Apply key) else (with_task (tasks.Rewrite o) l, leads_on key_rules.Rewrite key))
        by_epoch true same = own_so same
        by_epoch false other = earlier_so

      found_so : (state : RoundState) (o : Option Object) → u.object ≡ o → Follows g s key owed l (on_found o state u.entry w key l)
      found_so state None e = without_so state
      found_so state (Some o) e = by_epoch o e (is_same u.entry.version.epoch l.fact.epoch) refl

      greatest_so : (state : RoundState) (verdict : Option Verdict) → blind_verdict w.command ≡ verdict → Follows g s key owed l (on_greatest verdict state u w key l)
      greatest_so state None e = found_so state u.object refl
      greatest_so state (Some verdict) e = blind_so verdict e

    best_so : (state : RoundState) (b : Option Found) → best ≡ b → IsClosed (state_of votes) → Follows g s key owed l (on_best b state w key l)
    best_so state None e closed = nothing_so e closed
    best_so state (Some u) e closed = greatest_so u e closed state (blind_verdict w.command) refl

    by_state_so : (state : RoundState) → state_of votes ≡ state → Follows g s key owed l (by_state state best w key l)
    by_state_so Open e = rests_so g s key owed l work free
    by_state_so Met e = best_so Met best refl (subst IsClosed (sym e) tt)
    by_state_so AllAnswered e = best_so AllAnswered best refl (subst IsClosed (sym e) tt)

  gathered_so : RowMoves s g P D key K Rest → (stage : Stage) → (row_at key l.table.rows).stage ≡ stage → Follows g s key owed l (gathered stage w key l)
  gathered_so rows (stages.Reading round votes best) e = by_state_so round votes best e rows (state_of votes) refl
  gathered_so rows stage e = rests_so g s key owed l work free

gathered_for_so : (view : List ℕ) (steps : List Step) (run : IsRun view steps) (g : Ghosts) (key : List ℕ) (owed : List Owed) (l : Leader) → IsAtWork g (state_after view steps) key owed l → l.task ≡ tasks.Nothing
    → (call : Option Waiting) → running key l.table.calls ≡ call → Follows g (state_after view steps) key owed l (gathered_for call key l)
gathered_for_so view steps run g key owed l work free None is = rests_so g (state_after view steps) key owed l work free
gathered_for_so view steps run g key owed l work free (Some w) is = gathered_so g (state_after view steps) (run_leaders view steps run) key owed l (run_keys view steps g (epoch_number l.fact.epoch) key run) work free w is
    (run_rows view steps g (record { peer = l.me; owed = owed }) (epoch_number l.fact.epoch) key (known_of (row_at key l.table.rows).known) (waiting_behind key l.table.calls) run) (row_at key l.table.rows).stage refl

pub run_reads : (view : List ℕ) (steps : List Step) → IsRun view steps → RepliesAreRead (state_after view steps)
run_reads view steps run g key owed l work free = inr (gathered_for_so view steps run g key owed l work free (running key l.table.calls) refl)
