-- Rule 35 after its object is stored, and the replies to a put, are moves of the theory.
use Rattle.std.specs.Prelude.{All, is_none}
use Rattle.std.proofs.Common.{◌≡◌, inl, inr, ℕ, ◌&&◌, Bool, true, false, if◌then◌else◌, List, [], ◌∷◌, ◌++◌, Option, Some, None, refl, sym, ap, subst, ◌∙◌}
use Rattle.std.proofs.lemmas.Bool.{and_parts}
use Rattle.std.proofs.lemmas.List.{append-nil}
use Rattle.std.proofs.lemmas.List.Elements.{All-nil}
use Rattle.ens_base.proofs.Orders.{version_same}
use Rattle.ens_base.specs.Epochs.{same_version}
use Rattle.ens_base.proofs.Lists.{bytes_itself}
use Rattle.ens_base.specs.declared.epoch.Epoch.{Epoch}
use Rattle.ens_base.specs.declared.epoch.Version.{Version}
use Rattle.ens_base.specs.declared.reply.Reply.TheVariants as replies
use Rattle.stored_formats.specs.declared.object.Object.{Object}
use Rattle.phase_rows.specs.Orders.{is_same}
use Rattle.quorums.specs.Quorums.{is_quorum}
use Rattle.quorums.specs.Rounds.{begun, answered as heard_from, state_of}
use Rattle.quorums.specs.declared.round.Round.{Round}
use Rattle.quorums.specs.declared.round.RoundState.{RoundState}
use Rattle.quorums.specs.declared.round.RoundState.TheVariants.{Open, Met, AllAnswered}
use Rattle.register_model.specs.declared.note.Note.TheVariants.{Settled}
use Rattle.wire_frames.specs.declared.message.Message.TheVariants as messages
use Rattle.protocol_laws.specs.Ledger.{put}
use Rattle.protocol_laws.specs.Book.{register_at, version_of}
use Rattle.protocol_laws.specs.Numbers.{epoch_number, IsVersion}
use Rattle.protocol_laws.specs.Objects.{set_entry}
use Rattle.protocol_laws.specs.Protocol.{State, Step, Propose, Settle, Note, Write, Acknowledge, IsRun, state_after, after, happens, MayCome, MayAll}
use Rattle.call_table.specs.Calls.{running}
use Rattle.call_table.specs.Rows.{row_at, with_stage, with_known}
use Rattle.call_table.specs.declared.row.KeyRow.{KeyRow}
use Rattle.call_table.specs.declared.row.Known.{Known}
use Rattle.call_table.specs.declared.row.Stage.{Stage}
use Rattle.call_table.specs.declared.row.Stage.TheVariants as stages
use Rattle.call_table.specs.declared.table.CallTable.{CallTable}
use Rattle.call_table.specs.declared.waiting.Waiting.{Waiting}
use Rattle.leader_output.specs.Outs.{rests, and_note}
use Rattle.leader_output.specs.Sends.{is_other, sent_up_to}
use Rattle.leader_output.specs.declared.out.LeadOut.{LeadOut}
use Rattle.leader_output.specs.declared.out.Outgoing.{Outgoing}
use Rattle.leader_laws.proofs.Lookups.{known_other}
use Rattle.protocol_laws.proofs.Maps.{put_here, mark_here}
use Rattle.leader.specs.Leaders.{with_task, stands, knows, settled_as}
use Rattle.leader.specs.Puts.{write_settled, settled_for, acknowledged, put_stored, put_for, acknowledged_by}
use Rattle.leader.specs.declared.leader.Leader.{Leader}
use Rattle.leader.specs.declared.pending.Pending.{Pending}
use Rattle.leader.specs.declared.pending.Pending.TheVariants as tasks
use Rattle.role_laws.proofs.LeaderMoves.{write_counts, rewrite_counts}
use Rattle.role_laws.proofs.Outcomes.{object_register}
use Rattle.role_laws.proofs.Rounds.{ghosts_same}
use Rattle.role_laws.proofs.Runs.{run_leaders, run_tables, run_peers}
use Rattle.role_laws.specs.LeaderLaws.{LeadersMove, TablesStay}
use Rattle.role_laws.specs.Leaders.{RowHolds, LeaderHolds, PutHolds, TurnsHold}
use Rattle.role_laws.specs.LeaderMessages.{PutSays}
use Rattle.role_laws.specs.Moves.{IsLeaderMove}
use Rattle.role_laws.specs.Tables as theory
use Rattle.role_laws.specs.Tables.{Ghosts, Owed, Seat}
use Rattle.leader_refinement.proofs.Answers.{answered_so, seat_owing}
use Rattle.leader_laws.proofs.Moves.{runs as runs_now}
use Rattle.leader_refinement.proofs.Base.{AreElsewhere, row_of_work, finish, no_move, rests_so, stands_elsewhere, knows_elsewhere, stage_row, known_row, staged_fits, rows_fit, calm_staged, calm_known, set_here, off_same, row_told}
use Rattle.leader_refinement.proofs.Numbers.{rank_back}
use Rattle.leader_laws.proofs.Votes.{answered_on, begun_on}
use Rattle.leader_refinement.proofs.Votes.{answered_fewer, begun_fewer, IsClosed, closed_quorum, sent_say}
use Rattle.leader_refinement.specs.Seen.{rank, content_of, known_of, voters, put_of, waiting_behind, row_parts, row_seen, table_of}
use Rattle.leader_refinement.specs.Follows.{IsOn, PutFits, StageFits, RowFits, ProposeHolds, TaskHolds, IsAtWork, LeaderFits, IsLeaderStep, AreLeaderSteps, Follows, GoesOn, SentSays}
use Rattle.leader_refinement.specs.Laws.{PutGoesIn, PutsGoIn, StoredSays, PutsAreStored, PutsCount}
use Rattle.phase_rows.specs.declared.phase.Seen.{Seen}
use Rattle.phase_rows.specs.declared.phase.Seen.TheVariants as seens

-- ## Rows

-- the row of a key whose object is out
abbrev OutRow : Ghosts → State → Seat → ℕ → List ℕ → Known → List ℕ → ℕ → Bool → Object → (ℕ → Bool) → Type 0
OutRow g s p d key known rest i rewrite o acks = RowHolds g s p d key (theory.row_of (known_of known) (put_of rewrite i o acks) rest)

-- what holds of the object that is out
out_put : (g : Ghosts) (s : State) (p : Seat) (d : ℕ) (key : List ℕ) (known : Known) (rest : List ℕ) (i : ℕ) (rewrite : Bool) (o : Object) (acks : ℕ → Bool) → OutRow g s p d key known rest i rewrite o acks → PutHolds s d key (rank o.version) (content_of o) acks
out_put g s p d key known rest i true o acks row = row.stage.put
out_put g s p d key known rest i false o acks row = row.stage.put

put_fewer : (s : State) (d : ℕ) (key : List ℕ) (v : ℕ) (x : theory.Object) (acks fewer : ℕ → Bool) → ((q : ℕ) → fewer q ≡ true → acks q ≡ true) → PutHolds s d key v x acks → PutHolds s d key v x fewer
put_fewer s d key v x acks fewer less a = record { proposed = a.proposed; key = a.key; epoch = a.epoch; unsettled = a.unsettled; greatest = a.greatest; object = a.object; acked = λ q t. a.acked q (less q t) }

out_fewer : (g : Ghosts) (s : State) (p : Seat) (d : ℕ) (key : List ℕ) (known : Known) (rest : List ℕ) (i : ℕ) (rewrite : Bool) (o : Object) (acks fewer : ℕ → Bool) → ((q : ℕ) → fewer q ≡ true → acks q ≡ true) → OutRow g s p d key known rest i rewrite o acks → OutRow g s p d key known rest i rewrite o fewer
out_fewer g s p d key known rest i true o acks fewer less a = record {
  known = λ n. absurd cc;
  stage = record { put = put_fewer s d key (rank o.version) (content_of o) acks fewer less a.stage.put; unwritten = a.stage.unwritten; call = a.stage.call; fresh = a.stage.fresh };
  calls = a.calls;
  waiting = a.waiting;
  distinct = a.distinct;
}
out_fewer g s p d key known rest i false o acks fewer less a = record {
  known = λ n. absurd cc;
  stage = record { put = put_fewer s d key (rank o.version) (content_of o) acks fewer less a.stage.put; call = a.stage.call; only = a.stage.only };
  calls = a.calls;
  waiting = a.waiting;
  distinct = a.distinct;
}

out_counts : (g : Ghosts) (s : State) (p : Seat) (d : ℕ) (key : List ℕ) (known : Known) (rest : List ℕ) (i : ℕ) (rewrite : Bool) (o : Object) (acks : ℕ → Bool) (q : ℕ) → s.objects.acked (rank o.version) q ≡ true → OutRow g s p d key known rest i rewrite o acks → OutRow g s p d key known rest i rewrite o (put acks q true)
out_counts g s p d key known rest i true o acks q acked row = rewrite_counts g s p d key (known_of known) rest i (rank o.version) (content_of o) acks q acked row
out_counts g s p d key known rest i false o acks q acked row = write_counts g s p d key (known_of known) rest i (rank o.version) (content_of o) acks q acked row

-- ## An acknowledgement

pub gone_same : (value : Option (List ℕ)) → is_none value ≡ theory.is_gone value
gone_same None = refl
gone_same (Some bytes) = refl

-- what is known of a key once the object is settled
settled_same : (g : Ghosts) (key : List ℕ) (rewrite : Bool) (o : Object) (digest : List ℕ) → PutFits g.hash key rewrite o digest → IsVersion o.version → known_of (settled_as o.version o digest) ≡ theory.held g key (rank o.version) (content_of o)
settled_same g key rewrite o digest put fits = parts digest (is_none o.value) (put.hashed ∙ ap (λ (v : Version). g.hash v key o.stamp o.value) (sym (rank_back o.version fits))) (gone_same o.value)
  where
    parts : (d : List ℕ) (gone : Bool) → d ≡ g.hash (version_of (rank o.version)) key o.stamp o.value → gone ≡ theory.is_gone o.value → theory.Held (rank o.version) o.stamp d gone ≡ theory.Held (rank o.version) o.stamp (g.hash (version_of (rank o.version)) key o.stamp o.value) (theory.is_gone o.value)
    parts d gone e f = rw (e, f) refl

once_off : (key : List ℕ) (rows : List ℕ → theory.KeyRow) (first : theory.KeyRow) (t : CallTable) → AreElsewhere key rows t → AreElsewhere key (theory.set_row rows key first) t
once_off key rows first t others j off = rw off (others j off)

module _ (g : Ghosts) (s : State) (laws : LeadersMove s) (tables : TablesStay s) (key : List ℕ) (owed : List Owed) (w : Waiting) (m : Leader) (rows : List ℕ → theory.KeyRow) (rewrite : Bool) (o : Object) (digest : List ℕ) (acks : Round)
    (free : m.task ≡ tasks.Nothing) (is : running key m.table.calls ≡ Some w)
    (holds : LeaderHolds g s (record { epoch = epoch_number m.fact.epoch; seat = record { peer = m.me; owed = owed }; seq = m.seq; round = m.round; rows = rows })) (others : AreElsewhere key rows m.table)
    (row : OutRow g s (record { peer = m.me; owed = owed }) (epoch_number m.fact.epoch) key (row_at key m.table.rows).known (waiting_behind key m.table.calls) w.id rewrite o (voters acks))
    (turns : TurnsHold g s) (fits : LeaderFits g.hash s m) (on : IsOn m.fact.views acks) (in_range : IsVersion o.version) (out : PutFits g.hash key rewrite o digest)
    (sends : List Outgoing) (say : (t : State) → PutSays t (epoch_number m.fact.epoch) o.key (rank o.version) (content_of o) → All (SentSays g t) sends) where
  abbrev T : theory.Leader
  T = record { epoch = epoch_number m.fact.epoch; seat = record { peer = m.me; owed = owed }; seq = m.seq; round = m.round; rows = rows }

  out_says : PutSays s (epoch_number m.fact.epoch) o.key (rank o.version) (content_of o)
  out_says = let put = out_put g s (record { peer = m.me; owed = owed }) (epoch_number m.fact.epoch) key (row_at key m.table.rows).known (waiting_behind key m.table.calls) w.id rewrite o (voters acks) row in
      record { proposed = put.proposed; key = put.key ∙ sym out.on_key; epoch = put.epoch; object = put.object }

  abbrev waiting_table : CallTable
  waiting_table = record m.table { rows = with_stage key (stages.Putting o digest acks rewrite) m.table.rows }

  waits : Follows g s key owed m (stands key (stages.Putting o digest acks rewrite) m, record rests { sends = sends })
  waits = record {
    steps = [];
    ghosts = g;
    move = finish g g s [] T key m.task waiting_table (no_move g s T holds) (λ j off. others j off ∙ stands_elsewhere key (stages.Putting o digest acks rewrite) m.table j off)
        (subst (λ (task : Pending). RowHolds g s (record { peer = m.me; owed = owed }) (epoch_number m.fact.epoch) key (row_seen task key waiting_table)) (sym free)
        (subst (λ (r : KeyRow). RowHolds g s (record { peer = m.me; owed = owed }) (epoch_number m.fact.epoch) key (row_parts r.known (running key m.table.calls) tasks.Nothing r.stage (waiting_behind key m.table.calls))) (sym (stage_row key (stages.Putting o digest acks rewrite) m.table.rows))
        (subst (λ (call : Option Waiting). RowHolds g s (record { peer = m.me; owed = owed }) (epoch_number m.fact.epoch) key (row_parts (row_at key m.table.rows).known call tasks.Nothing (stages.Putting o digest acks rewrite) (waiting_behind key m.table.calls))) (sym is) row)));
    kinds = tt;
    turns = turns;
    fits = record { epoch = fits.epoch; seq = fits.seq; views = fits.views; rows = staged_fits g.hash m.fact.views key (stages.Putting o digest acks rewrite) m.table.rows (on, (in_range, out)) fits.rows; calls = fits.calls; calm = calm_staged key (stages.Putting o digest acks rewrite) m.table w is fits.calm };
    same = (refl, (refl, refl));
    task = subst (λ (task : Pending). TaskHolds s (stands key (stages.Putting o digest acks rewrite) m) key (row_at key waiting_table.rows).known (running key waiting_table.calls) task) (sym free) tt;
    notes = sym (append-nil s.book.notes);
    sends = say s out_says;
    ready = tt;
    next = (refl, free);
  }

  -- ## It settles

  abbrev steps : List Step
  steps = Settle (rank o.version) ∷ []

  abbrev after_known : Leader
  after_known = knows key (settled_as o.version o digest) m

  known_same : known_of (row_at key after_known.table.rows).known ≡ theory.held g key (rank o.version) (content_of o)
  known_same = ap (λ (r : KeyRow). known_of r.known) (known_row key (settled_as o.version o digest) m.table.rows) ∙ settled_same g key rewrite o digest out in_range

  quorum : IsClosed (state_of acks) → is_quorum (voters acks) (s.objects.ledger.views (epoch_number m.fact.epoch)) ≡ true
  quorum closed = subst (λ (views : List (List ℕ)). is_quorum (voters acks) views ≡ true) (on ∙ sym fits.views) (closed_quorum acks closed)

  settled_note : (after s steps).book.notes ≡ s.book.notes ++ Settled key o.version ∷ []
  settled_note = note_is (s.objects.key (rank o.version)) (version_of (rank o.version)) (out_put g s (record { peer = m.me; owed = owed }) (epoch_number m.fact.epoch) key (row_at key m.table.rows).known (waiting_behind key m.table.calls) w.id rewrite o (voters acks) row).key (rank_back o.version in_range)
    where
      note_is : (k : List ℕ) (v : Version) → k ≡ key → v ≡ o.version → s.book.notes ++ Settled k v ∷ [] ≡ s.book.notes ++ Settled key o.version ∷ []
      note_is k v e f = rw (e, f) refl

  settled_fits : LeaderFits g.hash (after s steps) after_known
  settled_fits = record { epoch = fits.epoch; seq = fits.seq; views = fits.views; rows = rows_fit g.hash m.fact.views key m.table.rows (with_known key (settled_as o.version o digest) m.table.rows) (λ j off. known_other key j (settled_as o.version o digest) m.table.rows off) (subst (λ (r : KeyRow). RowFits g.hash m.fact.views key r) (sym (known_row key (settled_as o.version o digest) m.table.rows)) (in_range, (fits.rows key).1)) fits.rows; calls = fits.calls; calm = calm_known key (settled_as o.version o digest) m.table fits.calm }

  abbrev settled_row : theory.Stage → theory.KeyRow
  settled_row stage = theory.row_of (theory.held g key (rank o.version) (content_of o)) stage (waiting_behind key m.table.calls)

  abbrev settled_out : LeadOut
  settled_out = and_note (Settled key o.version) (record rests { sends = sends })

  -- a write is answered
  write_settles : rewrite ≡ false → IsClosed (state_of acks) → Follows g s key owed m (settled_for false o key settled_out after_known)
  write_settles false_is closed = subst (λ (call : Option Waiting). Follows g s key owed m (write_settled call o key settled_out after_known)) (sym is)
      (answered_so g g s steps key owed after_known w (replies.Ok o.stamp) (theory.set_row rows key (settled_row theory.Idle)) free is move
      (λ j off. once_off key rows (settled_row theory.Idle) m.table others j off ∙ knows_elsewhere key (settled_as o.version o digest) m.table j off)
      (subst (λ (known : theory.Known). RowHolds g (after s steps) (seat_owing m owed w.id (replies.Ok o.stamp)) (epoch_number m.fact.epoch) key (theory.row_of known theory.Idle (waiting_behind key m.table.calls))) (sym known_same)
      (subst (λ (r : theory.KeyRow). RowHolds g (after s steps) (seat_owing m owed w.id (replies.Ok o.stamp)) (epoch_number m.fact.epoch) key r) (set_here rows key (settled_row theory.Idle)) (move.holds.rows key)))
      (tables.turns g steps move.may turns) settled_fits (tt, tt) sends (Settled key o.version ∷ []) settled_note
      (say (after s steps) (tables.puts steps (epoch_number m.fact.epoch) o.key (rank o.version) (content_of o) move.may out_says)))
    where
      move : IsLeaderMove g s steps g (theory.owing T key (settled_row theory.Idle) w.id (replies.Ok o.stamp))
      move = subst (λ (v : Version). IsLeaderMove g s steps g (theory.owing T key (settled_row theory.Idle) w.id (replies.Ok v))) (rank_back o.version in_range ∙ sym (out.stamp false_is))
          ((laws.rows g T key (known_of (row_at key m.table.rows).known) (waiting_behind key m.table.calls) holds).settles_write w.id (rank o.version) (content_of o) (voters acks)
          (subst (λ (b : Bool). OutRow g s (record { peer = m.me; owed = owed }) (epoch_number m.fact.epoch) key (row_at key m.table.rows).known (waiting_behind key m.table.calls) w.id b o (voters acks)) false_is row) (quorum closed))

  abbrev applying_table : CallTable
  applying_table = record after_known.table { rows = with_stage key stages.Idle after_known.table.rows }

  abbrev applying : Leader
  applying = with_task (tasks.Apply (Some o)) (stands key stages.Idle after_known)

  known_again : known_of (row_at key applying_table.rows).known ≡ theory.held g key (rank o.version) (content_of o)
  known_again = ap (λ (r : KeyRow). known_of r.known) (stage_row key stages.Idle after_known.table.rows) ∙ known_same

  -- after a rewrite its object is applied
  rewrite_settles : rewrite ≡ true → IsClosed (state_of acks) → Follows g s key owed m (settled_for true o key settled_out after_known)
  rewrite_settles true_is closed = record {
    steps = steps;
    ghosts = g;
    move = finish g g s steps (theory.with_row T key (settled_row (theory.Sure w.id))) key (tasks.Apply (Some o)) applying_table move
        (λ j off. once_off key rows (settled_row (theory.Sure w.id)) m.table others j off ∙ knows_elsewhere key (settled_as o.version o digest) m.table j off ∙ stands_elsewhere key stages.Idle after_known.table j off)
        (subst (λ (call : Option Waiting). RowHolds g (after s steps) (record { peer = m.me; owed = owed }) (epoch_number m.fact.epoch) key (row_parts (row_at key applying_table.rows).known call (tasks.Apply (Some o)) (row_at key applying_table.rows).stage (waiting_behind key m.table.calls))) (sym is)
        (subst (λ (known : theory.Known). RowHolds g (after s steps) (record { peer = m.me; owed = owed }) (epoch_number m.fact.epoch) key (theory.row_of known (theory.Sure w.id) (waiting_behind key m.table.calls))) (sym known_again)
        (subst (λ (r : theory.KeyRow). RowHolds g (after s steps) (record { peer = m.me; owed = owed }) (epoch_number m.fact.epoch) key r) (set_here rows key (settled_row (theory.Sure w.id))) (move.holds.rows key))));
    kinds = (tt, tt);
    turns = tables.turns g steps move.may turns;
    fits = record { epoch = settled_fits.epoch; seq = settled_fits.seq; views = settled_fits.views; rows = staged_fits g.hash m.fact.views key stages.Idle after_known.table.rows tt settled_fits.rows; calls = settled_fits.calls; calm = calm_staged key stages.Idle after_known.table w is settled_fits.calm };
    same = (refl, (refl, refl));
    task = subst (λ (call : Option Waiting). TaskHolds (after s steps) applying key (row_at key applying_table.rows).known call (tasks.Apply (Some o))) (sym is) (record {
      register = object_register s (rank o.version) (content_of o) out_says.object ∙ ap (λ (known : theory.Known). register_at s.book (theory.base_of known)) (sym known_again);
    });
    notes = settled_note;
    sends = say (after s steps) (tables.puts steps (epoch_number m.fact.epoch) o.key (rank o.version) (content_of o) move.may out_says);
    ready = λ e. absurd cc;
    next = (refl, (refl, runs_now key m.table.calls w is));
  }
    where
      move : IsLeaderMove g s steps g (theory.with_row T key (settled_row (theory.Sure w.id)))
      move = (laws.rows g T key (known_of (row_at key m.table.rows).known) (waiting_behind key m.table.calls) holds).settles_rewrite w.id (rank o.version) (content_of o) (voters acks)
          (subst (λ (b : Bool). OutRow g s (record { peer = m.me; owed = owed }) (epoch_number m.fact.epoch) key (row_at key m.table.rows).known (waiting_behind key m.table.calls) w.id b o (voters acks)) true_is row) (quorum closed)

  settles_so : (b : Bool) → rewrite ≡ b → IsClosed (state_of acks) → Follows g s key owed m (settled_for b o key settled_out after_known)
  settles_so true e closed = rewrite_settles e closed
  settles_so false e closed = write_settles e closed

  acknowledged_so : (state : RoundState) → state_of acks ≡ state → Follows g s key owed m (acknowledged state o digest acks rewrite key (record rests { sends = sends }) m)
  acknowledged_so Open e = waits
  acknowledged_so Met e = settles_so rewrite refl (subst IsClosed (sym e) tt)
  acknowledged_so AllAnswered e = settles_so rewrite refl (subst IsClosed (sym e) tt)

-- ## A reply

module _ (g : Ghosts) (s : State) (laws : LeadersMove s) (tables : TablesStay s) (key : List ℕ) (owed : List Owed) (l : Leader) (work : IsAtWork g s key owed l) (free : l.task ≡ tasks.Nothing) (from : ℕ) (ballot : Epoch) (version : Version) (acked : s.objects.acked (rank version) from ≡ true) where
  module _ (w : Waiting) (is : running key l.table.calls ≡ Some w) (o : Object) (digest : List ℕ) (acks : Round) (rewrite : Bool) (stage : (row_at key l.table.rows).stage ≡ stages.Putting o digest acks rewrite) where
    put_row : OutRow g s (record { peer = l.me; owed = owed }) (epoch_number l.fact.epoch) key (row_at key l.table.rows).known (waiting_behind key l.table.calls) w.id rewrite o (voters acks)
    put_row = row_told g s key owed l work.holds (Some w) is tasks.Nothing free _ stage

    stage_fits : IsOn l.fact.views acks × (IsVersion o.version × PutFits g.hash key rewrite o digest)
    stage_fits = subst (λ (st : Stage). StageFits g.hash key l.fact.views st) stage (work.fits.rows key).1

    counted_so : version ≡ o.version → Follows g s key owed l (acknowledged (state_of (heard_from from acks)) o digest (heard_from from acks) rewrite key rests l)
    counted_so same = acknowledged_so g s laws tables key owed w l (table_of key owed l).rows rewrite o digest (heard_from from acks) free is work.holds (off_same key owed l)
        (out_fewer g s (record { peer = l.me; owed = owed }) (epoch_number l.fact.epoch) key (row_at key l.table.rows).known (waiting_behind key l.table.calls) w.id rewrite o (put (voters acks) from true) (voters (heard_from from acks)) (answered_fewer acks from)
        (out_counts g s (record { peer = l.me; owed = owed }) (epoch_number l.fact.epoch) key (row_at key l.table.rows).known (waiting_behind key l.table.calls) w.id rewrite o (voters acks) from (subst (λ (v : Version). s.objects.acked (rank v) from ≡ true) same acked) put_row))
        work.turns work.fits (answered_on acks from ∙ stage_fits.0) stage_fits.1.0 stage_fits.1.1 [] (λ t says. All-nil (SentSays g t)) (state_of (heard_from from acks)) refl

    by_version : (b : Bool) → (is_same ballot l.fact.epoch && same_version version o.version) ≡ b → Follows g s key owed l (if b then acknowledged (state_of (heard_from from acks)) o digest (heard_from from acks) rewrite key rests l else (l, rests))
    by_version true e = counted_so (version_same version o.version (and_parts (is_same ballot l.fact.epoch) (same_version version o.version) e).1)
    by_version false e = rests_so g s key owed l work free

  acknowledged_by_so : (call : Option Waiting) → running key l.table.calls ≡ call → (stage : Stage) → (row_at key l.table.rows).stage ≡ stage → Follows g s key owed l (acknowledged_by stage from ballot version key l)
  acknowledged_by_so (Some w) is (stages.Putting o digest acks rewrite) e = by_version w is o digest acks rewrite e (is_same ballot l.fact.epoch && same_version version o.version) refl
  acknowledged_by_so None is (stages.Putting o digest acks rewrite) e = absurd (not_idle (sym (work.fits.calm key is) ∙ e))
    where
      not_idle : stages.Idle ≡ stages.Putting o digest acks rewrite → ⊥
      not_idle e = cc
  acknowledged_by_so call is stage e = rests_so g s key owed l work free

pub run_acknowledged : (view : List ℕ) (steps : List Step) → IsRun view steps → PutsCount (state_after view steps)
run_acknowledged view steps run g key owed l from ballot version work free acked = let s = state_after view steps in
    inr (acknowledged_by_so g s (run_leaders view steps run) (run_tables view steps run) key owed l work free from ballot version acked (running key l.table.calls) refl (row_at key l.table.rows).stage refl)

-- ## The object is stored

-- a proposal is out
as_out : (g : Ghosts) (s : State) (p : Seat) (d : ℕ) (key : List ℕ) (known : Known) (w : Waiting) (stage : Stage) (rest : List ℕ) (o : Object) (parent : Option Version) (call : Option ℕ) → RowHolds g s p d key (row_parts known (Some w) (tasks.Propose o parent call) stage rest) → OutRow g s p d key known rest w.id (is_none call) o (λ q. false)
as_out g s p d key known w stage rest o parent None row = row
as_out g s p d key known w stage rest o parent (Some i) row = row

entry_here : (m : List ℕ → ℕ) (key : List ℕ) (v : ℕ) → set_entry m key v key ≡ v
entry_here m key v = rw (bytes_itself key) refl

-- steps of a leader after an acknowledgement were its steps before
same_kind : (s : State) (me p v : ℕ) (step : Step) → IsLeaderStep (happens s (Acknowledge p v)) me step → IsLeaderStep s me step
same_kind s me p v (Propose u k parent stamp content call) own = tt
same_kind s me p v (Settle u) own = tt
same_kind s me p v (Note i k u d) own = tt
same_kind s me p v (Acknowledge q u) own = own
same_kind s me p v step own = absurd own

same_kinds : (s : State) (me p v : ℕ) (steps : List Step) → AreLeaderSteps (happens s (Acknowledge p v)) me steps → AreLeaderSteps s me steps
same_kinds s me p v [] own = tt
same_kinds s me p v (step ∷ steps) own = (same_kind s me p v step own.0, same_kinds s me p v steps own.1)

-- a tree shows the version that it took
shown_after : (s : State) (p v : ℕ) (key : List ℕ) → s.objects.key v ≡ key → (happens s (Write p v)).objects.visible p key ≡ v
shown_after s p v key on_key = ap (λ (m : List ℕ → ℕ). m key) (put_here s.objects.visible p (set_entry (s.objects.visible p) (s.objects.key v) v))
    ∙ subst (λ (j : List ℕ). set_entry (s.objects.visible p) j v key ≡ v) (sym on_key) (entry_here (s.objects.visible p) key v)

module _ (view : List ℕ) (events : List Step) (run : IsRun view events) (g : Ghosts) (key : List ℕ) (owed : List Owed) (l : Leader) (work : IsAtWork g (state_after view events) key owed l) (w : Waiting) (is : running key l.table.calls ≡ Some w) (o : Object) (parent : Option Version) (call : Option ℕ) (task : l.task ≡ tasks.Propose o parent call)
    (stands_at : (state_after view events).objects.ledger.ballot l.me ≡ epoch_number l.fact.epoch) (trusted : (state_after view events).objects.trusted l.me ≡ true) (accepted : (state_after view events).objects.ledger.accepted (epoch_number l.fact.epoch) l.me ≡ true) where
  abbrev S : State
  S = state_after view events

  abbrev L : theory.Leader
  L = table_of key owed l

  proposes : ProposeHolds l key w o parent call
  proposes = subst (λ (c : Option Waiting). TaskHolds (state_after view events) l key (row_at key l.table.rows).known c (tasks.Propose o parent call)) is (subst (λ (t : Pending). TaskHolds (state_after view events) l key (row_at key l.table.rows).known (running key l.table.calls) t) task work.task)

  out_at : (t : State) → LeaderHolds g t (table_of key owed l) → OutRow g t (record { peer = l.me; owed = owed }) (epoch_number l.fact.epoch) key (row_at key l.table.rows).known (waiting_behind key l.table.calls) w.id (is_none call) o (λ q. false)
  out_at t holds = as_out g t (record { peer = l.me; owed = owed }) (epoch_number l.fact.epoch) key (row_at key l.table.rows).known w (row_at key l.table.rows).stage (waiting_behind key l.table.calls) o parent call
      (subst (λ (c : Option Waiting). RowHolds g t (record { peer = l.me; owed = owed }) (epoch_number l.fact.epoch) key (row_parts (row_at key l.table.rows).known c (tasks.Propose o parent call) (row_at key l.table.rows).stage (waiting_behind key l.table.calls))) is
      (subst (λ (p : Pending). RowHolds g t (record { peer = l.me; owed = owed }) (epoch_number l.fact.epoch) key (row_parts (row_at key l.table.rows).known (running key l.table.calls) p (row_at key l.table.rows).stage (waiting_behind key l.table.calls))) task (row_of_work g t key owed l holds)))

  put_now : PutHolds S (epoch_number l.fact.epoch) key (rank o.version) (content_of o) (λ q. false)
  put_now = out_put g S (record { peer = l.me; owed = owed }) (epoch_number l.fact.epoch) key (row_at key l.table.rows).known (waiting_behind key l.table.calls) w.id (is_none call) o (λ q. false) (out_at S work.holds)

  put_says : PutSays S (epoch_number l.fact.epoch) key (rank o.version) (content_of o)
  put_says = record { proposed = put_now.proposed; key = put_now.key; epoch = put_now.epoch; object = put_now.object }

  -- ## Its version goes into the tree

  may_write : MayCome S (Write l.me (rank o.version))
  may_write = ((run_leaders view events run).own_acknowledgement l.me (epoch_number l.fact.epoch) key (rank o.version) (content_of o) (λ q. false) stands_at trusted accepted put_now).0

  holds_written : LeaderHolds g (happens S (Write l.me (rank o.version))) L
  holds_written = (run_tables view events run).spared g g (Write l.me (rank o.version)) L may_write (ghosts_same S g) work.holds.rounds (record { rows = λ k. tt; owed = λ i m. tt }) work.holds

  goes_in_so : PutGoesIn g S key owed l o
  goes_in_so = record {
    says = put_says;
    may = may_write;
    shows = shown_after S l.me (rank o.version) key put_now.key;
    work = record {
      holds = holds_written;
      turns = (run_tables view events run).turns g (Write l.me (rank o.version) ∷ []) (may_write, tt) work.turns;
      fits = record { epoch = work.fits.epoch; seq = work.fits.seq; views = work.fits.views; rows = work.fits.rows; calls = work.fits.calls; calm = work.fits.calm };
      task = subst (λ (t : Pending). TaskHolds (happens S (Write l.me (rank o.version))) l key (row_at key l.table.rows).known (running key l.table.calls) t) (sym task)
          (subst (λ (c : Option Waiting). TaskHolds (happens S (Write l.me (rank o.version))) l key (row_at key l.table.rows).known c (tasks.Propose o parent call)) (sym is) proposes);
    };
  }

  -- ## The peer acknowledges it

  module _ (digest : List ℕ) (hashed : digest ≡ g.hash o.version key o.stamp o.value) (shows : (state_after view events).objects.visible l.me key ≡ rank o.version) where
    abbrev own_steps : List Step
    own_steps = Acknowledge l.me (rank o.version) ∷ []

    may_own : MayAll (state_after view events) own_steps
    may_own = (run_peers view events l.me (epoch_number l.fact.epoch) run stands_at).put_is_there key (rank o.version) (content_of o) trusted accepted put_says shows

    run_acked : IsRun view (Acknowledge l.me (rank o.version) ∷ events)
    run_acked = (run, may_own.0)

    holds_acked : LeaderHolds g (after S own_steps) L
    holds_acked = (run_tables view events run).spared g g (Acknowledge l.me (rank o.version)) L may_own.0 (ghosts_same S g) work.holds.rounds (record { rows = λ k. tt; owed = λ i m. tt }) work.holds

    own_row : OutRow g (after S own_steps) (record { peer = l.me; owed = owed }) (epoch_number l.fact.epoch) key (row_at key l.table.rows).known (waiting_behind key l.table.calls) w.id (is_none call) o (voters (begun l.fact.views l.me))
    own_row = out_fewer g (after S own_steps) (record { peer = l.me; owed = owed }) (epoch_number l.fact.epoch) key (row_at key l.table.rows).known (waiting_behind key l.table.calls) w.id (is_none call) o (put (λ q. false) l.me true) (voters (begun l.fact.views l.me)) (begun_fewer l.fact.views l.me)
        (out_counts g (after S own_steps) (record { peer = l.me; owed = owed }) (epoch_number l.fact.epoch) key (row_at key l.table.rows).known (waiting_behind key l.table.calls) w.id (is_none call) o (λ q. false) l.me (mark_here S.objects.acked (rank o.version) l.me) (out_at (after S own_steps) holds_acked))

    put_fits : PutFits g.hash key (is_none call) o digest
    put_fits = record { on_key = proposes.on_key; hashed = hashed; stamp = by_call call refl }
      where
        by_call : (c : Option ℕ) → call ≡ c → is_none c ≡ false → o.stamp ≡ o.version
        by_call None e not = absurd cc
        by_call (Some i) e not = proposes.own_stamp i e

    second : Follows g (after S own_steps) key owed l (put_stored o digest (is_none call) key (with_task tasks.Nothing l))
    second = acknowledged_so g (after S own_steps) (run_leaders view (Acknowledge l.me (rank o.version) ∷ events) run_acked) (run_tables view (Acknowledge l.me (rank o.version) ∷ events) run_acked) key owed w (with_task tasks.Nothing l) (table_of key owed l).rows (is_none call) o digest (begun l.fact.views l.me) refl is holds_acked (off_same key owed l) own_row
        ((run_tables view events run).turns g own_steps may_own work.turns) (record { epoch = work.fits.epoch; seq = work.fits.seq; views = work.fits.views; rows = work.fits.rows; calls = work.fits.calls; calm = work.fits.calm }) (begun_on l.fact.views l.me) proposes.fits put_fits
        (sent_up_to (is_other l.me l.fact.views) (messages.Put l.fact.epoch o) 31) (λ t says. sent_say g t (is_other l.me l.fact.views) (messages.Put l.fact.epoch o) says 31) (state_of (begun l.fact.views l.me)) refl

    -- the acknowledgement comes first
    stored_so : Follows g S key owed l (put_stored o digest (is_none call) key (with_task tasks.Nothing l))
    stored_so = after_own second
      where
        after_own : Follows g (after S own_steps) key owed l (put_stored o digest (is_none call) key (with_task tasks.Nothing l)) → Follows g S key owed l (put_stored o digest (is_none call) key (with_task tasks.Nothing l))
        after_own f = record {
          steps = Acknowledge l.me (rank o.version) ∷ f.steps;
          ghosts = f.ghosts;
          move = record { may = (may_own.0, f.move.may); holds = f.move.holds; own = (tt, f.move.own); ghosts = record { turn = f.move.ghosts.turn; home = f.move.ghosts.home; hash = f.move.ghosts.hash }; turns = f.move.turns };
          kinds = ((refl, ap (λ (k : List ℕ). S.objects.visible l.me k) put_now.key ∙ shows), same_kinds S l.me l.me (rank o.version) f.steps f.kinds);
          turns = f.turns;
          fits = f.fits;
          same = f.same;
          task = f.task;
          notes = f.notes;
          sends = f.sends;
          ready = f.ready;
          next = f.next;
        }

module _ (view : List ℕ) (events : List Step) (run : IsRun view events) (g : Ghosts) (key : List ℕ) (owed : List Owed) (l : Leader) (work : IsAtWork g (state_after view events) key owed l) (o : Object) (parent : Option Version) (call : Option ℕ) (task : l.task ≡ tasks.Propose o parent call)
    (stands_at : (state_after view events).objects.ledger.ballot l.me ≡ epoch_number l.fact.epoch) (trusted : (state_after view events).objects.trusted l.me ≡ true) (accepted : (state_after view events).objects.ledger.accepted (epoch_number l.fact.epoch) l.me ≡ true) where
  -- a proposal is for a running call
  no_proposal : running key l.table.calls ≡ None → ⊥
  no_proposal is = subst (λ (c : Option Waiting). TaskHolds (state_after view events) l key (row_at key l.table.rows).known c (tasks.Propose o parent call)) is (subst (λ (t : Pending). TaskHolds (state_after view events) l key (row_at key l.table.rows).known (running key l.table.calls) t) task work.task)

  goes_in_by : (c : Option Waiting) → running key l.table.calls ≡ c → PutGoesIn g (state_after view events) key owed l o
  goes_in_by None is = absurd (no_proposal is)
  goes_in_by (Some w) is = goes_in_so view events run g key owed l work w is o parent call task stands_at trusted accepted

  stored_by : (digest : List ℕ) → digest ≡ g.hash o.version key o.stamp o.value → (state_after view events).objects.visible l.me key ≡ rank o.version → (c : Option Waiting) → running key l.table.calls ≡ c → Follows g (state_after view events) key owed l (put_stored o digest (is_none call) key (with_task tasks.Nothing l))
  stored_by digest hashed shows None is = absurd (no_proposal is)
  stored_by digest hashed shows (Some w) is = stored_so view events run g key owed l work w is o parent call task stands_at trusted accepted digest hashed shows

  by_seen : (seen : Seen) → StoredSays g (state_after view events) l.me key o seen → GoesOn g (state_after view events) key owed l (put_for (tasks.Propose o parent call) seen key (with_task tasks.Nothing l))
  by_seen (seens.Stored digest) says = inr (stored_by digest says.0 says.1 (running key l.table.calls) refl)
  by_seen (seens.Damaged at) says = inl (record { why = inr refl; calls = refl; same = (refl, (refl, refl)) })
  by_seen seen says = absurd says

pub run_goes_in : (view : List ℕ) (steps : List Step) → IsRun view steps → PutsGoIn (state_after view steps)
run_goes_in view steps run g key owed l o parent call work task stands_at trusted accepted = goes_in_by view steps run g key owed l work o parent call task stands_at trusted accepted (running key l.table.calls) refl

pub run_stored : (view : List ℕ) (steps : List Step) → IsRun view steps → PutsAreStored (state_after view steps)
run_stored view steps run g key owed l o parent call seen work task stands_at trusted accepted says =
    subst (λ (t : Pending). GoesOn g (state_after view steps) key owed l (put_for t seen key (with_task tasks.Nothing l))) (sym task) (by_seen view steps run g key owed l work o parent call task stands_at trusted accepted seen says)
