-- Rule 33, and the replies to a check, are moves of the theory.
use Rattle.std.specs.Prelude.{All}
use Rattle.std.proofs.Common.{◌≡◌, inl, inr, ℕ, suc, ◌+◌, Bool, true, false, ◌==◌, if◌then◌else◌, List, [], ◌∷◌, Option, Some, None, eqb-true, refl, sym, ap, subst, ◌∙◌}
use Rattle.std.proofs.lemmas.Bool.{and_parts}
use Rattle.std.proofs.lemmas.List.{append-nil}
use Rattle.std.proofs.lemmas.List.Elements.{All-nil}
use Rattle.std.proofs.Math.Numerals.{suc-eq-add-one}
use Rattle.ens_base.specs.declared.command.Command.{Command}
use Rattle.ens_base.specs.declared.epoch.Epoch.{Epoch}
use Rattle.ens_base.specs.declared.reply.Reply.{Reply}
use Rattle.phase_rows.specs.Orders.{is_same}
use Rattle.quorums.specs.Quorums.{is_quorum}
use Rattle.quorums.specs.Rounds.{begun, answered as heard_from, state_of}
use Rattle.quorums.specs.declared.round.Round.{Round}
use Rattle.quorums.specs.declared.round.RoundState.{RoundState}
use Rattle.quorums.specs.declared.round.RoundState.TheVariants.{Open, Met, AllAnswered}
use Rattle.register_model.specs.Registers.{outcome}
use Rattle.register_model.specs.declared.note.Note.TheVariants.{Read}
use Rattle.wire_frames.specs.declared.message.Message.TheVariants.{Check}
use Rattle.phase_rows.specs.declared.phase.Then.TheVariants.{Stay}
use Rattle.phase_rows.proofs.Epochs.{same_epochs}
use Rattle.protocol_laws.specs.Ledger.{put}
use Rattle.protocol_laws.specs.Book.{register_at}
use Rattle.protocol_laws.specs.Numbers.{epoch_number}
use Rattle.protocol_laws.specs.Protocol.{State, Step, Note, IsRun, state_after, after}
use Rattle.call_table.specs.Calls.{running}
use Rattle.call_table.specs.Rows.{Checks, row_at, with_stage, with_check}
use Rattle.call_table.specs.declared.row.KeyRow.{KeyRow}
use Rattle.call_table.specs.declared.row.Stage.{Stage}
use Rattle.call_table.specs.declared.row.Stage.TheVariants as stages
use Rattle.call_table.specs.declared.table.CallTable.{CallTable}
use Rattle.call_table.specs.declared.waiting.Waiting.{Waiting}
use Rattle.leader_output.specs.Outs.{rests, leaves}
use Rattle.leader_output.specs.Sends.{is_other, sent_up_to, tells_all}
use Rattle.leader_output.specs.declared.out.Outgoing.{Outgoing}
use Rattle.leader.specs.Leaders.{base, read_answered, with_task, stands, is_spent}
use Rattle.leader.specs.Rounds.{counts, begins_check, check_now, checked_for, goes_on_checking, stood, stood_at}
use Rattle.leader.specs.declared.leader.Leader.{Leader}
use Rattle.leader.specs.declared.pending.Pending.{Pending}
use Rattle.leader.specs.declared.pending.Pending.TheVariants as tasks
use Rattle.role_laws.proofs.LeaderMoves.{check_counts}
use Rattle.role_laws.proofs.Rounds.{turn_here}
use Rattle.role_laws.proofs.Runs.{run_leaders, run_tables, run_peers}
use Rattle.role_laws.specs.LeaderLaws.{LeadersMove, TablesStay, PeersReply}
use Rattle.role_laws.specs.Leaders.{RowHolds, TurnsHold}
use Rattle.role_laws.specs.LeaderMessages.{CheckSays, CheckReplySays}
use Rattle.role_laws.specs.Moves.{IsLeaderMove}
use Rattle.role_laws.specs.Tables as theory
use Rattle.role_laws.specs.Tables.{Ghosts, Owed, Seat}
use Rattle.leader_refinement.proofs.Answers.{answered_so, seat_owing, noted_base}
use Rattle.leader_refinement.proofs.Base.{AreElsewhere, finish, with_row_too, no_move, rests_so, stands_elsewhere, stage_row, agree_running, staged_fits, calm_staged, set_here, off_same, row_told}
use Rattle.leader_laws.proofs.Votes.{answered_on, begun_on}
use Rattle.leader_refinement.proofs.Votes.{answered_fewer, begun_fewer, IsClosed, closed_quorum, sent_say}
use Rattle.leader_refinement.specs.Seen.{known_of, voters, waiting_behind, row_parts, row_seen, table_of}
use Rattle.leader_refinement.specs.Follows.{settled_rank, StageFits, IsOn, CheckHolds, TaskHolds, IsAtWork, LeaderFits, Follows, GoesOn, SentSays}
use Rattle.leader_refinement.specs.Laws.{ChecksBegin, ChecksCount}

-- ## Rows

-- what fewer replies say holds too
check_fewer : (g : Ghosts) (s : State) (p : Seat) (d : ℕ) (key : List ℕ) (known : theory.Known) (rest : List ℕ) (i r : ℕ) (replied fewer : ℕ → Bool) (reply : Reply) → ((q : ℕ) → fewer q ≡ true → replied q ≡ true)
    → RowHolds g s p d key (theory.row_of known (theory.Checking i r replied reply) rest) → RowHolds g s p d key (theory.row_of known (theory.Checking i r fewer reply) rest)
check_fewer g s p d key known rest i r replied fewer reply less a = record {
  known = λ n. a.known refl;
  stage = (record { turn = a.stage.0.turn; unwritten = a.stage.0.unwritten; stood = λ q t. a.stage.0.stood q (less q t); keeps = a.stage.0.keeps }, a.stage.1);
  calls = a.calls;
  waiting = a.waiting;
  distinct = a.distinct;
}

-- ## A check

module _ (g : Ghosts) (s : State) (laws : LeadersMove s) (tables : TablesStay s) (key : List ℕ) (owed : List Owed) (w : Waiting) where
  -- a quorum replied to the check of the leader m: the read is noted, and the reply given
  noted_so : (h : Ghosts) (m : Leader) (rows : List ℕ → theory.KeyRow) (round : ℕ) (votes : Round) (reply : Reply) → m.task ≡ tasks.Nothing → running key m.table.calls ≡ Some w
      → IsLeaderMove g s [] h (record { epoch = epoch_number m.fact.epoch; seat = record { peer = m.me; owed = owed }; seq = m.seq; round = m.round; rows = rows }) → AreElsewhere key rows m.table
      → RowHolds h s (record { peer = m.me; owed = owed }) (epoch_number m.fact.epoch) key (theory.row_of (known_of (row_at key m.table.rows).known) (theory.Checking w.id round (voters votes) reply) (waiting_behind key m.table.calls))
      → TurnsHold h s → LeaderFits h.hash s m → IsOn m.fact.views votes → IsClosed (state_of votes)
      → (sends : List Outgoing) → All (SentSays h (after s (Note w.id key (settled_rank (row_at key m.table.rows).known) (epoch_number m.fact.epoch) ∷ []))) sends
      → Follows g s key owed m (read_answered w reply key (record { leave = false; sends = sends; answers = []; notes = []; own = None; then = Stay; keys = [] }) m)
  noted_so h m rows round votes reply free is first others row turns fits on closed sends say =
      answered_so g h s steps key owed m w reply (owing.rows) free is both (λ j off. rw off (others j off)) (subst (λ (r : theory.KeyRow). RowHolds h (after s steps) (seat_owing m owed w.id reply) (epoch_number m.fact.epoch) key r) (set_here with_checking.rows key idle_row) (both.holds.rows key))
      (tables.turns h steps second.may turns) (record { epoch = fits.epoch; seq = fits.seq; views = fits.views; rows = fits.rows; calls = fits.calls; calm = fits.calm })
      (tt, tt) sends (Read w.id key (base key m) ∷ []) (noted_base h s key w.id (epoch_number m.fact.epoch) m fits) say
    where
      known : theory.Known
      known = known_of (row_at key m.table.rows).known

      steps : List Step
      steps = Note w.id key (settled_rank (row_at key m.table.rows).known) (epoch_number m.fact.epoch) ∷ []

      checking_row : theory.KeyRow
      checking_row = theory.row_of (known_of (row_at key m.table.rows).known) (theory.Checking w.id round (voters votes) reply) (waiting_behind key m.table.calls)

      idle_row : theory.KeyRow
      idle_row = theory.row_of (known_of (row_at key m.table.rows).known) theory.Idle (waiting_behind key m.table.calls)

      leader : theory.Leader
      leader = record { epoch = epoch_number m.fact.epoch; seat = record { peer = m.me; owed = owed }; seq = m.seq; round = m.round; rows = rows }

      with_checking : theory.Leader
      with_checking = theory.with_row leader key checking_row

      owing : theory.Leader
      owing = theory.owing with_checking key idle_row w.id reply

      counted : IsLeaderMove g s [] h with_checking
      counted = with_row_too g h s [] leader key checking_row first row

      quorum : is_quorum (voters votes) (s.objects.ledger.views (epoch_number m.fact.epoch)) ≡ true
      quorum = subst (λ (views : List (List ℕ)). is_quorum (voters votes) views ≡ true) (on ∙ sym fits.views) (closed_quorum votes closed)

      second : IsLeaderMove h s steps h owing
      second = (laws.rows h with_checking key known (waiting_behind key m.table.calls) counted.holds).check_then_answer w.id round (voters votes) reply row quorum

      both : IsLeaderMove g s steps h owing
      both = laws.move_then g h h [] steps with_checking owing refl refl (λ i. refl) counted second

  -- the round of the leader m is still open
  waits_so : (h : Ghosts) (m : Leader) (rows : List ℕ → theory.KeyRow) (round : ℕ) (votes : Round) (reply : Reply) (checks : Checks) → m.task ≡ tasks.Nothing → running key m.table.calls ≡ Some w
      → IsLeaderMove g s [] h (record { epoch = epoch_number m.fact.epoch; seat = record { peer = m.me; owed = owed }; seq = m.seq; round = m.round; rows = rows }) → AreElsewhere key rows m.table
      → RowHolds h s (record { peer = m.me; owed = owed }) (epoch_number m.fact.epoch) key (theory.row_of (known_of (row_at key m.table.rows).known) (theory.Checking w.id round (voters votes) reply) (waiting_behind key m.table.calls))
      → TurnsHold h s → LeaderFits h.hash s m → IsOn m.fact.views votes → (sends : List Outgoing) → All (SentSays h s) sends
      → Follows g s key owed m (record m { table = record m.table { rows = with_stage key (stages.Checking round votes reply) m.table.rows; checks = checks } }, record rests { sends = sends })
  waits_so h m rows round votes reply checks free is first others row turns fits on sends say = record {
    steps = [];
    ghosts = h;
    move = finish g h s [] leader key m.task t first (λ j off. others j off ∙ stands_elsewhere key stage m.table j off)
        (subst (λ (task : Pending). RowHolds h s (record { peer = m.me; owed = owed }) (epoch_number m.fact.epoch) key (row_seen task key t)) (sym free)
        (subst (λ (r : KeyRow). RowHolds h s (record { peer = m.me; owed = owed }) (epoch_number m.fact.epoch) key (row_parts r.known (running key m.table.calls) tasks.Nothing r.stage (waiting_behind key m.table.calls))) (sym (stage_row key stage m.table.rows))
        (subst (λ (call : Option Waiting). RowHolds h s (record { peer = m.me; owed = owed }) (epoch_number m.fact.epoch) key (row_parts (row_at key m.table.rows).known call tasks.Nothing stage (waiting_behind key m.table.calls))) (sym is) row)));
    kinds = tt;
    turns = turns;
    fits = record { epoch = fits.epoch; seq = fits.seq; views = fits.views; rows = staged_fits h.hash m.fact.views key stage m.table.rows on fits.rows; calls = fits.calls; calm = calm_staged key stage m.table w is fits.calm };
    same = (refl, (refl, refl));
    task = subst (λ (task : Pending). TaskHolds s (record m { table = t }) key (row_at key t.rows).known (running key t.calls) task) (sym free) tt;
    notes = sym (append-nil s.book.notes);
    sends = say;
    ready = tt;
    next = (refl, free);
  }
    where
      stage : Stage
      stage = stages.Checking round votes reply

      t : CallTable
      t = record m.table { rows = with_stage key (stages.Checking round votes reply) m.table.rows; checks = checks }

      leader : theory.Leader
      leader = record { epoch = epoch_number m.fact.epoch; seat = record { peer = m.me; owed = owed }; seq = m.seq; round = m.round; rows = rows }

-- ## Rule 33

module _ (g : Ghosts) (s : State) (laws : LeadersMove s) (tables : TablesStay s) (key : List ℕ) (owed : List Owed) (l : Leader) (peers : PeersReply s l.me (epoch_number l.fact.epoch)) (work : IsAtWork g s key owed l) where
  module _ (w : Waiting) (is : running key l.table.calls ≡ Some w) (reply : Reply) (task : l.task ≡ tasks.Check reply) where
    check_holds : CheckHolds s (row_at key l.table.rows).known w reply
    check_holds = subst (λ (call : Option Waiting). TaskHolds s l key (row_at key l.table.rows).known call (tasks.Check reply)) is (subst (λ (t : Pending). TaskHolds s l key (row_at key l.table.rows).known (running key l.table.calls) t) task work.task)

    abbrev after_start : Ghosts
    after_start = theory.turn_of g (table_of key owed l) (known_of (row_at key l.table.rows).known) w.id

    turns_start : TurnsHold (theory.turn_of g (table_of key owed l) (known_of (row_at key l.table.rows).known) w.id) s
    turns_start = laws.turns_start g (epoch_number l.fact.epoch) (suc l.round) (record { call = w.id; base = settled_rank (row_at key l.table.rows).known }) ((laws.rows g (table_of key owed l) key (known_of (row_at key l.table.rows).known) (waiting_behind key l.table.calls) work.holds).round_holds w.id (row_told g s key owed l work.holds (Some w) is (tasks.Check reply) task _ refl)) work.turns

    says : CheckSays (theory.turn_of g (table_of key owed l) (known_of (row_at key l.table.rows).known) w.id) (epoch_number l.fact.epoch) (suc l.round)
    says = record { turn = record { call = w.id; base = settled_rank (row_at key l.table.rows).known }; started = turn_here g.turn (epoch_number l.fact.epoch) (suc l.round) (record { call = w.id; base = settled_rank (row_at key l.table.rows).known }) }

    -- the row as the check starts
    abbrev first_row : theory.KeyRow
    first_row = theory.row_of (known_of (row_at key l.table.rows).known) (theory.Checking w.id (suc l.round) (λ q. false) reply) (waiting_behind key l.table.calls)

    starts : IsLeaderMove g s [] (theory.turn_of g (table_of key owed l) (known_of (row_at key l.table.rows).known) w.id) (theory.round_of (table_of key owed l) key (theory.row_of (known_of (row_at key l.table.rows).known) (theory.Checking w.id (suc l.round) (λ q. false) reply) (waiting_behind key l.table.calls)))
    starts = (laws.rows g (table_of key owed l) key (known_of (row_at key l.table.rows).known) (waiting_behind key l.table.calls) work.holds).checking_starts w.id reply (row_told g s key owed l work.holds (Some w) is (tasks.Check reply) task _ refl) check_holds.settled
        (ap (λ (c : Command). outcome c (register_at s.book (settled_rank (row_at key l.table.rows).known))) (agree_running s.book key l.table.calls w work.fits.calls is) ∙ check_holds.keeps)

    own_row : RowHolds (theory.turn_of g (table_of key owed l) (known_of (row_at key l.table.rows).known) w.id) s (record { peer = l.me; owed = owed }) (epoch_number l.fact.epoch) key (theory.row_of (known_of (row_at key l.table.rows).known) (theory.Checking w.id (suc l.round) (voters (begun l.fact.views l.me)) reply) (waiting_behind key l.table.calls))
    own_row = let h = theory.turn_of g (table_of key owed l) (known_of (row_at key l.table.rows).known) w.id in
        check_fewer h s (record { peer = l.me; owed = owed }) (epoch_number l.fact.epoch) key (known_of (row_at key l.table.rows).known) (waiting_behind key l.table.calls) w.id (suc l.round) (put (λ q. false) l.me true) (voters (begun l.fact.views l.me)) reply (begun_fewer l.fact.views l.me)
        (check_counts h s (record { peer = l.me; owed = owed }) (epoch_number l.fact.epoch) key (known_of (row_at key l.table.rows).known) (waiting_behind key l.table.calls) w.id (suc l.round) (λ q. false) reply l.me (peers.check_reply h (suc l.round) turns_start says)
        (subst (λ (r : theory.KeyRow). RowHolds h s (record { peer = l.me; owed = owed }) (epoch_number l.fact.epoch) key r) (set_here (table_of key owed l).rows key first_row) (starts.holds.rows key)))

    -- the leader in its new round
    abbrev in_round : Leader
    in_round = record (with_task tasks.Nothing l) { round = suc l.round }

    in_round_fits : LeaderFits g.hash s (record (with_task tasks.Nothing l) { round = suc l.round })
    in_round_fits = record { epoch = work.fits.epoch; seq = work.fits.seq; views = work.fits.views; rows = work.fits.rows; calls = work.fits.calls; calm = work.fits.calm }

    abbrev sent : List Outgoing
    sent = sent_up_to (is_other l.me l.fact.views) (Check l.fact.epoch (suc l.round)) 31

    begins_so : (state : RoundState) → state_of (begun l.fact.views l.me) ≡ state → Follows g s key owed l (begins_check state (begun l.fact.views l.me) reply w key (tells_all l.me l.fact.views (Check l.fact.epoch (suc l.round)) rests) (record (with_task tasks.Nothing l) { round = suc l.round }))
    begins_so Open e = waits_so g s laws tables key owed w after_start in_round (theory.set_row (table_of key owed l).rows key first_row) (suc l.round) (begun l.fact.views l.me) reply (with_check (suc l.round) key l.table.checks) refl is starts (λ j off. rw off refl) own_row turns_start in_round_fits (begun_on l.fact.views l.me)
        sent (sent_say after_start s (is_other l.me l.fact.views) (Check l.fact.epoch (suc l.round)) says 31)
    begins_so Met e = noted_so g s laws tables key owed w after_start in_round (theory.set_row (table_of key owed l).rows key first_row) (suc l.round) (begun l.fact.views l.me) reply refl is starts (λ j off. rw off refl) own_row turns_start in_round_fits (begun_on l.fact.views l.me) (subst IsClosed (sym e) tt)
        sent (sent_say after_start _ (is_other l.me l.fact.views) (Check l.fact.epoch (suc l.round)) says 31)
    begins_so AllAnswered e = noted_so g s laws tables key owed w after_start in_round (theory.set_row (table_of key owed l).rows key first_row) (suc l.round) (begun l.fact.views l.me) reply refl is starts (λ j off. rw off refl) own_row turns_start in_round_fits (begun_on l.fact.views l.me) (subst IsClosed (sym e) tt)
        sent (sent_say after_start _ (is_other l.me l.fact.views) (Check l.fact.epoch (suc l.round)) says 31)

    spent_or_not : (b : Bool) → GoesOn g s key owed l (if b then (with_task tasks.Nothing l, leaves) else check_now reply w key (record (with_task tasks.Nothing l) { round = l.round + 1 }))
    spent_or_not true = inl (record { why = inl refl; calls = refl; same = (refl, (refl, refl)) })
    spent_or_not false = inr (subst (λ (n : ℕ). Follows g s key owed l (check_now reply w key (record (with_task tasks.Nothing l) { round = n }))) (suc-eq-add-one l.round) (begins_so (state_of (begun l.fact.views l.me)) refl))

  checked_so : (reply : Reply) → l.task ≡ tasks.Check reply → (call : Option Waiting) → running key l.table.calls ≡ call → GoesOn g s key owed l (checked_for call (tasks.Check reply) key (with_task tasks.Nothing l))
  checked_so reply task None is = absurd (subst (λ (call : Option Waiting). TaskHolds s l key (row_at key l.table.rows).known call (tasks.Check reply)) is (subst (λ (t : Pending). TaskHolds s l key (row_at key l.table.rows).known (running key l.table.calls) t) task work.task))
  checked_so reply task (Some w) is = spent_or_not w is reply task (is_spent l.round)

pub run_checks : (view : List ℕ) (steps : List Step) → IsRun view steps → ChecksBegin (state_after view steps)
run_checks view steps run g key owed l reply work task stands = let s = state_after view steps in
    subst (λ (t : Pending). GoesOn g s key owed l (checked_for (running key l.table.calls) t key (with_task tasks.Nothing l))) (sym task)
    (checked_so g s (run_leaders view steps run) (run_tables view steps run) key owed l (run_peers view steps l.me (epoch_number l.fact.epoch) run stands) work reply task (running key l.table.calls) refl)

-- ## Replies to a check

module _ (g : Ghosts) (s : State) (laws : LeadersMove s) (tables : TablesStay s) (key : List ℕ) (owed : List Owed) (l : Leader) (work : IsAtWork g s key owed l) (free : l.task ≡ tasks.Nothing) (from : ℕ) (ballot : Epoch) (round : ℕ) (says : CheckReplySays g s from (epoch_number ballot) round) where
  module _ (w : Waiting) (is : running key l.table.calls ≡ Some w) (asked : ℕ) (votes : Round) (reply : Reply) (stage : (row_at key l.table.rows).stage ≡ stages.Checking asked votes reply) where
    checking_row : RowHolds g s (record { peer = l.me; owed = owed }) (epoch_number l.fact.epoch) key (theory.row_of (known_of (row_at key l.table.rows).known) (theory.Checking w.id asked (voters votes) reply) (waiting_behind key l.table.calls))
    checking_row = row_told g s key owed l work.holds (Some w) is tasks.Nothing free _ stage

    on : IsOn l.fact.views (heard_from from votes)
    on = answered_on votes from ∙ subst (λ (st : Stage). StageFits g.hash key l.fact.views st) stage (work.fits.rows key).1

    counted_row : ballot ≡ l.fact.epoch → round ≡ asked → RowHolds g s (record { peer = l.me; owed = owed }) (epoch_number l.fact.epoch) key (theory.row_of (known_of (row_at key l.table.rows).known) (theory.Checking w.id asked (voters (heard_from from votes)) reply) (waiting_behind key l.table.calls))
    counted_row same here = check_fewer g s (record { peer = l.me; owed = owed }) (epoch_number l.fact.epoch) key (known_of (row_at key l.table.rows).known) (waiting_behind key l.table.calls) w.id asked (put (voters votes) from true) (voters (heard_from from votes)) reply (answered_fewer votes from)
        (check_counts g s (record { peer = l.me; owed = owed }) (epoch_number l.fact.epoch) key (known_of (row_at key l.table.rows).known) (waiting_behind key l.table.calls) w.id asked (voters votes) reply from
        (subst (λ (r : ℕ). CheckReplySays g s from (epoch_number l.fact.epoch) r) here (subst (λ (e : Epoch). CheckReplySays g s from (epoch_number e) round) same says)) checking_row)

    goes_on_so : ballot ≡ l.fact.epoch → round ≡ asked → (state : RoundState) → state_of (heard_from from votes) ≡ state → Follows g s key owed l (goes_on_checking state asked (heard_from from votes) reply w key l)
    goes_on_so same here Open e = waits_so g s laws tables key owed w g l (table_of key owed l).rows asked (heard_from from votes) reply l.table.checks free is (no_move g s (table_of key owed l) work.holds) (off_same key owed l) (counted_row same here) work.turns work.fits on [] (All-nil (SentSays g s))
    goes_on_so same here Met e = noted_so g s laws tables key owed w g l (table_of key owed l).rows asked (heard_from from votes) reply free is (no_move g s (table_of key owed l) work.holds) (off_same key owed l) (counted_row same here) work.turns work.fits on (subst IsClosed (sym e) tt) [] (All-nil (SentSays g _))
    goes_on_so same here AllAnswered e = noted_so g s laws tables key owed w g l (table_of key owed l).rows asked (heard_from from votes) reply free is (no_move g s (table_of key owed l) work.holds) (off_same key owed l) (counted_row same here) work.turns work.fits on (subst IsClosed (sym e) tt) [] (All-nil (SentSays g _))

    by_counts : (b : Bool) → counts ballot round asked l ≡ b → Follows g s key owed l (if b then goes_on_checking (state_of (heard_from from votes)) asked (heard_from from votes) reply w key l else (l, rests))
    by_counts true own = let parts = and_parts (is_same ballot l.fact.epoch) (round == asked) own in goes_on_so (same_epochs ballot l.fact.epoch parts.0) (eqb-true round asked parts.1) (state_of (heard_from from votes)) refl
    by_counts false other = rests_so g s key owed l work free

  stood_so : (call : Option Waiting) → running key l.table.calls ≡ call → (stage : Stage) → (row_at key l.table.rows).stage ≡ stage → Follows g s key owed l (stood call stage from ballot round key l)
  stood_so None is stage e = rests_so g s key owed l work free
  stood_so (Some w) is (stages.Checking asked votes reply) e = by_counts w is asked votes reply e (counts ballot round asked l) refl
  stood_so (Some w) is stage e = rests_so g s key owed l work free

pub run_counts : (view : List ℕ) (steps : List Step) → IsRun view steps → ChecksCount (state_after view steps)
run_counts view steps run g key owed l from ballot round work free found says = let s = state_after view steps in
    subst (λ (k : Option (List ℕ)). GoesOn g s key owed l (stood_at k from ballot round l)) (sym found)
    (inr (stood_so g s (run_leaders view steps run) (run_tables view steps run) key owed l work free from ballot round says (running key l.table.calls) refl (row_at key l.table.rows).stage refl))
