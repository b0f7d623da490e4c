-- Rule 29 and the replies to a read are moves of the theory.
use Rattle.std.specs.Prelude.{All, max}
use Rattle.std.proofs.Common.{◌≡◌, ◌⊎◌, inl, inr, ℕ, suc, ◌+◌, ◌==◌, Bool, true, false, if◌then◌else◌, List, [], Option, Some, None, eqb-true, refl, sym, subst, ◌∙◌}
use Rattle.std.proofs.lemmas.Bool.{and_parts}
use Rattle.std.proofs.lemmas.List.{append-nil}
use Rattle.std.proofs.lemmas.List.Elements.{All-nil}
use Rattle.std.proofs.Math.Numerals.{suc-eq-add-one}
use Rattle.ens_base.specs.declared.entry.Entry.{Entry}
use Rattle.ens_base.specs.declared.epoch.Epoch.{Epoch}
use Rattle.stored_formats.specs.declared.object.Object.{Object}
use Rattle.phase_rows.specs.Orders.{is_same}
use Rattle.quorums.specs.Rounds.{begun, answered as heard_from}
use Rattle.quorums.specs.declared.round.Round.{Round}
use Rattle.wire_frames.specs.declared.message.Message.TheVariants.{Get}
use Rattle.phase_rows.specs.declared.phase.Seen.{Seen}
use Rattle.phase_rows.specs.declared.phase.Seen.TheVariants as seens
use Rattle.phase_rows.specs.declared.rules.KeyRule.TheVariants as key_rules
use Rattle.phase_rows.proofs.Epochs.{same_epochs}
use Rattle.protocol_laws.specs.Ledger.{put}
use Rattle.protocol_laws.specs.Numbers.{epoch_number}
use Rattle.protocol_laws.specs.Protocol.{State, Step, IsRun, state_after}
use Rattle.call_table.specs.Best.{better}
use Rattle.call_table.specs.Calls.{running}
use Rattle.call_table.specs.Rows.{row_at, with_stage}
use Rattle.call_table.specs.declared.row.Found.{Found}
use Rattle.call_table.specs.declared.row.KeyRow.{KeyRow}
use Rattle.call_table.specs.declared.row.Stage.{Stage}
use Rattle.call_table.specs.declared.row.Stage.TheVariants as stages
use Rattle.call_table.specs.declared.table.CallTable.{CallTable}
use Rattle.call_table.specs.declared.waiting.Waiting.{Waiting}
use Rattle.leader_output.specs.Outs.{rests, leaves, leads_on, and_own}
use Rattle.leader_output.specs.Sends.{is_other, sent_up_to}
use Rattle.leader_output.specs.declared.out.Outgoing.{Outgoing}
use Rattle.leader_output.specs.declared.out.Own.TheVariants.{Look}
use Rattle.leader.specs.Leaders.{stands, is_spent}
use Rattle.leader.specs.Rounds.{counts, asked, asked_for, heard}
use Rattle.leader.specs.declared.leader.Leader.{Leader}
use Rattle.leader_laws.proofs.Moves.{free as ready_free}
use Rattle.leader.specs.declared.pending.Pending.{Pending}
use Rattle.leader.specs.declared.pending.Pending.TheVariants as tasks
use Rattle.role_laws.proofs.LeaderMoves.{reply_counts}
use Rattle.role_laws.proofs.Rounds.{turn_here}
use Rattle.role_laws.proofs.Runs.{run_leaders, run_peers}
use Rattle.role_laws.specs.LeaderLaws.{LeadersMove, PeersReply}
use Rattle.role_laws.specs.Leaders.{RowHolds, TurnsHold, IsObjectOf}
use Rattle.role_laws.specs.LeaderMessages.{GetSays, GetReplySays}
use Rattle.role_laws.specs.Moves.{IsLeaderMove}
use Rattle.role_laws.specs.Tables as theory
use Rattle.role_laws.specs.Tables.{Ghosts, Owed, Seat}
use Rattle.leader_refinement.proofs.Base.{AreElsewhere, finish, no_move, rests_so, stands_elsewhere, stage_row, staged_fits, calm_staged, set_here, off_same, row_told}
use Rattle.leader_refinement.proofs.Orders.{IsBetter, better_seen, better_fits, better_names}
use Rattle.leader_laws.proofs.Votes.{answered_on, begun_on}
use Rattle.leader_refinement.proofs.Votes.{answered_fewer, begun_fewer, sent_say}
use Rattle.leader_refinement.specs.Seen.{known_of, voters, best_rank, best_object, entry_rank, shown, waiting_behind, row_parts, row_seen, table_of}
use Rattle.leader_refinement.specs.Follows.{StageFits, FoundFits, FoundNames, IsOn, TaskHolds, IsAtWork, LeaderFits, Follows, GoesOn, SentSays}
use Rattle.leader_refinement.specs.Laws.{EntryFits, LookSays, LookNames, looked_next, ReadsStart, ReadsCount}

-- ## Rows

-- what fewer replies say holds too, and so does any object of the best entry
read_fewer : (g : Ghosts) (s : State) (p : Seat) (d : ℕ) (key : List ℕ) (known : theory.Known) (rest : List ℕ) (i r : ℕ) (replied fewer : ℕ → Bool) (best : ℕ) (object other : Option theory.Object) → ((q : ℕ) → fewer q ≡ true → replied q ≡ true) → ((x : theory.Object) → other ≡ Some x → IsObjectOf s best x)
    → RowHolds g s p d key (theory.row_of known (theory.Reading i r replied best object) rest) → RowHolds g s p d key (theory.row_of known (theory.Reading i r fewer best other) rest)
read_fewer g s p d key known rest i r replied fewer best object other less holds a = record {
  known = λ n. a.known refl;
  stage = record {
    turn = a.stage.turn;
    unwritten = a.stage.unwritten;
    genuine = a.stage.genuine;
    reached = λ q t. a.stage.reached q (less q t);
    given = λ q t. a.stage.given q (less q t);
    stood = λ q t. a.stage.stood q (less q t);
    settled = λ q t. a.stage.settled q (less q t);
    holds = holds;
  };
  calls = a.calls;
  waiting = a.waiting;
  distinct = a.distinct;
}

-- a reply is counted, as the program counts it
read_counts : (g : Ghosts) (s : State) (p : Seat) (d : ℕ) (key : List ℕ) (known : theory.Known) (rest : List ℕ) (i r : ℕ) (replied fewer : ℕ → Bool) (best : Option Found) (from : ℕ) (entry : Option Entry) (object : Option Object) → ((q : ℕ) → fewer q ≡ true → put replied from true q ≡ true) → FoundFits best → EntryFits entry
    → GetReplySays g s from d r key (entry_rank entry) (shown entry object) → RowHolds g s p d key (theory.row_of known (theory.Reading i r replied (best_rank best) (best_object best)) rest) → RowHolds g s p d key (theory.row_of known (theory.Reading i r fewer (best_rank (better best entry object)) (best_object (better best entry object))) rest)
read_counts g s p d key known rest i r replied fewer best from entry object less fits entry_fits says row = subst (λ (n : ℕ). RowHolds g s p d key (theory.row_of known (theory.Reading i r fewer n (best_object (better best entry object))) rest)) same.rank_is
    (read_fewer g s p d key known rest i r (put replied from true) fewer (max (best_rank best) (entry_rank entry)) (theory.better_object (best_rank best) (best_object best) (entry_rank entry) (shown entry object)) (best_object (better best entry object)) less
    (λ x e. subst (λ (n : ℕ). IsObjectOf s n x) (sym same.rank_is) (by_reply x (same.object_of x e)))
    (reply_counts g s p d key known rest i r replied (best_rank best) (best_object best) from (entry_rank entry) (shown entry object) says row))
  where
    same : IsBetter best entry object (better best entry object)
    same = better_seen best entry object fits entry_fits

    by_reply : (x : theory.Object) → ((best_rank best ≡ best_rank (better best entry object)) × (best_object best ≡ Some x)) ⊎ ((entry_rank entry ≡ best_rank (better best entry object)) × (shown entry object ≡ Some x)) → IsObjectOf s (best_rank (better best entry object)) x
    by_reply x (inl is) = subst (λ (n : ℕ). IsObjectOf s n x) is.0 (row.stage.holds x is.1)
    by_reply x (inr is) = subst (λ (n : ℕ). IsObjectOf s n x) is.0 (says.holds x is.1)

-- the leader m reads the key, and rule 30 comes next
module _ (g : Ghosts) (s : State) (key : List ℕ) (owed : List Owed) (w : Waiting) where
  reads_on : (h : Ghosts) (m : Leader) (rows : List ℕ → theory.KeyRow) (round : ℕ) (votes : Round) (best : Option Found) → m.task ≡ tasks.Nothing → running key m.table.calls ≡ Some w
      → IsLeaderMove g s [] h (record { epoch = epoch_number m.fact.epoch; seat = record { peer = m.me; owed = owed }; seq = m.seq; round = m.round; rows = rows }) → AreElsewhere key rows m.table
      → RowHolds h s (record { peer = m.me; owed = owed }) (epoch_number m.fact.epoch) key (theory.row_of (known_of (row_at key m.table.rows).known) (theory.Reading w.id round (voters votes) (best_rank best) (best_object best)) (waiting_behind key m.table.calls))
      → TurnsHold h s → LeaderFits h.hash s m → IsOn m.fact.views votes → FoundFits best × FoundNames h.hash key best → (sends : List Outgoing) → All (SentSays h s) sends
      → Follows g s key owed m (stands key (stages.Reading round votes best) m, record (leads_on key_rules.EnoughReplies key) { sends = sends })
  reads_on h m rows round votes best free is first others row turns fits on found sends say = record {
    steps = [];
    ghosts = h;
    move = finish g h s [] leader key m.task t first (λ j off. others j off ∙ stands_elsewhere key stage m.table j off)
        (subst (λ (task : Pending). RowHolds h s (record { peer = m.me; owed = owed }) (epoch_number m.fact.epoch) key (row_seen task key t)) (sym free)
        (subst (λ (r : KeyRow). RowHolds h s (record { peer = m.me; owed = owed }) (epoch_number m.fact.epoch) key (row_parts r.known (running key m.table.calls) tasks.Nothing r.stage (waiting_behind key m.table.calls))) (sym (stage_row key stage m.table.rows))
        (subst (λ (call : Option Waiting). RowHolds h s (record { peer = m.me; owed = owed }) (epoch_number m.fact.epoch) key (row_parts (row_at key m.table.rows).known call tasks.Nothing stage (waiting_behind key m.table.calls))) (sym is) row)));
    kinds = tt;
    turns = turns;
    fits = record { epoch = fits.epoch; seq = fits.seq; views = fits.views; rows = staged_fits h.hash m.fact.views key stage m.table.rows (on, found) fits.rows; calls = fits.calls; calm = calm_staged key stage m.table w is fits.calm };
    same = (refl, (refl, refl));
    task = subst (λ (task : Pending). TaskHolds s (record m { table = t }) key (row_at key t.rows).known (running key t.calls) task) (sym free) tt;
    notes = sym (append-nil s.book.notes);
    sends = say;
    ready = λ e. absurd cc;
    next = (refl, ready_free key_rules.EnoughReplies key (record m { table = t }) refl free);
  }
    where
      stage : Stage
      stage = stages.Reading round votes best

      t : CallTable
      t = record m.table { rows = with_stage key (stages.Reading round votes best) m.table.rows }

      leader : theory.Leader
      leader = record { epoch = epoch_number m.fact.epoch; seat = record { peer = m.me; owed = owed }; seq = m.seq; round = m.round; rows = rows }

-- ## Rule 29

module _ (g : Ghosts) (s : State) (laws : LeadersMove s) (key : List ℕ) (owed : List Owed) (l : Leader) (peers : PeersReply s l.me (epoch_number l.fact.epoch)) (work : IsAtWork g s key owed l) (free : l.task ≡ tasks.Nothing) (idle : (row_at key l.table.rows).stage ≡ stages.Idle) (trusted : s.objects.trusted l.me ≡ true) where
  module _ (w : Waiting) (is : running key l.table.calls ≡ Some w) (entry : Option Entry) (object : Option Object) (entry_fits : EntryFits entry) (shows : s.objects.visible l.me key ≡ entry_rank entry) (objects : (x : theory.Object) → shown entry object ≡ Some x → IsObjectOf s (entry_rank entry) x) (names : FoundNames g.hash key (better None entry object)) where
    abbrev D : ℕ
    D = epoch_number l.fact.epoch

    abbrev P : Seat
    P = record { peer = l.me; owed = owed }

    abbrev Rest : List ℕ
    Rest = waiting_behind key l.table.calls

    abbrev K : theory.Known
    K = known_of (row_at key l.table.rows).known

    abbrev turn : theory.Turn
    turn = record { call = w.id; base = theory.base_of K }

    abbrev after_start : Ghosts
    after_start = theory.turn_of g (table_of key owed l) K w.id

    turns_start : TurnsHold after_start s
    turns_start = laws.turns_start g D (suc l.round) turn ((laws.rows g (table_of key owed l) key K Rest work.holds).round_holds w.id (row_told g s key owed l work.holds (Some w) is tasks.Nothing free stages.Idle idle)) work.turns

    says : GetSays after_start s D (suc l.round) key
    says = record { turn = turn; started = turn_here g.turn D (suc l.round) turn; on_key = ((row_told g s key owed l work.holds (Some w) is tasks.Nothing free stages.Idle idle).calls w.id (inl refl)).on_key }

    abbrev first_row : theory.KeyRow
    first_row = theory.row_of K (theory.Reading w.id (suc l.round) (λ q. false) 0 None) Rest

    starts : IsLeaderMove g s [] after_start (theory.round_of (table_of key owed l) key first_row)
    starts = (laws.rows g (table_of key owed l) key K Rest work.holds).reading_starts w.id (row_told g s key owed l work.holds (Some w) is tasks.Nothing free stages.Idle idle)

    own_reply : GetReplySays after_start s l.me D (suc l.round) key (entry_rank entry) (shown entry object)
    own_reply = subst (λ (v : ℕ). GetReplySays after_start s l.me D (suc l.round) key v (shown entry object)) shows
        (peers.get_reply after_start (suc l.round) key (shown entry object) turns_start says trusted (λ x e. subst (λ (v : ℕ). IsObjectOf s v x) (sym shows) (objects x e)))

    own_row : RowHolds after_start s P D key (theory.row_of K (theory.Reading w.id (suc l.round) (voters (begun l.fact.views l.me)) (best_rank (better None entry object)) (best_object (better None entry object))) Rest)
    own_row = read_counts after_start s P D key K Rest w.id (suc l.round) (λ q. false) (voters (begun l.fact.views l.me)) None l.me entry object (begun_fewer l.fact.views l.me) tt entry_fits own_reply
        (subst (λ (r : theory.KeyRow). RowHolds after_start s P D key r) (set_here (table_of key owed l).rows key first_row) (starts.holds.rows key))

    -- in the round of this number
    abbrev in_round : ℕ → Leader
    in_round n = record l { round = n }

    started_so : Follows g s key owed l (asked (seens.Held entry object) key (in_round (suc l.round)))
    started_so = reads_on g s key owed w after_start (in_round (suc l.round)) (theory.set_row (table_of key owed l).rows key first_row) (suc l.round) (begun l.fact.views l.me) (better None entry object) free is starts (λ j off. rw off refl) own_row turns_start
        (record { epoch = work.fits.epoch; seq = work.fits.seq; views = work.fits.views; rows = work.fits.rows; calls = work.fits.calls; calm = work.fits.calm }) (begun_on l.fact.views l.me) (better_fits None entry object tt entry_fits, names)
        (sent_up_to (is_other l.me l.fact.views) (Get l.fact.epoch (suc l.round) key) 31) (sent_say after_start s (is_other l.me l.fact.views) (Get l.fact.epoch (suc l.round) key) says 31)

    looked_so : Follows g s key owed l (asked (seens.Held entry object) key (record l { round = l.round + 1 }))
    looked_so = subst (λ (n : ℕ). Follows g s key owed l (asked (seens.Held entry object) key (record l { round = n }))) (suc-eq-add-one l.round) started_so

  by_seen : (w : Waiting) → running key l.table.calls ≡ Some w → (seen : Seen) → LookSays s l.me key seen → LookNames g key seen → GoesOn g s key owed l (asked seen key (record l { round = l.round + 1 }))
  by_seen w is (seens.Held entry object) look names = inr (looked_so w is entry object look.0 look.1 look.2 names)
  by_seen w is (seens.Damaged at) look names = inl (record { why = inr refl; calls = refl; same = (refl, (refl, refl)) })
  by_seen w is seen look names = absurd look

  by_spent : (w : Waiting) → running key l.table.calls ≡ Some w → (seen : Seen) → LookSays s l.me key seen → LookNames g key seen → (b : Bool) → GoesOn g s key owed l (looked_next key seen (if b then (l, leaves) else (record l { round = l.round + 1 }, and_own (Look key) rests)))
  by_spent w is seen look names true = inl (record { why = inl refl; calls = refl; same = (refl, (refl, refl)) })
  by_spent w is seen look names false = subst (λ (call : Option Waiting). GoesOn g s key owed l (asked_for call seen key (record l { round = l.round + 1 }))) (sym is) (by_seen w is seen look names)

  by_call : (seen : Seen) → LookSays s l.me key seen → LookNames g key seen → (call : Option Waiting) → running key l.table.calls ≡ call → GoesOn g s key owed l (looked_next key seen (asked_for call seens.Nothing key l))
  by_call seen look names None is = subst (λ (call : Option Waiting). GoesOn g s key owed l (asked_for call seen key l)) (sym is) (inr (rests_so g s key owed l work free))
  by_call seen look names (Some w) is = by_spent w is seen look names (is_spent l.round)

pub run_asks : (view : List ℕ) (steps : List Step) → IsRun view steps → ReadsStart (state_after view steps)
run_asks view steps run g key owed l seen work free idle stands_at trusted look names = by_call g (state_after view steps) (run_leaders view steps run) key owed l (run_peers view steps l.me (epoch_number l.fact.epoch) run stands_at) work free idle trusted seen look names (running key l.table.calls) refl

-- ## Replies

module _ (g : Ghosts) (s : State) (key : List ℕ) (owed : List Owed) (l : Leader) (work : IsAtWork g s key owed l) (free : l.task ≡ tasks.Nothing) (from : ℕ) (ballot : Epoch) (round : ℕ) (entry : Option Entry) (object : Option Object) (says : GetReplySays g s from (epoch_number ballot) round key (entry_rank entry) (shown entry object)) (entry_fits : EntryFits entry) (names : FoundNames g.hash key (better None entry object)) where
  module _ (w : Waiting) (is : running key l.table.calls ≡ Some w) (asked_in : ℕ) (votes : Round) (best : Option Found) (stage : (row_at key l.table.rows).stage ≡ stages.Reading asked_in votes best) where
    reading_row : RowHolds g s (record { peer = l.me; owed = owed }) (epoch_number l.fact.epoch) key (theory.row_of (known_of (row_at key l.table.rows).known) (theory.Reading w.id asked_in (voters votes) (best_rank best) (best_object best)) (waiting_behind key l.table.calls))
    reading_row = row_told g s key owed l work.holds (Some w) is tasks.Nothing free _ stage

    fits_here : IsOn l.fact.views votes × (FoundFits best × FoundNames g.hash key best)
    fits_here = subst (λ (st : Stage). StageFits g.hash key l.fact.views st) stage (work.fits.rows key).1

    heard_so : ballot ≡ l.fact.epoch → round ≡ asked_in → Follows g s key owed l (stands key (stages.Reading asked_in (heard_from from votes) (better best entry object)) l, leads_on key_rules.EnoughReplies key)
    heard_so same here = reads_on g s key owed w g l (table_of key owed l).rows asked_in (heard_from from votes) (better best entry object) free is (no_move g s (table_of key owed l) work.holds) (off_same key owed l)
        (read_counts g s (record { peer = l.me; owed = owed }) (epoch_number l.fact.epoch) key (known_of (row_at key l.table.rows).known) (waiting_behind key l.table.calls) w.id asked_in (voters votes) (voters (heard_from from votes)) best from entry object (answered_fewer votes from) fits_here.1.0 entry_fits
        (subst (λ (r : ℕ). GetReplySays g s from (epoch_number l.fact.epoch) r key (entry_rank entry) (shown entry object)) here (subst (λ (e : Epoch). GetReplySays g s from (epoch_number e) round key (entry_rank entry) (shown entry object)) same says)) reading_row)
        work.turns work.fits (answered_on votes from ∙ fits_here.0) (better_fits best entry object fits_here.1.0 entry_fits, better_names g.hash key best entry object fits_here.1.0 entry_fits fits_here.1.1 names) [] (All-nil (SentSays g s))

    by_counts : (b : Bool) → counts ballot round asked_in l ≡ b → Follows g s key owed l (if b then (stands key (stages.Reading asked_in (heard_from from votes) (better best entry object)) l, leads_on key_rules.EnoughReplies key) else (l, rests))
    by_counts true own = let parts = and_parts (is_same ballot l.fact.epoch) (round == asked_in) own in heard_so (same_epochs ballot l.fact.epoch parts.0) (eqb-true round asked_in parts.1)
    by_counts false other = rests_so g s key owed l work free

  got_so : (call : Option Waiting) → running key l.table.calls ≡ call → (stage : Stage) → (row_at key l.table.rows).stage ≡ stage → Follows g s key owed l (heard stage from ballot round key entry object l)
  got_so (Some w) is (stages.Reading asked_in votes best) e = by_counts w is asked_in votes best e (counts ballot round asked_in l) refl
  got_so None is (stages.Reading asked_in votes best) e = absurd (not_idle (sym (work.fits.calm key is) ∙ e))
    where
      not_idle : stages.Idle ≡ stages.Reading asked_in votes best → ⊥
      not_idle e = cc
  got_so call is stage e = rests_so g s key owed l work free

pub run_got : (view : List ℕ) (steps : List Step) → IsRun view steps → ReadsCount (state_after view steps)
run_got view steps run g key owed l from ballot round entry object work free says entry_fits names = inr (got_so g (state_after view steps) key owed l work free from ballot round entry object says entry_fits names (running key l.table.calls) refl (row_at key l.table.rows).stage refl)
