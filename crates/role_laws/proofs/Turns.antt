-- The other moves of a leader: rounds, replies, calls that come, wait, time out or are refused, its own acknowledgement, and its leaving.
use Rattle.role_laws.proofs.Outcomes.{done_not_refused}
use Rattle.protocol_laws.proofs.Later.{stay_step, stay_same}
use Rattle.std.proofs.Common.{◌≡◌, ℕ, suc, ◌+◌, ◌<◌, ◌≤◌, Bool, true, false, ◌⊎◌, List, [], ◌∷◌, ◌++◌, None, eqb, eq-eqb, arith, ap, refl, inl, inr, sym, ◌∙◌, subst}
use Rattle.std.proofs.lemmas.Bool.{false≢true, cases_order}
use Rattle.ens_base.specs.Lists.{◌∈◌, AreDistinct}
use Rattle.ens_base.specs.declared.reply.Reply.{Reply}
use Rattle.register_model.specs.declared.call.Call.{Call}
use Rattle.register_model.specs.Registers.{outcome, Keeps}
use Rattle.register_model.specs.Histories.{IsRefused}
use Rattle.protocol_laws.proofs.Epochs.{not_both}
use Rattle.protocol_laws.proofs.Maps.{put_here, epoch_mono, eq_same_bytes}
use Rattle.protocol_laws.proofs.Descent.{Whole}
use Rattle.protocol_laws.specs.Versions.{VersionsAreSafe}
use Rattle.protocol_laws.specs.Entries.{EntriesAreSafe}
use Rattle.protocol_laws.specs.Ledger.{put}
use Rattle.protocol_laws.specs.Objects.{epoch_of, IsGenuine, MayWrite, set_entry}
use Rattle.protocol_laws.specs.Book.{register_at, MayCall, MayAnswer, IsWriteReply, IsReadReply}
use Rattle.protocol_laws.specs.Protocol.{State, Ask, Write, Acknowledge, Answer, happens, MayCome, Step, MayAll}
use Rattle.role_laws.proofs.Growth.{row_stays, owed_called, owes_both, owes_stay, call_spared_step, spared_step, waits}
use Rattle.role_laws.proofs.Steps.{leader_step}
use Rattle.role_laws.proofs.Rounds.{spared_none, turn_here, leader_starts, home_grows, turn_grows, move_same, move_round, move_home, ghosts_same}
use Rattle.role_laws.proofs.LeaderMoves.{row_set, read_starts, check_starts}
use Rattle.role_laws.proofs.Acts.{dropped, leader_owes}
use Rattle.role_laws.proofs.Guards.{IsNewCall, new_call}
use Rattle.role_laws.specs.Tables.{Object, Known, Stage, Idle, Begun, Reading, Sure, Checking, Writing, Rewriting, KeyRow, Leader, Turn, Ghosts, base_of, with_running, calls_of, with_row, without, with_home, timeouts, row_of, round_of, turn_of, Seat, Owed, calls_owed, owe, owing, seated}
use Rattle.role_laws.specs.Leaders.{IsUnwritten, IsSettledKey, PutHolds, CallHolds, RowHolds, LeaderHolds, OwedHolds, OwesHold}
use Rattle.role_laws.specs.Moves.{IsDropped, IsLeaderMove}
use Rattle.ens_base.proofs.Lists.{in_append}

-- ## Rounds

module _ (g : Ghosts) (s : State) (l : Leader) (k : List ℕ) (known : Known) (i : ℕ) (rest : List ℕ) (a : LeaderHolds g s l) (row : RowHolds g s l.seat l.epoch k (row_of known (Begun i) rest)) where
  next_round : (r : ℕ) → r < suc r
  next_round r = omega arith

  row_then_too : RowHolds (turn_of g l known i) s l.seat l.epoch k (row_of known (Begun i) rest)
  row_then_too = row_stays g (turn_of g l known i) s s l.seat l.epoch k (stay_same s) (turn_grows s g l.epoch (suc l.round) (record { call = i; base = base_of known }) (a.rounds (suc l.round) (next_round l.round))) a.elected (row_of known (Begun i) rest) (spared_none s l.epoch k (i ∷ rest)) row

  -- a read starts in a round of its own
  pub reading_starts : IsLeaderMove g s [] (turn_of g l known i) (round_of l k (row_of known (Reading i (suc l.round) (λ q. false) 0 None) rest))
  reading_starts = let x : Turn = record { call = i; base = base_of known } in move_round g s l x (round_of l k (row_of known (Reading i (suc l.round) (λ q. false) 0 None) rest)) a refl
      (row_set (turn_of g l known i) s (record l { round = suc l.round }) k (row_of known (Reading i (suc l.round) (λ q. false) 0 None) rest) (leader_starts g s l x a) (read_starts (turn_of g l known i) s l.seat l.epoch k known rest i (suc l.round) (turn_here g.turn l.epoch (suc l.round) x) row_then_too))

  -- a check starts in a round of its own
  pub checking_starts : (reply : Reply) → IsSettledKey known → outcome (s.book.asked i).command (register_at s.book (base_of known)) ≡ Keeps reply → IsLeaderMove g s [] (turn_of g l known i) (round_of l k (row_of known (Checking i (suc l.round) (λ q. false) reply) rest))
  checking_starts reply is keeps = let x : Turn = record { call = i; base = base_of known } in move_round g s l x (round_of l k (row_of known (Checking i (suc l.round) (λ q. false) reply) rest)) a refl
      (row_set (turn_of g l known i) s (record l { round = suc l.round }) k (row_of known (Checking i (suc l.round) (λ q. false) reply) rest) (leader_starts g s l x a) (check_starts (turn_of g l known i) s l.seat l.epoch k known rest i (suc l.round) reply (turn_here g.turn l.epoch (suc l.round) x) is keeps row_then_too))

-- a move of one row without a step
pub row_moves : (g : Ghosts) (s : State) (l : Leader) (k : List ℕ) (row : KeyRow) → LeaderHolds g s l → RowHolds g s l.seat l.epoch k row → IsLeaderMove g s [] g (with_row l k row)
row_moves g s l k row a b = move_same g s [] (with_row l k row) tt (row_set g s l k row a b) tt

-- ## Calls that come

distinct_append : (xs : List ℕ) (c : ℕ) → (c ∈ xs → ⊥) → AreDistinct xs → AreDistinct (xs ++ c ∷ [])
distinct_append [] c n d = (λ m. m, tt)
distinct_append (x ∷ xs) c n d = (λ m. no (in_append xs (c ∷ []) x m), distinct_append xs c (λ m. n (inr m)) d.1)
  where
    no : (x ∈ xs) ⊎ (x ∈ (c ∷ [])) → ⊥
    no (inl m) = d.0 m
    no (inr (inl e)) = n (inl (sym e))
    no (inr (inr none)) = none

running_append : (stage : Stage) (rest : List ℕ) (c : ℕ) → with_running stage (rest ++ c ∷ []) ≡ with_running stage rest ++ c ∷ []
running_append Idle rest c = refl
running_append (Begun i) rest c = refl
running_append (Reading i r replied best object) rest c = refl
running_append (Sure i) rest c = refl
running_append (Checking i r replied reply) rest c = refl
running_append (Writing i v x acks) rest c = refl
running_append (Rewriting i v x acks) rest c = refl

-- the call joins the row's queue
row_joins : (g : Ghosts) (s : State) (p : Seat) (d : ℕ) (k : List ℕ) (row : KeyRow) (c : ℕ) → CallHolds g s p d k c → IsUnwritten s c → (c ∈ calls_of row → ⊥) → RowHolds g s p d k row → RowHolds g s p d k (row_of row.known row.stage (row.waiting ++ c ∷ []))
row_joins g s p d k row c call unwritten new a = record {
  known = a.known;
  stage = a.stage;
  calls = λ j m. by_old j (in_append (calls_of row) (c ∷ []) j (subst (λ xs. j ∈ xs) (running_append row.stage row.waiting c) m));
  waiting = λ j m. by_wait j (in_append row.waiting (c ∷ []) j m);
  distinct = subst AreDistinct (sym (running_append row.stage row.waiting c)) (distinct_append (calls_of row) c new a.distinct);
}
  where
    by_old : (j : ℕ) → (j ∈ calls_of row) ⊎ (j ∈ (c ∷ [])) → CallHolds g s p d k j
    by_old j (inl m) = a.calls j m
    by_old j (inr (inr none)) = absurd none
    by_old j (inr (inl e)) = subst (CallHolds g s p d k) (sym e) call

    by_wait : (j : ℕ) → (j ∈ row.waiting) ⊎ (j ∈ (c ∷ [])) → IsUnwritten s j
    by_wait j (inl m) = a.waiting j m
    by_wait j (inr (inr none)) = absurd none
    by_wait j (inr (inl e)) = subst (IsUnwritten s) (sym e) unwritten

-- the refusal of a call that came
pub refused_call : (g : Ghosts) (s : State) (c : Call) (r : Reply) (p : ℕ) → IsRefused r → EntriesAreSafe s → MayCall s.book c → OwedHolds (with_home g c.id p) (happens s (Ask c)) p c.id r
refused_call g s c r p refused entries may = let new = new_call s c may entries in record { called = new.called; home = put_here g.home c.id p; unanswered = new.unanswered; done = λ e. absurd (done_not_refused r e refused); unwritten = λ e. new.unwritten; unnoted = λ e. new.unnoted }

-- before a call came no row had it
pub new_dropped : (g : Ghosts) (s : State) (l : Leader) (i : ℕ) → LeaderHolds g s l → s.book.called i ≡ false → IsDropped l i
new_dropped g s l i a fresh k m = not_both ((a.rows k).calls i m).called fresh

pub asks : (g : Ghosts) (s : State) (l : Leader) (c : Call) (p : ℕ) → LeaderHolds g s l → Whole s.objects → MayCall s.book c → LeaderHolds (with_home g c.id p) (happens s (Ask c)) l
asks g s l c p a w may = leader_step g (with_home g c.id p) s (Ask c) l (tt, may) w (home_grows s g c.id p may.fresh) a.rounds (record { rows = λ k. tt; owed = λ i m. tt }) a

-- a call comes to the leader, and joins its key's queue
pub call_joins : (g : Ghosts) (s : State) (l : Leader) (c : Call) → LeaderHolds g s l → Whole s.objects → EntriesAreSafe s → MayCall s.book c → IsLeaderMove g s (Ask c ∷ []) (with_home g c.id l.seat.peer) (with_row l c.key (row_of (l.rows c.key).known (l.rows c.key).stage ((l.rows c.key).waiting ++ c.id ∷ [])))
call_joins g s l c a w entries may = move_home g s (Ask c ∷ []) c.id l.seat.peer (with_row l c.key (row_of (l.rows c.key).known (l.rows c.key).stage ((l.rows c.key).waiting ++ c.id ∷ []))) may.fresh ((tt, may), tt) (row_set h t l c.key (row_of (l.rows c.key).known (l.rows c.key).stage ((l.rows c.key).waiting ++ c.id ∷ [])) b (row_joins h t l.seat l.epoch c.key (l.rows c.key) c.id call new.unwritten (new_dropped g s l c.id a may.fresh c.key) (b.rows c.key))) (tt, tt)
  where
    h : Ghosts
    h = with_home g c.id l.seat.peer

    t : State
    t = happens s (Ask c)

    b : LeaderHolds h t l
    b = asks g s l c l.seat.peer a w may

    new : IsNewCall t c.id
    new = new_call s c may entries

    asked : t.book.asked c.id ≡ c
    asked = put_here s.book.asked c.id c

    later : s.book.elected_at l.epoch ≤ s.book.now → c.event ≡ s.book.now + 1 → s.book.elected_at l.epoch < c.event
    later n e = omega arith

    call : CallHolds h t l.seat l.epoch c.key c.id
    call = record {
      called = new.called;
      on_key = ap (λ (x : Call). x.key) asked;
      home = put_here g.home c.id l.seat.peer;
      free = λ m. not_both (owed_called g s l.seat.peer l.seat.owed c.id a.owes m) may.fresh;
      later = rw asked (later (entries.elected l.epoch a.elected) may.event);
      unanswered = new.unanswered;
      unnoted = new.unnoted;
    }

-- a call comes, and is to be refused
pub call_is_refused : (g : Ghosts) (s : State) (l : Leader) (c : Call) (r : Reply) → IsRefused r → LeaderHolds g s l → Whole s.objects → EntriesAreSafe s → MayCall s.book c → IsLeaderMove g s (Ask c ∷ []) (with_home g c.id l.seat.peer) (record l { seat = owe l.seat c.id r })
call_is_refused g s l c r refused a w entries may = move_home g s (Ask c ∷ []) c.id l.seat.peer (record l { seat = owe l.seat c.id r }) may.fresh ((tt, may), tt)
    (leader_owes h t l c.id r (asks g s l c l.seat.peer a w may) (new_dropped g s l c.id a may.fresh) (λ m. not_both (owed_called g s l.seat.peer l.seat.owed c.id a.owes m) may.fresh) (refused_call g s c r l.seat.peer refused entries may)) (tt, tt)
  where
    h : Ghosts
    h = with_home g c.id l.seat.peer

    t : State
    t = happens s (Ask c)

-- ## Calls that wait too long

without_in : (xs : List ℕ) (j m : ℕ) → m ∈ without xs j → m ∈ xs
without_in [] j m h = h
without_in (x ∷ xs) j m h = by_cases (without_in xs j m) (eqb x j) refl h
  where
    by_cases : (m ∈ without xs j → m ∈ xs) → (b : Bool) → eqb x j ≡ b → m ∈ without (x ∷ xs) j → m ∈ (x ∷ xs)
    by_cases rest true t h = inr (rest (rw t at h))
    by_cases rest false t h = or (rw t at h)
      where
        or : (m ≡ x) ⊎ (m ∈ without xs j) → (m ≡ x) ⊎ (m ∈ xs)
        or (inl e) = inl e
        or (inr n) = inr (rest n)

without_not : (xs : List ℕ) (j : ℕ) → j ∈ without xs j → ⊥
without_not [] j h = h
without_not (x ∷ xs) j h = by_cases (without_not xs j) (eqb x j) refl h
  where
    by_cases : (j ∈ without xs j → ⊥) → (b : Bool) → eqb x j ≡ b → j ∈ without (x ∷ xs) j → ⊥
    by_cases rest true t h = rest (rw t at h)
    by_cases rest false t h = or (rw t at h)
      where
        or : (j ≡ x) ⊎ (j ∈ without xs j) → ⊥
        or (inl e) = false≢true (sym t ∙ eq-eqb x j (sym e))
        or (inr n) = rest n

without_distinct : (xs : List ℕ) (j : ℕ) → AreDistinct xs → AreDistinct (without xs j)
without_distinct [] j d = tt
without_distinct (x ∷ xs) j d = by_cases (without_distinct xs j d.1) (eqb x j) refl
  where
    by_cases : AreDistinct (without xs j) → (b : Bool) → eqb x j ≡ b → AreDistinct (without (x ∷ xs) j)
    by_cases rest true t = rw t rest
    by_cases rest false t = rw t ((λ m. d.0 (without_in xs j x m), rest))

-- what runs, with the others that wait
running_less : (stage : Stage) (rest : List ℕ) (j m : ℕ) → m ∈ with_running stage (without rest j) → m ∈ with_running stage rest
running_less Idle rest j m h = without_in rest j m h
running_less (Begun i) rest j m (inl e) = inl e
running_less (Begun i) rest j m (inr h) = inr (without_in rest j m h)
running_less (Reading i r replied best object) rest j m (inl e) = inl e
running_less (Reading i r replied best object) rest j m (inr h) = inr (without_in rest j m h)
running_less (Sure i) rest j m (inl e) = inl e
running_less (Sure i) rest j m (inr h) = inr (without_in rest j m h)
running_less (Checking i r replied reply) rest j m (inl e) = inl e
running_less (Checking i r replied reply) rest j m (inr h) = inr (without_in rest j m h)
running_less (Writing i v x acks) rest j m (inl e) = inl e
running_less (Writing i v x acks) rest j m (inr h) = inr (without_in rest j m h)
running_less (Rewriting i v x acks) rest j m (inl e) = inl e
running_less (Rewriting i v x acks) rest j m (inr h) = inr (without_in rest j m h)

pair_distinct : (i : ℕ) (rest : List ℕ) (j : ℕ) → AreDistinct (i ∷ rest) → AreDistinct (i ∷ without rest j)
pair_distinct i rest j d = (λ m. d.0 (without_in rest j i m), without_distinct rest j d.1)

running_distinct : (stage : Stage) (rest : List ℕ) (j : ℕ) → AreDistinct (with_running stage rest) → AreDistinct (with_running stage (without rest j))
running_distinct Idle rest j d = without_distinct rest j d
running_distinct (Begun i) rest j d = pair_distinct i rest j d
running_distinct (Reading i r replied best object) rest j d = pair_distinct i rest j d
running_distinct (Sure i) rest j d = pair_distinct i rest j d
running_distinct (Checking i r replied reply) rest j d = pair_distinct i rest j d
running_distinct (Writing i v x acks) rest j d = pair_distinct i rest j d
running_distinct (Rewriting i v x acks) rest j d = pair_distinct i rest j d

-- who waits does not run
waits_only : (stage : Stage) (rest : List ℕ) (j : ℕ) → j ∈ rest → AreDistinct (with_running stage rest) → j ∈ with_running stage (without rest j) → ⊥
waits_only Idle rest j m d h = without_not rest j h
waits_only (Begun i) rest j m d (inl e) = d.0 (subst (λ x. x ∈ rest) e m)
waits_only (Begun i) rest j m d (inr h) = without_not rest j h
waits_only (Reading i r replied best object) rest j m d (inl e) = d.0 (subst (λ x. x ∈ rest) e m)
waits_only (Reading i r replied best object) rest j m d (inr h) = without_not rest j h
waits_only (Sure i) rest j m d (inl e) = d.0 (subst (λ x. x ∈ rest) e m)
waits_only (Sure i) rest j m d (inr h) = without_not rest j h
waits_only (Checking i r replied reply) rest j m d (inl e) = d.0 (subst (λ x. x ∈ rest) e m)
waits_only (Checking i r replied reply) rest j m d (inr h) = without_not rest j h
waits_only (Writing i v x acks) rest j m d (inl e) = d.0 (subst (λ x. x ∈ rest) e m)
waits_only (Writing i v x acks) rest j m d (inr h) = without_not rest j h
waits_only (Rewriting i v x acks) rest j m d (inl e) = d.0 (subst (λ x. x ∈ rest) e m)
waits_only (Rewriting i v x acks) rest j m d (inr h) = without_not rest j h

row_loses : (g : Ghosts) (s : State) (p : Seat) (d : ℕ) (k : List ℕ) (known : Known) (stage : Stage) (rest : List ℕ) (j : ℕ) → RowHolds g s p d k (row_of known stage rest) → RowHolds g s p d k (row_of known stage (without rest j))
row_loses g s p d k known stage rest j a = record { known = a.known; stage = a.stage; calls = λ i m. a.calls i (running_less stage rest j i m); waiting = λ i m. a.waiting i (without_in rest j i m); distinct = running_distinct stage rest j a.distinct }

pub owed_timeout : (g : Ghosts) (s : State) (p : Seat) (d : ℕ) (k : List ℕ) (i : ℕ) → CallHolds g s p d k i → OwedHolds g s p.peer i Reply.Timeout
owed_timeout g s p d k i call = record { called = call.called; home = call.home; unanswered = call.unanswered; done = λ e. absurd e; unwritten = λ e. absurd e; unnoted = λ e. absurd e }

-- a call that waits is to be answered timeout, whatever the running one does
pub waiting_times_out : (g : Ghosts) (s : State) (l : Leader) (k : List ℕ) (known : Known) (stage : Stage) (rest : List ℕ) (j : ℕ) → LeaderHolds g s l → RowHolds g s l.seat l.epoch k (row_of known stage rest) → j ∈ rest → IsLeaderMove g s [] g (owing l k (row_of known stage (without rest j)) j Reply.Timeout)
waiting_times_out g s l k known stage rest j a row m = move_same g s [] (owing l k (row_of known stage (without rest j)) j Reply.Timeout) tt
    (leader_owes g s (with_row l k (row_of known stage (without rest j))) j Reply.Timeout (row_set g s l k (row_of known stage (without rest j)) a (row_loses g s l.seat l.epoch k known stage rest j row)) (dropped g s l k (row_of known stage (without rest j)) j a call.on_key (waits_only stage rest j m row.distinct)) call.free (owed_timeout g s l.seat l.epoch k j call)) tt
  where
    call : CallHolds g s l.seat l.epoch k j
    call = row.calls j (waits stage rest j m)

-- ## Leaving

timeouts_in : (is : List ℕ) (i : ℕ) → i ∈ calls_owed (timeouts is) → i ∈ is
timeouts_in [] i m = m
timeouts_in (x ∷ is) i (inl e) = inl e
timeouts_in (x ∷ is) i (inr m) = inr (timeouts_in is i m)

owes_timeouts : (g : Ghosts) (s : State) (p : ℕ) (is : List ℕ) → ((i : ℕ) → i ∈ is → OwedHolds g s p i Reply.Timeout) → AreDistinct is → OwesHold g s p (timeouts is)
owes_timeouts g s p [] each d = tt
owes_timeouts g s p (x ∷ is) each d = (each x (inl refl), (λ m. d.0 (timeouts_in is x m), owes_timeouts g s p is (λ i m. each i (inr m)) d.1))

-- a leader that leaves owes each of its calls a timeout, after what it owed before
pub leader_leaves : (g : Ghosts) (s : State) (l : Leader) (is : List ℕ) → LeaderHolds g s l → AreDistinct is → ((i : ℕ) → i ∈ is → (k : List ℕ) × (i ∈ calls_of (l.rows k))) → OwesHold g s l.seat.peer (l.seat.owed ++ timeouts is)
leader_leaves g s l is a distinct among = owes_both g s l.seat.peer l.seat.owed (timeouts is) (λ i m n. let at = among i (timeouts_in is i n) in ((a.rows at.0).calls i at.1).free m) a.owes
    (owes_timeouts g s l.seat.peer is (λ i m. let at = among i m in owed_timeout g s l.seat l.epoch at.0 i ((a.rows at.0).calls i at.1)) distinct)

-- ## The end of a step: the answers are given

pub owed_may : (g : Ghosts) (s : State) (p i : ℕ) (r : Reply) → OwedHolds g s p i r → MayAnswer s.objects s.book i r
owed_may g s p i r a = record { called = a.called; fresh = a.unanswered; done = λ e. plain (a.done e); not_written = λ e. a.unwritten e; not_noted = λ e. a.unnoted e }
  where
    plain : IsWriteReply s.objects s.book i r ⊎ (IsReadReply s.book i r × (((s.book.seen i).base ≡ 0) ⊎ (s.objects.proposed (s.book.seen i).base ≡ true))) → IsWriteReply s.objects s.book i r ⊎ IsReadReply s.book i r
    plain (inl b) = inl b
    plain (inr b) = inr b.0

-- the oldest answer that is owed is given
pub owes_give : (g : Ghosts) (s : State) (p : ℕ) (x : Owed) (o : List Owed) → Whole s.objects → OwesHold g s p (x ∷ o) → MayCome s (Answer x.call x.reply) × OwesHold g (happens s (Answer x.call x.reply)) p o
owes_give g s p x o w a = (may, owes_stay g g s (happens s (Answer x.call x.reply)) p o (stay_step s (Answer x.call x.reply) may) (ghosts_same s g) (λ i m. call_spared_step s (Answer x.call x.reply) i (λ e. a.1.0 (rw e m))) a.1.1)
  where
    may : MayCome s (Answer x.call x.reply)
    may = (tt, owed_may g s p x.call x.reply a.0)

-- a row where less is owed
row_gives : (g : Ghosts) (s : State) (p : ℕ) (x : Owed) (o : List Owed) (d : ℕ) (k : List ℕ) (row : KeyRow) → RowHolds g s (record { peer = p; owed = x ∷ o }) d k row → RowHolds g s (record { peer = p; owed = o }) d k row
row_gives g s p x o d k row a = record { known = a.known; stage = a.stage; calls = λ i m. let b = a.calls i m in record { called = b.called; on_key = b.on_key; home = b.home; free = λ n. b.free (inr n); later = b.later; unanswered = b.unanswered; unnoted = b.unnoted }; waiting = a.waiting; distinct = a.distinct }

pub leader_gives : (g : Ghosts) (s : State) (l : Leader) (x : Owed) (o : List Owed) → Whole s.objects → LeaderHolds g s (seated l (x ∷ o)) → IsLeaderMove g s (Answer x.call x.reply ∷ []) g (seated l o)
leader_gives g s l x o w a = move_same g s (step ∷ []) (seated l o) (give.0, tt) (record {
  led = a.led;
  elected = a.elected;
  established = a.established;
  numbers = a.numbers;
  rounds = a.rounds;
  rows = λ k. row_stays g g s (happens s step) (record { peer = l.seat.peer; owed = o }) l.epoch k (stay_step s step give.0) (ghosts_same s g) a.elected (l.rows k)
      (spared_step s step l.epoch k (calls_of (l.rows k)) (λ m. ((a.rows k).calls x.call m).free (inl refl))) (row_gives g s l.seat.peer x o l.epoch k (l.rows k) (a.rows k));
  owes = give.1;
}) (a.owes.0.home, tt)
  where
    step : Step
    step = Answer x.call x.reply

    give : MayCome s step × OwesHold g (happens s step) l.seat.peer o
    give = owes_give g s l.seat.peer x o w a.owes

-- ## The leader's own acknowledgement

own_lower : (s : State) (d : ℕ) (k : List ℕ) (v : ℕ) (x : Object) (acks : ℕ → Bool) (e : ℕ) → PutHolds s d k v x acks → IsGenuine s.objects d k e → e ≤ v
own_lower s d k v x acks e a (inl z) = rw z (omega arith)
own_lower s d k v x acks e a (inr h) = by_order (cases_order (epoch_of e) d)
  where
    by_order : (epoch_of e ≡ d) ⊎ ((epoch_of e < d) ⊎ (d < epoch_of e)) → e ≤ v
    by_order (inl same) = a.greatest e h.0 h.1 same
    by_order (inr (inr l)) = absurd (omega (arith, h.2))
    by_order (inr (inl l)) = below (cases_order e v)
      where
        no : v ≤ e → ⊥
        no m = omega (arith, epoch_mono v e m, a.epoch)

        below : (e ≡ v) ⊎ ((e < v) ⊎ (v < e)) → e ≤ v
        below (inl same) = omega arith
        below (inr (inl m)) = omega arith
        below (inr (inr m)) = absurd (no (omega arith))

own_write : (s : State) (p d : ℕ) (k : List ℕ) (v : ℕ) (x : Object) (acks : ℕ → Bool) → VersionsAreSafe s.objects → s.objects.ledger.ballot p ≡ d → s.objects.trusted p ≡ true → PutHolds s d k v x acks → MayWrite s.objects p v
own_write s p d k v x acks versions stands trusted a = record {
  honest = versions.sight.trusted p trusted;
  proposed = a.proposed;
  low = low a.epoch;
  higher = rw a.key (own_lower s d k v x acks (s.objects.map p k) a (subst (λ e. IsGenuine s.objects e k (s.objects.map p k)) stands (versions.genuine.written p k)));
}
  where
    low : epoch_of v ≡ d → epoch_of v ≤ s.objects.ledger.ballot p
    low e = omega arith

-- the peer stands at the epoch, which it accepted, and trusts its tree: the put goes into its tree, and it acknowledges it
pub own_acknowledgement : (s : State) (p d : ℕ) (k : List ℕ) (v : ℕ) (x : Object) (acks : ℕ → Bool) → VersionsAreSafe s.objects → s.objects.ledger.ballot p ≡ d → s.objects.trusted p ≡ true → s.objects.ledger.accepted d p ≡ true → PutHolds s d k v x acks → MayAll s (Write p v ∷ Acknowledge p v ∷ [])
own_acknowledgement s p d k v x acks versions stands trusted accepted a = ((own_write s p d k v x acks versions stands trusted a, tt), ((record { proposed = a.proposed; stands = stands ∙ sym a.epoch; accepted = rw a.epoch accepted; has = has }, tt), tt))
  where
    entry_here : (m : List ℕ → ℕ) (j : List ℕ) → v ≤ set_entry m j v j
    entry_here m j = rw (eq_same_bytes j j refl) (omega arith)

    has : v ≤ put s.objects.map p (set_entry (s.objects.map p) (s.objects.key v) v) p (s.objects.key v)
    has = rw (put_here s.objects.map p (set_entry (s.objects.map p) (s.objects.key v) v)) (entry_here (s.objects.map p) (s.objects.key v))
