-- Each move of a leader with its steps: they may come, and the table holds after them.
use Rattle.std.proofs.Common.{◌≡◌, ℕ, suc, ◌^◌, ◌<◌, ◌≤◌, Bool, true, false, ◌⊎◌, List, [], ◌∷◌, Option, None, Some, eqb, eqb-true, arith, ap, refl, inl, inr, sym, ◌∙◌, subst}
use Rattle.protocol_laws.proofs.Later.{stay_step}
use Rattle.protocol_laws.specs.Stays.{EntriesStay}
use Rattle.std.proofs.lemmas.Bool.{false≢true, true≢false}
use Rattle.ens_base.specs.Lists.{◌∈◌}
use Rattle.ens_base.specs.declared.epoch.Version.{Version}
use Rattle.ens_base.specs.declared.reply.Reply.{Reply}
use Rattle.register_model.specs.declared.call.Call.{Call}
use Rattle.register_model.specs.Registers.{outcome, Keeps, Writes}
use Rattle.quorums.specs.Quorums.{is_quorum}
use Rattle.protocol_laws.proofs.Epochs.{not_both}
use Rattle.protocol_laws.proofs.Maps.{put_here}
use Rattle.protocol_laws.proofs.Basics.{proposed_then}
use Rattle.protocol_laws.proofs.Descent.{Whole}
use Rattle.protocol_laws.specs.Ledger.{put}
use Rattle.protocol_laws.specs.Objects.{epoch_of}
use Rattle.register_model.specs.Histories.{IsDone, IsRefused}
use Rattle.protocol_laws.specs.Book.{IsWriteReply, IsReadReply, Seen, version_of, register_at, Wrote}
use Rattle.protocol_laws.specs.Protocol.{State, Step, Propose, Settle, Note, happens, MayCome}
use Rattle.role_laws.proofs.Growth.{known_old, spared_step, row_stays, call_spared_step, owes_stay, owe_in, owes_more}
use Rattle.role_laws.proofs.Steps.{leader_step}
use Rattle.role_laws.proofs.Rounds.{ghosts_same, move_same}
use Rattle.role_laws.proofs.LeaderMoves.{row_then, row_set, held_holds}
use Rattle.role_laws.proofs.Guards.{version_next, version_some, version_epoch, may_propose, may_write, may_rewrite, may_settle, may_note_read}
use Rattle.role_laws.proofs.Outcomes.{keeps_done, done_not_refused}
use Rattle.role_laws.specs.Tables.{Seat, calls_owed, owe, owing, Object, Known, Stage, Idle, Begun, Reading, Sure, Checking, Writing, Rewriting, KeyRow, Leader, Ghosts, version_at, base_of, calls_of, set_row, with_row, held, row_of}
use Rattle.role_laws.specs.Leaders.{OwedHolds, IsUnwritten, IsObjectOf, KnownHolds, IsFresh, PutHolds, CallHolds, RowHolds, LeaderHolds, IsParent}
use Rattle.role_laws.specs.Moves.{IsDropped, IsLeaderMove}
use Rattle.std.proofs.lemmas.Option.{same_Some}

-- ## Every stage without a put has what a call that began has

module _ (g : Ghosts) (s : State) (p : Seat) (d : ℕ) (k : List ℕ) (known : Known) (rest : List ℕ) where
  abbrev Row : Stage → Type 0
  Row stage = RowHolds g s p d k (row_of known stage rest)

  pub reading_began : (i r : ℕ) (replied : ℕ → Bool) (best : ℕ) (object : Option Object) → Row (Reading i r replied best object) → Row (Begun i)
  reading_began i r replied best object a = record { known = λ n. a.known refl; stage = a.stage.unwritten; calls = a.calls; waiting = a.waiting; distinct = a.distinct }

  pub sure_began : (i : ℕ) → Row (Sure i) → Row (Begun i)
  sure_began i a = record { known = λ n. a.known refl; stage = a.stage.0; calls = a.calls; waiting = a.waiting; distinct = a.distinct }

  pub checking_began : (i r : ℕ) (replied : ℕ → Bool) (reply : Reply) → Row (Checking i r replied reply) → Row (Begun i)
  checking_began i r replied reply a = record { known = λ n. a.known refl; stage = a.stage.0.unwritten; calls = a.calls; waiting = a.waiting; distinct = a.distinct }

  pub began_ends : (i : ℕ) → Row (Begun i) → Row Idle
  began_ends i a = record { known = λ n. a.known refl; stage = tt; calls = λ j m. a.calls j (inr m); waiting = a.waiting; distinct = a.distinct.1 }

-- ## Other keys

other_key : (g : Ghosts) (s : State) (p : Seat) (d : ℕ) (k j : List ℕ) (i : ℕ) → (k ≡ j → ⊥) → (s.book.asked i).key ≡ k → CallHolds g s p d j i → ⊥
other_key g s p d k j i n on_key a = n (sym on_key ∙ a.on_key)

call_kept : (g : Ghosts) (s t : State) (p : Seat) (d : ℕ) (k : List ℕ) (i : ℕ) → EntriesStay s t → s.objects.ledger.elected d ≡ true → t.book.answered i ≡ s.book.answered i → t.book.noted i ≡ s.book.noted i → CallHolds g s p d k i → CallHolds g t p d k i
call_kept g s t p d k i stay elected answered noted a = record {
  called = stay.called i a.called;
  on_key = ap (λ (c : Call). c.key) (stay.asked i a.called) ∙ a.on_key;
  home = a.home;
  free = a.free;
  later = rw (stay.elected_at d elected, stay.asked i a.called) a.later;
  unanswered = answered ∙ a.unanswered;
  unnoted = noted ∙ a.unnoted;
}

-- ## Proposals

-- of what is written after a proposal: the new version, or an old one
wrote_then : (s : State) (v : ℕ) (k : List ℕ) (u : ℕ) (y : Version) (z : Option (List ℕ)) (c : Option ℕ) (i x : ℕ) → Wrote (happens s (Propose v k u y z c)).objects (happens s (Propose v k u y z c)).book i x → ((v ≡ x) × (c ≡ Some i)) ⊎ Wrote s.objects s.book i x
wrote_then s v k u y z c i x h = by_cases (eqb v x) refl h.0 h.1
  where
    by_cases : (b : Bool) → eqb v x ≡ b → put s.objects.proposed v true x ≡ true → put s.book.call v c x ≡ Some i → ((v ≡ x) × (c ≡ Some i)) ⊎ Wrote s.objects s.book i x
    by_cases true t p e = inl (eqb-true v x t, rw t at e)
    by_cases false t p e = inr (rw t at p, rw t at e)

none_some : (i : ℕ) → None ≡ Some i → ⊥
none_some i e = cc

module _ (g : Ghosts) (s : State) (p : Seat) (d : ℕ) (k : List ℕ) (known : Known) (rest : List ℕ) (w : Whole s.objects) (elected : s.objects.ledger.elected d ≡ true) (u v : ℕ) (epoch : epoch_of v ≡ d) (below : (y : ℕ) → s.objects.proposed y ≡ true → epoch_of y ≡ d → y ≤ v) (some : 0 < v) (i : ℕ) (a : RowHolds g s p d k (row_of known (Begun i) rest)) where
  new_put : (y : Version) (z : Option (List ℕ)) (c : Option ℕ) → MayCome s (Propose v k u y z c) → PutHolds (happens s (Propose v k u y z c)) d k v (record { stamp = y; content = z }) (λ q. false)
  new_put y z c may = record {
    proposed = put_here s.objects.proposed v true;
    key = put_here s.objects.key v k;
    epoch = epoch;
    unsettled = by_cases (s.objects.settled v) refl;
    greatest = λ x q key e. proposed_then s.objects.proposed v (λ x. epoch_of x ≡ d → x ≤ v) (λ e. omega arith) (λ x n h e. below x h e) x q e;
    object = record { some = some; stamp = sym (put_here s.book.stamp v y); content = sym (put_here s.book.content v z) };
    acked = λ q e. absurd (false≢true e);
  }
    where
      by_cases : (b : Bool) → s.objects.settled v ≡ b → s.objects.settled v ≡ false
      by_cases false h = h
      by_cases true h = absurd (not_both (w.settled.proposed v h) may.0.fresh)

  new_calls : (y : Version) (z : Option (List ℕ)) (c : Option ℕ) → MayCome s (Propose v k u y z c) → (j : ℕ) → j ∈ (i ∷ rest) → CallHolds g (happens s (Propose v k u y z c)) p d k j
  new_calls y z c may j m = call_kept g s (happens s (Propose v k u y z c)) p d k j (stay_step s (Propose v k u y z c) may) elected refl refl (a.calls j m)

  -- the write of the running call is proposed
  pub write_goes_out : (z : Option (List ℕ)) → MayCome s (Propose v k u (version_of v) z (Some i)) → RowHolds g (happens s (Propose v k u (version_of v) z (Some i))) p d k (row_of known (Writing i v (record { stamp = version_of v; content = z }) (λ q. false)) rest)
  write_goes_out z may = record {
    known = λ n. absurd (true≢false n);
    stage = record { put = new_put (version_of v) z (Some i) may; call = put_here s.book.call v (Some i); only = λ x h. only x (wrote_then s v k u (version_of v) z (Some i) i x h) };
    calls = new_calls (version_of v) z (Some i) may;
    waiting = λ j m x h. none j m x (wrote_then s v k u (version_of v) z (Some i) j x h);
    distinct = a.distinct;
  }
    where
      only : (x : ℕ) → ((v ≡ x) × (Some i ≡ Some i)) ⊎ Wrote s.objects s.book i x → x ≡ v
      only x (inl h) = sym h.0
      only x (inr h) = absurd (a.stage x h)

      none : (j : ℕ) → j ∈ rest → (x : ℕ) → ((v ≡ x) × (Some i ≡ Some j)) ⊎ Wrote s.objects s.book j x → ⊥
      none j m x (inl h) = a.distinct.0 (rw (same_Some i j h.1) m)
      none j m x (inr h) = a.waiting j m x h

  -- a rewrite is proposed for the running call
  pub rewrite_goes_out : (y : Version) (z : Option (List ℕ)) → IsFresh s d i → MayCome s (Propose v k u y z None) → RowHolds g (happens s (Propose v k u y z None)) p d k (row_of known (Rewriting i v (record { stamp = y; content = z }) (λ q. false)) rest)
  rewrite_goes_out y z fresh may = record {
    known = λ n. absurd (true≢false n);
    stage = record { put = new_put y z None may; unwritten = λ x h. none i a.stage x (wrote_then s v k u y z None i x h); call = put_here s.book.call v None; fresh = fresh };
    calls = new_calls y z None may;
    waiting = λ j m x h. none j (a.waiting j m) x (wrote_then s v k u y z None j x h);
    distinct = a.distinct;
  }
    where
      none : (j : ℕ) → IsUnwritten s j → (x : ℕ) → ((v ≡ x) × (None ≡ Some j)) ⊎ Wrote s.objects s.book j x → ⊥
      none j b x (inl h) = none_some j h.1
      none j b x (inr h) = b x h

-- the table with the row of a new version
leader_propose : (g : Ghosts) (s : State) (l : Leader) (k : List ℕ) (u : ℕ) (y : Version) (z : Option (List ℕ)) (c : Option ℕ) (row : KeyRow) → LeaderHolds g s l → Whole s.objects → ((i : ℕ) → c ≡ Some i → (s.book.asked i).key ≡ k) → ((i : ℕ) → c ≡ Some i → i ∈ calls_owed l.seat.owed → ⊥) → MayCome s (Propose (version_at l.epoch (suc l.seq)) k u y z c)
    → RowHolds g (happens s (Propose (version_at l.epoch (suc l.seq)) k u y z c)) l.seat l.epoch k row → LeaderHolds g (happens s (Propose (version_at l.epoch (suc l.seq)) k u y z c)) (record l { seq = suc l.seq; rows = set_row l.rows k row })
leader_propose g s l k u y z c row a w own free may b = record {
  owes = owes_stay g g s t l.seat.peer l.seat.owed (stay_step s step may) (ghosts_same s g) (λ i m. call_spared_step s step i (λ e. free i e m)) a.owes;
  led = a.led;
  elected = a.elected;
  established = a.established;
  numbers = proposed_then s.objects.proposed v (λ x. epoch_of x ≡ l.epoch → x ≤ v) (λ e. omega arith) (λ x n h e. under x (version_next l.epoch l.seq x (a.numbers x h e)));
  rounds = a.rounds;
  rows = row_then l.rows k row (RowHolds g t l.seat l.epoch) b (λ j n. row_stays g g s t l.seat l.epoch j (stay_step s step may) (ghosts_same s g) a.elected (l.rows j) (spared_step s step l.epoch j (calls_of (l.rows j)) (λ e same. n same, λ i m same. other_key g s l.seat l.epoch k j i n (own i same) ((a.rows j).calls i m))) (a.rows j));
}
  where
    v : ℕ
    v = version_at l.epoch (suc l.seq)

    step : Step
    step = Propose v k u y z c

    t : State
    t = happens s step

    under : (x : ℕ) → x < v → x ≤ v
    under x h = omega arith

below_next : (g : Ghosts) (s : State) (l : Leader) → LeaderHolds g s l → (y : ℕ) → s.objects.proposed y ≡ true → epoch_of y ≡ l.epoch → y ≤ version_at l.epoch (suc l.seq)
below_next g s l a y p e = under (version_next l.epoch l.seq y (a.numbers y p e))
  where
    under : y < version_at l.epoch (suc l.seq) → y ≤ version_at l.epoch (suc l.seq)
    under h = omega arith

pub writes : (g : Ghosts) (s : State) (l : Leader) (k : List ℕ) (known : Known) (i : ℕ) (rest : List ℕ) (u : ℕ) (z : Option (List ℕ)) → LeaderHolds g s l → Whole s.objects → suc l.seq < 2 ^ 64 → RowHolds g s l.seat l.epoch k (row_of known (Begun i) rest) → IsParent s l.epoch k u → outcome (s.book.asked i).command (register_at s.book u) ≡ Writes z
    → IsLeaderMove g s (Propose (version_at l.epoch (suc l.seq)) k u (version_of (version_at l.epoch (suc l.seq))) z (Some i) ∷ []) g (record l { seq = suc l.seq; rows = set_row l.rows k (row_of known (Writing i (version_at l.epoch (suc l.seq)) (record { stamp = version_of (version_at l.epoch (suc l.seq)); content = z }) (λ q. false)) rest) })
writes g s l k known i rest u z a w fits row parent applies = record {
  may = (may, tt);
  holds = leader_propose g s l k u (version_of v) z (Some i) (row_of known (Writing i v (record { stamp = version_of v; content = z }) (λ q. false)) rest) a w (λ j e. subst (λ n. (s.book.asked n).key ≡ k) (same_Some i j e) (row.calls i (inl refl)).on_key) (λ j e m. (row.calls i (inl refl)).free (rw (same_Some i j e) m)) may
      (write_goes_out g s l.seat l.epoch k known rest w a.elected u v (version_epoch l.epoch (suc l.seq) fits) (below_next g s l a) (version_some l.epoch (suc l.seq)) i row z may);
  own = ((version_epoch l.epoch (suc l.seq) fits, λ j e. subst (λ n. g.home n ≡ l.seat.peer) (same_Some i j e) (row.calls i (inl refl)).home), tt);
  ghosts = ghosts_same s g;
  turns = λ d r n. refl;
}
  where
    v : ℕ
    v = version_at l.epoch (suc l.seq)

    may : MayCome s (Propose v k u (version_of v) z (Some i))
    may = (may_propose g s l k u a fits parent, may_write g s l.seat l.epoch k u v i z (row.calls i (inl refl)) row.stage applies)

pub rewrites : (g : Ghosts) (s : State) (l : Leader) (k : List ℕ) (known : Known) (i : ℕ) (rest : List ℕ) (u : ℕ) (x : Object) → LeaderHolds g s l → Whole s.objects → suc l.seq < 2 ^ 64 → RowHolds g s l.seat l.epoch k (row_of known (Begun i) rest) → IsParent s l.epoch k u → IsObjectOf s u x → IsFresh s l.epoch i
    → IsLeaderMove g s (Propose (version_at l.epoch (suc l.seq)) k u x.stamp x.content None ∷ []) g (record l { seq = suc l.seq; rows = set_row l.rows k (row_of known (Rewriting i (version_at l.epoch (suc l.seq)) x (λ q. false)) rest) })
rewrites g s l k known i rest u x a w fits row parent object fresh = record {
  may = (may, tt);
  holds = leader_propose g s l k u x.stamp x.content None (row_of known (Rewriting i v x (λ q. false)) rest) a w (λ j e. absurd (none_some j e)) (λ j e m. none_some j e) may
      (rewrite_goes_out g s l.seat l.epoch k known rest w a.elected u v (version_epoch l.epoch (suc l.seq) fits) (below_next g s l a) (version_some l.epoch (suc l.seq)) i row x.stamp x.content fresh may);
  own = ((version_epoch l.epoch (suc l.seq) fits, λ j e. absurd (none_some j e)), tt);
  ghosts = ghosts_same s g;
  turns = λ d r n. refl;
}
  where
    v : ℕ
    v = version_at l.epoch (suc l.seq)

    may : MayCome s (Propose v k u x.stamp x.content None)
    may = (may_propose g s l k u a fits parent, may_rewrite s u v k x object)

-- ## Settling

module _ (g : Ghosts) (s : State) (p : Seat) (d : ℕ) (k : List ℕ) (known : Known) (rest : List ℕ) (w : Whole s.objects) (elected : s.objects.ledger.elected d ≡ true) (i v : ℕ) (x : Object) (acks : ℕ → Bool) (may : MayCome s (Settle v)) where
  settled_now : PutHolds s d k v x acks → KnownHolds g (happens s (Settle v)) d k (held g k v x)
  settled_now a = held_holds g (happens s (Settle v)) p d k known rest v x (record { proposed = a.proposed; key = a.key; epoch = a.epoch; settled = put_here s.objects.settled v true; greatest = a.greatest }) (record { some = a.object.some; stamp = a.object.stamp; content = a.object.content })

  settled_calls : ((j : ℕ) → j ∈ (i ∷ rest) → CallHolds g s p d k j) → (j : ℕ) → j ∈ (i ∷ rest) → CallHolds g (happens s (Settle v)) p d k j
  settled_calls a j m = call_kept g s (happens s (Settle v)) p d k j (stay_step s (Settle v) may) elected refl refl (a j m)

  pub write_settles : RowHolds g s p d k (row_of known (Writing i v x acks) rest) → RowHolds g (happens s (Settle v)) p d k (row_of (held g k v x) Idle rest)
  write_settles a = record { known = λ n. settled_now a.stage.put; stage = tt; calls = λ j m. settled_calls a.calls j (inr m); waiting = a.waiting; distinct = a.distinct.1 }

  pub rewrite_settles : RowHolds g s p d k (row_of known (Rewriting i v x acks) rest) → RowHolds g (happens s (Settle v)) p d k (row_of (held g k v x) (Sure i) rest)
  rewrite_settles a = record { known = λ n. settled_now a.stage.put; stage = (a.stage.unwritten, a.stage.fresh, tt); calls = settled_calls a.calls; waiting = a.waiting; distinct = a.distinct }

leader_settle : (g : Ghosts) (s : State) (l : Leader) (k : List ℕ) (v : ℕ) (row : KeyRow) → LeaderHolds g s l → Whole s.objects → s.objects.key v ≡ k → MayCome s (Settle v) → RowHolds g (happens s (Settle v)) l.seat l.epoch k row → LeaderHolds g (happens s (Settle v)) (with_row l k row)
leader_settle g s l k v row a w key may b = record {
  owes = owes_stay g g s (happens s (Settle v)) l.seat.peer l.seat.owed (stay_step s (Settle v) may) (ghosts_same s g) (λ i m. call_spared_step s (Settle v) i tt) a.owes;
  led = a.led;
  elected = a.elected;
  established = a.established;
  numbers = a.numbers;
  rounds = a.rounds;
  rows = row_then l.rows k row (RowHolds g (happens s (Settle v)) l.seat l.epoch) b (λ j n. row_stays g g s (happens s (Settle v)) l.seat l.epoch j (stay_step s (Settle v) may) (ghosts_same s g) a.elected (l.rows j) (spared_step s (Settle v) l.epoch j (calls_of (l.rows j)) (λ e same. n (sym key ∙ same))) (a.rows j));
}

pub settles_rewrite : (g : Ghosts) (s : State) (l : Leader) (k : List ℕ) (known : Known) (i : ℕ) (rest : List ℕ) (v : ℕ) (x : Object) (acks : ℕ → Bool) → LeaderHolds g s l → Whole s.objects → RowHolds g s l.seat l.epoch k (row_of known (Rewriting i v x acks) rest) → is_quorum acks (s.objects.ledger.views l.epoch) ≡ true → IsLeaderMove g s (Settle v ∷ []) g (with_row l k (row_of (held g k v x) (Sure i) rest))
settles_rewrite g s l k known i rest v x acks a w row quorum = record {
  may = (may, tt);
  holds = leader_settle g s l k v (row_of (held g k v x) (Sure i) rest) a w row.stage.put.key may (rewrite_settles g s l.seat l.epoch k known rest w a.elected i v x acks may row);
  own = (row.stage.put.epoch, tt);
  ghosts = ghosts_same s g;
  turns = λ d r n. refl;
}
  where
    may : MayCome s (Settle v)
    may = (may_settle s l.epoch k v x acks row.stage.put quorum, tt)

-- ## A call that leaves the table

-- a call of the row stands in no other one
pub dropped : (g : Ghosts) (s : State) (l : Leader) (k : List ℕ) (row : KeyRow) (i : ℕ) → LeaderHolds g s l → (s.book.asked i).key ≡ k → (i ∈ calls_of row → ⊥) → IsDropped (with_row l k row) i
dropped g s l k row i a on_key gone = row_then l.rows k row (λ j row. i ∈ calls_of row → ⊥) gone (λ j n m. other_key g s l.seat l.epoch k j i n on_key ((a.rows j).calls i m))

-- the row where one more answer is owed, to none of its calls
row_owes : (g : Ghosts) (s : State) (p : Seat) (d : ℕ) (k : List ℕ) (row : KeyRow) (i : ℕ) (r : Reply) → (i ∈ calls_of row → ⊥) → RowHolds g s p d k row → RowHolds g s (owe p i r) d k row
row_owes g s p d k row i r gone a = record { known = a.known; stage = a.stage; calls = λ j m. call j m (a.calls j m); waiting = a.waiting; distinct = a.distinct }
  where
    call : (j : ℕ) → j ∈ calls_of row → CallHolds g s p d k j → CallHolds g s (owe p i r) d k j
    call j m b = record { called = b.called; on_key = b.on_key; home = b.home; free = λ n. no (owe_in p i r j n); later = b.later; unanswered = b.unanswered; unnoted = b.unnoted }
      where
        no : (j ∈ calls_owed p.owed) ⊎ (j ≡ i) → ⊥
        no (inl n) = b.free n
        no (inr e) = gone (subst (λ x. x ∈ calls_of row) e m)

-- an answer is owed to a call that stands in no row
pub leader_owes : (g : Ghosts) (s : State) (l : Leader) (i : ℕ) (r : Reply) → LeaderHolds g s l → IsDropped l i → (i ∈ calls_owed l.seat.owed → ⊥) → OwedHolds g s l.seat.peer i r → LeaderHolds g s (record l { seat = owe l.seat i r })
leader_owes g s l i r a gone free owed = record { led = a.led; elected = a.elected; established = a.established; numbers = a.numbers; rounds = a.rounds; rows = λ k. row_owes g s l.seat l.epoch k (l.rows k) i r (gone k) (a.rows k); owes = owes_more g s l.seat i r free owed a.owes }

-- the running call, without a put, leaves the table
running_drops : (g : Ghosts) (s : State) (l : Leader) (k : List ℕ) (known : Known) (i : ℕ) (rest : List ℕ) → LeaderHolds g s l → RowHolds g s l.seat l.epoch k (row_of known (Begun i) rest) → LeaderHolds g s (with_row l k (row_of known Idle rest)) × IsDropped (with_row l k (row_of known Idle rest)) i
running_drops g s l k known i rest a row = (row_set g s l k (row_of known Idle rest) a (began_ends g s l.seat l.epoch k known rest i row), dropped g s l k (row_of known Idle rest) i a (row.calls i (inl refl)).on_key row.distinct.0)

done_is : (i : ℕ) (s : State) (r : Reply) → (IsRefused r → ⊥) → (IsDone r → IsWriteReply s.objects s.book i r ⊎ (IsReadReply s.book i r × (((s.book.seen i).base ≡ 0) ⊎ (s.objects.proposed (s.book.seen i).base ≡ true)))) → (g : Ghosts) (p : ℕ) → s.book.called i ≡ true → g.home i ≡ p → s.book.answered i ≡ false → OwedHolds g s p i r
done_is i s r other done g p called home unanswered = record { called = called; home = home; unanswered = unanswered; done = done; unwritten = λ e. absurd (other e); unnoted = λ e. absurd (other e) }

pub settles_write : (g : Ghosts) (s : State) (l : Leader) (k : List ℕ) (known : Known) (i : ℕ) (rest : List ℕ) (v : ℕ) (x : Object) (acks : ℕ → Bool) → LeaderHolds g s l → Whole s.objects → RowHolds g s l.seat l.epoch k (row_of known (Writing i v x acks) rest) → is_quorum acks (s.objects.ledger.views l.epoch) ≡ true → IsLeaderMove g s (Settle v ∷ []) g (owing l k (row_of (held g k v x) Idle rest) i (Reply.Ok (version_of v)))
settles_write g s l k known i rest v x acks a w row quorum = move_same g s (Settle v ∷ []) (owing l k (row_of (held g k v x) Idle rest) i (Reply.Ok (version_of v))) (may, tt)
    (leader_owes g t (with_row l k (row_of (held g k v x) Idle rest)) i (Reply.Ok (version_of v)) (leader_settle g s l k v (row_of (held g k v x) Idle rest) a w row.stage.put.key may (write_settles g s l.seat l.epoch k known rest w a.elected i v x acks may row))
    (dropped g s l k (row_of (held g k v x) Idle rest) i a call.on_key row.distinct.0) call.free
    (done_is i t (Reply.Ok (version_of v)) (λ e. e) (λ e. inl (record { version = v; wrote = (row.stage.put.proposed, row.stage.call); settled = put_here s.objects.settled v true; reply = refl })) g l.seat.peer call.called call.home call.unanswered))
    (row.stage.put.epoch, tt)
  where
    t : State
    t = happens s (Settle v)

    call : CallHolds g s l.seat l.epoch k i
    call = row.calls i (inl refl)

    may : MayCome s (Settle v)
    may = (may_settle s l.epoch k v x acks row.stage.put quorum, tt)

-- the read of a call that is sure
pub reads : (g : Ghosts) (s : State) (l : Leader) (k : List ℕ) (known : Known) (i : ℕ) (rest : List ℕ) (reply : Reply) → LeaderHolds g s l → Whole s.objects → RowHolds g s l.seat l.epoch k (row_of known (Sure i) rest) → outcome (s.book.asked i).command (register_at s.book (base_of known)) ≡ Keeps reply → IsLeaderMove g s (Note i k (base_of known) l.epoch ∷ []) g (owing l k (row_of known Idle rest) i reply)
reads g s l k known i rest reply a w row keeps = move_same g s (Note i k (base_of known) l.epoch ∷ []) (owing l k (row_of known Idle rest) i reply) (may, tt)
    (leader_owes g t m i reply (leader_step g g s (Note i k (base_of known) l.epoch) m may w (ghosts_same s g) a.rounds (record { rows = λ j n. gone j n; owed = λ j n e. call.free (subst (λ x. x ∈ calls_owed l.seat.owed) (sym e) n) }) begun) gone call.free
    (done_is i t reply (done_not_refused reply (keeps_done (s.book.asked i).command (register_at s.book (base_of known)) reply keeps)) (λ e. inr (record { noted = put_here s.book.noted i true; keeps = subst (λ (n : Seen). outcome (s.book.asked i).command (register_at s.book n.base) ≡ Keeps reply) (sym here) keeps }, subst (λ (n : Seen). (n.base ≡ 0) ⊎ (s.objects.proposed n.base ≡ true)) (sym here) (known_old g s l.epoch k known (row.known refl)))) g l.seat.peer call.called call.home call.unanswered))
    (call.home, tt)
  where
    m : Leader
    m = with_row l k (row_of known Idle rest)

    t : State
    t = happens s (Note i k (base_of known) l.epoch)

    call : CallHolds g s l.seat l.epoch k i
    call = row.calls i (inl refl)

    begun : LeaderHolds g s m
    begun = row_set g s l k (row_of known Idle rest) a (began_ends g s l.seat l.epoch k known rest i (sure_began g s l.seat l.epoch k known rest i row))

    gone : IsDropped m i
    gone = dropped g s l k (row_of known Idle rest) i a call.on_key row.distinct.0

    may : MayCome s (Note i k (base_of known) l.epoch)
    may = (tt, may_note_read g s l k known i reply a row.stage.2 (row.known refl) call row.stage.0 row.stage.1 keeps)

    seen : Seen
    seen = record { key = k; base = base_of known; epoch = l.epoch; event = s.book.now }

    here : put s.book.seen i seen i ≡ seen
    here = put_here s.book.seen i seen

-- the running call, without a put, is to be answered timeout
pub times_out : (g : Ghosts) (s : State) (l : Leader) (k : List ℕ) (known : Known) (i : ℕ) (rest : List ℕ) → LeaderHolds g s l → RowHolds g s l.seat l.epoch k (row_of known (Begun i) rest) → IsLeaderMove g s [] g (owing l k (row_of known Idle rest) i Reply.Timeout)
times_out g s l k known i rest a row = let drop = running_drops g s l k known i rest a row in let call = row.calls i (inl refl) in
    move_same g s [] (owing l k (row_of known Idle rest) i Reply.Timeout) tt (leader_owes g s (with_row l k (row_of known Idle rest)) i Reply.Timeout drop.0 drop.1 call.free (done_is i s Reply.Timeout (λ e. e) (λ e. absurd e) g l.seat.peer call.called call.home call.unanswered)) tt

-- no peer has the object that a read is after
pub is_lost : (g : Ghosts) (s : State) (l : Leader) (k : List ℕ) (known : Known) (i : ℕ) (rest : List ℕ) → LeaderHolds g s l → RowHolds g s l.seat l.epoch k (row_of known (Begun i) rest) → IsLeaderMove g s [] g (owing l k (row_of known Idle rest) i Reply.Lost)
is_lost g s l k known i rest a row = let drop = running_drops g s l k known i rest a row in let call = row.calls i (inl refl) in
    move_same g s [] (owing l k (row_of known Idle rest) i Reply.Lost) tt (leader_owes g s (with_row l k (row_of known Idle rest)) i Reply.Lost drop.0 drop.1 call.free (record { called = call.called; home = call.home; unanswered = call.unanswered; done = λ e. absurd e; unwritten = λ e. row.stage; unnoted = λ e. call.unnoted })) tt
