-- Each move of a leader keeps what its table says.
use Rattle.std.proofs.Common.{◌≡◌, ℕ, ◌<◌, ◌≤◌, Bool, true, false, List, ◌∷◌, Option, None, Some, arith, refl, inl, inr, sym, ◌∙◌, subst, le_trans, ◌⊎◌}
use Rattle.ens_base.proofs.Lists.{bytes_same}
use Rattle.std.specs.Prelude.{nat_lt, max}
use Rattle.std.proofs.lemmas.Bool.{false≢true, true≢false}
use Rattle.std.proofs.lemmas.Bool.Decides.{nat_tests}
use Rattle.ens_base.specs.Lists.{same_bytes}
use Rattle.ens_base.specs.declared.reply.Reply.{Reply}
use Rattle.register_model.specs.Registers.{outcome, Keeps}
use Rattle.quorums.specs.Quorums.{is_quorum}
use Rattle.protocol_laws.proofs.Maps.{zero_not, eq_same_bytes}
use Rattle.std.proofs.Math.Nat.{le-max_left, le-max_right}
use Rattle.protocol_laws.proofs.Basics.{proposed_then}
use Rattle.protocol_laws.proofs.Descent.{Whole}
use Rattle.protocol_laws.specs.Ledger.{put}
use Rattle.protocol_laws.specs.Objects.{epoch_of, IsGenuine, IsUntouched, IsNewest, IsHeard}
use Rattle.protocol_laws.specs.Book.{register_at}
use Rattle.protocol_laws.specs.Protocol.{State}
use Rattle.role_laws.proofs.Guards.{newest_of_reread, fresh_of_replies}
use Rattle.role_laws.specs.Tables.{Seat, Object, Known, Unknown, Nothing, Held, Stage, Idle, Begun, Reading, Sure, Checking, Writing, Rewriting, KeyRow, Leader, Turn, Ghosts, base_of, set_row, with_row, one_of, better_object, held}
use Rattle.role_laws.specs.Leaders.{IsObjectOf, KnownHolds, IsSettledKey, ReadingHolds, PutHolds, RowHolds, LeaderHolds}
use Rattle.role_laws.specs.LeaderMessages.{GetReplySays, CheckReplySays}
use Rattle.std.proofs.lemmas.Option.{none-some}

-- ## One row in the table

-- what holds of the new row at its key, and of each other one, holds of each
pub row_then : (rows : List ℕ → KeyRow) (k : List ℕ) (row : KeyRow) (P : List ℕ → KeyRow → Type 0) → P k row → ((j : List ℕ) → (k ≡ j → ⊥) → P j (rows j)) → (j : List ℕ) → P j (set_row rows k row j)
row_then rows k row P here old j = by_cases (same_bytes k j) refl
  where
    by_cases : (b : Bool) → same_bytes k j ≡ b → P j (set_row rows k row j)
    by_cases true t = rw t (subst (λ (i : List ℕ). P i row) (bytes_same k j t) here)
    by_cases false t = rw t (old j (λ e. false≢true (sym t ∙ eq_same_bytes k j e)))

-- a move without a step
pub row_set : (g : Ghosts) (s : State) (l : Leader) (k : List ℕ) (row : KeyRow) → LeaderHolds g s l → RowHolds g s l.seat l.epoch k row → LeaderHolds g s (with_row l k row)
row_set g s l k row a b = record { led = a.led; elected = a.elected; established = a.established; numbers = a.numbers; rounds = a.rounds; owes = a.owes; rows = row_then l.rows k row (RowHolds g s l.seat l.epoch) b (λ j n. a.rows j) }

-- ## Moves of a row without a step

-- the greater of two numbers is one of them
pub max_cases : (a b : ℕ) → (max a b ≡ a) ⊎ (max a b ≡ b)
max_cases a b = grind (arith, nat_tests)

module _ (g : Ghosts) (s : State) (p : Seat) (d : ℕ) (k : List ℕ) (known : Known) (rest : List ℕ) where
  abbrev Row : Known → Stage → List ℕ → Type 0
  Row known stage rest = RowHolds g s p d k (record { known = known; stage = stage; waiting = rest })

  -- the next call begins
  pub next_begins : (i : ℕ) → Row known Idle (i ∷ rest) → Row known (Begun i) rest
  next_begins i a = record { known = λ n. a.known refl; stage = a.waiting i (inl refl); calls = a.calls; waiting = λ j m. a.waiting j (inr m); distinct = a.distinct }

  -- a read starts in a round of its own
  pub read_starts : (i r : ℕ) → g.turn d r ≡ Some (record { call = i; base = base_of known }) → Row known (Begun i) rest → Row known (Reading i r (λ q. false) 0 None) rest
  read_starts i r turn a = record {
    known = λ n. a.known refl;
    stage = record {
      turn = turn;
      unwritten = a.stage;
      genuine = inl refl;
      reached = λ q e. absurd (false≢true e);
      given = λ q e. absurd (false≢true e);
      stood = λ q e. absurd (false≢true e);
      settled = λ q e. absurd (false≢true e);
      holds = λ x e. absurd (none-some x e);
    };
    calls = a.calls;
    waiting = a.waiting;
    distinct = a.distinct;
  }

  -- a check starts
  pub check_starts : (i r : ℕ) (reply : Reply) → g.turn d r ≡ Some (record { call = i; base = base_of known }) → IsSettledKey known → outcome (s.book.asked i).command (register_at s.book (base_of known)) ≡ Keeps reply → Row known (Begun i) rest → Row known (Checking i r (λ q. false) reply) rest
  check_starts i r reply turn is keeps a = record {
    known = λ n. a.known refl;
    stage = (record { turn = turn; unwritten = a.stage; stood = λ q e. absurd (false≢true e); keeps = keeps }, is);
    calls = a.calls;
    waiting = a.waiting;
    distinct = a.distinct;
  }

  same_turn : (i r base : ℕ) (x : Turn) → g.turn d r ≡ Some (record { call = i; base = base }) → g.turn d r ≡ Some x → (x.call ≡ i) × (x.base ≡ base)
  same_turn i r base x e f = let same : Some x ≡ Some (record { call = i; base = base }) = sym f ∙ e in (call same, bases same)
    where
      call : Some x ≡ Some (record { call = i; base = base }) → x.call ≡ i
      call same = cc

      bases : Some x ≡ Some (record { call = i; base = base }) → x.base ≡ base
      bases same = cc

  max_then : (best entry : ℕ) (P : ℕ → Type 0) → P best → P entry → P (max best entry)
  max_then best entry P a b = by_cases (max_cases best entry)
    where
      by_cases : (max best entry ≡ best) ⊎ (max best entry ≡ entry) → P (max best entry)
      by_cases (inl e) = rw e a
      by_cases (inr e) = rw e b

  one_holds : (v : ℕ) (object theirs : Option Object) → ((x : Object) → object ≡ Some x → IsObjectOf s v x) → ((x : Object) → theirs ≡ Some x → IsObjectOf s v x) → (x : Object) → one_of object theirs ≡ Some x → IsObjectOf s v x
  one_holds v None theirs a b x e = b x e
  one_holds v (Some y) theirs a b x e = a x e

  better_holds : (best entry : ℕ) (object theirs : Option Object) → ((x : Object) → object ≡ Some x → IsObjectOf s best x) → ((x : Object) → theirs ≡ Some x → IsObjectOf s entry x) → (x : Object) → better_object best object entry theirs ≡ Some x → IsObjectOf s (max best entry) x
  better_holds best entry object theirs a b x = by_cases (nat_lt best entry) (nat_lt entry best) refl refl
    where
      by_cases : (c e : Bool) → nat_lt best entry ≡ c → nat_lt entry best ≡ e → better_object best object entry theirs ≡ Some x → IsObjectOf s (max best entry) x
      by_cases true e t f h = subst (λ v. IsObjectOf s v x) (sym second) (b x (rw t at h))
        where
          second : max best entry ≡ entry
          second = grind (arith, nat_tests)
      by_cases false true t f h = subst (λ v. IsObjectOf s v x) (sym first) (a x (rw (t, f) at h))
        where
          first : max best entry ≡ best
          first = grind (arith, nat_tests)
      by_cases false false t f h = subst (λ v. IsObjectOf s v x) (sym first) (one_holds best object theirs a (λ y m. subst (λ v. IsObjectOf s v y) same (b y m)) x (rw (t, f) at h))
        where
          first : max best entry ≡ best
          first = grind (arith, nat_tests)

          same : entry ≡ best
          same = grind (arith, nat_tests)

  -- a reply to the read is counted
  pub reply_counts : (i r : ℕ) (replied : ℕ → Bool) (best : ℕ) (object : Option Object) (q entry : ℕ) (theirs : Option Object) → GetReplySays g s q d r k entry theirs → Row known (Reading i r replied best object) rest → Row known (Reading i r (put replied q true) (max best entry) (better_object best object entry theirs)) rest
  reply_counts i r replied best object q entry theirs says a = record {
    known = λ n. a.known refl;
    stage = record {
      turn = a.stage.turn;
      unwritten = a.stage.unwritten;
      genuine = max_then best entry (IsGenuine s.objects d k) a.stage.genuine says.genuine;
      reached = proposed_then replied q (λ p. d ≤ s.objects.ledger.ballot p) says.reached (λ p n h. a.stage.reached p h);
      given = proposed_then replied q (λ p. s.objects.floor p d k ≤ max best entry) (le_trans says.given (le-max_right best entry)) (λ p n h. le_trans (a.stage.given p h) (le-max_left best entry));
      stood = proposed_then replied q (λ p. s.book.stood i p ≤ d) (subst (λ j. s.book.stood j q ≤ d) same.0 says.stood) (λ p n h. a.stage.stood p h);
      settled = proposed_then replied q (λ p. s.objects.settled_by (base_of known) p ≡ true → base_of known ≤ max best entry) (λ h. le_trans (subst (λ b. s.objects.settled_by b q ≡ true → b ≤ entry) same.1 says.settled h) (le-max_right best entry)) (λ p n h m. le_trans (a.stage.settled p h m) (le-max_left best entry));
      holds = better_holds best entry object theirs a.stage.holds says.holds;
    };
    calls = a.calls;
    waiting = a.waiting;
    distinct = a.distinct;
  }
    where
      same : (says.turn.call ≡ i) × (says.turn.base ≡ base_of known)
      same = same_turn i r (base_of known) says.turn a.stage.turn says.started

  -- a reply to the check is counted
  pub check_counts : (i r : ℕ) (replied : ℕ → Bool) (reply : Reply) (q : ℕ) → CheckReplySays g s q d r → Row known (Checking i r replied reply) rest → Row known (Checking i r (put replied q true) reply) rest
  check_counts i r replied reply q says a = record {
    known = λ n. a.known refl;
    stage = (
      record {
        turn = a.stage.0.turn;
        unwritten = a.stage.0.unwritten;
        stood = proposed_then replied q (λ p. s.book.stood i p ≤ d) (subst (λ j. s.book.stood j q ≤ d) (same_turn i r (base_of known) says.turn a.stage.0.turn says.started).0 says.stood) (λ p n h. a.stage.0.stood p h);
        keeps = a.stage.0.keeps;
      },
      a.stage.1,
    );
    calls = a.calls;
    waiting = a.waiting;
    distinct = a.distinct;
  }

  -- an acknowledgement of the put is counted
  put_counts : (v : ℕ) (x : Object) (acks : ℕ → Bool) (q : ℕ) → s.objects.acked v q ≡ true → PutHolds s d k v x acks → PutHolds s d k v x (put acks q true)
  put_counts v x acks q says a = record { proposed = a.proposed; key = a.key; epoch = a.epoch; unsettled = a.unsettled; greatest = a.greatest; object = a.object; acked = proposed_then acks q (λ p. s.objects.acked v p ≡ true) says (λ p n h. a.acked p h) }

  pub write_counts : (i v : ℕ) (x : Object) (acks : ℕ → Bool) (q : ℕ) → s.objects.acked v q ≡ true → Row known (Writing i v x acks) rest → Row known (Writing i v x (put acks q true)) rest
  write_counts i v x acks q says a = record { known = λ n. absurd (true≢false n); stage = record { put = put_counts v x acks q says a.stage.put; call = a.stage.call; only = a.stage.only }; calls = a.calls; waiting = a.waiting; distinct = a.distinct }

  pub rewrite_counts : (i v : ℕ) (x : Object) (acks : ℕ → Bool) (q : ℕ) → s.objects.acked v q ≡ true → Row known (Rewriting i v x acks) rest → Row known (Rewriting i v x (put acks q true)) rest
  rewrite_counts i v x acks q says a = record { known = λ n. absurd (true≢false n); stage = record { put = put_counts v x acks q says a.stage.put; unwritten = a.stage.unwritten; call = a.stage.call; fresh = a.stage.fresh }; calls = a.calls; waiting = a.waiting; distinct = a.distinct }

  -- a quorum replied and none has an entry: the key is settled absent
  untouched_of : (known : Known) → base_of known ≡ 0 → Whole s.objects → KnownHolds g s d k known → IsUntouched s.objects d k
  untouched_of Unknown e w a = a
  untouched_of Nothing e w a = a.untouched
  untouched_of (Held u stamp digest gone) e w a = absurd (zero_not u (w.basics.led u a.newest.proposed) e)

  -- what a quorum's replies say of the settled version of the key
  read_base : (known : Known) (i r : ℕ) (replied : ℕ → Bool) (best : ℕ) (object : Option Object) → Whole s.objects → s.objects.ledger.elected d ≡ true → KnownHolds g s d k known → ReadingHolds g s d k (base_of known) i r replied best object → is_quorum replied (s.objects.ledger.views d) ≡ true → best ≡ 0 → base_of known ≡ 0
  read_base Unknown i r replied best object w elected a reading quorum z = refl
  read_base Nothing i r replied best object w elected a reading quorum z = refl
  read_base (Held u stamp digest gone) i r replied best object w elected a reading quorum z = sym (newest_of_reread s w g d k u i r replied best object elected a.newest reading quorum) ∙ z

  pub read_finds_nothing : (i r : ℕ) (replied : ℕ → Bool) (best : ℕ) (object : Option Object) → Whole s.objects → s.objects.ledger.elected d ≡ true → is_quorum replied (s.objects.ledger.views d) ≡ true → best ≡ 0 → Row known (Reading i r replied best object) rest → Row Nothing (Sure i) rest
  read_finds_nothing i r replied best object w elected quorum z a = record {
    known = λ n. record {
      none = refl;
      untouched = untouched_of known (read_base known i r replied best object w elected (a.known refl) a.stage quorum z) w (a.known refl);
      heard = subst (λ u. IsHeard s.objects d k u) z (record { readers = replied; quorum = quorum; reached = a.stage.reached; given = a.stage.given });
    };
    stage = (a.stage.unwritten, fresh_of_replies s d i replied a.stage.stood quorum, tt);
    calls = a.calls;
    waiting = a.waiting;
    distinct = a.distinct;
  }

  -- of the settled version of its epoch: a quorum replied, and the best entry is of this epoch
  newest_of_read : (known : Known) (i r : ℕ) (replied : ℕ → Bool) (best : ℕ) (object : Option Object) → Whole s.objects → s.objects.ledger.elected d ≡ true → KnownHolds g s d k known → ReadingHolds g s d k (base_of known) i r replied best object → is_quorum replied (s.objects.ledger.views d) ≡ true → 0 < best → epoch_of best ≡ d → IsNewest s.objects d k best
  newest_of_read Unknown i r replied best object w elected a reading quorum some e = absurd (by_genuine reading.genuine)
    where
      by_genuine : IsGenuine s.objects d k best → ⊥
      by_genuine (inl z) = omega arith
      by_genuine (inr b) = a best b.0 b.1 e
  newest_of_read Nothing i r replied best object w elected a reading quorum some e = absurd (by_genuine reading.genuine)
    where
      by_genuine : IsGenuine s.objects d k best → ⊥
      by_genuine (inl z) = omega arith
      by_genuine (inr b) = a.untouched best b.0 b.1 e
  newest_of_read (Held u stamp digest gone) i r replied best object w elected a reading quorum some e = subst (λ n. IsNewest s.objects d k n) (sym (newest_of_reread s w g d k u i r replied best object elected a.newest reading quorum)) a.newest

  pub held_holds : (v : ℕ) (x : Object) → IsNewest s.objects d k v → IsObjectOf s v x → KnownHolds g s d k (held g k v x)
  held_holds v x newest a = record { newest = newest; same_stamp = a.stamp; same_digest = rw (a.stamp, a.content) refl; same_gone = rw a.content refl }

  -- a quorum replied, and the best entry is of this epoch, with its object: the key is settled with it
  pub read_finds_settled : (i r : ℕ) (replied : ℕ → Bool) (best : ℕ) (x : Object) → Whole s.objects → s.objects.ledger.elected d ≡ true → is_quorum replied (s.objects.ledger.views d) ≡ true → epoch_of best ≡ d → Row known (Reading i r replied best (Some x)) rest → Row (held g k best x) (Sure i) rest
  read_finds_settled i r replied best x w elected quorum e a = record {
    known = λ n. held_holds best x (newest_of_read known i r replied best (Some x) w elected (a.known refl) a.stage quorum (a.stage.holds x refl).some e) (a.stage.holds x refl);
    stage = (a.stage.unwritten, fresh_of_replies s d i replied a.stage.stood quorum, tt);
    calls = a.calls;
    waiting = a.waiting;
    distinct = a.distinct;
  }

  -- a quorum replied to the check
  pub check_ends : (i r : ℕ) (replied : ℕ → Bool) (reply : Reply) → is_quorum replied (s.objects.ledger.views d) ≡ true → Row known (Checking i r replied reply) rest → Row known (Sure i) rest
  check_ends i r replied reply quorum a = record {
    known = λ n. a.known refl;
    stage = (a.stage.0.unwritten, fresh_of_replies s d i replied a.stage.0.stood quorum, a.stage.1);
    calls = a.calls;
    waiting = a.waiting;
    distinct = a.distinct;
  }
