-- Moves one after another, tables as lists, and what no table may say.
use Rattle.std.proofs.Common.{◌≡◌, ℕ, ◌≤◌, Bool, true, false, List, [], ◌∷◌, ◌++◌, arith, refl, sym, ◌∙◌, subst}
use Rattle.ens_base.proofs.Lists.{bytes_same}
use Rattle.protocol_laws.proofs.Steps.{after_both, may_both}
use Rattle.std.specs.Prelude.{if◌then◌else◌}
use Rattle.ens_base.specs.Lists.{same_bytes}
use Rattle.protocol_laws.proofs.Epochs.{not_both}
use Rattle.protocol_laws.proofs.Maps.{eq_same_bytes}
use Rattle.protocol_laws.proofs.Descent.{Whole}
use Rattle.protocol_laws.specs.Protocol.{State, Step, Propose, Settle, Note, Answer, after}
use Rattle.role_laws.specs.Tables.{Object, Known, Unknown, Nothing, Held, KeyRow, Leader, Ghosts, set_row, Unknown, TableEntry, rows_of, put_row}
use Rattle.role_laws.specs.Leaders.{KnownHolds, PutHolds, RowHolds, LeaderHolds}
use Rattle.role_laws.specs.Moves.{IsOfLeader, AreOfLeader, IsLeaderMove}
use Rattle.std.proofs.lemmas.Bool.{true≢false}

-- ## One move after another

is_of_same : (g h : Ghosts) (d p : ℕ) (e : Step) → ((i : ℕ) → h.home i ≡ g.home i) → IsOfLeader g d p e → IsOfLeader h d p e
is_of_same g h d p (Propose v k u x y c) same a = (a.0, λ i e. same i ∙ a.1 i e)
is_of_same g h d p (Settle v) same a = a
is_of_same g h d p (Note i k u e) same a = same i ∙ a
is_of_same g h d p (Answer i r) same a = same i ∙ a
is_of_same g h d p e same a = a

all_of_same : (g h : Ghosts) (d p : ℕ) (es : List Step) → ((i : ℕ) → h.home i ≡ g.home i) → AreOfLeader g d p es → AreOfLeader h d p es
all_of_same g h d p [] same a = tt
all_of_same g h d p (e ∷ es) same a = (is_of_same g h d p e same a.0, all_of_same g h d p es same a.1)

all_of_both : (g : Ghosts) (d p : ℕ) (es fs : List Step) → AreOfLeader g d p es → AreOfLeader g d p fs → AreOfLeader g d p (es ++ fs)
all_of_both g d p [] fs a b = b
all_of_both g d p (e ∷ es) fs a b = (a.0, all_of_both g d p es fs a.1 b)

pub move_then : (g h f : Ghosts) (s : State) (es fs : List Step) (l m : Leader) → Whole s.objects → m.epoch ≡ l.epoch → m.seat.peer ≡ l.seat.peer → ((i : ℕ) → f.home i ≡ h.home i) → IsLeaderMove g s es h l → IsLeaderMove h (after s es) fs f m → IsLeaderMove g s (es ++ fs) f m
move_then g h f s es fs l m w same_epoch same_peer homes a b = record {
  may = may_both s es fs a.may b.may;
  holds = subst (λ t. LeaderHolds f t m) (sym (after_both s es fs)) b.holds;
  own = all_of_both f m.epoch m.seat.peer es fs (all_of_same h f m.epoch m.seat.peer es homes (subst (λ d. AreOfLeader h d m.seat.peer es) (sym same_epoch) (subst (λ p. AreOfLeader h l.epoch p es) (sym same_peer) a.own))) b.own;
  ghosts = record {
    turn = λ d r t e. b.ghosts.turn d r t (a.ghosts.turn d r t e);
    home = λ i called. homes i ∙ a.ghosts.home i called;
    hash = b.ghosts.hash ∙ a.ghosts.hash;
  };
  turns = λ d r n. b.turns d r n ∙ a.turns d r (λ e. n (same_epoch ∙ e));
}

-- ## The table as a list

-- only what is found under each key matters
pub leader_same : (g : Ghosts) (s : State) (l : Leader) (rows : List ℕ → KeyRow) → ((k : List ℕ) → l.rows k ≡ rows k) → LeaderHolds g s l → LeaderHolds g s (record l { rows = rows })
leader_same g s l rows same a = record { owes = a.owes; led = a.led; elected = a.elected; established = a.established; numbers = a.numbers; rounds = a.rounds; rows = λ k. subst (RowHolds g s l.seat l.epoch k) (same k) (a.rows k) }

-- a row that is put into the list is found, and every other row is as it was
pub put_found : (table : List TableEntry) (k : List ℕ) (row : KeyRow) (j : List ℕ) → rows_of (put_row table k row) j ≡ set_row (rows_of table) k row j
put_found [] k row j = refl
put_found (e ∷ table) k row j = by_cases (put_found table k row j) (same_bytes e.key k) refl
  where
    by_cases : rows_of (put_row table k row) j ≡ set_row (rows_of table) k row j → (b : Bool) → same_bytes e.key k ≡ b → rows_of (put_row (e ∷ table) k row) j ≡ set_row (rows_of (e ∷ table)) k row j
    by_cases rest true t = rw t (here (bytes_same e.key k t) (same_bytes k j) refl)
      where
        here : e.key ≡ k → (b : Bool) → same_bytes k j ≡ b → (if same_bytes e.key j then row else rows_of table j) ≡ (if same_bytes k j then row else if same_bytes e.key j then e.row else rows_of table j)
        here same true u = rw (same, u) refl
        here same false u = rw (same, u) refl
    by_cases rest false t = rw t (there (same_bytes e.key j) refl (same_bytes k j) refl)
      where
        there : (a : Bool) → same_bytes e.key j ≡ a → (b : Bool) → same_bytes k j ≡ b → (if same_bytes e.key j then e.row else rows_of (put_row table k row) j) ≡ (if same_bytes k j then row else if same_bytes e.key j then e.row else rows_of table j)
        there true u true v = absurd (true≢false (sym (eq_same_bytes e.key k (bytes_same e.key j u ∙ sym (bytes_same k j v))) ∙ t))
        there true u false v = rw (u, v) refl
        there false u true v = rw (u, v) (rest ∙ found_here v)
          where
            found_here : same_bytes k j ≡ true → set_row (rows_of table) k row j ≡ row
            found_here v = rw v refl
        there false u false v = rw (u, v) (rest ∙ found_there v)
          where
            found_there : same_bytes k j ≡ false → set_row (rows_of table) k row j ≡ rows_of table j
            found_there v = rw v refl

-- ## While a put is out

-- nothing that a leader may know of the key holds, so a leader that goes on may drop no put
pub put_leaves_nothing_known : (g : Ghosts) (s : State) (d : ℕ) (k : List ℕ) (v : ℕ) (x : Object) (acks : ℕ → Bool) (known : Known) → PutHolds s d k v x acks → KnownHolds g s d k known → ⊥
put_leaves_nothing_known g s d k v x acks Unknown a b = b v a.proposed a.key a.epoch
put_leaves_nothing_known g s d k v x acks Nothing a b = b.untouched v a.proposed a.key a.epoch
put_leaves_nothing_known g s d k v x acks (Held u stamp digest gone) a b = not_both b.newest.settled (subst (λ n. s.objects.settled n ≡ false) (same (b.newest.greatest v a.proposed a.key a.epoch) (a.greatest u b.newest.proposed b.newest.key b.newest.epoch)) a.unsettled)
  where
    same : v ≤ u → u ≤ v → v ≡ u
    same l m = omega arith
