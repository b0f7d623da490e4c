-- Dead versions stay dead, and a version proposed below an elected epoch is dead from the start.
use Rattle.std.proofs.Common.{◌≡◌, ℕ, ◌<◌, ◌≤◌, Bool, true, false, arith, refl, List}
use Rattle.std.proofs.lemmas.Bool.Decides.{nat_tests}
use Rattle.quorums.proofs.Majorities.{meet_of_quorums, quorum_less, quorum_more, shares_itself}
use Rattle.quorums.specs.Quorums.{is_quorum}
use Rattle.protocol_laws.proofs.Sound.{Sound}
use Rattle.protocol_laws.proofs.Epochs.{not_empty, blocked, not_both}
use Rattle.protocol_laws.proofs.Basics.{Basics, Settled}
use Rattle.protocol_laws.specs.Ledger.{Place, MayElect}
use Rattle.protocol_laws.specs.Objects.{Objects, epoch_of, MayPropose}
use Rattle.protocol_laws.specs.Elections.{may_accept, IsClosed, IsBlocked}
use Rattle.protocol_laws.specs.Protocol.{Step, Begin, Ask, Raise, Elect, Accept, Commit, Adopt, Write, Acknowledge, Install, EndSync, Propose, Settle, Note, Answer, Lose, Revert, objects_after, MayDo}
use Rattle.protocol_laws.specs.Versions.{may_acknowledge, IsDead}

-- ## Dead versions stay dead

less_here : (s t : Objects) (v : ℕ) → t.ledger.views (epoch_of v) ≡ s.ledger.views (epoch_of v) → ((q : ℕ) → may_acknowledge t v q ≡ true → may_acknowledge s v q ≡ true) → IsDead s v → IsDead t v
less_here s t v same f dead = rw same (quorum_less (may_acknowledge s v) (may_acknowledge t v) (s.ledger.views (epoch_of v)) f dead)

raise_less : (o : Objects) (p d v : ℕ) → o.ledger.ballot p ≤ d → (q : ℕ) → may_acknowledge (objects_after o (Raise p d)) v q ≡ true → may_acknowledge o v q ≡ true
raise_less o p d v may q h = grind (arith, nat_tests)

acknowledge_less : (o : Objects) (p x v : ℕ) → o.ledger.ballot p ≡ epoch_of x → (q : ℕ) → may_acknowledge (objects_after o (Acknowledge p x)) v q ≡ true → may_acknowledge o v q ≡ true
acknowledge_less o p x v may q h = grind (arith, nat_tests)

elect_same : (o : Objects) (d : ℕ) (b : Place) (v : ℕ) → MayElect o.ledger d b → o.ledger.elected (epoch_of v) ≡ true → IsDead o v → IsDead (objects_after o (Elect d b)) v
elect_same o d b v may e dead = grind (arith, nat_tests, may.fresh)

pub dead_stays : (o : Objects) (e : Step) → MayDo o e → (v : ℕ) → o.ledger.elected (epoch_of v) ≡ true → IsDead o v → IsDead (objects_after o e) v
dead_stays o (Raise p d) may v ev dead = less_here o (objects_after o (Raise p d)) v refl (raise_less o p d v may) dead
dead_stays o (Elect d b) may v ev dead = elect_same o d b v may ev dead
dead_stays o (Acknowledge p x) may v ev dead = less_here o (objects_after o (Acknowledge p x)) v refl (acknowledge_less o p x v may.stands) dead
dead_stays o Begin may v ev dead = dead
dead_stays o (Ask c) may v ev dead = dead
dead_stays o (Accept p d) may v ev dead = dead
dead_stays o (Commit d c) may v ev dead = dead
dead_stays o (Adopt p d) may v ev dead = dead
dead_stays o (Write p x) may v ev dead = dead
dead_stays o (Install p d m) may v ev dead = dead
dead_stays o (EndSync p d) may v ev dead = dead
dead_stays o (Propose x k u s y c) may v ev dead = dead
dead_stays o (Settle x) may v ev dead = dead
dead_stays o (Note i k u d) may v ev dead = dead
dead_stays o (Answer i r) may v ev dead = dead
dead_stays o (Lose p) may v ev dead = dead
dead_stays o (Revert p m) may v ev dead = dead

-- ## Born dead

blocked_dead : (o : Objects) (v : ℕ) → Sound o.ledger → ((q : ℕ) → o.acked v q ≡ false) → o.ledger.elected (epoch_of v) ≡ true → IsBlocked o.ledger (epoch_of v) → IsDead o v
blocked_dead o v sound unacked e b = by_cases (is_quorum (may_acknowledge o v) (o.ledger.views (epoch_of v))) refl
  where
    apart : (q : ℕ) → o.acked v q ≡ false → epoch_of v < o.ledger.ballot q → may_acknowledge o v q ≡ true → ⊥
    apart q n h m = grind (arith, nat_tests)

    by_cases : (t : Bool) → is_quorum (may_acknowledge o v) (o.ledger.views (epoch_of v)) ≡ t → IsDead o v
    by_cases false p = p
    by_cases true p =
        let c = (meet_of_quorums b.peers (may_acknowledge o v) (o.ledger.views (epoch_of v)) (o.ledger.views (epoch_of v)) (shares_itself (o.ledger.views (epoch_of v)) (not_empty o.ledger sound (epoch_of v) e)) b.quorum p).meet in
        absurd (apart c.peer (unacked c.peer) (b.above c.peer c.in_left) c.in_right)

closed_dead : (o : Objects) (v : ℕ) → ((q : ℕ) → o.acked v q ≡ false) → IsClosed o.ledger (epoch_of v) → IsDead o v
closed_dead o v unacked c = quorum_less (may_accept o.ledger (epoch_of v)) (may_acknowledge o v) (o.ledger.views (epoch_of v)) (λ q h. grind (arith, nat_tests, unacked q)) c

born_dead : (o : Objects) (v e : ℕ) → Sound o.ledger → ((q : ℕ) → o.acked v q ≡ false) → o.ledger.elected (epoch_of v) ≡ true → o.ledger.elected e ≡ true → epoch_of v < e → IsDead o v
born_dead o v e sound unacked ev ee l = by_cases (is_quorum (may_accept o.ledger (epoch_of v)) (o.ledger.views (epoch_of v))) refl
  where
    by_cases : (t : Bool) → is_quorum (may_accept o.ledger (epoch_of v)) (o.ledger.views (epoch_of v)) ≡ t → IsDead o v
    by_cases false p = closed_dead o v unacked p
    by_cases true p = blocked_dead o v sound unacked ev (blocked o.ledger sound e (epoch_of v) ee ev l p)

-- a version proposed below an elected epoch is dead
pub new_dead : (o : Objects) (x : ℕ) (k : List ℕ) (u : ℕ) → MayPropose o x k u → Sound o.ledger → Basics o → (e : ℕ) → o.ledger.elected e ≡ true → epoch_of x < e → IsDead o x
new_dead o x k u may sound basics e ee l = born_dead o x e sound not_acked may.elected ee l
  where
    not_acked : (q : ℕ) → o.acked x q ≡ false
    not_acked q = grind (arith, may.fresh, basics.acked_proposed x q)

-- ## Settled versions are not dead

pub settled_alive : (o : Objects) (v : ℕ) → Settled o → o.settled v ≡ true → IsDead o v → ⊥
settled_alive o v settled h dead = not_both (quorum_more (o.settled_by v) (may_acknowledge o v) (λ q a. grind (arith, nat_tests, settled.acked v q h a)) (o.ledger.views (epoch_of v)) (settled.quorum v h)) dead
