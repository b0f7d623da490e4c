-- A round that starts: what is remembered, the table of its leader and those of others.
use Rattle.std.proofs.Common.{◌≡◌, ℕ, suc, ◌<◌, Bool, true, false, List, [], Option, None, Some, eqb, eqb-true, arith, refl, inl, inr, sym, ◌∙◌, subst}
use Rattle.protocol_laws.proofs.Later.{stay_same}
use Rattle.std.proofs.lemmas.Bool.Decides.{nat_tests}
use Rattle.protocol_laws.proofs.Epochs.{not_both}
use Rattle.protocol_laws.proofs.Maps.{put_other}
use Rattle.protocol_laws.specs.Protocol.{State, Step, after, MayAll}
use Rattle.role_laws.proofs.Growth.{row_stays, owes_stay, call_spared_none}
use Rattle.role_laws.specs.Tables.{Seat, Turn, Leader, Known, Unknown, Nothing, Held, Ghosts, base_of, calls_of, start_turn, with_turn, with_home}
use Rattle.role_laws.specs.Leaders.{KnownHolds, CallHolds, LeaderHolds, TurnHolds, TurnsHold}
use Rattle.role_laws.specs.Moves.{RowSpared, GhostsGrow, AreOfLeader, IsLeaderMove}
use Rattle.std.proofs.lemmas.Option.{same_Some}

-- ## No step

pub spared_none : (s : State) (d : ℕ) (k calls : List ℕ) → RowSpared s s d k calls
spared_none s d k calls = record { untouched = λ x p key e. p; unsettled = λ x p key e h. h; unanswered = λ i m h. h; unnoted = λ i m h. h; unwritten = λ i v m h. h }

pub ghosts_same : (s : State) (g : Ghosts) → GhostsGrow s g g
ghosts_same s g = record { turn = λ d r t h. h; home = λ i h. refl; hash = refl }

-- ## A round

not_none : {A : Type 0} (x : A) → Some x ≡ None → ⊥
not_none x e = cc

pub turn_here : (turn : ℕ → ℕ → Option Turn) (d r : ℕ) (x : Turn) → start_turn turn d r x d r ≡ Some x
turn_here turn d r x = by_cases (eqb d d) (eqb r r) refl refl
  where
    by_cases : (a b : Bool) → eqb d d ≡ a → eqb r r ≡ b → start_turn turn d r x d r ≡ Some x
    by_cases true true e f = rw (e, f) refl
    by_cases false b e f = absurd (grind (arith, nat_tests))
    by_cases true false e f = absurd (grind (arith, nat_tests))

pub turn_other : (turn : ℕ → ℕ → Option Turn) (d r : ℕ) (x : Turn) (e q : ℕ) → (d ≡ e → r ≡ q → ⊥) → start_turn turn d r x e q ≡ turn e q
turn_other turn d r x e q n = by_cases (eqb d e) (eqb r q) refl refl
  where
    by_cases : (a b : Bool) → eqb d e ≡ a → eqb r q ≡ b → start_turn turn d r x e q ≡ turn e q
    by_cases true true a b = absurd (n (eqb-true d e a) (eqb-true r q b))
    by_cases true false a b = rw (a, b) refl
    by_cases false b a f = rw a refl

-- the round had not been started
pub turn_grows : (s : State) (g : Ghosts) (d r : ℕ) (x : Turn) → g.turn d r ≡ None → GhostsGrow s g (with_turn g d r x)
turn_grows s g d r x fresh = record { turn = λ e q t h. turn_other g.turn d r x e q (n e q t h) ∙ h; home = λ i h. refl; hash = refl }
  where
    n : (e q : ℕ) (t : Turn) → g.turn e q ≡ Some t → d ≡ e → r ≡ q → ⊥
    n e q t h a b = not_none t (sym h ∙ (rw (← a, ← b) fresh))

pub turns_start : (g : Ghosts) (s : State) (d r : ℕ) (x : Turn) → TurnHolds s d x → TurnsHold g s → TurnsHold (with_turn g d r x) s
turns_start g s d r x here old e q t h = by_cases (eqb d e) (eqb r q) refl refl h
  where
    by_cases : (a b : Bool) → eqb d e ≡ a → eqb r q ≡ b → start_turn g.turn d r x e q ≡ Some t → TurnHolds s e t
    by_cases true true a b h = subst (λ (n : ℕ). TurnHolds s n t) (eqb-true d e a) (subst (TurnHolds s d) (same_Some x t (rw (a, b) at h)) here)
    by_cases true false a b h = old e q t (rw (a, b) at h)
    by_cases false b a f h = old e q t (rw a at h)

-- a leader starts a round
pub leader_starts : (g : Ghosts) (s : State) (l : Leader) (x : Turn) → LeaderHolds g s l → LeaderHolds (with_turn g l.epoch (suc l.round) x) s (record l { round = suc l.round })
leader_starts g s l x a = record {
  led = a.led;
  elected = a.elected;
  established = a.established;
  numbers = a.numbers;
  rounds = λ r h. turn_other g.turn l.epoch (suc l.round) x l.epoch r (λ e f. above r h f) ∙ a.rounds r (less r h);
  rows = λ k. row_stays g (with_turn g l.epoch (suc l.round) x) s s l.seat l.epoch k (stay_same s) ghosts a.elected (l.rows k) (spared_none s l.epoch k (calls_of (l.rows k))) (a.rows k);
  owes = owes_stay g (with_turn g l.epoch (suc l.round) x) s s l.seat.peer l.seat.owed (stay_same s) ghosts (λ i m. call_spared_none s i) a.owes;
}
  where
    next : (r : ℕ) → r < suc r
    next r = omega arith

    ghosts : GhostsGrow s g (with_turn g l.epoch (suc l.round) x)
    ghosts = turn_grows s g l.epoch (suc l.round) x (a.rounds (suc l.round) (next l.round))

    above : (r : ℕ) → suc l.round < r → suc l.round ≡ r → ⊥
    above r h e = omega arith

    less : (r : ℕ) → suc l.round < r → l.round < r
    less r h = omega arith

-- what is recorded of a round for a call of the key
pub turn_holds : (g : Ghosts) (s : State) (p : Seat) (d : ℕ) (k : List ℕ) (known : Known) (i : ℕ) → s.objects.ledger.elected d ≡ true → KnownHolds g s d k known → CallHolds g s p d k i → TurnHolds s d (record { call = i; base = base_of known })
turn_holds g s p d k Unknown i elected a call = record { elected = elected; called = call.called; base = inl refl }
turn_holds g s p d k Nothing i elected a call = record { elected = elected; called = call.called; base = inl refl }
turn_holds g s p d k (Held u stamp digest gone) i elected a call = record { elected = elected; called = call.called; base = inr (a.newest.settled, a.newest.key ∙ sym call.on_key) }

-- ## A call that comes

pub home_grows : (s : State) (g : Ghosts) (i p : ℕ) → s.book.called i ≡ false → GhostsGrow s g (with_home g i p)
home_grows s g i p fresh = record { turn = λ d r t h. h; home = λ j h. put_other g.home i p j (λ e. not_both h (rw (← e) fresh)); hash = refl }

-- ## Moves

pub move_same : (g : Ghosts) (s : State) (steps : List Step) (l : Leader) → MayAll s steps → LeaderHolds g (after s steps) l → AreOfLeader g l.epoch l.seat.peer steps → IsLeaderMove g s steps g l
move_same g s steps l may holds own = record { may = may; holds = holds; own = own; ghosts = ghosts_same s g; turns = λ d r n. refl }

pub move_round : (g : Ghosts) (s : State) (l : Leader) (x : Turn) (m : Leader) → LeaderHolds g s l → m.epoch ≡ l.epoch → LeaderHolds (with_turn g l.epoch (suc l.round) x) s m → IsLeaderMove g s [] (with_turn g l.epoch (suc l.round) x) m
move_round g s l x m a same holds = record {
  may = tt;
  holds = holds;
  own = tt;
  ghosts = turn_grows s g l.epoch (suc l.round) x (a.rounds (suc l.round) (next l.round));
  turns = λ d r n. turn_other g.turn l.epoch (suc l.round) x d r (λ e f. n (same ∙ e));
}
  where
    next : (r : ℕ) → r < suc r
    next r = omega arith

pub move_home : (g : Ghosts) (s : State) (steps : List Step) (i p : ℕ) (m : Leader) → s.book.called i ≡ false → MayAll s steps → LeaderHolds (with_home g i p) (after s steps) m → AreOfLeader (with_home g i p) m.epoch m.seat.peer steps → IsLeaderMove g s steps (with_home g i p) m
move_home g s steps i p m fresh may holds own = record { may = may; holds = holds; own = own; ghosts = home_grows s g i p fresh; turns = λ d r n. refl }
