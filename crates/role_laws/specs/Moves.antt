-- The moves of leaders, and what the steps of others leave to them.
use Rattle.std.specs.Prelude.{◌≡◌, ℕ, suc, true, false, List, [], ◌∷◌, Option, None, Some}
use Rattle.ens_base.specs.Lists.{◌∈◌}
use Rattle.protocol_laws.specs.Objects.{epoch_of}
use Rattle.protocol_laws.specs.Book.{version_of, Wrote}
use Rattle.protocol_laws.specs.Protocol.{State, Step, Propose, Settle, Note, Answer, after, MayAll}
use Rattle.role_laws.specs.Tables.{Object, Known, calls_owed, Leader, Turn, Ghosts, next_version, calls_of, set_row, row_of, Writing, Rewriting}
use Rattle.role_laws.specs.Leaders.{LeaderHolds}

-- from s to t no version of the key is proposed or settled in the epoch, and none of the calls gets a
-- write, a note or an answer
pub record RowSpared (s t : State) (d : ℕ) (k calls : List ℕ) : Type 0 where
  pub untouched : (x : ℕ) → t.objects.proposed x ≡ true → t.objects.key x ≡ k → epoch_of x ≡ d → s.objects.proposed x ≡ true
  pub unsettled : (x : ℕ) → s.objects.proposed x ≡ true → s.objects.key x ≡ k → epoch_of x ≡ d → s.objects.settled x ≡ false → t.objects.settled x ≡ false
  pub unanswered : (i : ℕ) → i ∈ calls → s.book.answered i ≡ false → t.book.answered i ≡ false
  pub unnoted : (i : ℕ) → i ∈ calls → s.book.noted i ≡ false → t.book.noted i ≡ false
  pub unwritten : (i v : ℕ) → i ∈ calls → Wrote t.objects t.book i v → Wrote s.objects s.book i v

-- the step is of another key or another epoch, and of none of the calls
abbrev pub SparesRow : State → ℕ → List ℕ → List ℕ → Step → Type 0
SparesRow s d k calls (Propose v j u x y c) = (epoch_of v ≡ d → j ≡ k → ⊥) × ((i : ℕ) → i ∈ calls → c ≡ Some i → ⊥)
SparesRow s d k calls (Settle v) = epoch_of v ≡ d → s.objects.key v ≡ k → ⊥
SparesRow s d k calls (Note i j u e) = i ∈ calls → ⊥
SparesRow s d k calls (Answer i r) = i ∈ calls → ⊥
SparesRow s d k calls step = Unit {0}

-- the step is of another leader: of another epoch, and of a call that came to another peer
abbrev pub IsOfOthers : Ghosts → Leader → Step → Type 0
IsOfOthers g l (Propose v k u x y c) = (epoch_of v ≡ l.epoch → ⊥) × ((i : ℕ) → c ≡ Some i → g.home i ≡ l.seat.peer → ⊥)
IsOfOthers g l (Settle v) = epoch_of v ≡ l.epoch → ⊥
IsOfOthers g l (Note i k u d) = g.home i ≡ l.seat.peer → ⊥
IsOfOthers g l (Answer i r) = g.home i ≡ l.seat.peer → ⊥
IsOfOthers g l step = Unit {0}

-- rounds stay started for what they were, and calls stay with the peer to which they came
pub record GhostsGrow (s : State) (g h : Ghosts) : Type 0 where
  pub turn : (d r : ℕ) (t : Turn) → g.turn d r ≡ Some t → h.turn d r ≡ Some t
  pub home : (i : ℕ) → s.book.called i ≡ true → h.home i ≡ g.home i
  pub hash : h.hash ≡ g.hash

-- from s to t the call gets no write, no note and no answer
pub record CallSpared (s t : State) (i : ℕ) : Type 0 where
  pub unanswered : s.book.answered i ≡ false → t.book.answered i ≡ false
  pub unnoted : s.book.noted i ≡ false → t.book.noted i ≡ false
  pub unwritten : (v : ℕ) → Wrote t.objects t.book i v → Wrote s.objects s.book i v

-- the step is not of the call
abbrev pub SparesCall : ℕ → Step → Type 0
SparesCall i (Propose v k u x y c) = c ≡ Some i → ⊥
SparesCall i (Note j k u d) = j ≡ i → ⊥
SparesCall i (Answer j r) = j ≡ i → ⊥
SparesCall i step = Unit {0}

-- the step is of no row of the leader, and of no call that is owed an answer
pub record SparesLeader (s : State) (l : Leader) (e : Step) : Type 0 where
  pub rows : (k : List ℕ) → SparesRow s l.epoch k (calls_of (l.rows k)) e
  pub owed : (i : ℕ) → i ∈ calls_owed l.seat.owed → SparesCall i e

-- the call is in no row
abbrev pub IsDropped : Leader → ℕ → Type 0
IsDropped l i = (k : List ℕ) → i ∈ calls_of (l.rows k) → ⊥

-- the step is one of the leader p of epoch d: of its epoch, and of a call that came to it
abbrev pub IsOfLeader : Ghosts → ℕ → ℕ → Step → Type 0
IsOfLeader g d p (Propose v k u x y c) = (epoch_of v ≡ d) × ((i : ℕ) → c ≡ Some i → g.home i ≡ p)
IsOfLeader g d p (Settle v) = epoch_of v ≡ d
IsOfLeader g d p (Note i k u e) = g.home i ≡ p
IsOfLeader g d p (Answer i r) = g.home i ≡ p
IsOfLeader g d p step = Unit {0}

-- each of the steps is
abbrev pub AreOfLeader : Ghosts → ℕ → ℕ → List Step → Type 0
AreOfLeader g d p [] = Unit {0}
AreOfLeader g d p (e ∷ es) = IsOfLeader g d p e × AreOfLeader g d p es

-- a move of a leader: the guards of its steps are met, the steps are its own, its table holds after
-- them, and no round of another epoch is started
pub record IsLeaderMove (g : Ghosts) (s : State) (steps : List Step) (h : Ghosts) (l : Leader) : Type 0 where
  pub may : MayAll s steps
  pub holds : LeaderHolds h (after s steps) l
  pub own : AreOfLeader h l.epoch l.seat.peer steps
  pub ghosts : GhostsGrow s g h
  pub turns : (d r : ℕ) → (l.epoch ≡ d → ⊥) → h.turn d r ≡ g.turn d r

-- the leader, with a write of its next number out
abbrev pub put_write : Leader → List ℕ → Known → ℕ → List ℕ → Option (List ℕ) → Leader
put_write l k known i rest z = record l { seq = suc l.seq; rows = set_row l.rows k (row_of known (Writing i (next_version l) (record { stamp = version_of (next_version l); content = z }) (λ q. false)) rest) }

-- the step that proposes it
abbrev pub write_step : Leader → List ℕ → ℕ → Option (List ℕ) → ℕ → Step
write_step l k u z i = Propose (next_version l) k u (version_of (next_version l)) z (Some i)

-- the leader, with a rewrite of its next number out
abbrev pub put_rewrite : Leader → List ℕ → Known → ℕ → List ℕ → Object → Leader
put_rewrite l k known i rest x = record l { seq = suc l.seq; rows = set_row l.rows k (row_of known (Rewriting i (next_version l) x (λ q. false)) rest) }

-- the step that proposes it
abbrev pub rewrite_step : Leader → List ℕ → ℕ → Object → Step
rewrite_step l k u x = Propose (next_version l) k u x.stamp x.content None
