-- Facts as peers keep and send them, and what they say of the ledger.
use Rattle.std.specs.Prelude.{◌≡◌, ℕ, ◌/◌, ◌^◌, ◌<◌, ◌≤◌, Bool, true, List, ◌==◌, Option, None, Some, if◌then◌else◌}
use Rattle.ens_base.specs.Lists.{◌∈◌}
use Rattle.quorums.specs.Quorums.{is_majority}
use Rattle.protocol_laws.specs.Ledger.{Place, Change, Ledger, IsFact}

-- a fact as peers keep and send it; its leader is the proposer of its epoch
pub record Fact : Type 0 where
  pub ballot : ℕ
  pub epoch : ℕ
  pub seq : ℕ
  pub views : List (List ℕ)
  pub change : Option Change

abbrev pub place_of : Fact → Place
place_of f = record { epoch = f.epoch; seq = f.seq }

-- what the lines of a schedule say: whether every start has sealing on, the firm peers, which are all of
-- them then, and else those in no revert line, and the views that may vote, which are those of the opening
-- and of change lines
pub record Lines : Type 0 where
  pub sealed : Bool
  pub firm : ℕ → Bool
  pub voting : List (List ℕ)

-- the premise on trees: of each view that may vote more than half are firm
abbrev pub AreFirm : Lines → Type 0
AreFirm g = (v : List ℕ) → v ∈ g.voting → is_majority g.firm v ≡ true

-- the change of the fact at this place
abbrev pub change_at : Ledger → Place → Option Change
change_at l f = if f.seq == 2 then Some (l.change f.epoch) else None

-- the fact is in the ledger; its ballot may be greater than its epoch
pub record IsTrue (l : Ledger) (f : Fact) : Type 0 where
  pub below : f.epoch ≤ f.ballot
  pub elected : l.elected f.epoch ≡ true
  pub is_fact : IsFact l (place_of f)
  pub views : f.views ≡ l.views f.epoch
  pub change : f.change ≡ change_at l (place_of f)

-- the fact with which an elected epoch began
pub record IsFirst (l : Ledger) (f : Fact) : Type 0 where
  pub known : IsTrue l f
  pub seq : f.seq ≡ 1
  pub later : 0 < f.epoch
  pub own_ballot : f.ballot ≡ f.epoch

-- the saved fact of peer p
pub record IsSaved (l : Ledger) (p : ℕ) (f : Fact) : Type 0 where
  pub known : IsTrue l f
  pub ballot : l.ballot p ≡ f.ballot
  pub place : l.fact p ≡ place_of f

-- the peer has reached the ballot, and accepted no epoch above b and below the ballot
pub record HasPromised (l : Ledger) (q d b : ℕ) : Type 0 where
  pub stands : d ≤ l.ballot q
  pub told : (a : ℕ) → l.accepted a q ≡ true → a < d → a ≤ b

-- the count of a ballot
abbrev pub count_of : ℕ → ℕ
count_of d = d / 2 ^ 32
