-- Guards of the abstract protocol, each without one of its parts.
use Rattle.std.specs.Prelude.{◌≡◌, ℕ, ◌<◌, ◌≤◌, Bool, true, false, List}
use Rattle.ens_base.specs.Views.{first_view}
use Rattle.quorums.specs.Quorums.{is_majority, is_quorum}
use Rattle.protocol_laws.specs.Ledger.{Ledger, Place, IsFact, MayJoin}
use Rattle.protocol_laws.specs.Objects.{Objects, IsHonest, IsSynced}

-- acceptance, also by a member of the new view of two
pub record MayAcceptUnsynced (l : Ledger) (p d : ℕ) : Type 0 where
  pub elected : l.elected d ≡ true
  pub stands : l.ballot p ≡ d
  pub newer : (l.fact p).epoch < d

-- the end of a sync, also after the peer's ballot has risen above the sync's
pub record MayEndLate (o : Objects) (p d : ℕ) : Type 0 where
  pub elected : o.ledger.elected d ≡ true
  pub started : d ≤ o.ledger.ballot p
  pub newer : (o.ledger.fact p).epoch < d
  pub honest : IsHonest o p
  pub synced : IsSynced o d (o.map p)

-- an election, also on a base above which the voters have accepted an epoch
pub record MayElectUntold (l : Ledger) (d : ℕ) (base : Place) : Type 0 where
  pub fresh : l.elected d ≡ false
  pub above : base.epoch < d
  pub listed : l.elected base.epoch ≡ true
  pub is_fact : IsFact l base
  pub voters : ℕ → Bool
  pub quorum : is_quorum voters (l.views base.epoch) ≡ true
  pub reached : (q : ℕ) → voters q ≡ true → d ≤ l.ballot q

-- an election by some voter, who need not be a quorum
pub record MayElectAlone (l : Ledger) (d : ℕ) (base : Place) : Type 0 where
  pub fresh : l.elected d ≡ false
  pub above : base.epoch < d
  pub listed : l.elected base.epoch ≡ true
  pub is_fact : IsFact l base
  pub voter : ℕ
  pub reached : d ≤ l.ballot voter
  pub told : (a : ℕ) → l.accepted a voter ≡ true → a < d → a ≤ base.epoch

-- the end of a sync whose sources are a majority of the new view
pub record MayEndFromNew (o : Objects) (p d : ℕ) : Type 0 where
  pub join : MayJoin o.ledger p d
  pub honest : IsHonest o p
  pub sources : ℕ → Bool
  pub majority : is_majority sources (first_view (o.ledger.views d)) ≡ true
  pub reached : (q : ℕ) → sources q ≡ true → d ≤ o.ledger.ballot q
  pub given : (q : ℕ) (k : List ℕ) → sources q ≡ true → o.floor q d k ≤ o.map p k
