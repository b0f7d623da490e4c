-- The laws of elections in each state of a run.
use Rattle.std.specs.Prelude.{◌≡◌, ℕ, ◌+◌, ◌<◌, ◌≤◌, Bool, true, false, ◌||◌, nat_le, ◌⊎◌, List, [], ◌∷◌, ◌==◌, cond}
use Rattle.quorums.specs.Quorums.{is_majority, is_quorum, SharesView, MissesEveryQuorum}
use Rattle.protocol_laws.specs.Ledger.{Ledger, IsAtMost, changed_views, is_established}
use Rattle.protocol_laws.specs.Protocol.{Step, Elect}

-- the peer accepted the epoch, or still may
abbrev pub may_accept : Ledger → ℕ → ℕ → Bool
may_accept l a q = nat_le (l.ballot q) a || l.accepted a q

-- no quorum can accept the epoch any more
abbrev pub IsClosed : Ledger → ℕ → Type 0
IsClosed l a = is_quorum (may_accept l a) (l.views a) ≡ false

-- a quorum accepted the epoch, or still may
abbrev pub IsOpen : Ledger → ℕ → Type 0
IsOpen l a = is_quorum (may_accept l a) (l.views a) ≡ true

-- a peer accepts at its ballot or below; its last fact is the latest that it accepted
pub record Ballots (l : Ledger) : Type 0 where
  pub kept : (q : ℕ) → (l.fact q).epoch ≤ l.ballot q
  pub accepted : (q d : ℕ) → l.accepted d q ≡ true → d ≤ (l.fact q).epoch
  pub last : (q : ℕ) → l.accepted (l.fact q).epoch q ≡ true
  pub last_change : (q : ℕ) → (l.fact q).seq ≡ 2 → l.adopted (l.fact q).epoch q ≡ true

-- peers accept only elected epochs, and only changes of established ones
pub record Facts (l : Ledger) : Type 0 where
  pub first : (q d : ℕ) → l.accepted d q ≡ true → l.elected d ≡ true
  pub second : (q d : ℕ) → l.adopted d q ≡ true → (l.changed d ≡ true) × (l.accepted d q ≡ true)
  pub established : (d : ℕ) → l.changed d ≡ true → is_established l d ≡ true

-- the base of an elected epoch is at least the first fact of each lower elected epoch that is not
-- closed
abbrev pub Completeness : Ledger → Type 0
Completeness l = (d a : ℕ) → l.elected d ≡ true → l.elected a ≡ true → 0 < a → a < d → IsAtMost (record { epoch = a; seq = 1 }) (l.base d) ⊎ IsClosed l a

-- b is the greatest elected epoch below d that is not closed
pub record IsLastOpen (l : Ledger) (d b : ℕ) : Type 0 where
  pub below : b < d
  pub elected : l.elected b ≡ true
  pub still_open : IsOpen l b
  pub last : (a : ℕ) → b < a → a < d → l.elected a ≡ true → IsClosed l a

-- d has the views of b, or those to which b's leader changed them
abbrev pub Follows : Ledger → ℕ → ℕ → Type 0
Follows l d b = (l.views d ≡ l.views b) ⊎ ((l.changed b ≡ true) × (l.views d ≡ changed_views (l.change b) (l.views b)))

-- the views of an epoch come from the last open epoch below it, and share a view with that one's
pub record HasList (l : Ledger) (d : ℕ) : Type 0 where
  pub from : ℕ
  pub is_last : IsLastOpen l d from
  pub follows : Follows l d from
  pub shares : SharesView (l.views d) (l.views from)

-- each elected epoch has its views from the last open one below it
abbrev pub Lists : Ledger → Type 0
Lists l = (d : ℕ) → 0 < d → l.elected d ≡ true → HasList l d

-- a quorum of the epoch's views with ballots above it
pub record IsBlocked (l : Ledger) (a : ℕ) : Type 0 where
  pub peers : ℕ → Bool
  pub quorum : is_quorum peers (l.views a) ≡ true
  pub above : (q : ℕ) → peers q ≡ true → a < l.ballot q

-- an open epoch below an elected one has been left by a quorum
abbrev pub Blocked : Ledger → Type 0
Blocked l = (d a : ℕ) → l.elected d ≡ true → l.elected a ≡ true → a < d → IsOpen l a → IsBlocked l a

-- in an established joint epoch a majority of the new view accepted by ending a sync
abbrev pub Joined : Ledger → Type 0
Joined l = (d : ℕ) (view old : List ℕ) → is_established l d ≡ true → l.views d ≡ view ∷ old ∷ [] → is_majority (l.synced d) view ≡ true

-- closed, stated differently: each quorum has a member whose ballot is above the epoch and which
-- never accepted it
abbrev pub ClosedByQuorums : Ledger → Type 0
ClosedByQuorums l = (a : ℕ) → IsClosed l a → MissesEveryQuorum (may_accept l a) (l.views a)

-- a closed epoch is not established, and since it stays closed, it never will be
abbrev pub ClosedIsNotEstablished : Ledger → Type 0
ClosedIsNotEstablished l = (a : ℕ) → IsClosed l a → is_established l a ≡ false

-- an established epoch is the base of each greater elected epoch, or below the base
abbrev pub EstablishedIsKept : Ledger → Type 0
EstablishedIsKept l = (d a : ℕ) → l.elected d ≡ true → l.elected a ≡ true → a < d → is_established l a ≡ true → a ≤ (l.base d).epoch

-- the laws of elections in a state
pub record ElectionsAreSafe (l : Ledger) : Type 0 where
  pub ballots : Ballots l
  pub facts : Facts l
  pub completeness : Completeness l
  pub blocked : Blocked l
  pub joined : Joined l
  pub closed : ClosedByQuorums l
  pub not_established : ClosedIsNotEstablished l
  pub kept : EstablishedIsKept l

-- how many of the steps elected the epoch
abbrev pub times_elected : ℕ → List Step → ℕ
times_elected d [] = 0
times_elected d (Elect e base ∷ steps) = cond (d == e) 1 0 + times_elected d steps
times_elected d (step ∷ steps) = times_elected d steps

-- what is preserved from one state to the next: ballots do not fall; an elected epoch keeps its
-- base and its views; what was accepted stays accepted; and a peer that reached a ballot accepts no
-- lower epoch any more
pub record Stays (l m : Ledger) : Type 0 where
  pub ballot : (q : ℕ) → l.ballot q ≤ m.ballot q
  pub elected : (d : ℕ) → l.elected d ≡ true → m.elected d ≡ true
  pub base : (d : ℕ) → l.elected d ≡ true → m.base d ≡ l.base d
  pub views : (d : ℕ) → l.elected d ≡ true → m.views d ≡ l.views d
  pub changed : (d : ℕ) → l.changed d ≡ true → (m.changed d ≡ true) × (m.change d ≡ l.change d)
  pub accepted : (d q : ℕ) → l.accepted d q ≡ true → m.accepted d q ≡ true
  pub adopted : (d q : ℕ) → l.adopted d q ≡ true → m.adopted d q ≡ true
  pub synced : (d q : ℕ) → l.synced d q ≡ true → m.synced d q ≡ true
  pub passed : (d q : ℕ) → d < l.ballot q → m.accepted d q ≡ true → l.accepted d q ≡ true
  pub established : (d : ℕ) → l.elected d ≡ true → is_established l d ≡ true → is_established m d ≡ true
  pub closed : (d : ℕ) → l.elected d ≡ true → IsClosed l d → IsClosed m d
