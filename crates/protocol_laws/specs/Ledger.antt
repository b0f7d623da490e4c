-- The ledger of an ensemble: which epochs were elected, which base each follows, and what each peer
-- promised and accepted. An epoch is a number; the opening epoch is 0.
use Rattle.std.specs.Prelude.{◌≡◌, ℕ, ◌<◌, ◌≤◌, Bool, true, false, ◌&&◌, ◌||◌, List, [], ◌∷◌, ◌==◌, ◌⊎◌, if◌then◌else◌}
use Rattle.ens_base.specs.Lists.{◌∈◌}
use Rattle.quorums.specs.Quorums.{is_quorum}

-- a change of the views by a leader: to a new view beside the old one, or to the new one alone
pub data Change : Type 0 where
  Add : (view : List ℕ) → Change
  Drop : Change

-- the place of a fact among all facts: its epoch, and its sequence number: 0 for the opening fact
-- of epoch 0, 1 for a new epoch, 2 for a change of its views
pub record Place : Type 0 where
  pub epoch : ℕ
  pub seq : ℕ

-- the place is no later than the other
abbrev pub IsAtMost : Place → Place → Type 0
IsAtMost f g = (f.epoch < g.epoch) ⊎ ((f.epoch ≡ g.epoch) × (f.seq ≤ g.seq))

-- what was elected, changed, promised and accepted
pub record Ledger : Type 0 where
  pub opening : List ℕ  -- the view of the opening
  pub ballot : ℕ → ℕ  -- for each peer, the greatest epoch that it promised
  pub fact : ℕ → Place  -- for each peer, the place of the fact that it accepted last
  pub elected : ℕ → Bool  -- for each epoch; the opening counts as elected
  pub base : ℕ → Place  -- for each elected epoch, the fact that it follows
  pub views : ℕ → List (List ℕ)  -- for each elected epoch, its one or two views, the new one first
  pub changed : ℕ → Bool  -- for each epoch, whether its leader changed the views
  pub change : ℕ → Change  -- for each changed epoch
  pub accepted : ℕ → ℕ → Bool  -- accepted d q: peer q accepted the first fact of epoch d; all count as having accepted the opening
  pub adopted : ℕ → ℕ → Bool  -- adopted d q: peer q accepted the change of epoch d
  pub synced : ℕ → ℕ → Bool  -- synced d q: peer q accepted the first fact of epoch d by ending a sync

-- f, with x at p
abbrev pub put : {A : Type 0} → (ℕ → A) → ℕ → A → ℕ → A
put f p x q = if p == q then x else f q

-- the relation, which also holds of d and p
abbrev pub mark : (ℕ → ℕ → Bool) → ℕ → ℕ → ℕ → ℕ → Bool
mark r d p e q = ((d == e) && (p == q)) || r e q

-- the ledger before the first step
abbrev pub opening_ledger : List ℕ → Ledger
opening_ledger view = record {
  opening = view;
  ballot = λ q. 0;
  fact = λ q. record { epoch = 0; seq = 0 };
  elected = λ d. d == 0;
  base = λ d. record { epoch = 0; seq = 0 };
  views = λ d. view ∷ [];
  changed = λ d. false;
  change = λ d. Drop;
  accepted = λ d q. d == 0;
  adopted = λ d q. false;
  synced = λ d q. false;
}

-- the views after a change: Add puts the new view in front of the only one, Drop leaves the new one
-- of two, and any other change leaves the views unchanged
abbrev pub changed_views : Change → List (List ℕ) → List (List ℕ)
changed_views (Add view) (old ∷ []) = view ∷ old ∷ []
changed_views (Add view) views = views
changed_views Drop (view ∷ old ∷ []) = view ∷ []
changed_views Drop views = views

-- the views of an epoch that follows this fact
abbrev pub next_views : Ledger → Place → List (List ℕ)
next_views l f = if f.seq == 2 then changed_views (l.change f.epoch) (l.views f.epoch) else l.views f.epoch

-- there are two views, and the peer is in the new one
abbrev pub IsNew : List (List ℕ) → ℕ → Type 0
IsNew [] q = ⊥
IsNew (view ∷ []) q = ⊥
IsNew (view ∷ old ∷ rest) q = q ∈ view

-- a quorum of the epoch's views accepted it
abbrev pub is_established : Ledger → ℕ → Bool
is_established l d = is_quorum (l.accepted d) (l.views d)

-- the fact exists: the opening, an elected epoch, or its change
abbrev pub IsFact : Ledger → Place → Type 0
IsFact l f = ((f.epoch ≡ 0) × (f.seq ≡ 0)) ⊎ (((l.elected f.epoch ≡ true) × (f.seq ≡ 1)) ⊎ ((l.changed f.epoch ≡ true) × (f.seq ≡ 2)))

-- ## Steps

-- the peer promises the ballot, and will accept no lower epoch
abbrev pub raise : Ledger → ℕ → ℕ → Ledger
raise l p d = record l { ballot = put l.ballot p d }

-- a quorum of the base's views promised the epoch, which follows the base
abbrev pub elect : Ledger → ℕ → Place → Ledger
elect l d b = record l { elected = put l.elected d true; base = put l.base d b; views = put l.views d (next_views l b) }

-- the peer accepts the first fact of the epoch
abbrev pub accept : Ledger → ℕ → ℕ → Ledger
accept l p d = record l { fact = put l.fact p (record { epoch = d; seq = 1 }); accepted = mark l.accepted d p }

-- the leader of the epoch changes the views
abbrev pub commit : Ledger → ℕ → Change → Ledger
commit l d c = record l { changed = put l.changed d true; change = put l.change d c }

-- the peer accepts the change
abbrev pub adopt : Ledger → ℕ → ℕ → Ledger
adopt l p d = record l { fact = put l.fact p (record { epoch = d; seq = 2 }); adopted = mark l.adopted d p }

-- the peer accepts the first fact of the epoch by ending a sync
abbrev pub join : Ledger → ℕ → ℕ → Ledger
join l p d = record l { fact = put l.fact p (record { epoch = d; seq = 1 }); accepted = mark l.accepted d p; synced = mark l.synced d p }

-- ## Guards

-- the voters are a quorum of the base's views, their ballots are at the epoch or above, and they
-- accepted nothing between the base and the epoch
pub record MayElect (l : Ledger) (d : ℕ) (base : Place) : Type 0 where
  pub fresh : l.elected d ≡ false
  pub above : base.epoch < d
  pub listed : l.elected base.epoch ≡ true
  pub is_fact : IsFact l base
  pub voters : ℕ → Bool
  pub quorum : is_quorum voters (l.views base.epoch) ≡ true
  pub reached : (q : ℕ) → voters q ≡ true → d ≤ l.ballot q
  pub told : (q a : ℕ) → voters q ≡ true → l.accepted a q ≡ true → a < d → a ≤ base.epoch

-- a peer accepts at its ballot, and above what it accepted; a member of the new view of two may not
-- accept in this way
pub record MayAccept (l : Ledger) (p d : ℕ) : Type 0 where
  pub elected : l.elected d ≡ true
  pub stands : l.ballot p ≡ d
  pub newer : (l.fact p).epoch < d
  pub old : ¬ IsNew (l.views d) p

-- a leader changes the views once, in an established epoch
pub record MayCommit (l : Ledger) (d : ℕ) : Type 0 where
  pub led : 0 < d
  pub elected : l.elected d ≡ true
  pub established : is_established l d ≡ true
  pub fresh : l.changed d ≡ false

-- a peer accepts a change if it is at that ballot and accepted the epoch
pub record MayAdopt (l : Ledger) (p d : ℕ) : Type 0 where
  pub changed : l.changed d ≡ true
  pub stands : l.ballot p ≡ d
  pub first : l.accepted d p ≡ true

-- a sync ends at the peer's ballot, above what it accepted
pub record MayJoin (l : Ledger) (p d : ℕ) : Type 0 where
  pub elected : l.elected d ≡ true
  pub stands : l.ballot p ≡ d
  pub newer : (l.fact p).epoch < d
