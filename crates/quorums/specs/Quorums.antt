-- Majorities and quorums. A view is the list of its members. A set of peers is a test of
-- membership.
use Rattle.std.specs.Prelude.{◌≡◌, ℕ, ◌*◌, Bool, true, false, ◌&&◌, ◌||◌, if◌then◌else◌, List, [], ◌∷◌, ◌⊎◌, length, count_by, nat_lt, slice_set, All, Contains}
use Rattle.ens_base.specs.Lists.{◌∈◌, is_in}

-- more than half of the members of the view are in the set
abbrev pub is_majority : (ℕ → Bool) → List ℕ → Bool
is_majority peers view = nat_lt (length view) (2 * count_by peers view)

-- the set has a majority of each view
abbrev pub is_quorum : (ℕ → Bool) → List (List ℕ) → Bool
is_quorum peers [] = true
is_quorum peers (view ∷ views) = is_majority peers view && is_quorum peers views

-- two sets share a member of the view
pub record Meet (left right : ℕ → Bool) (view : List ℕ) : Type 0 where
  pub peer : ℕ
  pub member : peer ∈ view
  pub in_left : left peer ≡ true
  pub in_right : right peer ≡ true

-- two lists of views share a view
pub record SharesView (left right : List (List ℕ)) : Type 0 where
  pub view : List ℕ
  pub in_left : view ∈ left
  pub in_right : view ∈ right

-- quorums of two lists share a member of a view in both lists
pub record QuorumsMeet (left right : ℕ → Bool) (views others : List (List ℕ)) : Type 0 where
  pub view : List ℕ
  pub in_views : view ∈ views
  pub in_others : view ∈ others
  pub meet : Meet left right view

-- the first set has a member of some view that is not in the second set
pub record HasOutside (first second : ℕ → Bool) (views : List (List ℕ)) : Type 0 where
  pub peer : ℕ
  pub view : List ℕ
  pub listed : view ∈ views
  pub member : peer ∈ view
  pub in_first : first peer ≡ true
  pub outside : second peer ≡ false

-- every quorum of the views has a member that is not in the set
abbrev pub MissesEveryQuorum : (ℕ → Bool) → List (List ℕ) → Type 0
MissesEveryQuorum peers views = (quorum : ℕ → Bool) → is_quorum quorum views ≡ true → HasOutside quorum peers views

-- the peer is a member of some view
abbrev pub IsMember : List (List ℕ) → ℕ → Type 0
IsMember [] peer = ⊥
IsMember (view ∷ views) peer = Contains view peer ⊎ IsMember views peer

-- all members of the view are in the set
abbrev pub HasAll : (ℕ → Bool) → List ℕ → Type 0
HasAll peers view = All (λ m. peers m ≡ true) view

-- all members of all views are in the set
abbrev pub HasEvery : (ℕ → Bool) → List (List ℕ) → Type 0
HasEvery peers [] = Unit {0}
HasEvery peers (view ∷ views) = HasAll peers view × HasEvery peers views

-- whether the peer is a member of some view
abbrev pub is_member : List (List ℕ) → ℕ → Bool
is_member [] peer = false
is_member (view ∷ views) peer = is_in view peer || is_member views peer

-- whether all members of the view are in the set
abbrev pub has_all : (ℕ → Bool) → List ℕ → Bool
has_all peers [] = true
has_all peers (member ∷ view) = peers member && has_all peers view

-- whether all members of all views are in the set
abbrev pub has_every : (ℕ → Bool) → List (List ℕ) → Bool
has_every peers [] = true
has_every peers (view ∷ views) = has_all peers view && has_every peers views

-- the votes with that of this peer, which counts if the peer is a member of some view
abbrev pub voted : List (List ℕ) → ℕ → List Bool → List Bool
voted views peer votes = if is_member views peer then slice_set votes peer true else votes
