-- Sets of peers, as the rules use them. A set is one flag for each number from 0 to 31.
use Rattle.std.specs.Prelude.{ℕ, Bool, true, false, not, ◌&&◌, ◌||◌, ◌==◌, List, replicate, slice_set}
use Rattle.wire_frames.specs.EnsBase.{holds}
use Rattle.quorums.specs.Quorums.{is_member}
pub use Rattle.quorums.specs.Members.{those, members}

-- the empty set
abbrev pub nobody : List Bool
nobody = replicate 32 false

-- the set with this peer added
abbrev pub joined : ℕ → List Bool → List Bool
joined peer set = slice_set set peer true

-- the set of this peer alone
abbrev pub alone : ℕ → List Bool
alone peer = joined peer nobody

-- the members of the views that are not in the set, except `me`
abbrev pub others_outside : ℕ → List Bool → List (List ℕ) → List Bool
others_outside me set views = those (λ p. is_member views p && not (p == me) && not (holds set p))

-- the union of the set and the members of the views
abbrev pub with_members : List Bool → List (List ℕ) → List Bool
with_members set views = those (λ p. holds set p || is_member views p)

-- the set without `me`
abbrev pub others_of : ℕ → List Bool → List Bool
others_of me set = those (λ p. holds set p && not (p == me))
