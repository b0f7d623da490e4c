-- The orders of epochs and facts as tests, and which fact a peer may accept.
use Rattle.std.specs.Prelude.{ℕ, Bool, true, false, not, ◌&&◌, ◌||◌, ◌==◌, nat_lt, List, ◌∷◌}
use Rattle.wire_frames.specs.EnsBase.{is_in, Epoch, first_view}
use Rattle.wire_frames.specs.StoredFormats.{Fact}

-- whether the first epoch is below the second: by count, then by proposer
abbrev pub is_below : Epoch → Epoch → Bool
is_below a b = nat_lt a.count b.count || (a.count == b.count && nat_lt a.proposer b.proposer)

-- whether two epochs are equal
abbrev pub is_same : Epoch → Epoch → Bool
is_same a b = a.count == b.count && a.proposer == b.proposer

-- whether the first fact is newer than the second: by epoch, then by sequence number
abbrev pub is_newer : Fact → Fact → Bool
is_newer f g = is_below g.epoch f.epoch || (is_same g.epoch f.epoch && nat_lt g.seq f.seq)

-- whether there are two views
abbrev pub is_joint : List (List ℕ) → Bool
is_joint (new ∷ old ∷ rest) = true
is_joint views = false

-- a peer may accept a fact if it trusts its tree, but not as a member of the new view of a joint
-- epoch
abbrev pub may_accept : Bool → ℕ → Fact → Bool
may_accept trusted me new = trusted && not (is_joint new.views && is_in (first_view new.views) me)
