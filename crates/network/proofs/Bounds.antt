-- The bound of the numbers of senders and receivers.
use Rattle.std.proofs.Common.{◌≤◌, arith, ℕ, List, [], ◌∷◌, ◌++◌}
use Rattle.std.specs.Prelude.{All}
use Rattle.std.proofs.lemmas.List.Elements.{All-push, All-weaker}
use Rattle.wire_frames.specs.declared.frame.Frame.{Frame}
use Rattle.network.specs.Representation.{IsBelow}

still_below : (bound more : ℕ) → bound ≤ more → (f : Frame) → IsBelow bound f → IsBelow more f
still_below bound more le f below = (omega (arith, le, below.0), omega (arith, le, below.1))

-- a bound of more messages
pub below_more : (sent : List Frame) (f : Frame) (bound more : ℕ) → All (IsBelow bound) sent → bound ≤ more → IsBelow more f → All (IsBelow more) (sent ++ f ∷ [])
below_more sent f bound more all le below = All-push (IsBelow more) sent f (All-weaker (IsBelow bound) (IsBelow more) (still_below bound more le) sent all) below
