-- What the state of a peer has that no message of a calm run tells: the seal of its saved fact, which each
-- write of a peer with a seal renews, and its mode.
use Rattle.std.proofs.Common.{ℕ, List, Option}
use Rattle.peer_state.specs.declared.state.Mode.{Mode}
use Rattle.peer_state.specs.declared.state.State.{State}

pub record Keeping : Type 0 where
  pub seal : Option (List ℕ)
  pub mode : Mode

-- the state of a peer, for each seal and each mode
abbrev pub Standing : Type 0
Standing = Keeping → State
