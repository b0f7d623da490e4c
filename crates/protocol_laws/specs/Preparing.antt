-- Preparing a ballot: its proposer raises its own ballot to it.
use Rattle.std.specs.Prelude.{ℕ, ◌+◌, ◌%◌, ◌^◌, Bool, false, ◌&&◌, ◌==◌, nat_lt, cond, List, [], ◌∷◌}
use Rattle.protocol_laws.specs.Ledger.{Ledger}
use Rattle.protocol_laws.specs.Protocol.{Step, Raise, state_after}

-- the peer that the number of an epoch names
abbrev pub proposer_of : ℕ → ℕ
proposer_of d = d % 2 ^ 32

-- the step prepares the ballot: its proposer raises its own ballot to it, from below
abbrev pub prepares : Ledger → Step → ℕ → Bool
prepares l (Raise p e) d = (d == e) && (p == proposer_of d) && nat_lt (l.ballot p) d
prepares l step d = false

-- how many of the steps, given newest first, prepare the ballot
abbrev pub times_prepared : ℕ → List ℕ → List Step → ℕ
times_prepared d view [] = 0
times_prepared d view (step ∷ steps) = cond (prepares (state_after view steps).objects.ledger step d) (times_prepared d view steps + 1) (times_prepared d view steps)
