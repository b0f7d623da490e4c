-- Messages to several peers.
use Rattle.std.specs.Prelude.{ℕ, zero, suc, ◌+◌, Bool, if◌then◌else◌, List, [], ◌∷◌, ◌++◌, Option, Some, None}
use Rattle.ens_base.specs.PeerSet.{holds}
use Rattle.phase_rows.specs.WireFrames.{Message}
use Rattle.leader_output.specs.declared.out.Outgoing.{Outgoing}

-- to each peer from 1 up to this number that passes the test, in ascending order, its message
unfoldable pub posted : (ℕ → Bool) → (ℕ → Message) → ℕ → List Outgoing
posted test word zero = []
posted test word (suc n) = posted test word n ++ (if test (n + 1) then record { to = n + 1; message = word (n + 1) } ∷ [] else [])

-- the message, if there is one, to each peer of the set, in ascending order
abbrev pub posted_to : List Bool → Option Message → List Outgoing
posted_to set None = []
posted_to set (Some message) = posted (holds set) (λ p. message) 31
