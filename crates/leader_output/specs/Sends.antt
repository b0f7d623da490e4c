-- Messages to all members except the leader.
use Rattle.std.specs.Prelude.{ℕ, zero, suc, ◌+◌, ◌==◌, ◌&&◌, not, Bool, if◌then◌else◌, List, [], ◌∷◌, ◌++◌}
use Rattle.object_commands.specs.EnsBase.{holds}
use Rattle.quorums.specs.Quorums.{is_member}
use Rattle.phase_rows.specs.WireFrames.{Message}
use Rattle.leader_output.specs.declared.out.LeadOut.{LeadOut}
use Rattle.leader_output.specs.declared.out.Outgoing.{Outgoing}

-- whether the peer is a member of the views other than `me`
abbrev pub is_other : ℕ → List (List ℕ) → ℕ → Bool
is_other me views p = is_member views p && not (p == me)

-- whether the peer is in the set, and is not `me`
abbrev pub is_other_in : ℕ → List Bool → ℕ → Bool
is_other_in me set p = holds set p && not (p == me)

-- the message to each peer from 1 up to this number that passes the test, in ascending order
unfoldable pub sent_up_to : (ℕ → Bool) → Message → ℕ → List Outgoing
sent_up_to test message zero = []
sent_up_to test message (suc n) = sent_up_to test message n ++ (if test (n + 1) then record { to = n + 1; message = message } ∷ [] else [])

-- the answer with the message to each other member of the views, in ascending order
abbrev pub tells_all : ℕ → List (List ℕ) → Message → LeadOut → LeadOut
tells_all me views message o = record o { sends = o.sends ++ sent_up_to (is_other me views) message 31 }
