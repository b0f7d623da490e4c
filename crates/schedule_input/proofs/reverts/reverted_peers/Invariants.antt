use Rattle.std.proofs.Common.{◌≡◌, ℕ, take}
use Rattle.ens_base.specs.PeerSet.{holds}
use Rattle.schedule_input.specs.Premise.{is_reverted}
use Rattle.schedule_input.proofs.reverts.reverted_peers.Given as goal

abbrev pub invariant-loop-event : goal.invariant-loop-event
invariant-loop-event l = (p : ℕ) → holds l.reverted p ≡ is_reverted (take l.event-index l.events) p
