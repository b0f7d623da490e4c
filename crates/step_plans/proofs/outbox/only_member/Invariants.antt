use Rattle.std.proofs.Common.{◌≡◌, ℕ, ◌<◌, false}
use Rattle.ens_base.specs.View.{IsPeer}
use Rattle.ens_base.specs.PeerSet.{holds}
use Rattle.step_plans.proofs.outbox.only_member.Given as goal

abbrev pub invariant-loop-number : goal.invariant-loop-number
invariant-loop-number l = (p : ℕ) → IsPeer p → p < l.number → holds l.set p ≡ false
