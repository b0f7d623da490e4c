use Rattle.std.proofs.Common.{◌≡◌, ◌++◌}
use Rattle.ens_base.specs.PeerSet.{holds}
use Rattle.step_plans.specs.Outboxes.{Grows}
use Rattle.step_plans.specs.Sends.{posted}
use Rattle.step_plans.proofs.outbox.Outbox.send_copies.Given as goal

abbrev pub invariant-loop-below : goal.invariant-loop-below
invariant-loop-below l = (l.self.sends.items ≡ l.initial.self.sends.items ++ posted (holds l.to) (λ p. l.message) l.below)
    × (l.self.answers ≡ l.initial.self.answers) × (l.self.notes ≡ l.initial.self.notes) × (l.self.changes ≡ l.initial.self.changes) × Grows l.initial.self l.self
