use Rattle.std.proofs.Common.{◌≡◌, take}
use Rattle.root_laws.specs.Text.{keys_in}
use Rattle.root.proofs.histories.routed_keys.Given as goal

abbrev pub invariant-loop-event : goal.invariant-loop-event
invariant-loop-event l = l.keys.items ≡ keys_in (take l.event-index l.event-items)
