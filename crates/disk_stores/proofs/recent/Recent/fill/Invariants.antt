use Rattle.std.proofs.Common.{◌-◌, length}
use Rattle.environment.specs.Maps.{Entries}
use Rattle.disk_stores.specs.Recents.{Remembers}
use Rattle.disk_stores.proofs.recent.Recent.fill.Given as goal

abbrev pub invariant-loop-self : goal.invariant-loop-self
invariant-loop-self l = (es : Entries) → Remembers l.initial.self.slots.items es → Remembers l.self.slots.items es

abbrev pub decreases-loop-self : goal.decreases-loop-self
decreases-loop-self l = 4096 - length l.self.slots.items
