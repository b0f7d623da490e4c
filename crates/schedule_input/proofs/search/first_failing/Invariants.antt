use Rattle.std.proofs.Common.{◌≡◌, None, take}
use Rattle.std.specs.Prelude.{find}
use Rattle.ens_base.specs.PeerSet.{holds}
use Rattle.schedule_input.specs.Premise.{changed_views, fails}
use Rattle.schedule_input.proofs.search.first_failing.Given as goal

abbrev pub invariant-loop-event : goal.invariant-loop-event
invariant-loop-event l = find (fails (holds l.reverted)) (changed_views (take l.event-index l.events)) ≡ None
