use Rattle.std.proofs.Common.{arith, ◌≡◌, Some, slice_get}
use Rattle.std.proofs.lemmas.Grind.{common_steps}
use Rattle.std.proofs.lemmas.Option.{slice_get_read}
use Rattle.root.proofs.Places.{keys_next}
use Rattle.root.proofs.histories.routed_keys.Goals as goal

pub loop-event-preserved : goal.loop-event-preserved
loop-event-preserved c =
    let here : slice_get c.as_slice-event-items.result.now c.loop-event.event-index ≡ Some c.event-item.result = grind (arith, common_steps, slice_get_read) in
    keys_next c.as_slice-event-items.result.now c.loop-event.event-index c.event-item.result c.loop-event.keys.items c.push_key.new.keys.items here c.loop-event.invariant c.in_ok-push_key.ensures
