use Rattle.std.proofs.Common.{arith, ◌≡◌, ◌-◌, Some, slice_get}
use Rattle.std.proofs.lemmas.Grind.{common_steps}
use Rattle.std.proofs.lemmas.Option.{slice_get_read}
use Rattle.std.specs.BTreeMap.{get}
use Rattle.std.specs.Ordering.{nat_cmp}
use Rattle.root.proofs.Places.{places_before}
use Rattle.root.proofs.opening.places_of.Goals as goal

pub loop-place-preserved-in_ok-insert : goal.loop-place-preserved-in_ok-insert
loop-place-preserved-in_ok-insert c =
    let here : slice_get c.as_slice-events.result.now (c.loop-place.place - 1) ≡ Some c.index-events-place.result = grind (arith, common_steps, slice_get_read) in
    record {
      found = λ id. places_before c.as_slice-events.result.now c.loop-place.place c.index-events-place.result c.loop-place-test.true c.loop-place.invariant.within here c.in-Some.id c.in-Some.ensures id (get nat_cmp c.loop-place.places id) (get nat_cmp c.insert.new.self id) (c.loop-place.invariant.found id) (c.in_ok-insert.ensures.updates.0 id);
      within = omega (arith, c.loop-place.invariant.within);
    }
