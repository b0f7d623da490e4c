use Rattle.register_checker.proofs.Distinct.{SeenAll}
use Rattle.register_checker.proofs.places.are_distinct.Given as goal

abbrev pub invariant-loop-id : goal.invariant-loop-id
invariant-loop-id l = SeenAll l.seen.keys l.ids l.id-index
