use Rattle.std.proofs.Common.{◌≡◌, drop}
use Rattle.history_record.specs.Clauses.{first_amiss_in}
use Rattle.history_record.proofs.amiss.first_amiss.Given as goal

abbrev pub invariant-loop-id : goal.invariant-loop-id
invariant-loop-id l = first_amiss_in l.answers l.order (drop l.id-index l.ids) ≡ first_amiss_in l.answers l.order l.ids
