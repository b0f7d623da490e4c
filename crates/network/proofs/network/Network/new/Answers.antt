use Rattle.network.proofs.Queued.{nothing_kept}
use Rattle.network.proofs.network.Network.new.Goals as goal

pub invariant_of-result : goal.invariant_of-result
invariant_of-result c = nothing_kept c.new-2.result.items c.new-3.result.items c.in_ok-lines.lines c.new-2.ensures.items c.new-3.ensures.items c.in_ok-lines.ensures
