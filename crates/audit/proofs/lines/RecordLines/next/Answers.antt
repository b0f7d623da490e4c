use Rattle.audit.proofs.NextLine.{few_ready, next_from_ready}
use Rattle.audit.proofs.lines.RecordLines.next.Goals as goal

pub returns-in-Some-clause-next : goal.returns-in-Some-clause-next
returns-in-Some-clause-next g c = next_from_ready _ _ _ _ _ c.in-Some.next c.loop-turn.invariant.kept (rw c.in-Some.is at c.in_ok-next.ensures.next)

pub returns-in-Some-clause-few : goal.returns-in-Some-clause-few
returns-in-Some-clause-few g c = few_ready _ _ _ c.in-Some.next c.loop-turn.invariant.held (rw c.in-Some.is at c.in_ok-next.ensures.next)
