use Rattle.environment.proofs.NextLine.{next_from_ready}
use Rattle.environment.proofs.lines.Lines.next.Goals as goal

pub returns-in-Some-clause-next : goal.returns-in-Some-clause-next
returns-in-Some-clause-next g c = next_from_ready _ _ _ _ c.in-Some.next c.loop-turn.invariant.kept (rw c.in-Some.is at c.in_ok-next.ensures.next)
