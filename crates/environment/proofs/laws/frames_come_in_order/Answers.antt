use Rattle.environment.proofs.Queued.{next_frame, no_frame}
use Rattle.environment.proofs.laws.frames_come_in_order.Goals as goal

pub returns-clause-next : goal.returns-clause-next
returns-clause-next c = next_frame

pub returns-clause-none : goal.returns-clause-none
returns-clause-none c = no_frame
