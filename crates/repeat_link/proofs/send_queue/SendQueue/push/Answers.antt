use Rattle.repeat_link.proofs.Waiting.{fits_after}
use Rattle.repeat_link.proofs.send_queue.SendQueue.push.Goals as goal

pub invariant_of-self-2 : goal.invariant_of-self-2
invariant_of-self-2 c = fits_after c.push.new.self.items c.trim.new.queued.items c.trim.ensures
