use Rattle.disk_stores.proofs.Recents.{remembers_push}
use Rattle.disk_stores.proofs.recent.Recent.fill.Goals as goal

pub returns-then-is_err : goal.returns-then-is_err
returns-then-is_err c es old = remembers_push c.loop-self.self.slots.items c.push.new.self.items _ es c.push.ensures.items (c.loop-self.invariant es old)

pub loop-self-preserved : goal.loop-self-preserved
loop-self-preserved c es old = remembers_push c.loop-self.self.slots.items c.push.new.self.items _ es c.push.ensures.items (c.loop-self.invariant es old)
