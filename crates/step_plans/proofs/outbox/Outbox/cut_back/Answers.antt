use Rattle.step_plans.proofs.Growing.{restored}
use Rattle.step_plans.proofs.outbox.Outbox.cut_back.Goals as goal

pub returns-clause-back : goal.returns-clause-back
returns-clause-back c = λ before mark grows.
    restored before c.args.self.now c.args.mark c.truncate.new.self.items c.truncate-2.new.self.items c.truncate-3.new.self.items mark grows
    c.truncate.ensures.items c.truncate-2.ensures.items c.truncate-3.ensures.items
