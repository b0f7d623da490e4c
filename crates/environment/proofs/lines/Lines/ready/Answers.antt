use Rattle.std.proofs.Common.{◌≡◌, ◌<◌, arith, length, take, refl}
use Rattle.environment.specs.Lines.{HasNoFeed}
use Rattle.environment.proofs.lines.Lines.ready.Goals as goal

pub returns-in-None-clause-next : goal.returns-in-None-clause-next
returns-in-None-clause-next c =
    let long : 4400 < length c.args.self.now.pending.items = omega arith in
    let seen : c.min-seen.result ≡ 4401 = omega arith in
    let none : HasNoFeed (take 4401 c.args.self.now.pending.items) = rw (← c.deref.ensures.value, ← seen) c.in-None.ensures.none in
    (long, none, refl)
