use Rattle.std.proofs.Common.{◌≡◌, ◌+◌, ◌<◌, arith, length, take, refl}
use Rattle.environment.specs.Lines.{HasNoFeed}
use Rattle.audit.proofs.lines.RecordLines.ready.Goals as goal

pub returns-in-None-clause-next : goal.returns-in-None-clause-next
returns-in-None-clause-next c =
    let long : c.args.most < length c.args.self.now.pending.items = omega arith in
    let seen : c.min-seen.result ≡ c.args.most + 1 = omega arith in
    let none : HasNoFeed (take (c.args.most + 1) c.args.self.now.pending.items) = rw (← c.deref.ensures.value, ← seen) c.in-None.ensures.none in
    (long, none, refl)
