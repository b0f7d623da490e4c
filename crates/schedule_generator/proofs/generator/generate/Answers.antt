use Rattle.std.proofs.Common.{refl, arith, ◌∙◌}
use Rattle.schedule_generator.proofs.Loops.{one_call}
use Rattle.schedule_generator.proofs.generator.generate.Goals as goal

pub loop-i-preserved : goal.loop-i-preserved
loop-i-preserved c =
    let g = c.in_ok-lines.ensures in
    c.loop-i.invariant ∙ one_call c.args.calls c.loop-i.i c.loop-i.generator.leader c.loop-i.generator.x c.loop-i.generator.events.items (omega arith) ∙ rw (g.events, g.leader, g.x) refl
