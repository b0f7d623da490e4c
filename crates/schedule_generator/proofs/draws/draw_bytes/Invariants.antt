use Rattle.std.proofs.Common.{◌≡◌, ◌-◌}
use Rattle.schedule_generator.specs.Drawing.{draw_bytes}
use Rattle.schedule_generator.proofs.Loops.{onto}
use Rattle.schedule_generator.proofs.draws.draw_bytes.Given as goal

abbrev pub invariant-loop-turn : goal.invariant-loop-turn
invariant-loop-turn l = draw_bytes l.fn.count l.fn.x ≡ onto l.bytes.items (draw_bytes (l.count - l._turn) l.x)
