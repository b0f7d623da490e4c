use Rattle.std.proofs.Common.{◌≡◌, ◌-◌, ◌+◌, ◌++◌}
use Rattle.schedule_generator.specs.Generated.{generate, draw_calls}
use Rattle.schedule_generator.proofs.generator.generate.Given as goal

abbrev pub invariant-loop-i : goal.invariant-loop-i
invariant-loop-i l = (generate l.fn.number l.fn.calls).events ≡ l.generator.events.items ++ (draw_calls (l.calls - l.i) l.generator.leader (l.i + 1) l.generator.x).1
