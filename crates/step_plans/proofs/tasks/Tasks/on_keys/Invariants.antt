use Rattle.std.proofs.Common.{◌≡◌, ◌++◌, ◌+◌, map, length}
use Rattle.step_plans.specs.declared.tasks.Task.TheVariants.{Key as OnKey}
use Rattle.step_plans.proofs.tasks.Tasks.on_keys.Given as goal

abbrev pub invariant-loop-done : goal.invariant-loop-done
invariant-loop-done l = (map (OnKey l.rule) l.keys.items ++ l.tasks ≡ map (OnKey l.rule) l.initial.keys.items) × (length l.keys.items + l.done ≡ l.done-end)
