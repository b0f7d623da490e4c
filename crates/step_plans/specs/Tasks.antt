-- The rules that a row runs next.
use Rattle.std.specs.Prelude.{ℕ, List, [], ◌∷◌, map}
use Rattle.phase_rows.specs.declared.phase.Then.{Then}
use Rattle.phase_rows.specs.declared.phase.Then.TheVariants as thens
use Rattle.step_plans.specs.declared.tasks.Task.{Task}
use Rattle.step_plans.specs.declared.tasks.Task.TheVariants as tasks

-- the rule that the row of a phase names
abbrev pub named : Then → List Task
named (thens.Rule rule) = tasks.Phase rule ∷ []
named other = []

-- the rule that the row of a leader names, on each of its keys
abbrev pub keyed : Then → List (List ℕ) → List Task
keyed (thens.OnKeys rule) keys = map (tasks.Key rule) keys
keyed other keys = []
