-- Why the limit on the tasks of a step is never reached.
use Rattle.std.specs.Prelude.{◌<◌, ◌^◌, length, List, []}
use Rattle.step_plans.specs.Plans.{Plan, Out, Rest, Follows}
use Rattle.step_plans.specs.declared.tasks.Task.{Task}
use Rattle.peer_spec.specs.Kept.{IsStepCall}
use Rattle.peer_state.specs.declared.state.Phase.{Phase}
use Rattle.peer_state.specs.declared.state.Phase.TheVariants as phases
use Rattle.peer_state.specs.declared.state.State.{State}

-- the plan makes no calls except those of a step
abbrev pub StepsAlone : Plan State → Type 0
StepsAlone = Follows IsStepCall (λ x out. Unit {0})

-- What follows the tasks makes no calls except those of a step if no task is left. Nothing is known about it
-- for other lists, so if a plan that ends in it makes no calls except those of a step, no task is left there.
abbrev pub IsFineAtNone : Rest State (List Task) → Type 0
IsFineAtNone next = (y : State) (o : Out) → StepsAlone (next [] y o)

-- fewer than 2 ^ 60 calls are unanswered
abbrev pub HasFewCalls : Phase → Type 0
HasFewCalls (phases.Leading l) = length l.leader.table.calls < 2 ^ 60
HasFewCalls (phases.Following f) = Unit {0}
HasFewCalls (phases.Probing p) = Unit {0}
HasFewCalls (phases.Electing e) = Unit {0}
