-- A step with something else to do where its loops have no turns left.
use Rattle.std.specs.Prelude.{ℕ, List, [], ◌∷◌}
use Rattle.phase_rows.specs.declared.rules.PhaseRule.TheVariants as phase_rules
use Rattle.peer_spec.specs.Drives.{first, task_done, driven, most_turns}
use Rattle.peer_state.specs.declared.event.Event.{Event}
use Rattle.peer_state.specs.declared.state.State.{State}
use Rattle.step_plans.specs.Plans.{Plan, Done, Rest, nothing}
use Rattle.step_plans.specs.declared.tasks.Task.{Task}
use Rattle.step_plans.specs.declared.tasks.Task.TheVariants.{Phase}

-- the plan goes on if no task is left, and otherwise as `other` says
abbrev pub or_else : Rest State (List Task) → Rest State (Unit {0}) → Rest State (List Task)
or_else other next [] y o = next tt y o
or_else other next (t ∷ ts) y o = other (t ∷ ts) y o

-- rule 26 and what follows from it, at the end of a step
abbrev pub end_or : Rest State (List Task) → ℕ → Rest State (Unit {0})
end_or other me u y o = task_done me (Phase phase_rules.EndEpoch) y o (λ ts z p. driven me most_turns ts z p (or_else other (λ v w q. Done w q)))

-- a step of peer `me` on an event, which goes on as `other` says if tasks are left when the turns of
-- one of its loops end
abbrev pub step_or : Rest State (List Task) → ℕ → Event → State → Plan State
step_or other me event x = first me event x nothing (λ ts y o. driven me most_turns ts y o (or_else other (end_or other me)))
