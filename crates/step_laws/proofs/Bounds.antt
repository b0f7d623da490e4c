-- A peer that started, step by step.
use Rattle.peer_state.specs.declared.state.Mode.{Mode}
use Rattle.std.proofs.Common.{◌≤◌, ◌<◌, ◌+◌, ◌^◌, arith, sym, subst, length, ℕ, Bool, List, [], ◌∷◌, None}
use Rattle.stored_formats.specs.declared.saved.SavedFact.{SavedFact}
use Rattle.phase_rows.specs.declared.rules.PhaseRule.TheVariants as phase_rules
use Rattle.peer_spec.specs.Drives.{first, task_done, driven, most_turns, concluded, step_of}
use Rattle.peer_spec.specs.Kept.{IsStepCall}
use Rattle.peer_spec.specs.Turns.{StepsAlone, HasFewCalls}
use Rattle.peer_spec.proofs.Fuel.{responded_left, concluded_left, owed_none}
use Rattle.peer_state.specs.declared.event.Event.{Event}
use Rattle.peer_state.specs.declared.state.Phase.{Phase}
use Rattle.peer_state.specs.declared.state.Phase.TheVariants as phases
use Rattle.peer_state.specs.declared.state.State.{State}
use Rattle.step_plans.specs.Calls.{OpenTree}
use Rattle.tree_node.specs.declared.version.TreeVersion.TheVariants.{One}
use Rattle.step_plans.specs.Plans.{Plan, Done, Say, Ask, Out, Rest, Follows, nothing}
use Rattle.step_plans.specs.declared.tasks.Task.{Task}
use Rattle.step_plans.specs.declared.tasks.Task.TheVariants as tasks
use Rattle.step_laws.specs.Limits.{or_else, end_or, step_or}
use Rattle.step_laws.specs.Reached.{MayEnd, Reached, calls_of, calls_among, unanswered}
use Rattle.step_laws.specs.Resting.{IsResting, LeadsWhole}
use Rattle.step_laws.proofs.Counts.{count}
use Rattle.step_laws.proofs.Pairs.{responded_safe, concluded_safe}
use Rattle.step_laws.proofs.Walking.{responded_passes, concluded_passes}
use Rattle.step_laws.proofs.Wholes.{step_whole}

-- after a step, the calls are those from before and those of the event, or fewer
step_few : (me k : ℕ) (event : Event) (x : State) → count x.phase + calls_of event ≤ k → Follows IsStepCall (λ y o. count y.phase ≤ k) (step_of me event x)
step_few me k event x room =
    let P : State → Out → Type 0 = λ y o. count y.phase ≤ k in
    responded_passes k me P event x nothing (λ u y o. concluded me y o (λ v z q. Done z q)) room
    (λ u y o few. concluded_passes k me P y o (λ v z q. Done z q) few (λ v z q fine. fine))

-- what holds of each end of a plan holds where it may end
pub held_at_end : (R : State → Type 0) (p : Plan State) (y : State) → Follows IsStepCall (λ z o. R z) p → MayEnd p y → R y
held_at_end R (Done x out) y follows is = subst R (sym is) follows
held_at_end R (Say note p) y follows end = held_at_end R p y follows end
held_at_end R (Ask call next) y follows (a, end) = held_at_end R (next a) y (follows.1 a) end

room_for : (a b c : ℕ) → a ≤ b → a + c ≤ c + b
room_for a b c less = omega (arith, less)

pub reached_few : (me : ℕ) (mode : Mode) (saved : SavedFact) (trusted : Bool) (events : List Event) (x : State) → Reached me mode saved trusted events x → length (unanswered x.phase) ≤ calls_among events
reached_few me mode saved trusted [] x is = subst (λ (y : State). length (unanswered y.phase) ≤ 0) (sym is) (owed_none 0)
reached_few me mode saved trusted (event ∷ events) x (y, before, end) =
    let k : ℕ = calls_of event + calls_among events in
    held_at_end (λ z. count z.phase ≤ k) (step_of me event y) x
    (step_few me k event y (room_for (count y.phase) (calls_among events) (calls_of event) (reached_few me mode saved trusted events y before))) end

few_calls : (phase : Phase) (n : ℕ) → count phase ≤ n → n < 2 ^ 60 → HasFewCalls phase
few_calls (phases.Leading l) n less few = omega (arith, less, few)
few_calls (phases.Following f) n less few = tt
few_calls (phases.Probing p) n less few = tt
few_calls (phases.Electing e) n less few = tt

-- ## At rest

-- at the limit on tasks none is left
abbrev stop : Rest State (List Task)
stop [] y o = Done y o
stop (t ∷ ts) y o = Ask (OpenTree None One) (λ u. Done y o)

stop_some : (t : Task) (ts : List Task) (y : State) (o : Out) → StepsAlone (stop (t ∷ ts) y o) → ⊥
stop_some t ts y o alone = alone.0

at_most : (a b c : ℕ) → a + b ≤ c → a ≤ c
at_most a b c sum = omega (arith, sum)

module _ (me k : ℕ) (less : k < 2 ^ 60) (P : State → Out → Type 0) (next : Rest State (List Task)) where
  -- what reaches the end from each state at rest with few calls
  abbrev Ends : Rest State (List Task) → Type 0
  Ends rest = (y : State) (o : Out) → count y.phase ≤ k → IsResting y.phase → Follows IsStepCall P (rest [] y o)

  -- from the event on
  after_event : (event : Event) (x : State) → count x.phase + calls_of event ≤ k → IsResting x.phase → Ends next → Follows IsStepCall P (first me event x nothing (λ ts y o. driven me most_turns ts y o next))
  after_event event x room rests ends =
      responded_safe k me P event x nothing next stop room rests (λ y o few still alone. ends y o few still) stop_some
      (responded_left me event x nothing stop (few_calls x.phase k (at_most (count x.phase) (calls_of event) k room) less) (λ z q. tt))

  -- from rule 26 on
  after_end : (y : State) (o : Out) → count y.phase ≤ k → IsResting y.phase → Ends next → Follows IsStepCall P (task_done me (tasks.Phase phase_rules.EndEpoch) y o (λ ts z q. driven me most_turns ts z q next))
  after_end y o few rests ends =
      concluded_safe k me P y o next stop few rests (λ z q fine still alone. ends z q fine still) stop_some
      (concluded_left me y o stop (few_calls y.phase k few less) (λ z q. tt))

-- a step with few calls, from rest, ends at rest
step_rests : (me k : ℕ) (event : Event) (x : State) → k < 2 ^ 60 → count x.phase + calls_of event ≤ k → IsResting x.phase → Follows IsStepCall (λ y o. IsResting y.phase) (step_of me event x)
step_rests me k event x less room rests =
    let P : State → Out → Type 0 = λ y o. IsResting y.phase in
    after_event me k less P (λ ts y o. concluded me y o (λ v z q. Done z q)) event x room rests
    (λ y o few still. after_end me k less P (λ ts z q. Done z q) y o few still (λ z q fine end. end))

fewer : (a b c : ℕ) → c + b < a → b < a
fewer a b c less = omega (arith, less)

pub reached_rests : (me : ℕ) (mode : Mode) (saved : SavedFact) (trusted : Bool) (events : List Event) (x : State) → Reached me mode saved trusted events x → calls_among events < 2 ^ 60 → IsResting x.phase
reached_rests me mode saved trusted [] x is less = subst (λ (y : State). IsResting y.phase) (sym is) tt
reached_rests me mode saved trusted (event ∷ events) x (y, before, end) less =
    let k : ℕ = calls_of event + calls_among events in
    held_at_end (λ z. IsResting z.phase) (step_of me event y) x
    (step_rests me k event y less (room_for (count y.phase) (calls_among events) (calls_of event) (reached_few me mode saved trusted events y before))
    (reached_rests me mode saved trusted events y before (fewer (2 ^ 60) (calls_among events) (calls_of event) less))) end

pub reached_whole : (me : ℕ) (mode : Mode) (saved : SavedFact) (trusted : Bool) (events : List Event) (x : State) → Reached me mode saved trusted events x → calls_among events < 2 ^ 60 → LeadsWhole x.phase
reached_whole me mode saved trusted [] x is less = subst (λ (y : State). LeadsWhole y.phase) (sym is) tt
reached_whole me mode saved trusted (event ∷ events) x (y, before, end) less =
    let few : calls_among events < 2 ^ 60 = fewer (2 ^ 60) (calls_among events) (calls_of event) less in
    held_at_end (λ z. LeadsWhole z.phase) (step_of me event y) x (step_whole me event y (reached_rests me mode saved trusted events y before few) (reached_whole me mode saved trusted events y before few)) end

module _ (other : Rest State (List Task)) (me : ℕ) (mode : Mode) (saved : SavedFact) (trusted : Bool) (event : Event) (events : List Event) (x : State) where
  pub none_left : Reached me mode saved trusted events x → calls_among (event ∷ events) < 2 ^ 60 → StepsAlone (step_or other me event x)
  none_left reached less =
      let k : ℕ = calls_among (event ∷ events) in
      let P : State → Out → Type 0 = λ y o. Unit {0} in
      after_event me k less P (or_else other (end_or other me)) event x (room_for (count x.phase) (calls_among events) (calls_of event) (reached_few me mode saved trusted events x reached))
      (reached_rests me mode saved trusted events x reached (fewer (2 ^ 60) (calls_among events) (calls_of event) less))
      (λ y o few still. after_end me k less P (or_else other (λ v w q. Done w q)) y o few still (λ z q fine end. tt))
