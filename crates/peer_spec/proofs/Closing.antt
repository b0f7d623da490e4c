-- What a step that ended well leaves.
use Rattle.std.proofs.Common.{◌≡◌, ℕ, true, List}
use Rattle.ens_base.specs.View.{IsPeer}
use Rattle.register_model.specs.declared.note.Note.{Note}
use Rattle.step_plans.specs.Calls.{Call, AnswerOf}
use Rattle.step_plans.specs.Plans.{Out, Finished, Runs}
use Rattle.step_plans.specs.declared.error.PeerError.{PeerError}
use Rattle.peer_state.specs.Ages.{IsYoung, is_young}
use Rattle.peer_spec.specs.Drives.{step_of, MayCome}
use Rattle.peer_spec.specs.Kept.{IsStepCall}
use Rattle.peer_state.specs.NoAllocation.{IsSteady}
use Rattle.peer_state.specs.declared.event.Event.{Event}
use Rattle.peer_state.specs.declared.state.State.{State}
use Rattle.peer_spec.proofs.Aging.{steps_young}
use Rattle.peer_spec.proofs.Ends.{ran_follows}
use Rattle.peer_spec.proofs.Steady.{steps_steady}
use Rattle.peer_state.proofs.Young.{young, young_test}

module _ (me : ℕ) (peer : IsPeer me) (event : Event) (come : MayCome me event) (x : State) (test : is_young x.phase ≡ true) where
  -- a step that ended well leaves each age below its limit
  pub ended_young : {S : Type 0} (does : S → (call : Call) → AnswerOf call → S → Type 0) (refuses : S → Call → PeerError → S → Type 0) (s t : S) (y : State) (out : Out) (ns ms : List Note)
      → Runs does refuses (step_of me event x) s ns (Finished y out) t ms → is_young y.phase ≡ true
  ended_young does refuses s t y out ns ms ran =
      young_test y.phase (ran_follows does refuses IsStepCall (λ z o. IsYoung z.phase) (step_of me event x) s ns y out t ms (steps_young me event x peer come (young x.phase test)) ran)

  -- a step that ended well leaves no leader that is to end its epoch
  pub ended_steady : {S : Type 0} (does : S → (call : Call) → AnswerOf call → S → Type 0) (refuses : S → Call → PeerError → S → Type 0) (s t : S) (y : State) (out : Out) (ns ms : List Note)
      → Runs does refuses (step_of me event x) s ns (Finished y out) t ms → IsSteady y
  ended_steady does refuses s t y out ns ms ran =
      ran_follows does refuses IsStepCall (λ z o. IsSteady z) (step_of me event x) s ns y out t ms (steps_steady me event x peer come (young x.phase test)) ran
