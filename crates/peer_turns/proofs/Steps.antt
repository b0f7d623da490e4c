-- A step that was taken over stores.
use Rattle.std.proofs.Common.{◌≡◌, sym, subst, refl, ℕ, Bool, true, List}
use Rattle.stored_formats.specs.declared.saved.SavedFact.{SavedFact}
use Rattle.peer_spec.specs.Drives.{step_of}
use Rattle.peer_state.specs.Moves.{saved_by}
use Rattle.peer_state.specs.declared.event.Event.{Event}
use Rattle.peer_state.specs.declared.state.State.{State}
use Rattle.register_model.specs.declared.note.Note.{Note}
use Rattle.step_plans.specs.Calls.{Call, AnswerOf}
use Rattle.step_plans.specs.Plans.{Out, Finished, Runs}
use Rattle.step_plans.specs.declared.error.PeerError.{PeerError}
use Rattle.peer_turns.specs.Ends.{AllFrom, AllTo, ComesFrom, EndsIn, calls_in, last_saved}
use Rattle.peer_turns.proofs.Ran.{ends_less, comes, ran_ends}
use Rattle.peer_turns.proofs.Walking.{steps_end}

abbrev Both : (ℕ → Bool) → SavedFact → State → Out → Type 0
Both test last y out = (saved_by y ≡ last) × (AllTo test out.answers × AllFrom test (calls_in y.phase))

-- the ends of a step, of the fact alone
pub fact_ends : (me : ℕ) (event : Event) (x : State) → EndsIn (λ last y out. saved_by y ≡ last) (saved_by x) (step_of me event x)
fact_ends me event x =
    let test : ℕ → Bool = λ n. true in
    ends_less (Both test) (λ last y out. saved_by y ≡ last) (λ f y o end. end.0) (saved_by x) (step_of me event x) (steps_end test me event x (comes event) (λ k d less. refl))

-- the ends of a step, of the callers alone
pub callers_end : (test : ℕ → Bool) (me : ℕ) (event : Event) (x : State) → ComesFrom test event → AllFrom test (calls_in x.phase) → EndsIn (λ last y out. AllTo test out.answers × AllFrom test (calls_in y.phase)) (saved_by x) (step_of me event x)
callers_end test me event x come from =
    ends_less (Both test) (λ last y out. AllTo test out.answers × AllFrom test (calls_in y.phase)) (λ f y o end. end.1) (saved_by x) (step_of me event x) (steps_end test me event x come from)

module _ {S : Type 0} (does : S → (call : Call) → AnswerOf call → S → Type 0) (refuses : S → Call → PeerError → S → Type 0) (me : ℕ) (event : Event) (x y : State) (s t : S) (ns ms : List Note) (out : Out)
    (ran : Runs does refuses (step_of me event x) s ns (Finished y out) t ms) where
  -- those that it answered, and the callers of the calls that it left, pass the test
  pub answered : (test : ℕ → Bool) → ComesFrom test event → AllFrom test (calls_in x.phase) → AllTo test out.answers × AllFrom test (calls_in y.phase)
  answered test come from =
      (ran_ends does refuses (λ last z o. AllTo test o.answers × AllFrom test (calls_in z.phase)) (λ u f. Unit {0}) (λ u v call a f did holds. tt) (step_of me event x) s ns (saved_by x) y out t ms tt (callers_end test me event x come from) ran).2

  -- stores that held the fact of the state before hold that of the state after it
  pub kept_fact : (Holds : S → SavedFact → Type 0) → ((u v : S) (call : Call) (a : AnswerOf call) (f : SavedFact) → does u call a v → Holds u f → Holds v (last_saved call f)) → Holds s (saved_by x) → Holds t (saved_by y)
  kept_fact Holds keeps holds =
      let end = ran_ends does refuses (λ last z o. saved_by z ≡ last) Holds keeps (step_of me event x) s ns (saved_by x) y out t ms holds (fact_ends me event x) ran in
      subst (λ (f : SavedFact). Holds t f) (sym end.2) end.1
