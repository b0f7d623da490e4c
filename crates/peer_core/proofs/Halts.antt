-- Why a step that was taken failed.
use Rattle.std.specs.Prelude.{IfErr, Option}
use Rattle.std.proofs.Common.{◌≡◌, ℕ, true, List, Result, Ok, Err, subst}
use Rattle.ens_base.specs.View.{IsPeer}
use Rattle.hash_book.specs.Hashing.{Book}
use Rattle.environment.specs.Stores.{BackendCall, BackendAnswer, NodeCall, NodeAnswer}
use Rattle.environment.specs.declared.errors.StoreError.{StoreError}
use Rattle.fact_store.specs.Keeping.{KeeperCall, KeeperAnswer}
use Rattle.fact_store.specs.declared.error.KeepError.{KeepError}
use Rattle.stored_formats.specs.declared.fact_error.FactError.{FactError}
use Rattle.stored_formats.specs.declared.saved.SavedFact.{SavedFact}
use Rattle.step_plans.specs.Steps.{Steps}
use Rattle.step_plans.specs.declared.error.PeerError.{PeerError}
use Rattle.step_plans.specs.declared.error.PeerError.TheVariants as errors
use Rattle.step_plans.specs.declared.outbox.Outbox.{Outbox}
use Rattle.peer_state.specs.Ages.{IsYoung, is_young}
use Rattle.peer_spec.specs.Drives.{step_of, MayCome}
use Rattle.peer_spec.specs.Kept.{IsCallError, IsStepError}
use Rattle.peer_stores.specs.Stores.{stores_do, stores_refuse, IsCause}
use Rattle.peer_state.specs.declared.event.Event.{Event}
use Rattle.peer_state.specs.declared.state.State.{State}
use Rattle.peer_stores.specs.declared.stores.Stores.{Stores}
use Rattle.peer_spec.proofs.Aging.{steps_young}
use Rattle.peer_core.proofs.Counts.{stopped_cause, stopped_only}
use Rattle.peer_state.proofs.Young.{young}

as_step_error : (e : PeerError) → IsCallError e → IsStepError e
as_step_error errors.StoreFault is = tt
as_step_error errors.Memory is = tt
as_step_error errors.Halted is = tt
as_step_error (errors.BadFact why) is = absurd is
as_step_error (errors.Clash first second) is = tt
as_step_error (errors.BookFull more) is = tt

module _ (me : ℕ) (peer : IsPeer me) (event : Event) (come : MayCome me event) (x : State) (test : is_young x.phase ≡ true)
    {B N F H : Type 0} (gives : B → (call : BackendCall) → BackendAnswer call → B → Type 0) (loses : B → BackendCall → StoreError → B → Type 0)
    (b : B → ℕ) (reads : N → (call : NodeCall) → NodeAnswer call → N → Type 0) (misses : N → NodeCall → StoreError → N → Type 0) (tops : N → Option (Option (List ℕ))) (n : N → ℕ) (tells : F → (call : KeeperCall) → KeeperAnswer call → F → Type 0) (drops : F → KeeperCall → KeepError → F → Type 0) (kept : F → Option (Result SavedFact FactError)) (f : F → ℕ)
    (strings : H → Option Book) (c d : H → ℕ) {A : Type 0} (s t : Stores B N F × H) (y : State) (before after : Outbox) where
  -- the call took the step, with this result
  abbrev Took : Result A PeerError → Type 0
  Took r = Steps (stores_do gives b reads tops n tells kept f strings c d) (stores_refuse loses b reads misses tops n drops kept f strings c d) (step_of me event x) s before r y t after

  -- a step fails because a count rose, or out of memory
  pub causes : (r : Result A PeerError) → Took r → IfErr r (λ e. IsCause b n f c d s t e)
  causes (Ok u) took = tt
  causes (Err e) took = stopped_cause gives loses b reads misses tops n tells drops kept f strings c d (step_of me event x) s before.notes.items e t after.notes.items took.ran

  call_error : (r : Result A PeerError) → Took r → IfErr r IsCallError
  call_error (Ok u) took = tt
  call_error (Err e) took =
      stopped_only gives loses b reads misses tops n tells drops kept f strings c d (λ z o. IsYoung z.phase) (step_of me event x) s before.notes.items e t after.notes.items (steps_young me event x peer come (young x.phase test)) took.ran

  -- no step that was taken fails as halted
  pub not_halted : (r : Result A PeerError) → Took r → r ≡ Err errors.Halted → ⊥
  not_halted r took is = let P : Result A PeerError → Type 0 = λ k. IfErr k IsCallError in subst P is (call_error r took)

  -- why a step failed
  pub only : (r : Result A PeerError) → Took r → IfErr r IsStepError
  only (Ok u) took = tt
  only (Err e) took = as_step_error e (call_error (Err e) took)
