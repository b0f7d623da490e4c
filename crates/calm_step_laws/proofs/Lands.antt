-- Where the run of a plan ends.
use Rattle.std.proofs.Common.{◌≡◌, refl, sym, ◌∙◌, subst, ℕ, List, [], ◌∷◌, ◌++◌, Result, Ok, Err}
use Rattle.peer_refinement.specs.WorldSpec.{answered, Held, Ended, run, either}
use Rattle.peer_state.specs.declared.state.State.{State}
use Rattle.register_model.specs.declared.note.Note.{Note}
use Rattle.step_plans.specs.Calls.{Call, AnswerOf}
use Rattle.step_plans.specs.Plans.{Plan, Done, Say, Ask, Out, Ending, Finished, Stopped}
use Rattle.step_plans.specs.declared.error.PeerError.{PeerError}
use Rattle.peer_refinement.specs.Trees.{AreAmong}
use Rattle.calm_step_laws.proofs.TreeCalls.{hash}

-- what a step is to come to
abbrev pub Aim : Type 1
Aim = State → Held → Out → List Note → Type 0

-- the plan ends well, where the aim holds
abbrev pub EndsWell : Aim → Ending State → Held → List Note → Type 0
EndsWell P (Finished x out) h ns = P x h out ns
EndsWell P (Stopped e) h ns = ⊥

-- the run of the plan ends well, if all that it hashes is among these strings
abbrev pub Lands : List (List ℕ) → Aim → Plan State → Held → List Note → Type 0
Lands strings P plan h ns = AreAmong (run plan h ns).held.hashed strings → EndsWell P (run plan h ns).ending (run plan h ns).held (run plan h ns).notes

-- what was hashed before a plan runs stays hashed
pub run_hashes : (plan : Plan State) (h : Held) (notes : List Note) → AreAmong h.hashed (run plan h notes).held.hashed
run_hashes (Done x out) h notes = λ s at. at
run_hashes (Say n plan) h notes = run_hashes plan h (notes ++ n ∷ [])
run_hashes (Ask call next) h notes = λ s at. goes_on (answered call h).result (λ a. run_hashes (next a) (answered call h).held notes) s (hash call h s at)
  where
    goes_on : (r : Result (AnswerOf call) PeerError) → ((a : AnswerOf call) → AreAmong (answered call h).held.hashed (run (next a) (answered call h).held notes).held.hashed)
        → AreAmong (answered call h).held.hashed (either {R = Ended State} r (λ a. run (next a) (answered call h).held notes) (λ error. record { ending = Stopped error; held = (answered call h).held; notes = notes })).held.hashed
    goes_on (Ok a) rest = rest a
    goes_on (Err e) rest = λ s at. at

-- what a call is answered, and what then follows
pub record Answers (strings : List (List ℕ)) (P : Aim) (call : Call) (next : AnswerOf call → Plan State) (h : Held) (ns : List Note) : Type 0 where
  pub answer : AnswerOf call
  pub is : (answered call h).result ≡ Ok answer
  pub goes : Lands strings P (next answer) (answered call h).held ns

pub lands_ask : (strings : List (List ℕ)) (P : Aim) (call : Call) (next : AnswerOf call → Plan State) (h : Held) (ns : List Note) → (AreAmong (answered call h).held.hashed strings → Answers strings P call next h ns) → Lands strings P (Ask call next) h ns
lands_ask strings P call next h ns goes = by (answered call h).result refl where
  after : Result (AnswerOf call) PeerError → Ended State
  after r = either r (λ b. run (next b) (answered call h).held ns) (λ error. record { ending = Stopped error; held = (answered call h).held; notes = ns })

  early : (r : Result (AnswerOf call) PeerError) → AreAmong (after r).held.hashed strings → AreAmong (answered call h).held.hashed strings
  early (Ok a) among = λ s at. among s (run_hashes (next a) (answered call h).held ns s at)
  early (Err e) among = among

  by : (r : Result (AnswerOf call) PeerError) → (answered call h).result ≡ r → AreAmong (after r).held.hashed strings → EndsWell P (after r).ending (after r).held (after r).notes
  by r same among =
      let a = goes (early r among) in
      subst (λ z. AreAmong (after z).held.hashed strings → EndsWell P (after z).ending (after z).held (after z).notes) (sym a.is ∙ same) a.goes among
