-- The run of a plan over stores in memory, as a function.
use Rattle.std.specs.Prelude.{List, [], ◌∷◌, ◌++◌, Result, Ok, Err}
use Rattle.register_model.specs.declared.note.Note.{Note}
use Rattle.step_plans.specs.Plans.{Plan, Done, Say, Ask, Ending, Finished, Stopped}
use Rattle.step_plans.specs.declared.error.PeerError.{PeerError}
use Rattle.world_spec.specs.Answers.{answered}
use Rattle.world_spec.specs.Held.{Held}

-- how the run of a plan ended, the stores and the hashed strings after it, and its notes
pub record Ended (X : Type 0) : Type 0 where
  pub ending : Ending X
  pub held : Held
  pub notes : List Note

-- what follows an answer, or a refusal
abbrev pub either : {A R : Type 0} → Result A PeerError → (A → R) → (PeerError → R) → R
either (Ok answer) goes stops = goes answer
either (Err error) goes stops = stops error

-- the run of a plan: a call that is refused ends it
abbrev pub run : {X : Type 0} → Plan X → Held → List Note → Ended X
run (Done x out) h ns = record { ending = Finished x out; held = h; notes = ns }
run (Say n p) h ns = run p h (ns ++ n ∷ [])
run (Ask call next) h ns = either (answered call h).result (λ a. run (next a) (answered call h).held ns)
    (λ error. record { ending = Stopped error; held = (answered call h).held; notes = ns })
