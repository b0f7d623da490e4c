-- What a list of possible registers says of the calls to come.
use Rattle.std.specs.Prelude.{ℕ, List, ◌∷◌, ◌++◌}
use Rattle.ens_base.specs.Lists.{◌∈◌}
use Rattle.ens_base.specs.declared.epoch.Version.{Version}
use Rattle.register_model.specs.Histories.{RunsFrom}
use Rattle.register_model.specs.declared.answer.Answer.{Answer}
use Rattle.register_model.specs.declared.call.Call.{Call}
use Rattle.register_model.specs.declared.register.Register.{Register}
use Rattle.register_model.specs.declared.register.Register.TheVariants as register
use Rattle.register_checker.specs.declared.guess.Guess.{Guess}
use Rattle.register_checker.specs.declared.guess.Guess.TheVariants.{Absent, Told, Untold}
use Rattle.register_checker.specs.declared.guess.Possible.{Possible}

-- P holds of some register that the guess allows, after steps with these stamps; for a value under
-- an unknown stamp, P holds under some stamp that no earlier step had and that is not ruled out
abbrev pub OfSome : (List Version → Register → Type 0) → List Version → Guess → Type 0
OfSome P stamps Absent = P stamps register.Absent
OfSome P stamps (Told stamp bytes) = P stamps (register.Present stamp bytes)
OfSome P stamps (Untold bytes excluded) = (stamp : Version) × ¬ (stamp ∈ excluded) × ¬ (stamp ∈ stamps) × P (stamp ∷ stamps) (register.Present stamp bytes)

-- the order can go on from a register that the guess allows
abbrev pub GoesFrom : List Call → List Answer → List Version → Guess → List ℕ → Type 0
GoesFrom calls answers stamps held order = OfSome (λ taken register. RunsFrom calls answers taken register order) stamps held

-- the order can go on from some register of the list
abbrev pub Goes : List Call → List Answer → List Version → List Possible → List ℕ → Type 0
Goes calls answers known list order = (p : Possible) × (p ∈ list) × GoesFrom calls answers (p.named ++ known) p.held order

-- the stamp of the guess, if shown, is one of these
abbrev pub IsTaken : List Version → Guess → Type 0
IsTaken stamps (Told stamp bytes) = stamp ∈ stamps
IsTaken stamps held = Unit {0}

-- each stamp that was shown is known or named
abbrev pub AreTaken : List Version → List Possible → Type 0
AreTaken known list = (p : Possible) → p ∈ list → IsTaken (p.named ++ known) p.held
