-- What holds of a group of peers that meets its premises.
use Rattle.std.specs.Prelude.{◌≡◌, ◌+◌, ℕ, true, List, [], ◌∷◌, ◌++◌, length}
use Rattle.ens_base.specs.Lists.{◌∈◌}
use Rattle.world_refinement.specs.Worlds.{HasRun}
use Rattle.process_laws.specs.Moments.{Group, Moment, Takes, answers_in, answers_of, calls_from, calls_of, opening_of, run_of, run_on}
use Rattle.peer_state.specs.declared.event.Event.TheVariants as events
use Rattle.register_model.specs.Histories.{IsDone, IsLegal, StandsBefore}
use Rattle.register_model.specs.Orders.{order}
use Rattle.register_model.specs.declared.answer.Answer.{Answer}
use Rattle.register_model.specs.declared.call.Call.{Call}
use Rattle.role_laws.specs.Facts.{Lines}

-- the views for which peers are asked
abbrev pub view_in : Moment → List (List ℕ) → List (List ℕ)
view_in (Takes p (events.Change view)) rest = view ∷ rest
view_in m rest = rest

abbrev pub views_in : List Moment → List (List ℕ)
views_in [] = []
views_in (m ∷ ms) = view_in m (views_in ms)

-- every peer has a seal, so each is firm; the opening view and those for which peers are asked may vote
abbrev pub lines_of : Group → Lines
lines_of g = record { sealed = true; firm = λ p. true; voting = g.view ∷ views_in g.moments }

-- all that happened to the group agrees with a run of the abstract protocol: its peers, all that they sent
-- and all that they noted
abbrev pub IsRunOfProtocol : Group → Type 0
IsRunOfProtocol g = HasRun (lines_of g) g.view (run_of g).hashed (run_of g)

-- of each key, the order that follows from the notes is a legal history of the calls that came and of these
-- answers
abbrev pub AreLegal : Group → List Answer → Type 0
AreLegal g heard = (key : List ℕ) → IsLegal (calls_of g) heard key (order (run_of g).notes key)

-- these answers were given
abbrev pub WereGiven : Group → List Answer → Type 0
WereGiven g heard = (a : Answer) → a ∈ heard → a ∈ answers_of g

-- a call that was completed by an answer of the moments up to one stands before each call that came later
abbrev pub KeepsRealTime : Group → Type 0
KeepsRealTime g = (before later : List Moment) → g.moments ≡ before ++ later → (a : Answer) → a ∈ answers_in (run_on before (opening_of g)).printed → IsDone a.reply
    → (c : Call) → c ∈ calls_from (1 + length before) later → (key : List ℕ) → StandsBefore (order (run_of g).notes key) a.id c.id
