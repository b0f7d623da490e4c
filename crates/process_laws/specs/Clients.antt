-- What the clients of an execution send and hear, among what its processes do.
use Rattle.std.specs.Prelude.{◌≡◌, ℕ, List, [], ◌∷◌, ◌++◌}
use Rattle.ens_base.specs.Lists.{◌∈◌}
use Rattle.process_laws.specs.Moments.{calls_of}
use Rattle.peer_state.specs.declared.event.CallIn.{CallIn}
use Rattle.peer_state.specs.declared.event.Event.TheVariants.{Call as CallCame}
use Rattle.register_model.specs.Histories.{IsDone, StandsBefore}
use Rattle.register_model.specs.Orders.{order}
use Rattle.register_model.specs.declared.call.Call.{Call}
use Rattle.step_plans.specs.LeaderOutput.{AnswerOut}
use Rattle.peer_turns.specs.Deeds.{Deed}
use Rattle.process_laws.specs.Acts.{Act, Does, Execution, group_of, notes_of}

-- a process acts, a client sends the call with this id, or a client hears an answer
pub data Sight : Type 0 where
  Acts : (act : Act) → Sight
  Sends : (id : ℕ) → Sight
  Hears : (answer : AnswerOut) → Sight

-- the acts among these
abbrev pub acts_in : List Sight → List Act
acts_in [] = []
acts_in (Acts act ∷ sights) = act ∷ acts_in sights
acts_in (Sends id ∷ sights) = acts_in sights
acts_in (Hears answer ∷ sights) = acts_in sights

-- the ids of the calls that clients sent
abbrev pub ids_sent : List Sight → List ℕ
ids_sent [] = []
ids_sent (Acts act ∷ sights) = ids_sent sights
ids_sent (Sends id ∷ sights) = id ∷ ids_sent sights
ids_sent (Hears answer ∷ sights) = ids_sent sights

-- the answers that steps put out
abbrev pub answers_by : Act → List AnswerOut
answers_by (Does p d) = d.out.answers
answers_by act = []

abbrev pub answers_put_out : List Act → List AnswerOut
answers_put_out [] = []
answers_put_out (act ∷ acts) = answers_by act ++ answers_put_out acts

-- All of this happened in one order: the acts of the execution in theirs; an answer is heard after a step put it
-- out; and a step is taken on a call after a client sent it.
pub record AreSeen (e : Execution) (sights : List Sight) : Type 0 where
  pub acts : acts_in sights ≡ e.acts
  pub heard : (before later : List Sight) (answer : AnswerOut) → sights ≡ before ++ Hears answer ∷ later → answer ∈ answers_put_out (acts_in before)
  pub sent : (before later : List Sight) (p : ℕ) (d : Deed) (call : CallIn) → sights ≡ before ++ Acts (Does p d) ∷ later → d.event ≡ CallCame call → call.id ∈ ids_sent before

-- a client heard that a call was completed; wherever both stand in the history of a key, this call stands before
-- each call that no client had sent by then
abbrev pub ClientsKeepTime : Execution → Type 0
ClientsKeepTime e = (sights : List Sight) → AreSeen e sights → (before later : List Sight) (answer : AnswerOut) → sights ≡ before ++ Hears answer ∷ later → IsDone answer.reply
    → (call : Call) → call ∈ calls_of (group_of e) → ¬ (call.id ∈ ids_sent before) → (key : List ℕ) → StandsBefore (order (notes_of e.acts) key) answer.id call.id
