-- A lone peer that lives twice over stores in memory, and executions that break a premise.
use Rattle.std.specs.Prelude.{◌≡◌, ◌==◌, if◌then◌else◌, List, [], ◌∷◌, Option, None, Some, Ok, Err}
use Rattle.ens_base.specs.Lists.{◌∈◌}
use Rattle.environment.specs.Maps.{Entries}
use Rattle.process_laws.specs.Moments.{Found, Starts, Takes, calls_of, run_on, with_contents, Spoils}
use Rattle.process_laws.specs.Premises.{node_of}
use Rattle.process_laws.specs.GroupWitness.{first_life, lone_opening, nothing_found, remains_found, without_nodes}
use Rattle.peer_state.specs.declared.event.Event.TheVariants.{Tick, Deliver}
use Rattle.register_model.specs.Histories.{IsDone}
use Rattle.register_model.specs.Orders.{order}
use Rattle.register_model.specs.declared.answer.Answer.{Answer}
use Rattle.register_model.specs.declared.call.Call.{Call}
use Rattle.register_model.specs.declared.note.Note.{Note}
use Rattle.step_plans.specs.Calls.{Call as StoreCall, AnswerOf}
use Rattle.step_plans.specs.Plans.{Out, nothing}
use Rattle.step_plans.specs.declared.error.PeerError.{PeerError}
use Rattle.peer_turns.specs.Deeds.{Deed}
use Rattle.wire_frames.specs.declared.message.Message.{Message}
use Rattle.world_spec.specs.Held.{Held, HeldStores}
use Rattle.world_spec.specs.Answers.{answered}
use Rattle.world_spec.specs.HeldLaws.{held_with}
use Rattle.world_spec.specs.Nodes.{Node, taken}
use Rattle.world_spec.specs.Runs.{Run}
use Rattle.world_stores.specs.Facts.{kept_of}
use Rattle.process_laws.specs.Acts.{Act, Begins, Does, Ends, Execution, Life, Spoil, Step, acts_of, group_of, notes_of}
use Rattle.process_laws.specs.Joined.{AreJoined}
use Rattle.process_laws.specs.Lives.{FactRead}

-- ## Stores in memory

-- they answer a call so, or refuse it so
abbrev pub memory_does : Held → (call : StoreCall) → AnswerOf call → Held → Type 0
memory_does s call answer t = ((answered call s).result ≡ Ok answer) × (t ≡ (answered call s).held)

abbrev pub memory_refuses : Held → StoreCall → PeerError → Held → Type 0
memory_refuses s call error t = ((answered call s).result ≡ Err error) × (t ≡ (answered call s).held)

-- they come to hold these nodes and objects
abbrev pub memory_spoils : Held → Entries → Entries → Held → Type 0
memory_spoils s nodes objects t = t ≡ record s { stores = with_contents nodes objects s.stores }

-- they are these stores, and no string was hashed
abbrev pub memory_holds : Held → HeldStores → Type 0
memory_holds s stores = s ≡ held_with stores []

abbrev pub fact_in_memory : Held → FactRead
fact_in_memory s = kept_of s.stores.facts.kept

-- the processes lived over stores in memory, and are joined
abbrev pub AreInMemory : Execution → Type 0
AreInMemory e = AreJoined memory_does memory_refuses memory_spoils memory_holds fact_in_memory e

-- ## A lone peer

-- one peer, which is all of its view
abbrev pub lone : List Life → List Act → Execution
lone lives acts = record { peers = 1; view = 1 ∷ []; lives = λ p. lives; acts = acts }

-- a tick of peer 1
abbrev pub ticks_out : Option Node → Out
ticks_out None = nothing
ticks_out (Some node) = (taken 1 Tick node).out

abbrev pub ticks_notes : Option Node → List Note
ticks_notes None = []
ticks_notes (Some node) = (taken 1 Tick node).notes

abbrev pub tick_in : Run → Deed
tick_in w = record { event = Tick; out = ticks_out (node_of w 1); notes = ticks_notes (node_of w 1) }

-- when all nodes were lost and an object came, in the first life, which began over what a process left that had
-- saved no fact; after that life; and after the second start, on a disk of facts that survived and two that did not
abbrev pub spoiled_world : Run
spoiled_world = run_on (Takes 1 Tick ∷ Spoils 1 [] ((4 ∷ [], 5 ∷ []) ∷ []) ∷ []) lone_opening

abbrev pub ended_world : Run
ended_world = run_on first_life lone_opening

abbrev pub found_again : Found
found_again = without_nodes ended_world

abbrev pub started_world : Run
started_world = run_on (Starts 1 found_again ∷ []) ended_world

-- two ticks, between which nodes and objects become others, and then a tick in a second life
abbrev pub first_of_two : Life
first_of_two = record { found = remains_found; stages = Step (tick_in lone_opening) ∷ Spoil [] ((4 ∷ [], 5 ∷ []) ∷ []) ∷ Step (tick_in spoiled_world) ∷ [] }

abbrev pub second_of_two : Life
second_of_two = record { found = found_again; stages = Step (tick_in started_world) ∷ [] }

abbrev pub two_lives : Execution
two_lives = let lives : List Life = first_of_two ∷ second_of_two ∷ [] in lone lives (acts_of 1 lives)

-- ## Broken premises

-- Each of two peers has one life, on what it finds. A message comes to the first that the second has not sent, since
-- it takes no step; the first puts this out on it, and both are cut off.
abbrev pub an_unsent_message : (first second : Found) → Message → Out → List Note → Execution
an_unsent_message first second message out notes =
    let d : Deed = record { event = Deliver 2 message; out = out; notes = notes } in
    record {
      peers = 2;
      view = 1 ∷ 2 ∷ [];
      lives = λ p. if p == 1 then record { found = first; stages = Step d ∷ [] } ∷ [] else record { found = second; stages = [] } ∷ [];
      acts = Does 1 d ∷ Ends 1 ∷ Ends 2 ∷ [];
    }

-- a process of the peer starts while its first process runs
abbrev pub two_processes : List Life → Found → Execution
two_processes lives found = lone lives (Begins 1 found ∷ [])

-- a process starts without the fact that the one before it saved
abbrev pub a_lost_fact : Execution
a_lost_fact = lone (record { found = nothing_found; stages = [] } ∷ record { found = nothing_found; stages = [] } ∷ []) (Ends 1 ∷ Begins 1 nothing_found ∷ Ends 1 ∷ [])

-- an answer is heard that completes this call, and the call has no place in the history of its key
pub record IsInvented (e : Execution) (c : Call) (a : Answer) : Type 0 where
  pub came : c ∈ calls_of (group_of e)
  pub answers : a.id ≡ c.id
  pub completes : IsDone a.reply
  pub nowhere : ¬ (c.id ∈ order (notes_of e.acts) c.key)
