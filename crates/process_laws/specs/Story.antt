-- The story of two peers as an execution: an election, a write that is completed, a process that is killed and another
-- one that starts in its place, and a read. Their stores stand in memory.
use Rattle.std.specs.Prelude.{◌==◌, ◌++◌, if◌then◌else◌, ℕ, List, [], ◌∷◌, map, take, drop}
use Rattle.process_laws.specs.Moments.{Found, Moment, Takes, peer_of, stores_found}
use Rattle.process_laws.specs.GroupStory.{story}
use Rattle.process_laws.specs.GroupWitness.{nothing_found}
use Rattle.peer_spec.specs.Drives.{step_of}
use Rattle.peer_spec.specs.Starts.{start_of}
use Rattle.peer_server.specs.Starting.{served_mode}
use Rattle.peer_state.specs.declared.event.Event.{Event}
use Rattle.peer_state.specs.declared.state.State.{State}
use Rattle.step_plans.specs.Plans.{Ending, Finished, Out, Stopped, nothing}
use Rattle.peer_turns.specs.Deeds.{Deed}
use Rattle.world_spec.specs.HeldRuns.{Ended, run}
use Rattle.world_spec.specs.Held.{Held, HeldStores}
use Rattle.world_spec.specs.HeldLaws.{held_with}
use Rattle.world_stores.specs.Nodes.{top_of}
use Rattle.process_laws.specs.Acts.{Act, Execution, Life, acts_of, steps}

-- what a step puts out that comes to its end
abbrev pub out_of : Ending State → Out
out_of (Finished x out) = out
out_of (Stopped error) = nothing

abbrev pub deed_on : Event → Ended State → Deed
deed_on event e = record { event = event; out = out_of e.ending; notes = e.notes }

-- the steps of a peer on these events, from where another step ended
abbrev pub deeds_on : ℕ → List Event → Ending State → Held → List Deed
deeds_on p [] ending s = []
deeds_on p (event ∷ events) (Finished x out) s = let e : Ended State = run (step_of p event x) s [] in deed_on event e ∷ deeds_on p events e.ending e.held
deeds_on p (event ∷ events) (Stopped error) s = []

-- what these steps leave
abbrev pub left_after : ℕ → List Event → Ending State → Held → Held
left_after p [] ending s = s
left_after p (event ∷ events) (Finished x out) s = let e : Ended State = run (step_of p event x) s [] in left_after p events e.ending e.held
left_after p (event ∷ events) (Stopped error) s = s

-- how a process starts on what it finds
abbrev pub start_on : List ℕ → Found → Ended State
start_on view found = run (start_of served_mode view) (held_with (stores_found found) []) []

-- the life of a process of the peer that takes steps on these events
abbrev pub life_on : ℕ → List ℕ → Found → List Event → Life
life_on p view found events = record { found = found; stages = steps (deeds_on p events (start_on view found).ending (start_on view found).held) }

-- the events on which a peer takes steps
abbrev pub own_events : ℕ → List Moment → List Event
own_events p [] = []
own_events p (Takes q event ∷ ms) = if q == p then event ∷ own_events p ms else own_events p ms
own_events p (m ∷ ms) = own_events p ms

-- the acts of peer 1 and those of another one, in the order that the numbers of their peers give, and then the rest
abbrev pub in_turn : List ℕ → List Act → List Act → List Act
in_turn (p ∷ order) (a ∷ first) (b ∷ second) = if p == 1 then a ∷ in_turn order first (b ∷ second) else b ∷ in_turn order (a ∷ first) second
in_turn order first second = first ++ second

-- ## The story

-- the moments before and after the one at which peer 2 is killed and the one at which it starts again, and what is left
-- of its stores in between
abbrev pub before_kill : List Moment
before_kill = take 17 story.moments

abbrev pub after_start : List Moment
after_start = drop 19 story.moments

abbrev pub left_by_first : Held
left_by_first = let e : Ended State = start_on story.view nothing_found in left_after 2 (own_events 2 before_kill) e.ending e.held

abbrev pub found_by_second : Found
found_by_second = let s : HeldStores = left_by_first.stores in record { fact = s.facts.kept; nodes = s.tree.store.entries; top = top_of s.tree.store.tops; objects = s.backend.entries }

abbrev pub first_lives : List Life
first_lives = life_on 1 story.view nothing_found (own_events 1 story.moments) ∷ []

abbrev pub second_lives : List Life
second_lives = life_on 2 story.view nothing_found (own_events 2 before_kill) ∷ life_on 2 story.view found_by_second (own_events 2 after_start) ∷ []

abbrev pub two_peers : Execution
two_peers = record {
  peers = 2;
  view = story.view;
  lives = λ p. if p == 1 then first_lives else second_lives;
  acts = in_turn (map peer_of story.moments) (acts_of 1 first_lives) (acts_of 2 second_lives);
}
