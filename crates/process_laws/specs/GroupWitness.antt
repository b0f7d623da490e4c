-- A lone peer that lives twice, and groups that break a premise.
use Rattle.std.specs.Prelude.{◌≡◌, ℕ, List, [], ◌∷◌, ◌++◌, Option, None, Some}
use Rattle.stored_formats.specs.declared.saved.SavedFact.{SavedFact}
use Rattle.peer_state.specs.declared.event.Event.TheVariants.{Tick, Deliver}
use Rattle.wire_frames.specs.declared.message.Message.{Message}
use Rattle.world_spec.specs.Runs.{Run}
use Rattle.process_laws.specs.Moments.{Moment, Starts, Takes, Spoils, IsCutOff, Found, Group, opening_of, run_on}
use Rattle.process_laws.specs.Premises.{kept_by, node_of}

-- nothing was found
abbrev pub nothing_found : Found
nothing_found = record { fact = None; nodes = []; top = None; objects = [] }

-- a top record and an object were found, which a process left that was cut off before it saved a fact
abbrev pub remains_found : Found
remains_found = record { fact = None; nodes = []; top = Some (1 ∷ []); objects = (2 ∷ [], 3 ∷ []) ∷ [] }

-- one peer, which is all of its view; its first process found these remains
abbrev pub lone : List Moment → Group
lone moments = record { peers = 1; view = 1 ∷ []; first = λ p. remains_found; moments = moments }

-- before all moments
abbrev pub lone_opening : Run
lone_opening = opening_of (lone [])

-- the disks of peer 1 with the fact that it saved, and without nodes and objects
abbrev pub without_nodes : Run → Found
without_nodes w = record { fact = kept_by (node_of w 1); nodes = []; top = None; objects = [] }

-- its first life: a step, all nodes are lost and an object comes, another step, and then it is cut off
abbrev pub first_life : List Moment
first_life = Takes 1 Tick ∷ Spoils 1 [] ((4 ∷ [], 5 ∷ []) ∷ []) ∷ Takes 1 Tick ∷ IsCutOff 1 ∷ []

-- its second life, on a disk of facts that survived and two that did not
abbrev pub second_life : List Moment
second_life = Starts 1 (without_nodes (run_on first_life lone_opening)) ∷ Takes 1 Tick ∷ []

abbrev pub two_lives : Group
two_lives = lone (first_life ++ second_life)

-- it starts while it runs
abbrev pub two_processes : Group
two_processes = lone (Starts 1 nothing_found ∷ [])

-- it starts without the fact that it saved
abbrev pub a_lost_fact : Group
a_lost_fact = lone (IsCutOff 1 ∷ Starts 1 nothing_found ∷ [])

-- a message comes to the first of two peers that the second has not sent
abbrev pub an_unsent_message : Message → Group
an_unsent_message message = record { peers = 2; view = 1 ∷ 2 ∷ []; first = λ p. nothing_found; moments = Takes 1 (Deliver 2 message) ∷ [] }

-- the fact that the peer has saved last after these moments
abbrev pub kept_after : Group → ℕ → List Moment → Option SavedFact
kept_after g p moments = kept_by (node_of (run_on moments (opening_of g)) p)

-- a process of a peer starts with the fact that the peer kept at an earlier moment, and has replaced since
pub record StartsOnOlder (g : Group) : Type 0 where
  pub early : List Moment
  pub since : List Moment
  pub later : List Moment
  pub peer : ℕ
  pub found : Found
  pub moments : g.moments ≡ (early ++ since) ++ Starts peer found ∷ later
  pub older : found.fact ≡ kept_after g peer early
  pub replaced : ¬ (kept_after g peer early ≡ kept_after g peer (early ++ since))
