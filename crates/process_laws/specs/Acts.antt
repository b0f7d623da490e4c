-- What the processes of some peers do, in one order, and what their steps put out.
use Rattle.std.specs.Prelude.{◌==◌, ◌+◌, ◌++◌, if◌then◌else◌, ℕ, List, [], ◌∷◌, map}
use Rattle.environment.specs.Maps.{Entries}
use Rattle.process_laws.specs.Moments.{Found, Group, Moment, Starts, Takes, IsCutOff, peer_of, Spoils as spoils}
use Rattle.process_laws.specs.GroupWitness.{nothing_found}
use Rattle.register_model.specs.declared.answer.Answer.{Answer}
use Rattle.register_model.specs.declared.note.Note.{Note}
use Rattle.step_plans.specs.LeaderOutput.{AnswerOut}
use Rattle.peer_turns.specs.Deeds.{Deed}
use Rattle.wire_frames.specs.declared.frame.Frame.{Frame}
use Rattle.world_spec.specs.Runs.{frame_from}

-- A later process of a peer starts on what it finds on the disks; a process takes a step, to its end; between two
-- steps the nodes and the objects on its disks become others; or it is cut off.
pub data Act : Type 0 where
  Begins : (peer : ℕ) (found : Found) → Act
  Does : (peer : ℕ) (deed : Deed) → Act
  Spoils : (peer : ℕ) (nodes objects : Entries) → Act
  Ends : (peer : ℕ) → Act

-- A stage in the life of a process: it takes a step, to its end, or the nodes and the objects on its disks become
-- others. Some or all of these may be changed, lost, forgotten, or come back.
pub data Stage : Type 0 where
  Step : (deed : Deed) → Stage
  Spoil : (nodes objects : Entries) → Stage

-- the life of a process: what it found on the disks when it started, and what happened until it was cut off
pub record Life : Type 0 where
  pub found : Found
  pub stages : List Stage

-- these steps, on disks that answer as maps all the time
abbrev pub steps : List Deed → List Stage
steps deeds = map Step deeds

-- the steps among these stages
abbrev pub deeds_in : List Stage → List Deed
deeds_in [] = []
deeds_in (Step d ∷ stages) = d ∷ deeds_in stages
deeds_in (Spoil nodes objects ∷ stages) = deeds_in stages

-- Some peers, from 1 on; the view in which their ensemble opens; the lives of the processes of each peer,
-- one after another; and what all of them did, in one order.
pub record Execution : Type 0 where
  pub peers : ℕ
  pub view : List ℕ
  pub lives : ℕ → List Life
  pub acts : List Act

-- ## One peer

-- a stage as an act
abbrev pub act_of : ℕ → Stage → Act
act_of p (Step d) = Does p d
act_of p (Spoil nodes objects) = Spoils p nodes objects

-- a process goes through these stages and is cut off, and then the rest follows
abbrev pub and_stages : ℕ → List Stage → List Act → List Act
and_stages p [] rest = Ends p ∷ rest
and_stages p (s ∷ stages) rest = act_of p s ∷ and_stages p stages rest

-- the acts of some lives after the first, one life after another
abbrev pub later_acts : ℕ → List Life → List Act
later_acts p [] = []
later_acts p (l ∷ ls) = Begins p l.found ∷ and_stages p l.stages (later_acts p ls)

-- The acts of all lives of a peer. Its first start is none of them: it finds no fact and puts nothing out, so
-- it may as well come before all acts.
abbrev pub acts_of : ℕ → List Life → List Act
acts_of p [] = []
acts_of p (l ∷ ls) = and_stages p l.stages (later_acts p ls)

-- ## As moments

abbrev pub moment_of : Act → Moment
moment_of (Begins p found) = Starts p found
moment_of (Does p d) = Takes p d.event
moment_of (Spoils p nodes objects) = spoils p nodes objects
moment_of (Ends p) = IsCutOff p

-- what the first process of a peer found; nothing, if there was none
abbrev pub first_found : List Life → Found
first_found [] = nothing_found
first_found (l ∷ ls) = l.found

abbrev pub group_of : Execution → Group
group_of e = record { peers = e.peers; view = e.view; first = λ p. first_found (e.lives p); moments = map moment_of e.acts }

-- the peer of an act
abbrev pub actor : Act → ℕ
actor a = peer_of (moment_of a)

-- the acts of this peer among these
abbrev pub own_acts : ℕ → List Act → List Act
own_acts p [] = []
own_acts p (a ∷ acts) = if actor a == p then a ∷ own_acts p acts else own_acts p acts

-- ## What steps put out

-- the messages, as frames
abbrev pub frames_by : Act → List Frame
frames_by (Does p d) = map (frame_from p) d.out.sends
frames_by act = []

abbrev pub sent_by : List Act → List Frame
sent_by [] = []
sent_by (a ∷ acts) = frames_by a ++ sent_by acts

-- the notes
abbrev pub noted_by : Act → List Note
noted_by (Does p d) = d.notes
noted_by act = []

abbrev pub notes_of : List Act → List Note
notes_of [] = []
notes_of (a ∷ acts) = noted_by a ++ notes_of acts

-- the answers, each at the number of its act; the first act has this number
abbrev pub given_at : ℕ → AnswerOut → Answer
given_at number a = record { id = a.id; event = number; reply = a.reply }

abbrev pub answers_at : ℕ → Act → List Answer
answers_at number (Does p d) = map (given_at number) d.out.answers
answers_at number act = []

abbrev pub answers_from : ℕ → List Act → List Answer
answers_from number [] = []
answers_from number (a ∷ acts) = answers_at number a ++ answers_from (number + 1) acts
