-- Two peers: an election, a write that is completed, a process that is killed and starts again, and a read.
use Rattle.std.specs.Prelude.{ℕ, List, [], ◌∷◌, Option, None, Some, slice_get}
use Rattle.ens_base.specs.declared.command.Command.{Command}
use Rattle.ens_base.specs.declared.command.Command.TheVariants.{Get, Over}
use Rattle.ens_base.specs.declared.epoch.Version.{Version}
use Rattle.ens_base.specs.declared.reply.Reply.TheVariants.{Value, Ok}
use Rattle.peer_state.specs.declared.event.CallIn.{CallIn}
use Rattle.peer_state.specs.declared.event.Event.TheVariants as events
use Rattle.register_model.specs.declared.answer.Answer.{Answer}
use Rattle.register_model.specs.declared.call.Call.{Call}
use Rattle.wire_frames.specs.declared.frame.Frame.{Frame}
use Rattle.world_spec.specs.Nodes.{Node, Down}
use Rattle.world_spec.specs.Runs.{Run}
use Rattle.world_stores.specs.Nodes.{top_of}
use Rattle.process_laws.specs.Moments.{Moment, Starts, Takes, IsCutOff, Found, Group, after, opening_of}
use Rattle.process_laws.specs.Premises.{node_of}
use Rattle.process_laws.specs.GroupWitness.{nothing_found}

-- A move: a tick of a peer, the coming of the message of this number, the first of which has number 0, a call, a kill,
-- or a start on the disks as they were left.
pub data Move : Type 0 where
  Ticks : (peer : ℕ) → Move
  Comes : (number : ℕ) → Move
  Calls : (peer : ℕ) (call : CallIn) → Move
  Kills : (peer : ℕ) → Move
  Restarts : (peer : ℕ) → Move

-- the disks of a peer, as they were left
abbrev pub left_by : Option Node → Found
left_by (Some (Down s)) = record { fact = s.facts.kept; nodes = s.tree.store.entries; top = top_of s.tree.store.tops; objects = s.backend.entries }
left_by other = nothing_found

abbrev pub coming : Option Frame → Moment
coming (Some f) = Takes f.to (events.Deliver f.from f.message)
coming None = Takes 0 events.Tick

-- a move as a moment, in the world in which it is made
abbrev pub moment_in : Run → Move → Moment
moment_in w (Ticks p) = Takes p events.Tick
moment_in w (Comes n) = coming (slice_get w.mail.sent n)
moment_in w (Calls p call) = Takes p (events.Call call)
moment_in w (Kills p) = IsCutOff p
moment_in w (Restarts p) = Starts p (left_by (node_of w p))

-- moves, from this world on
abbrev pub moments_in : Run → List Move → List Moment
moments_in w [] = []
moments_in w (m ∷ ms) = moment_in w m ∷ moments_in (after (moment_in w m) w) ms

-- two peers, which are the view
abbrev pub pair : List Moment → Group
pair moments = record { peers = 2; view = 1 ∷ 2 ∷ []; first = λ p. nothing_found; moments = moments }

-- a call of client 32 on the key 6b
abbrev pub call_of : ℕ → Command → CallIn
call_of id command = record { from = 32; id = id; key = 0x6b ∷ []; command = command }

-- Peer 1 is elected after six ticks, and writes 76 under 6b; then peer 2 is killed and starts again, and peer 1 reads.
abbrev pub moves : List Move
moves = Ticks 1 ∷ Ticks 1 ∷ Ticks 1 ∷ Ticks 1 ∷ Ticks 1 ∷ Ticks 1 ∷ Comes 0 ∷ Comes 1 ∷ Comes 2 ∷ Comes 3 ∷ Comes 4 ∷ Comes 5 ∷ Calls 1 (call_of 1 (Over (0x76 ∷ []))) ∷ Comes 6 ∷ Comes 7 ∷ Comes 8 ∷ Comes 9 ∷ Kills 2 ∷ Restarts 2 ∷ Calls 1 (call_of 2 Get) ∷ Comes 10 ∷ Comes 11 ∷ []

abbrev pub story : Group
story = pair (moments_in (opening_of (pair [])) moves)

-- the first version of the first epoch
abbrev pub first_version : Version
first_version = record { epoch = record { count = 1; proposer = 1 }; seq = 1 }

-- the write came at moment 13, and the read at moment 20
abbrev pub story_calls : List Call
story_calls = record { id = 1; key = 0x6b ∷ []; command = Over (0x76 ∷ []); event = 13 } ∷ record { id = 2; key = 0x6b ∷ []; command = Get; event = 20 } ∷ []

-- the write is completed at moment 17, and the read returns what it wrote at moment 22
abbrev pub story_answers : List Answer
story_answers = record { id = 1; event = 17; reply = Ok first_version } ∷ record { id = 2; event = 22; reply = Value first_version (0x76 ∷ []) } ∷ []
