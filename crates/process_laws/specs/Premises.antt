-- What is assumed of a group of peers, each premise by a name of its own.
use Rattle.std.specs.Prelude.{◌≡◌, ◌<◌, ◌≤◌, ◌^◌, ℕ, List, [], ◌∷◌, map, length, Option, None, Some, slice_get}
use Rattle.ens_base.specs.Limits.{IsKey, IsCommand}
use Rattle.ens_base.specs.Lists.{◌∈◌, AreDistinct}
use Rattle.ens_base.specs.View.{IsView}
use Rattle.stored_formats.specs.declared.saved.SavedFact.{SavedFact}
use Rattle.peer_state.specs.declared.event.Event.TheVariants as events
use Rattle.register_model.specs.declared.call.Call.{Call}
use Rattle.lexemes.specs.Spelling.{IsAmong}
use Rattle.wire_frames.specs.declared.frame.Frame.{Frame}
use Rattle.world_spec.specs.Held.{HasNoClash}
use Rattle.world_spec.specs.Nodes.{Node, Up, Down}
use Rattle.world_spec.specs.Runs.{Run, place_of}
use Rattle.process_laws.specs.Moments.{Moment, Starts, Takes, Spoils, IsCutOff, Group, peer_of, after, opening_of, run_of, calls_of}

-- of each of these moments and the world in which it happens
abbrev pub Always : (Run → Moment → Type 0) → List Moment → Run → Type 0
Always P [] w = Unit {0}
Always P (m ∷ ms) w = P w m × Always P ms (after m w)

-- of each moment of the group
abbrev pub AlwaysIn : Group → (Run → Moment → Type 0) → Type 0
AlwaysIn g P = Always P g.moments (opening_of g)

-- the node of a peer
abbrev pub node_of : Run → ℕ → Option Node
node_of w p = slice_get w.nodes (place_of p)

-- a process of the peer runs; none does
abbrev pub IsRunning : Option Node → Type 0
IsRunning (Some (Up x stores)) = Unit {0}
IsRunning other = ⊥

abbrev pub IsDown : Option Node → Type 0
IsDown (Some (Down stores)) = Unit {0}
IsDown other = ⊥

-- the moment is one of these peers
abbrev pub IsOfPeers : ℕ → Run → Moment → Type 0
IsOfPeers peers w m = IsAmong peers (peer_of m)

-- One process of a peer at a time: it starts while none runs, and one that takes a step, whose nodes and objects
-- become others, or that is cut off runs.
abbrev pub IsOneProcess : Run → Moment → Type 0
IsOneProcess w (Starts p found) = IsDown (node_of w p)
IsOneProcess w (Takes p event) = IsRunning (node_of w p)
IsOneProcess w (Spoils p nodes objects) = IsRunning (node_of w p)
IsOneProcess w (IsCutOff p) = IsRunning (node_of w p)

-- the fact that a peer saved last
abbrev pub kept_by : Option Node → Option SavedFact
kept_by None = None
kept_by (Some (Up x stores)) = stores.facts.kept
kept_by (Some (Down stores)) = stores.facts.kept

-- The saved fact survives: a process finds the one that its peer saved last. Of nodes and objects nothing is
-- assumed: they may be lost, changed, or those of another time or of another peer.
abbrev pub FactSurvives : Run → Moment → Type 0
FactSurvives w (Starts p found) = found.fact ≡ kept_by (node_of w p)
FactSurvives w m = Unit {0}

-- A message that comes was sent, by the peer that it names as its sender and to the one to which it comes.
-- It may be late, it may have come before, and many that were sent may never come.
abbrev pub WasSent : Run → Moment → Type 0
WasSent w (Takes p (events.Deliver from message)) = let f : Frame = record { from = from; to = p; message = message } in f ∈ w.mail.sent
WasSent w m = Unit {0}

-- A call keeps the limits of a frame, and a peer is asked for a view alone.
abbrev pub IsWithinLimits : Run → Moment → Type 0
IsWithinLimits w (Takes p (events.Call c)) = (c.id < 2 ^ 64) × IsKey c.key × IsCommand c.command
IsWithinLimits w (Takes p (events.Change view)) = IsView view
IsWithinLimits w m = Unit {0}

-- These calls are fewer than 2^60, and on fewer than 2^32 keys: a step makes some turns for each call that is
-- unanswered, and counts its turns in eight bytes; a segment of a tree counts its entries in four.
pub record AreFew (calls : List Call) : Type 0 where
  pub few : length calls < 2 ^ 60
  pub keys : List (List ℕ)
  pub few_keys : length keys < 2 ^ 32
  pub own_key : (c : Call) → c ∈ calls → c.key ∈ keys

-- the premises of the laws of groups
pub record IsSound (g : Group) : Type 0 where
  pub few_peers : g.peers ≤ 31
  pub is_view : IsView g.view
  pub few_moments : length g.moments < 2 ^ 64
  pub few_calls : AreFew (calls_of g)
  pub of_peers : AlwaysIn g (IsOfPeers g.peers)
  -- the first process of a peer finds no fact, and any nodes and objects: one that was cut off before it saved a
  -- fact may have left some
  pub first_without_fact : (p : ℕ) → IsAmong g.peers p → (g.first p).fact ≡ None
  pub one_process : AlwaysIn g IsOneProcess
  pub facts_survive : AlwaysIn g FactSurvives
  pub messages_were_sent : AlwaysIn g WasSent
  pub events_keep_limits : AlwaysIn g IsWithinLimits
  pub distinct_calls : AreDistinct (map (λ (c : Call). c.id) (calls_of g))
  pub no_clash : HasNoClash (run_of g).hashed
