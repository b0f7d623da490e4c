-- What is assumed of an execution of several processes, each premise by a name, and what follows.
use Rattle.std.specs.Prelude.{◌≡◌, ◌<◌, ◌≤◌, ◌^◌, ℕ, List, [], ◌∷◌, ◌++◌, map, length, Option}
use Rattle.process_laws.specs.Memory.{StandsFor}
use Rattle.disk_stores.specs.DiskCalls.{HoldsNodes, HoldsObjects}
use Rattle.ens_base.specs.Lists.{◌∈◌, AreDistinct}
use Rattle.ens_base.specs.View.{IsView}
use Rattle.environment.specs.Maps.{Entries}
use Rattle.environment.specs.MemStores.{Held as NodesHeld}
use Rattle.fact_store.specs.Held.{held_kept}
use Rattle.process_laws.specs.Laws.{IsRunOfProtocol}
use Rattle.process_laws.specs.Moments.{run_of, calls_of, answers_of}
use Rattle.process_laws.specs.Premises.{AreFew, IsSound}
use Rattle.peer_server.specs.DiskPeers.{OnDisks, disks_do, disks_refuse}
use Rattle.peer_state.specs.declared.event.Event.{Event}
use Rattle.peer_state.specs.declared.event.Event.TheVariants as events
use Rattle.register_model.specs.Histories.{IsLegal}
use Rattle.register_model.specs.Orders.{order}
use Rattle.register_model.specs.declared.answer.Answer.{Answer}
use Rattle.register_model.specs.declared.call.Call.{Call}
use Rattle.lexemes.specs.Spelling.{IsAmong}
use Rattle.step_plans.specs.Calls.{AnswerOf}
use Rattle.step_plans.specs.Calls as plans
use Rattle.step_plans.specs.declared.error.PeerError.{PeerError}
use Rattle.wire_frames.specs.declared.frame.Frame.{Frame}
use Rattle.world_spec.specs.Held.{HasNoClash, HeldStores}
use Rattle.process_laws.specs.Acts.{Act, Does, Execution, acts_of, actor, answers_from, frames_by, group_of, notes_of, own_acts, sent_by}
use Rattle.process_laws.specs.Clients.{ClientsKeepTime}
use Rattle.process_laws.specs.Lives.{AreLives, FactRead}

-- the message is among these frames, from the peer that it names as its sender
abbrev pub IsAmongSent : List Frame → ℕ → Event → Type 0
IsAmongSent sent p (events.Deliver from message) = let f : Frame = record { from = from; to = p; message = message } in f ∈ sent
IsAmongSent sent p event = Unit {0}

abbrev pub WasPutOut : List Frame → Act → Type 0
WasPutOut sent (Does p d) = IsAmongSent sent p d.event
WasPutOut sent act = Unit {0}

-- each message that comes was put out by an earlier step, or is among these frames
abbrev pub ArePutOut : List Frame → List Act → Type 0
ArePutOut sent [] = Unit {0}
ArePutOut sent (a ∷ acts) = WasPutOut sent a × ArePutOut (sent ++ frames_by a) acts

module _ {P : Type 0} (does : P → (call : plans.Call) → AnswerOf call → P → Type 0) (refuses : P → plans.Call → PeerError → P → Type 0) (spoils : P → Entries → Entries → P → Type 0)
    (holds : P → HeldStores → Type 0) (fact_on : P → FactRead) where
  -- The processes are those of at most 31 peers of one view, and they lived their lives. In the common order
  -- the acts of each peer are those of its lives, one life after another; a message comes after it was put
  -- out, though perhaps late, again, or never; ids of calls do not repeat; and no two strings that are
  -- hashed have one MD5.
  pub record AreJoined (e : Execution) : Type 0 where
    pub few_peers : e.peers ≤ 31
    pub is_view : IsView e.view
    pub few_acts : length e.acts < 2 ^ 64
    pub few_calls : AreFew (calls_of (group_of e))
    pub of_peers : (a : Act) → a ∈ e.acts → IsAmong e.peers (actor a)
    pub lived : (p : ℕ) → IsAmong e.peers p → AreLives does refuses spoils holds fact_on e.view p (e.lives p)
    pub in_order : (p : ℕ) → IsAmong e.peers p → own_acts p e.acts ≡ acts_of p (e.lives p)
    pub messages_were_sent : ArePutOut [] e.acts
    pub distinct_calls : AreDistinct (map (λ (c : Call). c.id) (calls_of (group_of e)))
    pub no_clash : HasNoClash (run_of (group_of e)).hashed

-- The order of the acts alone: each is one of the peers, and those of a peer are those of its lives, one after another.
pub record AreInOrder (e : Execution) : Type 0 where
  pub of_peers : (a : Act) → a ∈ e.acts → IsAmong e.peers (actor a)
  pub in_order : (p : ℕ) → IsAmong e.peers p → own_acts p e.acts ≡ acts_of p (e.lives p)

-- the processes are a sound group, which sends, answers and notes what their steps did
pub record AreOneGroup (e : Execution) : Type 0 where
  pub sound : IsSound (group_of e)
  pub sent : (run_of (group_of e)).mail.sent ≡ sent_by e.acts
  pub answers : answers_of (group_of e) ≡ answers_from 1 e.acts
  pub notes : (run_of (group_of e)).notes ≡ notes_of e.acts

-- these answers were given
abbrev pub WereGiven : Execution → List Answer → Type 0
WereGiven e heard = (a : Answer) → a ∈ heard → a ∈ answers_from 1 e.acts

-- of each key, the order that follows from the notes is a legal history of the calls that came and of any
-- of the answers that were given
abbrev pub IsLinearizable : Execution → Type 0
IsLinearizable e = (heard : List Answer) → WereGiven e heard → (key : List ℕ) → IsLegal (calls_of (group_of e)) heard key (order (notes_of e.acts) key)

-- ## On disks

-- the fact that stores on disks keep, in memory until it is committed
abbrev pub fact_on_disk : {D : Type 0} → OnDisks D → FactRead
fact_on_disk s = held_kept s.0.facts

-- The nodes and the objects on disks became these, and from then on the disks answer as these maps do. The fact, the
-- top record of the tree, and the root and the version of the open tree stay.
pub record AreSpoiled {D : Type 0} (seen : D → Option (List ℕ)) (s : OnDisks D) (nodes objects : Entries) (t : OnDisks D) : Type 0 where
  pub objects_held : HoldsObjects seen t.0.backend objects
  pub nodes_held : (held : NodesHeld) → HoldsNodes seen s.0.tree.store held → HoldsNodes seen t.0.tree.store (record held { entries = nodes })
  pub fact : held_kept t.0.facts ≡ held_kept s.0.facts
  pub root : t.0.tree.top ≡ s.0.tree.top
  pub version : t.0.tree.version ≡ s.0.tree.version

-- the processes lived on disks that tell their bytes, and are joined
abbrev pub AreOnDisks : {D : Type 0} → (D → Option (List ℕ)) → (D → ℕ) → Execution → Type 0
AreOnDisks seen faults e = AreJoined (disks_do seen faults) (disks_refuse seen faults) (AreSpoiled seen) (StandsFor seen) fact_on_disk e

abbrev pub ProcessesAreOneGroup : {D : Type 0} → (D → Option (List ℕ)) → (D → ℕ) → Type 0
ProcessesAreOneGroup seen faults = (e : Execution) → AreOnDisks seen faults e → AreOneGroup e

abbrev pub ProcessesRefine : {D : Type 0} → (D → Option (List ℕ)) → (D → ℕ) → Type 0
ProcessesRefine seen faults = (e : Execution) → AreOnDisks seen faults e → IsRunOfProtocol (group_of e)

abbrev pub ProcessesAreLinearizable : {D : Type 0} → (D → Option (List ℕ)) → (D → ℕ) → Type 0
ProcessesAreLinearizable seen faults = (e : Execution) → AreOnDisks seen faults e → IsLinearizable e

abbrev pub ProcessesKeepTime : {D : Type 0} → (D → Option (List ℕ)) → (D → ℕ) → Type 0
ProcessesKeepTime seen faults = (e : Execution) → AreOnDisks seen faults e → ClientsKeepTime e
