-- A step of a peer beside a run of the abstract protocol: where a step is, and how it ends. A write to
-- its stores may be refused, and then the step ends, and the peer is down.
use Rattle.std.specs.Prelude.{All, ◌≡◌, ◌≢◌, ℕ, List, [], ◌++◌, Some}
use Rattle.ens_base.specs.Lists.{◌∈◌}
use Rattle.ens_base.specs.View.{IsPeer}
use Rattle.protocol_laws.specs.Ledger.{put}
use Rattle.protocol_laws.specs.Protocol.{State, Step, IsRun, state_after}
use Rattle.protocol_laws.specs.Stays.{EntriesStay}
use Rattle.election_refinement.specs.Keeps.{Keeps}
use Rattle.election_refinement.specs.Listed.{IsListedPeer, IsListedMessage}
use Rattle.election_refinement.specs.Refinement.{PeerHolds, MessageHolds, SendHolds, IsOrderly}
use Rattle.peer_refinement.specs.WorldSpec.{Held}
use Rattle.role_laws.specs.Roles.{Role, Follows, Said, Sent, RolesHold}
use Rattle.role_laws.specs.Tables.{Ghosts}
use Rattle.leader_refinement.specs.Seen.{owed_after}
use Rattle.leader_output.specs.declared.out.Outgoing.{Outgoing}
use Rattle.peer_state.specs.declared.event.Event.{Event}
use Rattle.peer_state.specs.declared.event.Event.TheVariants as events
use Rattle.peer_state.specs.declared.state.State.{State as PeerState}
use Rattle.register_model.specs.declared.note.Note.{Note}
use Rattle.step_plans.specs.Plans.{Ending, Finished, Stopped, Out}
use Rattle.step_plans.specs.Saved.{bare}
use Rattle.wire_frames.specs.Messages.{Obeys}
use Rattle.wire_frames.specs.declared.message.Message.{Message}
use Rattle.step_refinement.specs.Keys.{AreFew}
use Rattle.step_refinement.specs.Peers.{TreeHolds, DownHolds, SealFits, AcksSay, AsksFit, PhaseFits, TaskFits, IsAtRest, MessageFits, SendFits, SyncFits}
use Rattle.step_refinement.specs.Roles.{role_in, said_of, said_in_sends}
use Rattle.peer_refinement.specs.Naming.{hash_of}
use Rattle.role_laws.specs.Facts.{Lines, AreFirm}
use Rattle.peer_refinement.specs.SyncLaws.{FirmAreKept}
use Rattle.tree_node.specs.declared.version.TreeVersion.{TreeVersion}
use Rattle.peer_refinement.specs.Trees.{AreFree}

-- what is fixed during a step: what the lines of the schedule say, the version of the trees of all peers that
-- run, the opening view, the run before it,
-- newest step first, the peer, the roles of all peers and what was said before, and all strings that the
-- whole schedule hashes, which are free of clashes. Of each view that may vote more than half of the
-- members are firm, and firm peers were never reverted. The calls that came are few, and each keeps its limits.
pub record Scene : Type 0 where
  pub lines : Lines
  pub version : TreeVersion
  pub sound : AreFirm lines
  pub view : List ℕ
  pub begun : List Step
  pub peer : ℕ
  pub is_peer : IsPeer peer
  pub roles : ℕ → Role
  pub said : List Sent
  pub strings : List (List ℕ)
  pub free : AreFree strings
  pub few : AreFew (state_after view begun).book.calls
  pub asked : AsksFit (state_after view begun)
  pub firm : FirmAreKept lines (state_after view begun)

-- the state of the protocol at the beginning of the step
abbrev pub state_before : Scene → State
state_before c = state_after c.view c.begun

-- from s to t peer p takes steps: the trees of the other peers, the calls, the answers and the time
-- stay as they were, and no tree is reverted
pub record Elsewhere (p : ℕ) (s t : State) : Type 0 where
  pub ledger : Keeps s.objects.ledger t.objects.ledger p
  pub map : (q : ℕ) → (p ≡ q → ⊥) → t.objects.map q ≡ s.objects.map q
  pub visible : (q : ℕ) → (p ≡ q → ⊥) → t.objects.visible q ≡ s.objects.visible q
  pub trusted : (q : ℕ) → (p ≡ q → ⊥) → t.objects.trusted q ≡ s.objects.trusted q
  pub reverted : (q : ℕ) → t.objects.reverted q ≡ s.objects.reverted q
  pub stays : EntriesStay s t
  pub calls : t.book.calls ≡ s.book.calls
  pub called : t.book.called ≡ s.book.called
  pub answers : t.book.answers ≡ s.book.answers
  pub answered : t.book.answered ≡ s.book.answered
  pub now : t.book.now ≡ s.book.now

module _ (c : Scene) where
  open c use {lines, version, view, strings, peer as p}

  -- the run that the step has reached: its steps, newest first, and what the laws remember
  pub record Reached : Type 0 where
    pub steps : List Step
    pub run : IsRun view steps
    pub ghosts : Ghosts
    pub hash : ghosts.hash ≡ hash_of
    pub elsewhere : Elsewhere p (state_before c) (state_after view steps)
    pub orderly : IsOrderly (state_after view steps).objects.ledger
    pub acks : AcksSay (state_after view steps) strings

  -- the state that the step has reached
  abbrev pub now : Reached → State
  now r = state_after view r.steps

  -- the running peer, with a task on this key if it leads and has one, its stores, its output and its
  -- notes agree with the run that the step has reached; it and its tree are of the version of the step
  pub record Here (key : List ℕ) (x : PeerState) (h : Held) (out : Out) (notes : List Note) : Type 0 where
    pub reached : Reached
    pub roles : RolesHold reached.ghosts (now reached) (put c.roles p (role_in key x.phase (owed_after [] out.answers))) (said_in_sends p out.sends ++ c.said)
    pub peer : PeerHolds (now reached).objects.ledger p x (bare h.stores.facts.kept)
    pub listed : IsListedPeer lines.voting p x
    pub trust : (now reached).objects.trusted p ≡ x.trusted
    pub tree : TreeHolds (now reached) strings p x.seal h
    pub seal : SealFits lines x.seal
    pub mode : x.mode.tree ≡ version
    pub held : h.stores.tree.version ≡ version
    pub sync : SyncFits version lines (now reached) strings p x.fact x.trusted tree.last.map h.stores.tree.top x.sync
    pub fits : PhaseFits reached.ghosts.hash (now reached) x.phase
    pub task : TaskFits (now reached) key x.phase
    pub noted : (now reached).book.notes ≡ (state_before c).book.notes ++ notes
    pub sends : All (SendHolds (now reached).objects.ledger p) out.sends
    pub listed_sends : All (λ (o : Outgoing). IsListedMessage lines.voting o.message) out.sends
    pub fits_sends : All (SendFits version lines (now reached) strings p) out.sends

  -- and no task is at hand; then the key says nothing
  abbrev pub AtRest : List ℕ → PeerState → Held → Out → List Note → Type 0
  AtRest key x h out notes = Here key x h out notes × IsAtRest x.phase

  -- a message that was sent comes, and what it says holds
  pub record MessageComes (from : ℕ) (message : Message) (s : State) : Type 0 where
    pub is_peer : IsPeer from
    pub other : from ≢ p
    pub obeys : Obeys message
    pub holds : MessageHolds s.objects.ledger from message
    pub listed : IsListedMessage lines.voting message
    pub fits : MessageFits version lines s strings from message
    pub said : (m : Said) → said_of message ≡ Some m → record { from = from; said = m } ∈ c.said

  -- what an event is about: a view that is asked for may vote. Calls are treated apart, since their
  -- coming is a step of the protocol.
  abbrev pub EventComes : Event → State → Type 0
  EventComes (events.Deliver from message) s = MessageComes from message s
  EventComes events.Tick s = Unit {0}
  EventComes (events.Change asked) s = asked ∈ lines.voting
  EventComes other s = ⊥

  -- a refusal has ended the step: the run that it has reached, at the end of which the peer is down, what
  -- its stores hold, and its notes; its answers are not given, and its messages are not sent
  pub record Rests (h : Held) (notes : List Note) : Type 0 where
    pub reached : Reached
    pub roles : RolesHold reached.ghosts (now reached) (put c.roles p (Follows [])) c.said
    pub down : DownHolds lines (now reached) strings h.hashed p h.stores
    pub noted : (now reached).book.notes ≡ (state_before c).book.notes ++ notes

  -- the step has ended well, and no task is at hand; or the peer is down
  abbrev pub EndsBy : Ending PeerState → Held → List Note → Type 0
  EndsBy (Finished x out) h notes = AtRest [] x h out notes
  EndsBy (Stopped e) h notes = Rests h notes
