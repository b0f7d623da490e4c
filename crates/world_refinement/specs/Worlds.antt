-- When a world agrees with a run of the abstract protocol: in its peers, its messages and its book.
use Rattle.std.specs.Prelude.{◌≡◌, ℕ, suc, false, nat_lt, All, List, Some, slice_get}
use Rattle.protocol_laws.specs.Protocol.{State, Step, IsRun, state_after}
use Rattle.protocol_laws.specs.Elections.{ElectionsAreSafe}
use Rattle.step_refinement.specs.ElectionRefinement.{IsListedPeer, IsListedMessage, PeerHolds, FrameHolds, IsOrderly}
use Rattle.protocol_laws.specs.Entries.{EntriesAreSafe}
use Rattle.peer_refinement.specs.WorldSpec.{HeldStores, held_with}
use Rattle.role_laws.specs.Roles.{Role, RolesHold}
use Rattle.role_laws.specs.Tables.{Ghosts}
use Rattle.network.specs.Mail.{MayBeSent}
use Rattle.peer_state.specs.declared.state.State.{State as PeerState}
use Rattle.register_model.specs.declared.note.Note.{Note}
use Rattle.step_refinement.specs.PeerRefinement.{hash_of, FirmAreKept}
use Rattle.role_laws.specs.Facts.{Lines}
use Rattle.tree_node.specs.declared.version.TreeVersion.{TreeVersion}
use Rattle.protocol_laws.specs.Versions.{VersionsAreSafe}
use Rattle.wire_frames.specs.declared.frame.Frame.{Frame}
use Rattle.world_spec.specs.Nodes.{Node, Up, Down}
use Rattle.world_spec.specs.Runs.{Run}
use Rattle.step_refinement.specs.Peers.{TreeHolds, DownHolds, SealFits, AcksSay, AsksFit, EpochsFit, PhaseFits, IsAtRest, FrameFits, SyncFits}
use Rattle.world_refinement.specs.Roles.{roles_of, said_in}
use Rattle.step_plans.specs.Saved.{bare}

-- ## Peers

-- a running peer q, over these stores, after these strings were hashed: no task is at hand; its tree is of this
-- version
pub record UpFits (version : TreeVersion) (lines : Lines) (strings hashed : List (List ℕ)) (s : State) (q : ℕ) (x : PeerState) (stores : HeldStores) : Type 0 where
  pub holds : PeerHolds s.objects.ledger q x (bare stores.facts.kept)
  pub listed : IsListedPeer lines.voting q x
  pub trust : s.objects.trusted q ≡ x.trusted
  pub tree : TreeHolds s strings q x.seal (held_with stores hashed)
  pub seal : SealFits lines x.seal
  pub mode : x.mode.tree ≡ version
  pub held : stores.tree.version ≡ version
  pub sync : SyncFits version lines s strings q x.fact x.trusted tree.last.map stores.tree.top x.sync
  pub fits : PhaseFits hash_of s x.phase
  pub rests : IsAtRest x.phase

-- a running peer, or one that is down
abbrev pub NodeFits : TreeVersion → Lines → List (List ℕ) → List (List ℕ) → State → ℕ → Node → Type 0
NodeFits version lines strings hashed s q (Up x stores) = UpFits version lines strings hashed s q x stores
NodeFits version lines strings hashed s q (Down stores) = DownHolds lines s strings hashed q stores

-- ## Messages

-- each of these messages from this number on
abbrev pub AllFrom : ℕ → (Frame → Type 0) → List Frame → Type 0
AllFrom first P sent = (n : ℕ) (f : Frame) → nat_lt n first ≡ false → slice_get sent n ≡ Some f → P f

-- what all messages ever sent hold, and those that may still be given to a peer: they are from this number on
pub record MessagesFit (version : TreeVersion) (first : ℕ) (lines : Lines) (strings : List (List ℕ)) (s : State) (sent : List Frame) : Type 0 where
  pub hold : All (FrameHolds s.objects.ledger) sent
  pub listed : All (λ (f : Frame). IsListedMessage lines.voting f.message) sent
  pub fit : AllFrom first (FrameFits version lines s strings) sent
  pub may : All MayBeSent sent

-- ## Worlds

-- the peers, the messages and the notes of a world agree with the run, but for the roles of the peers;
-- `strings` are those that the whole schedule hashes, the trees of running peers are of this version, and the
-- messages from this number on may still be given to a peer
pub record PartsHold (version : TreeVersion) (first : ℕ) (lines : Lines) (view : List ℕ) (strings : List (List ℕ)) (steps : List Step) (nodes : List Node) (sent : List Frame) (hashed : List (List ℕ)) (notes : List Note) : Type 0 where
  pub run : IsRun view steps
  pub orderly : IsOrderly (state_after view steps).objects.ledger
  pub acks : AcksSay (state_after view steps) strings
  pub asked : AsksFit (state_after view steps)
  pub epochs : EpochsFit (state_after view steps)
  pub firm : FirmAreKept lines (state_after view steps)
  pub nodes_fit : (place : ℕ) (node : Node) → slice_get nodes place ≡ Some node → NodeFits version lines strings hashed (state_after view steps) (suc place) node
  pub messages : MessagesFit version first lines strings (state_after view steps) sent
  pub noted : (state_after view steps).book.notes ≡ notes

-- the peers have these roles, and what was said holds
pub record RolesFit (view : List ℕ) (steps : List Step) (roles : ℕ → Role) (sent : List Frame) : Type 0 where
  pub ghosts : Ghosts
  pub hash : ghosts.hash ≡ hash_of
  pub hold : RolesHold ghosts (state_after view steps) roles (said_in sent)

-- the world agrees with the run
pub record WorldHolds (lines : Lines) (view : List ℕ) (strings : List (List ℕ)) (steps : List Step) (w : Run) : Type 0 where
  pub parts : PartsHold w.tree w.first_alive lines view strings steps w.nodes w.mail.sent w.hashed w.notes
  pub roles : RolesFit view steps (roles_of w.nodes) w.mail.sent

-- the laws of elections, of versions, and of calls and notes hold in the state
pub record IsSafe (s : State) : Type 0 where
  pub elections : ElectionsAreSafe s.objects.ledger
  pub versions : VersionsAreSafe s.objects
  pub entries : EntriesAreSafe s

-- the world agrees with a run, and so the laws of the protocol hold of it
pub record HasRun (lines : Lines) (view : List ℕ) (strings : List (List ℕ)) (w : Run) : Type 0 where
  pub steps : List Step
  pub holds : WorldHolds lines view strings steps w
  pub safe : IsSafe (state_after view steps)
