-- What all steps keep to, whatever the stores answer.
use Rattle.std.specs.Prelude.{◌≡◌, ◌≢◌, ℕ, Option, None, Some, All}
use Rattle.peer_state.specs.TreeSync.{Running, AsksOthers}
use Rattle.ens_base.specs.View.{IsPeer}
use Rattle.step_plans.specs.Calls.{Call, Save, Root, Find, Enter, ScanTree, ReadNode, Install, Fetch, Put, Hash, AnswerOf}
use Rattle.step_plans.specs.Plans.{Plan, Done, Say, Ask, Out}
use Rattle.step_plans.specs.declared.error.PeerError.{PeerError}
use Rattle.step_plans.specs.declared.error.PeerError.TheVariants as errors
use Rattle.step_plans.specs.declared.walked.Walked.{Walked}
use Rattle.step_plans.specs.declared.walked.Walked.TheVariants.{Reached, Broken}
use Rattle.leader_output.specs.declared.out.Outgoing.{Outgoing}
use Rattle.tree_node.specs.declared.version.TreeVersion.TheVariants.{Two}
use Rattle.tree_node.specs.Positions.{IsPosition}
use Rattle.wire_frames.specs.Messages.{Obeys}
use Rattle.peer_state.specs.declared.state.Phase.{Phase}
use Rattle.peer_state.specs.declared.state.Phase.TheVariants as phases
use Rattle.peer_state.specs.declared.state.State.{State}

-- a call that a step may make: it saves the fact, asks for the root of the tree, finds or enters an entry,
-- scans the tree, reads one of its nodes or builds it anew, fetches or puts an object, or hashes bytes
abbrev pub IsStepCall : Call → Type 0
IsStepCall (Save fact) = Unit {0}
IsStepCall Root = Unit {0}
IsStepCall (Find key) = Unit {0}
IsStepCall (Enter entry) = Unit {0}
IsStepCall ScanTree = Unit {0}
IsStepCall (ReadNode at) = Unit {0}
IsStepCall (Install entries) = Unit {0}
IsStepCall (Fetch key) = Unit {0}
IsStepCall (Put key bytes) = Unit {0}
IsStepCall (Hash bytes) = Unit {0}
IsStepCall other = ⊥

-- the message goes to a peer other than `me`, and obeys the grammar of frames
abbrev pub MaySend : ℕ → Outgoing → Type 0
MaySend me s = IsPeer s.to × (s.to ≢ me) × Obeys s.message

-- each message of the output may be sent
abbrev pub AllMayGo : ℕ → Out → Type 0
AllMayGo me out = All (MaySend me) out.sends

-- why a step stopped: a store failed, the hasher refused, or out of memory
abbrev pub IsCallError : PeerError → Type 0
IsCallError errors.Halted = ⊥
IsCallError (errors.BadFact why) = ⊥
IsCallError e = Unit {0}

-- why a step failed
abbrev pub IsStepError : PeerError → Type 0
IsStepError (errors.BadFact why) = ⊥
IsStepError e = Unit {0}

-- a leader sends as this peer
abbrev pub LeadsAs : ℕ → Phase → Type 0
LeadsAs me (phases.Leading l) = l.leader.me ≡ me
LeadsAs me (phases.Following f) = Unit {0}
LeadsAs me (phases.Probing p) = Unit {0}
LeadsAs me (phases.Electing e) = Unit {0}

-- a sync that runs asks other peers alone
abbrev pub SyncsAs : ℕ → Option Running → Type 0
SyncsAs me None = Unit {0}
SyncsAs me (Some r) = AsksOthers me r

-- a leader sends as this peer, and a sync that runs asks other peers alone
abbrev pub IsOwn : ℕ → State → Type 0
IsOwn me x = LeadsAs me x.phase × SyncsAs me x.sync

-- if a walk in the tree found damage, it was at a position of the tree
abbrev pub IsInTree : {A : Type 0} → Walked A → Type 0
IsInTree (Reached found) = Unit {0}
IsInTree (Broken at) = IsPosition Two at

-- an answer that tells of no damage outside the tree
abbrev pub IsSound : (call : Call) → AnswerOf call → Type 0
IsSound (Find key) found = IsInTree found
IsSound (Enter entry) end = IsInTree end
IsSound (ReadNode at) node = IsPosition Two at → IsInTree node
IsSound other answer = Unit {0}

-- each end that the plan may reach satisfies P, as long as the answers of the stores are sound
abbrev pub Reaches : (State → Out → Type 0) → Plan State → Type 0
Reaches P (Done x out) = P x out
Reaches P (Say note p) = Reaches P p
Reaches P (Ask call next) = (a : AnswerOf call) → IsSound call a → Reaches P (next a)
