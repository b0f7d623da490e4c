-- Stores in memory: finite maps in which each call takes effect unless it is planned to fail.
use Rattle.std.specs.Prelude.{◌≡◌, ◌≢◌, ℕ, List, Option, None, Some}
use Rattle.environment.specs.Failures.{Plan, next_failure, called, failed, left_by}
use Rattle.environment.specs.Maps.{Entries, value_at, with_value}
use Rattle.environment.specs.Stores.{BackendCall, Get, Put, BackendAnswer, NodeCall, Read, Write, Top, SetTop, NodeAnswer}
use Rattle.environment.specs.declared.errors.StoreError.{StoreError}
use Rattle.environment.specs.declared.errors.StoreError.TheVariants.{Failed, Memory}
use Rattle.environment.specs.declared.memory.failing_call.Leaves.{Leaves}
use Rattle.environment.specs.declared.memory.failing_call.Leaves.TheVariants.{Old}

-- a backend in memory: its entries, and the plan of its failures
pub record Objects : Type 0 where
  pub entries : Entries
  pub plan : Plan

-- the answer to a call, from these entries
abbrev pub object_answer : Entries → (call : BackendCall) → BackendAnswer call
object_answer es (Get key) = value_at key es
object_answer es (Put key bytes) = tt

-- these entries after a call took effect
abbrev pub objects_after : Entries → BackendCall → Entries
objects_after es (Get key) = es
objects_after es (Put key bytes) = with_value key bytes es

-- the call is not planned to fail, returns the answer from the entries, and takes effect
abbrev pub BackendDoes : Objects → (call : BackendCall) → BackendAnswer call → Objects → Type 0
BackendDoes s call answer t = (next_failure s.plan ≡ None) × (answer ≡ object_answer s.entries call) × (t ≡ record { entries = objects_after s.entries call; plan = called s.plan })

-- the call is planned to fail, with its effect or without it, as listed; when out of memory, the
-- entries are unchanged
abbrev pub BackendRefuses : Objects → BackendCall → StoreError → Objects → Type 0
BackendRefuses s call Failed t = (leaves : Leaves) × (next_failure s.plan ≡ Some leaves) × (t ≡ record { entries = left_by leaves s.entries (objects_after s.entries call); plan = failed s.plan })
BackendRefuses s call Memory t = (next_failure s.plan ≢ Some Old) × (t ≡ record { entries = s.entries; plan = called s.plan })

-- the content of a node store: the nodes, each under its digest, and the digest in the top record,
-- if there is a record
pub record Held : Type 0 where
  pub entries : Entries
  pub top : Option (List ℕ)

-- a node store in memory: its content, and the plan of its failures
pub record Nodes : Type 0 where
  pub held : Held
  pub plan : Plan

-- the answer to a call, from this content
abbrev pub node_answer : Held → (call : NodeCall) → NodeAnswer call
node_answer h (Read digest) = value_at digest h.entries
node_answer h (Write digest bytes) = tt
node_answer h Top = h.top
node_answer h (SetTop digest) = tt

-- this content after a call took effect
abbrev pub nodes_after : Held → NodeCall → Held
nodes_after h (Read digest) = h
nodes_after h (Write digest bytes) = record h { entries = with_value digest bytes h.entries }
nodes_after h Top = h
nodes_after h (SetTop digest) = record h { top = Some digest }

-- the call is not planned to fail, returns the answer from the content, and takes effect
abbrev pub NodesDo : Nodes → (call : NodeCall) → NodeAnswer call → Nodes → Type 0
NodesDo s call answer t = (next_failure s.plan ≡ None) × (answer ≡ node_answer s.held call) × (t ≡ record { held = nodes_after s.held call; plan = called s.plan })

-- the call is planned to fail, with its effect or without it, as listed; when out of memory, the
-- content is unchanged
abbrev pub NodesRefuse : Nodes → NodeCall → StoreError → Nodes → Type 0
NodesRefuse s call Failed t = (leaves : Leaves) × (next_failure s.plan ≡ Some leaves) × (t ≡ record { held = left_by leaves s.held (nodes_after s.held call); plan = failed s.plan })
NodesRefuse s call Memory t = (next_failure s.plan ≢ Some Old) × (t ≡ record { held = s.held; plan = called s.plan })
