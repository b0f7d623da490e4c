-- A peer between its steps.
use Rattle.leader.specs.declared.leader.Leader.{Leader}
use Rattle.leader_laws.specs.Steps.{IsAtRest}
use Rattle.peer_state.specs.declared.state.Phase.{Phase}
use Rattle.peer_state.specs.declared.state.Phase.TheVariants as phases
use Rattle.step_laws.specs.Whole.{IsWhole}

-- it holds of the leader, if the peer leads
abbrev pub IfLeading : (Leader → Type 0) → Phase → Type 0
IfLeading Q (phases.Leading l) = Q l.leader
IfLeading Q (phases.Following f) = Unit {0}
IfLeading Q (phases.Probing p) = Unit {0}
IfLeading Q (phases.Electing e) = Unit {0}

-- a leader has no task at hand, and each key without a call is idle
abbrev pub IsResting : Phase → Type 0
IsResting phase = IfLeading IsAtRest phase

-- the table of a leader is whole
abbrev pub LeadsWhole : Phase → Type 0
LeadsWhole phase = IfLeading IsWhole phase
