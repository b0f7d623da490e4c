-- How long a peer has waited. A peer that reaches a limit moves on in the same step, so between
-- steps each age is below its limit.
use Rattle.std.specs.Prelude.{◌<◌, Bool, true, nat_lt}
use Rattle.phase_rules.specs.Preparing.{PreparesBelow6}
use Rattle.phase_rules.specs.Starting.{StartsBelow8}
use Rattle.phase_rules.specs.declared.election.Election.{Election}
use Rattle.phase_rules.specs.declared.election.Election.TheVariants.{Preparing, Starting}
use Rattle.peer_state.specs.declared.state.ChangeState.{ChangeState}
use Rattle.peer_state.specs.declared.state.ChangeState.TheVariants.{Settled, Wanted, Finishing}
use Rattle.peer_state.specs.declared.state.Phase.{Phase}
use Rattle.peer_state.specs.declared.state.Phase.TheVariants as phases

-- preparing for less than 6 ticks, or starting for less than 8
abbrev pub IsYoungElection : Election → Type 0
IsYoungElection e = PreparesBelow6 e × StartsBelow8 e

-- the epoch has been ending for less than 8 ticks, if it is ending
abbrev pub IsYoungChange : ChangeState → Type 0
IsYoungChange Settled = Unit {0}
IsYoungChange (Wanted change) = Unit {0}
IsYoungChange (Finishing f) = f.age < 8

abbrev pub IsYoung : Phase → Type 0
IsYoung (phases.Following f) = f.quiet < 6
IsYoung (phases.Probing p) = p.age < 6
IsYoung (phases.Electing e) = IsYoungElection e
IsYoung (phases.Leading l) = IsYoungChange l.change

-- the same conditions as tests
abbrev pub is_young_election : Election → Bool
is_young_election (Preparing base promises asked age) = nat_lt age 6
is_young_election (Starting new accepts age) = nat_lt age 8

abbrev pub is_young_change : ChangeState → Bool
is_young_change Settled = true
is_young_change (Wanted change) = true
is_young_change (Finishing f) = nat_lt f.age 8

abbrev pub is_young : Phase → Bool
is_young (phases.Following f) = nat_lt f.quiet 6
is_young (phases.Probing p) = nat_lt p.age 6
is_young (phases.Electing e) = is_young_election e
is_young (phases.Leading l) = is_young_change l.change
