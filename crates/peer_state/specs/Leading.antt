-- A tick of a leader: rule 5.
use Rattle.std.specs.Prelude.{ℕ, ◌+◌, Bool, false, true, if◌then◌else◌, List, Option, Some, None}
use Rattle.stored_formats.specs.declared.fact.Change.TheVariants.{Drop}
use Rattle.stored_formats.specs.declared.fact.Fact.{Fact}
use Rattle.leader.specs.LeaderOutput.{LeadOut, Outgoing}
use Rattle.leader.specs.Ticks.{is_to_end, row_5}
use Rattle.phase_rows.specs.declared.phase.Then.{Then}
use Rattle.phase_rows.specs.declared.phase.Then.TheVariants as thens
use Rattle.phase_rows.specs.declared.rules.PhaseRule.TheVariants as phase_rules
use Rattle.peer_state.specs.Moves.{with_leader}
use Rattle.peer_state.specs.declared.state.ChangeState.{ChangeState}
use Rattle.peer_state.specs.declared.state.ChangeState.TheVariants.{Settled, Wanted, Finishing}
use Rattle.peer_state.specs.declared.state.Leadership.{Leadership}

-- (a) an ending epoch is one tick older
abbrev pub older : ChangeState → ChangeState
older (Finishing f) = Finishing (record f { age = f.age + 1 })
older Settled = Settled
older (Wanted change) = Wanted change

-- of an ending epoch, the peers that accepted its second fact, and its age in ticks
abbrev pub end_of : ChangeState → Option (List Bool × ℕ)
end_of (Finishing f) = Some (f.accepts2, f.age)
end_of Settled = None
end_of (Wanted change) = None

-- (a) to (c), the calls, of a leader with this saved fact, after the age of its ending epoch was
-- increased
abbrev pub calls_ticked : Fact → Leadership → Leadership × LeadOut
calls_ticked fact l = (with_leader (row_5 false fact (end_of l.change) l.leader).0 l, (row_5 false fact (end_of l.change) l.leader).1)

-- (a) to (c)
abbrev pub row_5_calls : Fact → Leadership → Leadership × LeadOut
row_5_calls fact l = calls_ticked fact (record l { change = older l.change })

-- (d) each other member of the views of the epoch is sent one message
abbrev pub ticks : Fact → Leadership → List Outgoing
ticks fact l = (row_5 true fact (end_of l.change) l.leader).1.sends

-- (e) in an epoch of two views, the old view is to be dropped, unless a change has begun
abbrev pub wished : Fact → ChangeState → ChangeState
wished first Settled = if is_to_end None first then Wanted Drop else Settled
wished first (Wanted change) = Wanted change
wished first (Finishing f) = Finishing f

-- rule 25, if a change is wanted
abbrev pub begins : ChangeState → Then
begins (Wanted change) = thens.Rule phase_rules.BeginChange
begins Settled = thens.Stay
begins (Finishing f) = thens.Stay
