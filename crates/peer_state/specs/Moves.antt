-- How the phase and the trust of a peer change, and which calls are answered then.
use Rattle.std.specs.Option.{is_some}
use Rattle.std.specs.Prelude.{ℕ, Bool, true, false, ◌||◌, List, [], ◌++◌, map, Option, Some, None}
use Rattle.phase_rules.specs.declared.election.Election.{Election}
use Rattle.phase_rules.specs.declared.election.Election.TheVariants.{Preparing, Starting}
use Rattle.leader.specs.CallTable.{has_calls}
use Rattle.phase_rules.specs.declared.follower.Follower.{Follower}
use Rattle.leader.specs.LeaderOutput.{AnswerOut}
use Rattle.leader.specs.Leaders.{new_leader}
use Rattle.leader.specs.Ticks.{left_answer}
use Rattle.leader.specs.declared.leader.Leader.{Leader}
use Rattle.stored_formats.specs.declared.fact.Fact.{Fact}
use Rattle.stored_formats.specs.declared.saved.SavedFact.{SavedFact}
use Rattle.phase_rows.specs.Peers.{nobody}
use Rattle.phase_rules.specs.declared.probing.Probing.{Probing}
use Rattle.step_plans.specs.Plans.{Out}
use Rattle.step_plans.specs.Saved.{with_seal}
use Rattle.phase_rows.specs.declared.phase.Then.{Then}
use Rattle.phase_rows.specs.declared.phase.Then.TheVariants as thens
use Rattle.peer_state.specs.declared.state.ChangeState.TheVariants.{Settled}
use Rattle.peer_state.specs.declared.state.Leadership.{Leadership}
use Rattle.peer_state.specs.declared.state.Phase.{Phase}
use Rattle.peer_state.specs.declared.state.Phase.TheVariants as phases
use Rattle.peer_state.specs.declared.state.State.{State}

-- what the peer saved last: its fact, with its seal
abbrev pub saved_by : State → SavedFact
saved_by x = with_seal x.seal x.fact

-- whether the peer keeps a seal from the end of its next sync on: its fact has one, or it was started to
-- make one
abbrev pub keeps_seal : State → Bool
keeps_seal x = x.mode.sealing || is_some x.seal

-- following, with no quiet tick so far
abbrev pub follower : Phase
follower = phases.Following (record { quiet = 0 })

-- no sync runs
abbrev pub without_sync : State → State
without_sync x = record x { sync = None }

-- the peer follows, and no sync runs
abbrev pub followed : State → State
followed x = record x { phase = follower; sync = None }

-- a leader steps down, and any other phase stays
abbrev pub stopped_leading : Phase → Phase
stopped_leading (phases.Leading l) = follower
stopped_leading (phases.Following f) = phases.Following f
stopped_leading (phases.Probing p) = phases.Probing p
stopped_leading (phases.Electing e) = phases.Electing e

-- whether a call is unanswered
abbrev pub waits : Phase → Bool
waits (phases.Leading l) = has_calls l.leader.table.calls
waits (phases.Following f) = false
waits (phases.Probing p) = false
waits (phases.Electing e) = false

-- the answers to the unanswered calls of a leader that steps down: `timeout`, in order of arrival
abbrev pub timeouts : Phase → List AnswerOut
timeouts (phases.Leading l) = map left_answer l.leader.table.calls
timeouts (phases.Following f) = []
timeouts (phases.Probing p) = []
timeouts (phases.Electing e) = []

-- these answers are added to the output
abbrev pub and_answers : Out → List AnswerOut → Out
and_answers out more = record out { answers = out.answers ++ more }

-- a leader steps down if the rule asks for it
abbrev pub left : Bool → State → State
left true x = record x { phase = stopped_leading x.phase }
left false x = x

-- and its unanswered calls are answered
abbrev pub left_answers : Bool → State → Out → Out
left_answers true x out = and_answers out (timeouts x.phase)
left_answers false x out = out

-- a starting peer follows, and a preparing one stays
abbrev pub given_up : Election → Phase
given_up (Starting new accepts age) = follower
given_up (Preparing base promises asked age) = phases.Electing (Preparing base promises asked age)

-- a starting peer follows, and any other stays in its phase
abbrev pub without_candidacy : Phase → Phase
without_candidacy (phases.Electing e) = given_up e
without_candidacy (phases.Leading l) = phases.Leading l
without_candidacy (phases.Following f) = phases.Following f
without_candidacy (phases.Probing p) = phases.Probing p

-- the tree becomes untrusted, and no sync runs: a leader steps down, a starting peer follows, and any
-- other stays in its phase
abbrev pub untrusted : State → State
untrusted x = record x { trusted = false; phase = without_candidacy (stopped_leading x.phase); sync = None }

-- the peers that accepted the epoch that is starting
abbrev pub accepts_of : Election → List Bool
accepts_of (Preparing base promises asked age) = nobody
accepts_of (Starting new accepts age) = accepts

-- the peers that accepted the epoch that is starting, in any phase
abbrev pub accepts_in : Phase → List Bool
accepts_in (phases.Electing e) = accepts_of e
accepts_in (phases.Following f) = nobody
accepts_in (phases.Probing p) = nobody
accepts_in (phases.Leading l) = nobody

-- the peer leads
abbrev pub leading : Leadership → State → State
leading l x = record x { phase = phases.Leading l }

-- the peer leads with this leader, and the change of the view stays
abbrev pub with_leader : Leader → Leadership → Leadership
with_leader leader l = record l { leader = leader }

-- the peer `me` leads the epoch of this fact, with the acceptances so far, and no sync runs
abbrev pub led : ℕ → Fact → State → State
led me fact x = leading (record { leader = new_leader fact me (accepts_in x.phase); change = Settled }) (without_sync x)

-- the peer follows, with some quiet ticks counted
abbrev pub following : Follower → State → State
following f x = record x { phase = phases.Following f }

-- the peer probes
abbrev pub probing : Probing → State → State
probing p x = record x { phase = phases.Probing p }

-- the peer prepares or starts an epoch
abbrev pub electing : Election → State → State
electing e x = record x { phase = phases.Electing e }

-- the peer begins to probe, if this is given, and no sync runs
abbrev pub sought : Option Probing → State → State
sought None x = x
sought (Some p) x = probing p (without_sync x)

-- the peer begins an election, if this is given, and no sync runs
abbrev pub stood : Option Election → State → State
stood None x = x
stood (Some election) x = electing election (without_sync x)

-- a peer that waits for a sync follows, with no quiet tick; a leader stays until it steps down
abbrev pub waiting_phase : Phase → Phase
waiting_phase (phases.Leading l) = phases.Leading l
waiting_phase (phases.Following f) = follower
waiting_phase (phases.Probing p) = follower
waiting_phase (phases.Electing e) = follower

-- the peer waits for the end of a sync, if a sync begins or resumes
abbrev pub waiting_for : Then → State → State
waiting_for (thens.SyncOn fact) x = record x { phase = waiting_phase x.phase }
waiting_for thens.Resume x = record x { phase = waiting_phase x.phase }
waiting_for thens.Stay x = x
waiting_for thens.Follow x = x
waiting_for (thens.Lead fact) x = x
waiting_for thens.Untrust x = x
waiting_for thens.Put x = x
waiting_for (thens.Rule n) x = x
waiting_for (thens.OnKeys n) x = x

-- How the phase and the trust change after the message of a rule, at peer `me`. The object of a put
-- is written by the rule that asks for it; a sync that begins or resumes, and a rule that is named,
-- run next.
abbrev pub turned : ℕ → Then → State → State
turned me thens.Follow x = followed x
turned me (thens.Lead fact) x = led me fact x
turned me thens.Untrust x = untrusted x
turned me thens.Stay x = x
turned me thens.Put x = x
turned me thens.Resume x = x
turned me (thens.SyncOn fact) x = x
turned me (thens.Rule n) x = x
turned me (thens.OnKeys n) x = x

-- whether the peer no longer leads as it did, after what follows the message of a rule
abbrev pub ends_leading : Then → Bool
ends_leading thens.Follow = true
ends_leading (thens.Lead fact) = true
ends_leading thens.Untrust = true
ends_leading thens.Stay = false
ends_leading thens.Put = false
ends_leading thens.Resume = false
ends_leading (thens.SyncOn fact) = false
ends_leading (thens.Rule n) = false
ends_leading (thens.OnKeys n) = false

-- and the unanswered calls are answered if leading ends
abbrev pub turned_answers : Then → State → Out → Out
turned_answers then x out = left_answers (ends_leading then) x out
