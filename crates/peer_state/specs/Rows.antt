-- The rules as rows: the state after each rule, and what it saves, sends and names. `me` is the
-- number of the peer.
use Rattle.std.specs.Prelude.{ℕ, Bool, true, false, ◌&&◌, ◌==◌, if◌then◌else◌, List, Option, Some, None}
use Rattle.leader.specs.CallTable.{has_calls}
use Rattle.ens_base.specs.declared.epoch.Epoch.{Epoch}
use Rattle.phase_rules.specs.Ballots.{row_11, row_15}
use Rattle.phase_rules.specs.Preparing.{row_3, row_10, row_12, row_13}
use Rattle.phase_rules.specs.Starting.{row_4, row_14, row_17}
use Rattle.phase_rules.specs.declared.election.Election.{Election}
use Rattle.phase_rules.specs.declared.election.Election.TheVariants.{Preparing, Starting}
use Rattle.phase_rules.specs.Announcements.{row_16, row_18, row_19}
use Rattle.phase_rules.specs.Follower.{row_2}
use Rattle.phase_rules.specs.Requests.{row_20}
use Rattle.leader.specs.declared.leader.Leader.{Leader}
use Rattle.stored_formats.specs.declared.fact.Change.{Change}
use Rattle.stored_formats.specs.declared.fact.Change.TheVariants.{Add}
use Rattle.stored_formats.specs.declared.fact.Fact.{Fact}
use Rattle.phase_rows.specs.Orders.{is_same}
use Rattle.phase_rows.specs.Peers.{joined}
use Rattle.phase_rows.specs.Rows.{silent}
use Rattle.tree_sync.specs.Running.{Running}
use Rattle.phase_rules.specs.Probing.{row_3 as probing_row_3, row_7, row_8, row_8_probe, row_9}
use Rattle.phase_rules.specs.declared.probing.Probing.{Probing}
use Rattle.phase_rules.specs.Changes.{row_24, row_25}
use Rattle.phase_rules.specs.Finishing.{row_17 as finishing_row_17, row_26}
use Rattle.phase_rules.specs.declared.finishing.Finishing.{Finishing}
use Rattle.wire_frames.specs.declared.message.Message.{Message}
use Rattle.wire_frames.specs.declared.message.Message.TheVariants as messages
use Rattle.wire_frames.specs.declared.message.NackCause.{NackCause}
use Rattle.phase_rows.specs.declared.phase.PhaseOut.{PhaseOut}
use Rattle.phase_rows.specs.declared.phase.Then.TheVariants as thens
use Rattle.phase_rows.specs.declared.rules.PhaseRule.{PhaseRule}
use Rattle.phase_rows.specs.declared.rules.PhaseRule.TheVariants as phase_rules
use Rattle.peer_state.specs.Moves.{electing, following, leading, probing, sought, stood, waiting_for}
use Rattle.peer_state.specs.declared.state.ChangeState.{ChangeState}
use Rattle.peer_state.specs.declared.state.ChangeState.TheVariants.{Settled, Wanted, Finishing as Finishes}
use Rattle.peer_state.specs.declared.state.Leadership.{Leadership}
use Rattle.peer_state.specs.declared.state.Phase.{Phase}
use Rattle.peer_state.specs.declared.state.Phase.TheVariants as phases
use Rattle.peer_state.specs.declared.state.State.{State}

-- nothing happens
abbrev pub calm : State → State × PhaseOut
calm x = (x, silent thens.Stay)

-- a row of one phase as a row of the peer; `into` puts what the phase holds into its state
abbrev pub lifted : {A : Type 0} → (A → State → State) → A × PhaseOut → State → State × PhaseOut
lifted into row x = (into row.0 x, row.1)

-- this row while the peer probes, and the other one in any other phase
abbrev pub while_probing : (Probing → State × PhaseOut) → Phase → State × PhaseOut → State × PhaseOut
while_probing row (phases.Probing p) other = row p
while_probing row phase other = other

-- this row while the peer prepares a ballot or starts an epoch, and the other one in any other phase
abbrev pub while_electing : (Election → State × PhaseOut) → Phase → State × PhaseOut → State × PhaseOut
while_electing row (phases.Electing e) other = row e
while_electing row phase other = other

-- this row while the peer leads, and the other one in any other phase
abbrev pub while_leading : (Leadership → State × PhaseOut) → Phase → State × PhaseOut → State × PhaseOut
while_leading row (phases.Leading l) other = row l
while_leading row phase other = other

-- whether a sync runs
abbrev pub runs_sync : Option Running → Bool
runs_sync None = false
runs_sync (Some r) = true

-- rules 3 and 4, a tick while preparing or starting
abbrev pub aged_election : Election → ℕ → State → State × PhaseOut
aged_election (Preparing base promises asked age) me x = lifted electing (row_3 (Preparing base promises asked age)) x
aged_election (Starting new accepts age) me x = lifted electing (row_4 (Starting new accepts age) me (runs_sync x.sync)) x

-- rules 2 to 4, a tick of a peer that does not lead
abbrev pub aged : Phase → ℕ → State → State × PhaseOut
aged (phases.Following f) me x = lifted following (row_2 f x.fact me) x
aged (phases.Probing p) me x = lifted probing (probing_row_3 p) x
aged (phases.Electing e) me x = aged_election e me x
aged (phases.Leading l) me x = calm x

-- rule 7: begin to probe
abbrev pub begun : ℕ → State → State × PhaseOut
begun me x = (sought (row_7 x.fact me).1 x, (row_7 x.fact me).0)

-- rule 8: a reply to a probe
abbrev pub while_8 : Phase → ℕ → ℕ → Fact → State → State × PhaseOut
while_8 phase me from reply x = while_probing (λ p. lifted probing (row_8 p me from reply) x) phase (calm x)

-- rule 9: a probing peer asks for a ballot once it heard enough peers
abbrev pub while_9 : Phase → State → State × PhaseOut
while_9 phase x = while_probing (λ p. lifted probing (row_9 p) x) phase (calm x)

-- rule 10: prepare the ballot after this count, with this fact as the base so far
abbrev pub prepared : ℕ → Fact → ℕ → State → State × PhaseOut
prepared me best count x = (stood (row_10 x.fact me best count).1 x, (row_10 x.fact me best count).0)

-- rule 10, from what the peer found while probing, or from its own fact at the end of its epoch
abbrev pub while_10 : Phase → ℕ → State → State × PhaseOut
while_10 phase me x = while_probing (λ p. prepared me p.best p.count x) phase (while_leading (λ l. prepared me x.fact x.fact.ballot.count x) phase (calm x))

-- rule 12: a promise
abbrev pub while_12 : Phase → ℕ → ℕ → Epoch → Fact → State → State × PhaseOut
while_12 phase me from ballot promised x = while_electing (λ e. lifted electing (row_12 e x.fact me from ballot promised) x) phase (calm x)

-- rule 13: a preparing peer starts its epoch once enough peers promised
abbrev pub while_13 : Phase → ℕ → State → State × PhaseOut
while_13 phase me x = while_electing (λ e. lifted electing (row_13 e x.fact me x.trusted) x) phase (calm x)

-- rule 14: a starting peer leads its epoch once enough peers accepted it
abbrev pub while_14 : Phase → ℕ → State → State × PhaseOut
while_14 phase me x = while_electing (λ e. lifted electing (row_14 e me) x) phase (calm x)

-- rule 15: a refusal; a following or probing peer has asked for no ballot
abbrev pub while_15 : Phase → Epoch → NackCause → State → State × PhaseOut
while_15 phase ballot cause x = while_electing (λ e. (x, row_15 x.fact ballot cause)) phase (while_leading (λ l. (x, row_15 x.fact ballot cause)) phase (calm x))

-- rule 16: a leader announces the first fact of its epoch
abbrev pub announced : ℕ → ℕ → Fact → State → State × PhaseOut
announced me from new x =
    (waiting_for (row_16 x.fact me x.trusted (runs_sync x.sync) from new).then x, row_16 x.fact me x.trusted (runs_sync x.sync) from new)

-- the acceptances of the second fact, if the epoch is ending
abbrev pub change_heard : ChangeState → Fact → ℕ → Epoch → ℕ → ChangeState
change_heard (Finishes f) fact from ballot seq = Finishes (finishing_row_17 f fact from ballot seq).0
change_heard other fact from ballot seq = other

-- a leader whose epoch this peer accepted
abbrev pub accepted_by : ℕ → Leader → Leader
accepted_by peer l = record l { accepts = joined peer l.accepts }

-- a leader counts the acceptances of the first fact of its epoch and of the second
abbrev pub leader_heard : Leadership → Fact → ℕ → Epoch → ℕ → Leadership
leader_heard l fact from ballot seq = record {
  leader = if is_same ballot fact.ballot && seq == 1 then accepted_by from l.leader else l.leader;
  change = change_heard l.change fact from ballot seq;
}

-- rule 17: an acceptance
abbrev pub while_17 : Phase → ℕ → Epoch → ℕ → State → State × PhaseOut
while_17 phase from ballot seq x =
    while_electing (λ e. lifted electing (row_17 e x.fact from ballot seq) x) phase
    (while_leading (λ l. (leading (leader_heard l x.fact from ballot seq) x, silent thens.Stay)) phase (calm x))

-- whether the peer leads
abbrev pub leads : Phase → Bool
leads (phases.Leading l) = true
leads other = false

-- whether a change is wanted or the epoch is ending
abbrev pub has_begun : ChangeState → Bool
has_begun Settled = false
has_begun other = true

-- whether the peer leads, and a change is wanted or its epoch is ending
abbrev pub changes : Phase → Bool
changes (phases.Leading l) = has_begun l.change
changes other = false

-- a leader wants this change
abbrev pub wanting : Change → Phase → State → State
wanting change (phases.Leading l) x = leading (record l { change = Wanted change }) x
wanting change other x = x

-- rule 24: a request to change to this view
abbrev pub asked_change : List ℕ → State → State × (PhaseOut × Bool)
asked_change view x =
    (if (row_24 x.fact (leads x.phase) (changes x.phase) view).1 then wanting (Add view) x.phase x else x, row_24 x.fact (leads x.phase) (changes x.phase) view)

-- the epoch of a leader is ending, if this is given
abbrev pub finishing : Option Finishing → Leadership → Leadership
finishing None l = l
finishing (Some f) l = record l { change = Finishes f }

-- rule 25: a leader with this saved fact begins the change that is wanted
abbrev pub begun_change : ChangeState → Leadership → Fact → ℕ → Leadership × PhaseOut
begun_change (Wanted change) l fact me = (finishing (row_25 fact me l.leader.accepts change).1 l, (row_25 fact me l.leader.accepts change).0)
begun_change Settled l fact me = (l, silent thens.Stay)
begun_change (Finishes f) l fact me = (l, silent thens.Stay)

abbrev pub while_25 : Phase → ℕ → State → State × PhaseOut
while_25 phase me x = while_leading (λ l. lifted leading (begun_change l.change l x.fact me) x) phase (calm x)

-- rule 26: the epoch ends once enough peers accepted its second fact and no call is unanswered
abbrev pub ended : ChangeState → Fact → ℕ → Bool → PhaseOut
ended (Finishes f) fact me unanswered = (row_26 f fact me unanswered).1
ended Settled fact me unanswered = silent thens.Stay
ended (Wanted change) fact me unanswered = silent thens.Stay

abbrev pub while_26 : Phase → ℕ → State → State × PhaseOut
while_26 phase me x = while_leading (λ l. (x, ended l.change x.fact me (has_calls l.leader.table.calls))) phase (calm x)

-- the row of a rule that a row may name
abbrev pub phase_row : PhaseRule → ℕ → State → State × PhaseOut
phase_row phase_rules.BeginProbing me x = begun me x
phase_row phase_rules.EnoughHeard me x = while_9 x.phase x
phase_row phase_rules.Prepare me x = while_10 x.phase me x
phase_row phase_rules.EnoughPromised me x = while_13 x.phase me x
phase_row phase_rules.EnoughAccepted me x = while_14 x.phase me x
phase_row phase_rules.BeginChange me x = while_25 x.phase me x
phase_row phase_rules.EndEpoch me x = while_26 x.phase me x

-- a message from a peer whose rule asks neither the tree nor the backend, and which no leader counts
-- for its calls; a message that does not fit the phase is ignored, and so is one that no rule counts
abbrev pub received : ℕ → ℕ → Message → State → State × PhaseOut
received me from messages.Probe x = (x, row_8_probe x.fact from)
received me from (messages.ProbeReply fact) x = while_8 x.phase me from fact x
received me from (messages.Prepare ballot) x = (x, row_11 x.fact from ballot)
received me from (messages.Promise ballot fact) x = while_12 x.phase me from ballot fact x
received me from (messages.Nack ballot cause) x = while_15 x.phase ballot cause x
received me from (messages.NewEpoch fact) x = announced me from fact x
received me from (messages.Accepted ballot seq) x = while_17 x.phase from ballot seq x
received me from (messages.Commit fact) x = (x, row_18 x.fact x.trusted from fact)
received me from (messages.Beat ballot) x = (x, row_19 x.fact x.trusted from ballot)
received me from (messages.Check ballot round) x = (x, row_20 x.fact from ballot round)
received me from other x = calm x
