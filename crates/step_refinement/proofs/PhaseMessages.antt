-- The messages of the rows of phases say nothing of calls and give no node of a tree, except the reply to
-- a check.
use Rattle.std.proofs.Common.{◌≡◌, ℕ, ◌+◌, ◌-◌, ◌^◌, Bool, not, ◌&&◌, ◌||◌, ◌==◌, List, Option, None, Some, refl}
use Rattle.ens_base.specs.PeerSet.{holds}
use Rattle.ens_base.specs.declared.epoch.Epoch.{Epoch}
use Rattle.protocol_laws.specs.Protocol.{State as Protocol}
use Rattle.call_table.specs.Calls.{has_calls}
use Rattle.phase_rules.specs.Ballots.{row_11, row_15}
use Rattle.phase_rules.specs.Preparing.{first_fact}
use Rattle.phase_rules.specs.declared.election.Election.{Election}
use Rattle.phase_rules.specs.declared.election.Election.TheVariants.{Preparing, Starting}
use Rattle.election_refinement.proofs.Elections.{starts_either}
use Rattle.election_refinement.proofs.Tests.{by_test}
use Rattle.phase_rules.specs.Announcements.{row_16, row_18, row_19, commits}
use Rattle.phase_rules.specs.Refusals.{unless_refused}
use Rattle.phase_rules.specs.declared.follower.Follower.{Follower}
use Rattle.quorums.specs.Quorums.{is_quorum, is_member}
use Rattle.peer_state.specs.Rows.{aged, asked_change, begun_change, changes, leads, ended, phase_row, prepared, received, runs_sync, while_8, while_9, while_10, while_12, while_13, while_14, while_15, while_17, while_25, while_26}
use Rattle.peer_state.specs.declared.state.ChangeState.{ChangeState}
use Rattle.peer_state.specs.declared.state.ChangeState.TheVariants.{Settled, Wanted, Finishing as Finishes}
use Rattle.peer_state.specs.declared.state.Leadership.{Leadership}
use Rattle.peer_state.specs.declared.state.Phase.{Phase}
use Rattle.peer_state.specs.declared.state.Phase.TheVariants as phases
use Rattle.peer_state.specs.declared.state.State.{State}
use Rattle.stored_formats.specs.Facts.{views_after}
use Rattle.stored_formats.specs.declared.fact.Fact.{Fact}
use Rattle.phase_rows.specs.Orders.{is_below, is_same, is_newer, may_accept}
use Rattle.phase_rows.specs.Rows.{leaves_leading}
use Rattle.phase_rules.specs.declared.probing.Probing.{Probing}
use Rattle.role_laws.specs.Facts.{Lines}
use Rattle.phase_rules.specs.Changes.{may_change}
use Rattle.wire_frames.specs.declared.message.Message.{Message}
use Rattle.wire_frames.specs.declared.message.Message.TheVariants as messages
use Rattle.wire_frames.specs.declared.message.NackCause.{NackCause}
use Rattle.wire_frames.specs.declared.message.NackCause.TheVariants as causes
use Rattle.phase_rows.specs.declared.phase.PhaseOut.{PhaseOut}
use Rattle.phase_rows.specs.declared.rules.PhaseRule.{PhaseRule}
use Rattle.phase_rows.specs.declared.rules.PhaseRule.TheVariants as phase_rules
use Rattle.tree_node.specs.declared.version.TreeVersion.{TreeVersion}
use Rattle.step_refinement.specs.Peers.{MessageFits}
use Rattle.step_refinement.specs.Roles.{said_of}

-- the message, if there is one, says nothing of calls
abbrev pub SaysNothing : Option Message → Type 0
SaysNothing None = Unit {0}
SaysNothing (Some message) = said_of message ≡ None

-- the message says nothing of calls, and gives no node of a tree
abbrev pub IsMuteMessage : Message → Type 0
IsMuteMessage (messages.Get ballot round key) = ⊥
IsMuteMessage (messages.GetReply ballot round key entry object) = ⊥
IsMuteMessage (messages.Check ballot round) = ⊥
IsMuteMessage (messages.CheckReply ballot round) = ⊥
IsMuteMessage (messages.Put ballot o) = ⊥
IsMuteMessage (messages.PutReply ballot key version) = ⊥
IsMuteMessage (messages.TreeGive ballot at after trusted body) = ⊥
IsMuteMessage message = Unit {0}

-- so does the message, if there is one
abbrev pub TellsNothing : Option Message → Type 0
TellsNothing None = Unit {0}
TellsNothing (Some message) = IsMuteMessage message

-- so does the message of the row
abbrev pub IsMute : PhaseOut → Type 0
IsMute row = TellsNothing row.message

-- it says nothing of calls
message_mute : (message : Message) → IsMuteMessage message → said_of message ≡ None
message_mute (messages.Get ballot round key) mute = absurd mute
message_mute (messages.GetReply ballot round key entry object) mute = absurd mute
message_mute (messages.Check ballot round) mute = absurd mute
message_mute (messages.CheckReply ballot round) mute = absurd mute
message_mute (messages.Put ballot o) mute = absurd mute
message_mute (messages.PutReply ballot key version) mute = absurd mute
message_mute other mute = refl

-- so the message, if there is one, says nothing of calls
pub says_nothing_of : (message : Option Message) → TellsNothing message → SaysNothing message
says_nothing_of None mute = tt
says_nothing_of (Some message) mute = message_mute message mute

-- and it fits
pub mute_fits : (version : TreeVersion) (lines : Lines) (s : Protocol) (strings : List (List ℕ)) (q : ℕ) (message : Message) → IsMuteMessage message → MessageFits version lines s strings q message
mute_fits version lines s strings q (messages.Get ballot round key) mute = absurd mute
mute_fits version lines s strings q (messages.GetReply ballot round key entry object) mute = absurd mute
mute_fits version lines s strings q (messages.Check ballot round) mute = absurd mute
mute_fits version lines s strings q (messages.CheckReply ballot round) mute = absurd mute
mute_fits version lines s strings q (messages.Put ballot o) mute = absurd mute
mute_fits version lines s strings q (messages.PutReply ballot key put) mute = absurd mute
mute_fits version lines s strings q (messages.TreeGive ballot at after trusted body) mute = absurd mute
mute_fits version lines s strings q other mute = tt

-- the message is no check
abbrev pub IsNoCheck : Message → Type 0
IsNoCheck (messages.Check ballot round) = ⊥
IsNoCheck message = Unit {0}

module _ (p : ℕ) (x : State) where
  -- ## Elections

  rule_8 : (phase : Phase) (from : ℕ) (reply : Fact) → IsMute (while_8 phase p from reply x).1
  rule_8 (phases.Probing b) from reply = by_test (λ (r : Probing × PhaseOut). IsMute r.1) (is_newer reply b.best) _ _ (λ newer. tt) (λ older. tt)
  rule_8 other from reply = tt

  rule_9 : (phase : Phase) → IsMute (while_9 phase x).1
  rule_9 (phases.Probing b) = tt
  rule_9 other = tt

  prepares : (best : Fact) (count : ℕ) → IsMute (prepared p best count x).1
  prepares best count =
      by_test (λ (r : PhaseOut × Option Election). IsMute r.0) (not (is_member (views_after best) p) || count == 2 ^ 64 - 1) _ _ (λ stranger. tt) (λ member. tt)

  rule_10 : (phase : Phase) → IsMute (while_10 phase p x).1
  rule_10 (phases.Probing b) = prepares b.best b.count
  rule_10 (phases.Leading leadership) = prepares x.fact x.fact.ballot.count
  rule_10 other = tt

  rule_11 : (from : ℕ) (ballot : Epoch) → IsMute (row_11 x.fact from ballot)
  rule_11 from ballot =
      by_test IsMute (is_below x.fact.ballot ballot) _ _
      (λ below. tt)
      (λ not_below. by_test IsMute (is_same ballot x.fact.ballot) _ _ (λ same. tt) (λ other. tt))

  abbrev IsMuteElection : Election × PhaseOut → Type 0
  IsMuteElection r = IsMute r.1

  rule_12 : (phase : Phase) (from : ℕ) (ballot : Epoch) (promised : Fact) → IsMute (while_12 phase p from ballot promised x).1
  rule_12 (phases.Electing (Preparing base promises asked age)) from ballot promised =
      by_test IsMuteElection (is_same ballot x.fact.ballot) _ _
      (λ own. by_test IsMuteElection (is_newer promised base) _ _ (λ newer. tt) (λ older. tt))
      (λ other. tt)
  rule_12 (phases.Electing (Starting new accepts age)) from ballot promised = tt
  rule_12 other from ballot promised = tt

  rule_13 : (phase : Phase) → IsMute (while_13 phase p x).1
  rule_13 (phases.Electing (Preparing base promises asked age)) =
      by_test IsMuteElection (is_quorum (holds promises) base.views) _ _
      (λ quorum. by_test IsMuteElection (is_member (views_after base) p) _ _
      (λ member. starts_either IsMuteElection x.trusted p (first_fact x.fact p (views_after base)) (λ may. tt) tt)
      (λ stranger. tt))
      (λ few. tt)
  rule_13 (phases.Electing (Starting new accepts age)) = tt
  rule_13 other = tt

  rule_14 : (phase : Phase) → IsMute (while_14 phase p x).1
  rule_14 (phases.Electing (Preparing base promises asked age)) = tt
  rule_14 (phases.Electing (Starting new accepts age)) = tt
  rule_14 other = tt

  heeded : (ballot : Epoch) (cause : NackCause) → IsMute (row_15 x.fact ballot cause)
  heeded ballot (causes.Greater other) = by_test IsMute (is_same ballot x.fact.ballot && is_below ballot other) _ _ (λ own. tt) (λ old. tt)
  heeded ballot causes.Untrusted = tt
  heeded ballot (causes.Damaged position) = tt

  rule_15 : (phase : Phase) (ballot : Epoch) (cause : NackCause) → IsMute (while_15 phase ballot cause x).1
  rule_15 (phases.Electing e) ballot cause = heeded ballot cause
  rule_15 (phases.Leading leadership) ballot cause = heeded ballot cause
  rule_15 other ballot cause = tt

  rule_17 : (phase : Phase) (from : ℕ) (ballot : Epoch) (seq : ℕ) → IsMute (while_17 phase from ballot seq x).1
  rule_17 (phases.Electing (Starting new accepts age)) from ballot seq = by_test IsMuteElection (is_same ballot x.fact.ballot && seq == 1) _ _ (λ own. tt) (λ other. tt)
  rule_17 (phases.Electing (Preparing base promises asked age)) from ballot seq = tt
  rule_17 (phases.Leading leadership) from ballot seq = tt
  rule_17 other from ballot seq = tt

  -- ## Announcements

  rule_16 : (from : ℕ) (new : Fact) → IsMute (row_16 x.fact p x.trusted (runs_sync x.sync) from new)
  rule_16 from new =
      by_test IsMute (is_below new.epoch x.fact.ballot) _ _
      (λ below. tt)
      (λ not_below. by_test IsMute (is_same new.epoch x.fact.epoch) _ _
      (λ same. tt)
      (λ other. by_test (λ (row : PhaseOut). IsMute (leaves_leading row)) (may_accept x.trusted p new) _ _
      (λ accepts_now. tt)
      (λ not_now. by_test (λ (row : PhaseOut). IsMute (leaves_leading row)) (is_below x.fact.ballot new.epoch) _ _ (λ below. tt) (λ at_own. tt))))

  rule_18 : (from : ℕ) (new : Fact) → IsMute (row_18 x.fact x.trusted from new)
  rule_18 from new = let P : Option PhaseOut → Type 0 = λ refused. IsMute (unless_refused refused (commits x.fact from new)) in
      by_test P (is_below new.epoch x.fact.ballot) _ _
      (λ below. tt)
      (λ not_below. by_test P (not (is_same x.fact.epoch new.epoch)) _ _
      (λ other. tt)
      (λ same. by_test P (not x.trusted) _ _
      (λ untrusted. tt)
      (λ trusts. by_test IsMute (x.fact.seq == 1) _ _ (λ first. tt) (λ later. tt))))

  rule_19 : (from : ℕ) (ballot : Epoch) → IsMute (row_19 x.fact x.trusted from ballot)
  rule_19 from ballot = by_test IsMute (is_below ballot x.fact.ballot) _ _ (λ below. tt) (λ above. tt)

  -- ## Changes of the views

  begins_change : (change : ChangeState) (leadership : Leadership) → IsMute (begun_change change leadership x.fact p).1
  begins_change Settled leadership = tt
  begins_change (Wanted change) leadership = tt
  begins_change (Finishes f) leadership = tt

  rule_25 : (phase : Phase) → IsMute (while_25 phase p x).1
  rule_25 (phases.Leading leadership) = begins_change leadership.change leadership
  rule_25 other = tt

  ends_epoch : (change : ChangeState) (unanswered : Bool) → IsMute (ended change x.fact p unanswered)
  ends_epoch Settled unanswered = tt
  ends_epoch (Wanted change) unanswered = tt
  ends_epoch (Finishes f) unanswered = tt

  rule_26 : (phase : Phase) → IsMute (while_26 phase p x).1
  rule_26 (phases.Leading leadership) = ends_epoch leadership.change (has_calls leadership.leader.table.calls)
  rule_26 other = tt

  -- ## Ticks

  rules_2_to_4 : (phase : Phase) → IsMute (aged phase p x).1
  rules_2_to_4 (phases.Following f) = by_test (λ (r : Follower × PhaseOut). IsMute r.1) (is_member x.fact.views p) _ _ (λ member. tt) (λ stranger. tt)
  rules_2_to_4 (phases.Probing b) = tt
  rules_2_to_4 (phases.Electing (Preparing base promises asked age)) = tt
  rules_2_to_4 (phases.Electing (Starting new accepts age)) = by_test IsMute (age + 1 == 8) _ _ (λ spent. tt) (λ young. tt)
  rules_2_to_4 (phases.Leading leadership) = tt

  -- ## Rows

  -- the row of a rule that a row names
  pub phase_row_mute : (rule : PhaseRule) → IsMute (phase_row rule p x).1
  phase_row_mute phase_rules.BeginProbing = tt
  phase_row_mute phase_rules.EnoughHeard = rule_9 x.phase
  phase_row_mute phase_rules.Prepare = rule_10 x.phase
  phase_row_mute phase_rules.EnoughPromised = rule_13 x.phase
  phase_row_mute phase_rules.EnoughAccepted = rule_14 x.phase
  phase_row_mute phase_rules.BeginChange = rule_25 x.phase
  phase_row_mute phase_rules.EndEpoch = rule_26 x.phase

  -- the row for a message
  pub received_mute : (from : ℕ) (message : Message) → IsNoCheck message → IsMute (received p from message x).1
  received_mute from messages.Probe no_check = tt
  received_mute from (messages.ProbeReply fact) no_check = rule_8 x.phase from fact
  received_mute from (messages.Prepare ballot) no_check = rule_11 from ballot
  received_mute from (messages.Promise ballot fact) no_check = rule_12 x.phase from ballot fact
  received_mute from (messages.Nack ballot cause) no_check = rule_15 x.phase ballot cause
  received_mute from (messages.NewEpoch fact) no_check = rule_16 from fact
  received_mute from (messages.Accepted ballot seq) no_check = rule_17 x.phase from ballot seq
  received_mute from (messages.Commit fact) no_check = rule_18 from fact
  received_mute from (messages.Beat ballot) no_check = rule_19 from ballot
  received_mute from (messages.Check ballot round) no_check = absurd no_check
  received_mute from other no_check = tt

  -- the row of a tick, in a peer that does not lead
  pub aged_mute : IsMute (aged x.phase p x).1
  aged_mute = rules_2_to_4 x.phase

  -- the row of a request to change the view
  pub asked_change_mute : (asked : List ℕ) → IsMute (asked_change asked x).1.0
  asked_change_mute asked = by_test (λ (r : PhaseOut × Bool). IsMute r.0) (may_change x.fact (leads x.phase) (changes x.phase) asked) _ _ (λ may. tt) (λ may_not. tt)
