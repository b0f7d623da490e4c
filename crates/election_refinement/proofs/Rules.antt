-- The rows of the rules: of those that a row names, and of those for a message.
use Rattle.std.proofs.Common.{ℕ, Option}
use Rattle.protocol_laws.specs.Ledger.{Ledger}
use Rattle.phase_rules.specs.Requests.{row_20}
use Rattle.peer_state.specs.Rows.{phase_row, received}
use Rattle.peer_state.specs.declared.state.State.{State}
use Rattle.stored_formats.specs.declared.fact.Fact.{Fact}
use Rattle.wire_frames.specs.declared.message.Message.{Message}
use Rattle.wire_frames.specs.declared.message.Message.TheVariants as messages
use Rattle.phase_rows.specs.declared.rules.PhaseRule.{PhaseRule}
use Rattle.phase_rows.specs.declared.rules.PhaseRule.TheVariants as phase_rules
use Rattle.election_refinement.proofs.Announcements.{rule_16, rule_18}
use Rattle.election_refinement.proofs.Changes.{rule_25, rule_26}
use Rattle.election_refinement.proofs.Elections.{rule_12, rule_13}
use Rattle.election_refinement.proofs.Probes.{rule_7, rule_8, rule_9}
use Rattle.election_refinement.proofs.Promises.{rule_10, rule_11}
use Rattle.election_refinement.proofs.Quiet.{rule_8_probe, rule_14, rule_15, rule_17, rule_19}
use Rattle.election_refinement.proofs.Reaching.{Course}
use Rattle.election_refinement.proofs.Requests.{row_20_harmless, harmless_goes}
use Rattle.election_refinement.proofs.Rows.{Fits, Goes, quiet}
use Rattle.election_refinement.specs.Refinement.{MessageHolds}

module _ {c : Course} {l : Ledger} {x : State} {stored : Option Fact} (h : Fits c l x stored) where
  open c use {peer as p}

  -- a rule that a row names
  pub phase_goes : (rule : PhaseRule) → Goes c l stored (phase_row rule p x)
  phase_goes phase_rules.BeginProbing = rule_7 h
  phase_goes phase_rules.EnoughHeard = rule_9 h x.phase h.peer.phase h.peer.sync
  phase_goes phase_rules.Prepare = rule_10 h x.phase h.peer.phase
  phase_goes phase_rules.EnoughPromised = rule_13 h x.phase h.peer.phase h.peer.sync
  phase_goes phase_rules.EnoughAccepted = rule_14 h x.phase h.peer.phase h.peer.sync
  phase_goes phase_rules.BeginChange = rule_25 h x.phase h.peer.phase h.peer.sync
  phase_goes phase_rules.EndEpoch = rule_26 h x.phase

  -- the rule for a message
  pub received_goes : (from : ℕ) (message : Message) → MessageHolds l from message → Goes c l stored (received p from message x)
  received_goes from messages.Probe says = rule_8_probe h from
  received_goes from (messages.ProbeReply fact) says = rule_8 h x.phase from fact h.peer.phase h.peer.sync says
  received_goes from (messages.Prepare ballot) says = rule_11 h from ballot says.epoch
  received_goes from (messages.Promise ballot fact) says = rule_12 h x.phase from ballot fact h.peer.phase h.peer.sync says
  received_goes from (messages.Nack ballot cause) says = rule_15 h x.phase ballot cause
  received_goes from (messages.NewEpoch fact) says = rule_16 h from fact says
  received_goes from (messages.Accepted ballot seq) says = rule_17 h x.phase from ballot seq h.peer.phase h.peer.sync says
  received_goes from (messages.Commit fact) says = rule_18 h from fact says
  received_goes from (messages.Beat ballot) says = rule_19 h from ballot
  received_goes from (messages.Check ballot round) says = harmless_goes h (row_20 x.fact from ballot round) (row_20_harmless x.fact from ballot round)
  received_goes from (messages.CheckReply ballot round) says = quiet h
  received_goes from (messages.Get ballot round key) says = quiet h
  received_goes from (messages.GetReply ballot round key entry object) says = quiet h
  received_goes from (messages.Put ballot object) says = quiet h
  received_goes from (messages.PutReply ballot key version) says = quiet h
  received_goes from (messages.TreeAsk ballot at after) says = quiet h
  received_goes from (messages.TreeGive ballot at after trusted body) says = quiet h
  received_goes from other says = absurd says
