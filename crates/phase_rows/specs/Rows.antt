-- The answers of rules.
use Rattle.std.specs.Prelude.{ℕ, ◌==◌, if◌then◌else◌, Bool, true, false, List, Some, None}
use Rattle.wire_frames.specs.EnsBase.{Epoch}
use Rattle.wire_frames.specs.StoredFormats.{Fact}
use Rattle.wire_frames.specs.declared.message.Message.{Message}
use Rattle.wire_frames.specs.declared.message.Message.TheVariants.{Nack}
use Rattle.wire_frames.specs.declared.message.NackCause.{NackCause}
use Rattle.wire_frames.specs.declared.message.NackCause.TheVariants.{Greater}
use Rattle.phase_rows.specs.declared.phase.PhaseOut.{PhaseOut}
use Rattle.phase_rows.specs.declared.phase.Then.{Then}
use Rattle.phase_rows.specs.declared.phase.Then.TheVariants.{Stay, Rule}
use Rattle.phase_rows.specs.declared.rules.PhaseRule.TheVariants as phase_rules
use Rattle.phase_rows.specs.Peers.{nobody, alone}

-- save nothing and send nothing
abbrev pub silent : Then → PhaseOut
silent next = record { leave = false; save = None; to = nobody; message = None; then = next }

-- send the message to the peers
abbrev pub sends : List Bool → Message → Then → PhaseOut
sends peers message next = record { leave = false; save = None; to = peers; message = Some message; then = next }

-- save the fact, and send nothing
abbrev pub saves : Fact → Then → PhaseOut
saves fact next = record (silent next) { save = Some fact }

-- save the fact, and then send the message to the peers
abbrev pub saves_and_sends : Fact → List Bool → Message → Then → PhaseOut
saves_and_sends fact peers message next = record { leave = false; save = Some fact; to = peers; message = Some message; then = next }

-- the same answer, but a leader steps down first
abbrev pub leaves_leading : PhaseOut → PhaseOut
leaves_leading out = record out { leave = true }

-- send the peer a `Nack` with this cause, and do nothing else
abbrev pub refuses : ℕ → Epoch → NackCause → PhaseOut
refuses peer ballot cause = sends (alone peer) (Nack ballot cause) Stay

-- send the peer a `Nack` with the greater ballot that was promised
abbrev pub refuses_below : ℕ → Epoch → Fact → PhaseOut
refuses_below peer ballot fact = refuses peer ballot (Greater fact.ballot)

-- the fact with this ballot
abbrev pub at_ballot : Fact → Epoch → Fact
at_ballot fact ballot = record fact { ballot = ballot }

-- at age 6 probing begins anew (rule 7)
abbrev pub anew_at_6 : ℕ → Then
anew_at_6 age = if age == 6 then Rule phase_rules.BeginProbing else Stay
