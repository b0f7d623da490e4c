-- Why a peer does not do what the leader of an epoch asks, and what it does on damage.
use Rattle.std.specs.Prelude.{ℕ, Bool, not, ◌&&◌, Option, Some, None, if◌then◌else◌}
use Rattle.ens_base.specs.declared.epoch.Epoch.{Epoch}
use Rattle.wire_frames.specs.StoredFormats.{Fact}
use Rattle.wire_frames.specs.declared.message.Message.{Message}
use Rattle.wire_frames.specs.declared.message.NackCause.TheVariants as causes
use Rattle.phase_rows.specs.declared.phase.PhaseOut.{PhaseOut}
use Rattle.phase_rows.specs.declared.phase.Then.TheVariants.{Stay, Untrust}
use Rattle.phase_rows.specs.Orders.{is_below, is_same}
use Rattle.phase_rows.specs.Peers.{alone}
use Rattle.phase_rows.specs.Rows.{silent, sends, leaves_leading, refuses, refuses_below}

-- the answer of a peer that does not do what is asked: it promised a greater ballot and says so, or
-- it accepted another epoch and is silent, or it does not trust its tree and says so
abbrev pub refusal : Fact → Bool → ℕ → Epoch → Option PhaseOut
refusal fact trusted from ballot =
    if is_below ballot fact.ballot then Some (refuses_below from ballot fact)
    else (if not (is_same fact.epoch ballot) then Some (silent Stay)
    else (if not trusted then Some (refuses from ballot causes.Untrusted)
    else None))

-- whether the peer does what the leader of this ballot asks: it accepted the epoch, promised no
-- greater ballot, and trusts its tree
abbrev pub is_served : Fact → Bool → Epoch → Bool
is_served fact trusted ballot = not (is_below ballot fact.ballot) && is_same fact.epoch ballot && trusted

-- the refusal, if there is one, and otherwise the answer
abbrev pub unless_refused : Option PhaseOut → PhaseOut → PhaseOut
unless_refused (Some out) answer = out
unless_refused None answer = answer

-- a leader steps down, the damage is reported to the peer, and the tree becomes untrusted
abbrev pub tells_damage : ℕ → Message → PhaseOut
tells_damage peer message = leaves_leading (sends (alone peer) message Untrust)
