-- The rules by which a ballot is promised or refused: 11 and 15.
use Rattle.std.specs.Prelude.{ℕ, ◌&&◌, if◌then◌else◌}
use Rattle.ens_base.specs.declared.epoch.Epoch.{Epoch}
use Rattle.stored_formats.specs.declared.fact.Fact.{Fact}
use Rattle.phase_rows.specs.WireFrames.{Promise, NackCause, Greater, Untrusted, Damaged}
use Rattle.phase_rows.specs.declared.phase.PhaseOut.{PhaseOut}
use Rattle.phase_rows.specs.declared.phase.Then.TheVariants.{Stay, Follow}
use Rattle.phase_rows.specs.Peers.{alone}
use Rattle.phase_rows.specs.Orders.{is_below, is_same}
use Rattle.phase_rows.specs.Rows.{silent, saves_and_sends, leaves_leading, refuses_below, at_ballot}

-- the fact with the new ballot is saved and promised to the sender; a leader steps down, and the
-- peer follows
abbrev pub promises_to : ℕ → Fact → PhaseOut
promises_to from promised = leaves_leading (saves_and_sends promised (alone from) (Promise promised.ballot promised) Follow)

-- rule 11: a ballot above the saved one is promised, an equal one is ignored, and one below is
-- refused
abbrev pub row_11 : Fact → ℕ → Epoch → PhaseOut
row_11 fact from ballot =
    if is_below fact.ballot ballot then promises_to from (at_ballot fact ballot)
    else (if is_same ballot fact.ballot then silent Stay
    else refuses_below from ballot fact)

-- rule 15: if this peer's ballot was refused for a greater one, a leader steps down and the peer
-- follows; any other Nack is ignored
abbrev pub row_15 : Fact → Epoch → NackCause → PhaseOut
row_15 fact ballot (Greater other) =
    if is_same ballot fact.ballot && is_below ballot other then leaves_leading (silent Follow) else silent Stay
row_15 fact ballot Untrusted = silent Stay
row_15 fact ballot (Damaged position) = silent Stay
