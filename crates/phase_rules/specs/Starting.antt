-- The rules by which a peer starts an epoch: 4, 14 and 17.
use Rattle.std.specs.Prelude.{◌<◌, ℕ, ◌+◌, Bool, ◌&&◌, ◌==◌, if◌then◌else◌, List}
use Rattle.ens_base.specs.declared.epoch.Epoch.{Epoch}
use Rattle.ens_base.specs.PeerSet.{holds}
use Rattle.quorums.specs.Quorums.{is_quorum}
use Rattle.stored_formats.specs.declared.fact.Fact.{Fact}
use Rattle.phase_rows.specs.WireFrames.{NewEpoch}
use Rattle.phase_rows.specs.declared.phase.PhaseOut.{PhaseOut}
use Rattle.phase_rows.specs.declared.phase.Then.{Then}
use Rattle.phase_rows.specs.declared.phase.Then.TheVariants.{Stay, Follow, Lead, Resume, Rule}
use Rattle.phase_rows.specs.Peers.{joined, others_outside}
use Rattle.phase_rows.specs.Orders.{is_same}
use Rattle.phase_rows.specs.Rows.{silent, sends}
use Rattle.phase_rows.specs.declared.rules.PhaseRule.TheVariants as phase_rules
use Rattle.phase_rules.specs.Preparing.{ignored}
use Rattle.phase_rules.specs.declared.election.Election.{Election}
use Rattle.phase_rules.specs.declared.election.Election.TheVariants.{Preparing, Starting}

-- a peer that starts has an age below 8
abbrev pub StartsBelow8 : Election → Type 0
StartsBelow8 (Preparing base promises asked age) = Unit {0}
StartsBelow8 (Starting new accepts age) = age < 8

-- resume a running sync
abbrev pub resumes : Bool → Then
resumes sync_runs = if sync_runs then Resume else Stay

-- at age 8 the peer gives up and follows; before that the fact goes again to the members that have
-- not accepted it, and a running sync resumes
abbrev pub insists : Fact → List Bool → ℕ → ℕ → Bool → PhaseOut
insists new accepts age me sync_runs =
    if age == 8 then silent Follow
    else sends (others_outside me accepts new.views) (NewEpoch new) (resumes sync_runs)

-- rule 4: on a tick the age of a peer that starts rises by 1, and it asks again or gives up
abbrev pub row_4 : Election → ℕ → Bool → Election × PhaseOut
row_4 (Preparing base promises asked age) me sync_runs = ignored (Preparing base promises asked age)
row_4 (Starting new accepts age) me sync_runs = (Starting new accepts (age + 1), insists new accepts (age + 1) me sync_runs)

-- rule 14: a peer that starts leads once `me` has accepted and those who accepted are a quorum of
-- the fact's views
abbrev pub row_14 : Election → ℕ → Election × PhaseOut
row_14 (Preparing base promises asked age) me = ignored (Preparing base promises asked age)
row_14 (Starting new accepts age) me = (Starting new accepts age, silent (if holds accepts me && is_quorum (holds accepts) new.views then Lead new else Stay))

-- rule 17: a peer that starts counts an acceptance of the first fact of its ballot, and then runs
-- rule 14; any other acceptance is ignored
abbrev pub row_17 : Election → Fact → ℕ → Epoch → ℕ → Election × PhaseOut
row_17 (Preparing base promises asked age) fact from ballot seq = ignored (Preparing base promises asked age)
row_17 (Starting new accepts age) fact from ballot seq =
    if is_same ballot fact.ballot && seq == 1
    then (Starting new (joined from accepts) age, silent (Rule phase_rules.EnoughAccepted))
    else ignored (Starting new accepts age)
