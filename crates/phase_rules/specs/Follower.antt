-- A peer that follows, and its ticks.
use Rattle.std.specs.Prelude.{ℕ, ◌+◌, ◌==◌, if◌then◌else◌}
use Rattle.wire_frames.specs.StoredFormats.{Fact}
use Rattle.phase_rows.specs.declared.phase.PhaseOut.{PhaseOut}
use Rattle.phase_rows.specs.declared.phase.Then.TheVariants.{Stay, Rule}
use Rattle.quorums.specs.Quorums.{is_member}
use Rattle.phase_rows.specs.Rows.{silent}
use Rattle.phase_rows.specs.declared.rules.PhaseRule.TheVariants as phase_rules
use Rattle.phase_rules.specs.declared.follower.Follower.{Follower}

-- rule 2, on a tick: a member of its views counts one more quiet tick, and at the sixth runs rule
-- 7; any other peer does nothing
abbrev pub row_2 : Follower → Fact → ℕ → Follower × PhaseOut
row_2 follower fact me =
    if is_member fact.views me
    then (record follower { quiet = follower.quiet + 1 }, silent (if follower.quiet + 1 == 6 then Rule phase_rules.BeginProbing else Stay))
    else (follower, silent Stay)
