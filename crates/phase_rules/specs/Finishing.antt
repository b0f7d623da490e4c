-- A leader whose epoch is to end: who accepted its second fact, and when it goes on to the next
-- epoch.
use Rattle.std.specs.Prelude.{ℕ, Bool, not, ◌&&◌, ◌==◌, if◌then◌else◌}
use Rattle.ens_base.specs.PeerSet.{holds}
use Rattle.ens_base.specs.declared.epoch.Epoch.{Epoch}
use Rattle.quorums.specs.Quorums.{is_quorum, is_member}
use Rattle.stored_formats.specs.Facts.{views_after}
use Rattle.stored_formats.specs.declared.fact.Fact.{Fact}
use Rattle.phase_rows.specs.declared.phase.PhaseOut.{PhaseOut}
use Rattle.phase_rows.specs.declared.phase.Then.TheVariants.{Stay, Follow, Rule}
use Rattle.phase_rows.specs.Orders.{is_same}
use Rattle.phase_rows.specs.Peers.{joined}
use Rattle.phase_rows.specs.Rows.{silent}
use Rattle.phase_rows.specs.declared.rules.PhaseRule.TheVariants as phase_rules
use Rattle.phase_rules.specs.declared.finishing.Finishing.{Finishing}

-- rule 17, Accepted, while finishing: an acceptance of the second fact at the ballot is counted
abbrev pub row_17 : Finishing → Fact → ℕ → Epoch → ℕ → Finishing × PhaseOut
row_17 finishing fact from ballot seq =
    if is_same ballot fact.ballot && seq == 2
    then (record finishing { accepts2 = joined from finishing.accepts2 }, silent Stay)
    else (finishing, silent Stay)

-- whether the epoch may end: a quorum of its views accepted the second fact, and no call is
-- unanswered
abbrev pub may_end : Finishing → Fact → Bool → Bool
may_end finishing fact unanswered = is_quorum (holds finishing.accepts2) fact.views && not unanswered

-- rule 26: once the epoch may end, a member of the next views runs rule 10, and any other peer
-- follows
abbrev pub row_26 : Finishing → Fact → ℕ → Bool → Finishing × PhaseOut
row_26 finishing fact me unanswered = (
  finishing,
  silent (if may_end finishing fact unanswered
      then (if is_member (views_after fact) me then Rule phase_rules.Prepare else Follow)
      else Stay),
)
