-- The rules by which a peer asks the others for their facts: 3, 7, 8 and 9.
use Rattle.std.specs.Prelude.{ℕ, ◌+◌, if◌then◌else◌, max, Option, Some}
use Rattle.ens_base.specs.PeerSet.{holds}
use Rattle.quorums.specs.Quorums.{is_quorum}
use Rattle.phase_rows.specs.StoredFormats.{Fact}
use Rattle.phase_rows.specs.WireFrames.{Probe, ProbeReply}
use Rattle.phase_rows.specs.declared.phase.PhaseOut.{PhaseOut}
use Rattle.phase_rows.specs.declared.phase.Then.TheVariants.{Stay, Rule}
use Rattle.phase_rows.specs.Peers.{alone, joined, members, others_of, others_outside, with_members}
use Rattle.phase_rows.specs.Orders.{is_newer}
use Rattle.phase_rows.specs.Rows.{silent, sends, anew_at_6}
use Rattle.phase_rows.specs.declared.rules.PhaseRule.TheVariants as phase_rules
use Rattle.phase_rules.specs.declared.probing.Probing.{Probing}

-- rule 3: on a tick the age rises by 1, and at 6 rule 7 runs
abbrev pub row_3 : Probing → Probing × PhaseOut
row_3 probing = (record probing { age = probing.age + 1 }, silent (anew_at_6 (probing.age + 1)))

-- the first state of probing: the saved fact is the best, the count that of its ballot, `me` is
-- heard, and the members of its views are asked
abbrev pub first_probing : Fact → ℕ → Probing
first_probing fact me = record { best = fact; count = fact.ballot.count; heard = alone me; asked = members fact.views; age = 0 }

-- rule 7: probing begins, and the other members of the fact's views are asked; then rule 9
abbrev pub row_7 : Fact → ℕ → PhaseOut × Option Probing
row_7 fact me = (sends (others_of me (members fact.views)) Probe (Rule phase_rules.EnoughHeard), Some (first_probing fact me))

-- the sender is heard, and the count is at least that of its ballot
abbrev pub heard_from : Probing → ℕ → Fact → Probing
heard_from probing from reply = record probing { heard = joined from probing.heard; count = max probing.count reply.ballot.count }

-- the fact becomes the best one, and the members of its views are asked
abbrev pub bettered : Probing → Fact → Probing
bettered probing reply = record probing { best = reply; asked = with_members probing.asked reply.views }

-- rule 8, on a reply: the sender is heard; if its fact is newer than the best one, it becomes the
-- best, and Probe goes to the members of its views not asked before; then rule 9
abbrev pub row_8 : Probing → ℕ → ℕ → Fact → Probing × PhaseOut
row_8 probing me from reply =
    if is_newer reply probing.best
    then (bettered (heard_from probing from reply) reply, sends (others_outside me probing.asked reply.views) Probe (Rule phase_rules.EnoughHeard))
    else (heard_from probing from reply, silent (Rule phase_rules.EnoughHeard))

-- rule 8, on a probe: the saved fact goes to the sender
abbrev pub row_8_probe : Fact → ℕ → PhaseOut
row_8_probe fact from = sends (alone from) (ProbeReply fact) Stay

-- rule 9: once a quorum of the best fact's views was heard, rule 10 runs
abbrev pub row_9 : Probing → Probing × PhaseOut
row_9 probing = (probing, silent (if is_quorum (holds probing.heard) probing.best.views then Rule phase_rules.Prepare else Stay))
