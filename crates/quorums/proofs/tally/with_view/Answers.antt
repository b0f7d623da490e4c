use Rattle.quorums.proofs.Sets.{member_more}
use Rattle.quorums.proofs.tally.with_view.Goals as goal

pub loop-member-preserved : goal.loop-member-preserved
loop-member-preserved c = member_more c.args.view.now c.members-member-items.result.now c.loop-member.member-index c.from.result c.args.set c.loop-member.all c.insert.new.self c.members-member-items.ensures.view c.members-member-items.ensures.members c.loop-member-test.true c.loop-member.invariant c.from.ensures c.insert.ensures.set c.insert.ensures.members
