use Rattle.std.proofs.Common.{take}
use Rattle.quorums.proofs.Sets.{HasJoined}
use Rattle.quorums.proofs.tally.with_view.Given as goal

abbrev pub invariant-loop-member : goal.invariant-loop-member
invariant-loop-member l = HasJoined (take l.member-index l.view) l.fn.set l.all
