use Rattle.std.proofs.Common.{refl}
use Rattle.root.proofs.Ends.{book_refused, clash_ends}
use Rattle.root.proofs.job.refused.Goals as goal

pub returns-in_ok-clash_text-in-Clash-clause-ends : goal.returns-in_ok-clash_text-in-Clash-clause-ends
returns-in_ok-clash_text-in-Clash-clause-ends c = λ s first now stopped. clash_ends first now s _ _ _ (rw c.in-Clash.is at stopped) c.in_ok-clash_text-in-Clash.ensures

pub returns-in-BookFull-clause-ends : goal.returns-in-BookFull-clause-ends
returns-in-BookFull-clause-ends c = book_refused c.new.result _ refl c.new.ensures c.args.error _ c.in-BookFull.is
