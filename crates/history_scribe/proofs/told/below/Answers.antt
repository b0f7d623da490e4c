use Rattle.std.proofs.Common.{arith, sym, ◌∙◌, true, false}
use Rattle.history_scribe.proofs.Ranks.{parent_tested}
use Rattle.history_scribe.proofs.told.below.Goals as goal

pub returns-then-lt : goal.returns-then-lt
returns-then-lt c = rw c.in_ok-parent.was (parent_tested c.in_ok-parent.parent c.args.child true (omega arith, omega arith) (omega arith, omega arith) (sym c.lt.ensures ∙ c.if-lt.true))

pub returns-else-lt : goal.returns-else-lt
returns-else-lt c = rw c.in_ok-parent.was (parent_tested c.in_ok-parent.parent c.args.child false (omega arith, omega arith) (omega arith, omega arith) (sym c.lt.ensures ∙ c.if-lt.false))
