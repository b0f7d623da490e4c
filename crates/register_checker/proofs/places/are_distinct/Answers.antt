use Rattle.std.proofs.Common.{nat_eq, get_or}
use Rattle.std.specs.List.{list_any}
use Rattle.register_checker.proofs.Distinct.{seen_twice, seen_next, was_there, was_new}
use Rattle.register_checker.proofs.Runs.{no_true_false}
use Rattle.register_checker.proofs.places.are_distinct.Goals as goal

pub returns-then-not-branch : goal.returns-then-not-branch
returns-then-not-branch c =
    no_true_false (seen_twice c.loop-id.seen.keys c.args.ids.now c.loop-id.id-index 0 c.loop-id-test.true c.loop-id.invariant (was_there c.in_ok-insert.field-0 (list_any (nat_eq (get_or c.args.ids.now c.loop-id.id-index 0)) c.loop-id.seen.keys) c.in_ok-insert.ensures.added c.if-not-branch.true))

pub loop-id-preserved : goal.loop-id-preserved
loop-id-preserved c =
    seen_next c.loop-id.seen.keys c.args.ids.now c.loop-id.id-index 0 c.loop-id-test.true c.loop-id.invariant c.insert.new.self.keys c.in_ok-insert.ensures.keys (was_new c.in_ok-insert.field-0 (list_any (nat_eq (get_or c.args.ids.now c.loop-id.id-index 0)) c.loop-id.seen.keys) c.in_ok-insert.ensures.added c.if-not-branch.false)
