use Rattle.std.proofs.Common.{arith}
use Rattle.tree_backup.specs.Stores.{DidFetch}
use Rattle.tree_backup.proofs.Calls.{fetch_next, fetch_err, fetch_cut, fetch_done, fetch_memory}
use Rattle.tree_backup.proofs.Strings.{passed_on}
use Rattle.tree_backup.proofs.fetching.fetch_items.Goals as goal

pub returns-in_err-items-clause-did : goal.returns-in_err-items-clause-did
returns-in_err-items-clause-did g c = passed_on c.from_residual.result _ _ (λ r. DidFetch g.B.Backend.may_answer g.B.Backend.may_refuse c.args.entries.now c.args.backend.now r c.args.backend.now) c.from_residual.ensures.0 c.from_residual.ensures.1 (λ d h. h) (fetch_memory g.B.Backend.may_answer g.B.Backend.may_refuse c.args.entries.now c.args.backend.now)

pub returns-in_err-object-clause-did : goal.returns-in_err-object-clause-did
returns-in_err-object-clause-did g c = passed_on c.from_residual-in_err-object.result c.in_err-object.field-0.0 _ (λ r. DidFetch g.B.Backend.may_answer g.B.Backend.may_refuse c.args.entries.now c.args.backend.now r c.fetch.new.backend) c.from_residual-in_err-object.ensures.0 c.from_residual-in_err-object.ensures.1 (λ d h. h)
    (fetch_err g.B.Backend.may_answer g.B.Backend.may_refuse c.args.entries.now c.loop-entry.entry-index c.loop-entry.items.items c.entry-item.result c.args.backend.now c.loop-entry.backend c.fetch.new.backend c.in_err-object.field-0.0 c.loop-entry-test.true c.entry-item.is c.loop-entry.invariant.on c.in_err-object.ensures.did)

pub returns-in_err-copy-clause-did : goal.returns-in_err-copy-clause-did
returns-in_err-copy-clause-did g c = passed_on c.from_residual-in_err-copy.result _ _ (λ r. DidFetch g.B.Backend.may_answer g.B.Backend.may_refuse c.args.entries.now c.args.backend.now r c.fetch.new.backend) c.from_residual-in_err-copy.ensures.0 c.from_residual-in_err-copy.ensures.1 (λ d h. h)
    (fetch_cut g.B.Backend.may_answer g.B.Backend.may_refuse c.args.entries.now c.loop-entry.entry-index c.loop-entry.items.items c.entry-item.result c.args.backend.now c.loop-entry.backend c.fetch.new.backend c.in_ok-object.object c.loop-entry-test.true c.entry-item.is c.loop-entry.invariant.on c.in_ok-object.ensures.did)

pub returns-in_err-push-clause-did : goal.returns-in_err-push-clause-did
returns-in_err-push-clause-did g c = passed_on c.from_residual-in_err-push.result _ _ (λ r. DidFetch g.B.Backend.may_answer g.B.Backend.may_refuse c.args.entries.now c.args.backend.now r c.fetch.new.backend) c.from_residual-in_err-push.ensures.0 c.from_residual-in_err-push.ensures.1 (λ d h. h)
    (fetch_cut g.B.Backend.may_answer g.B.Backend.may_refuse c.args.entries.now c.loop-entry.entry-index c.loop-entry.items.items c.entry-item.result c.args.backend.now c.loop-entry.backend c.fetch.new.backend c.in_ok-object.object c.loop-entry-test.true c.entry-item.is c.loop-entry.invariant.on c.in_ok-object.ensures.did)

pub loop-entry-preserved : goal.loop-entry-preserved
loop-entry-preserved g c = record {
  on = fetch_next g.B.Backend.may_answer g.B.Backend.may_refuse c.args.entries.now c.loop-entry.entry-index c.loop-entry.items.items _ c.entry-item.result c.in_ok-copy.copy c.args.backend.now c.loop-entry.backend c.fetch.new.backend c.in_ok-object.object c.loop-entry-test.true c.entry-item.is c.in_ok-copy.ensures c.loop-entry.invariant.on c.in_ok-object.ensures.did c.in_ok-push.ensures.items;
  later = omega (arith, c.loop-entry.invariant.later, c.fetch.ensures.later);
}

pub returns-clause-did : goal.returns-clause-did
returns-clause-did g c = fetch_done g.B.Backend.may_answer g.B.Backend.may_refuse c.args.entries.now c.loop-entry.entry-index c.loop-entry.items.items c.args.backend.now c.loop-entry.backend c.loop-entry-test.false c.loop-entry.invariant.on
