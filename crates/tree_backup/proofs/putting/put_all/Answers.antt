use Rattle.std.proofs.Common.{arith}
use Rattle.tree_backup.specs.Stores.{DidPut}
use Rattle.tree_backup.proofs.Calls.{put_next, put_err, put_done}
use Rattle.tree_backup.proofs.Strings.{passed_on}
use Rattle.tree_backup.proofs.putting.put_all.Goals as goal

pub returns-in_err-put-clause-did : goal.returns-in_err-put-clause-did
returns-in_err-put-clause-did g c = passed_on c.from_residual.result c.in_err-put.field-0.0 _ (λ r. DidPut g.B.Backend.may_answer g.B.Backend.may_refuse c.args.objects.now c.args.backend.now r c.put.new.backend) c.from_residual.ensures.0 c.from_residual.ensures.1 (λ d h. h)
    (put_err g.B.Backend.may_answer g.B.Backend.may_refuse c.args.objects.now c.loop-object.object-index c.object-item.result c.args.backend.now c.loop-object.backend c.put.new.backend c.in_err-put.field-0.0 c.loop-object-test.true c.object-item.is c.loop-object.invariant.on c.in_err-put.ensures.did)

pub loop-object-preserved : goal.loop-object-preserved
loop-object-preserved g c = record {
  on = put_next g.B.Backend.may_answer g.B.Backend.may_refuse c.args.objects.now c.loop-object.object-index c.object-item.result c.args.backend.now c.loop-object.backend c.put.new.backend c.loop-object-test.true c.object-item.is c.loop-object.invariant.on c.in_ok-put.ensures.did;
  later = omega (arith, c.loop-object.invariant.later, c.put.ensures.later);
}

pub returns-clause-did : goal.returns-clause-did
returns-clause-did g c = put_done g.B.Backend.may_answer g.B.Backend.may_refuse c.args.objects.now c.loop-object.object-index c.args.backend.now c.loop-object.backend c.loop-object-test.false c.loop-object.invariant.on
