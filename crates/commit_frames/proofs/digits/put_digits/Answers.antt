use Rattle.commit_frames.proofs.Numbers.{digit_put, digits_all}
use Rattle.commit_frames.proofs.digits.put_digits.Goals as goal

pub returns : goal.returns
returns c = digits_all c.loop-place.out.items c.args.out.now.items c.args.count c.loop-place._place c.loop-place.rest c.args.number c.loop-place-test.false c.loop-place.invariant

pub loop-place-preserved : goal.loop-place-preserved
loop-place-preserved c =
    rw c.in_ok-push.ensures.items
    (digit_put c.loop-place.out.items c.args.out.now.items c.args.count c.loop-place._place c.loop-place.rest c.args.number c.loop-place-test.true c.loop-place.invariant)
