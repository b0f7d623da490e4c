use Rattle.std.proofs.Common.{◌≡◌, ◌∙◌, ◌-◌, ◌%◌, ap, sym, refl, arith, suc, eqb, None, get_or}
use Rattle.synctree.proofs.Spreading.{spread_first, skip_one, at_first, byte_is, byte_small}
use Rattle.synctree.proofs.shape.child_in.Goals as goal

pub loop-init : goal.loop-init
loop-init c = record {
  left = λ k j e f. let is : j ≡ c.args.digit = omega (arith, f) in rw (is, c.as_slice-digests.ensures) (ap (λ xs. get_or xs c.args.digit None) (spread_first k c.args.node.now.mask c.args.node.now.digests e));
  few = omega arith;
}

pub loop-preserved : goal.loop-preserved
loop-preserved c = record {
  left = λ k j e f. c.loop.invariant.left (suc k) (suc j) (omega (arith, e)) (omega (arith, f)) ∙ skip_one k c.loop.mask c.loop.next j c.as_slice-digests.result.now
      ∙ rw (c.from-next.ensures, byte_is (eqb (c.loop.mask % 2) 1)) refl;
  few = omega (arith, c.loop.invariant.few, c.from-next.ensures, byte_small (eqb (c.loop.mask % 2) 1));
}

pub returns : goal.returns
returns c = c.if_there.ensures
    ∙ sym (c.loop.invariant.left (suc (15 - c.args.digit)) 0 (omega (arith, c.requires, c.loop-test.false, c.loop.auto.counter-end)) (omega (arith, c.loop-test.false, c.loop.auto.counter-end))
    ∙ at_first (15 - c.args.digit) c.loop.mask c.loop.next c.as_slice-digests.result.now)
