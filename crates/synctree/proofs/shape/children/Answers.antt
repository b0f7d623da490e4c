use Rattle.std.proofs.Common.{◌≡◌, ◌∙◌, ◌++◌, ◌%◌, [], ◌∷◌, ap, sym, refl, arith, suc, eqb, cond, None, append-nil}
use Rattle.std.specs.Prelude.{slice_get}
use Rattle.synctree.proofs.Spreading.{spread_first, spread_next, byte_is, byte_small}
use Rattle.synctree.proofs.shape.children.Goals as goal

pub loop-init : goal.loop-init
loop-init c = record {
  split = λ k e. spread_first k c.args.node.now.mask c.args.node.now.digests e ∙ rw (c.in_ok-all.ensures.items, c.as_slice-digests.ensures) refl;
  few = omega arith;
}

pub loop-preserved : goal.loop-preserved
loop-preserved c = record {
  split = λ k e. spread_next k c.loop.mask c.loop.next c.as_slice-digests.result.now _ c.loop.all.items (c.loop.invariant.split (suc k) (omega (arith, e)))
      ∙ rw (grown, c.from-next.ensures, byte_is (eqb (c.loop.mask % 2) 1)) refl;
  few = omega (arith, c.loop.invariant.few, c.from-next.ensures, byte_small (eqb (c.loop.mask % 2) 1));
}
  where
    grown : c.push.new.self.items ≡ c.loop.all.items ++ cond (eqb (c.loop.mask % 2) 1) (slice_get c.as_slice-digests.result.now c.loop.next) None ∷ []
    grown = (c.in_ok-push.ensures).items ∙ ap (λ x. c.loop.all.items ++ x ∷ []) c.if_there.ensures

pub returns-clause-ok : goal.returns-clause-ok
returns-clause-ok c = c.new.ensures ∙ sym (c.loop.invariant.split 0 (omega (arith, c.loop-test.false, c.loop.auto.counter-end)) ∙ append-nil c.loop.all.items)
