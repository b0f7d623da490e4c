use Rattle.std.proofs.Common.{◌<◌, refl, ap, arith, length, ◌∙◌}
use Rattle.network.specs.Lines.{from_waiting}
use Rattle.network.proofs.Numbers.{prefix_in, behind_in, skip_prefix}
use Rattle.network.proofs.lines.skip_settled.Goals as goal

pub bounds-waiting-number : goal.bounds-waiting-number
bounds-waiting-number c =
    let some : 0 < length c.loop-number.queue.items = omega (arith, c.in-Some.ensures.variant.0 refl, c.loop-number.queue.ok.0) in
    c.loop-number.invariant.below c.in-Some.field-0.now (prefix_in c.loop-number.queue.items c.in-Some.field-0.now some c.in-Some.ensures.lookup)

pub loop-number-preserved : goal.loop-number-preserved
loop-number-preserved c = record {
  below = λ n there. c.loop-number.invariant.below n (behind_in c.loop-number.queue.items n (rw c.pop_front.ensures.rest at there));
  same = ap (from_waiting c.args.waiting.now) c.pop_front.ensures.rest ∙ skip_prefix c.args.waiting.now c.loop-number.queue.items c.in-Some.field-0.now c.in-Some.ensures.lookup c.if-waiting-number.false ∙ c.loop-number.invariant.same;
}
