use Rattle.std.proofs.Common.{◌<◌, false, length, arith, ap, sym, ◌∙◌}
use Rattle.std.proofs.lemmas.Bool.{or_right}
use Rattle.std.proofs.lemmas.List.{length-set}
use Rattle.network.specs.Lines.{cleared}
use Rattle.network.proofs.Numbers.{first_in}
use Rattle.network.proofs.lines.clear_all.Goals as goal

pub bounds-waiting-number : goal.bounds-waiting-number
bounds-waiting-number c =
    c.loop-number.invariant.below c.in-Some.number (rw c.in-Some.ensures.items (first_in c.in-Some.number c.pop_front.new.self.items))

pub loop-number-preserved : goal.loop-number-preserved
loop-number-preserved c = record {
  below = λ n there. let known : n < length c.loop-number.waiting = c.loop-number.invariant.below n (rw c.in-Some.ensures.items (or_right _ _ there)) in omega (arith, known, length-set c.loop-number.waiting c.in-Some.number false);
  same = ap (cleared c.loop-number.waiting) (sym c.in-Some.ensures.items) ∙ c.loop-number.invariant.same;
}
