use Rattle.std.proofs.Common.{arith, inl, inr}
use Rattle.std.proofs.lemmas.Bool.{cases_eq}
use Rattle.std.proofs.lemmas.Grind.{common_steps}
use Rattle.std.proofs.lemmas.Option.{gets}
use Rattle.network.proofs.network.next_waiting.Goals as goal

pub loop-number-preserved : goal.loop-number-preserved
loop-number-preserved c = record {
  within = omega (arith, c.loop-number-test.true);
  none = λ n below. elim (cases_eq n c.loop-number.number) [
    | inl e ↦ grind (arith, common_steps, gets, e)
    | inr other ↦ c.loop-number.invariant.none n (omega (arith, below, other))
  ];
}

pub returns : goal.returns
returns c = record {
  within = omega arith;
  none = λ n below. c.loop-number.invariant.none n (omega (arith, below, c.loop-number-test.false));
}
