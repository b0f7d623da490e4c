use Rattle.std.proofs.Common.{◌≡◌, ℕ, ◌-◌, arith, length, take, drop, length-drop}
use Rattle.std.proofs.lemmas.List.{take_all}
use Rattle.environment.proofs.Bytes.{appends_more}
use Rattle.environment.proofs.sink.write_all.Goals as goal

pub loop-at-preserved : goal.loop-at-preserved
loop-at-preserved g c = record {
  in_range = omega (arith, c.in_ok-at.ensures.bound);
  known = appends_more _ _ _ c.args.bytes.now c.loop-at.at c.in_ok-at.field-0 c.loop-at.invariant.known (rw whole at c.in_ok-at.ensures.bytes);
  count = omega (arith, c.write_some.ensures.cause.later);
}
  where
    whole : take (length c.args.bytes.now - c.loop-at.at) (drop c.loop-at.at c.args.bytes.now) ≡ drop c.loop-at.at c.args.bytes.now
    whole = take_all _ _ (omega (arith, length-drop {A = ℕ}))
