use Rattle.std.proofs.Common.{◌≡◌, ◌+◌, arith}
use Rattle.trace.proofs.Lines.{one_more}
use Rattle.trace.proofs.text.write_trace.Goals as goal

pub loop-frame-preserved : goal.loop-frame-preserved
loop-frame-preserved c =
    let i = c.loop-frame.frame-index in
    let number : c.loop-frame.number + 1 ≡ 1 + i = omega (arith, c.loop-frame.invariant.number) in
    record {
      text = rw (one_more c.args.names 1 i c.args.sent.now c.frame-item.result c.loop-frame-test.true) (rw (← c.frame-item.is) (rw (← number) (rw (← c.loop-frame.invariant.text) c.in_ok-push_message.ensures)));
      number = omega (arith, c.loop-frame.invariant.number);
    }
