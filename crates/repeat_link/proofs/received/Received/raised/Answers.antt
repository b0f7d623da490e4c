use Rattle.std.proofs.Common.{◌-◌, arith}
use Rattle.repeat_link.proofs.Windows.{raised_takes}
use Rattle.repeat_link.proofs.received.Received.raised.Goals as goal

pub returns-then-step-lt64 : goal.returns-then-step-lt64
returns-then-step-lt64 c = raised_takes c.args.self c.args.number (c.args.number - c.args.self.greatest - 1) (omega arith) (omega arith)
