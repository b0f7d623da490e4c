use Rattle.step_laws.proofs.Ticking.{tick_reminds}
use Rattle.step_laws.proofs.ticks.a_tick_without_calls_reminds.Goals as goal

pub returns : goal.returns
returns c = tick_reminds
