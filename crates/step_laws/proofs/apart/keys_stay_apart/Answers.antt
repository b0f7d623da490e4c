use Rattle.step_laws.proofs.OtherKeys.{check_keeps, check_unknown, tick_keeps}
use Rattle.step_laws.proofs.apart.keys_stay_apart.Goals as goal

pub returns-clause-checked : goal.returns-clause-checked
returns-clause-checked c = check_keeps

pub returns-clause-not_checked : goal.returns-clause-not_checked
returns-clause-not_checked c = check_unknown

pub returns-clause-tick : goal.returns-clause-tick
returns-clause-tick c = tick_keeps
