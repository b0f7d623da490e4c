use Rattle.repeat_link.proofs.Windows.{taken_once}
use Rattle.repeat_link.proofs.laws.each_number_is_taken_once.Goals as goal

pub returns : goal.returns
returns c = taken_once
