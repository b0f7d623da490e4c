use Rattle.call_table.proofs.Greatest.{best_is_greatest}
use Rattle.call_table.proofs.laws.the_best_is_the_greatest.Goals as goal

pub returns : goal.returns
returns c = best_is_greatest
