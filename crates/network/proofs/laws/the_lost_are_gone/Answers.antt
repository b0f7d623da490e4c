use Rattle.network.proofs.Losses.{lost_is_gone, others_stay}
use Rattle.network.proofs.laws.the_lost_are_gone.Goals as goal

pub returns : goal.returns
returns c = record { gone = lost_is_gone; others = others_stay }
