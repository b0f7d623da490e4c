use Rattle.cluster.proofs.Delivering.{delivered_once}
use Rattle.cluster.proofs.laws.each_message_is_delivered_once.Goals as goal

pub returns : goal.returns
returns c = delivered_once
