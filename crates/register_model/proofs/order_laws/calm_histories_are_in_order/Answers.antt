use Rattle.register_model.proofs.Served.{calm_order}
use Rattle.register_model.proofs.order_laws.calm_histories_are_in_order.Goals as goal

pub returns : goal.returns
returns c = λ calls answers key order all legal. calm_order calls answers key order legal all
