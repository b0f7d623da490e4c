use Rattle.register_model.proofs.Openings.{one_value}
use Rattle.register_model.proofs.history_laws.opened_keys_have_one_value.Goals as goal

pub returns : goal.returns
returns c = λ calls answers key order apart opens legal. one_value calls answers key apart opens order legal
