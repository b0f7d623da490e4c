use Rattle.tree_exchange.proofs.Keeping.{done_has}
use Rattle.tree_exchange.proofs.laws.a_done_ask_has_what_it_covers.Goals as goal

pub returns : goal.returns
returns c = λ tree ask own key v done covers. done_has tree ask own key v done covers
