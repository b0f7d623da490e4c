use Rattle.std.proofs.Common.{arith, vec_len}
use Rattle.tree_exchange.proofs.Stacks.{next_reversed}
use Rattle.tree_exchange.proofs.places.Places.next.Goals as goal

pub returns : goal.returns
returns c = next_reversed c.args.self.now c.self.inside.stack.items _ _ (vec_len c.self.inside.stack) _ c.self.view_is (omega (arith, c.self.inside.stack.ok)) (c.pop.ensures).items (c.pop.ensures).cases
