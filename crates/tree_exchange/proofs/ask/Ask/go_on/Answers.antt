use Rattle.tree_node.specs.declared.version.TreeVersion.TheVariants.{Two}
use Rattle.tree_exchange.proofs.Stacks.{left_places}
use Rattle.tree_exchange.proofs.ask.Ask.go_on.Goals as goal

pub invariant_of-self : goal.invariant_of-self
invariant_of-self c = (c.next_question.ensures).places (left_places Two c.self.inside.current c.self.inside.left c.self.invariant)
