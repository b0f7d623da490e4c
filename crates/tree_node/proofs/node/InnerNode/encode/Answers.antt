use Rattle.std.proofs.Common.{ℕ, List, ◌++◌, ap, ◌∙◌, refl}
use Rattle.tree_node.specs.Nodes.{inner_spelling}
use Rattle.tree_node.proofs.NodeLaws.{inner_again}
use Rattle.tree_node.proofs.node.InnerNode.encode.Goals as goal

pub returns-in-Ok-clause-again : goal.returns-in-Ok-clause-again
returns-in-Ok-clause-again c =
    inner_again c.args.self.now.version c.args.self.now.position c.requires.position _ c.args.self.now
    (record { position = c.requires.position; mask = c.in-Ok.ensures.valid.0; each = c.requires.each; digests = c.in-Ok.ensures.valid.1 }) refl refl
    (c.in-Ok.ensures.ok ∙ ap (λ (l : List ℕ). l ++ inner_spelling c.args.self.now) c.in_ok-out.ensures.ok)
