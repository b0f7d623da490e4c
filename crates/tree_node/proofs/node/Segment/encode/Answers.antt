use Rattle.std.proofs.Common.{ℕ, List, [], ◌++◌, ap, ◌∙◌, refl}
use Rattle.tree_node.specs.Nodes.{segment_spelling}
use Rattle.tree_node.proofs.EntryLaws.{entries_valid}
use Rattle.tree_node.proofs.NodeLaws.{segment_again}
use Rattle.tree_node.proofs.node.Segment.encode.Goals as goal

pub returns-in-Ok-clause-again : goal.returns-in-Ok-clause-again
returns-in-Ok-clause-again c =
    segment_again c.args.self.now.version c.args.self.now.position c.requires.position _ c.args.self.now
    (record { position = c.requires.position; few = c.requires.few; entries = entries_valid [] c.args.self.now.entries c.requires.ascending c.in-Ok.ensures.valid }) refl refl
    (c.in-Ok.ensures.ok ∙ ap (λ (l : List ℕ). l ++ segment_spelling c.args.self.now) c.in_ok-out.ensures.ok)
