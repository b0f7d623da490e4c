use Rattle.std.proofs.Common.{◌∙◌, arith, sym, subst, Bool}
use Rattle.synctree.specs.Answers.{Makes}
use Rattle.synctree.proofs.Descending.{inner_kind, segment_kind}
use Rattle.synctree.proofs.nodes.is_node.Goals as goal

pub returns-then-at-last : goal.returns-then-at-last
returns-then-at-last c = subst (λ (b : Bool). Makes c.is_segment.result b) (sym (segment_kind c.args.version c.args.at c.args.bytes.now (c.if-at-last.true ∙ c.levels-last.ensures))) c.is_segment.ensures

pub returns-else-at-last : goal.returns-else-at-last
returns-else-at-last c = subst (λ (b : Bool). Makes c.is_inner.result b) (sym (inner_kind c.args.version c.args.at c.args.bytes.now (omega (arith, c.requires.level, c.if-at-last.false, c.levels-last.ensures)))) c.is_inner.ensures
