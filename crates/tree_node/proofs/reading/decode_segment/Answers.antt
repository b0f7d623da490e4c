use Rattle.std.proofs.Common.{subst, length, arith}
use Rattle.tree_node.specs.Nodes.{Answers, segment_of}
use Rattle.tree_node.proofs.NodeLaws.{all_answers, segment_found, segment_again}
use Rattle.tree_node.proofs.reading.decode_segment.Goals as goal

pub returns-clause-found : goal.returns-clause-found
returns-clause-found c =
    let exact : Answers c.if_all.result (segment_of c.args.version c.args.at c.args.bytes.now) = rw c.if_all.ensures (all_answers _ _ (length c.args.bytes.now) c.read_segment-read.ensures.exact) in
    segment_found c.args.version c.args.at c.requires c.args.bytes.now c.if_all.result (λ i. omega (arith, c.type_inv.bytes i)) exact

pub returns-clause-only : goal.returns-clause-only
returns-clause-only c =
    let exact : Answers c.if_all.result (segment_of c.args.version c.args.at c.args.bytes.now) = rw c.if_all.ensures (all_answers _ _ (length c.args.bytes.now) c.read_segment-read.ensures.exact) in
    λ s good of is e. subst (λ r. Answers c.if_all.result r) (segment_again c.args.version c.args.at c.requires c.args.bytes.now s good of is e) exact
