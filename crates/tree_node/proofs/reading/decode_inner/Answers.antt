use Rattle.std.proofs.Common.{subst, length, arith}
use Rattle.tree_node.specs.Nodes.{Answers, inner_of}
use Rattle.tree_node.proofs.NodeLaws.{all_answers, inner_found, inner_again}
use Rattle.tree_node.proofs.reading.decode_inner.Goals as goal

pub returns-clause-found : goal.returns-clause-found
returns-clause-found c =
    let exact : Answers c.if_all.result (inner_of c.args.version c.args.at c.args.bytes.now) = rw c.if_all.ensures (all_answers _ _ (length c.args.bytes.now) c.read_inner-read.ensures.exact) in
    inner_found c.args.version c.args.at c.requires c.args.bytes.now c.if_all.result (λ i. omega (arith, c.type_inv.bytes i)) exact

pub returns-clause-only : goal.returns-clause-only
returns-clause-only c =
    let exact : Answers c.if_all.result (inner_of c.args.version c.args.at c.args.bytes.now) = rw c.if_all.ensures (all_answers _ _ (length c.args.bytes.now) c.read_inner-read.ensures.exact) in
    λ n good of is e. subst (λ r. Answers c.if_all.result r) (inner_again c.args.version c.args.at c.requires c.args.bytes.now n good of is e) exact
