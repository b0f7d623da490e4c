use Rattle.std.proofs.Common.{subst, length, arith}
use Rattle.stored_formats.specs.Objects.{Answers, object_of}
use Rattle.stored_formats.proofs.ObjectLaws.{all_answers, object_found, object_again}
use Rattle.stored_formats.proofs.object.Object.decode.Goals as goal

pub returns-clause-found : goal.returns-clause-found
returns-clause-found c =
    let exact : Answers c.if_all.result (object_of c.args.bytes.now) = rw c.if_all.ensures (all_answers _ _ (length c.args.bytes.now) c.read_object-read.ensures.exact) in
    object_found c.args.bytes.now c.if_all.result (λ i. omega (arith, c.type_inv.bytes i)) exact

pub returns-clause-only : goal.returns-clause-only
returns-clause-only c =
    let exact : Answers c.if_all.result (object_of c.args.bytes.now) = rw c.if_all.ensures (all_answers _ _ (length c.args.bytes.now) c.read_object-read.ensures.exact) in
    λ o good e. subst (λ r. Answers c.if_all.result r) (object_again c.args.bytes.now o good e) exact
