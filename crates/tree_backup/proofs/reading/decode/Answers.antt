use Rattle.std.proofs.Common.{length, arith}
use Rattle.tree_backup.specs.Readings.{Answers, backup_of}
use Rattle.tree_backup.proofs.Grammars.{all_answers, backup_found}
use Rattle.tree_backup.proofs.reading.decode.Goals as goal

pub returns-clause-found : goal.returns-clause-found
returns-clause-found c =
    let exact : Answers c.if_all.result (backup_of c.args.bytes.now) = rw c.if_all.ensures (all_answers _ _ (length c.args.bytes.now) c.read_backup-read.ensures.exact) in
    backup_found c.args.bytes.now c.if_all.result (λ i. omega (arith, c.type_inv.bytes i)) exact
