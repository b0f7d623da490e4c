use Rattle.std.proofs.Common.{◌<◌, length, arith}
use Rattle.std.proofs.lemmas.Bool.Decides.{nat_tests}
use Rattle.tree_backup.proofs.Outcomes.{split_first}
use Rattle.tree_backup.proofs.backing.sound.Goals as goal

pub returns-then-not-is_empty : goal.returns-then-not-is_empty
returns-then-not-is_empty c =
    let some : 0 < length c.as_slice-damaged.result.now = grind (arith, nat_tests) in
    split_first c.args.found.damaged c.as_slice-damaged.result.now _ c.as_slice-damaged.ensures some
