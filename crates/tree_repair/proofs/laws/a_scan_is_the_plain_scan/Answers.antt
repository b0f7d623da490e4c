use Rattle.tree_repair.proofs.Descending.{scan_is_plain}
use Rattle.tree_repair.proofs.laws.a_scan_is_the_plain_scan.Goals as goal

pub returns : goal.returns
returns c = scan_is_plain
