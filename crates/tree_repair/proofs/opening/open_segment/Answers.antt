use Rattle.std.proofs.Common.{sym}
use Rattle.tree_repair.proofs.Stepping.{segment_made}
use Rattle.tree_repair.proofs.opening.open_segment.Goals as goal

pub returns-in-Some : goal.returns-in-Some
returns-in-Some c = segment_made c.args.version c.args.slot.at c.args.slot.digest c.args.found c.args.read.now c.in-Some.bytes c.as_slice.result.now c.segment.result (c.requires).found c.in-Some.is c.as_slice.ensures (sym c.if-not-agrees.ensures) c.segment.ensures
