use Rattle.std.proofs.Common.{◌∙◌, sym}
use Rattle.synctree.proofs.Puts.{segment_text_is}
use Rattle.synctree.proofs.encoding.encode_segment.Goals as goal

pub returns-in-Ok : goal.returns-in-Ok
returns-in-Ok c = c.in-Ok.ensures.ok ∙ sym (segment_text_is c.args.segment.now.version c.args.segment.now.position c.args.segment.now.entries)
