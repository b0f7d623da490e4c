use Rattle.std.proofs.Common.{arith}
use Rattle.wire_frames.proofs.PlaceLaws.{message_places}
use Rattle.wire_frames.proofs.decoding.read_ends.Goals as goal

pub if_all-requires : goal.if_all-requires
if_all-requires c = message_places c.args.kind c.args.bytes.now c.take_message-read.result c.requires.long (omega (arith, c.requires.small)) c.take_message-read.ensures.exact
