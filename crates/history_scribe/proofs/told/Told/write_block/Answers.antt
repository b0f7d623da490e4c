use Rattle.std.proofs.Common.{arith}
use Rattle.history_scribe.proofs.Gathered.{block_written}
use Rattle.history_scribe.proofs.told.Told.write_block.Goals as goal

pub returns : goal.returns
returns c = λ notes key told.
    block_written c.args.self.now notes key c.args.version c.call_of.result c.args.calls.now.items c.push_write.new.calls.items c.extend_from_slice.new.self.items c.of.result.now told (omega arith, omega arith) (c.call_of.ensures notes key told) c.in_ok-push_write.ensures c.of.ensures c.in_ok-extend_from_slice.ensures.items
