use Rattle.std.proofs.Common.{[]}
use Rattle.tree_node.proofs.EntryLaws.{entries_valid}
use Rattle.wire_frames.proofs.PutLaws.{on_ok_of}
use Rattle.wire_frames.proofs.put_parts.append_page.Goals as goal

pub returns-clause-valid : goal.returns-clause-valid
returns-clause-valid c = on_ok_of c.append_flag.result _ (c.requires.few, entries_valid [] c.args.entries.now c.requires.ascending (rw c.as_slice-entries.ensures at c.in_ok-append_entries.ensures.valid))
