use Rattle.fields.proofs.FirstFaultLaws.{field_faults}
use Rattle.wire_frames.proofs.MessageLaws.{message_grammar}
use Rattle.wire_frames.proofs.MessageFaults.{message_faults}
use Rattle.wire_frames.proofs.CauseLaws.{in_order}
use Rattle.wire_frames.proofs.faults.frames_fault_first.Goals as goal

pub returns-clause-header : goal.returns-clause-header
returns-clause-header c = in_order

pub returns-clause-body : goal.returns-clause-body
returns-clause-body c = λ kind range. field_faults (message_grammar kind) (message_faults kind range)
