use Rattle.fields.proofs.FieldFaults.{named_faults}
use Rattle.stored_formats.proofs.ObjectLaws.{object_grammar}
use Rattle.stored_formats.proofs.ObjectFaults.{object_faults}
use Rattle.stored_formats.proofs.object_faults.objects_fault_first.Goals as goal

pub returns : goal.returns
returns c = named_faults object_grammar object_faults
