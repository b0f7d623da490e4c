use Rattle.std.proofs.Common.{sym, ◌∙◌}
use Rattle.history_record.proofs.Begun.{ended-fit}
use Rattle.history_record.proofs.reading.RecordReading.end.Goals as goal

pub missing_answers-requires : goal.missing_answers-requires
missing_answers-requires c = ended-fit _ c.args.rest.now c.in-Ok.schedule (sym c.end-2.ensures ∙ c.in-Ok.is) c.self.invariant
