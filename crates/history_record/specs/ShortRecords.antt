-- A record whose histories are shortened: what of it an audit reports.
use Rattle.std.specs.Prelude.{List, [], ◌∷◌, map, Result, Ok, Err}
use Rattle.register_model.specs.declared.call.Call.{Call}
use Rattle.register_model.specs.declared.history.History.{History}
use Rattle.history_record.specs.Shortened.{shortened}
use Rattle.history_record.specs.Calls.{calls_from}
use Rattle.history_record.specs.Reading.{Stage, Before, Behind}
use Rattle.history_record.specs.Records.{calls_of}
use Rattle.history_record.specs.Telling.{Heard}
use Rattle.history_record.specs.declared.error.AuditError.{AuditError}
use Rattle.history_record.specs.declared.record.Record.{Record}

-- ## The last history

abbrev pub short_last : List Call → List History → List History
short_last calls [] = []
short_last calls (h ∷ []) = shortened calls h ∷ []
short_last calls (h ∷ g ∷ more) = h ∷ short_last calls (g ∷ more)

abbrev pub with_short_last : Heard → Heard
with_short_last h = record h { histories = short_last (calls_from 1 h.schedule.events) h.histories }

abbrev pub stage_with_short_last : Stage → Stage
stage_with_short_last (Before p) = Before p
stage_with_short_last (Behind h) = Behind (with_short_last h)

-- ## All histories

abbrev pub short_heard : Heard → Heard
short_heard h = record h { histories = map (shortened (calls_from 1 h.schedule.events)) h.histories }

abbrev pub short_stage : Stage → Stage
short_stage (Before p) = Before p
short_stage (Behind h) = Behind (short_heard h)

abbrev pub short_record : Record → Record
short_record r = record r { histories = map (shortened (calls_of r)) r.histories }

abbrev pub short_next : Result Stage AuditError → Result Stage AuditError
short_next (Ok s) = Ok (short_stage s)
short_next (Err e) = Err e

abbrev pub short_result : Result Record AuditError → Result Record AuditError
short_result (Ok r) = Ok (short_record r)
short_result (Err e) = Err e
