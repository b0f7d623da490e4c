use Rattle.std.proofs.Common.{◌≡◌, Result, Ok, Err}
use Rattle.std.specs.Prelude.{IfOk, List, ℕ}
use Rattle.schedule_text.specs.Errors.{Answers}
use Rattle.schedule_text.specs.Reading.{schedule_of}
use Rattle.schedule_text.specs.Spelling.{IsSchedule, schedule_text}
use Rattle.schedule_text.specs.declared.error.ScheduleError.{ScheduleError}
use Rattle.schedule_text.specs.declared.schedule.Schedule.{Schedule}
use Rattle.schedule_text.proofs.SchedulesRead.{schedule_of-ok}
use Rattle.schedule_text.proofs.read_text.read_schedule.Goals as goal

text_back : (text : List ℕ) (r : Result Schedule ScheduleError) → Answers (schedule_of text) r → IfOk r (λ s. schedule_text s ≡ text)
text_back text (Ok s) h = (schedule_of-ok text s h).1
text_back text (Err e) h = tt

is_schedule : (text : List ℕ) (r : Result Schedule ScheduleError) → Answers (schedule_of text) r → IfOk r IsSchedule
is_schedule text (Ok s) h = (schedule_of-ok text s h).0
is_schedule text (Err e) h = tt

pub returns-clause-text : goal.returns-clause-text
returns-clause-text c = text_back c.args.bytes.now c.read_lines.result c.read_lines.ensures

pub returns-clause-schedule : goal.returns-clause-schedule
returns-clause-schedule c = is_schedule c.args.bytes.now c.read_lines.result c.read_lines.ensures
