use Rattle.std.proofs.Common.{sym}
use Rattle.command_line.proofs.Exactly.{job_read, job_refused}
use Rattle.command_line.proofs.Plain.{option_refused}
use Rattle.command_line.proofs.reading.read_words.Goals as goal

pub returns-then-has_option : goal.returns-then-has_option
returns-then-has_option c = option_refused _ (sym c.if-has_option.ensures)

pub returns-in-Ok : goal.returns-in-Ok
returns-in-Ok c = job_read _ c.in-Ok.job (c.in-Ok.ensures (sym c.if-has_option.ensures))

pub returns-in-Err-Bad : goal.returns-in-Err-Bad
returns-in-Err-Bad c = job_refused _ c.in-Err-Bad.field-0-0 (rw c.in-Err-Bad.field-0-is at (c.in-Err-Bad.ensures (sym c.if-has_option.ensures)))
