use Rattle.std.proofs.Common.{◌≡◌, Result, Ok, Err}
use Rattle.std.specs.Prelude.{IfOk, List, ℕ}
use Rattle.schedule_text.specs.Errors.{Answers}
use Rattle.schedule_text.specs.declared.error.ScheduleError.{ScheduleError}
use Rattle.scripts.specs.RootReading.{script_of}
use Rattle.scripts.specs.Spelling.{IsScript, script_text}
use Rattle.scripts.specs.declared.script.RootScript.{RootScript}
use Rattle.scripts.proofs.ScriptsRead.{script_of-ok}
use Rattle.scripts.proofs.root_read.read_root.Goals as goal

text_back : (text : List ℕ) (r : Result RootScript ScheduleError) → Answers (script_of text) r → IfOk r (λ s. script_text s ≡ text)
text_back text (Ok s) h = (script_of-ok text s h).1
text_back text (Err e) h = tt

is_script : (text : List ℕ) (r : Result RootScript ScheduleError) → Answers (script_of text) r → IfOk r IsScript
is_script text (Ok s) h = (script_of-ok text s h).0
is_script text (Err e) h = tt

pub returns-clause-text : goal.returns-clause-text
returns-clause-text c = text_back c.args.bytes.now c.read_lines.result c.read_lines.ensures

pub returns-clause-script : goal.returns-clause-script
returns-clause-script c = is_script c.args.bytes.now c.read_lines.result c.read_lines.ensures
