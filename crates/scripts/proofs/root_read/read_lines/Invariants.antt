use Rattle.std.proofs.Common.{◌≡◌, length}
use Rattle.schedule_input.specs.LineReading.{read_text}
use Rattle.scripts.specs.RootReading.{ended, next_line, script_of}
use Rattle.scripts.proofs.root_read.read_lines.Given as goal

abbrev pub invariant-loop-line : goal.invariant-loop-line
invariant-loop-line l = read_text next_line ended l.reading l.rest ≡ script_of l.bytes

abbrev pub decreases-loop-line : goal.decreases-loop-line
decreases-loop-line l = length l.rest
