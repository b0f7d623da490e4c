use Rattle.std.proofs.Common.{◌≡◌, length}
use Rattle.lexemes.specs.Words.{parts_of}
use Rattle.schedule_text.specs.Reading.{read_parts, schedule_of}
use Rattle.schedule_text.proofs.read_text.read_lines.Given as goal

abbrev pub invariant-loop-line : goal.invariant-loop-line
invariant-loop-line l = read_parts l.reading (parts_of 10 l.rest) ≡ schedule_of l.bytes

abbrev pub decreases-loop-line : goal.decreases-loop-line
decreases-loop-line l = length l.rest
