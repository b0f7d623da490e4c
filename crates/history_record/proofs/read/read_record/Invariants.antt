use Rattle.std.proofs.Common.{◌≡◌, ◌++◌, ◌∷◌, [], drop}
use Rattle.schedule_text.specs.Texts.{texts}
use Rattle.history_record.specs.Reading.{read_parts, record_of}
use Rattle.history_record.proofs.read.read_record.Given as goal

abbrev pub invariant-loop-line : goal.invariant-loop-line
invariant-loop-line l = read_parts l.reading (texts (drop l.line-index l.lines ++ l.rest ∷ [])) ≡ record_of l.bytes
