use Rattle.std.proofs.Common.{◌≡◌, map, take}
use Rattle.http1.specs.Head.{pairs}
use Rattle.http_calls.specs.Answers.{field_parts}
use Rattle.http_calls.proofs.answer.Answer.headers.Given as goal

abbrev pub invariant-loop-field : goal.invariant-loop-field
invariant-loop-field l = pairs l.headers.items ≡ map field_parts (take l.field-index l.field-items)
