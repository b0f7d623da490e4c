use Rattle.std.proofs.Common.{◌≡◌, drop}
use Rattle.http1.specs.Head.{pairs}
use Rattle.http_calls.specs.Fields.{field_after, field_of, seen_value}
use Rattle.http_calls.proofs.request_fields.field.Given as goal

abbrev pub invariant-loop-header : goal.invariant-loop-header
invariant-loop-header l =
    field_after l.name (pairs (drop l.header-index l.headers)) (seen_value l.found) ≡ field_of l.name (pairs l.headers)
