use Rattle.std.proofs.Common.{◌≡◌, map, take}
use Rattle.httparse.specs.Spans.{header_bytes}
use Rattle.http1.specs.Head.{pairs}
use Rattle.http_exchange.proofs.request.Request.headers.Given as goal

abbrev pub invariant-loop-span : goal.invariant-loop-span
invariant-loop-span l =
    pairs l.headers.items ≡ map (header_bytes l.self-inside.head.items) (take l.span-index l.span-items)
