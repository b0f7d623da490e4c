use Rattle.std.proofs.Common.{◌≡◌, None, replicate}
use Rattle.repeat_link.proofs.reassembly.no_parts.Given as goal

abbrev pub invariant-loop : goal.invariant-loop
invariant-loop l = l.parts.items ≡ replicate l.counter None
