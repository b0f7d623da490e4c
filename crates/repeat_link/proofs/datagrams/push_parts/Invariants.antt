use Rattle.std.proofs.Common.{◌≡◌, ◌++◌}
use Rattle.repeat_link.specs.Sendings.{first_parts}
use Rattle.repeat_link.proofs.datagrams.push_parts.Given as goal

abbrev pub invariant-loop-part : goal.invariant-loop-part
invariant-loop-part l = l.out.items ≡ l.initial.out.items ++ first_parts l.header l.parts l.part l.frame
