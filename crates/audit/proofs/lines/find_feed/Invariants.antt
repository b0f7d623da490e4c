use Rattle.std.proofs.Common.{take}
use Rattle.environment.specs.Lines.{HasNoFeed}
use Rattle.audit.proofs.lines.find_feed.Given as goal

abbrev pub invariant-loop-i : goal.invariant-loop-i
invariant-loop-i l = HasNoFeed (take l.i l.bytes)
