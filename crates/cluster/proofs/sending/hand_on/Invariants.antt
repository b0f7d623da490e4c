use Rattle.std.proofs.Common.{◌≡◌, ◌+◌, take}
use Rattle.cluster.specs.Sending.{HandedAll}
use Rattle.cluster.proofs.sending.hand_on.Given as goal

abbrev pub invariant-loop-frame : goal.invariant-loop-frame
invariant-loop-frame g l = record {
  handed : HandedAll g.L.Link.sent g.L.Link.given g.L.Link.fault_count (take l.frame-index l.frames) (l.before + 1) l.fn.link l.fn.index l.index l.link;
  number : l.number ≡ l.before + l.frame-index;
}
