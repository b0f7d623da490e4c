use Rattle.std.proofs.Common.{◌≡◌, take, string_bytes}
use Rattle.trace.specs.Text.{lines_from}
use Rattle.trace.proofs.text.write_trace.Given as goal

abbrev pub invariant-loop-frame : goal.invariant-loop-frame
invariant-loop-frame l = record {
  text : string_bytes l.text ≡ lines_from l.names 1 (take l.frame-index l.sent);
  number : l.number ≡ l.frame-index;
}
