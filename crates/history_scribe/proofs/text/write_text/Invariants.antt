use Rattle.std.proofs.Common.{◌≡◌, take, string_bytes}
use Rattle.std.specs.List.{flat_map}
use Rattle.history_scribe.specs.Text.{printed_line}
use Rattle.history_scribe.proofs.text.write_text.Given as goal

abbrev pub invariant-loop-line : goal.invariant-loop-line
invariant-loop-line l = string_bytes l.text ≡ flat_map printed_line (take l.line-index l.printed)
