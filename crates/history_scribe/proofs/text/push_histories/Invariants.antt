use Rattle.std.proofs.Common.{◌≡◌, ◌++◌, take, string_bytes}
use Rattle.std.specs.List.{flat_map}
use Rattle.history_scribe.specs.Text.{history_line}
use Rattle.history_scribe.proofs.text.push_histories.Given as goal

abbrev pub invariant-loop-history : goal.invariant-loop-history
invariant-loop-history l = string_bytes l.text ≡ string_bytes l.initial.text ++ flat_map history_line (take l.history-index l.histories)
