use Rattle.std.proofs.Common.{◌≡◌, ◌++◌, drop, Ok}
use Rattle.ens_base.specs.Results.{◌>>=◌}
use Rattle.schedule_text.specs.Texts.{texts}
use Rattle.history_record.specs.Lines.{ids_from}
use Rattle.history_record.proofs.lines.ids.Given as goal

abbrev pub invariant-loop-word : goal.invariant-loop-word
invariant-loop-word l = (ids_from (texts (drop l.word-index l.words)) >>= λ rest. Ok (l.ids.items ++ rest)) ≡ ids_from (texts l.words)
