-- The text that a run prints.
use Rattle.std.specs.Prelude.{◌≡◌, ℕ, List, ◌++◌, codes}
use Rattle.std.specs.List.{flat_map}
use Rattle.history_scribe.specs.Histories.{AreHistories}
use Rattle.history_scribe.specs.Text.{history_line, printed_line}
use Rattle.register_model.specs.declared.history.History.{History}
use Rattle.world_model.specs.WorldSpec.{Run}

-- what the run of a world printed, in order, followed by one history for each key that a call named
abbrev pub IsTextOfRun : Run → List ℕ → Type 0
IsTextOfRun run text = (histories : List History) × AreHistories run.notes run.called histories × (text ≡ flat_map printed_line run.printed ++ flat_map history_line histories)

-- a schedule, the line `answers`, and the text that was printed
abbrev pub record_text : List ℕ → List ℕ → List ℕ
record_text schedule printed = schedule ++ codes "answers\n" ++ printed
