-- The line of the history of a slot, from that of its key in the root.
use Rattle.std.specs.Prelude.{ℕ, List, [], ◌∷◌, ◌++◌, codes}
use Rattle.std.specs.Fmt.{decimal}
use Rattle.std.specs.List.{flat_map}
use Rattle.history_scribe.specs.Text.{next_id}

-- slot S ID ID .., for the key of a slot
abbrev pub slot_history_line : List ℕ → List ℕ → List ℕ
slot_history_line (slot ∷ []) calls = codes "slot " ++ decimal slot ++ flat_map next_id calls ++ 10 ∷ []
slot_history_line key calls = []
