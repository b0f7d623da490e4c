-- What notes say of their keys.
use Rattle.std.specs.Prelude.{ℕ, List, [], ◌∷◌, map, if◌then◌else◌}
use Rattle.ens_base.specs.Lists.{same_bytes}
use Rattle.register_model.specs.declared.note.Note.{Note}
use Rattle.register_model.specs.declared.note.Note.TheVariants as note
use Rattle.history_scribe.specs.declared.mark.Mark.{Mark}
use Rattle.history_scribe.specs.declared.mark.Mark.TheVariants.{Proposed, Settled, Read}

-- the key of a note
abbrev pub key_of : Note → List ℕ
key_of (note.Proposed key version parent call) = key
key_of (note.Settled key version) = key
key_of (note.Read id key base) = key

-- the content of a note, without its key
abbrev pub mark_of : Note → Mark
mark_of (note.Proposed key version parent call) = Proposed version parent call
mark_of (note.Settled key version) = Settled version
mark_of (note.Read id key base) = Read id base

-- the note with this content on the key
abbrev pub noted : List ℕ → Mark → Note
noted key (Proposed version parent call) = note.Proposed key version parent call
noted key (Settled version) = note.Settled key version
noted key (Read id base) = note.Read id key base

-- the notes with these contents on the key
abbrev pub all_noted : List ℕ → List Mark → List Note
all_noted key marks = map (noted key) marks

-- the contents of the notes on the key, in their order
abbrev pub marks_on : List Note → List ℕ → List Mark
marks_on [] key = []
marks_on (n ∷ notes) key = if same_bytes (key_of n) key then mark_of n ∷ marks_on notes key else marks_on notes key
