-- Facts as a peer saves them, each with the seal of its tree, if it has one.
use Rattle.std.specs.Prelude.{ℕ, List, Option, None, Some}
use Rattle.phase_rows.specs.StoredFormats.{Fact, SavedFact}

-- the fact, as it is saved with this seal
abbrev pub with_seal : Option (List ℕ) → Fact → SavedFact
with_seal seal fact = record { fact = fact; seal = seal }

-- the fact that is kept, without its seal
abbrev pub bare : Option SavedFact → Option Fact
bare None = None
bare (Some saved) = Some saved.fact

-- the seal that is kept with the fact, if there is one
abbrev pub kept_seal : Option SavedFact → Option (List ℕ)
kept_seal None = None
kept_seal (Some saved) = saved.seal
