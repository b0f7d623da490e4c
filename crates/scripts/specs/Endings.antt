-- What a job prints if it read no script.
use Rattle.std.specs.Prelude.{◌≡◌, ℕ, List, [], ◌∷◌, ◌++◌, codes, Option, Err, IfSome}
use Rattle.scripts.specs.RootReading.{script_of}
use Rattle.schedule_text.specs.declared.error.ScheduleError.TheVariants as schedule
use Rattle.schedule_input.specs.Endings.{bad_line}
use Rattle.ens_base.specs.declared.status.Status.{Status}

-- line 200,001 of the bytes begins, and the text reports it
abbrev pub IsLineLimit : Option (List ℕ) → List ℕ → Type 0
IsLineLimit source text = IfSome source (λ bytes. script_of bytes ≡ Err schedule.Lines) × (text ≡ codes "limit lines 200000" ++ 10 ∷ [])

-- the bytes have a bad line, and the text reports the first one and its cause
abbrev pub IsBadLine : Option (List ℕ) → List ℕ → Type 0
IsBadLine source text = (line : ℕ) × (cause : ℕ) × IfSome source (λ bytes. script_of bytes ≡ Err (schedule.Bad line cause)) × (text ≡ bad_line line cause)

-- the text if no script was read, for each status
abbrev pub IsUnread : Option (List ℕ) → Status → List ℕ → Type 0
IsUnread source Status.Schedule text = IsBadLine source text
IsUnread source Status.Limit text = IsLineLimit source text
IsUnread source Status.ReadFault text = text ≡ codes "read fault" ++ 10 ∷ []
IsUnread source status text = ⊥
