-- What a job prints if it read no schedule, or one that fails the premise on reverted trees.
use Rattle.std.specs.Prelude.{◌≡◌, ℕ, List, [], ◌∷◌, ◌++◌, codes, Option, Some, Ok, Err, IfSome}
use Rattle.std.specs.Fmt.{decimal}
use Rattle.schedule_input.specs.Premise.{first_unsound, is_reverted}
use Rattle.schedule_input.specs.Text.{premise_line}
use Rattle.schedule_text.specs.Reading.{schedule_of}
use Rattle.schedule_text.specs.declared.error.ScheduleError.TheVariants as schedule
use Rattle.schedule_text.specs.declared.schedule.Schedule.{Schedule}
use Rattle.ens_base.specs.declared.status.Status.{Status}

-- the text that reports the first bad line
abbrev pub bad_line : ℕ → ℕ → List ℕ
bad_line line cause = codes "schedule " ++ decimal line ++ codes " " ++ decimal cause ++ 10 ∷ []

-- line 200,001 of the bytes begins, and the text reports it
abbrev pub IsLineLimit : Option (List ℕ) → List ℕ → Type 0
IsLineLimit source text = IfSome source (λ bytes. schedule_of bytes ≡ Err schedule.Lines) × (text ≡ codes "limit lines 200000" ++ 10 ∷ [])

-- the bytes have a bad line, and the text reports the first one and its cause
abbrev pub IsBadLine : Option (List ℕ) → List ℕ → Type 0
IsBadLine source text = (line : ℕ) × (cause : ℕ) × IfSome source (λ bytes. schedule_of bytes ≡ Err (schedule.Bad line cause)) × (text ≡ bad_line line cause)

-- the text if no schedule was read, for each status
abbrev pub IsUnread : Option (List ℕ) → Status → List ℕ → Type 0
IsUnread source Status.Schedule text = IsBadLine source text
IsUnread source Status.Limit text = IsLineLimit source text
IsUnread source Status.ReadFault text = text ≡ codes "read fault" ++ 10 ∷ []
IsUnread source status text = ⊥

-- the text reports the first view that fails the premise of the schedule
abbrev pub IsPremiseText : Schedule → List ℕ → Type 0
IsPremiseText s text = (view : List ℕ) × (first_unsound s ≡ Some view) × (text ≡ premise_line (is_reverted s.events) view)

-- the bytes are a schedule that fails the premise, and the text reports its first such view
abbrev pub IsUnsound : Option (List ℕ) → List ℕ → Type 0
IsUnsound source text = (s : Schedule) × IfSome source (λ bytes. schedule_of bytes ≡ Ok s) × IsPremiseText s text
