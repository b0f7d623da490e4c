-- What a chart prints, and why it ends as it does.
use Rattle.std.specs.Prelude.{◌≡◌, ◌⊎◌, ℕ, List, [], ◌∷◌, ◌++◌, codes, Option, None, Ok, IfSome}
use Rattle.ens_base.specs.declared.status.Status.{Status}
use Rattle.world_spec.specs.Lines.{run_of_schedule}
use Rattle.schedule_input.specs.Endings.{IsBadLine, IsLineLimit, IsUnsound}
use Rattle.schedule_input.specs.Premise.{first_unsound}
use Rattle.schedule_text.specs.Reading.{schedule_of}
use Rattle.schedule_text.specs.declared.schedule.Schedule.{Schedule}
use Rattle.world_spec.specs.Messages.{IsPastMessages, IsWithinMessages}
use Rattle.chart.specs.Text.{chart_text}

-- the bytes are a sound schedule, its run stays within the limit on messages, and the text is the
-- chart of this run
abbrev pub IsChart : List ℕ → List ℕ → Type 0
IsChart bytes text = (s : Schedule) × (schedule_of bytes ≡ Ok s) × (first_unsound s ≡ None) × IsWithinMessages (run_of_schedule s.form s.peers s.view s.events) × (text ≡ chart_text s)

-- the bytes are a sound schedule, and its run exceeds the limit on messages
abbrev pub IsPastLimit : List ℕ → Type 0
IsPastLimit bytes = (s : Schedule) × (schedule_of bytes ≡ Ok s) × (first_unsound s ≡ None) × IsPastMessages (run_of_schedule s.form s.peers s.view s.events)

-- message 500,001 would be sent, and the text reports it
abbrev pub IsMessageLimit : Option (List ℕ) → List ℕ → Type 0
IsMessageLimit source text = IfSome source IsPastLimit × (text ≡ codes "limit messages 500000" ++ 10 ∷ [])

-- the text that a chart of these bytes prints, for each status; it ends with no other status,
-- unless the output fails
abbrev pub Charts : Option (List ℕ) → Status → List ℕ → Type 0
Charts source Status.Done text = IfSome source (λ bytes. IsChart bytes text)
Charts source Status.Schedule text = IsBadLine source text
Charts source Status.Premise text = IsUnsound source text
Charts source Status.Limit text = IsLineLimit source text ⊎ IsMessageLimit source text
Charts source Status.ReadFault text = text ≡ codes "read fault" ++ 10 ∷ []
Charts source Status.Memory text = text ≡ codes "memory" ++ 10 ∷ []
Charts source status text = ⊥
