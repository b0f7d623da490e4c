-- The lines read are the prefix of some bytes, so what they end as is a schedule.
use Rattle.std.proofs.Common.{◌≡◌, ℕ, List, [], ◌∷◌, ◌++◌, Result, Ok, refl, ap, ◌∙◌, append_assoc}
use Rattle.environment.specs.Lines.{HasNoFeed}
use Rattle.lexemes.specs.Words.{parts_of}
use Rattle.schedule_text.proofs.SchedulesRead.{schedule_of-ok}
use Rattle.schedule_text.specs.Progress.{Progress, Blank}
use Rattle.schedule_text.specs.Reading.{and_then, ended, next_line, read_parts}
use Rattle.schedule_text.specs.Spelling.{IsSchedule}
use Rattle.schedule_text.specs.declared.error.ScheduleError.{ScheduleError}
use Rattle.schedule_text.specs.declared.schedule.Schedule.{Schedule}
use Rattle.schedule_input.specs.Reading.{IsReached}
use Rattle.schedule_input.proofs.Parts.{ended_ok, read_line}

-- one more line
pub reached_next : (p q : Progress) (v : List ℕ) → HasNoFeed v → next_line p v ≡ Ok q → IsReached p → IsReached q
reached_next p q v clear ok old = record {
  prefix = old.prefix ++ (v ++ 10 ∷ []);
  reads = λ rest. ap (λ (l : List ℕ). read_parts Blank (parts_of 10 l)) (append_assoc old.prefix (v ++ 10 ∷ []) rest) ∙ old.reads ((v ++ 10 ∷ []) ++ rest) ∙ read_line p ((v ++ 10 ∷ []) ++ rest) v rest clear refl ∙ ap (λ (r : Result Progress ScheduleError). and_then r (λ s. read_parts s (parts_of 10 rest))) ok;
}

-- what ends as a schedule is a schedule
pub reached_schedule : (p : Progress) (rest : List ℕ) (s : Schedule) → ended p rest ≡ Ok s → IsReached p → IsSchedule s
reached_schedule p rest s ok old = let whole = ended_ok p rest s ok in (schedule_of-ok (old.prefix ++ []) s (old.reads [] ∙ whole)).0
