-- One more line of a record.
use Rattle.std.proofs.Common.{◌≡◌, ℕ, ◌+◌, ◌≤◌, Bool, true, false, List, [], Option, None, Some, Ok, refl, arith}
use Rattle.std.specs.Prelude.{not}
use Rattle.ens_base.specs.Lists.{same_bytes}
use Rattle.schedule_text.specs.Progress.{Progress}
use Rattle.schedule_text.specs.Reading.{ended, next_line}
use Rattle.schedule_text.specs.declared.schedule.Schedule.{Schedule}
use Rattle.history_record.specs.Reading.{Behind, IsBegun, answers_line, lines_of, next_stage, stage_of}
use Rattle.history_record.specs.Telling.{Heard, nothing_heard}
use Rattle.history_record.proofs.Begun.{next_begun, next_counts}

pub unequal_not : (same : Bool) → false ≡ not same → same ≡ true
unequal_not true h = refl
unequal_not false h = absurd cc

pub line_counts : (p q : Progress) (behind : Option Heard) (text : List ℕ) → behind ≡ None → next_line p text ≡ Ok q → lines_of (stage_of q behind) ≡ lines_of (stage_of p behind) + 1
line_counts p q None text none h = next_counts p q text h
line_counts p q (Some x) text none h = absurd cc

pub line_few : (p q : Progress) (behind : Option Heard) (text : List ℕ) → behind ≡ None → next_line p text ≡ Ok q → IsBegun p → lines_of (stage_of q behind) ≤ 800004
line_few p q None text none h begun = let next = next_begun p q text h begun in omega (arith, next.few)
line_few p q (Some x) text none h begun = absurd cc

pub opened_next : (p : Progress) (behind : Option Heard) (text : List ℕ) (s : Schedule) (h : Heard) → behind ≡ None → same_bytes text answers_line ≡ true → ended p [] ≡ Ok s → h ≡ nothing_heard s → next_stage (stage_of p behind) text ≡ Ok (Behind h)
opened_next p None text s h none same e is = rw (same, e, is) refl
opened_next p (Some x) text s h none same e is = absurd cc
