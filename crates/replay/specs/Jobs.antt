-- What a job prints, and why it ends as it does.
use Rattle.std.specs.Prelude.{◌≡◌, ◌⊎◌, ◌<◌, ◌≤◌, ℕ, List, [], ◌∷◌, ◌++◌, codes, Option, None, Some, Ok, Err, IfSome}
use Rattle.std.specs.Io.KnownBytes.{IsAtEnd}
use Rattle.register_model.specs.Served.{AreServed, ids_on}
use Rattle.calm_laws.specs.Calm.{IsUndisturbed}
use Rattle.calm_laws.specs.WorldRefinement.{HaveCauses, AreLegal, answers_in, calls_from}
use Rattle.world_model.specs.WorldSpec.{Account, HasHashed, HasNoClash, once, HasClashed, HasFilled, IsPastMessages, IsWithinMessages}
use Rattle.schedule_input.specs.Premise.{first_unsound}
use Rattle.schedule_text.specs.Reading.{schedule_of}
use Rattle.schedule_text.specs.Spelling.{IsSchedule}
use Rattle.schedule_text.specs.declared.error.ScheduleError.TheVariants as schedule
use Rattle.schedule_text.specs.declared.schedule.Schedule.{Schedule}
use Rattle.ens_base.specs.Causes.{Rose}
use Rattle.ens_base.specs.Lists.{◌∈◌}
use Rattle.ens_base.specs.Words.{bytes_word}
use Rattle.ens_base.specs.declared.status.Status.{Status}
use Rattle.hash_book.specs.Hashing.{IsClash, KeepsNothing, empty_book, total}
use Rattle.history_scribe.specs.Histories.{AreHistories}
use Rattle.register_model.specs.declared.history.History.{History}
use Rattle.schedule_input.specs.Endings.{IsBadLine, IsLineLimit, IsUnsound}
use Rattle.schedule_input.specs.Reading.{WasCutOff, WasTakenTo}
use Rattle.replay.specs.Stops.{PassesLimit, RejectsIn}
use Rattle.replay.specs.Text.{IsTextOfRun}
use Rattle.replay.specs.Worlds.{schedule_run}

-- the run of the schedule stays within the limit on messages, and the text is what it prints, with the
-- histories
abbrev pub IsRunText : Schedule → List ℕ → Type 0
IsRunText s text = IsWithinMessages (schedule_run s) × IsTextOfRun (schedule_run s) text

-- the strings that a replay of the schedule hashes, in order
abbrev pub hashed_by : Schedule → List (List ℕ)
hashed_by s = (schedule_run s).hashed

-- if it is known that the hasher kept nothing before, the strings, each counted once, fit into its book
abbrev pub Fit : List (List ℕ) → Account → Type 0
Fit strings first = (limit : ℕ) → first.kept ≡ Some (empty_book limit) → total (once strings) ≤ limit

-- if that is known, they have more bytes than its limit
abbrev pub Exceed : List (List ℕ) → Account → Type 0
Exceed strings first = (limit : ℕ) → first.kept ≡ Some (empty_book limit) → limit < total (once strings)

-- a hasher took all these strings; so if it is known that it kept none before, no two different ones
-- have the same MD5, and they fit into its book
pub record HasAdmitted (strings : List (List ℕ)) (first now : Account) : Type 0 where
  pub has : HasHashed strings first now
  pub apart : KeepsNothing first.kept → HasNoClash strings
  pub fit : Fit strings first

-- the histories that the notes of the run give are legal, for the calls of the schedule and the answers
-- printed
abbrev pub HasLegalHistories : Schedule → Type 0
HasLegalHistories s = (histories : List History) → AreHistories (schedule_run s).notes (schedule_run s).called histories → AreLegal s.events (schedule_run s).printed histories

-- each answer printed has its cause in the notes of the run
abbrev pub HasCausedAnswers : Schedule → Type 0
HasCausedAnswers s = HaveCauses s.events (schedule_run s).printed (schedule_run s).notes

-- if nothing in the schedule disturbs it, and the run stays within the limit on messages, each call is
-- completed before the next one begins, and each history has the calls on its key in the order of their
-- lines
abbrev pub CompletesCalls : Schedule → Type 0
CompletesCalls s = IsUndisturbed s → IsWithinMessages (schedule_run s) → AreServed (calls_from 1 s.events) (answers_in (schedule_run s).printed)
    × ((histories : List History) → AreHistories (schedule_run s).notes (schedule_run s).called histories → (h : History) → h ∈ histories → h.calls ≡ ids_on h.key (calls_from 1 s.events))

-- all three, if no two different strings of the run have the same MD5
abbrev pub IsLegalRun : Schedule → Type 0
IsLegalRun s = HasNoClash (hashed_by s) → HasLegalHistories s × HasCausedAnswers s × CompletesCalls s

-- the bytes are a sound schedule, the text is that of its run, the hasher took the strings of the run,
-- the histories are legal, the answers have causes, and an undisturbed run completes each call
abbrev pub IsReplay : Account → Account → List ℕ → List ℕ → Type 0
IsReplay first now bytes text = (s : Schedule) × (schedule_of bytes ≡ Ok s) × IsSchedule s × (first_unsound s ≡ None) × IsRunText s text × HasAdmitted (hashed_by s) first now × IsLegalRun s

-- the bytes are a sound schedule, and the hasher rejected the next string of its run, which clashes
-- with one that it keeps, while the run stays within the limit on messages before the turn of that string
abbrev pub IsClashing : Account → Account → List ℕ → List ℕ → List ℕ → Type 0
IsClashing first now kept new bytes = (s : Schedule) × (schedule_of bytes ≡ Ok s) × (first_unsound s ≡ None) × HasClashed (hashed_by s) first kept new now × RejectsIn s first (λ strings mid. HasClashed strings mid kept new now)

-- clash HEX HEX, with two different strings that have the same MD5: the one kept, and the new one
abbrev pub clash_line : List ℕ → List ℕ → List ℕ
clash_line kept new = codes "clash " ++ bytes_word kept ++ codes " " ++ bytes_word new ++ 10 ∷ []

-- a clash was found and counted, and the text reports it
abbrev pub IsClashText : Account → Account → Option (List ℕ) → List ℕ → Type 0
IsClashText first now source text = (kept : List ℕ) × (new : List ℕ) × IsClash kept new × Rose first.clashes now.clashes × (text ≡ clash_line kept new) × IfSome source (IsClashing first now kept new)

-- the bytes are a sound schedule, and its run exceeds the limit on messages, with a turn of which the hasher
-- took every string, as of those before
abbrev pub IsPastLimit : Account → List ℕ → Type 0
IsPastLimit first bytes = (s : Schedule) × (schedule_of bytes ≡ Ok s) × (first_unsound s ≡ None) × IsPastMessages (schedule_run s) × PassesLimit s first

-- message 500,001 would be sent, and the text reports it
abbrev pub IsMessageLimit : Account → Option (List ℕ) → List ℕ → Type 0
IsMessageLimit first source text = IfSome source (IsPastLimit first) × (text ≡ codes "limit messages 500000" ++ 10 ∷ [])

-- the bytes are a sound schedule, and the next string of its run did not fit into the book of the
-- hasher, so that the strings of the run exceed this book, while the run stays within the limit on messages
-- before the turn of that string
abbrev pub IsFilling : Account → Account → List ℕ → Type 0
IsFilling first now bytes = (s : Schedule) × (schedule_of bytes ≡ Ok s) × (first_unsound s ≡ None) × HasFilled (hashed_by s) first now × Exceed (hashed_by s) first × RejectsIn s first (λ strings mid. HasFilled strings mid now)

-- a full book was found and counted, and the text reports the limit of the book of `replay`
abbrev pub IsBookLimit : Account → Account → Option (List ℕ) → List ℕ → Type 0
IsBookLimit first now source text = Rose first.fulls now.fulls × IfSome source (IsFilling first now) × (text ≡ codes "limit book 1073741824" ++ 10 ∷ [])

-- The text that a replay of these bytes prints, for each status, with a hasher that it leads from one
-- account to the other. It ends with no other status, unless the output fails.
abbrev pub PrintsWith : Account → Account → Option (List ℕ) → Status → List ℕ → Type 0
PrintsWith first now source Status.Done text = IfSome source (λ bytes. IsReplay first now bytes text)
PrintsWith first now source Status.Schedule text = IsBadLine source text
PrintsWith first now source Status.Premise text = IsUnsound source text
PrintsWith first now source Status.Clash text = IsClashText first now source text
PrintsWith first now source Status.Limit text = IsLineLimit source text ⊎ (IsMessageLimit first source text ⊎ IsBookLimit first now source text)
PrintsWith first now source Status.ReadFault text = text ≡ codes "read fault" ++ 10 ∷ []
PrintsWith first now source Status.Memory text = text ≡ codes "memory" ++ 10 ∷ []
PrintsWith first now source status text = ⊥

-- a replay ends with this status only if it read a schedule
abbrev pub NeedsSchedule : Status → Type 0
NeedsSchedule Status.Done = Unit {0}
NeedsSchedule Status.Premise = Unit {0}
NeedsSchedule Status.Clash = Unit {0}
NeedsSchedule status = ⊥

-- How far a replay read its source, and how many faults were counted, when it ends with this status. Of
-- a schedule nothing is left. At a limit nothing is left, or line 200,001 begins. A read fault was
-- counted, and came before the bytes decided anything.
pub record HasRead (source left : Option (List ℕ)) (before now : ℕ) (status : Status) : Type 0 where
  pub taken : WasTakenTo source left
  pub end : NeedsSchedule status → IsAtEnd left
  pub limit : status ≡ Status.Limit → IfSome source (λ bytes. schedule_of bytes ≡ Err schedule.Lines) ⊎ IsAtEnd left
  pub fault : status ≡ Status.ReadFault → Rose before now × WasCutOff source left

-- the account of the book of `replay` before it meets a string
abbrev pub nothing_hashed : Account
nothing_hashed = record { kept = Some (empty_book 1073741824); clashes = 0; fulls = 0 }

-- the text that a replay prints over such a book
abbrev pub Prints : Option (List ℕ) → Status → List ℕ → Type 0
Prints source status text = (now : Account) × PrintsWith nothing_hashed now source status text

-- Nothing in these bytes ends a replay of them early: they are a sound schedule, no two different
-- strings of its run have the same MD5, the strings fit into the book of `replay`, and the run stays
-- within the limit on messages.
pub record IsRunnable (bytes : List ℕ) : Type 0 where
  pub s : Schedule
  pub read : schedule_of bytes ≡ Ok s
  pub sound : first_unsound s ≡ None
  pub apart : HasNoClash (hashed_by s)
  pub fit : total (once (hashed_by s)) ≤ 1073741824
  pub within : IsWithinMessages (schedule_run s)

-- the job ended as it must if no other end has a cause: it ran to its end, or memory ran out
abbrev pub RanOut : Status → Type 0
RanOut status = (status ≡ Status.Done) ⊎ (status ≡ Status.Memory)

-- a job that read this schedule ends with this status and text, whatever its source
abbrev pub EndsSo : Account → Account → Schedule → Status → List ℕ → Type 0
EndsSo first now s status text = (source : Option (List ℕ)) → IfSome source (λ bytes. schedule_of bytes ≡ Ok s) → PrintsWith first now source status text

-- how a replay over such a book ends if it reads this schedule and runs it
abbrev pub EndsInRun : Schedule → Status → List ℕ → Type 0
EndsInRun s Status.Done text = IsRunText s text × HasNoClash (hashed_by s) × (total (once (hashed_by s)) ≤ 1073741824)
EndsInRun s Status.Clash text = (now : Account) × (kept : List ℕ) × (new : List ℕ) × HasClashed (hashed_by s) nothing_hashed kept new now × RejectsIn s nothing_hashed (λ strings mid. HasClashed strings mid kept new now) × IsClash kept new × (text ≡ clash_line kept new)
EndsInRun s Status.Limit text = (IsPastMessages (schedule_run s) × PassesLimit s nothing_hashed × (text ≡ codes "limit messages 500000" ++ 10 ∷ [])) ⊎ ((now : Account) × HasFilled (hashed_by s) nothing_hashed now × RejectsIn s nothing_hashed (λ strings mid. HasFilled strings mid now) × (1073741824 < total (once (hashed_by s))) × (text ≡ codes "limit book 1073741824" ++ 10 ∷ []))
EndsInRun s Status.ReadFault text = text ≡ codes "read fault" ++ 10 ∷ []
EndsInRun s Status.Memory text = text ≡ codes "memory" ++ 10 ∷ []
EndsInRun s status text = ⊥
