-- What a cluster records and prints, and why it ends as it does.
use Rattle.std.specs.Prelude.{◌≡◌, ◌⊎◌, ◌≤◌, ◌+◌, ℕ, List, [], ◌∷◌, ◌++◌, length, take, drop, map, codes, Option, None, Some, Ok, Err, IfSome}
use Rattle.std.specs.Io.KnownBytes.{IsAtEnd}
use Rattle.ens_base.specs.Causes.{Rose}
use Rattle.ens_base.specs.View.{IsView}
use Rattle.ens_base.specs.declared.peer_words.ClusterWords.{ClusterWords}
use Rattle.ens_base.specs.declared.status.Status.{Status}
use Rattle.scripts.specs.Scripts.{IsScript, ended, next_line, script_of}
use Rattle.scripts.specs.declared.line.ScriptLine.{ScriptLine}
use Rattle.scripts.specs.declared.line.ScriptLine.TheVariants.{Event, Turn}
use Rattle.cluster.specs.Recordings.{Follows, IsPart, Recording, frame_out, frames_of, heard, heard_all, nothing_recorded, recorded, recorded_form}
use Rattle.world_model.specs.WorldSpec.{Account, HasHashed, run_of_schedule, IsWithinMessages, Run}
use Rattle.schedule_input.specs.Counting.{WasCutOff, WasTakenTo}
use Rattle.replay.specs.Jobs.{PrintsWith, nothing_hashed}
use Rattle.replay.specs.Text.{record_text}
use Rattle.schedule_input.specs.Endings.{bad_line}
use Rattle.schedule_text.specs.Spelling.{IsSchedule, schedule_text}
use Rattle.schedule_text.specs.declared.error.ScheduleError.TheVariants as schedule
use Rattle.schedule_text.specs.declared.schedule.Schedule.{Schedule}
use Rattle.lexemes.specs.Spelling.{AreMembers}
use Rattle.peer_turns.specs.Going.{Grew}

-- 1 to 31 peers, and a view of them
pub record IsCluster (w : ClusterWords) : Type 0 where
  pub peers : (1 ≤ w.peers) × (w.peers ≤ 31)
  pub view : AreMembers w.peers w.view × IsView w.view

-- before the first line of the script
abbrev pub opening : ClusterWords → Recording
opening w = nothing_recorded w.peers w.view

-- what was recorded, as a schedule
abbrev pub recorded_schedule : ClusterWords → Recording → Schedule
recorded_schedule w r = record { form = recorded_form; peers = w.peers; view = w.view; events = r.events }

-- all but the last
abbrev pub without_last : {A : Type 0} → List A → List A
without_last [] = []
without_last (x ∷ []) = []
without_last (x ∷ y ∷ more) = x ∷ without_last (y ∷ more)

-- the run of the lines before the one that was recorded last
abbrev pub run_before : ClusterWords → Recording → Run
run_before w r = run_of_schedule recorded_form w.peers w.view (without_last r.events)

-- the messages that were sent before the line that was recorded last, as they are handed to the link
abbrev pub frames_before : ClusterWords → Recording → List (ℕ × List ℕ)
frames_before w r = frames_of (run_before w r)

-- the messages that were sent between two recordings, as they are handed to the link
abbrev pub frames_between : Recording → Recording → List (ℕ × List ℕ)
frames_between r s = map frame_out (drop (length r.run.mail.sent) s.run.mail.sent)

-- the run came to the line that was recorded last: the lines before it stay within the limit on messages, and
-- a hasher took every string of theirs
pub record CameToLast (first : Account) (w : ClusterWords) (r : Recording) : Type 0 where
  pub mid : Account
  pub within : IsWithinMessages (run_before w r)
  pub has : HasHashed (run_before w r).hashed first mid

-- it did, or no line was recorded
abbrev pub CameThere : Account → ClusterWords → Recording → Type 0
CameThere first w r = (r ≡ opening w) ⊎ CameToLast first w r

-- the line that was recorded last is line 200,001 of the recorded schedule: three stand before its events
abbrev pub IsPastLines : Recording → Type 0
IsPastLines r = length r.events + 3 ≡ 200001

-- what was recorded is a schedule, and a replay of it, over a hasher that goes from one account to the other,
-- ends with this status and prints this text
abbrev pub ReplaysAs : Account → Account → ClusterWords → Recording → Status → List ℕ → Type 0
ReplaysAs first now w r status text = IsSchedule (recorded_schedule w r) × PrintsWith first now (Some (schedule_text (recorded_schedule w r))) status text

-- the text is the recorded schedule, the line `answers`, and what a replay of the schedule prints
abbrev pub IsRecord : Account → Account → ClusterWords → Recording → List ℕ → Type 0
IsRecord first now w r text = (printed : List ℕ) × ReplaysAs first now w r Status.Done printed × (text ≡ record_text (schedule_text (recorded_schedule w r)) printed)

-- the source holds a script, which is this one if its bytes are known
abbrev pub HoldsScript : ClusterWords → Option (List ℕ) → (List ScriptLine → Type 0) → Type 0
HoldsScript w source holds = (script : List ScriptLine) × IsScript w.peers script × IfSome source (λ bytes. script_of w.peers bytes ≡ Ok script) × holds script

-- the source has a bad line, and the text reports the first one and its cause
abbrev pub HasBadLine : ClusterWords → Option (List ℕ) → List ℕ → Type 0
HasBadLine w source text = (line : ℕ) × (cause : ℕ) × IfSome source (λ bytes. script_of w.peers bytes ≡ Err (schedule.Bad line cause)) × (text ≡ bad_line line cause)

abbrev pub IsLinesText : List ℕ → Type 0
IsLinesText text = text ≡ codes "limit lines 200000" ++ 10 ∷ []

abbrev pub IsMemoryText : List ℕ → Type 0
IsMemoryText text = text ≡ codes "memory" ++ 10 ∷ []

-- a job ends with this status only if it read a script
abbrev pub NeedsScript : Status → Type 0
NeedsScript Status.Done = Unit {0}
NeedsScript Status.Clash = Unit {0}
NeedsScript Status.LinkFault = Unit {0}
NeedsScript status = ⊥

-- How far a job with this status read its source, and how many faults were counted. Of a script nothing is left,
-- and at a limit nothing is left, or line 200,001 begins. A read fault came before the bytes decided anything.
pub record HasRead (w : ClusterWords) (source left : Option (List ℕ)) (before now : ℕ) (status : Status) : Type 0 where
  pub taken : WasTakenTo (next_line w.peers) ended [] length source left
  pub end : NeedsScript status → IsAtEnd left
  pub limit : status ≡ Status.Limit → IfSome source (λ bytes. script_of w.peers bytes ≡ Err schedule.Lines) ⊎ IsAtEnd left
  pub fault : status ≡ Status.ReadFault → Rose before now × WasCutOff (next_line w.peers) ended [] length source left

module _ {L : Type 0} (sent : L → Option (List (ℕ × List ℕ))) (given : L → Option (List (Option (List ℕ)))) where
  -- between these states of the link its looks gave this, and these frames were handed to it
  pub record Handed (looks : List (Option (List ℕ))) (frames : List (ℕ × List ℕ)) (a b : L) : Type 0 where
    pub looked : Grew (given a) (given b) looks
    pub sends : Grew (sent a) (sent b) frames

  -- Looks were made, one after another. The messages of the delivery that was recorded for a look were handed
  -- over before the next look.
  abbrev pub Looked : List (Option (List ℕ)) → Recording → L → L → Type 0
  Looked [] r a b = b ≡ a
  Looked (look ∷ more) r a b = (m : L) × Handed (look ∷ []) (frames_between r (heard look r)) a m × Looked more (heard look r) m b

  -- Lines of a script were followed, one after another. The messages of a line were handed over before the next
  -- line.
  abbrev pub Went : List ScriptLine → List (Option (List ℕ)) → Recording → L → L → Type 0
  Went [] looks r a b = b ≡ a
  Went (Event event ∷ more) looks r a b = (m : L) × Handed [] (frames_between r (recorded event r)) a m × Went more looks (recorded event r) m b
  Went (Turn count ∷ more) looks r a b = (m : L) × Looked (take count looks) r a m × Went more (drop count looks) (heard_all (take count looks) r) m b

  -- of these frames a prefix was handed over, which may be all of them, and the looks gave this
  abbrev pub HandedPrefix : List (Option (List ℕ)) → List (ℕ × List ℕ) → L → L → Type 0
  HandedPrefix looks frames a b = (prefix : List (ℕ × List ℕ)) × (rest : List (ℕ × List ℕ)) × (frames ≡ prefix ++ rest) × Handed looks prefix a b

  -- Looks were made as before, and then the run was stopped: behind the last of them, or when a prefix of its
  -- messages was handed over.
  abbrev pub LookedUntil : List (Option (List ℕ)) → Recording → L → L → Type 0
  LookedUntil [] r a b = Handed [] [] a b
  LookedUntil (look ∷ more) r a b =
      ((m : L) × Handed (look ∷ []) (frames_between r (heard look r)) a m × LookedUntil more (heard look r) m b)
      ⊎ ((more ≡ []) × HandedPrefix (look ∷ []) (frames_between r (heard look r)) a b)

  -- Lines were followed as before, and then the run was stopped: behind the last of them, in its looks, or when a
  -- prefix of its messages was handed over.
  abbrev pub WentUntil : List ScriptLine → List (Option (List ℕ)) → Recording → L → L → Type 0
  WentUntil [] looks r a b = Handed [] [] a b
  WentUntil (Event event ∷ more) looks r a b =
      ((m : L) × Handed [] (frames_between r (recorded event r)) a m × WentUntil more looks (recorded event r) m b)
      ⊎ ((more ≡ []) × HandedPrefix [] (frames_between r (recorded event r)) a b)
  WentUntil (Turn count ∷ more) looks r a b =
      ((m : L) × Looked (take count looks) r a m × WentUntil more (drop count looks) (heard_all (take count looks) r) m b)
      ⊎ ((more ≡ []) × LookedUntil (take count looks) r a b)

  -- The script was followed to its end, and this was recorded. Every message of the run was handed to the
  -- link, once, for the number of its receiver, in the order of sending, and before the next look.
  pub record Recorded (w : ClusterWords) (script : List ScriptLine) (r : Recording) (a b : L) : Type 0 where
    pub looks : List (Option (List ℕ))
    pub follows : Follows script looks (opening w) r
    pub handed : Handed looks (frames_of r.run) a b
    pub went : Went script looks (opening w) a b

  -- A part of the script was followed, and the run was stopped in the line that was recorded last, or before
  -- the first one. Every message that was sent before this line was handed to the link, before the next line or
  -- look, and no other.
  pub record Stopped (first : Account) (w : ClusterWords) (script : List ScriptLine) (r : Recording) (a b : L) : Type 0 where
    pub part : List ScriptLine
    pub is_part : IsPart part script
    pub looks : List (Option (List ℕ))
    pub follows : Follows part looks (opening w) r
    pub came : CameThere first w r
    pub handed : Handed looks (frames_before w r) a b
    pub went : WentUntil part looks (opening w) a b

  -- A part of the script was followed, and a prefix of the messages of its run was handed to the link: all that
  -- were sent before the line that was recorded last, each before the next line or look, and maybe some of this
  -- line.
  pub record BrokenOff (w : ClusterWords) (script : List ScriptLine) (a b : L) : Type 0 where
    pub part : List ScriptLine
    pub is_part : IsPart part script
    pub looks : List (Option (List ℕ))
    pub r : Recording
    pub follows : Follows part looks (opening w) r
    pub prefix : List (ℕ × List ℕ)
    pub rest : List (ℕ × List ℕ)
    pub all : frames_of r.run ≡ prefix ++ rest
    pub most : length (frames_before w r) ≤ length prefix
    pub handed : Handed looks prefix a b
    pub went : WentUntil part looks (opening w) a b

-- how a cluster ends that read no script: the link is as it was
abbrev pub Unread : {L : Type 0} → ClusterWords → Option (List ℕ) → L → L → Status → List ℕ → Type 0
Unread w source a b Status.Schedule text = HasBadLine w source text × (b ≡ a)
Unread w source a b Status.ReadFault text = (text ≡ codes "read fault" ++ 10 ∷ []) × (b ≡ a)
Unread w source a b Status.Limit text = IfSome source (λ bytes. script_of w.peers bytes ≡ Err schedule.Lines) × IsLinesText text × (b ≡ a)
Unread w source a b Status.Memory text = IsMemoryText text × (b ≡ a)
Unread w source a b status text = ⊥

module _ {L : Type 0} (sent : L → Option (List (ℕ × List ℕ))) (given : L → Option (List (Option (List ℕ)))) (faults : L → ℕ) where
  -- How the run of a script ends, with a hasher that goes from one account to the other: for each status what
  -- is printed, and what became of the link. At a clash or a limit the recorded schedule has one line too many,
  -- or a replay of it ends in the same way.
  abbrev pub RunEnds : Account → Account → ClusterWords → List ScriptLine → L → L → Status → List ℕ → Type 0
  RunEnds first now w script a b Status.Done text = (r : Recording) × Recorded sent given w script r a b × IsRecord first now w r text
  RunEnds first now w script a b Status.Clash text = (r : Recording) × Stopped sent given first w script r a b × ReplaysAs first now w r Status.Clash text
  RunEnds first now w script a b Status.Limit text = (r : Recording) × Stopped sent given first w script r a b × ((IsPastLines r × IsLinesText text) ⊎ ReplaysAs first now w r Status.Limit text)
  RunEnds first now w script a b Status.LinkFault text = BrokenOff sent given w script a b × Rose (faults a) (faults b) × (text ≡ codes "link fault" ++ 10 ∷ [])
  RunEnds first now w script a b Status.Memory text = (BrokenOff sent given w script a b ⊎ ((r : Recording) × Stopped sent given first w script r a b)) × IsMemoryText text
  RunEnds first now w script a b status text = ⊥

  -- How a cluster of these words ends, over a source that holds this. It ends with no other status, unless the
  -- output fails.
  abbrev pub Ends : Account → Account → ClusterWords → Option (List ℕ) → L → L → Status → List ℕ → Type 0
  Ends first now w source a b status text = Unread w source a b status text ⊎ HoldsScript w source (λ script. RunEnds first now w script a b status text)

  -- the same over a book that keeps at most 1,073,741,824 bytes, and is empty at first
  abbrev pub EndsOverBook : ClusterWords → Option (List ℕ) → L → L → Status → List ℕ → Type 0
  EndsOverBook w source a b status text = (now : Account) × Ends nothing_hashed now w source a b status text

-- what a cluster prints, over a link of which nothing is known but its fault count
abbrev pub PrintsRecord : ClusterWords → Option (List ℕ) → Status → List ℕ → Type 0
PrintsRecord w source status text = (before : ℕ) × (now : ℕ) × EndsOverBook {L = ℕ} (λ n. None) (λ n. None) (λ n. n) w source before now status text
