-- What the job `root` prints, and why it ends as it does.
use Rattle.std.specs.Prelude.{◌≡◌, ◌⊎◌, ◌≤◌, ℕ, List, [], ◌∷◌, ◌++◌, codes, Option, Ok, Err, IfSome}
use Rattle.std.specs.Io.KnownBytes.{IsAtEnd}
use Rattle.ens_base.specs.Causes.{Rose}
use Rattle.ens_base.specs.declared.status.Status.{Status}
use Rattle.hash_book.specs.Hashing.{IsClash, total}
use Rattle.world_spec.specs.Held.{Account, HasNoClash, once}
use Rattle.world_spec.specs.HeldLaws.{HasClashed, HasFilled}
use Rattle.replay.specs.Jobs.{HasAdmitted, clash_line, nothing_hashed}
use Rattle.scripts.specs.Endings.{IsBadLine, IsLineLimit}
use Rattle.scripts.specs.RootInput.{WasCutOff, WasTakenTo}
use Rattle.root_laws.specs.Legal.{IsLegalRun}
use Rattle.root_laws.specs.Steps.{roots_after}
use Rattle.root_laws.specs.Text.{IsTextOf}
use Rattle.scripts.specs.RootReading.{script_of}
use Rattle.scripts.specs.Spelling.{IsScript}
use Rattle.scripts.specs.declared.script.RootScript.{RootScript}
use Rattle.schedule_text.specs.declared.error.ScheduleError.TheVariants as schedule
use Rattle.root.specs.Ends.{PassesIn, PassesLimit, RejectsIn, StopsIn}
use Rattle.replay.specs.WorldModel.{BookFull, Clash, MessageLimit}
use Rattle.root.specs.Hashed.{hashed_by}
use Rattle.root.specs.Worlds.{AreWithin, worlds}

-- the run is legal, if no two different strings of it have the same MD5
abbrev pub IsLegalRoot : RootScript → Type 0
IsLegalRoot s = HasNoClash (hashed_by s) → IsLegalRun worlds s

-- the bytes are a script, the text is that of its run, each world stays within the limit on messages, the hasher
-- took the strings of the run, and it is legal
abbrev pub IsRootRun : Account → Account → List ℕ → List ℕ → Type 0
IsRootRun first now bytes text = (s : RootScript) × (script_of bytes ≡ Ok s) × IsScript s × IsTextOf worlds s text × AreWithin s (roots_after worlds s) × HasAdmitted (hashed_by s) first now × IsLegalRoot s

-- the hasher rejected the next string of the run, which clashes with one that it keeps, while what comes before that
-- string stays within the limit on messages, and the text reports both
abbrev pub IsClashText : Account → Account → Option (List ℕ) → List ℕ → Type 0
IsClashText first now source text =
    (kept : List ℕ) × (new : List ℕ) × IsClash kept new × Rose first.clashes now.clashes × (text ≡ clash_line kept new) × IfSome source (λ bytes. (s : RootScript) × (script_of bytes ≡ Ok s) × HasClashed (hashed_by s) first kept new now × RejectsIn s first (λ strings mid. HasClashed strings mid kept new now) × StopsIn s first now (Clash kept new))

-- an ensemble would send message 500,001, in a turn until which the hasher took every string, and the text reports it
abbrev pub IsMessageLimit : Account → Account → Option (List ℕ) → List ℕ → Type 0
IsMessageLimit first now source text = IfSome source (λ bytes. (s : RootScript) × (script_of bytes ≡ Ok s) × PassesIn s first × StopsIn s first now MessageLimit) × (text ≡ codes "limit messages 500000" ++ 10 ∷ [])

-- the next string of the run did not fit into the book of the hasher, while what comes before that string stays within
-- the limit on messages, and the text reports the limit of the book of `root`
abbrev pub IsBookLimit : Account → Account → Option (List ℕ) → List ℕ → Type 0
IsBookLimit first now source text =
    Rose first.fulls now.fulls × IfSome source (λ bytes. (s : RootScript) × (script_of bytes ≡ Ok s) × HasFilled (hashed_by s) first now × RejectsIn s first (λ strings mid. HasFilled strings mid now) × ((kept : ℕ) × StopsIn s first now (BookFull kept))) × (text ≡ codes "limit book 1073741824" ++ 10 ∷ [])

-- The text that the job prints of these bytes, for each status, with a hasher that it leads from one account to the
-- other. It ends with no other status, unless the output fails.
abbrev pub PrintsWith : Account → Account → Option (List ℕ) → Status → List ℕ → Type 0
PrintsWith first now source Status.Done text = IfSome source (λ bytes. IsRootRun first now bytes text)
PrintsWith first now source Status.Schedule text = IsBadLine source text
PrintsWith first now source Status.Clash text = IsClashText first now source text
PrintsWith first now source Status.Limit text = IsLineLimit source text ⊎ (IsMessageLimit first now source text ⊎ IsBookLimit first now source text)
PrintsWith first now source Status.ReadFault text = text ≡ codes "read fault" ++ 10 ∷ []
PrintsWith first now source Status.Memory text = text ≡ codes "memory" ++ 10 ∷ []
PrintsWith first now source status text = ⊥

-- the job ends with this status only if it read a script
abbrev pub NeedsScript : Status → Type 0
NeedsScript Status.Done = Unit {0}
NeedsScript Status.Clash = Unit {0}
NeedsScript status = ⊥

-- how far the job read its source, and how many faults were counted, when it ends with this status
pub record HasRead (source left : Option (List ℕ)) (before now : ℕ) (status : Status) : Type 0 where
  pub taken : WasTakenTo source left
  pub end : NeedsScript status → IsAtEnd left
  pub limit : status ≡ Status.Limit → IfSome source (λ bytes. script_of bytes ≡ Err schedule.Lines) ⊎ IsAtEnd left
  pub fault : status ≡ Status.ReadFault → Rose before now × WasCutOff source left

-- the job that read this script ends with this status and text, whatever its source
abbrev pub EndsSo : Account → Account → RootScript → Status → List ℕ → Type 0
EndsSo first now s status text = (source : Option (List ℕ)) → IfSome source (λ bytes. script_of bytes ≡ Ok s) → PrintsWith first now source status text

-- the text that the job prints over the book of `root`
abbrev pub Prints : Option (List ℕ) → Status → List ℕ → Type 0
Prints source status text = (now : Account) × PrintsWith nothing_hashed now source status text

-- Nothing in these bytes ends the job early: they are a script, no two different strings of its run have the same
-- MD5, the strings fit into the book of `root`, and no line exceeds the limit on messages.
pub record IsRunnable (bytes : List ℕ) : Type 0 where
  pub s : RootScript
  pub read : script_of bytes ≡ Ok s
  pub apart : HasNoClash (hashed_by s)
  pub fit : total (once (hashed_by s)) ≤ 1073741824
  pub within : ¬ PassesLimit s
