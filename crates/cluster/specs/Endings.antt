-- The texts with which a cluster ends that was stopped.
use Rattle.std.specs.Prelude.{◌≡◌, ℕ, List, [], ◌∷◌, ◌++◌, codes, Option, Err, IfSome}
use Rattle.ens_base.specs.declared.status.Status.{Status}
use Rattle.environment.specs.declared.errors.LinkError.TheVariants as links
use Rattle.scripts.specs.Scripts.{script_of}
use Rattle.scripts.specs.declared.cluster_read.ReadError.{ReadError}
use Rattle.scripts.specs.declared.cluster_read.ReadError.TheVariants as read
use Rattle.replay.specs.Jobs.{clash_line}
use Rattle.schedule_input.specs.Endings.{bad_line}
use Rattle.schedule_text.specs.declared.error.ScheduleError.TheVariants as schedule
use Rattle.world_model.specs.declared.error.WorldError.TheVariants as worlds
use Rattle.cluster.specs.declared.stop.Stop.{Stop}
use Rattle.cluster.specs.declared.stop.Stop.TheVariants.{Lines, World, Link}

-- why a script was not read, its status and its text
abbrev pub IsUnread : ℕ → Option (List ℕ) → ReadError → Status → List ℕ → Type 0
IsUnread peers source (read.Bad line cause) status text = (status ≡ Status.Schedule) × IfSome source (λ bytes. script_of peers bytes ≡ Err (schedule.Bad line cause)) × (text ≡ bad_line line cause)
IsUnread peers source read.Lines status text = (status ≡ Status.Limit) × IfSome source (λ bytes. script_of peers bytes ≡ Err schedule.Lines) × (text ≡ codes "limit lines 200000" ++ 10 ∷ [])
IsUnread peers source read.Failed status text = (status ≡ Status.ReadFault) × (text ≡ codes "read fault" ++ 10 ∷ [])
IsUnread peers source read.Memory status text = ⊥

-- why a recording stopped, its status and its text
abbrev pub IsStopText : Stop → Status → List ℕ → Type 0
IsStopText Lines status text = (status ≡ Status.Limit) × (text ≡ codes "limit lines 200000" ++ 10 ∷ [])
IsStopText (World (worlds.Clash first second)) status text = (status ≡ Status.Clash) × (text ≡ clash_line first second)
IsStopText (World (worlds.BookFull bytes)) status text = (status ≡ Status.Limit) × (text ≡ codes "limit book 1073741824" ++ 10 ∷ [])
IsStopText (World worlds.MessageLimit) status text = (status ≡ Status.Limit) × (text ≡ codes "limit messages 500000" ++ 10 ∷ [])
IsStopText (World worlds.Memory) status text = ⊥
IsStopText (Link links.Failed) status text = (status ≡ Status.LinkFault) × (text ≡ codes "link fault" ++ 10 ∷ [])
IsStopText (Link links.Memory) status text = ⊥
