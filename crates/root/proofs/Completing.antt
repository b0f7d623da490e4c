-- A root that nothing ends early runs to its end.
use Rattle.std.proofs.Common.{◌≡◌, ◌<◌, ℕ, List, [], Option, None, Some, Result, Ok, Err, inl, inr, refl, sym, subst, ◌∙◌, arith}
use Rattle.std.specs.Prelude.{IsSomeAnd}
use Rattle.ens_base.specs.declared.status.Status.{Status}
use Rattle.hash_book.specs.Hashing.{total}
use Rattle.world_spec.proofs.Books.{filled_beyond}
use Rattle.world_spec.specs.Held.{once}
use Rattle.world_spec.specs.HeldLaws.{HasClashed, HasFilled}
use Rattle.replay.proofs.Completing.{no_clash}
use Rattle.replay.specs.Jobs.{RanOut, nothing_hashed}
use Rattle.scripts.specs.RootInput.{WasTakenTo}
use Rattle.scripts.specs.Progress.{Blank}
use Rattle.scripts.specs.RootReading.{script_of}
use Rattle.scripts.specs.declared.script.RootScript.{RootScript}
use Rattle.schedule_text.specs.declared.error.ScheduleError.{ScheduleError}
use Rattle.root.specs.Ends.{PassesLimit}
use Rattle.root.specs.Hashed.{hashed_by}
use Rattle.root.specs.Jobs.{HasRead, IsRunnable, Prints, PrintsWith}
use Rattle.root.proofs.Ends.{memory_taken}
use Rattle.root.proofs.Steps.{passes_limit}

same_ok : {s t : RootScript} → ◌≡◌ {A = Result RootScript ScheduleError} (Ok s) (Ok t) → s ≡ t
same_ok h = cc h

no_error : {s : RootScript} {e : ScheduleError} → ◌≡◌ {A = Result RootScript ScheduleError} (Ok s) (Err e) → ⊥
no_error h = cc h

module _ (bytes : List ℕ) (run : IsRunnable bytes) where
  one : (s : RootScript) → script_of bytes ≡ Ok s → s ≡ run.s
  one s read = same_ok (sym read ∙ run.read)

  known : (status : Status) (text : List ℕ) → Prints (Some bytes) status text → (status ≡ Status.ReadFault → ⊥) → RanOut status
  known Status.Done text h calm = inl refl
  known Status.Memory text h calm = inr refl
  known Status.Schedule text h calm = absurd (no_error (sym run.read ∙ h.1.2))
  known Status.Clash text h calm =
      let r = h.1 in
      absurd (no_clash (hashed_by run.s) h.0 r.0 r.1 (subst (λ (t : RootScript). HasClashed (hashed_by t) nothing_hashed r.0 r.1 h.0) (one r.5.0 r.5.1) r.5.2) run.apart)
  known Status.Limit text h calm = by h.1
    where
      by : PrintsWith nothing_hashed h.0 (Some bytes) Status.Limit text → RanOut Status.Limit
      by (inl lines) = absurd (no_error (sym run.read ∙ lines.0))
      by (inr (inl m)) = absurd (run.within (subst PassesLimit (one m.0.0 m.0.1) (passes_limit m.0.0 nothing_hashed m.0.2)))
      by (inr (inr b)) =
          let has : HasFilled (hashed_by run.s) nothing_hashed h.0 = subst (λ (t : RootScript). HasFilled (hashed_by t) nothing_hashed h.0) (one b.1.0 b.1.1) b.1.2 in
          let over : 1073741824 < total (once (hashed_by run.s)) = filled_beyond (hashed_by run.s) 1073741824 nothing_hashed h.0 refl has in
          absurd (omega (arith, run.fit, over))
  known Status.ReadFault text h calm = absurd (calm refl)
  known status text h calm = absurd h.1

pub runs_out : (source : Option (List ℕ)) (status : Status) (text : List ℕ) → IsSomeAnd source IsRunnable → Prints source status text → (status ≡ Status.ReadFault → ⊥) → RanOut status
runs_out None status text run h calm = absurd run
runs_out (Some bytes) status text run h calm = known bytes run status text h calm

-- ## A source that was not read

nothing_taken : (source : Option (List ℕ)) → WasTakenTo source source
nothing_taken None = tt
nothing_taken (Some bytes) = record { lines = []; more = []; s = Blank; are = refl; good = λ rest. refl; fit = record { few = omega arith; short = omega arith; bound = omega arith } }

pub usage_read : (source : Option (List ℕ)) (before now : ℕ) → HasRead source source before now Status.Usage
usage_read source before now = record { taken = nothing_taken source; end = λ needs. absurd needs; limit = λ e. absurd (not_limit e); fault = λ e. absurd (not_fault e) }
  where
    not_limit : ◌≡◌ {A = Status} Status.Usage Status.Limit → ⊥
    not_limit e = cc e

    not_fault : ◌≡◌ {A = Status} Status.Usage Status.ReadFault → ⊥
    not_fault e = cc e

pub memory_read : (source : Option (List ℕ)) (before now : ℕ) → HasRead source source before now Status.Memory
memory_read source before now = memory_taken source source before now (nothing_taken source)
