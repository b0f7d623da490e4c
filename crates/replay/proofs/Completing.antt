-- A replay that nothing ends early runs to its end.
use Rattle.std.proofs.Common.{◌≡◌, ◌⊎◌, ◌<◌, ℕ, Bool, true, false, if◌then◌else◌, List, [], ◌∷◌, ◌++◌, Option, None, Some, Result, Ok, Err, inl, inr, refl, sym, subst, ◌∙◌, arith}
use Rattle.std.specs.Prelude.{◌≢◌, IfOk, IsSomeAnd, string_bytes}
use Rattle.std.specs.Io.KnownBytes.{IsAtEnd}
use Rattle.ens_base.specs.Causes.{Rose}
use Rattle.std.specs.List.{list_any}
use Rattle.ens_base.proofs.Lists.{in_append, in_left, in_right}
use Rattle.ens_base.specs.Lists.{◌∈◌, same_bytes}
use Rattle.ens_base.specs.declared.status.Status.{Status}
use Rattle.hash_book.specs.Hashing.{Book, IsKept, total}
use Rattle.world_model.proofs.WorldSpec.{kept_once}
use Rattle.world_model.specs.WorldSpec.{Account, HasNoClash, added, kept_after, once, HasClashed, IsPastMessages, IsWithinMessages}
use Rattle.schedule_input.specs.Endings.{IsUnread}
use Rattle.schedule_input.specs.Reading.{Refuses, WasCutOff, WasTakenTo}
use Rattle.schedule_input.specs.declared.ending.Ending.{Ending}
use Rattle.schedule_input.specs.declared.read.ReadError.{ReadError}
use Rattle.schedule_input.specs.declared.read.ReadError.TheVariants as read
use Rattle.schedule_input.specs.Premise.{first_unsound}
use Rattle.schedule_text.specs.Progress.{Blank}
use Rattle.schedule_text.specs.Reading.{schedule_of}
use Rattle.schedule_text.specs.declared.schedule.Schedule.{Schedule}
use Rattle.replay.specs.Jobs.{HasRead, IsRunnable, Prints, PrintsWith, RanOut, hashed_by, nothing_hashed}
use Rattle.replay.specs.Worlds.{schedule_run}
use Rattle.replay.proofs.Members.{Contains_from_in, in_from_Contains}
use Rattle.replay.proofs.Texts.{same_ok, no_error, not_found}

-- ---- what a book keeps is among the strings that it took

in_added : (kept : List (List ℕ)) (x y : List ℕ) → x ∈ added kept y → (x ∈ kept) ⊎ (x ≡ y)
in_added kept x y at = by (list_any (same_bytes y) kept) at
  where
    by : (b : Bool) → x ∈ (if b then kept else kept ++ y ∷ []) → (x ∈ kept) ⊎ (x ≡ y)
    by true there = inl there
    by false there = last (in_append kept (y ∷ []) x there)
      where
        last : (x ∈ kept) ⊎ (x ∈ (y ∷ [])) → (x ∈ kept) ⊎ (x ≡ y)
        last (inl old) = inl old
        last (inr (inl same)) = inr same
        last (inr (inr none)) = absurd none

in_kept : (xs kept : List (List ℕ)) (x : List ℕ) → x ∈ kept_after kept xs → (x ∈ kept) ⊎ (x ∈ xs)
in_kept [] kept x at = inl at
in_kept (y ∷ ys) kept x at = by (in_kept ys (added kept y) x at)
  where
    by : (x ∈ added kept y) ⊎ (x ∈ ys) → (x ∈ kept) ⊎ (x ∈ (y ∷ ys))
    by (inl there) = first (in_added kept x y there)
      where
        first : (x ∈ kept) ⊎ (x ≡ y) → (x ∈ kept) ⊎ (x ∈ (y ∷ ys))
        first (inl old) = inl old
        first (inr same) = inr (inl same)
    by (inr there) = inr (inr there)

-- ---- no end but the last has a cause

pub no_clash : (strings : List (List ℕ)) (now : Account) (kept new : List ℕ) → HasClashed strings nothing_hashed kept new now → HasNoClash strings → ⊥
no_clash strings now kept new has apart = has.1.differ (apart kept new (Contains_from_in strings kept kept_in) (Contains_from_in strings new new_in) has.1.same)
  where
    book : now.kept ≡ Some (record { strings = once has.0.before; limit = 1073741824 })
    book = (kept_once has.0.before 1073741824 now.kept has.0.taken).0

    among : (kept ∈ []) ⊎ (kept ∈ has.0.before) → kept ∈ has.0.before
    among (inl at) = absurd at
    among (inr at) = at

    kept_in : kept ∈ strings
    kept_in = subst (λ (xs : List (List ℕ)). kept ∈ xs) (sym has.0.are)
        (in_left has.0.before (new ∷ has.0.later) kept (among (in_kept has.0.before [] kept (in_from_Contains (once has.0.before) kept (subst (λ (b : Option Book). IsKept b kept) book has.2)))))

    new_in : new ∈ strings
    new_in = subst (λ (xs : List (List ℕ)). new ∈ xs) (sym has.0.are) (in_right has.0.before (new ∷ has.0.later) new (inl refl))

not_past : (s : Schedule) → IsWithinMessages (schedule_run s) → IsPastMessages (schedule_run s) → ⊥
not_past s within past = omega (arith, within, past)

module _ (bytes : List ℕ) (run : IsRunnable bytes) where
  one : (s : Schedule) → schedule_of bytes ≡ Ok s → s ≡ run.s
  one s read = same_ok (sym read ∙ run.read)

  known : (status : Status) (text : List ℕ) → Prints (Some bytes) status text → (status ≡ Status.ReadFault → ⊥) → RanOut status
  known Status.Done text h calm = inl refl
  known Status.Memory text h calm = inr refl
  known Status.Schedule text h calm = absurd (no_error (sym run.read ∙ h.1.2))
  known Status.Premise text h calm =
      let r = h.1 in
      let found = subst (λ (t : Schedule). first_unsound t ≡ Some r.2.0) (one r.0 r.1) r.2.1 in
      absurd (not_found (sym run.sound ∙ found))
  known Status.Clash text h calm =
      let r = h.1 in
      absurd (no_clash (hashed_by run.s) h.0 r.0 r.1 (subst (λ (t : Schedule). HasClashed (hashed_by t) nothing_hashed r.0 r.1 h.0) (one r.5.0 r.5.1) r.5.3) run.apart)
  known Status.Limit text h calm = by h.1
    where
      by : PrintsWith nothing_hashed h.0 (Some bytes) Status.Limit text → RanOut Status.Limit
      by (inl lines) = absurd (no_error (sym run.read ∙ lines.0))
      by (inr (inl m)) = absurd (not_past run.s run.within (subst (λ (t : Schedule). IsPastMessages (schedule_run t)) (one m.0.0 m.0.1) m.0.3))
      by (inr (inr b)) =
          let over : 1073741824 < total (once (hashed_by run.s)) = subst (λ (t : Schedule). 1073741824 < total (once (hashed_by t))) (one b.1.0 b.1.1) (b.1.4 1073741824 refl) in
          absurd (omega (arith, run.fit, over))
  known Status.ReadFault text h calm = absurd (calm refl)
  known status text h calm = absurd h.1

pub runs_out : (source : Option (List ℕ)) (status : Status) (text : List ℕ) → IsSomeAnd source IsRunnable → Prints source status text → (status ≡ Status.ReadFault → ⊥) → RanOut status
runs_out None status text run h calm = absurd run
runs_out (Some bytes) status text run h calm = known bytes run status text h calm

-- ---- how far the source was read

-- a job that ended as it was to end
pub ended_as : (source left : Option (List ℕ)) (before now : ℕ) (status ended : Status) → ended ≡ status → HasRead source left before now status → HasRead source left before now ended
ended_as source left before now status ended is has = subst (λ (s : Status). HasRead source left before now s) (sym is) has

-- a replay that read a schedule read the whole source
pub read_whole : (source left : Option (List ℕ)) (before now : ℕ) (status : Status) → WasTakenTo source left → IsAtEnd left → (status ≡ Status.ReadFault → ⊥) → HasRead source left before now status
read_whole source left before now status taken end calm = record { taken = taken; end = λ needs. end; limit = λ e. inr end; fault = λ e. absurd (calm e) }

-- one that read none ended where the text says
module _ (source left : Option (List ℕ)) (before now : ℕ) (error : ReadError) (taken : WasTakenTo source left) (rose : error ≡ read.Failed → Rose before now) (cut : error ≡ read.Failed → WasCutOff source left) where
  unread_status : (status : Status) (text : List ℕ) → IsUnread source status text → (status ≡ Status.ReadFault → error ≡ read.Failed) → HasRead source left before now status
  unread_status Status.Schedule text unread failed = record { taken = taken; end = λ needs. absurd needs; limit = λ e. absurd (not_limit e); fault = λ e. absurd (not_fault e) }
    where
      not_limit : ◌≡◌ {A = Status} Status.Schedule Status.Limit → ⊥
      not_limit e = cc e

      not_fault : ◌≡◌ {A = Status} Status.Schedule Status.ReadFault → ⊥
      not_fault e = cc e
  unread_status Status.Limit text unread failed = record { taken = taken; end = λ needs. absurd needs; limit = λ e. inl unread.0; fault = λ e. absurd (not_fault e) }
    where
      not_fault : ◌≡◌ {A = Status} Status.Limit Status.ReadFault → ⊥
      not_fault e = cc e
  unread_status Status.ReadFault text unread failed = record { taken = taken; end = λ needs. absurd needs; limit = λ e. absurd (not_limit e); fault = λ e. (rose (failed refl), cut (failed refl)) }
    where
      not_limit : ◌≡◌ {A = Status} Status.ReadFault Status.Limit → ⊥
      not_limit e = cc e
  unread_status status text unread failed = absurd unread

  pub unread_read : {E : Type 0} (r : Result Ending E) → Refuses source Blank error → IfOk r (λ e. (known : Option (List ℕ)) → Refuses known Blank error → IsUnread known e.status (string_bytes e.text))
      → IfOk r (λ e. (e.status ≢ Status.Done) × (e.status ≡ Status.ReadFault → error ≡ read.Failed)) → IfOk r (λ e. HasRead source left before now e.status)
  unread_read (Ok e) refuses printed status = unread_status e.status (string_bytes e.text) (printed source refuses) status.1
  unread_read (Err e) refuses printed status = tt

-- ---- a source that was not read

nothing_taken : (source : Option (List ℕ)) → WasTakenTo source source
nothing_taken None = tt
nothing_taken (Some bytes) = record { lines = []; more = []; p = Blank; are = refl; good = λ rest. refl; few = omega arith; short = omega arith; bound = omega arith }

pub usage_read : (source : Option (List ℕ)) (before now : ℕ) → HasRead source source before now Status.Usage
usage_read source before now = record { taken = nothing_taken source; end = λ needs. absurd needs; limit = λ e. absurd (not_limit e); fault = λ e. absurd (not_fault e) }
  where
    not_limit : ◌≡◌ {A = Status} Status.Usage Status.Limit → ⊥
    not_limit e = cc e

    not_fault : ◌≡◌ {A = Status} Status.Usage Status.ReadFault → ⊥
    not_fault e = cc e

-- out of memory says no more of the source than how much was taken
pub memory_taken : (source left : Option (List ℕ)) (before now : ℕ) → WasTakenTo source left → HasRead source left before now Status.Memory
memory_taken source left before now taken = record { taken = taken; end = λ needs. absurd needs; limit = λ e. absurd (not_limit e); fault = λ e. absurd (not_fault e) }
  where
    not_limit : ◌≡◌ {A = Status} Status.Memory Status.Limit → ⊥
    not_limit e = cc e

    not_fault : ◌≡◌ {A = Status} Status.Memory Status.ReadFault → ⊥
    not_fault e = cc e

pub memory_read : (source : Option (List ℕ)) (before now : ℕ) → HasRead source source before now Status.Memory
memory_read source before now = memory_taken source source before now (nothing_taken source)
