-- What a crash leaves of a file to which facts were committed.
use Rattle.std.specs.Prelude.{Option, Some}
use Rattle.std.proofs.Common.{◌≡◌, ◌⊎◌, ◌≤◌, ◌∙◌, ap, sym, subst, ℕ, List, Result, Ok, inl, inr}
use Rattle.fact_store.specs.Files.{Replaces, file_kept}
use Rattle.fact_store.specs.Keeping.{IsOldOrNew, IsOldOrNewIn, fact_in, file_fact}
use Rattle.fact_store.specs.declared.file.FactFile.{FactFile}
use Rattle.stored_formats.specs.declared.fact_error.FactError.{FactError}
use Rattle.stored_formats.specs.declared.saved.SavedFact.{SavedFact}
use Rattle.slot_disk.proofs.Runs.{then_on, weaker}
use Rattle.slot_disk.specs.Crash.{LeavesOnly}
use Rattle.slot_disk.specs.SlotFiles.{IsAtRest}
use Rattle.slot_disk.specs.Slots.{record_in}
use Rattle.slot_disk.specs.declared.slot.Slot.{Slot}
use Rattle.fact_store.specs.Commits.{Committed}

abbrev Kept : Type 0
Kept = Option (Result SavedFact FactError)

module _ {D : Type 0} (seen : D → Option (List ℕ)) (may_leave : D → List ℕ → Type 0) (moment : D → ℕ) (left_since : D → ℕ → List ℕ → Type 0) (faults : D → ℕ)
    (first : D) (P : Kept → Type 0) where
  -- what a crash left since the first disk: what it might have left of that disk, or a fact that satisfies P
  abbrev pub MayBe : List ℕ → Type 0
  MayBe c = may_leave first c ⊎ P (file_fact c)

  -- the file is at rest, and keeps what satisfies P
  pub record Rests (f : FactFile D) : Type 0 where
    pub at_rest : IsAtRest seen may_leave f.slots
    pub kept : P (file_kept f)
    pub moments : LeavesOnly moment left_since first f.slots.disk MayBe

  -- a crash leaves what a file at rest keeps
  pub crash_leaves : (f : FactFile D) → IsAtRest seen may_leave f.slots → (c : List ℕ) → may_leave f.slots.disk c → file_fact c ≡ file_kept f
  crash_leaves f at_rest c left = ap file_fact (at_rest.on.only c left) ∙ ap (λ (m : Option (Slot × (ℕ × List ℕ))). fact_in (record_in m)) (sym at_rest.now)

  old_or_new : (fact : SavedFact) (old now : Kept) → P old → P (Some (Ok fact)) → IsOldOrNew old fact now → P now
  old_or_new fact old now one other (inl is) = subst P (sym is) one
  old_or_new fact old now one other (inr is) = subst P (sym is) other

  -- at any moment of a save, and since the first disk
  replaced : (fact : SavedFact) (f g : FactFile D) → P (Some (Ok fact)) → Rests f → Replaces seen may_leave moment left_since fact f g → LeavesOnly moment left_since first g.slots.disk MayBe
  replaced fact f g fits rests replaces =
      then_on moment left_since first f.slots.disk g.slots.disk MayBe rests.moments
      (weaker moment left_since f.slots.disk g.slots.disk (IsOldOrNewIn (file_kept f) fact) MayBe (λ c old. inr (old_or_new fact (file_kept f) (file_fact c) rests.kept fits old)) (replaces.any_moment rests.at_rest))

  -- a commit of a fact that satisfies P
  pub commit_rests : (fact : SavedFact) (f g : FactFile D) → P (Some (Ok fact)) → Committed seen may_leave moment left_since faults fact f g → Rests f → Rests g
  commit_rests fact f g fits (inl same) rests = subst Rests (sym same.1) rests
  commit_rests fact f g fits (inr done) rests = record {
    at_rest = done.0.at_rest rests.at_rest;
    kept = subst P (sym done.0.kept) fits;
    moments = replaced fact f g fits rests done.1;
  }

  -- A save that was refused: a crash at the end leaves the old fact or this one, and at any moment what
  -- satisfies P.
  pub record WasRefused (fact : SavedFact) (f g : FactFile D) : Type 0 where
    pub at_end : (c : List ℕ) → may_leave g.slots.disk c → IsOldOrNew (file_kept f) fact (file_fact c)
    pub moments : LeavesOnly moment left_since first g.slots.disk MayBe

  pub refused_left : ((disk : D) (t : ℕ) (c : List ℕ) → t ≤ moment disk → may_leave disk c → left_since disk t c) → (fact : SavedFact) (f g : FactFile D) → P (Some (Ok fact)) → Replaces seen may_leave moment left_since fact f g → Rests f → WasRefused fact f g
  refused_left counts_now fact f g fits replaces rests = record {
    at_end = λ c left.
        (replaces.any_moment rests.at_rest).each c (counts_now g.slots.disk (moment f.slots.disk) c (replaces.any_moment rests.at_rest).later left);
    moments = replaced fact f g fits rests replaces;
  }
