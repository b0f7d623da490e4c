-- Facts that were committed to a file of facts.
use Rattle.std.specs.Prelude.{◌≡◌, ◌⊎◌, ℕ, List, [], ◌∷◌, Option, Some, Ok}
use Rattle.fact_store.specs.Files.{Replaces, Saved, file_kept}
use Rattle.fact_store.specs.declared.file.FactFile.{FactFile}
use Rattle.stored_formats.specs.declared.saved.SavedFact.{SavedFact}

module _ {D : Type 0} (seen : D → Option (List ℕ)) (may_leave : D → List ℕ → Type 0) (moment : D → ℕ) (left_since : D → ℕ → List ℕ → Type 0) (faults : D → ℕ) where
  -- the file kept this fact already, or it was saved
  abbrev pub Committed : SavedFact → FactFile D → FactFile D → Type 0
  Committed fact f g = ((file_kept f ≡ Some (Ok fact)) × (g ≡ f)) ⊎ (Saved seen may_leave faults fact f g × Replaces seen may_leave moment left_since fact f g)

  -- these facts were committed, one after another
  abbrev pub CommittedAll : List SavedFact → FactFile D → FactFile D → Type 0
  CommittedAll [] f g = g ≡ f
  CommittedAll (fact ∷ facts) f g = (m : FactFile D) × Committed fact f m × CommittedAll facts m g
