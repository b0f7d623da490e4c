-- Facts: their order, the first one, and the views that follow.
use Rattle.std.specs.Prelude.{◌≡◌, ◌⊎◌, ◌<◌, ℕ, List, [], ◌∷◌}
use Rattle.ens_base.specs.Epochs.{IsEpochBelow}
use Rattle.ens_base.specs.Views.{first_view}
use Rattle.stored_formats.specs.declared.fact.Fact.{Fact}
use Rattle.stored_formats.specs.declared.fact.Change.{Change}
use Rattle.stored_formats.specs.declared.fact.Change.TheVariants as changes

-- the first fact is newer than the second: by the epoch, then by the number in it
abbrev pub IsNewer : Fact → Fact → Type 0
IsNewer f g = IsEpochBelow g.epoch f.epoch ⊎ ((g.epoch ≡ f.epoch) × (g.seq < f.seq))

-- the fact of an ensemble in which nothing has happened
abbrev pub opening_fact : List ℕ → Fact
opening_fact view = record {
  ballot = record { count = 0; proposer = 0 };
  epoch = record { count = 0; proposer = 0 };
  seq = 0;
  leader = 0;
  views = view ∷ [];
  change = changes.None;
}

-- the new view alone, where there are two
abbrev pub without_old : List (List ℕ) → List (List ℕ)
without_old (new ∷ old ∷ []) = new ∷ []
without_old views = views

-- the views after the change: a view is added in front, or the old one is dropped
abbrev pub changed_views : Change → List (List ℕ) → List (List ℕ)
changed_views changes.None views = views
changed_views (changes.Add new) views = new ∷ first_view views ∷ []
changed_views changes.Drop views = without_old views

-- the views of the epoch after this fact's
abbrev pub views_after : Fact → List (List ℕ)
views_after f = changed_views f.change f.views
