-- Which sources of a sync suffice.
use Rattle.std.specs.Prelude.{◌≡◌, ◌⊎◌, ℕ, Bool, true, ◌||◌, List}
use Rattle.ens_base.specs.Lists.{◌∈◌}
use Rattle.quorums.specs.Quorums.{is_majority, has_all}

-- more than half of the view has finished with trusted trees, or all of it has finished
abbrev pub suffice : (ℕ → Bool) → (ℕ → Bool) → List ℕ → Bool
suffice trusted finished view = is_majority trusted view || has_all finished view

-- a member of the view has finished that is among the holders, and that is a trusted source or
-- sound
pub record HasTeller (trusted finished sound holders : ℕ → Bool) (view : List ℕ) : Type 0 where
  pub peer : ℕ
  pub member : peer ∈ view
  pub done : finished peer ≡ true
  pub holds : holders peer ≡ true
  pub reliable : (trusted peer ≡ true) ⊎ (sound peer ≡ true)
