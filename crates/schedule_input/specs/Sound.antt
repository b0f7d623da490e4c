-- What the premise says of a schedule, and of the view that fails it.
use Rattle.std.specs.Prelude.{◌≡◌, ◌⊎◌, ℕ, Bool, true, List, ◌∷◌, ◌++◌}
use Rattle.ens_base.specs.Lists.{◌∈◌}
use Rattle.quorums.specs.Quorums.{is_majority}
use Rattle.schedule_text.specs.declared.event.ScheduleEvent.TheVariants.{Change, Revert}
use Rattle.schedule_text.specs.declared.form.Form.TheVariants.{One, Two, Three}
use Rattle.schedule_text.specs.declared.schedule.Schedule.{Schedule}
use Rattle.schedule_input.specs.Premise.{views_named}

-- a line of the schedule reverts the tree of the peer
abbrev pub IsReverted : Schedule → ℕ → Type 0
IsReverted s peer = (changes : ℕ) × (Revert peer changes ∈ s.events)

-- the schedule opens with the view, or a line asks a peer for it
abbrev pub IsNamed : Schedule → List ℕ → Type 0
IsNamed s view = (view ≡ s.view) ⊎ ((peer : ℕ) × (Change peer view ∈ s.events))

-- some majority of the view has no reverted peer
pub record KeepsMajority (s : Schedule) (view : List ℕ) : Type 0 where
  pub peers : ℕ → Bool
  pub majority : is_majority peers view ≡ true
  pub kept : (p : ℕ) → peers p ≡ true → ¬ IsReverted s p

-- the form is 2 or 3, or each view that the schedule names keeps a majority
abbrev pub IsSound : Schedule → Type 0
IsSound s = (s.form ≡ Two) ⊎ (s.form ≡ Three) ⊎ ((view : List ℕ) → IsNamed s view → KeepsMajority s view)

-- the form is 1, the view keeps no majority, and each view before it, in the order of the lines, keeps one
pub record FailsFirst (s : Schedule) (view : List ℕ) : Type 0 where
  pub form : s.form ≡ One
  pub earlier : List (List ℕ)
  pub later : List (List ℕ)
  pub place : views_named s ≡ earlier ++ view ∷ later
  pub sound : (v : List ℕ) → v ∈ earlier → KeepsMajority s v
  pub fails : ¬ KeepsMajority s view

-- some member of the view is in the set and not reverted
pub record HasKept (s : Schedule) (peers : ℕ → Bool) (view : List ℕ) : Type 0 where
  pub peer : ℕ
  pub member : peer ∈ view
  pub inside : peers peer ≡ true
  pub kept : ¬ IsReverted s peer
