-- A record that is replayed and audited.
use Rattle.std.specs.Prelude.{◌≡◌, ℕ, List, Some}
use Rattle.ens_base.specs.declared.status.Status.{Status}
use Rattle.run_laws.specs.Recorded.{IsWellRecorded}
use Rattle.cluster.specs.Replay.{IsRunnable, Prints, record_text}

-- The text is a schedule, the line `answers`, and what was printed. Nothing in the schedule ends a replay of it
-- early, and one that runs to its end prints the same.
pub record IsReplayed (text : List ℕ) : Type 0 where
  pub schedule : List ℕ
  pub printed : List ℕ
  pub is : text ≡ record_text schedule printed
  pub runs : IsRunnable schedule
  pub prints : Prints (Some schedule) Status.Done printed
  pub only : (other : List ℕ) → Prints (Some schedule) Status.Done other → other ≡ printed

-- the text is a schedule, the line `answers`, and what was printed, as a record without a fault
pub record IsAudited (text : List ℕ) : Type 0 where
  pub schedule : List ℕ
  pub printed : List ℕ
  pub is : text ≡ record_text schedule printed
  pub well : IsWellRecorded schedule printed
