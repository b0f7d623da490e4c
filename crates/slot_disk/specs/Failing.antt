-- The planned failures of a disk in memory.
use Rattle.std.specs.Prelude.{ℕ, List, ◌==◌, if◌then◌else◌}
use Rattle.std.specs.List.{list_any}
use Rattle.slot_disk.specs.declared.failing.Fate.{Fate}
use Rattle.slot_disk.specs.declared.failing.Fate.TheVariants.{Works, Fails, FailsDone}

-- the planned outcome of a call, from the numbers of those that fail without effect and of those
-- that fail with it
abbrev pub fate_of : List ℕ → List ℕ → ℕ → Fate
fate_of undone done call = if list_any (λ n. n == call) undone then Fails else (if list_any (λ n. n == call) done then FailsDone else Works)
