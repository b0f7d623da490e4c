-- The state of a sync that runs.
use Rattle.std.specs.Prelude.{List}
use Rattle.tree_sync.specs.StoredFormats.{Fact}
use Rattle.tree_sync.specs.declared.sync.Sync.{Sync}
use Rattle.tree_sync.specs.declared.asking.Asking.{Asking}

-- the fact it is on, the sources that have finished, and the asks of the members but `me`, ascending
pub record Running : Type 0 where
  pub fact : Fact
  pub sync : Sync
  pub asks : List Asking
