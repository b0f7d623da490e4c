use Rattle.std.proofs.Common.{◌≡◌, drop}
use Rattle.tree_sync.specs.Syncs.{is_source}
use Rattle.tree_sync.proofs.sync.is_source.Given as goal

abbrev pub invariant-loop-source : goal.invariant-loop-source
invariant-loop-source l = is_source l.sources l.peer ≡ is_source (drop l.source-index l.sources) l.peer
