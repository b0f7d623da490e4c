use Rattle.std.proofs.Common.{◌≡◌, ◌++◌, take}
use Rattle.std.specs.List.{flat_map}
use Rattle.tree_sync.specs.Merges.{merged}
use Rattle.tree_sync.proofs.sync.Sync.merged.Given as goal

abbrev pub invariant-loop-source : goal.invariant-loop-source
invariant-loop-source l = l.merge ≡ merged (l.self.scan.entries ++ flat_map (λ s. s.entries) (take l.source-index l.source-items))
