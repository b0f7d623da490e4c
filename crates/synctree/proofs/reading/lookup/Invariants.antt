use Rattle.std.proofs.Common.{◌≡◌, drop}
use Rattle.synctree.specs.Entries.{lookup}
use Rattle.synctree.proofs.reading.lookup.Given as goal

abbrev pub invariant-loop-entry : goal.invariant-loop-entry
invariant-loop-entry l = lookup l.key l.entries ≡ lookup l.key (drop l.entry-index l.entries)
