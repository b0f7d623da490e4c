use Rattle.std.proofs.Common.{◌≡◌, ◌<◌, drop}
use Rattle.disk_stores.specs.Recents.{slot_from}
use Rattle.disk_stores.proofs.recent.slot_of.Given as goal

abbrev pub invariant-loop-byte : goal.invariant-loop-byte
invariant-loop-byte l = record {
  within : l.slot < 4096;
  rest : slot_from l.slot (drop l.byte-index l.name) ≡ slot_from 0 l.name;
}
