use Rattle.std.proofs.Common.{◌-◌, ◌*◌}
use Rattle.tree_repair.proofs.hashing.+halves.Given as goal

abbrev pub decreases-hash_part : goal.decreases-hash_part
decreases-hash_part g l = 4 * (16 - l.part)

abbrev pub decreases-hash_halves : goal.decreases-hash_halves
decreases-hash_halves g l = 4 * (16 - l.part) - 1

abbrev pub decreases-hash_halves-first : goal.decreases-hash_halves-first
decreases-hash_halves-first g l = 4 * (16 - l.part) - 2

abbrev pub decreases-hash_halves-second : goal.decreases-hash_halves-second
decreases-hash_halves-second g l = 4 * (16 - l.part) - 2
