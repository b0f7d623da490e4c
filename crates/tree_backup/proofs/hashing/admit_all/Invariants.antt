use Rattle.std.proofs.Common.{drop}
use Rattle.tree_repair.proofs.Admissions.{TriesOn}
use Rattle.tree_backup.proofs.hashing.admit_all.Given as goal

abbrev pub invariant-loop-i : goal.invariant-loop-i
invariant-loop-i g l = TriesOn g.H.Hasher16.kept g.H.Hasher16.clashes g.H.Hasher16.fulls l.texts (drop l.i l.texts) l.fn.hasher l.hasher
