use Rattle.std.proofs.Common.{refl}
use Rattle.tree_exchange.specs.Covers.{give_of}
use Rattle.tree_exchange.proofs.Keeping.{take_keeps}
use Rattle.tree_exchange.proofs.laws.taking_keeps_covered.Goals as goal

pub returns : goal.returns
returns c = λ tree scan own q ask m n key v p ok has is apart covers. take_keeps tree scan own q (give_of tree m q) ask m n key v p ok has refl is apart covers
