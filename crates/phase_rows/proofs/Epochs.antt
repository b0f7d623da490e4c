-- Epochs that are tested as equal.
use Rattle.std.proofs.Common.{◌≡◌, true, arith}
use Rattle.std.proofs.lemmas.Bool.Decides.{nat_tests}
use Rattle.wire_frames.specs.EnsBase.{Epoch}
use Rattle.phase_rows.specs.Orders.{is_same}

pub same_epochs : (a b : Epoch) → is_same a b ≡ true → a ≡ b
same_epochs a b h = grind (arith, nat_tests)
