use Rattle.std.proofs.Common.{◌≡◌, ◌≤◌, take}
use Rattle.frame_codes.proofs.same.is_same.Given as goal

abbrev pub invariant-bytes : goal.invariant-bytes
invariant-bytes l = (l.same ≤ l.i) × (l.same ≡ l.i → take l.i l.left ≡ take l.i l.right) × (take l.i l.left ≡ take l.i l.right → l.same ≡ l.i)
