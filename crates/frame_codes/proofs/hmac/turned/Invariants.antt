use Rattle.std.proofs.Common.{◌≡◌, ◌++◌, length, take, drop, map, bit_xor}
use Rattle.frame_codes.proofs.hmac.turned.Given as goal

abbrev pub invariant-bytes : goal.invariant-bytes
invariant-bytes l = (length l.out ≡ 64) × (length l.block ≡ 64) × (l.out ≡ map (λ b. bit_xor b l.mask) (take l.i l.block) ++ drop l.i l.block)
