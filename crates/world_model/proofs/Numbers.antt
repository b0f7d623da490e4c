-- Numbers that count by one.
use Rattle.std.proofs.Common.{◌≡◌, ◌+◌, ℕ, suc, arith}

-- a number above a base, counted from the next base
pub shifted : (m q base : ℕ) → m ≡ suc q + base → m ≡ q + (base + 1)
shifted m q base is = omega (arith, is)

pub shifted_back : (m q base : ℕ) → m ≡ q + (base + 1) → m ≡ suc q + base
shifted_back m q base is = omega (arith, is)
