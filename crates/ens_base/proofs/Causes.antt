-- Counts of faults that do not decrease.
use Rattle.std.proofs.Common.{◌≡◌, ◌≤◌, ℕ, ap, arith}
use Rattle.ens_base.specs.Causes.{Rose}

-- a count that rose from a later one rose from an earlier one
pub rose_later : (a b c : ℕ) → a ≤ b → Rose b c → Rose a c
rose_later a b c before rose = omega (arith, before, rose)

pub same_count : {A : Type 0} (count : A → ℕ) (a b : A) → b ≡ a → count a ≤ count b
same_count count a b e = omega (arith, ap count e)
