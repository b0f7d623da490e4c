-- Lists of bytes: two that are joined, and the bytes of a number.
use Rattle.std.proofs.Common.{◌<◌, ◌%◌, ◌/◌, ◌^◌, ◌++◌, ℕ, zero, suc, List, [], ◌∷◌, lit<, arith}
use Rattle.std.specs.Int.{byte_at, bytes_high_first}
use Rattle.ens_base.specs.Limits.{IsBytes}

pub bytes_both : (xs ys : List ℕ) → IsBytes xs → IsBytes ys → IsBytes (xs ++ ys)
bytes_both [] ys a b i = b i
bytes_both (x ∷ xs) ys a b zero = a 0
bytes_both (x ∷ xs) ys a b (suc i) = bytes_both xs ys (λ j. a (suc j)) b i

is_byte : (m : ℕ) → m % 256 < 256
is_byte m = omega arith

byte_small : (k n : ℕ) → byte_at k n < 256
byte_small zero n = is_byte n
byte_small (suc k) n = is_byte (n / 256 ^ suc k)

pub number_bytes : (k n : ℕ) → IsBytes (bytes_high_first k n)
number_bytes zero n i = lit< tt
number_bytes (suc k) n zero = byte_small k n
number_bytes (suc k) n (suc i) = number_bytes k n i
