-- A digest is a run of 16 bytes.
use Rattle.std.proofs.Common.{ℕ, zero, suc, ◌<◌, List, [], ◌∷◌, ◌++◌, get_or, arith}
use Rattle.std.specs.Prelude.{slice_index}
use Rattle.std.specs.Int.{to_le_bytes, w32, byte_at}
use Rattle.md5.specs.Md5.{md5, digest_bytes}
use Rattle.md5.proofs.StandardFacts.{length-md5}
use Rattle.fields.specs.Numbers.{IsRun}
use Rattle.ens_base.specs.Limits.{IsBytes}

bytes_append : (a b : List ℕ) → IsBytes a → IsBytes b → (i : ℕ) → get_or (a ++ b) i 0 < 256
bytes_append [] b p q i = q i
bytes_append (x ∷ a) b p q zero = p 0
bytes_append (x ∷ a) b p q (suc i) = bytes_append a b (λ j. p (suc j)) q i

four : (a b c d : ℕ) → a < 256 → b < 256 → c < 256 → d < 256 → IsBytes (a ∷ b ∷ c ∷ d ∷ [])
four a b c d p q r s zero = p
four a b c d p q r s (suc zero) = q
four a b c d p q r s (suc (suc zero)) = r
four a b c d p q r s (suc (suc (suc zero))) = s
four a b c d p q r s (suc (suc (suc (suc i)))) = omega arith

bytes_word : (n : ℕ) → IsBytes (to_le_bytes w32 n)
bytes_word n = four (byte_at 0 n) (byte_at 1 n) (byte_at 2 n) (byte_at 3 n) (omega arith) (omega arith) (omega arith) (omega arith)

bytes_digest : (h : List ℕ) (n : ℕ) → IsBytes (digest_bytes h n)
unfolding digest_bytes
bytes_digest h zero = λ i. omega arith
bytes_digest h (suc n) = bytes_append (digest_bytes h n) (to_le_bytes w32 (slice_index h n)) (bytes_digest h n) (bytes_word (slice_index h n))

bytes_md5 : (t : List ℕ) → IsBytes (md5 t)
unfolding md5
bytes_md5 t = bytes_digest _ 4

pub md5_run : (t : List ℕ) → IsRun 16 (md5 t)
md5_run t = record { size = length-md5 t; bytes = bytes_md5 t }
