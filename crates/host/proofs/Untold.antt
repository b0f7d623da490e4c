-- A crash may leave the file as it was, whatever was written or cut.
use Rattle.std.proofs.Common.{ℕ, List, arith}
use Rattle.std.proofs.Math.Seq.{take-length}
use Rattle.slot_disk.specs.Crash.{Torn, Cut, Follows}
use Rattle.slot_disk.proofs.Ranges.{torn_same}

cut_stays : (n : ℕ) (file : List ℕ) → Cut n file file
cut_stays n file = record { no_shorter = omega arith; prefix = take-length file }

pub torn_follows : (at n : ℕ) → Follows (Torn at n) (λ c. Unit {0}) (λ c. Unit {0})
torn_follows at n c any = (c, tt, torn_same at n c)

pub cut_follows : (n : ℕ) → Follows (Cut n) (λ c. Unit {0}) (λ c. Unit {0})
cut_follows n c any = (c, tt, cut_stays n c)
