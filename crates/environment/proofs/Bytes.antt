-- Sequences of reads and of writes compose.
use Rattle.std.proofs.Common.{◌≡◌, ℕ, ◌+◌, List, [], ◌∷◌, ◌++◌, length, take, drop, Option, Some, None, refl, sym, ap, ◌∙◌, append_assoc}
use Rattle.std.proofs.Math.Seq.{take-add}
use Rattle.std.specs.Prelude.{◌≢◌, IfSome}
use Rattle.std.specs.Io.KnownBytes.{Appends, prepend_known}

pub appends_more : (a b c : Option (List ℕ)) (xs : List ℕ) (i n : ℕ) → Appends a b (take i xs) → Appends b c (take n (drop i xs)) → Appends a c (take (i + n) xs)
appends_more None b c xs i n p q = tt
appends_more (Some x) None c xs i n p q = absurd p
appends_more (Some x) (Some y) None xs i n p q = absurd q
appends_more (Some x) (Some y) (Some z) xs i n p q = q ∙ ap (λ (l : List ℕ). l ++ take n (drop i xs)) p ∙ append_assoc x (take i xs) (take n (drop i xs)) ∙ ap (λ (l : List ℕ). x ++ l) (sym (take-add i n xs))

-- if bytes are pending, bytes are left
pub some_pending : (p : List ℕ) (left : Option (List ℕ)) → ¬ (length p ≡ 0) → IfSome (prepend_known p left) (λ rest. rest ≢ [])
some_pending p None some = tt
some_pending [] (Some y) some = absurd (some refl)
some_pending (x ∷ p) (Some y) some = λ e. let never : x ∷ (p ++ y) ≡ [] = e in cc
