-- The flags that say which messages wait.
use Rattle.std.proofs.Common.{◌≡◌, ◌<◌, ◌==◌, ◌&&◌, ◌||◌, refl, ap, sym, ◌∙◌, arith, ℕ, zero, suc, Bool, true, false, List, [], ◌∷◌, ◌++◌, length}
use Rattle.ens_base.specs.Lists.{is_in}
use Rattle.std.specs.Prelude.{not, take, drop, slice_get, slice_index_or, slice_set}
use Rattle.std.specs.Option.{option_map_or}
use Rattle.std.proofs.lemmas.Bool.{and_right, eqb-true, eqb-false, both_ways}
use Rattle.std.proofs.lemmas.List.{length-set, get_or-set_other, take_all, take-append-le}
use Rattle.wire_frames.specs.declared.frame.Frame.{Frame}
use Rattle.network.specs.Mail.{waits_without}
use Rattle.network.specs.Lines.{cleared}
use Rattle.network.proofs.MailLaws.{settled_flag}

and_not_false : (w : Bool) → w ≡ (w && not false)
and_not_false true = refl
and_not_false false = refl

-- the flag at a number, when one flag is cleared
pub flag_set : (waits : List Bool) (n k : ℕ) → slice_index_or (slice_set waits n false) k false ≡ (slice_index_or waits k false && not (k == n))
flag_set waits n k = by (k == n) refl where
  by : (b : Bool) → (k == n) ≡ b → slice_index_or (slice_set waits n false) k false ≡ (slice_index_or waits k false && not b)
  by true same = ap (λ (i : ℕ). slice_index_or (slice_set waits n false) i false) (eqb-true k n same) ∙ settled_flag waits n ∙ sym (and_right _ _ refl)
  by false other = get_or-set_other waits n k false false (eqb-false k n other) ∙ and_not_false _

neither : (w e i : Bool) → ((w && not e) && not i) ≡ (w && not (e || i))
neither true true i = refl
neither true false i = refl
neither false e i = refl

-- the flag at a number, when the flags of these numbers are cleared
pub flag_cleared : (waits : List Bool) (ns : List ℕ) (k : ℕ) → slice_index_or (cleared waits ns) k false ≡ (slice_index_or waits k false && not (is_in ns k))
flag_cleared waits [] k = and_not_false _
flag_cleared waits (n ∷ ns) k =
    flag_cleared (slice_set waits n false) ns k
    ∙ ap (λ (b : Bool). b && not (is_in ns k)) (flag_set waits n k)
    ∙ neither _ (k == n) (is_in ns k)

pub length-cleared : (waits : List Bool) (ns : List ℕ) → length (cleared waits ns) ≡ length waits
length-cleared waits [] = refl
length-cleared waits (n ∷ ns) = length-cleared (slice_set waits n false) ns ∙ length-set waits n false

-- the flag at a number after a loss
pub flag_without : (test : Frame → Bool) (sent : List Frame) (waits : List Bool) (k : ℕ) → slice_index_or (waits_without test sent waits) k false ≡ (slice_index_or waits k false && not (option_map_or test (slice_get sent k) false))
flag_without test [] waits k = and_not_false _
flag_without test (f ∷ sent) [] k = refl
flag_without test (f ∷ sent) (w ∷ waits) zero = refl
flag_without test (f ∷ sent) (w ∷ waits) (suc k) = flag_without test sent waits k

-- one more flag changes none of those before it
pub flag_stays : (waits : List Bool) (now : Bool) (k : ℕ) → slice_index_or waits k false ≡ true → slice_index_or (waits ++ now ∷ []) k false ≡ true
flag_stays [] now k waiting = absurd (both_ways _ refl waiting)
flag_stays (w ∷ waits) now zero waiting = waiting
flag_stays (w ∷ waits) now (suc k) waiting = flag_stays waits now k waiting

-- two lists of flags of one length are equal if they agree at each number
pub same_flags : (xs ys : List Bool) → length xs ≡ length ys → ((k : ℕ) → slice_index_or xs k false ≡ slice_index_or ys k false) → xs ≡ ys
same_flags [] [] long same = refl
same_flags [] (y ∷ ys) long same = absurd (omega (arith, long))
same_flags (x ∷ xs) [] long same = absurd (omega (arith, long))
same_flags (x ∷ xs) (y ∷ ys) long same =
    ap (λ (b : Bool). b ∷ xs) (same 0)
    ∙ ap (λ (bs : List Bool). y ∷ bs) (same_flags xs ys (omega (arith, long)) (λ k. same (suc k)))

pub flag_was : (waits : List Bool) (now : Bool) (k : ℕ) → k < length waits → slice_index_or (waits ++ now ∷ []) k false ≡ true → slice_index_or waits k false ≡ true
flag_was [] now k within waiting = absurd (omega arith)
flag_was (w ∷ waits) now zero within waiting = waiting
flag_was (w ∷ waits) now (suc k) within waiting = flag_was waits now k (omega arith) waiting

-- all flags are written over
pub written_over : (waits now : List Bool) (n : ℕ) → length now ≡ n → take n (now ++ drop (length now) waits) ≡ now
written_over waits now n long = take-append-le n now _ (omega (arith, long)) ∙ take_all n now (omega (arith, long))
