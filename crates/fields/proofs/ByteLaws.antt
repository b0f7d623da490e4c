-- Bytes, spellings one after the other, and writes one after the other.
use Rattle.std.proofs.Common.{◌≡◌, ℕ, ◌+◌, ◌-◌, ◌≤◌, List, [], ◌∷◌, ◌++◌, length, take, drop, refl, sym, ap, ◌∙◌, append_assoc, take-append-drop, arith, inl, inr, length-append, length-take}
use Rattle.std.proofs.lemmas.Bool.{cases_lt}
use Rattle.std.proofs.lemmas.List.{get_or-drop, get_or-take, get_or_past, drop-drop}
use Rattle.std.proofs.lemmas.Slice.{take-put_mid, drop-put_mid}
use borrow.Rule.Slice.PartMut.{put_mid}
use Rattle.ens_base.specs.Limits.{IsBytes}
use Rattle.fields.specs.Places.{Spells, Writes}

pub IsBytes-drop : (n : ℕ) (bytes : List ℕ) → IsBytes bytes → IsBytes (drop n bytes)
IsBytes-drop n bytes h i = rw get_or-drop (h (n + i))

pub IsBytes-take : (n : ℕ) (bytes : List ℕ) → IsBytes bytes → IsBytes (take n bytes)
IsBytes-take n bytes h i =
    elim (cases_lt i n) [
      | inl lt ↦ rw (get_or-take n bytes i 0 lt) (h i)
      | inr le ↦ rw (get_or_past (take n bytes) i 0 (omega (arith, length-take n bytes))) (omega arith)
    ]

pub Spells-then : (bytes : List ℕ) (at : ℕ) (x : List ℕ) (mid : ℕ) (y : List ℕ) (end : ℕ) → Spells bytes at x mid → Spells bytes mid y end → Spells bytes at (x ++ y) end
Spells-then bytes at x mid y end p q = record {
  parts = p.parts ∙ ap (λ (l : List ℕ). x ++ l) q.parts ∙ sym (append_assoc x y (drop end bytes));
  place = omega (arith, p.place, q.place, length-append x y);
}

-- what follows a spelling stands after it
pub drop-spelled : (bytes : List ℕ) (at : ℕ) (x rest : List ℕ) → drop at bytes ≡ x ++ rest → drop (at + length x) bytes ≡ rest
drop-spelled bytes at x rest e = sym (drop-drop (length x) at bytes) ∙ ap (λ (l : List ℕ). drop (length x) l) e ∙ drop-prefix x rest
  where
    drop-prefix : (x rest : List ℕ) → drop (length x) (x ++ rest) ≡ rest
    drop-prefix [] rest = refl
    drop-prefix (a ∷ x) rest = drop-prefix x rest

pub Writes-then : (old mid new : List ℕ) (at : ℕ) (x : List ℕ) (p : ℕ) (y : List ℕ) (q : ℕ) → Writes old mid at x p → Writes mid new p y q → Writes old new at (x ++ y) q
Writes-then old mid new at x p y q first second = record {
  prefix = second.prefix ∙ ap (λ (l : List ℕ). l ++ y) first.prefix ∙ append_assoc (take at old) x y;
  back = second.back ∙ tail;
  place = omega (arith, first.place, second.place, length-append x y);
}
  where
    split : p + (q - p) ≡ q
    split = omega (arith, second.place)

    tail : drop q mid ≡ drop q old
    tail = ap (λ (n : ℕ). drop n mid) (sym split) ∙ sym (drop-drop (q - p) p mid) ∙ ap (λ (l : List ℕ). drop (q - p) l) first.back ∙ drop-drop (q - p) p old ∙ ap (λ (n : ℕ). drop n old) split

-- a write to `out[at..at + n]`
pub Writes-mid : (old : List ℕ) (at n k : ℕ) (x : List ℕ) → at + n ≤ length old → length x ≡ n → k ≡ n → Writes old (put_mid at k old x) at x (at + n)
Writes-mid old at n k x fits size same = record {
  prefix = take-put_mid at k old x (at + n) (omega (arith, size)) (omega arith);
  back = drop-put_mid at k old x (at + n) (omega arith) (omega arith) (omega arith);
  place = omega (arith, size);
}

-- what was written over the front is the spelling, and then what stood behind it
pub Writes-whole : (old new x : List ℕ) (end : ℕ) → Writes old new 0 x end → new ≡ x ++ drop end old
Writes-whole old new x end w = sym (take-append-drop end new) ∙ ap (λ (l : List ℕ). l ++ drop end new) w.prefix ∙ ap (λ (l : List ℕ). x ++ l) w.back
