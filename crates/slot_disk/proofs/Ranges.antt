-- Writes that lie in one slot.
use Rattle.std.proofs.Common.{◌≡◌, ◌⊎◌, inl, inr, ℕ, ◌+◌, ◌-◌, ◌<◌, ◌≤◌, min, List, [], ◌∷◌, ◌++◌, length, take, drop, replicate, Option, Bool, true, false, refl, sym, ◌∙◌, ap, subst, arith, length-append, append_assoc}
use Rattle.std.proofs.lemmas.List.{drop-drop, drop_at, drop_all, take_at, take-append-drop, append-nil, length-take}
use Rattle.std.proofs.lemmas.Bool.{cases_lt}
use Rattle.slot_disk.specs.Crash.{written, Torn, LeavesOnly, IsOn}
use Rattle.slot_disk.specs.Slots.{start, shut, shut_at, body}
use Rattle.slot_disk.specs.Saving.{with_gate_closed}
use Rattle.slot_disk.specs.Outcomes.{length-prefix, torn_whole}
use Rattle.slot_disk.specs.declared.slot.Slot.{Slot}
use Rattle.slot_disk.proofs.SlotFiles.{torn_before, torn_behind}
use Rattle.slot_disk.proofs.Saves.{length-body}

pub torn_same : (at n : ℕ) (file : List ℕ) → Torn at n file file
torn_same at n file = record { before = refl; after = refl; no_shorter = omega arith; no_longer = omega arith; nothing = λ e. refl }

-- one write after the other, in a range that has both
pub torn_both : (lo m at n at' n' : ℕ) (a b c : List ℕ) → lo ≤ at → at + n ≤ lo + m → lo ≤ at' → at' + n' ≤ lo + m → Torn at n a b → Torn at' n' b c → Torn lo m a c
torn_both lo m at n at' n' a b c from to from' to' first second = record {
  before = torn_before k at' n' b c second (omega (arith, first.no_shorter)) ∙ torn_before k at n a b first (omega arith);
  after = torn_behind (lo + m) at' n' b c second to' ∙ torn_behind (lo + m) at n a b first to;
  no_shorter = omega (arith, first.no_shorter, second.no_shorter);
  no_longer = omega (arith, first.no_longer, second.no_longer);
  nothing = λ e. second.nothing (omega (arith, e, from, to, from', to')) ∙ first.nothing (omega (arith, e, from, to, from', to'));
}
  where
    k : ℕ
    k = min lo (length a)

-- the ranges of the three writes of a save
pub in_gate : (s : Slot) (n : ℕ) (file c : List ℕ) → Torn (start s) 1 file c → Torn (start s) (1 + n) file c
in_gate s n file c torn = torn_both (start s) (1 + n) (start s) 1 (start s) (1 + n) file c c (omega arith) (omega arith) (omega arith) (omega arith) torn (torn_same (start s) (1 + n) c)

pub in_body : (s : Slot) (n : ℕ) (file mid c : List ℕ) → Torn (start s) 1 file mid → Torn (start s + 1) n mid c → Torn (start s) (1 + n) file c
in_body s n file mid c first second = torn_both (start s) (1 + n) (start s) 1 (start s + 1) n file mid c (omega arith) (omega arith) (omega arith) (omega arith) first second

pub in_last : (s : Slot) (n : ℕ) (file mid c : List ℕ) → Torn (start s) (1 + n) file mid → Torn (start s) 1 mid c → Torn (start s) (1 + n) file c
in_last s n file mid c first second = torn_both (start s) (1 + n) (start s) (1 + n) (start s) 1 file mid c (omega arith) (omega arith) (omega arith) (omega arith) first second

pub gate_torn : (file : List ℕ) (s : Slot) (is_shut : Bool) → Torn (start s) 1 file (with_gate_closed file s is_shut)
gate_torn file s true = torn_same (start s) 1 file
gate_torn file s false = torn_whole file (start s) (0 ∷ [])

-- the range of a slot, by the length of its record
pub slot_range : (s t : Slot) (spelled bytes : List ℕ) (serial : ℕ) (file c : List ℕ) → s ≡ t → spelled ≡ body serial bytes → Torn (start s) (1 + length spelled) file c → Torn (start t) (11 + length bytes) file c
slot_range s t spelled bytes serial file c is so torn =
    let size : 1 + length spelled ≡ 11 + length bytes = omega (arith, ap (λ (l : List ℕ). length l) so, length-body serial bytes) in
    subst (λ (u : Slot). Torn (start u) (11 + length bytes) file c) is (subst (λ (n : ℕ). Torn (start s) n file c) size torn)

-- a disk on which nothing was done
module _ {D : Type 0} (seen : D → Option (List ℕ)) (may_leave : D → List ℕ → Type 0) (moment : D → ℕ) (left_since : D → ℕ → List ℕ → Type 0) (only_now : (d : D) (c : List ℕ) → left_since d (moment d) c → may_leave d c) where
  pub still : (disk : D) (file : List ℕ) (P : List ℕ → Type 0) → IsOn seen may_leave disk file → P file → LeavesOnly moment left_since disk disk P
  still disk file P on holds = record {
    later = omega arith;
    each = λ c left. subst P (sym (on.only c (only_now disk c left))) holds;
    before = λ t c le left. inl left;
  }

-- a write behind the front of a file
written_behind : (prefix rest xs : List ℕ) (at : ℕ) → length prefix ≡ at → written (prefix ++ rest) at xs ≡ (prefix ++ xs) ++ drop (length xs) rest
written_behind prefix rest [] at size = ap (λ (l : List ℕ). l ++ rest) (sym (append-nil prefix))
written_behind prefix rest (byte ∷ bytes) at size =
    ap (λ (l : List ℕ). (l ++ (byte ∷ bytes)) ++ drop (at + length (byte ∷ bytes)) (prefix ++ rest)) begins
    ∙ ap (λ (l : List ℕ). (prefix ++ (byte ∷ bytes)) ++ l) ends
  where
    none : at - length (prefix ++ rest) ≡ 0
    none = omega (arith, size, length-append prefix rest)

    begins : take at (prefix ++ rest) ++ replicate (at - length (prefix ++ rest)) 0 ≡ prefix
    begins = ap (λ (n : ℕ). take at (prefix ++ rest) ++ replicate n 0) none ∙ append-nil (take at (prefix ++ rest)) ∙ take_at prefix rest at size

    ends : drop (at + length (byte ∷ bytes)) (prefix ++ rest) ≡ drop (length (byte ∷ bytes)) rest
    ends = sym (drop-drop (length (byte ∷ bytes)) at (prefix ++ rest)) ∙ ap (λ (l : List ℕ). drop (length (byte ∷ bytes)) l) (drop_at prefix rest at size)

-- the body behind a gate, and then the gate
opened : (prefix rest xs : List ℕ) (gate at : ℕ) → length prefix ≡ at → written (written (prefix ++ gate ∷ rest) (at + 1) xs) at (1 ∷ []) ≡ (prefix ++ 1 ∷ xs) ++ drop (length xs) rest
opened prefix rest xs gate at size =
    ap (λ (l : List ℕ). written (written l (at + 1) xs) at (1 ∷ [])) (sym (append_assoc prefix (gate ∷ []) rest))
    ∙ ap (λ (l : List ℕ). written l at (1 ∷ [])) (written_behind (prefix ++ gate ∷ []) rest xs (at + 1) longer)
    ∙ ap (λ (l : List ℕ). written l at (1 ∷ [])) (ap (λ (l : List ℕ). l ++ last) (append_assoc prefix (gate ∷ []) xs) ∙ append_assoc prefix (gate ∷ xs) last)
    ∙ written_behind prefix (gate ∷ xs ++ last) (1 ∷ []) at size
    ∙ append_assoc prefix (1 ∷ []) (xs ++ last)
    ∙ sym (append_assoc prefix (1 ∷ xs) last)
  where
    last : List ℕ
    last = drop (length xs) rest

    longer : length (prefix ++ gate ∷ []) ≡ at + 1
    longer = omega (arith, size, length-append prefix (gate ∷ []))

abbrev prefix_of : List ℕ → ℕ → List ℕ
prefix_of file at = take at file ++ replicate (at - length file) 0

-- the whole slot in one write
whole : (file mid xs : List ℕ) (gate at : ℕ) → mid ≡ prefix_of file at ++ gate ∷ drop (at + 1) file → written (written mid (at + 1) xs) at (1 ∷ []) ≡ written file at (1 ∷ xs)
whole file mid xs gate at is =
    ap (λ (l : List ℕ). written (written l (at + 1) xs) at (1 ∷ [])) is
    ∙ opened (prefix_of file at) (drop (at + 1) file) xs gate at (length-prefix file at)
    ∙ ap (λ (l : List ℕ). (prefix_of file at ++ 1 ∷ xs) ++ l) (drop-drop (length xs) (at + 1) file ∙ ap (λ (n : ℕ). drop n file) (let e : at + 1 + length xs ≡ at + length (1 ∷ xs) = omega arith in e))

shut_long : (file : List ℕ) (at : ℕ) → shut (drop at file) ≡ true → at < length file
shut_long file at closed = by (cases_lt at (length file))
  where
    never : false ≡ true → ⊥
    never e = grind (arith, e)

    by : (at < length file) ⊎ (length file ≤ at) → at < length file
    by (inl lt) = lt
    by (inr le) = absurd (never (sym (ap shut (drop_all at file le)) ∙ closed))

-- a gate that is present
present : (file : List ℕ) (at : ℕ) → at < length file → (gate : ℕ) × (file ≡ prefix_of file at ++ gate ∷ drop (at + 1) file)
present file at lt = by (drop at file) refl
  where
    prefix_is : take at file ≡ prefix_of file at
    prefix_is = sym (ap (λ (n : ℕ). take at file ++ replicate n 0) (let e : at - length file ≡ 0 = omega arith in e) ∙ append-nil (take at file))

    by : (l : List ℕ) → drop at file ≡ l → (gate : ℕ) × (file ≡ prefix_of file at ++ gate ∷ drop (at + 1) file)
    by [] is = absurd (omega (arith, lt, length-take at file, ap length (take-append-drop at file), ap length is, length-append (take at file) (drop at file)))
    by (gate ∷ rest) is =
        let behind : rest ≡ drop (at + 1) file = ap (λ (l : List ℕ). drop 1 l) (sym is) ∙ drop-drop 1 at file in
        (gate, sym (take-append-drop at file) ∙ ap (λ (l : List ℕ). l ++ drop at file) prefix_is ∙ ap (λ (l : List ℕ). prefix_of file at ++ l) (is ∙ ap (λ (l : List ℕ). gate ∷ l) behind))

-- the three writes of a save make one slot
pub slot_in_one : (file xs : List ℕ) (s : Slot) (is_shut : Bool) → is_shut ≡ shut_at file s → written (written (with_gate_closed file s is_shut) (start s + 1) xs) (start s) (1 ∷ []) ≡ written file (start s) (1 ∷ xs)
slot_in_one file xs s true gate = let there = present file (start s) (shut_long file (start s) (sym gate)) in whole file file xs there.0 (start s) there.1
slot_in_one file xs s false gate = whole file (written file (start s) (0 ∷ [])) xs 0 (start s) (append_assoc (prefix_of file (start s)) (0 ∷ []) (drop (start s + 1) file))
