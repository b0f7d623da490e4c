-- Bytes written over those of a file.
use Rattle.std.proofs.Common.{◌≡◌, ◌⊎◌, inl, inr, ℕ, ◌+◌, ◌-◌, ◌<◌, ◌≤◌, min, length-drop, subst, List, [], ◌∷◌, ◌++◌, length, take, drop, replicate, refl, sym, ◌∙◌, ap, arith, length-append}
use Rattle.std.proofs.Math.Seq.{take-append-add}
use Rattle.std.proofs.lemmas.List.{length-take, take-take, drop-drop, drop_at, take_all, drop_all, take-append-le, take-replicate, length-replicate, append-nil}
use Rattle.std.proofs.lemmas.Bool.{cases_lt}
use Rattle.slot_disk.specs.Crash.{overlaid, written, Torn}
use Rattle.slot_disk.specs.Images.{filled, partly_written}

-- zeros after the file, up to the place
prefix : (old : List ℕ) (at n : ℕ) → take at (old ++ replicate (at + n - length old) 0) ≡ take at old ++ replicate (at - length old) 0
prefix old at n = by (cases_lt at (length old))
  where
    zeros : List ℕ
    zeros = replicate (at + n - length old) 0

    past : (k : ℕ) → at ≡ length old + k → take at (old ++ zeros) ≡ take at old ++ replicate (at - length old) 0
    past k is =
        let rest : take k zeros ≡ replicate (at - length old) 0 =
        take-replicate k (at + n - length old) 0 (omega (arith, is)) ∙ ap (λ (m : ℕ). replicate m 0) (let e : k ≡ at - length old = omega (arith, is) in e) in
        ap (λ (m : ℕ). take m (old ++ zeros)) is ∙ take-append-add old zeros k ∙ ap (λ (l : List ℕ). old ++ l) rest ∙ ap (λ (l : List ℕ). l ++ replicate (at - length old) 0) (sym (take_all at old (omega (arith, is))))

    by : (at < length old) ⊎ (length old ≤ at) → take at (old ++ zeros) ≡ take at old ++ replicate (at - length old) 0
    by (inl within) = take-append-le at old zeros (omega arith) ∙ sym (append-nil (take at old)) ∙ ap (λ (m : ℕ). take at old ++ replicate m 0) (let e : 0 ≡ at - length old = omega arith in e)
    by (inr le) = past (at - length old) (omega arith)

-- past the end of the file lies nothing
back : (old : List ℕ) (end : ℕ) → drop end (old ++ replicate (end - length old) 0) ≡ drop end old
back old end = by (cases_lt (length old) end)
  where
    zeros : List ℕ
    zeros = replicate (end - length old) 0

    by : (length old < end) ⊎ (end ≤ length old) → drop end (old ++ zeros) ≡ drop end old
    by (inl past) = drop_all end (old ++ zeros) (omega (arith, length-append old zeros, length-replicate {A = ℕ} (end - length old) 0)) ∙ sym (drop_all end old (omega arith))
    by (inr le) = ap (λ (m : ℕ). drop end (old ++ replicate m 0)) (let e : end - length old ≡ 0 = omega arith in e) ∙ ap (λ (l : List ℕ). drop end l) (append-nil old)

-- a file that was first extended with zeros
overlaid_over : (old : List ℕ) (at : ℕ) (bytes : List ℕ)
    → take at (old ++ replicate (at + length bytes - length old) 0) ++ bytes ++ drop (at + length bytes) (old ++ replicate (at + length bytes - length old) 0) ≡ overlaid old at bytes
overlaid_over old at bytes =
    ap (λ (l : List ℕ). l ++ bytes ++ drop (at + length bytes) (old ++ replicate (at + length bytes - length old) 0)) (prefix old at (length bytes))
    ∙ ap (λ (l : List ℕ). (take at old ++ replicate (at - length old) 0) ++ bytes ++ l) (back old (at + length bytes))

pub written_over : (old : List ℕ) (at : ℕ) (bytes : List ℕ) → 0 < length bytes
    → take at (old ++ replicate (at + length bytes - length old) 0) ++ bytes ++ drop (at + length bytes) (old ++ replicate (at + length bytes - length old) 0) ≡ written old at bytes
written_over old at [] some = absurd (omega (arith, some))
written_over old at (byte ∷ bytes) some = overlaid_over old at (byte ∷ bytes)

pub nothing_written : (old : List ℕ) (at : ℕ) (bytes : List ℕ) → length bytes ≡ 0 → written old at bytes ≡ old
nothing_written old at [] none = refl
nothing_written old at (byte ∷ bytes) none = absurd (omega (arith, none))

-- a write of which a part was done
pub torn_part : (old bytes : List ℕ) (at n part : ℕ) → 0 < n → part ≤ n → length bytes ≡ part
    → Torn at n old (take at (old ++ replicate (at + n - length old) 0) ++ bytes ++ drop (at + part) (old ++ replicate (at + n - length old) 0))
torn_part old bytes at n part some le size = record {
  before = take-append-le m (take at full ++ bytes) rest (omega (arith, length-append (take at full) bytes, prefix_long))
      ∙ take-append-le m (take at full) bytes (omega (arith, prefix_long))
      ∙ take-take m at full (omega arith)
      ∙ take-append-le m old zeros (omega arith);
  after = behind;
  no_shorter = omega (arith, long, whole);
  no_longer = omega (arith, long, whole);
  nothing = λ e. absurd (omega (arith, some, e));
}
  where
    m : ℕ
    m = min at (length old)

    zeros : List ℕ
    zeros = replicate (at + n - length old) 0

    full : List ℕ
    full = old ++ zeros

    rest : List ℕ
    rest = drop (at + part) full

    whole : length full ≡ length old + (at + n - length old)
    whole = omega (arith, length-append old zeros, length-replicate {A = ℕ} (at + n - length old) 0)

    prefix_long : length (take at full) ≡ at
    prefix_long = omega (arith, length-take at full, whole)

    done_long : length (take at full ++ bytes) ≡ at + part
    done_long = omega (arith, length-append (take at full) bytes, prefix_long, size)

    long : length ((take at full ++ bytes) ++ rest) ≡ length full
    long = omega (arith, length-append (take at full ++ bytes) rest, done_long, length-drop (at + part) full, whole, le)

    behind : drop (at + n) ((take at full ++ bytes) ++ rest) ≡ drop (at + n) old
    behind =
        let k = n - part in
        let e : at + part + k ≡ at + n = omega (arith, le) in
        ap (λ (i : ℕ). drop i ((take at full ++ bytes) ++ rest)) (sym e)
        ∙ sym (drop-drop k (at + part) ((take at full ++ bytes) ++ rest))
        ∙ ap (λ (l : List ℕ). drop k l) (drop_at (take at full ++ bytes) rest (at + part) done_long)
        ∙ drop-drop k (at + part) full
        ∙ ap (λ (i : ℕ). drop i full) e
        ∙ back old (at + n)

-- the same law, stated for the file that it leaves
partly_over : (old full new bytes : List ℕ) (at end part : ℕ) → part ≤ length bytes → end ≡ at + length bytes → full ≡ filled old end → new ≡ take at full ++ take part bytes ++ drop (at + length (take part bytes)) full
    → new ≡ overlaid (filled old (at + length bytes)) at (take part bytes)
partly_over old full new bytes at end part le end_is full_is new_is =
    let filled_is : full ≡ filled old (at + length bytes) = full_is ∙ ap (λ (m : ℕ). filled old m) end_is in
    let long : at ≤ length full = omega (arith, length-append old (replicate (end - length old) 0), length-replicate {A = ℕ} (end - length old) 0, ap (λ (l : List ℕ). length l) full_is, end_is) in
    new_is
    ∙ ap (λ (l : List ℕ). l ++ take part bytes ++ drop (at + length (take part bytes)) full) (sym (append-nil (take at full)) ∙ ap (λ (m : ℕ). take at full ++ replicate m 0) (let e : 0 ≡ at - length full = omega (arith, long) in e))
    ∙ ap (λ (l : List ℕ). overlaid l at (take part bytes)) filled_is

pub partly : (old full new bytes : List ℕ) (at end part : ℕ) → 0 < length bytes → part ≤ length bytes → end ≡ at + length bytes → full ≡ filled old end → new ≡ take at full ++ take part bytes ++ drop (at + length (take part bytes)) full
    → new ≡ partly_written old at bytes part
partly old full new [] at end part some = absurd (omega (arith, some))
partly old full new (byte ∷ bytes) at end part some = partly_over old full new (byte ∷ bytes) at end part

pub nothing_partly : (old : List ℕ) (at : ℕ) (bytes : List ℕ) (part : ℕ) → length bytes ≡ 0 → partly_written old at bytes part ≡ old
nothing_partly old at [] part none = refl
nothing_partly old at (byte ∷ bytes) part none = absurd (omega (arith, none))

-- it is one of the files that a crash may leave
pub partly_torn : (old bytes : List ℕ) (at part : ℕ) → part ≤ length bytes → Torn at (length bytes) old (partly_written old at bytes part)
partly_torn old [] at part le = record { before = refl; after = refl; no_shorter = omega arith; no_longer = omega arith; nothing = λ e. refl }
partly_torn old (byte ∷ rest) at part le =
    let bytes : List ℕ = byte ∷ rest in
    let full : List ℕ = filled old (at + length bytes) in
    let size : length (take part bytes) ≡ part = omega (arith, length-take part bytes, le) in
    let long : at ≤ length full = omega (arith, length-append old (replicate (at + length bytes - length old) 0), length-replicate {A = ℕ} (at + length bytes - length old) 0) in
    let same : take at full ++ take part bytes ++ drop (at + part) full ≡ partly_written old at bytes part =
    ap (λ (l : List ℕ). l ++ take part bytes ++ drop (at + part) full) (sym (append-nil (take at full)) ∙ ap (λ (m : ℕ). take at full ++ replicate m 0) (let e : 0 ≡ at - length full = omega (arith, long) in e))
    ∙ ap (λ (k : ℕ). (take at full ++ replicate (at - length full) 0) ++ take part bytes ++ drop (at + k) full) (sym size) in
    subst (λ (l : List ℕ). Torn at (length bytes) old l) same (torn_part old (take part bytes) at (length bytes) part (omega arith) le size)
