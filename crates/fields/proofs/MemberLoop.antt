-- Members, read and written one after the other, as loops do.
use Rattle.std.proofs.Common.{◌≡◌, ℕ, suc, ◌-◌, ◌+◌, ◌*◌, ◌≤◌, ◌<◌, List, [], ◌∷◌, ◌++◌, length, get_or, take, set, Result, Ok, Err, refl, sym, ap, subst, ◌∙◌, append_assoc, arith, length-append}
use Rattle.std.specs.List.{flat_map}
use Rattle.std.proofs.lemmas.List.{append-nil, flat_map_more, take_more, take_more_set, take_all}
use Rattle.byteorder.specs.Endian.{big_bytes}
use Rattle.byteorder.specs.Numbers.{length-bytes_high_first}
use Rattle.fields.specs.declared.field_error.FieldError.{FieldError}
use Rattle.fields.specs.Places.{Writes}
use Rattle.ens_base.specs.Results.{◌>>=◌}
use Rattle.fields.proofs.ByteLaws.{Writes-then}
use Rattle.fields.specs.Views.{member_at, members_at}

-- what was read before, and what is still read
abbrev pub with_prefix : List ℕ → Result (List ℕ × ℕ) FieldError → Result (List ℕ × ℕ) FieldError
with_prefix prefix read = read >>= λ x. Ok (prefix ++ x.0, x.1)

regroup : (prefix : List ℕ) (m : ℕ) (read : Result (List ℕ × ℕ) FieldError) → with_prefix prefix (read >>= λ x. Ok (m ∷ x.0, x.1)) ≡ with_prefix (prefix ++ m ∷ []) read
regroup prefix m (Ok x) = ap (λ (ms : List ℕ). Ok (ms, x.1)) (sym (append_assoc prefix (m ∷ []) x.0))
regroup prefix m (Err e) = refl

pub goes_on : (members : List ℕ) (i low m place after : ℕ) (bytes : List ℕ) (total : Result (List ℕ × ℕ) FieldError) → i < length members → member_at low bytes place ≡ Ok (m, after)
    → with_prefix (take i members) (members_at (length members - i) low bytes place) ≡ total → with_prefix (take (i + 1) (set members i m)) (members_at (length members - (i + 1)) m bytes after) ≡ total
unfolding members_at
goes_on members i low m place after bytes total lt h so_far =
    let k : length members - i ≡ suc (length members - (i + 1)) = omega arith in
    let prefix : take (i + 1) (set members i m) ≡ take i members ++ m ∷ [] = take_more_set members i m lt in
    let one : with_prefix (take i members) (members_at (length members - i) low bytes place) ≡ with_prefix (take i members ++ m ∷ []) (members_at (length members - (i + 1)) m bytes after) = rw (k, h) (regroup (take i members) m (members_at (length members - (i + 1)) m bytes after)) in
    rw prefix (sym one ∙ so_far)

pub stops : (members : List ℕ) (i low place : ℕ) (bytes : List ℕ) (e : FieldError) (total : Result (List ℕ × ℕ) FieldError) → i < length members → member_at low bytes place ≡ Err e
    → with_prefix (take i members) (members_at (length members - i) low bytes place) ≡ total → total ≡ Err e
unfolding members_at
stops members i low place bytes e total lt h so_far =
    let k : length members - i ≡ suc (length members - (i + 1)) = omega arith in
    let one : with_prefix (take i members) (members_at (length members - i) low bytes place) ≡ Err e = rw (k, h) refl in
    sym so_far ∙ one

pub is_done : (members : List ℕ) (i low place : ℕ) (bytes : List ℕ) (total : Result (List ℕ × ℕ) FieldError) → length members ≤ i
    → with_prefix (take i members) (members_at (length members - i) low bytes place) ≡ total → total ≡ Ok (members, place)
unfolding members_at
is_done members i low place bytes total le so_far =
    let k : length members - i ≡ 0 = omega arith in
    let one : with_prefix (take i members) (members_at (length members - i) low bytes place) ≡ Ok (members, place) = rw (k, take_all i members le) (ap (λ (ms : List ℕ). Ok (ms, place)) (append-nil members)) in
    sym so_far ∙ one

pub length-members : (ms : List ℕ) → length (flat_map (big_bytes 4) ms) ≡ 4 * length ms
length-members [] = refl
length-members (m ∷ ms) = omega (arith, length-members ms, length-append (big_bytes 4 m) (flat_map (big_bytes 4) ms), length-bytes_high_first 4 m)

-- one member more was written
pub written_more : (old mid new members : List ℕ) (at place i x after : ℕ) → i < length members → x ≡ get_or members i 0
    → Writes old mid at (length members ∷ flat_map (big_bytes 4) (take i members)) place → Writes mid new place (big_bytes 4 x) after
    → Writes old new at (length members ∷ flat_map (big_bytes 4) (take (i + 1) members)) after
written_more old mid new members at place i x after lt is before here =
    let m = get_or members i 0 in
    let prefix : take (i + 1) members ≡ take i members ++ m ∷ [] = take_more members i 0 lt in
    let spelled : flat_map (big_bytes 4) (take i members) ++ big_bytes 4 m ≡ flat_map (big_bytes 4) (take (i + 1) members) = flat_map_more (big_bytes 4) [] (take i members) m ∙ ap (flat_map (big_bytes 4)) (sym prefix) in
    subst (λ (l : List ℕ). Writes old new at (length members ∷ l) after) spelled (Writes-then old mid new at (length members ∷ flat_map (big_bytes 4) (take i members)) place (big_bytes 4 m) after before (subst (λ (n : ℕ). Writes mid new place (big_bytes 4 n) after) is here))
