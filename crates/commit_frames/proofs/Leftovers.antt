-- What a crash left of a header.
use Rattle.std.proofs.Common.{◌≡◌, ◌⊎◌, inl, inr, ⊎_elim, ℕ, zero, suc, ◌+◌, ◌*◌, ◌-◌, ◌/◌, ◌%◌, ◌^◌, ◌<◌, ◌≤◌, ◌↔◌, Bool, true, false, IsTrue, List, [], ◌∷◌, ◌++◌, length, take, drop, get_or, Option, Some, None, refl, sym, ap, ◌∙◌, subst, arith, length-drop}
use Rattle.std.proofs.Math.Seq.{take-add}
use Rattle.std.proofs.Math.Nat.{pow-suc}
use Rattle.std.proofs.lemmas.Bool.Decides.{nat_tests}
use Rattle.std.proofs.lemmas.List.{get_or-take, get_or-drop, length-take, take_all, append-nil}
use Rattle.commit_frames.specs.Digits.{digits, kept_or, is_digit, below, number_in}
use Rattle.commit_frames.specs.Headers.{front_bytes, header_bytes, mark_byte, rest_of, FitsHeader}
use Rattle.commit_frames.specs.Frames.{IsLostFrom}
use Rattle.commit_frames.specs.declared.header.Header.{Header}
use Rattle.commit_frames.proofs.Numbers.{length-digits}
use Rattle.commit_frames.proofs.Pieces.{length-header, read_back, digits_at, pieces, first_byte}

pub lost_nil : (n : ℕ) (bytes : List ℕ) → length bytes ≡ 0 → IsLostFrom (digits (length bytes) n) bytes
lost_nil n bytes none = record { size = sym (length-digits (length bytes) n); each = λ i lt. absurd (omega (arith, lt, none, length-digits (length bytes) n)) }

pub lost_cons : (w l : ℕ) (ws ls : List ℕ) → (l ≡ 0) ⊎ (l ≡ w) → IsLostFrom ws ls → IsLostFrom (w ∷ ws) (l ∷ ls)
lost_cons w l ws ls first others = record { size = ap suc others.size; each = at }
  where
    at : (i : ℕ) → i < length (w ∷ ws) → (get_or (l ∷ ls) i 0 ≡ 0) ⊎ (get_or (l ∷ ls) i 0 ≡ get_or (w ∷ ws) i 0)
    at zero lt = first
    at (suc i) lt = others.each i (omega arith)

pub lost_rest : (w l : ℕ) (ws ls : List ℕ) → IsLostFrom (w ∷ ws) (l ∷ ls) → IsLostFrom ws ls
lost_rest w l ws ls lost = record { size = (let e : length ls ≡ length ws = omega (arith, lost.size) in e); each = λ i lt. lost.each (suc i) (omega arith) }

lost_append : (a x b y : List ℕ) → IsLostFrom a x → IsLostFrom b y → IsLostFrom (a ++ b) (x ++ y)
lost_append [] [] b y first second = second
lost_append [] (l ∷ ls) b y first second = absurd (let e : suc (length ls) ≡ 0 = first.size in omega (arith, e))
lost_append (w ∷ ws) [] b y first second = absurd (let e : 0 ≡ suc (length ws) = first.size in omega (arith, e))
lost_append (w ∷ ws) (l ∷ ls) b y first second = lost_cons w l (ws ++ b) (ls ++ y) (first.each 0 (omega arith)) (lost_append ws ls b y (lost_rest w l ws ls first) second)

-- a piece of what is left
lost_piece : (whole left : List ℕ) (i n : ℕ) → i + n ≤ length whole → IsLostFrom whole left → IsLostFrom (take n (drop i whole)) (take n (drop i left))
lost_piece whole left i n long lost =
    let a : length (take n (drop i whole)) ≡ n = omega (arith, long, length-take n (drop i whole), length-drop i whole) in
    let b : length (take n (drop i left)) ≡ n = omega (arith, long, lost.size, length-take n (drop i left), length-drop i left) in
    record {
      size = b ∙ sym a;
      each = λ k lt.
          let small : k < n = omega (arith, lt, a) in
          let there : get_or (take n (drop i left)) k 0 ≡ get_or left (i + k) 0 = get_or-take n (drop i left) k 0 small ∙ get_or-drop i left k 0 in
          let was : get_or (take n (drop i whole)) k 0 ≡ get_or whole (i + k) 0 = get_or-take n (drop i whole) k 0 small ∙ get_or-drop i whole k 0 in
          ⊎_elim (λ (z : get_or left (i + k) 0 ≡ 0). inl (there ∙ z)) (λ (e : get_or left (i + k) 0 ≡ get_or whole (i + k) 0). inr (there ∙ e ∙ sym was)) (lost.each (i + k) (omega (arith, small, long)));
    }

-- the rest of a slice with a first byte
pub rest_slice : (b : ℕ) (bs : List ℕ) → take (length (b ∷ bs) - 1) (drop 1 (b ∷ bs)) ≡ bs
rest_slice b bs = take_all (length (b ∷ bs) - 1) bs (omega arith)

-- one digit more, of which the byte is there or 0
pub may_be_more : (bytes : List ℕ) (n : ℕ) (r : Bool) → 1 ≤ length bytes → (get_or bytes 0 0 ≡ 0) ⊎ (get_or bytes 0 0 ≡ 128 + n % 128)
    → (IsTrue r ↔ IsLostFrom (digits (length (take (length bytes - 1) (drop 1 bytes))) (n / 128)) (take (length bytes - 1) (drop 1 bytes))) → IsTrue r ↔ IsLostFrom (digits (length bytes) n) bytes
unfolding digits
may_be_more [] n r some first others = absurd (omega arith)
may_be_more (b ∷ bs) n r some first others =
    let on_rest : IsTrue r ↔ IsLostFrom (digits (length bs) (n / 128)) bs = subst (λ (l : List ℕ). IsTrue r ↔ IsLostFrom (digits (length l) (n / 128)) l) (rest_slice b bs) others in
    (λ t. lost_cons (128 + n % 128) b (digits (length bs) (n / 128)) bs first (on_rest.0 t), λ lost. on_rest.1 (lost_rest (128 + n % 128) b (digits (length bs) (n / 128)) bs lost))

pub may_be_first : (bytes : List ℕ) (n : ℕ) → 1 ≤ length bytes → IsLostFrom (digits (length bytes) n) bytes → (get_or bytes 0 0 ≡ 0) ⊎ (get_or bytes 0 0 ≡ 128 + n % 128)
unfolding digits
may_be_first [] n some lost = absurd (omega arith)
may_be_first (b ∷ bs) n some lost = lost.each 0 (omega arith)

-- the digits that were read, with one in place of each that was lost
kept_same : (lost byte : ℕ) → (byte ≡ 0) ⊎ (kept_or lost byte ≡ byte)
kept_same lost zero = inl refl
kept_same lost (suc n) = inr (grind (arith, nat_tests))

digit_range : (d : ℕ) → is_digit d ≡ true → (128 ≤ d) × (d < 256)
digit_range d is = (grind (arith, nat_tests), grind (arith, nat_tests))

pub filled : (lost : ℕ) (bytes : List ℕ) (n : ℕ) → number_in lost bytes ≡ Some n → IsLostFrom (digits (length bytes) n) bytes
unfolding digits
filled lost [] n is = lost_nil n [] refl
filled lost (byte ∷ bytes) n is = by (is_digit (kept_or lost byte)) (number_in lost bytes) refl refl is (filled lost bytes)
  where
    by : (t : Bool) (o : Option ℕ) → is_digit (kept_or lost byte) ≡ t → number_in lost bytes ≡ o → below t (kept_or lost byte) o ≡ Some n → ((q : ℕ) → number_in lost bytes ≡ Some q → IsLostFrom (digits (length bytes) q) bytes)
        → IsLostFrom ((128 + n % 128) ∷ digits (length bytes) (n / 128)) (byte ∷ bytes)
    by true (Some q) digit others value higher =
        let d = digit_range (kept_or lost byte) digit in
        let v : kept_or lost byte - 128 + 128 * q ≡ n = cc in
        let low : 128 + n % 128 ≡ kept_or lost byte = omega (arith, v, d.0, d.1) in
        let high : n / 128 ≡ q = omega (arith, v, d.0, d.1) in
        lost_cons (128 + n % 128) byte (digits (length bytes) (n / 128)) bytes (⊎_elim (λ z. inl z) (λ (e : kept_or lost byte ≡ byte). inr (sym e ∙ sym low)) (kept_same lost byte))
        (subst (λ (m : ℕ). IsLostFrom (digits (length bytes) m) bytes) (sym high) (higher q others))
    by true None digit others value higher = absurd (cc)
    by false o digit others value higher = absurd (cc)

-- the number that is read of digits of which some were lost
pub record IsBounded (lost n m : ℕ) : Type 0 where
  pub most : lost ≡ 255 → n ≤ m
  pub least : lost ≡ 128 → m ≤ n

kept_digit : (lost byte d : ℕ) → 128 ≤ lost → lost < 256 → 128 ≤ d → d < 256 → (byte ≡ 0) ⊎ (byte ≡ d) → (is_digit (kept_or lost byte) ≡ true) × ((kept_or lost byte ≡ lost) ⊎ (kept_or lost byte ≡ d))
kept_digit lost byte d low high low' high' (inl e) = (grind (arith, nat_tests), inl (grind (arith, nat_tests)))
kept_digit lost byte d low high low' high' (inr e) = (grind (arith, nat_tests), inr (grind (arith, nat_tests)))

pub lost_number : (lost k n : ℕ) (bytes : List ℕ) → 128 ≤ lost → lost < 256 → n < 128 ^ k → IsLostFrom (digits k n) bytes → (m : ℕ) × (number_in lost bytes ≡ Some m) × IsBounded lost n m
unfolding digits
lost_number lost zero n [] low high fits left = let e : n ≡ 0 = omega arith in (0, refl, record { most = λ is. omega (arith, e); least = λ is. omega arith })
lost_number lost zero n (b ∷ bs) low high fits left = absurd (let e : suc (length bs) ≡ 0 = left.size in omega (arith, e))
lost_number lost (suc k) n [] low high fits left = absurd (let e : 0 ≡ suc (length (digits k (n / 128))) = left.size in omega (arith, e))
lost_number lost (suc k) n (b ∷ bs) low high fits left =
    let room : n / 128 < 128 ^ k = omega (arith, pow-suc 128 k) in
    let higher = lost_number lost k (n / 128) bs low high room (lost_rest (128 + n % 128) b (digits k (n / 128)) bs left) in
    let kept = kept_digit lost b (128 + n % 128) low high (omega arith) (omega arith) (left.each 0 (omega arith)) in
    let value : number_in lost (b ∷ bs) ≡ Some (kept_or lost b - 128 + 128 * higher.0) =
    ap (λ (t : Bool). below t (kept_or lost b) (number_in lost bs)) kept.0 ∙ ap (λ (o : Option ℕ). below true (kept_or lost b) o) higher.1 in (
      kept_or lost b - 128 + 128 * higher.0,
      value,
      record {
        most = λ is. ⊎_elim (λ (e : kept_or lost b ≡ lost). omega (arith, e, is, higher.2.most is)) (λ (e : kept_or lost b ≡ 128 + n % 128). omega (arith, e, higher.2.most is)) kept.1;
        least = λ is. ⊎_elim (λ (e : kept_or lost b ≡ lost). omega (arith, e, is, higher.2.least is)) (λ (e : kept_or lost b ≡ 128 + n % 128). omega (arith, e, higher.2.least is)) kept.1;
      },
    )

-- a header in pieces
in_pieces : (bytes : List ℕ) → length bytes ≡ 44
    → (get_or bytes 0 0 ∷ (take 9 (drop 1 bytes) ++ (take 9 (drop 10 bytes) ++ (take 5 (drop 19 bytes) ++ (take 5 (drop 24 bytes) ++ (take 5 (drop 29 bytes) ++ take 5 (drop 34 bytes))))))) ++ take 5 (drop 39 bytes) ≡ bytes
in_pieces bytes size =
    let u = take 5 (drop 29 bytes) in
    let v = take 5 (drop 34 bytes) in
    let d = take 5 (drop 24 bytes) in
    let c = take 5 (drop 19 bytes) in
    let b = take 9 (drop 10 bytes) in
    let a = take 9 (drop 1 bytes) in
    let twins : take 10 (drop 29 bytes) ≡ u ++ v = pieces bytes 29 5 5 in
    let some : take 15 (drop 24 bytes) ≡ d ++ (u ++ v) = pieces bytes 24 5 10 ∙ ap (λ (l : List ℕ). d ++ l) twins in
    let last : take 20 (drop 19 bytes) ≡ c ++ (d ++ (u ++ v)) = pieces bytes 19 5 15 ∙ ap (λ (l : List ℕ). c ++ l) some in
    let more : take 29 (drop 10 bytes) ≡ b ++ (c ++ (d ++ (u ++ v))) = pieces bytes 10 9 20 ∙ ap (λ (l : List ℕ). b ++ l) last in
    let all : take 38 (drop 1 bytes) ≡ a ++ (b ++ (c ++ (d ++ (u ++ v)))) = pieces bytes 1 9 29 ∙ ap (λ (l : List ℕ). a ++ l) more in
    let front : take 39 bytes ≡ get_or bytes 0 0 ∷ (a ++ (b ++ (c ++ (d ++ (u ++ v))))) =
    take-add 1 38 bytes ∙ ap (λ (l : List ℕ). l ++ take 38 (drop 1 bytes)) (first_byte bytes (omega (arith, size))) ∙ ap (λ (l : List ℕ). get_or bytes 0 0 ∷ l) all in
    let whole : take 44 bytes ≡ bytes = take_all 44 bytes (omega (arith, size)) in
    ap (λ (l : List ℕ). l ++ take 5 (drop 39 bytes)) (sym front) ∙ sym (take-add 39 5 bytes) ∙ whole

-- the pieces of what is left of a header
pub record ArePieces (h : Header) (bytes : List ℕ) : Type 0 where
  pub mark : (get_or bytes 0 0 ≡ 0) ⊎ (get_or bytes 0 0 ≡ mark_byte h.mark)
  pub serial : IsLostFrom (digits 9 h.serial) (take 9 (drop 1 bytes))
  pub first : IsLostFrom (digits 9 h.first) (take 9 (drop 10 bytes))
  pub size : IsLostFrom (digits 5 h.length) (take 5 (drop 19 bytes))
  pub zeros : IsLostFrom (digits 5 h.zeros) (take 5 (drop 24 bytes))
  pub size_twin : IsLostFrom (digits 5 (rest_of h.length)) (take 5 (drop 29 bytes))
  pub zeros_twin : IsLostFrom (digits 5 (rest_of h.zeros)) (take 5 (drop 34 bytes))
  pub check : IsLostFrom (digits 5 h.check) (take 5 (drop 39 bytes))

pub lost_header : (bytes : List ℕ) (h : Header) → length bytes ≡ 44 → ArePieces h bytes → IsLostFrom (header_bytes h) bytes
unfolding header_bytes front_bytes
lost_header bytes h size p =
    subst (λ (l : List ℕ). IsLostFrom (header_bytes h) l) (in_pieces bytes size)
    (lost_append _ _ _ _
    (lost_cons (mark_byte h.mark) (get_or bytes 0 0) _ _ p.mark
    (lost_append _ _ _ _ p.serial
    (lost_append _ _ _ _ p.first
    (lost_append _ _ _ _ p.size
    (lost_append _ _ _ _ p.zeros
    (lost_append _ _ _ _ p.size_twin p.zeros_twin)))))) p.check)

-- the digits at a place of a header, and what is left of them
one_piece : (h : Header) (bytes : List ℕ) (i k n : ℕ) → i + k ≤ 44 → IsLostFrom (header_bytes h) bytes → number_in 0 (take k (drop i (header_bytes h))) ≡ Some n → IsLostFrom (digits k n) (take k (drop i bytes))
one_piece h bytes i k n le lost is =
    let whole = header_bytes h in
    let long : i + k ≤ length whole = omega (arith, le, length-header h) in
    subst (λ (l : List ℕ). IsLostFrom l (take k (drop i bytes))) (digits_at whole i k n long is) (lost_piece whole bytes i k long lost)

pub header_pieces : (h : Header) (bytes : List ℕ) → FitsHeader h → IsLostFrom (header_bytes h) bytes → ArePieces h bytes
header_pieces h bytes fits lost =
    let whole = header_bytes h in
    let read = read_back whole h [] fits (sym (append-nil whole)) in
    record {
      mark = ⊎_elim (λ z. inl z) (λ (e : get_or bytes 0 0 ≡ get_or whole 0 0). inr (e ∙ read.mark)) (lost.each 0 (omega (arith, length-header h)));
      serial = one_piece h bytes 1 9 h.serial (omega arith) lost read.serial;
      first = one_piece h bytes 10 9 h.first (omega arith) lost read.first;
      size = one_piece h bytes 19 5 h.length (omega arith) lost read.size;
      zeros = one_piece h bytes 24 5 h.zeros (omega arith) lost read.zeros;
      size_twin = one_piece h bytes 29 5 (rest_of h.length) (omega arith) lost read.size_twin;
      zeros_twin = one_piece h bytes 34 5 (rest_of h.zeros) (omega arith) lost read.zeros_twin;
      check = one_piece h bytes 39 5 h.check (omega arith) lost read.check;
    }

pub none_some : {A : Type 0} (o : Option A) (x : A) → None ≡ o → o ≡ Some x → ⊥
none_some o x a b = absurd (cc)

pub same_some : (o : Option ℕ) (x y : ℕ) → Some x ≡ o → o ≡ Some y → x ≡ y
same_some o x y a b = cc

-- a piece, whose length is known
pub of_size : (bytes : List ℕ) (i k n m : ℕ) → i + k ≤ length bytes → n ≡ m → IsLostFrom (digits k n) (take k (drop i bytes)) → IsLostFrom (digits (length (take k (drop i bytes))) m) (take k (drop i bytes))
of_size bytes i k n m long same lost =
    let size : k ≡ length (take k (drop i bytes)) = omega (arith, long, length-take k (drop i bytes), length-drop i bytes) in
    subst (λ (j : ℕ). IsLostFrom (digits j m) (take k (drop i bytes))) size (subst (λ (j : ℕ). IsLostFrom (digits k j) (take k (drop i bytes))) same lost)

pub with_size : (bytes : List ℕ) (i k n : ℕ) → i + k ≤ length bytes → IsLostFrom (digits (length (take k (drop i bytes))) n) (take k (drop i bytes)) → IsLostFrom (digits k n) (take k (drop i bytes))
with_size bytes i k n long lost =
    let size : length (take k (drop i bytes)) ≡ k = omega (arith, long, length-take k (drop i bytes), length-drop i bytes) in
    subst (λ (j : ℕ). IsLostFrom (digits j n) (take k (drop i bytes))) size lost

-- what was read of a number
pub record WasRead (lost : ℕ) (bytes : List ℕ) (i k n : ℕ) : Type 0 where
  pub value : Some n ≡ number_in lost (take k (drop i bytes))
  pub below : n < 128 ^ length (take k (drop i bytes))

pub piece_read : (lost : ℕ) (bytes : List ℕ) (i k n : ℕ) → i + k ≤ length bytes → WasRead lost bytes i k n → IsLostFrom (digits k n) (take k (drop i bytes))
piece_read lost bytes i k n long read = with_size bytes i k n long (filled lost (take k (drop i bytes)) n (sym read.value))

pub header_there : (bytes : List ℕ) (h : Header) → length bytes ≡ 44 → FitsHeader h → ArePieces h bytes → (g : Header) × FitsHeader g × (g.serial ≡ h.serial) × (g.length ≡ h.length) × (g.zeros ≡ h.zeros) × IsLostFrom (header_bytes g) bytes
header_there bytes h size fits pieces = (h, fits, refl, refl, refl, lost_header bytes h size pieces)
