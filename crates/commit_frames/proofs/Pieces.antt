-- Where the numbers of a header stand.
use Rattle.std.proofs.Common.{◌≡◌, ℕ, ◌+◌, ◌<◌, ◌≤◌, ◌^◌, List, [], ◌∷◌, ◌++◌, length, take, drop, get_or, Some, refl, sym, ap, ◌∙◌, subst, arith, append_assoc, length-append}
use Rattle.std.proofs.Math.Seq.{take-add}
use Rattle.std.proofs.lemmas.List.{take_at, drop_at, drop-drop, length-take, length-drop}
use Rattle.commit_frames.specs.Digits.{digits, number_in}
use Rattle.commit_frames.specs.Headers.{front_bytes, header_bytes, mark_byte, rest_of, FitsHeader}
use Rattle.commit_frames.specs.declared.header.Header.{Header}
use Rattle.commit_frames.specs.declared.mark.Mark.{Mark}
use Rattle.commit_frames.specs.declared.mark.Mark.TheVariants as marks
use Rattle.commit_frames.proofs.Numbers.{length-digits, number_digits, digits_number}

pub length-front : (m : Mark) (serial first size zeros : ℕ) → length (front_bytes m serial first size zeros) ≡ 39
unfolding front_bytes
length-front m serial first size zeros =
    omega (
      arith,
      length-append (digits 9 serial) (digits 9 first ++ (digits 5 size ++ (digits 5 zeros ++ (digits 5 (rest_of size) ++ digits 5 (rest_of zeros))))),
      length-append (digits 9 first) (digits 5 size ++ (digits 5 zeros ++ (digits 5 (rest_of size) ++ digits 5 (rest_of zeros)))),
      length-append (digits 5 size) (digits 5 zeros ++ (digits 5 (rest_of size) ++ digits 5 (rest_of zeros))),
      length-append (digits 5 zeros) (digits 5 (rest_of size) ++ digits 5 (rest_of zeros)),
      length-append (digits 5 (rest_of size)) (digits 5 (rest_of zeros)),
      length-digits 9 serial,
      length-digits 9 first,
      length-digits 5 size,
      length-digits 5 zeros,
      length-digits 5 (rest_of size),
      length-digits 5 (rest_of zeros),
    )

pub length-header : (h : Header) → length (header_bytes h) ≡ 44
unfolding header_bytes
length-header h = omega (arith, length-front h.mark h.serial h.first h.length h.zeros, length-append (front_bytes h.mark h.serial h.first h.length h.zeros) (digits 5 h.check), length-digits 5 h.check)

-- these bytes, read as a header, are this one
pub record IsRead (bytes : List ℕ) (h : Header) : Type 0 where
  pub mark : get_or bytes 0 0 ≡ mark_byte h.mark
  pub serial : number_in 0 (take 9 (drop 1 bytes)) ≡ Some h.serial
  pub first : number_in 0 (take 9 (drop 10 bytes)) ≡ Some h.first
  pub size : number_in 0 (take 5 (drop 19 bytes)) ≡ Some h.length
  pub zeros : number_in 0 (take 5 (drop 24 bytes)) ≡ Some h.zeros
  pub size_twin : number_in 0 (take 5 (drop 29 bytes)) ≡ Some (rest_of h.length)
  pub zeros_twin : number_in 0 (take 5 (drop 34 bytes)) ≡ Some (rest_of h.zeros)
  pub check : number_in 0 (take 5 (drop 39 bytes)) ≡ Some h.check

pub first_byte : (bytes : List ℕ) → 44 ≤ length bytes → take 1 bytes ≡ get_or bytes 0 0 ∷ []
first_byte [] long = absurd (omega arith)
first_byte (byte ∷ bytes) long = refl

-- the digits at a place
pub digits_at : (bytes : List ℕ) (i k n : ℕ) → i + k ≤ length bytes → number_in 0 (take k (drop i bytes)) ≡ Some n → take k (drop i bytes) ≡ digits k n
digits_at bytes i k n long is =
    let size : length (take k (drop i bytes)) ≡ k = omega (arith, length-take k (drop i bytes), length-drop i bytes) in
    sym (digits_number (take k (drop i bytes)) n is) ∙ ap (λ (j : ℕ). digits j n) size

pub fits_at : (bytes : List ℕ) (i k n : ℕ) → i + k ≤ length bytes → n < 128 ^ length (take k (drop i bytes)) → n < 128 ^ k
fits_at bytes i k n long lt =
    let size : length (take k (drop i bytes)) ≡ k = omega (arith, length-take k (drop i bytes), length-drop i bytes) in
    subst (λ (j : ℕ). n < 128 ^ j) size lt

-- two pieces, one after the other
pub pieces : (bytes : List ℕ) (i n m : ℕ) → take (n + m) (drop i bytes) ≡ take n (drop i bytes) ++ take m (drop (i + n) bytes)
pieces bytes i n m = take-add n m (drop i bytes) ∙ ap (λ (l : List ℕ). take n (drop i bytes) ++ take m l) (drop-drop n i bytes)

pub spelled : (bytes : List ℕ) (h : Header) → 44 ≤ length bytes → IsRead bytes h → take 44 bytes ≡ header_bytes h
unfolding header_bytes front_bytes
spelled bytes h long is =
    let serial = digits_at bytes 1 9 h.serial (omega arith) is.serial in
    let first = digits_at bytes 10 9 h.first (omega arith) is.first in
    let size = digits_at bytes 19 5 h.length (omega arith) is.size in
    let zeros = digits_at bytes 24 5 h.zeros (omega arith) is.zeros in
    let size_twin = digits_at bytes 29 5 (rest_of h.length) (omega arith) is.size_twin in
    let zeros_twin = digits_at bytes 34 5 (rest_of h.zeros) (omega arith) is.zeros_twin in
    let check = digits_at bytes 39 5 h.check (omega arith) is.check in
    let twins : take 10 (drop 29 bytes) ≡ digits 5 (rest_of h.length) ++ digits 5 (rest_of h.zeros) = pieces bytes 29 5 5 ∙ (λ i. size_twin i ++ zeros_twin i) in
    let some : take 15 (drop 24 bytes) ≡ digits 5 h.zeros ++ (digits 5 (rest_of h.length) ++ digits 5 (rest_of h.zeros)) = pieces bytes 24 5 10 ∙ (λ i. zeros i ++ twins i) in
    let last : take 20 (drop 19 bytes) ≡ digits 5 h.length ++ (digits 5 h.zeros ++ (digits 5 (rest_of h.length) ++ digits 5 (rest_of h.zeros))) = pieces bytes 19 5 15 ∙ (λ i. size i ++ some i) in
    let more : take 29 (drop 10 bytes) ≡ digits 9 h.first ++ (digits 5 h.length ++ (digits 5 h.zeros ++ (digits 5 (rest_of h.length) ++ digits 5 (rest_of h.zeros)))) =
    pieces bytes 10 9 20 ∙ (λ i. first i ++ last i) in
    let all : take 38 (drop 1 bytes) ≡ digits 9 h.serial ++ (digits 9 h.first ++ (digits 5 h.length ++ (digits 5 h.zeros ++ (digits 5 (rest_of h.length) ++ digits 5 (rest_of h.zeros))))) =
    pieces bytes 1 9 29 ∙ (λ i. serial i ++ more i) in
    let front : take 39 bytes ≡ mark_byte h.mark ∷ (digits 9 h.serial ++ (digits 9 h.first ++ (digits 5 h.length ++ (digits 5 h.zeros ++ (digits 5 (rest_of h.length) ++ digits 5 (rest_of h.zeros)))))) =
    take-add 1 38 bytes ∙ ap (λ (l : List ℕ). l ++ take 38 (drop 1 bytes)) (first_byte bytes long) ∙ (λ i. is.mark i ∷ all i) in
    take-add 39 5 bytes ∙ (λ i. front i ++ check i)

-- the piece at the front of the bytes from a place on, and the bytes after it
next_piece : (bytes a b : List ℕ) (i n : ℕ) → drop i bytes ≡ a ++ b → length a ≡ n → drop (i + n) bytes ≡ b
next_piece bytes a b i n is size = sym (drop-drop n i bytes) ∙ ap (drop n) is ∙ drop_at a b n size

read_piece : (bytes a b : List ℕ) (i n m : ℕ) → drop i bytes ≡ a ++ b → a ≡ digits n m → m < 128 ^ n → number_in 0 (take n (drop i bytes)) ≡ Some m
read_piece bytes a b i n m is are fits =
    ap (λ (l : List ℕ). number_in 0 (take n l)) is ∙ ap (number_in 0) (take_at a b n (ap (λ (l : List ℕ). length l) are ∙ length-digits n m)) ∙ ap (number_in 0) are ∙ number_digits 0 n m fits

rest_fits : (n : ℕ) → rest_of n < 2 ^ 35
rest_fits n = omega arith

pub read_back : (bytes : List ℕ) (h : Header) (rest : List ℕ) → FitsHeader h → bytes ≡ header_bytes h ++ rest → IsRead bytes h
unfolding header_bytes front_bytes
read_back bytes h rest fits is =
    let a = digits 9 h.serial in
    let b = digits 9 h.first in
    let c = digits 5 h.length in
    let d = digits 5 h.zeros in
    let u = digits 5 (rest_of h.length) in
    let v = digits 5 (rest_of h.zeros) in
    let e = digits 5 h.check in
    let at : bytes ≡ mark_byte h.mark ∷ (a ++ (b ++ (c ++ (d ++ (u ++ (v ++ (e ++ rest))))))) = is ∙ simp append_assoc in
    let at1 : drop 1 bytes ≡ a ++ (b ++ (c ++ (d ++ (u ++ (v ++ (e ++ rest)))))) = ap (drop 1) at in
    let at10 : drop 10 bytes ≡ b ++ (c ++ (d ++ (u ++ (v ++ (e ++ rest))))) = next_piece bytes a (b ++ (c ++ (d ++ (u ++ (v ++ (e ++ rest)))))) 1 9 at1 (length-digits 9 h.serial) in
    let at19 : drop 19 bytes ≡ c ++ (d ++ (u ++ (v ++ (e ++ rest)))) = next_piece bytes b (c ++ (d ++ (u ++ (v ++ (e ++ rest))))) 10 9 at10 (length-digits 9 h.first) in
    let at24 : drop 24 bytes ≡ d ++ (u ++ (v ++ (e ++ rest))) = next_piece bytes c (d ++ (u ++ (v ++ (e ++ rest)))) 19 5 at19 (length-digits 5 h.length) in
    let at29 : drop 29 bytes ≡ u ++ (v ++ (e ++ rest)) = next_piece bytes d (u ++ (v ++ (e ++ rest))) 24 5 at24 (length-digits 5 h.zeros) in
    let at34 : drop 34 bytes ≡ v ++ (e ++ rest) = next_piece bytes u (v ++ (e ++ rest)) 29 5 at29 (length-digits 5 (rest_of h.length)) in
    let at39 : drop 39 bytes ≡ e ++ rest = next_piece bytes v (e ++ rest) 34 5 at34 (length-digits 5 (rest_of h.zeros)) in
    record {
      mark = ap (λ (l : List ℕ). get_or l 0 0) at;
      serial = read_piece bytes a (b ++ (c ++ (d ++ (u ++ (v ++ (e ++ rest)))))) 1 9 h.serial at1 refl fits.serial;
      first = read_piece bytes b (c ++ (d ++ (u ++ (v ++ (e ++ rest))))) 10 9 h.first at10 refl fits.first;
      size = read_piece bytes c (d ++ (u ++ (v ++ (e ++ rest)))) 19 5 h.length at19 refl fits.size;
      zeros = read_piece bytes d (u ++ (v ++ (e ++ rest))) 24 5 h.zeros at24 refl fits.zeros;
      size_twin = read_piece bytes u (v ++ (e ++ rest)) 29 5 (rest_of h.length) at29 refl (rest_fits h.length);
      zeros_twin = read_piece bytes v (e ++ rest) 34 5 (rest_of h.zeros) at34 refl (rest_fits h.zeros);
      check = read_piece bytes e rest 39 5 h.check at39 refl fits.check;
    }

mark_same : (m n : Mark) → mark_byte m ≡ mark_byte n → m ≡ n
mark_same marks.Commit marks.Commit e = refl
mark_same marks.Part marks.Part e = refl
mark_same marks.Turn marks.Turn e = refl
mark_same marks.Cancel marks.Cancel e = refl
mark_same m n e = absurd (omega arith)

-- only one header is read
pub read_once : (bytes : List ℕ) (h g : Header) → IsRead bytes h → IsRead bytes g → h ≡ g
read_once bytes h g one other =
    let m = mark_same h.mark g.mark (sym one.mark ∙ other.mark) in
    let a : h.serial ≡ g.serial = cc (sym one.serial ∙ other.serial) in
    let b : h.first ≡ g.first = cc (sym one.first ∙ other.first) in
    let c : h.length ≡ g.length = cc (sym one.size ∙ other.size) in
    let d : h.zeros ≡ g.zeros = cc (sym one.zeros ∙ other.zeros) in
    let e : h.check ≡ g.check = cc (sym one.check ∙ other.check) in
    (λ i. record { mark = m i; serial = a i; first = b i; length = c i; zeros = d i; check = e i })
