-- A stamp is read from its tag, and from no other text.
use Rattle.std.proofs.Common.{◌≡◌, ℕ, zero, suc, ◌^◌, ◌<◌, Bool, true, false, cond, List, [], ◌∷◌, ◌++◌, length, take, drop, get_or, Some, None, Result, Ok, Err, refl, sym, ap, ◌∙◌, ◌/◌, ◌==◌, subst, lit<, arith, length-append, append_assoc, append-nil}
use Rattle.std.proofs.Math.Nat.{mod-lt}
use Rattle.std.proofs.Math.Seq.{drop-append_seam}
use Rattle.std.proofs.lemmas.Bool.{eq-eqb}
use Rattle.std.proofs.lemmas.List.{take_all, take-append-le}
use Rattle.std.specs.Str.{bytes_eq}
use Rattle.std.proofs.lemmas.Slice.Eq.{bytes_eq-Decides}
use Rattle.std.specs.Int.{byte_at}
use Rattle.byteorder.specs.Endian.{big_number, big_bytes}
use Rattle.byteorder.specs.Numbers.{big_number-reads_back, length-bytes_high_first}
use Rattle.hex.specs.declared.error.FromHexError.{FromHexError}
use Rattle.hex.specs.Hex.{lower_digits, encode_lower, decode_sized, IsBytes}
use Rattle.hex.proofs.HexLemmas.{length-encode_with, decode_sized-encode_lower}
use Rattle.ens_base.specs.declared.epoch.Version.{Version}
use Rattle.ens_base.specs.Limits.{IsVersion}
use Rattle.http_calls.specs.Stamps.{stamp_bytes, stamp_at, tag_text, if_tag, stamp_from, stamp_of}

by_test : (text : List ℕ) (w v : Version) (b : Bool) → bytes_eq text (tag_text w) ≡ b → cond b (Some w) None ≡ Some v → text ≡ tag_text v
by_test text w v true e is = (bytes_eq-Decides text (tag_text w)).0 e ∙ ap tag_text cc
by_test text w v false e is = cc

from_result : (text : List ℕ) (r : Result (List ℕ) FromHexError) (v : Version) → stamp_from text r ≡ Some v → text ≡ tag_text v
from_result text (Ok bytes) v is = by_test text (stamp_at bytes) v (bytes_eq text (tag_text (stamp_at bytes))) refl is
from_result text (Err e) v is = cc

from_length : (text : List ℕ) (b : Bool) (r : Result (List ℕ) FromHexError) (v : Version) → cond b (stamp_from text r) None ≡ Some v → text ≡ tag_text v
from_length text true r v is = from_result text r v is
from_length text false r v is = cc

pub tag_read : (text : List ℕ) (v : Version) → stamp_of text ≡ Some v → text ≡ tag_text v
tag_read text v is = from_length text (length text == 42) (decode_sized (take 40 (drop 1 text)) 20) v is

seam : (xs ys : List ℕ) (n : ℕ) → length xs ≡ n → drop n (xs ++ ys) ≡ ys
seam xs ys n is = subst (λ (k : ℕ). drop k (xs ++ ys) ≡ ys) is (drop-append_seam xs ys)

byte_small : (k x : ℕ) → byte_at k x < 256
byte_small zero x = mod-lt x (lit< tt)
byte_small (suc k) x = mod-lt (x / 256 ^ suc k) (lit< tt)

bytes_small : (n x i : ℕ) → get_or (big_bytes n x) i 0 < 256
bytes_small zero x i = lit< tt
bytes_small (suc n) x zero = byte_small n x
bytes_small (suc n) x (suc i) = bytes_small n x i

small_append : (xs ys : List ℕ) → ((i : ℕ) → get_or xs i 0 < 256) → ((i : ℕ) → get_or ys i 0 < 256) → (i : ℕ) → get_or (xs ++ ys) i 0 < 256
small_append [] ys a b i = b i
small_append (x ∷ xs) ys a b zero = a zero
small_append (x ∷ xs) ys a b (suc i) = small_append xs ys (λ j. a (suc j)) b i

module _ (v : Version) (fits : IsVersion v) where
  stamp_long : length (stamp_bytes v) ≡ 20
  stamp_long = omega (arith, length-append (big_bytes 8 v.epoch.count ++ big_bytes 4 v.epoch.proposer) (big_bytes 8 v.seq), length-append (big_bytes 8 v.epoch.count) (big_bytes 4 v.epoch.proposer), length-bytes_high_first 8 v.epoch.count, length-bytes_high_first 4 v.epoch.proposer, length-bytes_high_first 8 v.seq)

  stamp_small : IsBytes (stamp_bytes v)
  stamp_small = small_append (big_bytes 8 v.epoch.count ++ big_bytes 4 v.epoch.proposer) (big_bytes 8 v.seq)
      (small_append (big_bytes 8 v.epoch.count) (big_bytes 4 v.epoch.proposer) (bytes_small 8 v.epoch.count) (bytes_small 4 v.epoch.proposer)) (bytes_small 8 v.seq)

  stamp_back : stamp_at (stamp_bytes v) ≡ v
  stamp_back =
      let c = big_bytes 8 v.epoch.count in
      let p = big_bytes 4 v.epoch.proposer in
      let s = big_bytes 8 v.seq in
      let all = append_assoc c p s in
      let count_is : big_number 8 ((c ++ p) ++ s) ≡ v.epoch.count = ap (big_number 8) all ∙ big_number-reads_back 8 v.epoch.count (p ++ s) fits.epoch.count in
      let proposer_is : big_number 4 (drop 8 ((c ++ p) ++ s)) ≡ v.epoch.proposer =
      ap (λ (t : List ℕ). big_number 4 (drop 8 t)) all ∙ ap (big_number 4) (seam c (p ++ s) 8 (length-bytes_high_first 8 v.epoch.count)) ∙ big_number-reads_back 4 v.epoch.proposer s fits.epoch.proposer in
      let twelve : length (c ++ p) ≡ 12 = omega (arith, length-append c p, length-bytes_high_first 8 v.epoch.count, length-bytes_high_first 4 v.epoch.proposer) in
      let seq_is : big_number 8 (drop 12 ((c ++ p) ++ s)) ≡ v.seq =
      ap (big_number 8) (seam (c ++ p) s 12 twelve ∙ sym (append-nil s)) ∙ big_number-reads_back 8 v.seq [] fits.seq in
      λ i. record { epoch = record { count = count_is i; proposer = proposer_is i }; seq = seq_is i }

  digits_long : length (encode_lower (stamp_bytes v)) ≡ 40
  digits_long = omega (arith, length-encode_with lower_digits (stamp_bytes v), stamp_long)

  tag_long : length (tag_text v) ≡ 42
  tag_long = omega (arith, length-append (encode_lower (stamp_bytes v)) (34 ∷ []), digits_long)

  digits_back : take 40 (drop 1 (tag_text v)) ≡ encode_lower (stamp_bytes v)
  digits_back =
      take-append-le 40 (encode_lower (stamp_bytes v)) (34 ∷ []) (omega (arith, digits_long)) ∙ take_all 40 (encode_lower (stamp_bytes v)) (omega (arith, digits_long))

  pub tag_written : stamp_of (tag_text v) ≡ Some v
  tag_written =
      ap (λ b. cond b (stamp_from (tag_text v) (decode_sized (take 40 (drop 1 (tag_text v))) 20)) None) (eq-eqb (length (tag_text v)) 42 tag_long)
      ∙ ap (λ (t : List ℕ). stamp_from (tag_text v) (decode_sized t 20)) digits_back
      ∙ ap (stamp_from (tag_text v)) (decode_sized-encode_lower (stamp_bytes v) 20 stamp_long stamp_small)
      ∙ ap (if_tag (tag_text v)) stamp_back
      ∙ ap (λ b. cond b (Some v) None) ((bytes_eq-Decides (tag_text v) (tag_text v)).1 refl)
