-- The grammars of bytes, numbers and runs.
use Rattle.std.proofs.Common.{◌≡◌, ℕ, ◌+◌, ◌-◌, ◌^◌, ◌<◌, ◌≤◌, true, false, ltb, List, [], ◌∷◌, ◌++◌, length, get_or, take, drop, Result, Ok, refl, sym, ap, subst, ◌∙◌, arith, length-append, length-drop, length-take}
use Rattle.std.proofs.lemmas.Bool.{ltb-false, ltb-true, le-ltb, lt-ltb}
use Rattle.std.proofs.lemmas.List.{take_at, take-append-drop, get_or-drop, drop-drop, drop_more}
use Rattle.std.proofs.lemmas.Nat.{be_bytes_2, be_bytes_4, be_bytes_8}
use Rattle.byteorder.specs.Endian.{big_number, big_bytes}
use Rattle.byteorder.specs.Numbers.{big_number-reads_back, big_from-lt, length-bytes_high_first}
use Rattle.fields.specs.declared.field_error.FieldError.{FieldError}
use Rattle.fields.specs.declared.field_error.FieldError.TheVariants.{Short}
use Rattle.ens_base.specs.Limits.{IsBytes}
use Rattle.fields.specs.Places.{Spells}
use Rattle.fields.specs.Grammar.{IsGrammar}
use Rattle.fields.specs.Numbers.{byte_at, number_at, run_at, IsRun}
use Rattle.fields.proofs.ByteLaws.{IsBytes-drop, IsBytes-take}
use Rattle.fields.proofs.GrammarLaws.{guard_ok, test_ok, ok_is}

abbrev pub done : {A : Type 0} → A → Result A FieldError
done x = Ok x

pub byte_grammar : IsGrammar (λ n. n < 256) (λ n. n ∷ []) byte_at
byte_grammar = record {
  found = λ bytes at x end fits e.
      let t = test_ok (ltb at (length bytes)) (done (get_or bytes at 0, at + 1)) (Short at) (x, end) e in
      let inside : at < length bytes = ltb-true _ _ t.0 in
      let parts : drop at bytes ≡ (get_or bytes at 0 ∷ []) ++ drop (at + 1) bytes = drop_more bytes at 0 inside in
      let spelled : Spells bytes at (get_or bytes at 0 ∷ []) (at + 1) = record { parts = parts; place = refl } in
      subst (λ (p : ℕ × ℕ). Spells bytes at (p.0 ∷ []) p.1 × (p.0 < 256)) (ok_is FieldError (get_or bytes at 0, at + 1) (x, end) t.1) (spelled, fits at);
  again = λ bytes at x rest good e.
      let inside : ltb at (length bytes) ≡ true = lt-ltb _ _ (omega (arith, ap length e, length-drop at bytes)) in
      let is : get_or bytes at 0 ≡ x = ap (λ (n : ℕ). get_or bytes n 0) (omega arith) ∙ sym (get_or-drop at bytes 0 0) ∙ ap (λ (l : List ℕ). get_or l 0 0) e in
      rw (inside, is) refl;
}

pub run_grammar : (n : ℕ) → IsGrammar (IsRun n) (λ run. run) (run_at n)
run_grammar n = record {
  found = λ bytes at x end fits e.
      let g = guard_ok (ltb (length bytes - at) n) (Short at) (done (take n (drop at bytes), at + n)) (x, end) e in
      let size : length (take n (drop at bytes)) ≡ n = omega (arith, ltb-false _ _ g.0, length-take n (drop at bytes), length-drop at bytes) in
      let spelled : Spells bytes at (take n (drop at bytes)) (at + n) = record {
        parts = sym (take-append-drop n (drop at bytes)) ∙ ap (λ (l : List ℕ). take n (drop at bytes) ++ l) (drop-drop n at bytes);
        place = omega (arith, size);
      } in
      subst (λ (p : List ℕ × ℕ). Spells bytes at p.0 p.1 × IsRun n p.0) (ok_is FieldError (take n (drop at bytes), at + n) (x, end) g.1)
      (spelled, record { size = size; bytes = IsBytes-take n (drop at bytes) (IsBytes-drop at bytes fits) });
  again = λ bytes at x rest good e.
      let long : ltb (length bytes - at) n ≡ false = le-ltb _ _ (omega (arith, ap length e, length-append x rest, length-drop at bytes, good.size)) in
      let place : at + n ≡ at + length x = omega (arith, good.size) in
      rw (long, e, take_at x rest n good.size) (ap (λ (m : ℕ). Ok (x, m)) place);
}

record IsWide (n limit : ℕ) : Type 0 where
  back : (xs : List ℕ) → n ≤ length xs → IsBytes xs → big_bytes n (big_number n xs) ≡ take n xs
  again : (x : ℕ) (rest : List ℕ) → x < limit → big_number n (big_bytes n x ++ rest) ≡ x
  below : (xs : List ℕ) → IsBytes xs → big_number n xs < limit

back2 : (xs : List ℕ) → 2 ≤ length xs → IsBytes xs → big_bytes 2 (big_number 2 xs) ≡ take 2 xs
back2 [] h fits = absurd (omega arith)
back2 (a ∷ []) h fits = absurd (omega arith)
back2 (a ∷ b ∷ xs) h fits = be_bytes_2 (a ∷ b ∷ []) _ refl (IsBytes-take 2 (a ∷ b ∷ xs) fits) (omega arith)

back4 : (xs : List ℕ) → 4 ≤ length xs → IsBytes xs → big_bytes 4 (big_number 4 xs) ≡ take 4 xs
back4 [] h fits = absurd (omega arith)
back4 (a ∷ []) h fits = absurd (omega arith)
back4 (a ∷ b ∷ []) h fits = absurd (omega arith)
back4 (a ∷ b ∷ c ∷ []) h fits = absurd (omega arith)
back4 (a ∷ b ∷ c ∷ d ∷ xs) h fits = be_bytes_4 (a ∷ b ∷ c ∷ d ∷ []) _ refl (IsBytes-take 4 (a ∷ b ∷ c ∷ d ∷ xs) fits) (omega arith)

back8 : (xs : List ℕ) → 8 ≤ length xs → IsBytes xs → big_bytes 8 (big_number 8 xs) ≡ take 8 xs
back8 [] h fits = absurd (omega arith)
back8 (a ∷ []) h fits = absurd (omega arith)
back8 (a ∷ b ∷ []) h fits = absurd (omega arith)
back8 (a ∷ b ∷ c ∷ []) h fits = absurd (omega arith)
back8 (a ∷ b ∷ c ∷ d ∷ []) h fits = absurd (omega arith)
back8 (a ∷ b ∷ c ∷ d ∷ e ∷ []) h fits = absurd (omega arith)
back8 (a ∷ b ∷ c ∷ d ∷ e ∷ f ∷ []) h fits = absurd (omega arith)
back8 (a ∷ b ∷ c ∷ d ∷ e ∷ f ∷ g ∷ []) h fits = absurd (omega arith)
back8 (a ∷ b ∷ c ∷ d ∷ e ∷ f ∷ g ∷ k ∷ xs) h fits = be_bytes_8 (a ∷ b ∷ c ∷ d ∷ e ∷ f ∷ g ∷ k ∷ []) _ refl (IsBytes-take 8 (a ∷ b ∷ c ∷ d ∷ e ∷ f ∷ g ∷ k ∷ xs) fits) (omega arith)

wide2 : IsWide 2 (2 ^ 16)
wide2 = record { back = back2; again = λ x rest lt. big_number-reads_back 2 x rest lt; below = λ xs fits. big_from-lt 0 2 xs fits }

wide4 : IsWide 4 (2 ^ 32)
wide4 = record { back = back4; again = λ x rest lt. big_number-reads_back 4 x rest lt; below = λ xs fits. big_from-lt 0 4 xs fits }

wide8 : IsWide 8 (2 ^ 64)
wide8 = record { back = back8; again = λ x rest lt. big_number-reads_back 8 x rest lt; below = λ xs fits. big_from-lt 0 8 xs fits }

number_grammar : (n limit : ℕ) → IsWide n limit → IsGrammar (λ x. x < limit) (big_bytes n) (number_at n)
number_grammar n limit wide = record {
  found = λ bytes at x end fits e.
      let g = guard_ok (ltb (length bytes - at) n) (Short at) (done (big_number n (drop at bytes), at + n)) (x, end) e in
      let long : n ≤ length (drop at bytes) = omega (arith, ltb-false _ _ g.0, length-drop at bytes) in
      let text : big_bytes n (big_number n (drop at bytes)) ≡ take n (drop at bytes) = wide.back (drop at bytes) long (IsBytes-drop at bytes fits) in
      let parts : drop at bytes ≡ big_bytes n (big_number n (drop at bytes)) ++ drop (at + n) bytes =
      sym (take-append-drop n (drop at bytes)) ∙ ap (λ (l : List ℕ). l ++ drop n (drop at bytes)) (sym text) ∙ ap (λ (l : List ℕ). big_bytes n (big_number n (drop at bytes)) ++ l) (drop-drop n at bytes) in
      let place : at + n ≡ at + length (big_bytes n (big_number n (drop at bytes))) = omega (arith, length-bytes_high_first n (big_number n (drop at bytes))) in
      subst (λ (p : ℕ × ℕ). Spells bytes at (big_bytes n p.0) p.1 × (p.0 < limit)) (ok_is FieldError (big_number n (drop at bytes), at + n) (x, end) g.1)
      (record { parts = parts; place = place }, wide.below (drop at bytes) (IsBytes-drop at bytes fits));
  again = λ bytes at x rest lt e.
      let long : ltb (length bytes - at) n ≡ false = le-ltb _ _ (omega (arith, ap length e, length-append (big_bytes n x) rest, length-bytes_high_first n x, length-drop at bytes)) in
      let place : at + n ≡ at + length (big_bytes n x) = omega (arith, length-bytes_high_first n x) in
      rw (long, e, wide.again x rest lt) (ap (λ (m : ℕ). Ok (x, m)) place);
}

pub u16_grammar : IsGrammar (λ x. x < 2 ^ 16) (big_bytes 2) (number_at 2)
u16_grammar = number_grammar 2 (2 ^ 16) wide2

pub u32_grammar : IsGrammar (λ x. x < 2 ^ 32) (big_bytes 4) (number_at 4)
u32_grammar = number_grammar 4 (2 ^ 32) wide4

pub u64_grammar : IsGrammar (λ x. x < 2 ^ 64) (big_bytes 8) (number_at 8)
u64_grammar = number_grammar 8 (2 ^ 64) wide8
