-- What a lookup by digest says of the kept strings.
use Rattle.std.proofs.Common.{◌≡◌, ◌≢◌, ℕ, Bool, true, false, cond, List, [], ◌∷◌, ◌++◌, None, Some, Vec, Contains, All, length, ◌+◌, sym, ap, subst, ◌∙◌, arith, refl}
use Rattle.std.specs.List.{AllByRecursion}
use Rattle.std.specs.Map.{lookup}
use Rattle.std.specs.declared.alloc.Global.{Global}
use Rattle.std.proofs.lemmas.List.Elements.{Contains-get_or, Contains-append_right, recursion_from_All, All-from_recursion, All-push}
use Rattle.std.proofs.lemmas.List.{map_push}
use Rattle.std.proofs.lemmas.List.Sums.{sum_by-append}
use Rattle.std.proofs.lemmas.Grind.{common_steps}
use Rattle.md5.specs.Md5.{md5}
use Rattle.hash_book.specs.Hashing.{total}
use Rattle.hash_book.specs.Kept.{Entries, strings_of, IsKeyed}

abbrev Keyed : List ℕ × Vec ℕ Global → Type 0
Keyed e = e.0 ≡ md5 e.1.items

module _ (test : List ℕ → Bool) (d : List ℕ) (yes : (x : List ℕ) → test x ≡ true → d ≡ x) (no : (x : List ℕ) → test x ≡ false → d ≢ x) where
  found_in : (es : Entries) (v : Vec ℕ Global) → AllByRecursion Keyed es → lookup test es ≡ Some v → Contains (strings_of es) v.items × (md5 v.items ≡ d)
  found_in [] v keyed e = absurd cc
  found_in (x ∷ es) v keyed e = by (test x.0) refl (λ (later : lookup test es ≡ Some v). found_in es v keyed.1 later)
    where
      by : (b : Bool) → test x.0 ≡ b → (lookup test es ≡ Some v → Contains (strings_of es) v.items × (md5 v.items ≡ d)) → Contains (strings_of (x ∷ es)) v.items × (md5 v.items ≡ d)
      by true t rest =
          let same : Some x.1 ≡ Some v = ap (λ c. cond c (Some x.1) (lookup test es)) (sym t) ∙ e in
          let is : x.1 ≡ v = cc in (
            subst (λ (w : Vec ℕ Global). Contains (strings_of (x ∷ es)) w.items) is (Contains-get_or (strings_of (x ∷ es)) 0 x.1.items (omega arith)),
            subst (λ (w : Vec ℕ Global). md5 w.items ≡ d) is (sym (yes x.0 t ∙ keyed.0)),
          )
      by false t rest =
          let there = rest (ap (λ c. cond c (Some x.1) (lookup test es)) (sym t) ∙ e) in
          (Contains-append_right (x.1.items ∷ []) (strings_of es) v.items there.0, there.1)

  missing_in : (es : Entries) → AllByRecursion Keyed es → lookup test es ≡ None → AllByRecursion (λ s. md5 s ≢ d) (strings_of es)
  missing_in [] keyed e = tt
  missing_in (x ∷ es) keyed e = by (test x.0) refl (λ (later : lookup test es ≡ None). missing_in es keyed.1 later)
    where
      by : (b : Bool) → test x.0 ≡ b → (lookup test es ≡ None → AllByRecursion (λ s. md5 s ≢ d) (strings_of es)) → AllByRecursion (λ s. md5 s ≢ d) (strings_of (x ∷ es))
      by true t rest =
          let bad : Some x.1 ≡ None = ap (λ c. cond c (Some x.1) (lookup test es)) (sym t) ∙ e in
          absurd cc
      by false t rest = (λ same. no x.0 t (sym (keyed.0 ∙ same)), rest (ap (λ c. cond c (Some x.1) (lookup test es)) (sym t) ∙ e))

  pub found : (es : Entries) (v : Vec ℕ Global) → IsKeyed es → lookup test es ≡ Some v → Contains (strings_of es) v.items × (md5 v.items ≡ d)
  found es v keyed e = found_in es v (recursion_from_All Keyed es keyed) e

  pub missing : (es : Entries) → IsKeyed es → lookup test es ≡ None → All (λ s. md5 s ≢ d) (strings_of es)
  missing es keyed e = All-from_recursion (λ s. md5 s ≢ d) (strings_of es) (missing_in es (recursion_from_All Keyed es keyed) e)

  absent_in : (es : Entries) → AllByRecursion Keyed es → AllByRecursion (λ s. md5 s ≢ d) (strings_of es) → lookup test es ≡ None
  absent_in [] keyed new = refl
  absent_in (x ∷ es) keyed new = by (test x.0) refl (absent_in es keyed.1 new.1)
    where
      by : (b : Bool) → test x.0 ≡ b → lookup test es ≡ None → cond (test x.0) (Some x.1) (lookup test es) ≡ None
      by true t later = absurd (new.0 (sym (yes x.0 t ∙ keyed.0)))
      by false t later = ap (λ c. cond c (Some x.1) (lookup test es)) t ∙ later

  pub absent : (es : Entries) → IsKeyed es → All (λ s. md5 s ≢ d) (strings_of es) → lookup test es ≡ None
  absent es keyed new = absent_in es (recursion_from_All Keyed es keyed) (recursion_from_All (λ s. md5 s ≢ d) (strings_of es) new)

pub total-push : (xs : List (List ℕ)) (s : List ℕ) → total (xs ++ s ∷ []) ≡ total xs + length s
total-push xs s = grind (arith, sum_by-append, common_steps)

pub strings_of-push : (es fs : Entries) (d : List ℕ) (v : Vec ℕ Global) → fs ≡ es ++ (d, v) ∷ [] → strings_of fs ≡ strings_of es ++ v.items ∷ []
strings_of-push es fs d v e = ap strings_of e ∙ map_push (λ (x : List ℕ × Vec ℕ Global). x.1.items) es (d, v)

pub IsKeyed-push : (es fs : Entries) (d : List ℕ) (v : Vec ℕ Global) → fs ≡ es ++ (d, v) ∷ [] → IsKeyed es → d ≡ md5 v.items → IsKeyed fs
IsKeyed-push es fs d v e keyed same = subst IsKeyed (sym e) (All-push Keyed es (d, v) keyed same)
