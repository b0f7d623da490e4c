-- Strings that a hasher admits one after another.
use Rattle.std.proofs.Common.{◌≡◌, ℕ, List, [], ◌∷◌, ◌++◌, Option, Result, Ok, Err, refl, sym, subst, inl, inr}
use Rattle.std.specs.Prelude.{IsErr}
use Rattle.std.specs.Result.{IsErrAnd}
use Rattle.hash_book.specs.Hashing.{Book, Admits}
use Rattle.hash_book.specs.declared.error.HashError.{HashError}
use Rattle.hash_book.specs.declared.error.HashError.TheVariants.{Memory}
use Rattle.tree_repair.specs.Admitting.{Admitted, Rejected, AdmitsAll}
use Rattle.tree_repair.specs.Builds.{somes}
use Rattle.tree_repair.proofs.Lists.{somes_cons}

-- `?` returns the error that it met
pub passed_on : {A : Type 0} (r : Result A HashError) (e : HashError) (G : HashError → Type 0) (P : Result A HashError → Type 0) → IsErr r → IsErrAnd r G → ((d : HashError) → G d → d ≡ e) → P (Err e) → P r
passed_on (Ok x) e G P is and same h = absurd cc
passed_on {A} (Err d) e G P is and same h = subst (λ (x : HashError). P (failed A x)) (sym (same d and)) h
  where
    failed : (A : Type 0) → HashError → Result A HashError
    failed A x = Err x

module _ {H : Type 0} (kept : H → Option Book) (clashes fulls : H → ℕ) where
  pub admitted_append : (xs ys : List (List ℕ)) (s u t : H) → Admitted kept clashes fulls xs s u → Admitted kept clashes fulls ys u t → Admitted kept clashes fulls (xs ++ ys) s t
  admitted_append [] ys s u t same b = subst (λ (v : H). Admitted kept clashes fulls ys v t) same b
  admitted_append (x ∷ xs) ys s u t (v, k, c, f, rest) b = (v, k, c, f, admitted_append xs ys v u t rest b)

  pub memory_rejects : (xs : List (List ℕ)) (s : H) → Rejected kept clashes fulls xs s Memory s
  memory_rejects [] s = (refl, refl)
  memory_rejects (x ∷ xs) s = inl (refl, refl)

  pub rejected_first : (xs ys : List (List ℕ)) (s t : H) (e : HashError) → Rejected kept clashes fulls xs s e t → Rejected kept clashes fulls (xs ++ ys) s e t
  rejected_first [] ys s t e (m, same) = rw (m, same) (memory_rejects ys s)
  rejected_first (x ∷ xs) ys s t e (inl h) = inl h
  rejected_first (x ∷ xs) ys s t e (inr (inl h)) = inr (inl h)
  rejected_first (x ∷ xs) ys s t e (inr (inr (u, k, c, f, rest))) = inr (inr (u, k, c, f, rejected_first xs ys u t e rest))

  pub rejected_then : (xs ys : List (List ℕ)) (s u t : H) (e : HashError) → Admitted kept clashes fulls xs s u → Rejected kept clashes fulls ys u e t → Rejected kept clashes fulls (xs ++ ys) s e t
  rejected_then [] ys s u t e same b = subst (λ (v : H). Rejected kept clashes fulls ys v e t) same b
  rejected_then (x ∷ xs) ys s u t e (v, k, c, f, rest) b = inr (inr (v, k, c, f, rejected_then xs ys v u t e rest b))

  -- some strings were admitted, and then others were tried
  pub admits_then : {A : Type 0} (xs ys : List (List ℕ)) (s u t : H) (r : Result A HashError) → Admitted kept clashes fulls xs s u → AdmitsAll kept clashes fulls ys u r t → AdmitsAll kept clashes fulls (xs ++ ys) s r t
  admits_then xs ys s u t (Ok x) a b = admitted_append xs ys s u t a b
  admits_then xs ys s u t (Err e) a b = rejected_then xs ys s u t e a b

  pub rejected_one : (x : List ℕ) (s t : H) (e : HashError) → Admits {T = Unit {0}} x (kept s) (kept t) (clashes s) (clashes t) (fulls s) (fulls t) (Err e) → Rejected kept clashes fulls (x ∷ []) s e t
  rejected_one x s t e (k, r) = inr (inl (k, r))

  -- out of memory behind strings that were admitted
  pub memory_after : {A : Type 0} (xs : List (List ℕ)) (s t : H) (r : Result A HashError) (G : HashError → Type 0) → Admitted kept clashes fulls xs s t → IsErr r → IsErrAnd r G → ((d : HashError) → G d → d ≡ Memory) → (ys : List (List ℕ)) → AdmitsAll kept clashes fulls (xs ++ ys) s r t
  memory_after xs s t r G a is and same ys = passed_on r Memory G (λ q. AdmitsAll kept clashes fulls (xs ++ ys) s q t) is and same (rejected_then xs ys s t t Memory a (memory_rejects ys t))

  pub memory_at_once : {A : Type 0} (xs : List (List ℕ)) (s : H) (r : Result A HashError) (G : HashError → Type 0) → IsErr r → IsErrAnd r G → ((d : HashError) → G d → d ≡ Memory) → AdmitsAll kept clashes fulls xs s r s
  memory_at_once xs s r G is and same = passed_on r Memory G (λ q. AdmitsAll kept clashes fulls xs s q s) is and same (memory_rejects xs s)

  pub rejected_on : {A : Type 0} (xs ys : List (List ℕ)) (s t : H) (e : HashError) (r : Result A HashError) (G : HashError → Type 0) → Rejected kept clashes fulls xs s e t → IsErr r → IsErrAnd r G → ((d : HashError) → G d → d ≡ e) → AdmitsAll kept clashes fulls (xs ++ ys) s r t
  rejected_on xs ys s t e r G a is and same = passed_on r e G (λ q. AdmitsAll kept clashes fulls (xs ++ ys) s q t) is and same (rejected_first xs ys s t e a)

  -- what remains to be tried, tried from u, is all of it, tried from s
  abbrev pub TriesOn : List (Option (List ℕ)) → List (Option (List ℕ)) → H → H → Type 0
  TriesOn all rest s u = (r : Result (Unit {0}) HashError) (t : H) → AdmitsAll kept clashes fulls (somes rest) u r t → AdmitsAll kept clashes fulls (somes all) s r t

  pub tries_next : (all rest : List (Option (List ℕ))) (x : Option (List ℕ)) (s u v : H) → Admitted kept clashes fulls (somes (x ∷ [])) u v → TriesOn all (x ∷ rest) s u → TriesOn all rest s v
  tries_next all rest x s u v a k = λ r t h. k r t (subst (λ (xs : List (List ℕ)). AdmitsAll kept clashes fulls xs u r t) (sym (somes_cons x rest)) (admits_then (somes (x ∷ [])) (somes rest) u v t r a h))

  pub tries_err : (all rest : List (Option (List ℕ))) (x : Option (List ℕ)) (s u v : H) (e : HashError) → Rejected kept clashes fulls (somes (x ∷ [])) u e v → TriesOn all (x ∷ rest) s u → Rejected kept clashes fulls (somes all) s e v
  tries_err all rest x s u v e a k = k (Err e) v (subst (λ (xs : List (List ℕ)). Rejected kept clashes fulls xs u e v) (sym (somes_cons x rest)) (rejected_first (somes (x ∷ [])) (somes rest) u v e a))
