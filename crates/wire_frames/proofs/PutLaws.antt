-- What a chain of appending calls has written.
use Rattle.std.proofs.Common.{◌≡◌, ℕ, List, ◌++◌, Result, Ok, Err, ap, ◌∙◌, append_assoc}
use Rattle.std.specs.Prelude.{OnOk}

pub on_ok_of : {T E : Type 0} (r : Result T E) (Q : Type 0) → Q → OnOk r Q
on_ok_of (Ok x) Q q = q
on_ok_of (Err e) Q q = tt

pub glued : (out start a b s body m1 m2 m3 m4 new : List ℕ) → m1 ≡ out ++ start → m2 ≡ m1 ++ a → m3 ≡ m2 ++ b → m4 ≡ m3 ++ s → new ≡ m4 ++ body → new ≡ out ++ (start ++ a ++ b ++ s ++ body)
glued out start a b s body m1 m2 m3 m4 new e1 e2 e3 e4 e5 =
    let same : out ++ start ++ a ++ b ++ s ++ body ≡ out ++ (start ++ a ++ b ++ s ++ body) = simp append_assoc in
    e5 ∙ ap (λ (l : List ℕ). l ++ body) (e4 ∙ ap (λ (l : List ℕ). l ++ s) (e3 ∙ ap (λ (l : List ℕ). l ++ b) (e2 ∙ ap (λ (l : List ℕ). l ++ a) e1))) ∙ same
