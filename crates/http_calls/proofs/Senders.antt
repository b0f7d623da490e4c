-- Why a request is not taken where a field stands twice.
use Rattle.std.proofs.Common.{◌≡◌, ℕ, Bool, true, false, cond, List, [], ◌∷◌, Option, Some, None, Err, sym, ap, ◌∙◌, subst, inl, inr, codes}
use Rattle.http1.specs.Fields.{Header, is_named}
use Rattle.http_calls.specs.declared.method.Method.{Method}
use Rattle.http_calls.specs.declared.problem.Problem.{Problem}
use Rattle.http_calls.specs.declared.problem.Problem.TheVariants.{RepeatedField}
use Rattle.http_calls.specs.Fields.{one_more, then_rest, field_after, field_of}
use Rattle.http_calls.specs.Hosts.{IsUnwelcome}

error_at : (b : Bool) (name : List ℕ) (h : Header) (hs : List Header) (found : Option (List ℕ)) (e : Problem)
    → ((later : Option (List ℕ)) → field_after name hs later ≡ Err e → e ≡ RepeatedField)
    → cond b (then_rest (one_more found h.1) (field_after name hs)) (field_after name hs found) ≡ Err e → e ≡ RepeatedField
error_at true name h hs None e later is = later (Some h.1) is
error_at true name h hs (Some value) e later is = cc
error_at false name h hs found e later is = later found is

-- several fields are the only problem
field_error : (name : List ℕ) (hs : List Header) (found : Option (List ℕ)) (e : Problem) → field_after name hs found ≡ Err e → e ≡ RepeatedField
field_error name [] found e is = cc
field_error name (h ∷ hs) found e is = error_at (is_named name h) name h hs found e (λ later. field_error name hs later e) is

pub repeated_host : (names : List (List ℕ)) (method : Method) (fields : List Header) (e : Problem) → Err e ≡ field_of (codes "host") fields → IsUnwelcome e names method fields
repeated_host names method fields e is =
    let only = field_error (codes "host") fields None e (sym is) in
    subst (λ p. IsUnwelcome p names method fields) (sym only) (inl (sym is ∙ ap Err only))

pub repeated_origin : (names : List (List ℕ)) (method : Method) (fields : List Header) (e : Problem) → Err e ≡ field_of (codes "origin") fields → IsUnwelcome e names method fields
repeated_origin names method fields e is =
    let only = field_error (codes "origin") fields None e (sym is) in
    subst (λ p. IsUnwelcome p names method fields) (sym only) (inr (sym is ∙ ap Err only))
