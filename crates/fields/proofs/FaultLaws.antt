-- Faults with the name of a rule, and without.
use Rattle.std.proofs.Common.{◌≡◌, ℕ, List, Result, Ok, Err, ap}
use Rattle.fields.specs.declared.field_error.FieldError.{FieldError}
use Rattle.fields.specs.declared.field_error.FieldError.TheVariants.{Short, Rule, Memory}
use Rattle.fields.specs.declared.fault.Fault.{Fault}
use Rattle.fields.specs.declared.fault.Fault.TheVariants.{Ended, Broken, NoMemory}
use Rattle.fields.specs.Grammar.{IsGrammar}
use Rattle.fields.specs.Faults.{with_rule, plain, without_rule}
use Rattle.fields.proofs.GrammarLaws.{Reader, ok_is, right}

with_rule_ok : {X R : Type 0} (rule : R) (r : Result X FieldError) (x : X) → with_rule rule r ≡ right (Fault R) x → r ≡ Ok x
with_rule_ok {R = R} rule (Ok y) x e = ap (λ z. Ok z) (ok_is (Fault R) y x e)
with_rule_ok rule (Err (Short at)) x e = absurd cc
with_rule_ok rule (Err (Rule at)) x e = absurd cc
with_rule_ok rule (Err Memory) x e = absurd cc

plain_ok : {X : Type 0} (R : Type 0) (r : Result X FieldError) (x : X) → plain r ≡ right (Fault R) x → r ≡ Ok x
plain_ok R (Ok y) x e = ap (λ z. Ok z) (ok_is (Fault R) y x e)
plain_ok R (Err (Short at)) x e = absurd cc
plain_ok R (Err (Rule at)) x e = absurd cc
plain_ok R (Err Memory) x e = absurd cc

without_rule_ok : {X R : Type 0} (r : Result X (Fault R)) (x : X) → without_rule r ≡ right FieldError x → r ≡ Ok x
without_rule_ok (Ok y) x e = ap (λ z. Ok z) (ok_is FieldError y x e)
without_rule_ok (Err (Ended at)) x e = absurd cc
without_rule_ok (Err (Broken rule at)) x e = absurd cc
without_rule_ok (Err NoMemory) x e = absurd cc

pub with_rule_grammar : {A R : Type 0} (rule : R) {IsValid : A → Type 0} {spelling : A → List ℕ} {read : Reader A FieldError} → IsGrammar IsValid spelling read
    → IsGrammar IsValid spelling (λ bytes at. with_rule rule (read bytes at))
with_rule_grammar rule {read = read} g = record {
  found = λ bytes at x end fits e. g.found bytes at x end fits (with_rule_ok rule (read bytes at) (x, end) e);
  again = λ bytes at x rest good e. ap (with_rule rule) (g.again bytes at x rest good e);
}

pub plain_grammar : {A : Type 0} (R : Type 0) {IsValid : A → Type 0} {spelling : A → List ℕ} {read : Reader A FieldError} → IsGrammar IsValid spelling read
    → IsGrammar IsValid spelling (λ bytes at. plain {R = R} (read bytes at))
plain_grammar R {read = read} g = record {
  found = λ bytes at x end fits e. g.found bytes at x end fits (plain_ok R (read bytes at) (x, end) e);
  again = λ bytes at x rest good e. ap (plain {R = R}) (g.again bytes at x rest good e);
}

pub without_rule_grammar : {A R : Type 0} {IsValid : A → Type 0} {spelling : A → List ℕ} {read : Reader A (Fault R)} → IsGrammar IsValid spelling read
    → IsGrammar IsValid spelling (λ bytes at. without_rule (read bytes at))
without_rule_grammar {read = read} g = record {
  found = λ bytes at x end fits e. g.found bytes at x end fits (without_rule_ok (read bytes at) (x, end) e);
  again = λ bytes at x rest good e. ap without_rule (g.again bytes at x rest good e);
}
