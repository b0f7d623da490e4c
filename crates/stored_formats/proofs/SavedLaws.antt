-- The grammar of saved facts.
use Rattle.std.proofs.Common.{◌≡◌, ℕ, ◌<◌, Bool, true, false, cond, eqb, List, [], ◌++◌, length, Option, None, Some, Result, Ok, Err, refl, sym, ap, ◌∙◌, append-nil, arith, eq-eqb}
use Rattle.std.specs.Prelude.{IfOk}
use Rattle.std.proofs.lemmas.Bool.{eqb-true, eqb-false}
use Rattle.fields.specs.declared.fault.Fault.{Fault}
use Rattle.fields.specs.declared.fault.Fault.TheVariants.{Ended, Broken, NoMemory}
use Rattle.ens_base.specs.Limits.{IsBytes}
use Rattle.fields.specs.Grammar.{IsGrammar}
use Rattle.fields.specs.Numbers.{IsRun}
use Rattle.fields.proofs.GrammarLaws.{valid_as, spelled_as, field_then, field_last, right, ok_is, whole_found, whole_again}
use Rattle.fields.proofs.NumberLaws.{byte_grammar, run_grammar}
use Rattle.fields.proofs.FaultLaws.{plain_grammar}
use Rattle.stored_formats.specs.declared.saved.SavedFact.{SavedFact}
use Rattle.stored_formats.specs.declared.fact_error.FactRule.{FactRule}
use Rattle.stored_formats.specs.declared.fact_error.FactRule.TheVariants as rules
use Rattle.stored_formats.specs.declared.fact_error.FactError.{FactError}
use Rattle.stored_formats.specs.declared.fact_error.FactError.TheVariants as errors
use Rattle.stored_formats.specs.FactBytes.{IsFact}
use Rattle.stored_formats.specs.SavedBytes.{IsSeal, IsSaved, version_of, seal_spelling, fields_spelling, saved_spelling, unsealed_at, sealed_at, saved_at, all_saved, saved_of}
use Rattle.stored_formats.proofs.FactLaws.{fields_grammar, fault_is_no}

none_is : (o : Option (List ℕ)) → version_of o ≡ 1 → None ≡ o
none_is None e = refl
none_is (Some d) e = absurd (omega (arith, e))

seal_is : (o : Option (List ℕ)) → version_of o ≡ 2 → Some (seal_spelling o) ≡ o
seal_is None e = absurd (omega (arith, e))
seal_is (Some d) e = refl

run_of : (o : Option (List ℕ)) → version_of o ≡ 2 → IsSeal o → IsRun 16 (seal_spelling o)
run_of None e h = absurd (omega (arith, e))
run_of (Some d) e h = h

seal_of : (o : Option (List ℕ)) → version_of o ≡ 2 → IsRun 16 (seal_spelling o) → IsSeal o
seal_of None e h = absurd (omega (arith, e))
seal_of (Some d) e h = h

no_seal : (o : Option (List ℕ)) → version_of o ≡ 1 → IsSeal o
no_seal None e = tt
no_seal (Some d) e = absurd (omega (arith, e))

no_bytes : (o : Option (List ℕ)) → version_of o ≡ 1 → seal_spelling o ≡ []
no_bytes None e = refl
no_bytes (Some d) e = absurd (omega (arith, e))

abbrev body : SavedFact → List ℕ
body s = fields_spelling s.fact ++ seal_spelling s.seal

unsealed_grammar : IsGrammar (λ s. (version_of s.seal ≡ 1) × IsSaved s) body unsealed_at
unfolding unsealed_at
unsealed_grammar =
    let parts : IsGrammar (λ (s : SavedFact). (version_of s.seal ≡ 1) × IsFact s.fact) (λ s. fields_spelling s.fact) unsealed_at =
    field_last fields_grammar (λ (s : SavedFact). s.fact) (λ fact. record { fact = fact; seal = None }) (λ _. refl) (λ _. refl) (λ s h. λ i. record { fact = s.fact; seal = none_is s.seal h i }) in
    spelled_as (λ s h. sym (ap (λ (l : List ℕ). fields_spelling s.fact ++ l) (no_bytes s.seal h.0) ∙ append-nil (fields_spelling s.fact)))
    (valid_as (λ s h. (h.0, record { fact = h.1; seal = no_seal s.seal h.0 })) (λ s h. (h.0, h.1.fact)) parts)

sealed_grammar : IsGrammar (λ s. (version_of s.seal ≡ 2) × IsSaved s) body sealed_at
unfolding sealed_at
sealed_grammar =
    let parts : IsGrammar (λ (s : SavedFact). (version_of s.seal ≡ 2) × (IsFact s.fact × IsRun 16 (seal_spelling s.seal))) body sealed_at =
    field_then fields_grammar (λ (s : SavedFact). s.fact) _
    (λ fact _ _. field_last (plain_grammar FactRule (run_grammar 16)) (λ (s : SavedFact). seal_spelling s.seal) (λ seal. record { fact = fact; seal = Some seal }) {P = λ s. (version_of s.seal ≡ 2) × (s.fact ≡ fact)} (λ _. refl) (λ _. (refl, refl))
    (λ s h. λ i. record { fact = sym h.1 i; seal = seal_is s.seal h.0 i })) in
    valid_as (λ s h. (h.0, record { fact = h.1.0; seal = seal_of s.seal h.0 h.1.1 })) (λ s h. (h.0, (h.1.fact, run_of s.seal h.0 h.1.seal))) parts

tag_is : (o : Option (List ℕ)) → (version_of o ≡ 1 → ⊥) → (version_of o ≡ 2 → ⊥) → ⊥
tag_is None a b = a refl
tag_is (Some d) a b = b refl

tagged : (n start : ℕ) (plain sealed : Bool) → eqb n 1 ≡ plain → eqb n 2 ≡ sealed → IsGrammar (λ s. (Unit {0} × (version_of s.seal ≡ n)) × IsSaved s) body
    (λ bytes at. cond plain (unsealed_at bytes at) (cond sealed (sealed_at bytes at) (Err (Broken rules.Tag start))))
tagged n start true sealed a b = let is : n ≡ 1 = eqb-true _ _ a in valid_as (λ s h. ((tt, h.0 ∙ sym is), h.1)) (λ s h. (h.0.1 ∙ is, h.1)) unsealed_grammar
tagged n start false true a b = let is : n ≡ 2 = eqb-true _ _ b in valid_as (λ s h. ((tt, h.0 ∙ sym is), h.1)) (λ s h. (h.0.1 ∙ is, h.1)) sealed_grammar
tagged n start false false a b = record {
  found = λ bytes at s end fits e. absurd (fault_is_no (Broken rules.Tag start) (s, end) e);
  again = λ bytes at s rest good e. absurd (tag_is s.seal (λ one. eqb-false _ _ a (sym good.0.1 ∙ one)) (λ two. eqb-false _ _ b (sym good.0.1 ∙ two)));
}

version_fits : (o : Option (List ℕ)) → version_of o < 256
version_fits None = omega arith
version_fits (Some d) = omega arith

pub saved_grammar : IsGrammar IsSaved saved_spelling saved_at
unfolding saved_at
saved_grammar =
    let parts : IsGrammar (λ (s : SavedFact). Unit {0} × ((version_of s.seal < 256) × IsSaved s)) saved_spelling saved_at =
    field_then (plain_grammar FactRule byte_grammar) (λ (s : SavedFact). version_of s.seal) _ (λ n start _. tagged n start (eqb n 1) (eqb n 2) refl refl) in
    valid_as (λ s h. h.1.1) (λ s h. (tt, (version_fits s.seal, h))) parts

all_ok : (r : Result (SavedFact × ℕ) (Fault FactRule)) (size : ℕ) (s : SavedFact) → all_saved r size ≡ right FactError s → r ≡ Ok (s, size)
all_ok (Ok x) size s e = by (eqb x.1 size) refl e
  where
    by : (b : Bool) → eqb x.1 size ≡ b → cond b (right FactError x.0) (Err errors.Trailing) ≡ right FactError s → (let made : Result (SavedFact × ℕ) (Fault FactRule) = Ok x in made) ≡ Ok (s, size)
    by true t h = let is : x.0 ≡ s = ok_is FactError x.0 s h in let ends : x.1 ≡ size = eqb-true _ _ t in λ i. Ok (is i, ends i)
    by false t h = absurd cc
all_ok (Err (Ended at)) size s e = absurd cc
all_ok (Err (Broken rules.Tag at)) size s e = absurd cc
all_ok (Err (Broken rules.View at)) size s e = absurd cc
all_ok (Err NoMemory) size s e = absurd cc

-- what is read was spelled so
pub saved_found : (bytes : List ℕ) (r : Result SavedFact FactError) → IsBytes bytes → saved_of bytes ≡ r → IfOk r (λ s. IsSaved s × (bytes ≡ saved_spelling s))
saved_found bytes (Ok s) fits h = whole_found saved_grammar bytes s fits (all_ok (saved_at bytes 0) (length bytes) s h)
saved_found bytes (Err e) fits h = tt

-- what is spelled so is read
pub saved_again : (bytes : List ℕ) (s : SavedFact) → IsSaved s → bytes ≡ saved_spelling s → saved_of bytes ≡ Ok s
saved_again bytes s good e =
    let ends : eqb (length bytes) (length bytes) ≡ true = eq-eqb _ _ refl in
    rw (whole_again saved_grammar bytes s good e, ends) refl
