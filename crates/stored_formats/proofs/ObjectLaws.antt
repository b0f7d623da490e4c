-- The grammar of objects.
use Rattle.std.proofs.Common.{◌≡◌, ℕ, ◌<◌, Bool, true, false, cond, eqb, List, [], ◌∷◌, ◌++◌, length, Option, None, Some, Result, Ok, Err, refl, sym, ◌∙◌, append_assoc, arith, eq-eqb}
use Rattle.std.proofs.lemmas.Bool.{eqb-true, eqb-false}
use Rattle.ens_base.specs.declared.epoch.Version.{Version}
use Rattle.fields.specs.declared.fault.Fault.{Fault}
use Rattle.fields.specs.declared.fault.Fault.TheVariants.{Ended, Broken, NoMemory}
use Rattle.fields.specs.Grammar.{IsGrammar}
use Rattle.ens_base.specs.Limits.{IsVersion, IsKey, IsValue, IsBytes}
use Rattle.fields.specs.Versions.{version_spelling}
use Rattle.fields.specs.Strings.{key_spelling, value_spelling}
use Rattle.fields.proofs.GrammarLaws.{valid_as, spelled_as, field_then, field_last, nothing, right, ok_is, whole_found, whole_again}
use Rattle.fields.proofs.NumberLaws.{byte_grammar}
use Rattle.fields.proofs.FieldLaws.{version_grammar, key_grammar, value_grammar}
use Rattle.fields.proofs.FaultLaws.{with_rule_grammar, plain_grammar}
use Rattle.stored_formats.specs.declared.object.Object.{Object}
use Rattle.stored_formats.specs.declared.object_error.ObjectRule.{ObjectRule}
use Rattle.stored_formats.specs.declared.object_error.ObjectRule.TheVariants as rules
use Rattle.std.specs.Prelude.{IfOk}
use Rattle.fields.specs.Faults.{Finds}
use Rattle.stored_formats.specs.declared.object_error.ObjectError.{ObjectError}
use Rattle.stored_formats.specs.declared.object_error.ObjectError.TheVariants as errors
use Rattle.stored_formats.specs.Objects.{IsContent, IsObject, content_spelling, object_spelling, held_at, content_at, object_at, all_of, object_of, Answers}

-- the tag of the content
abbrev tag_of : Option (List ℕ) → ℕ
tag_of None = 0
tag_of (Some value) = 1

-- what stands behind the tag
abbrev held_spelling : Option (List ℕ) → List ℕ
held_spelling None = []
held_spelling (Some value) = value_spelling value

abbrev value_of : Option (List ℕ) → List ℕ
value_of None = []
value_of (Some value) = value

made_held : (o : Option (List ℕ)) → tag_of o ≡ 1 → Some (value_of o) ≡ o
made_held None e = absurd (omega arith)
made_held (Some value) e = refl

held_to : (o : Option (List ℕ)) → (tag_of o ≡ 1) × IsValue (value_of o) → (tag_of o ≡ 1) × IsContent o
held_to None h = absurd (omega (arith, h.0))
held_to (Some value) h = h

held_from : (o : Option (List ℕ)) → (tag_of o ≡ 1) × IsContent o → (tag_of o ≡ 1) × IsValue (value_of o)
held_from None h = absurd (omega (arith, h.0))
held_from (Some value) h = h

held_spelled : (o : Option (List ℕ)) → (tag_of o ≡ 1) × IsContent o → value_spelling (value_of o) ≡ held_spelling o
held_spelled None h = absurd (omega (arith, h.0))
held_spelled (Some value) h = refl

held_grammar : IsGrammar (λ o. (tag_of o ≡ 1) × IsContent o) held_spelling held_at
unfolding held_at
held_grammar =
    let parts : IsGrammar (λ o. (tag_of o ≡ 1) × IsValue (value_of o)) (λ o. value_spelling (value_of o)) held_at =
    field_last (with_rule_grammar rules.ValueLength value_grammar) value_of (λ value. Some value) (λ _. refl) (λ _. refl) made_held in
    spelled_as held_spelled (valid_as held_to held_from parts)

none_is : (o : Option (List ℕ)) → (tag_of o ≡ 0) → None ≡ o
none_is None e = refl
none_is (Some value) e = absurd (omega arith)

is_none : (o : Option (List ℕ)) → None ≡ o → (tag_of o ≡ 0) × IsContent o
is_none None e = (refl, tt)
is_none (Some value) e = absurd cc

none_spelled : (o : Option (List ℕ)) → None ≡ o → [] ≡ held_spelling o
none_spelled None e = refl
none_spelled (Some value) e = absurd cc

none_grammar : IsGrammar {E = Fault ObjectRule} (λ o. (tag_of o ≡ 0) × IsContent o) held_spelling (λ bytes at. Ok (None, at))
none_grammar = valid_as is_none (λ o h. none_is o h.0) (spelled_as none_spelled (nothing None))

fault_is_no : {A : Type 0} (d : Fault ObjectRule) (x : A) → (let left : Result A (Fault ObjectRule) = Err d in left) ≡ Ok x → ⊥
fault_is_no d x e = cc

tag_is : (o : Option (List ℕ)) → (tag_of o ≡ 0 → ⊥) → (tag_of o ≡ 1 → ⊥) → ⊥
tag_is None a b = a refl
tag_is (Some value) a b = b refl

tagged_by : (n start : ℕ) (none held : Bool) → eqb n 0 ≡ none → eqb n 1 ≡ held → IsGrammar (λ o. (Unit {0} × (tag_of o ≡ n)) × IsContent o) held_spelling
    (λ bytes at. cond none (right (Fault ObjectRule) (None, at)) (cond held (held_at bytes at) (Err (Broken rules.Tag start))))
tagged_by n start true held a b = let is : n ≡ 0 = eqb-true _ _ a in valid_as (λ o h. ((tt, h.0 ∙ sym is), h.1)) (λ o h. (h.0.1 ∙ is, h.1)) none_grammar
tagged_by n start false true a b = let is : n ≡ 1 = eqb-true _ _ b in valid_as (λ o h. ((tt, h.0 ∙ sym is), h.1)) (λ o h. (h.0.1 ∙ is, h.1)) held_grammar
tagged_by n start false false a b = record {
  found = λ bytes at x end fits e. absurd (fault_is_no (Broken rules.Tag start) (x, end) e);
  again = λ bytes at x rest good e. absurd (tag_is x (λ zero. eqb-false _ _ a (sym good.0.1 ∙ zero)) (λ one. eqb-false _ _ b (sym good.0.1 ∙ one)));
}

tag_fits : (o : Option (List ℕ)) → tag_of o < 256
tag_fits None = omega arith
tag_fits (Some value) = omega arith

tag_spelled : (o : Option (List ℕ)) → tag_of o ∷ held_spelling o ≡ content_spelling o
tag_spelled None = refl
tag_spelled (Some value) = refl

pub content_grammar : IsGrammar IsContent content_spelling content_at
unfolding content_at
content_grammar =
    let parts : IsGrammar (λ o. Unit {0} × ((tag_of o < 256) × IsContent o)) (λ o. tag_of o ∷ held_spelling o) content_at =
    field_then (plain_grammar ObjectRule byte_grammar) tag_of _ (λ n start _. tagged_by n start (eqb n 0) (eqb n 1) refl refl) in
    spelled_as (λ o _. tag_spelled o) (valid_as (λ o h. h.1.1) (λ o h. (tt, (tag_fits o, h))) parts)

remade : (o : Object) (version stamp : Version) (key : List ℕ) → version ≡ o.version → stamp ≡ o.stamp → key ≡ o.key → (let made : Object = record { version = version; stamp = stamp; key = key; value = o.value } in made) ≡ o
remade o version stamp key v s k = λ i. record { version = v i; stamp = s i; key = k i; value = o.value }

pub object_grammar : IsGrammar IsObject object_spelling object_at
unfolding object_at
object_grammar =
    let parts : IsGrammar (λ (o : Object). Unit {0} × (IsVersion o.version × (IsVersion o.stamp × (IsKey o.key × IsContent o.value))))
    (λ o. version_spelling o.version ++ (version_spelling o.stamp ++ (key_spelling o.key ++ content_spelling o.value))) object_at =
    field_then (plain_grammar ObjectRule version_grammar) (λ (o : Object). o.version) _
    (λ version _ _. field_then (plain_grammar ObjectRule version_grammar) (λ (o : Object). o.stamp) _
    (λ stamp _ _. field_then (with_rule_grammar rules.KeyLength key_grammar) (λ (o : Object). o.key) _
    (λ key _ _. field_last content_grammar (λ (o : Object). o.value) (λ value. record { version = version; stamp = stamp; key = key; value = value }) (λ _. refl) (λ _. (((tt, refl), refl), refl))
    (λ o h. remade o version stamp key (sym h.0.0.1) (sym h.0.1) (sym h.1))))) in
    valid_as (λ o h. record { version = h.1.0; stamp = h.1.1.0; key = h.1.1.1.0; content = h.1.1.1.1 }) (λ o h. (tt, (h.version, (h.stamp, (h.key, h.content)))))
    (spelled_as (λ o h. sym (append_assoc (version_spelling o.version ++ version_spelling o.stamp) (key_spelling o.key) (content_spelling o.value) ∙ append_assoc (version_spelling o.version) (version_spelling o.stamp) (key_spelling o.key ++ content_spelling o.value))) parts)

pub all_answers : (r read : Result (Object × ℕ) (Fault ObjectRule)) (size : ℕ) → Finds r read → Answers (all_of r size) (all_of read size)
all_answers (Ok x) read size h = rw h (same (eqb x.1 size))
  where
    same : (b : Bool) → Answers (cond b (Ok x.0) (Err errors.Trailing)) (cond b (Ok x.0) (Err errors.Trailing))
    same true = refl
    same false = refl
all_answers (Err (Ended at)) read size h = rw h refl
all_answers (Err (Broken rules.Tag at)) read size h = rw h refl
all_answers (Err (Broken rules.KeyLength at)) read size h = rw h refl
all_answers (Err (Broken rules.ValueLength at)) read size h = rw h refl
all_answers (Err NoMemory) read size h = tt

all_ok : (r : Result (Object × ℕ) (Fault ObjectRule)) (size : ℕ) (o : Object) → all_of r size ≡ right ObjectError o → r ≡ Ok (o, size)
all_ok (Ok x) size o e = by (eqb x.1 size) refl e
  where
    by : (b : Bool) → eqb x.1 size ≡ b → cond b (right ObjectError x.0) (Err errors.Trailing) ≡ right ObjectError o → (let made : Result (Object × ℕ) (Fault ObjectRule) = Ok x in made) ≡ Ok (o, size)
    by true t h = let is : x.0 ≡ o = ok_is ObjectError x.0 o h in let ends : x.1 ≡ size = eqb-true _ _ t in λ i. Ok (is i, ends i)
    by false t h = absurd cc
all_ok (Err (Ended at)) size o e = absurd cc
all_ok (Err (Broken rules.Tag at)) size o e = absurd cc
all_ok (Err (Broken rules.KeyLength at)) size o e = absurd cc
all_ok (Err (Broken rules.ValueLength at)) size o e = absurd cc
all_ok (Err NoMemory) size o e = absurd cc

-- what is read was spelled so
pub object_found : (bytes : List ℕ) (r : Result Object ObjectError) → IsBytes bytes → Answers r (object_of bytes) → IfOk r (λ o. IsObject o × (bytes ≡ object_spelling o))
object_found bytes (Ok o) fits h = whole_found object_grammar bytes o fits (all_ok (object_at bytes 0) (length bytes) o h)
object_found bytes (Err e) fits h = tt

-- what is spelled so is read
pub object_again : (bytes : List ℕ) (o : Object) → IsObject o → bytes ≡ object_spelling o → object_of bytes ≡ Ok o
object_again bytes o good e =
    let ends : eqb (length bytes) (length bytes) ≡ true = eq-eqb _ _ refl in
    rw (whole_again object_grammar bytes o good e, ends) refl
