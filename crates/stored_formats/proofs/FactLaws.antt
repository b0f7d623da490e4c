-- The grammar of facts.
use Rattle.std.proofs.Common.{◌≡◌, ℕ, ◌<◌, ◌^◌, Bool, true, false, cond, eqb, List, [], ◌∷◌, length, Result, Ok, Err, refl, sym, ap, subst, ◌∙◌, append_assoc, arith, eq-eqb}
use Rattle.std.specs.Prelude.{IfOk}
use Rattle.std.proofs.lemmas.Bool.{eqb-true, eqb-false}
use Rattle.ens_base.specs.View.{IsView}
use Rattle.ens_base.specs.declared.epoch.Epoch.{Epoch}
use Rattle.fields.specs.declared.fault.Fault.{Fault}
use Rattle.fields.specs.declared.fault.Fault.TheVariants.{Ended, Broken, NoMemory}
use Rattle.ens_base.specs.Limits.{IsBytes, IsEpoch}
use Rattle.fields.specs.Grammar.{IsGrammar}
use Rattle.fields.specs.Views.{view_spelling, AreViews}
use Rattle.fields.proofs.GrammarLaws.{valid_as, spelled_as, field_then, field_last, tested, nothing, right, ok_is, whole_found, whole_again}
use Rattle.fields.proofs.NumberLaws.{byte_grammar, u32_grammar, u64_grammar}
use Rattle.fields.proofs.FieldLaws.{epoch_grammar}
use Rattle.fields.proofs.ViewLaws.{view_grammar, views_grammar}
use Rattle.fields.proofs.FaultLaws.{with_rule_grammar, plain_grammar}
use Rattle.stored_formats.specs.declared.fact.Fact.{Fact}
use Rattle.stored_formats.specs.declared.fact.Change.{Change}
use Rattle.stored_formats.specs.declared.fact.Change.TheVariants as changes
use Rattle.stored_formats.specs.declared.fact_error.FactRule.{FactRule}
use Rattle.stored_formats.specs.declared.fact_error.FactRule.TheVariants as rules
use Rattle.stored_formats.specs.declared.fact_error.FactError.{FactError}
use Rattle.stored_formats.specs.declared.fact_error.FactError.TheVariants as errors
use Rattle.stored_formats.specs.SavedBytes.{fields_spelling}
use Rattle.stored_formats.specs.FactBytes.{IsChange, IsFact, change_spelling, fact_spelling, added_at, change_at, fields_at, fact_at, all_of, fact_of}

abbrev tag_of : Change → ℕ
tag_of changes.None = 0
tag_of (changes.Add view) = 1
tag_of changes.Drop = 2

-- what stands behind the tag
abbrev body_spelling : Change → List ℕ
body_spelling changes.None = []
body_spelling (changes.Add view) = view_spelling view
body_spelling changes.Drop = []

abbrev view_of : Change → List ℕ
view_of changes.None = []
view_of (changes.Add view) = view
view_of changes.Drop = []

made_added : (x : Change) → tag_of x ≡ 1 → changes.Add (view_of x) ≡ x
made_added changes.None e = absurd (omega arith)
made_added (changes.Add view) e = refl
made_added changes.Drop e = absurd (omega arith)

added_to : (x : Change) → (tag_of x ≡ 1) × IsView (view_of x) → (tag_of x ≡ 1) × IsChange x
added_to changes.None h = absurd (omega (arith, h.0))
added_to (changes.Add view) h = h
added_to changes.Drop h = absurd (omega (arith, h.0))

added_from : (x : Change) → (tag_of x ≡ 1) × IsChange x → (tag_of x ≡ 1) × IsView (view_of x)
added_from changes.None h = absurd (omega (arith, h.0))
added_from (changes.Add view) h = h
added_from changes.Drop h = absurd (omega (arith, h.0))

added_spelled : (x : Change) → (tag_of x ≡ 1) × IsChange x → view_spelling (view_of x) ≡ body_spelling x
added_spelled changes.None h = absurd (omega (arith, h.0))
added_spelled (changes.Add view) h = refl
added_spelled changes.Drop h = absurd (omega (arith, h.0))

added_grammar : IsGrammar (λ x. (tag_of x ≡ 1) × IsChange x) body_spelling added_at
unfolding added_at
added_grammar =
    let parts : IsGrammar (λ x. (tag_of x ≡ 1) × IsView (view_of x)) (λ x. view_spelling (view_of x)) added_at =
    field_last (with_rule_grammar rules.View view_grammar) view_of (λ view. changes.Add view) (λ _. refl) (λ _. refl) made_added in
    spelled_as added_spelled (valid_as added_to added_from parts)

none_is : (x : Change) → tag_of x ≡ 0 → changes.None ≡ x
none_is changes.None e = refl
none_is (changes.Add view) e = absurd (omega arith)
none_is changes.Drop e = absurd (omega arith)

drop_is : (x : Change) → tag_of x ≡ 2 → changes.Drop ≡ x
drop_is changes.None e = absurd (omega arith)
drop_is (changes.Add view) e = absurd (omega arith)
drop_is changes.Drop e = refl

is_none : (x : Change) → changes.None ≡ x → (tag_of x ≡ 0) × IsChange x
is_none x e = subst (λ (y : Change). (tag_of y ≡ 0) × IsChange y) e (refl, tt)

is_drop : (x : Change) → changes.Drop ≡ x → (tag_of x ≡ 2) × IsChange x
is_drop x e = subst (λ (y : Change). (tag_of y ≡ 2) × IsChange y) e (refl, tt)

none_grammar : IsGrammar {E = Fault FactRule} (λ x. (tag_of x ≡ 0) × IsChange x) body_spelling (λ bytes at. Ok (changes.None, at))
none_grammar = valid_as is_none (λ x h. none_is x h.0) (spelled_as (λ x e. subst (λ (y : Change). [] ≡ body_spelling y) e refl) (nothing changes.None))

drop_grammar : IsGrammar {E = Fault FactRule} (λ x. (tag_of x ≡ 2) × IsChange x) body_spelling (λ bytes at. Ok (changes.Drop, at))
drop_grammar = valid_as is_drop (λ x h. drop_is x h.0) (spelled_as (λ x e. subst (λ (y : Change). [] ≡ body_spelling y) e refl) (nothing changes.Drop))

pub fault_is_no : {A : Type 0} (d : Fault FactRule) (x : A) → (let left : Result A (Fault FactRule) = Err d in left) ≡ Ok x → ⊥
fault_is_no d x e = cc

tag_is : (x : Change) → (tag_of x ≡ 0 → ⊥) → (tag_of x ≡ 1 → ⊥) → (tag_of x ≡ 2 → ⊥) → ⊥
tag_is changes.None a b c = a refl
tag_is (changes.Add view) a b c = b refl
tag_is changes.Drop a b c = c refl

tagged_by : (n start : ℕ) (none added dropped : Bool) → eqb n 0 ≡ none → eqb n 1 ≡ added → eqb n 2 ≡ dropped → IsGrammar (λ x. (Unit {0} × (tag_of x ≡ n)) × IsChange x) body_spelling
    (λ bytes at. cond none (right (Fault FactRule) (changes.None, at)) (cond added (added_at bytes at) (cond dropped (Ok (changes.Drop, at)) (Err (Broken rules.Tag start)))))
tagged_by n start true added dropped a b c = let is : n ≡ 0 = eqb-true _ _ a in valid_as (λ x h. ((tt, h.0 ∙ sym is), h.1)) (λ x h. (h.0.1 ∙ is, h.1)) none_grammar
tagged_by n start false true dropped a b c = let is : n ≡ 1 = eqb-true _ _ b in valid_as (λ x h. ((tt, h.0 ∙ sym is), h.1)) (λ x h. (h.0.1 ∙ is, h.1)) added_grammar
tagged_by n start false false true a b c = let is : n ≡ 2 = eqb-true _ _ c in valid_as (λ x h. ((tt, h.0 ∙ sym is), h.1)) (λ x h. (h.0.1 ∙ is, h.1)) drop_grammar
tagged_by n start false false false a b c = record {
  found = λ bytes at x end fits e. absurd (fault_is_no (Broken rules.Tag start) (x, end) e);
  again = λ bytes at x rest good e. absurd (tag_is x (λ zero. eqb-false _ _ a (sym good.0.1 ∙ zero)) (λ one. eqb-false _ _ b (sym good.0.1 ∙ one)) (λ two. eqb-false _ _ c (sym good.0.1 ∙ two)));
}

tag_fits : (x : Change) → tag_of x < 256
tag_fits changes.None = omega arith
tag_fits (changes.Add view) = omega arith
tag_fits changes.Drop = omega arith

tag_spelled : (x : Change) → tag_of x ∷ body_spelling x ≡ change_spelling x
tag_spelled changes.None = refl
tag_spelled (changes.Add view) = refl
tag_spelled changes.Drop = refl

pub change_grammar : IsGrammar IsChange change_spelling change_at
unfolding change_at
change_grammar =
    let parts : IsGrammar (λ x. Unit {0} × ((tag_of x < 256) × IsChange x)) (λ x. tag_of x ∷ body_spelling x) change_at =
    field_then (plain_grammar FactRule byte_grammar) tag_of _ (λ n start _. tagged_by n start (eqb n 0) (eqb n 1) (eqb n 2) refl refl refl) in
    spelled_as (λ x _. tag_spelled x) (valid_as (λ x h. h.1.1) (λ x h. (tt, (tag_fits x, h))) parts)

remade : (f : Fact) (ballot epoch : Epoch) (seq leader : ℕ) (views : List (List ℕ)) → ballot ≡ f.ballot → epoch ≡ f.epoch → seq ≡ f.seq → leader ≡ f.leader → views ≡ f.views
    → (let made : Fact = record { ballot = ballot; epoch = epoch; seq = seq; leader = leader; views = views; change = f.change } in made) ≡ f
remade f ballot epoch seq leader views b e s l v = λ i. record { ballot = b i; epoch = e i; seq = s i; leader = l i; views = v i; change = f.change }

pub fields_grammar : IsGrammar IsFact fields_spelling fields_at
unfolding fields_at
fields_grammar =
    let parts : IsGrammar (λ (f : Fact). Unit {0} × (IsEpoch f.ballot × (IsEpoch f.epoch × ((f.seq < 2 ^ 64) × ((f.leader < 2 ^ 32) × (AreViews f.views × IsChange f.change)))))) fields_spelling fields_at =
    field_then (plain_grammar FactRule epoch_grammar) (λ (f : Fact). f.ballot) _
    (λ ballot _ _. field_then (plain_grammar FactRule epoch_grammar) (λ (f : Fact). f.epoch) _
    (λ epoch _ _. field_then (plain_grammar FactRule u64_grammar) (λ (f : Fact). f.seq) _
    (λ seq _ _. field_then (plain_grammar FactRule u32_grammar) (λ (f : Fact). f.leader) _
    (λ leader _ _. field_then (with_rule_grammar rules.View views_grammar) (λ (f : Fact). f.views) _
    (λ views _ _. field_last change_grammar (λ (f : Fact). f.change) (λ change. record { ballot = ballot; epoch = epoch; seq = seq; leader = leader; views = views; change = change })
    (λ _. refl) (λ _. (((((tt, refl), refl), refl), refl), refl))
    (λ f h. remade f ballot epoch seq leader views (sym h.0.0.0.0.1) (sym h.0.0.0.1) (sym h.0.0.1) (sym h.0.1) (sym h.1))))))) in
    valid_as (λ f h. record { ballot = h.1.0; epoch = h.1.1.0; seq = h.1.1.1.0; leader = h.1.1.1.1.0; views = h.1.1.1.1.1.0; change = h.1.1.1.1.1.1 })
    (λ f h. (tt, (h.ballot, (h.epoch, (h.seq, (h.leader, (h.views, h.change))))))) parts

pub regrouped : (f : Fact) → 1 ∷ fields_spelling f ≡ fact_spelling f
regrouped f = ap (λ (l : List ℕ). 1 ∷ l) (sym (simp append_assoc))

pub fact_grammar : IsGrammar IsFact fact_spelling fact_at
unfolding fact_at
fact_grammar =
    let parts : IsGrammar (λ (f : Fact). Unit {0} × ((1 < 256) × IsFact f)) (λ f. 1 ∷ fields_spelling f) fact_at =
    field_then (plain_grammar FactRule byte_grammar) (λ (f : Fact). 1) _
    (λ n start _. valid_as (λ f h. ((tt, sym (eqb-true _ _ h.0)), h.1)) (λ f h. (ap (λ (m : ℕ). eqb m 1) (sym h.0.1), h.1)) (tested (eqb n 1) (Broken rules.Tag start) fields_grammar)) in
    spelled_as (λ f _. regrouped f) (valid_as (λ f h. h.1.1) (λ f h. (tt, (omega arith, h))) parts)

all_ok : (r : Result (Fact × ℕ) (Fault FactRule)) (size : ℕ) (f : Fact) → all_of r size ≡ right FactError f → r ≡ Ok (f, size)
all_ok (Ok x) size f e = by (eqb x.1 size) refl e
  where
    by : (b : Bool) → eqb x.1 size ≡ b → cond b (right FactError x.0) (Err errors.Trailing) ≡ right FactError f → (let made : Result (Fact × ℕ) (Fault FactRule) = Ok x in made) ≡ Ok (f, size)
    by true t h = let is : x.0 ≡ f = ok_is FactError x.0 f h in let ends : x.1 ≡ size = eqb-true _ _ t in λ i. Ok (is i, ends i)
    by false t h = absurd cc
all_ok (Err (Ended at)) size f e = absurd cc
all_ok (Err (Broken rules.Tag at)) size f e = absurd cc
all_ok (Err (Broken rules.View at)) size f e = absurd cc
all_ok (Err NoMemory) size f e = absurd cc

-- what is read was spelled so
pub fact_found : (bytes : List ℕ) (r : Result Fact FactError) → IsBytes bytes → fact_of bytes ≡ r → IfOk r (λ f. IsFact f × (bytes ≡ fact_spelling f))
fact_found bytes (Ok f) fits h = whole_found fact_grammar bytes f fits (all_ok (fact_at bytes 0) (length bytes) f h)
fact_found bytes (Err e) fits h = tt

-- what is spelled so is read
pub fact_again : (bytes : List ℕ) (f : Fact) → IsFact f → bytes ≡ fact_spelling f → fact_of bytes ≡ Ok f
fact_again bytes f good e =
    let ends : eqb (length bytes) (length bytes) ≡ true = eq-eqb _ _ refl in
    rw (whole_again fact_grammar bytes f good e, ends) refl
