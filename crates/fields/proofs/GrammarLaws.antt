-- Grammars from the grammars of their parts.
use Rattle.std.proofs.Common.{◌≡◌, ℕ, ◌+◌, Bool, true, false, cond, List, [], ◌++◌, length, drop, Result, Ok, Err, refl, sym, ap, subst, ◌∙◌, append_assoc, append-nil, arith, length-append}
use Rattle.std.proofs.lemmas.List.{append_cancel_left, drop_all}
use Rattle.ens_base.specs.Limits.{IsBytes}
use Rattle.fields.specs.Places.{Spells}
use Rattle.ens_base.specs.Results.{◌>>=◌}
use Rattle.fields.specs.Grammar.{IsGrammar}
use Rattle.fields.proofs.ByteLaws.{Spells-then, drop-spelled}

abbrev pub Reader : Type 0 → Type 0 → Type 0
Reader A E = List ℕ → ℕ → Result (A × ℕ) E

-- the value of a step that did not fail
pub bind_ok : {A B E : Type 0} (r : Result A E) (f : A → Result B E) (y : B) → (r >>= f) ≡ Ok y → (x : A) × (r ≡ Ok x) × (f x ≡ Ok y)
bind_ok (Ok x) f y e = (x, refl, e)
bind_ok (Err d) f y e = absurd cc

-- a test that passed
pub test_ok : {A E : Type 0} (b : Bool) (r : Result A E) (d : E) (y : A) → cond b r (Err d) ≡ Ok y → (b ≡ true) × (r ≡ Ok y)
test_ok true r d y e = (refl, e)
test_ok false r d y e = absurd cc

-- a test for a fault that failed
pub guard_ok : {A E : Type 0} (b : Bool) (d : E) (r : Result A E) (y : A) → cond b (Err d) r ≡ Ok y → (b ≡ false) × (r ≡ Ok y)
guard_ok true d r y e = absurd cc
guard_ok false d r y e = (refl, e)

abbrev pub right : (E : Type 0) {A : Type 0} → A → Result A E
right E x = Ok x

pub ok_is : (E : Type 0) {A : Type 0} (x y : A) → right E x ≡ right E y → x ≡ y
ok_is E x y e = cc

-- another word for the same valid values
pub valid_as : {A E : Type 0} {IsValid IsGood : A → Type 0} {spelling : A → List ℕ} {read : Reader A E} → ((x : A) → IsValid x → IsGood x) → ((x : A) → IsGood x → IsValid x)
    → IsGrammar IsValid spelling read → IsGrammar IsGood spelling read
valid_as there back g = record {
  found = λ bytes at x end fits e. let h = g.found bytes at x end fits e in (h.0, there x h.1);
  again = λ bytes at x rest good e. g.again bytes at x rest (back x good) e;
}

-- another form of the same spelling
pub spelled_as : {A E : Type 0} {IsValid : A → Type 0} {spelling text : A → List ℕ} {read : Reader A E} → ((x : A) → IsValid x → spelling x ≡ text x)
    → IsGrammar IsValid spelling read → IsGrammar IsValid text read
spelled_as same g = record {
  found = λ bytes at x end fits e. let h = g.found bytes at x end fits e in (subst (λ (s : List ℕ). Spells bytes at s end) (same x h.1) h.0, h.1);
  again = λ bytes at x rest good e. g.again bytes at x rest good (e ∙ ap (λ (s : List ℕ). s ++ rest) (sym (same x good))) ∙ ap (λ (s : List ℕ). Ok (x, at + length s)) (same x good);
}

-- a field and what follows it, where P is known of the value from the fields before
pub field_then : {A B E : Type 0} {IsPart : A → Type 0} {part_spelling : A → List ℕ} {part_read : Reader A E} → IsGrammar IsPart part_spelling part_read → (part : B → A)
    → {P IsRest : B → Type 0} {rest_spelling : B → List ℕ} (next : A × ℕ → ℕ → List ℕ → Result (B × ℕ) E)
    → ((a : A) (start : ℕ) → IsPart a → IsGrammar (λ b. (P b × (part b ≡ a)) × IsRest b) rest_spelling (λ bytes at. next (a, at) start bytes))
    → IsGrammar (λ b. P b × (IsPart (part b) × IsRest b)) (λ b. part_spelling (part b) ++ rest_spelling b) (λ bytes at. part_read bytes at >>= λ x. next x at bytes)
field_then {A = A} {B = B} {E = E} {IsPart = IsPart} {part_spelling = part_spelling} {part_read = part_read} g part {P = P} {IsRest = IsRest} {rest_spelling = rest_spelling} next rest = record {
  found = λ bytes at x end fits e.
      let step = bind_ok (part_read bytes at) (λ (y : A × ℕ). next y at bytes) (x, end) e in
      let first = g.found bytes at step.0.0 step.0.1 fits step.1 in
      let second = (rest step.0.0 at first.1).found bytes step.0.1 x end fits step.2 in
      let both = Spells-then bytes at (part_spelling step.0.0) step.0.1 (rest_spelling x) end first.0 second.0 in
      let same : step.0.0 ≡ part x = sym second.1.0.1 in
      (subst (λ (a : A). Spells bytes at (part_spelling a ++ rest_spelling x) end) same both, (second.1.0.0, (subst IsPart same first.1, second.1.1)));
  again = λ bytes at x after good e.
      let regrouped : drop at bytes ≡ part_spelling (part x) ++ (rest_spelling x ++ after) = e ∙ append_assoc (part_spelling (part x)) (rest_spelling x) after in
      let first = g.again bytes at (part x) (rest_spelling x ++ after) good.1.0 regrouped in
      let later = drop-spelled bytes at (part_spelling (part x)) (rest_spelling x ++ after) regrouped in
      let second = (rest (part x) at good.1.0).again bytes (at + length (part_spelling (part x))) x after ((good.0, refl), good.1.1) later in
      let place : at + length (part_spelling (part x)) + length (rest_spelling x) ≡ at + length (part_spelling (part x) ++ rest_spelling x) = omega (arith, length-append (part_spelling (part x)) (rest_spelling x)) in
      ap (λ (r : Result (A × ℕ) E). r >>= λ y. next y at bytes) first ∙ second ∙ ap (λ (n : ℕ). Ok (x, n)) place;
}

-- the last field, where P and the field determine the value
pub field_last : {A B E : Type 0} {IsPart : A → Type 0} {spelling : A → List ℕ} {read : Reader A E} → IsGrammar IsPart spelling read → (part : B → A) (make : A → B)
    → {P : B → Type 0} → ((a : A) → part (make a) ≡ a) → ((a : A) → P (make a)) → ((b : B) → P b → make (part b) ≡ b)
    → IsGrammar (λ b. P b × IsPart (part b)) (λ b. spelling (part b)) (λ bytes at. read bytes at >>= λ x. Ok (make x.0, x.1))
field_last {A = A} {B = B} {E = E} {IsPart = IsPart} {spelling = spelling} {read = read} g part make {P = P} taken known determined = record {
  found = λ bytes at x end fits e.
      let step = bind_ok (read bytes at) (λ (y : A × ℕ). Ok (make y.0, y.1)) (x, end) e in
      let first = g.found bytes at step.0.0 step.0.1 fits step.1 in
      let made : (make step.0.0, step.0.1) ≡ (x, end) = ok_is E (make step.0.0, step.0.1) (x, end) step.2 in
      let is : make step.0.0 ≡ x = ap (λ (p : B × ℕ). p.0) made in
      let ends : step.0.1 ≡ end = ap (λ (p : B × ℕ). p.1) made in
      let same : step.0.0 ≡ part x = sym (taken step.0.0) ∙ ap part is in
      (subst (λ (a : A). Spells bytes at (spelling a) end) same (subst (λ (n : ℕ). Spells bytes at (spelling step.0.0) n) ends first.0), (subst P is (known step.0.0), subst IsPart same first.1));
  again = λ bytes at x after good e.
      let first = g.again bytes at (part x) after good.1 e in
      ap (λ (r : Result (A × ℕ) E). r >>= λ y. Ok (make y.0, y.1)) first ∙ ap (λ (b : B). Ok (b, at + length (spelling (part x)))) (determined x good.0);
}

-- a grammar behind a test that does not depend on the bytes
pub tested : {A E : Type 0} {IsValid : A → Type 0} {spelling : A → List ℕ} {read : Reader A E} (test : Bool) (fault : E) → IsGrammar IsValid spelling read
    → IsGrammar (λ x. (test ≡ true) × IsValid x) spelling (λ bytes at. cond test (read bytes at) (Err fault))
tested {IsValid = IsValid} {spelling = spelling} {read = read} test fault g = record {
  found = λ bytes at x end fits e.
      let t = test_ok test (read bytes at) fault (x, end) e in
      let h = g.found bytes at x end fits t.1 in
      (h.0, (t.0, h.1));
  again = λ bytes at x rest good e. rw (good.0) (g.again bytes at x rest good.1 e);
}

-- one value, which takes no bytes
pub nothing : {A E : Type 0} (a : A) → IsGrammar {E = E} (λ x. a ≡ x) (λ _. []) (λ bytes at. Ok (a, at))
nothing {A = A} {E = E} a = record {
  found = λ bytes at x end fits e.
      let made : (a, at) ≡ (x, end) = ok_is E (a, at) (x, end) e in
      let is : a ≡ x = ap (λ (p : A × ℕ). p.0) made in
      let ends : at ≡ end = ap (λ (p : A × ℕ). p.1) made in
      (subst (λ (n : ℕ). Spells bytes at [] n) ends (record { parts = refl; place = omega arith }), is);
  again = λ bytes at x rest good e. let place : at ≡ at + 0 = omega arith in ap (λ (p : A × ℕ). Ok p) (λ i. (good i, place i));
}

-- a field whose value is tested after it was read
pub checked : {A E : Type 0} {IsValid : A → Type 0} {spelling : A → List ℕ} {read : Reader A E} (test : A → Bool) (fault : ℕ → E) → IsGrammar IsValid spelling read
    → IsGrammar (λ x. IsValid x × (test x ≡ true)) spelling (λ bytes at. read bytes at >>= λ x. cond (test x.0) (Ok x) (Err (fault at)))
checked {A = A} {E = E} {IsValid = IsValid} {spelling = spelling} {read = read} test fault g = record {
  found = λ bytes at x end fits e.
      let step = bind_ok (read bytes at) (λ (y : A × ℕ). cond (test y.0) (Ok y) (Err (fault at))) (x, end) e in
      let first = g.found bytes at step.0.0 step.0.1 fits step.1 in
      let t = test_ok (test step.0.0) (right E step.0) (fault at) (x, end) step.2 in
      subst (λ (p : A × ℕ). Spells bytes at (spelling p.0) p.1 × (IsValid p.0 × (test p.0 ≡ true))) (ok_is E step.0 (x, end) t.1) (first.0, (first.1, t.0));
  again = λ bytes at x rest good e.
      let first = g.again bytes at x rest good.0 e in
      ap (λ (r : Result (A × ℕ) E). r >>= λ y. cond (test y.0) (Ok y) (Err (fault at))) first ∙ ap (λ (b : Bool). cond b (right E (x, at + length (spelling x))) (Err (fault at))) good.1;
}

-- no spelling begins another one
pub apart : {A E : Type 0} {IsValid : A → Type 0} {spelling : A → List ℕ} {read : Reader A E} → IsGrammar IsValid spelling read
    → (x y : A) (a b : List ℕ) → IsValid x → IsValid y → spelling x ++ a ≡ spelling y ++ b → (x ≡ y) × (a ≡ b)
apart {A = A} {E = E} {spelling = spelling} {read = read} g x y a b good fine same =
    let one = g.again (spelling x ++ a) 0 x a good refl in
    let two = g.again (spelling x ++ a) 0 y b fine same in
    let both : right E (x, 0 + length (spelling x)) ≡ right E (y, 0 + length (spelling y)) = sym one ∙ two in
    let is : x ≡ y = ap (λ (p : A × ℕ). p.0) (ok_is E _ _ both) in
    let rest : spelling x ++ a ≡ spelling x ++ b = same ∙ ap (λ (z : A). spelling z ++ b) (sym is) in
    (is, append_cancel_left (spelling x) a b rest)

-- what is read to the end is spelled by all of the bytes
pub whole_found : {A E : Type 0} {IsValid : A → Type 0} {spelling : A → List ℕ} {read : Reader A E} → IsGrammar IsValid spelling read
    → (bytes : List ℕ) (x : A) → IsBytes bytes → read bytes 0 ≡ Ok (x, length bytes) → IsValid x × (bytes ≡ spelling x)
whole_found {spelling = spelling} g bytes x fits e =
    let h = g.found bytes 0 x (length bytes) fits e in
    (h.1, h.0.parts ∙ ap (λ (l : List ℕ). spelling x ++ l) (drop_all (length bytes) bytes (omega arith)) ∙ append-nil (spelling x))

-- what is spelled by all of the bytes is read to the end
pub whole_again : {A E : Type 0} {IsValid : A → Type 0} {spelling : A → List ℕ} {read : Reader A E} → IsGrammar IsValid spelling read
    → (bytes : List ℕ) (x : A) → IsValid x → bytes ≡ spelling x → read bytes 0 ≡ Ok (x, length bytes)
whole_again {A = A} {E = E} {spelling = spelling} g bytes x good e =
    let size : 0 + length (spelling x) ≡ length bytes = omega (arith, ap length e) in
    g.again bytes 0 x [] good (e ∙ sym (append-nil (spelling x))) ∙ ap (λ (n : ℕ). right (E) (x, n)) size
