-- Items one after the other: their grammar, and how a loop reads and writes them.
use Rattle.std.proofs.Common.{◌≡◌, ℕ, zero, suc, ◌-◌, ◌+◌, ◌≤◌, ◌<◌, List, [], ◌∷◌, ◌++◌, length, drop, take, get_or, Result, Ok, Err, refl, sym, ap, subst, ◌∙◌, append_assoc, append-nil, arith, length-append}
use Rattle.std.specs.List.{flat_map, AllByRecursion}
use Rattle.std.proofs.lemmas.List.{take_more, flat_map_more}
use Rattle.fields.specs.declared.field_error.FieldError.{FieldError}
use Rattle.fields.specs.declared.field_error.FieldError.TheVariants.{Short, Rule, Memory}
use Rattle.ens_base.specs.Limits.{IsBytes}
use Rattle.fields.specs.Places.{Spells}
use Rattle.ens_base.specs.Results.{◌>>=◌}
use Rattle.fields.specs.Reading.{Fails}
use Rattle.fields.specs.Grammar.{IsGrammar}
use Rattle.fields.proofs.ByteLaws.{Spells-then, drop-spelled}
use Rattle.fields.proofs.GrammarLaws.{Reader, bind_ok, ok_is}
use Rattle.tree_node.specs.Repeats.{list_at, AreListed}

list_found : {B A E : Type 0} (item : B → Reader A E) (after : A → B) (IsValid : B → A → Type 0) (spelling : A → List ℕ) → ((b : B) → IsGrammar (IsValid b) spelling (item b)) → (n : ℕ) (b : B) (bytes : List ℕ) (at : ℕ) (x : List A × ℕ)
    → IsBytes bytes → list_at item after n b bytes at ≡ Ok x → Spells bytes at (flat_map spelling x.0) x.1 × (AreListed IsValid after b x.0 × (length x.0 ≡ n))
unfolding list_at
list_found {A = A} {E = E} item after IsValid spelling g zero b bytes at x fits e =
    let none : Spells bytes at [] at = record { parts = refl; place = omega arith } in
    subst (λ (y : List A × ℕ). Spells bytes at (flat_map spelling y.0) y.1 × (AreListed IsValid after b y.0 × (length y.0 ≡ 0))) (ok_is E ([], at) x e) (none, (tt, refl))
list_found {A = A} {E = E} item after IsValid spelling g (suc n) b bytes at x fits e =
    let one = bind_ok (item b bytes at) (λ (first : A × ℕ). list_at item after n (after first.0) bytes first.1 >>= λ others. Ok (first.0 ∷ others.0, others.1)) x e in
    let two = bind_ok (list_at item after n (after one.0.0) bytes one.0.1) (λ (others : List A × ℕ). Ok (one.0.0 ∷ others.0, others.1)) x one.2 in
    let first = (g b).found bytes at one.0.0 one.0.1 fits one.1 in
    let second = list_found item after IsValid spelling g n (after one.0.0) bytes one.0.1 two.0 fits two.1 in
    let both = Spells-then bytes at (spelling one.0.0) one.0.1 (flat_map spelling two.0.0) two.0.1 first.0 second.0 in
    subst (λ (y : List A × ℕ). Spells bytes at (flat_map spelling y.0) y.1 × (AreListed IsValid after b y.0 × (length y.0 ≡ suc n))) (ok_is E (one.0.0 ∷ two.0.0, two.0.1) x two.2) (both, ((first.1, second.1.0), ap suc second.1.1))

list_again : {B A E : Type 0} (item : B → Reader A E) (after : A → B) (IsValid : B → A → Type 0) (spelling : A → List ℕ) → ((b : B) → IsGrammar (IsValid b) spelling (item b)) → (xs : List A) (b : B) (bytes : List ℕ) (at : ℕ) (rest : List ℕ)
    → AreListed IsValid after b xs → drop at bytes ≡ flat_map spelling xs ++ rest → list_at item after (length xs) b bytes at ≡ Ok (xs, at + length (flat_map spelling xs))
unfolding list_at
list_again {A = A} item after IsValid spelling g [] b bytes at rest good e = let place : at ≡ at + 0 = omega arith in ap (λ (n : ℕ). Ok ([], n)) place
list_again {A = A} item after IsValid spelling g (x ∷ xs) b bytes at rest good e =
    let regrouped : drop at bytes ≡ spelling x ++ (flat_map spelling xs ++ rest) = e ∙ append_assoc (spelling x) (flat_map spelling xs) rest in
    let first = (g b).again bytes at x (flat_map spelling xs ++ rest) good.0 regrouped in
    let second = list_again item after IsValid spelling g xs (after x) bytes (at + length (spelling x)) rest good.1 (drop-spelled bytes at (spelling x) (flat_map spelling xs ++ rest) regrouped) in
    let place : at + length (spelling x) + length (flat_map spelling xs) ≡ at + length (spelling x ++ flat_map spelling xs) = omega (arith, length-append (spelling x) (flat_map spelling xs)) in
    rw (first, second) (ap (λ (n : ℕ). Ok (x ∷ xs, n)) place)

pub list_grammar : {B A E : Type 0} (item : B → Reader A E) (after : A → B) (IsValid : B → A → Type 0) (spelling : A → List ℕ) → ((b : B) → IsGrammar (IsValid b) spelling (item b)) → (n : ℕ) (b : B)
    → IsGrammar (λ xs. AreListed IsValid after b xs × (length xs ≡ n)) (flat_map spelling) (list_at item after n b)
list_grammar item after IsValid spelling g n b = record {
  found = λ bytes at xs end fits e. list_found item after IsValid spelling g n b bytes at (xs, end) fits e;
  again = λ bytes at xs rest good e. ap (λ (m : ℕ). list_at item after m b bytes at) (sym good.1) ∙ list_again item after IsValid spelling g xs b bytes at rest good.0 e;
}

-- ---- loops

-- what was read before, and what is still read
abbrev pub with_prefix : {A E : Type 0} → List A → Result (List A × ℕ) E → Result (List A × ℕ) E
with_prefix prefix read = read >>= λ x. Ok (prefix ++ x.0, x.1)

regroup : {A : Type 0} (prefix : List A) (x : A) (read : Result (List A × ℕ) FieldError) → with_prefix prefix (read >>= λ y. Ok (x ∷ y.0, y.1)) ≡ with_prefix (prefix ++ x ∷ []) read
regroup prefix x (Ok y) = ap (λ xs. Ok (xs, y.1)) (sym (append_assoc prefix (x ∷ []) y.0))
regroup prefix x (Err e) = refl

pub goes_on : {B A : Type 0} (item : B → Reader A FieldError) (after : A → B) (count i : ℕ) (b : B) (bytes : List ℕ) (place : ℕ) (prefix : List A) (x : A) (next : ℕ) (total : Result (List A × ℕ) FieldError)
    → i < count → item b bytes place ≡ Ok (x, next) → with_prefix prefix (list_at item after (count - i) b bytes place) ≡ total → with_prefix (prefix ++ x ∷ []) (list_at item after (count - (i + 1)) (after x) bytes next) ≡ total
unfolding list_at
goes_on item after count i b bytes place prefix x next total lt h so_far =
    let k : count - i ≡ suc (count - (i + 1)) = omega arith in
    let one : with_prefix prefix (list_at item after (count - i) b bytes place) ≡ with_prefix (prefix ++ x ∷ []) (list_at item after (count - (i + 1)) (after x) bytes next) = rw (k, h) (regroup prefix x (list_at item after (count - (i + 1)) (after x) bytes next)) in
    sym one ∙ so_far

pub stops : {B A : Type 0} (e : FieldError) (item : B → Reader A FieldError) (after : A → B) (count i : ℕ) (b : B) (bytes : List ℕ) (place : ℕ) (prefix : List A) (total : Result (List A × ℕ) FieldError)
    → i < count → Fails e (item b bytes place) → with_prefix prefix (list_at item after (count - i) b bytes place) ≡ total → Fails e total
unfolding list_at
stops Memory item after count i b bytes place prefix total lt h so_far = tt
stops (Short at) item after count i b bytes place prefix total lt h so_far =
    let k : count - i ≡ suc (count - (i + 1)) = omega arith in
    let one : with_prefix prefix (list_at item after (count - i) b bytes place) ≡ Err (Short at) = rw (k, h) refl in
    sym so_far ∙ one
stops (Rule at) item after count i b bytes place prefix total lt h so_far =
    let k : count - i ≡ suc (count - (i + 1)) = omega arith in
    let one : with_prefix prefix (list_at item after (count - i) b bytes place) ≡ Err (Rule at) = rw (k, h) refl in
    sym so_far ∙ one

pub is_done : {B A : Type 0} (item : B → Reader A FieldError) (after : A → B) (count i : ℕ) (b : B) (bytes : List ℕ) (place : ℕ) (prefix : List A) (total : Result (List A × ℕ) FieldError)
    → count ≤ i → with_prefix prefix (list_at item after (count - i) b bytes place) ≡ total → total ≡ Ok (prefix, place)
unfolding list_at
is_done item after count i b bytes place prefix total le so_far =
    let k : count - i ≡ 0 = omega arith in
    let one : with_prefix prefix (list_at item after (count - i) b bytes place) ≡ Ok (prefix, place) = rw k (ap (λ xs. Ok (xs, place)) (append-nil prefix)) in
    sym so_far ∙ one

-- one item more was written
pub wrote_more : {A : Type 0} (spelling : A → List ℕ) (xs : List A) (i : ℕ) (x : A) (old mid new : List ℕ) → i < length xs → x ≡ get_or xs i x → mid ≡ old ++ flat_map spelling (take i xs) → new ≡ mid ++ spelling x → new ≡ old ++ flat_map spelling (take (i + 1) xs)
wrote_more spelling xs i x old mid new lt is so_far here =
    let prefix : take (i + 1) xs ≡ take i xs ++ x ∷ [] = take_more xs i x lt ∙ ap (λ y. take i xs ++ y ∷ []) (sym is) in
    here ∙ ap (λ (l : List ℕ). l ++ spelling x) so_far ∙ flat_map_more spelling old (take i xs) x ∙ ap (λ ys. old ++ flat_map spelling ys) (sym prefix)

pub fails_of : {A : Type 0} (e : FieldError) (read : Result A FieldError) → read ≡ Err e → Fails e read
fails_of Memory read h = tt
fails_of (Short at) read h = h
fails_of (Rule at) read h = h

pub all_more : {A : Type 0} (P : A → Type 0) (xs : List A) (x : A) → AllByRecursion P xs → P x → AllByRecursion P (xs ++ x ∷ [])
all_more P [] x h here = (here, tt)
all_more P (y ∷ xs) x h here = (h.0, all_more P xs x h.1 here)
