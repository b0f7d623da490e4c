-- A page of a segment.
use Rattle.std.proofs.Common.{◌≡◌, ℕ, zero, suc, ◌+◌, ◌<◌, ◌≤◌, Bool, true, false, cond, List, [], ◌∷◌, ◌++◌, Option, length, get_or, take, drop, refl, ap, sym, ◌∙◌, arith}
use Rattle.std.specs.Prelude.{filter, nat_lt}
use Rattle.std.proofs.lemmas.Bool.Decides.{nat_tests}
use Rattle.ens_base.specs.declared.entry.Entry.{Entry}
use Rattle.tree_node.specs.declared.body.TreeBody.TheVariants.{Page}
use Rattle.synctree.proofs.Slices.{take_all}
use Rattle.tree_exchange.specs.Gives.{is_beyond, beyond, page_of}

take_first : {A : Type 0} (xs ys : List A) (n : ℕ) → length xs ≡ n → take n (xs ++ ys) ≡ xs
take_first [] ys zero e = refl
take_first [] ys (suc n) e = absurd (omega arith)
take_first (x ∷ xs) ys zero e = absurd (omega arith)
take_first (x ∷ xs) ys (suc n) e = ap (λ zs. x ∷ zs) (take_first xs ys n (omega arith))

length_more : {A : Type 0} (xs ys : List A) (y : A) → length xs < length (xs ++ y ∷ ys)
length_more [] ys y = omega arith
length_more (x ∷ xs) ys y = omega (arith, length_more xs ys y)

split_at : {A : Type 0} (xs : List A) (i : ℕ) (x : A) → i < length xs → x ≡ get_or xs i x → xs ≡ take i xs ++ x ∷ drop (i + 1) xs
split_at {A = A} xs i x l e = let next : i + 1 ≡ suc i = omega arith in rw next (by xs i l e)
  where
    by : (ys : List A) (j : ℕ) → j < length ys → x ≡ get_or ys j x → ys ≡ take j ys ++ x ∷ drop (suc j) ys
    by [] j l e = absurd (omega arith)
    by (y ∷ ys) zero l e = ap (λ z. z ∷ ys) (sym e)
    by (y ∷ ys) (suc j) l e = ap (λ zs. y ∷ zs) (by ys j (omega arith) e)

filter_append : (p : Entry → Bool) (xs ys : List Entry) → filter p (xs ++ ys) ≡ filter p xs ++ filter p ys
filter_append p [] ys = refl
filter_append p (x ∷ xs) ys = by (p x) (filter_append p xs ys)
  where
    by : (b : Bool) → filter p (xs ++ ys) ≡ filter p xs ++ filter p ys → cond b (x ∷ filter p (xs ++ ys)) (filter p (xs ++ ys)) ≡ cond b (x ∷ filter p xs) (filter p xs) ++ filter p ys
    by true h = ap (λ zs. x ∷ zs) h
    by false h = h

-- the page is full, and one more entry follows
pub page_full : (after : Option (List ℕ)) (es : List Entry) (i : ℕ) (e : Entry) (page : List Entry) → i < length es → e ≡ get_or es i e → is_beyond after e.key ≡ true → page ≡ beyond after (take i es) → length page ≡ 32 → Page page true ≡ page_of after es
page_full after es i e page l at is has full = λ j. Page (first j) (longer j)
  where
    rest : beyond after (e ∷ drop (i + 1) es) ≡ e ∷ beyond after (drop (i + 1) es)
    rest = rw is refl

    all : beyond after es ≡ page ++ e ∷ beyond after (drop (i + 1) es)
    all = ap (beyond after) (split_at es i e l at) ∙ filter_append (λ x. is_beyond after x.key) (take i es) (e ∷ drop (i + 1) es) ∙ (λ j. sym has j ++ rest j)

    first : page ≡ take 32 (beyond after es)
    first = sym (ap (take 32) all ∙ take_first page (e ∷ beyond after (drop (i + 1) es)) 32 full)

    longer : true ≡ nat_lt 32 (length (beyond after es))
    longer =
        let more : length page < length (page ++ e ∷ beyond after (drop (i + 1) es)) = length_more page (beyond after (drop (i + 1) es)) e in
        let test : nat_lt 32 (length (page ++ e ∷ beyond after (drop (i + 1) es))) ≡ true = grind (arith, nat_tests) in
        sym (ap (λ xs. nat_lt 32 (length xs)) all ∙ test)

-- all entries beyond the key are on the page
pub page_whole : (after : Option (List ℕ)) (es : List Entry) (i : ℕ) (page : List Entry) → length es ≤ i → page ≡ beyond after (take i es) → length page ≤ 32 → Page page false ≡ page_of after es
page_whole after es i page l has few = λ j. Page (first j) (shorter j)
  where
    all : beyond after es ≡ page
    all = ap (beyond after) (sym (take_all es i l)) ∙ sym has

    first : page ≡ take 32 (beyond after es)
    first = sym (ap (take 32) all ∙ take_all page 32 few)

    shorter : false ≡ nat_lt 32 (length (beyond after es))
    shorter =
        let test : nat_lt 32 (length page) ≡ false = grind (arith, nat_tests) in
        sym (ap (λ xs. nat_lt 32 (length xs)) all ∙ test)
