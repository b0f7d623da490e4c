-- Objects that match their entries.
use Rattle.std.proofs.Common.{◌≡◌, ℕ, zero, suc, ◌+◌, ◌<◌, Bool, true, false, cond, List, [], ◌∷◌, ◌++◌, length, get_or, take, drop, map, Option, None, Some, refl, ap, sym, ◌∙◌, arith}
use Rattle.std.specs.List.{AllByRecursion}
use Rattle.ens_base.proofs.Lists.{bytes_same}
use Rattle.ens_base.specs.Lists.{same_bytes}
use Rattle.ens_base.specs.declared.entry.Entry.{Entry}
use Rattle.stored_formats.specs.Objects.{object_spelling}
use Rattle.stored_formats.specs.declared.object.Object.{Object}
use Rattle.object_commands.specs.Kept.{is_named}
use Rattle.md5.specs.Md5.{md5}
use Rattle.synctree.proofs.Slices.{drop_at}
use Rattle.tree_repair.proofs.Lists.{get_map_or, map_map}
use Rattle.tree_repair.specs.Hashers.{digest_if}
use Rattle.tree_backup.specs.declared.item.Item.{Item}
use Rattle.tree_backup.specs.Checks.{names, matches, mismatch, text_at}
use Rattle.tree_backup.specs.Items.{entries_of}
use Rattle.tree_backup.specs.Runs.{matched}

pub key_named : (e : Entry) (o : Object) → names e (Some o) ≡ true → o.key ≡ e.key
key_named e o h = by (same_bytes o.key e.key) refl
  where
    by : (b : Bool) → same_bytes o.key e.key ≡ b → o.key ≡ e.key
    by true t = bytes_same o.key e.key t
    by false f =
        let no : is_named e o (md5 (object_spelling o)) ≡ false = rw f refl in
        let bad : true ≡ false = sym h ∙ no in absurd cc

pub all_match : (xs : List Item) → mismatch xs ≡ None → AllByRecursion (λ x. matches x ≡ true) xs
all_match [] h = tt
all_match (x ∷ xs) h = by (matches x) refl h (λ k. all_match xs k)
  where
    by : (b : Bool) → matches x ≡ b → cond b (mismatch xs) (Some x.entry.key) ≡ None → (mismatch xs ≡ None → AllByRecursion (λ y. matches y ≡ true) xs) → (matches x ≡ true) × AllByRecursion (λ y. matches y ≡ true) xs
    by true e k r = (e, r k)
    by false e k r = absurd cc

pub none_mismatch : (xs : List Item) → AllByRecursion (λ x. matches x ≡ true) xs → mismatch xs ≡ None
none_mismatch [] all = refl
none_mismatch (x ∷ xs) all = ap (λ b. cond b (mismatch xs) (Some x.entry.key)) all.0 ∙ none_mismatch xs all.1

matched_matches : (x : Item) → matches (matched x) ≡ true
matched_matches x = by (matches x) refl
  where
    by : (b : Bool) → matches x ≡ b → matches (cond b x (record { entry = x.entry; object = None })) ≡ true
    by true e = e
    by false e = refl

pub all_matched : (xs : List Item) → AllByRecursion (λ x. matches x ≡ true) (map matched xs)
all_matched [] = tt
all_matched (x ∷ xs) = (matched_matches x, all_matched xs)

matched_entry : (x : Item) (b : Bool) → (let made : Item = cond b x (record { entry = x.entry; object = None }) in made).entry ≡ x.entry
matched_entry x true = refl
matched_entry x false = refl

pub matched_entries : (xs : List Item) → entries_of (map matched xs) ≡ entries_of xs
matched_entries [] = refl
matched_entries (x ∷ xs) = λ i. matched_entry x (matches x) i ∷ matched_entries xs i

-- ## Loops

-- the digest of the object of an item
pub digest_at : (items : List Item) (digests : List (Option (List ℕ))) (i : ℕ) (x : Item) (d : Option (List ℕ)) → digests ≡ map digest_if (map text_at items) → i < length items → x ≡ get_or items i x → d ≡ get_or digests i d → d ≡ digest_if (text_at x)
digest_at items digests i x d all lt is at =
    let same : digests ≡ map (λ (y : Item). digest_if (text_at y)) items = all ∙ map_map digest_if text_at items in
    at ∙ ap (λ ys. get_or ys i d) same ∙ get_map_or (λ (y : Item). digest_if (text_at y)) items i x d lt is

pub mismatch_next : (xs : List Item) (i : ℕ) (x : Item) → i < length xs → x ≡ get_or xs i x → matches x ≡ true → mismatch (drop i xs) ≡ mismatch xs → mismatch (drop (i + 1) xs) ≡ mismatch xs
mismatch_next xs i x lt is agrees so_far =
    let here : mismatch (drop i xs) ≡ mismatch (drop (i + 1) xs) = ap mismatch (drop_at xs i x x lt is) ∙ ap (λ b. cond b (mismatch (drop (i + 1) xs)) (Some x.entry.key)) agrees in
    sym here ∙ so_far

-- an item that the loop has not come to is as it was
pub unchanged_at : {A : Type 0} (f : A → A) (xs zs : List A) (i : ℕ) (x : A) → i < length xs → zs ≡ map f (take i xs) ++ drop i xs → x ≡ get_or zs i x → x ≡ get_or xs i x
unchanged_at f xs zs i x lt so_far is = is ∙ ap (λ ys. get_or ys i x) so_far ∙ by f xs i x lt
  where
    by : {A : Type 0} (f : A → A) (ys : List A) (j : ℕ) (d : A) → j < length ys → get_or (map f (take j ys) ++ drop j ys) j d ≡ get_or ys j d
    by f [] j d l = absurd (omega arith)
    by f (y ∷ ys) zero d l = refl
    by f (y ∷ ys) (suc j) d l = by f ys j d (omega arith)
