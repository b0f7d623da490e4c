-- How keys compare.
use Rattle.std.proofs.Common.{◌≡◌, ℕ, List, sym, subst, ◌∙◌}
use Rattle.std.specs.Cmp.{IsEquivalence}
use Rattle.std.specs.List.{Contains, dedup}
use Rattle.std.specs.List.Sorted.{IsPermutation, IsSorted, IsStrictlySortedBy}
use Rattle.std.specs.Ordering.{eq_by_cmp}
use Rattle.std.proofs.lemmas.Cmp.{eq_by_cmp_equiv, nat_list_cmp_total}
use Rattle.std.proofs.lemmas.List.Kept.{Contains-dedup, Contains-from_dedup, IsStrictlySortedBy-dedup}
use Rattle.std.proofs.lemmas.List.Sorted.{Contains-permutation, IsPermutation-sym}
use Rattle.std.proofs.lemmas.Map.Text.{is_eq-slice_cmp}
use Rattle.ens_base.specs.Lists.{same_bytes, bytes_cmp}
use Rattle.history_scribe.specs.Histories.{AreSorted}
use Rattle.ens_base.proofs.Lists.{bytes_same}

alike_ties : (xs ys : List ℕ) → same_bytes xs ys ≡ eq_by_cmp bytes_cmp xs ys
alike_ties xs ys = sym (is_eq-slice_cmp xs ys)

keys_alike : IsEquivalence same_bytes
keys_alike =
    let order : IsEquivalence (eq_by_cmp bytes_cmp) = eq_by_cmp_equiv nat_list_cmp_total in
    record {
      refl = λ x. alike_ties x x ∙ order.refl x;
      symm = λ x y. alike_ties x y ∙ order.symm x y ∙ sym (alike_ties y x);
      congr = λ x y z same. alike_ties x z ∙ order.congr x y z (sym (alike_ties x y) ∙ same) ∙ sym (alike_ties y z);
    }

-- copies of keys that were sorted and deduplicated
pub sorted_once : (named copied moved kept : List (List ℕ)) → copied ≡ named → IsPermutation copied moved → IsSorted bytes_cmp moved → kept ≡ dedup same_bytes moved → AreSorted named kept
sorted_once named copied moved kept copies permuted sorts is =
    let back : (key : List ℕ) → Contains kept key → Contains copied key = λ key has.
    Contains-permutation moved copied key (IsPermutation-sym copied moved permuted) (Contains-from_dedup same_bytes moved key (subst (λ (ks : List (List ℕ)). Contains ks key) is has)) in
    let forth : (key : List ℕ) → Contains copied key → Contains kept key = λ key has.
    subst (λ (ks : List (List ℕ)). Contains ks key) (sym is) (Contains-dedup keys_alike bytes_same moved key (Contains-permutation copied moved key permuted has)) in
    record {
      same = λ key. (λ has. subst (λ (ks : List (List ℕ)). Contains ks key) copies (back key has), λ has. forth key (subst (λ (ks : List (List ℕ)). Contains ks key) (sym copies) has));
      ascending = subst (λ (ks : List (List ℕ)). IsStrictlySortedBy bytes_cmp ks) (sym is) (IsStrictlySortedBy-dedup nat_list_cmp_total alike_ties moved sorts);
    }
