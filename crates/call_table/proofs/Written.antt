-- A row that is written in place is the row that an insertion leaves.
use Rattle.std.proofs.Common.{◌≡◌, ℕ, List, [], ◌∷◌, Option, Some, None, Ordering, Less, Equal, Greater, refl, sym, ap, ◌∙◌}
use Rattle.std.proofs.lemmas.Cmp.{nat_list_cmp_total}
use Rattle.std.proofs.lemmas.Map.{lookup-none}
use Rattle.std.proofs.lemmas.Map.Entries.{none_below_head}
use Rattle.std.proofs.lemmas.Map.Keys.{sorted_tail}
use Rattle.std.specs.BTreeMap.{insert_entry, is_at}
use Rattle.std.specs.List.Sorted.{IsStrictlySortedBy}
use Rattle.std.specs.Map.{keys_of, lookup, set_value}
use Rattle.ens_base.specs.Lists.{bytes_cmp}
use Rattle.call_table.specs.Rows.{Rows, row_at, row_or_fresh, with_row}
use Rattle.call_table.specs.declared.row.KeyRow.{KeyRow}

module _ {X : Type 0} (key : List ℕ) (v w : X) where
  pub written_in_place : (es : List (List ℕ × X)) → IsStrictlySortedBy bytes_cmp (keys_of es) → lookup (is_at (bytes_cmp key)) es ≡ Some v
      → set_value (is_at (bytes_cmp key)) es w ≡ insert_entry bytes_cmp es key w
  written_in_place [] sorted found = absurd cc
  written_in_place (e ∷ es) sorted found = by_order (bytes_cmp key e.0) refl (written_in_place es)
    where
      by_order : (o : Ordering) → bytes_cmp key e.0 ≡ o
          → (IsStrictlySortedBy bytes_cmp (keys_of es) → lookup (is_at (bytes_cmp key)) es ≡ Some v → set_value (is_at (bytes_cmp key)) es w ≡ insert_entry bytes_cmp es key w)
          → set_value (is_at (bytes_cmp key)) (e ∷ es) w ≡ insert_entry bytes_cmp (e ∷ es) key w
      by_order Less order later =
          let none : None ≡ Some v = sym (lookup-none (is_at (bytes_cmp key)) (e ∷ es) (none_below_head nat_list_cmp_total key e es sorted order)) ∙ found in
          absurd cc
      by_order Equal order later = rw order refl
      by_order Greater order later = rw order (ap (λ (rest : List (List ℕ × X)). e ∷ rest) (later (sorted_tail bytes_cmp e.0 (keys_of es) sorted) (rw order at found)))

-- a row that is changed through the reference at its key
pub changed_in_place : (key : List ℕ) (change : KeyRow → KeyRow) (was : KeyRow) (held rows left : Rows) → IsStrictlySortedBy bytes_cmp (keys_of held) → Some was ≡ lookup (is_at (bytes_cmp key)) held → held ≡ rows
    → left ≡ set_value (is_at (bytes_cmp key)) held (change was) → left ≡ with_row key (change (row_at key rows)) rows
unfolding row_at
changed_in_place key change was held rows left sorted found same wrote =
    wrote ∙ written_in_place key was (change was) held sorted (sym found)
    ∙ ap (λ (row : Option KeyRow). insert_entry bytes_cmp held key (change (row_or_fresh row))) found
    ∙ ap (λ (es : Rows). insert_entry bytes_cmp es key (change (row_or_fresh (lookup (is_at (bytes_cmp key)) es)))) same
