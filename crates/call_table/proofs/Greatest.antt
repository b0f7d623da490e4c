-- The order of entries, and the best of a list of replies.
use Rattle.std.proofs.Common.{◌≡◌, List, [], ◌∷◌, Option, None, Some, inl, inr, ⊎_elim, refl, ap, sym, ◌∙◌}
use Rattle.std.specs.declared.cmp.Ordering.{Ordering}
use Rattle.std.specs.declared.cmp.Ordering.TheVariants.{Less, Equal, Greater}
use Rattle.std.specs.Ordering.{on, then_cmp, ordering_reverse}
use Rattle.std.specs.Cmp.{IsTotalOrder}
use Rattle.std.specs.Cmp.Lexicographic.{nat_list_cmp_total}
use Rattle.std.proofs.lemmas.Cmp.{then_total, on_total}
use Rattle.std.proofs.lemmas.Map.Lookups.{exact_bytes}
use Rattle.ens_base.proofs.Orders.{versions, both_equal, equal_versions}
use Rattle.ens_base.specs.Epochs.{version_cmp}
use Rattle.ens_base.specs.Lists.{bytes_cmp, ◌∈◌}
use Rattle.ens_base.specs.declared.entry.Entry.{Entry}
use Rattle.stored_formats.specs.declared.object.Object.{Object}
use Rattle.call_table.specs.declared.row.Found.{Found}
use Rattle.call_table.specs.Best.{entry_cmp, either_object, better_at, better, best_of, IsGreatest, IsBest}

-- ## The order of entries

pub entries : IsTotalOrder entry_cmp
entries = then_total (on_total (λ (e : Entry). e.version) versions) (then_total (on_total (λ (e : Entry). e.digest) nat_list_cmp_total) (on_total (λ (e : Entry). e.key) nat_list_cmp_total))

pub same_entries : (a b : Entry) → entry_cmp a b ≡ Equal → a ≡ b
same_entries a b h =
    let parts = both_equal (on (λ (e : Entry). e.version) version_cmp) (then_cmp (on (λ (e : Entry). e.digest) bytes_cmp) (on (λ (e : Entry). e.key) bytes_cmp)) a b h in
    let rest = both_equal (on (λ (e : Entry). e.digest) bytes_cmp) (on (λ (e : Entry). e.key) bytes_cmp) a b parts.1 in
    λ i. record { key = exact_bytes a.key b.key rest.1 i; version = equal_versions a.version b.version parts.0 i; digest = exact_bytes a.digest b.digest rest.0 i }

not_self : (a : Entry) → entry_cmp a a ≡ Less → ⊥
not_self a h = let back : Less ≡ Greater = sym h ∙ entries.antisymm a a ∙ ap ordering_reverse h in absurd cc

not_greater : (a : Entry) → entry_cmp a a ≡ Greater → ⊥
not_greater a h = let back : Greater ≡ Less = sym h ∙ entries.antisymm a a ∙ ap ordering_reverse h in absurd cc

-- ## One more reply

some_entry : (a b : Entry) → Some a ≡ Some b → a ≡ b
some_entry a b e = cc

entry_in : (a b : Entry) (x y : Option Object) → ◌≡◌ {A = Option Entry × Option Object} (Some a, x) (Some b, y) → a ≡ b
entry_in a b x y same = some_entry a b (ap (λ (r : Option Entry × Option Object). r.0) same)

object_in : (a b : Option Entry) (x y : Option Object) → ◌≡◌ {A = Option Entry × Option Object} (a, x) (b, y) → x ≡ y
object_in a b x y same = ap (λ (r : Option Entry × Option Object). r.1) same

has_entry : (a : Entry) (x y : Option Object) → ◌≡◌ {A = Option Entry × Option Object} (Some a, x) (None, y) → ⊥
has_entry a x y same = let no : Some a ≡ None = ap (λ (r : Option Entry × Option Object). r.0) same in absurd cc

has_object : (o : Object) (x : Option Object) → Some o ≡ x → x ≡ None → ⊥
has_object o x e n = let no : Some o ≡ None = e ∙ n in absurd cc

module _ (replies : List (Option Entry × Option Object)) where
  -- a reply without an entry
  none_more : (best : Option Found) (x : Option Object) → IsBest replies best → IsBest ((None, x) ∷ replies) best
  none_more None x h = λ e o at. ⊎_elim (λ same. has_entry e o x same) (λ old. h e o old) at
  none_more (Some f) x h = record {
    entry = (h.entry.0, inr h.entry.1);
    greatest = λ e o at. ⊎_elim (λ same. absurd (has_entry e o x same)) (λ old. h.greatest e o old) at;
    object = λ o is. inr (h.object o is);
    no_object = λ is o at. ⊎_elim (λ same. has_entry f.entry (Some o) x same) (λ old. h.no_object is o old) at;
  }

  -- a reply with an entry that no reply before it reaches
  module _ (e0 : Entry) (x : Option Object) (above : (e : Entry) (o : Option Object) → (Some e, o) ∈ replies → ¬ (entry_cmp e0 e ≡ Less)) (new : (o : Object) → ¬ ((Some e0, Some o) ∈ replies)) where
    newest : IsGreatest ((Some e0, x) ∷ replies) (record { entry = e0; object = x })
    newest = record {
      entry = (x, inl refl);
      greatest = λ e o at. ⊎_elim (λ same less. not_self e0 (ap (entry_cmp e0) (sym (entry_in e e0 o x same)) ∙ less)) (λ old. above e o old) at;
      object = λ o is. inl (ap (λ (y : Option Object). (Some e0, y)) (sym is));
      no_object = λ is o at. ⊎_elim (λ same. has_object o x (object_in (Some e0) (Some e0) (Some o) x same) is) (λ old. new o old) at;
    }

  module _ (f : Found) (h : IsGreatest replies f) (e0 : Entry) (x : Option Object) where
    by_order : (order : Ordering) → entry_cmp f.entry e0 ≡ order → IsGreatest ((Some e0, x) ∷ replies) (better_at order f e0 x)
    by_order Less less = newest e0 x (λ e o old later. h.greatest e o old (entries.trans f.entry e0 e less later)) (λ o old. h.greatest e0 (Some o) old less)
    by_order Equal equal = by_object f.object refl
      where
        one : f.entry ≡ e0
        one = same_entries f.entry e0 equal

        greatest : (e : Entry) (o : Option Object) → ((Some e, o) ∈ ((Some e0, x) ∷ replies)) → ¬ (entry_cmp f.entry e ≡ Less)
        greatest e o at = ⊎_elim (λ same. λ less. not_self e0 (ap (λ (a : Entry). entry_cmp a e0) (sym one) ∙ ap (entry_cmp f.entry) (sym (entry_in e e0 o x same)) ∙ less)) (λ old. h.greatest e o old) at

        by_object : (held : Option Object) → f.object ≡ held → IsGreatest ((Some e0, x) ∷ replies) (record { entry = f.entry; object = either_object held x })
        by_object (Some y) is = record {
          entry = (h.entry.0, inr h.entry.1);
          greatest = greatest;
          object = λ o same. inr (h.object o (is ∙ same));
          no_object = λ none o at. absurd (has_object y (Some y) refl none);
        }
        by_object None is = record {
          entry = (h.entry.0, inr h.entry.1);
          greatest = greatest;
          object = λ o same. inl (λ i. (Some (one i), sym same i));
          no_object = λ none o at. ⊎_elim (λ same. has_object o x (object_in (Some f.entry) (Some e0) (Some o) x same) none) (λ old. h.no_object is o old) at;
        }
    by_order Greater greater = record {
      entry = (h.entry.0, inr h.entry.1);
      greatest = λ e o at. ⊎_elim (λ same. λ less. absurd (both greater (ap (entry_cmp f.entry) (sym (entry_in e e0 o x same)) ∙ less))) (λ old. h.greatest e o old) at;
      object = λ o is. inr (h.object o is);
      no_object = λ is o at. ⊎_elim (λ same. not_greater f.entry (ap (entry_cmp f.entry) (entry_in f.entry e0 (Some o) x same) ∙ greater)) (λ old. h.no_object is o old) at;
    }
      where
        both : entry_cmp f.entry e0 ≡ Greater → entry_cmp f.entry e0 ≡ Less → ⊥
        both g l = let no : Greater ≡ Less = sym g ∙ l in absurd cc

  one_more : (best : Option Found) (entry : Option Entry) (x : Option Object) → IsBest replies best → IsBest ((entry, x) ∷ replies) (better best entry x)
  one_more None None x h = none_more None x h
  one_more (Some f) None x h = none_more (Some f) x h
  one_more None (Some e0) x h = newest e0 x (λ e o old. absurd (h e o old)) (λ o old. h e0 (Some o) old)
  one_more (Some f) (Some e0) x h = by_order f h e0 x (entry_cmp f.entry e0) refl

pub best_is_greatest : (replies : List (Option Entry × Option Object)) → IsBest replies (best_of replies)
best_is_greatest [] = λ e o at. at
best_is_greatest (r ∷ replies) = one_more replies (best_of replies) r.0 r.1 (best_is_greatest replies)
