-- A lookup after a put.
use Rattle.std.proofs.Common.{◌≡◌, ◌≢◌, ℕ, Bool, true, false, cond, List, [], ◌∷◌, None, Some, sym, ap, ◌∙◌, refl}
use Rattle.std.proofs.lemmas.Map.Lookups.{exact_bytes}
use Rattle.std.proofs.lemmas.Map.Text.{is_eq-slice_cmp}
use Rattle.std.proofs.lemmas.Slice.Eq.{bytes_eq-Decides}
use Rattle.std.specs.Ordering.{is_eq, match_ordering}
use Rattle.std.specs.declared.cmp.Ordering.{Ordering}
use Rattle.std.specs.declared.cmp.Ordering.TheVariants.{Less, Equal, Greater}
use Rattle.ens_base.specs.Lists.{bytes_cmp}
use Rattle.environment.specs.Maps.{Entries, value_at, with_value}

-- a key equals itself
at_itself : (key : List ℕ) → is_eq (bytes_cmp key key) ≡ true
at_itself key = is_eq-slice_cmp key key ∙ (bytes_eq-Decides key key).1 refl

-- and no other key
apart : (other key : List ℕ) → other ≢ key → is_eq (bytes_cmp other key) ≡ false
apart other key ne = by (is_eq (bytes_cmp other key)) refl
  where
    by : (b : Bool) → is_eq (bytes_cmp other key) ≡ b → b ≡ false
    by true p = absurd (ne ((bytes_eq-Decides other key).0 (sym (is_eq-slice_cmp other key) ∙ p)))
    by false p = refl

pub found_after : (key bytes : List ℕ) (es : Entries) → value_at key (with_value key bytes es) ≡ Some bytes
found_after key bytes [] = ap (λ b. cond b (Some bytes) None) (at_itself key)
found_after key bytes (e ∷ es) = by (bytes_cmp key e.0) refl (found_after key bytes es)
  where
    by : (o : Ordering) → bytes_cmp key e.0 ≡ o → value_at key (with_value key bytes es) ≡ Some bytes
        → value_at key (match_ordering o ((key, bytes) ∷ e ∷ es) ((e.0, bytes) ∷ es) (e ∷ with_value key bytes es)) ≡ Some bytes
    by Less p later = ap (λ b. cond b (Some bytes) (value_at key (e ∷ es))) (at_itself key)
    by Equal p later = ap (λ o. cond (is_eq o) (Some bytes) (value_at key es)) p
    by Greater p later = ap (λ o. cond (is_eq o) (Some e.1) (value_at key (with_value key bytes es))) p ∙ later

pub others_after : (key other bytes : List ℕ) (es : Entries) → other ≢ key → value_at other (with_value key bytes es) ≡ value_at other es
others_after key other bytes [] ne = ap (λ b. cond b (Some bytes) None) (apart other key ne)
others_after key other bytes (e ∷ es) ne = by (bytes_cmp key e.0) refl (others_after key other bytes es ne)
  where
    by : (o : Ordering) → bytes_cmp key e.0 ≡ o → value_at other (with_value key bytes es) ≡ value_at other es
        → value_at other (match_ordering o ((key, bytes) ∷ e ∷ es) ((e.0, bytes) ∷ es) (e ∷ with_value key bytes es)) ≡ value_at other (e ∷ es)
    by Less p later = ap (λ b. cond b (Some bytes) (value_at other (e ∷ es))) (apart other key ne)
    by Equal p later =
        let away : is_eq (bytes_cmp other e.0) ≡ false = apart other e.0 (λ same. ne (same ∙ sym (exact_bytes key e.0 p))) in
        ap (λ b. cond b (Some bytes) (value_at other es)) away ∙ sym (ap (λ b. cond b (Some e.1) (value_at other es)) away)
    by Greater p later = ap (λ r. cond (is_eq (bytes_cmp other e.0)) (Some e.1) r) later
