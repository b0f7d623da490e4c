-- When a tree is kept.
use Rattle.std.proofs.Common.{◌≡◌, Bool, true, false, ◌&&◌, List, [], ◌∷◌, refl, subst}
use Rattle.ens_base.proofs.Lists.{bytes_same, bytes_itself}
use Rattle.std.proofs.lemmas.Bool.{and_parts, not-false}
use Rattle.std.specs.Prelude.{◌↔◌, not}
use Rattle.ens_base.proofs.Orders.{version_itself, version_same}
use Rattle.ens_base.specs.Epochs.{same_version}
use Rattle.ens_base.specs.Lists.{same_bytes}
use Rattle.ens_base.specs.declared.entry.Entry.{Entry}
use Rattle.tree_node.specs.declared.body.Scan.{Scan}
use Rattle.tree_node.specs.declared.position.Position.{Position}
use Rattle.tree_sync.specs.Syncs.{is_none, is_clean, same_entry, same_entries, needs_build}

three : (x y z : Bool) → (x && y && z) ≡ true → (x ≡ true) × (y ≡ true) × (z ≡ true)
three true true true h = (refl, refl, refl)
three true true false h = absurd cc
three true false z h = absurd cc
three false y z h = absurd cc

all_three : (x y z : Bool) → x ≡ true → y ≡ true → z ≡ true → (x && y && z) ≡ true
all_three x y z p q r = λ i. p i && q i && r i

entry_is : (a b : Entry) → same_entry a b ≡ true → a ≡ b
entry_is a b h =
    let parts = three (same_bytes a.key b.key) (same_version a.version b.version) (same_bytes a.digest b.digest) h in
    λ i. record { key = bytes_same a.key b.key parts.0 i; version = version_same a.version b.version parts.1 i; digest = bytes_same a.digest b.digest parts.2 i }

entry_itself : (a : Entry) → same_entry a a ≡ true
entry_itself a = all_three (same_bytes a.key a.key) (same_version a.version a.version) (same_bytes a.digest a.digest) (bytes_itself a.key) (version_itself a.version) (bytes_itself a.digest)

entries_are : (xs ys : List Entry) → same_entries xs ys ≡ true → xs ≡ ys
entries_are [] [] h = refl
entries_are [] (y ∷ ys) h = absurd cc
entries_are (x ∷ xs) [] h = absurd cc
entries_are (x ∷ xs) (y ∷ ys) h =
    let parts = and_parts (same_entry x y) (same_entries xs ys) h in
    λ i. entry_is x y parts.0 i ∷ entries_are xs ys parts.1 i

entries_themselves : (xs : List Entry) → same_entries xs xs ≡ true
entries_themselves [] = refl
entries_themselves (x ∷ xs) = λ i. entry_itself x i && entries_themselves xs i

pub none_is : (ps : List Position) → is_none ps ≡ true → ps ≡ []
none_is [] h = refl
none_is (p ∷ ps) h = absurd cc

pub kept_exactly : (scan : Scan) (entries : List Entry) → ((needs_build scan entries ≡ false) ↔ ((scan.damaged ≡ []) × (scan.entries ≡ entries)))
kept_exactly scan entries = (there, back)
  where
    there : needs_build scan entries ≡ false → (scan.damaged ≡ []) × (scan.entries ≡ entries)
    there h =
        let parts = and_parts (is_clean scan) (same_entries scan.entries entries) (not-false (is_clean scan && same_entries scan.entries entries) h) in
        (none_is scan.damaged parts.0, entries_are scan.entries entries parts.1)

    same : scan.entries ≡ entries → same_entries scan.entries entries ≡ true
    same e = subst (λ (es : List Entry). same_entries scan.entries es ≡ true) e (entries_themselves scan.entries)

    back : (scan.damaged ≡ []) × (scan.entries ≡ entries) → needs_build scan entries ≡ false
    back h = λ i. not (is_none (h.0 i) && same h.1 i)
