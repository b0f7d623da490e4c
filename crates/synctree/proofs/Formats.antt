-- Decoding what the tree of a version encodes gives the same node.
use Rattle.std.proofs.Common.{◌≡◌, ℕ, zero, suc, ◌+◌, ◌*◌, ◌/◌, ◌%◌, ◌<◌, ◌^◌, Bool, true, false, cond, List, [], ◌∷◌, Option, None, Some, length, refl, ap, ◌∙◌, subst, arith}
use Rattle.std.specs.Prelude.{slice_index, count_ones, ◌==◌}
use Rattle.std.specs.List.{AllByRecursion}
use native.Mathlib.Nat.{pow-suc}
use lib.Count.{ones_step, ones-le}
use Rattle.std.proofs.lemmas.Bool.Decides.{nat_tests}
use Rattle.md5.specs.Md5.{md5}
use Rattle.ens_base.specs.declared.entry.Entry.{Entry}
use Rattle.fields.specs.Entries.{IsEntry}
use Rattle.tree_node.specs.declared.position.Position.{Position}
use Rattle.tree_node.specs.declared.version.TreeVersion.{TreeVersion}
use Rattle.tree_node.specs.TreeVersions.{levels}
use Rattle.tree_node.specs.Positions.{IsPosition}
use Rattle.tree_node.specs.Entries.{AreAbove, AreDigests}
use Rattle.tree_node.specs.Nodes.{inner_spelling, segment_spelling, inner_of, segment_of}
use Rattle.tree_node.proofs.EntryLaws.{entries_valid}
use Rattle.tree_node.proofs.NodeLaws.{inner_again, segment_again}
use Rattle.tree_node.proofs.Above.{above_less, key_above}
use Rattle.synctree.specs.Entries.{IsBelowAll, Ascends, IsMap}
use Rattle.synctree.specs.Forms.{IsPlace, AreNames, Laws}
use Rattle.synctree.specs.Sixteen.{nibble, mask_of, digests_of, spread, children_of, inner_node, segment, children_in, entries_in, form_of}

spread_again : (n : ℕ) (cs : List (Option (List ℕ))) → length cs ≡ n → spread n (mask_of cs) (digests_of cs) ≡ cs
spread_again zero [] e = refl
spread_again zero (c ∷ cs) e = absurd (omega arith)
spread_again (suc n) [] e = absurd (omega arith)
spread_again (suc n) (None ∷ cs) e =
    let bit : ((0 + 2 * mask_of cs) % 2 == 1) ≡ false = grind (arith, nat_tests) in
    let rest : (0 + 2 * mask_of cs) / 2 ≡ mask_of cs = omega arith in
    rw (bit, rest) (ap (λ xs. None ∷ xs) (spread_again n cs (omega arith)))
spread_again (suc n) (Some d ∷ cs) e =
    let bit : ((1 + 2 * mask_of cs) % 2 == 1) ≡ true = grind (arith, nat_tests) in
    let rest : (1 + 2 * mask_of cs) / 2 ≡ mask_of cs = omega arith in
    rw (bit, rest) (ap (λ xs. Some d ∷ xs) (spread_again n cs (omega arith)))

children_again : (cs : List (Option (List ℕ))) → length cs ≡ 16 → children_of (mask_of cs) (digests_of cs) ≡ cs
unfolding children_of
children_again cs e = spread_again 16 cs e

pub mask_below : (cs : List (Option (List ℕ))) → mask_of cs < 2 ^ length cs
mask_below [] = omega arith
mask_below (None ∷ cs) = rw (pow-suc 2 (length cs)) (omega (arith, mask_below cs))
mask_below (Some d ∷ cs) = rw (pow-suc 2 (length cs)) (omega (arith, mask_below cs))

pub mask_ones : (cs : List (Option (List ℕ))) → length (digests_of cs) ≡ count_ones (mask_of cs)
mask_ones [] = omega (arith, ones-le 0 0 (omega arith))
mask_ones (None ∷ cs) =
    let bit : (0 + 2 * mask_of cs) % 2 ≡ 0 = omega arith in
    let rest : (0 + 2 * mask_of cs) / 2 ≡ mask_of cs = omega arith in
    let step : count_ones (0 + 2 * mask_of cs) ≡ 0 + count_ones (mask_of cs) = ones_step (0 + 2 * mask_of cs) ∙ (λ i. bit i + count_ones (rest i)) in
    omega (arith, mask_ones cs, step)
mask_ones (Some d ∷ cs) =
    let bit : (1 + 2 * mask_of cs) % 2 ≡ 1 = omega arith in
    let rest : (1 + 2 * mask_of cs) / 2 ≡ mask_of cs = omega arith in
    let step : count_ones (1 + 2 * mask_of cs) ≡ 1 + count_ones (mask_of cs) = ones_step (1 + 2 * mask_of cs) ∙ (λ i. bit i + count_ones (rest i)) in
    omega (arith, mask_ones cs, step)

names_digests : (cs : List (Option (List ℕ))) → AreNames cs → AreDigests (digests_of cs)
names_digests [] a = tt
names_digests (None ∷ cs) a = names_digests cs a
names_digests (Some d ∷ cs) a = (a.0, names_digests cs a.1)

pub place_position : (v : TreeVersion) (h : ℕ) (at : Position) → IsPlace (form_of v) h at → IsPosition v at
unfolding form_of
place_position v h at p = record { level = omega (arith, p.level); index = p.index }

pub above_of : (low : List ℕ) (es : List Entry) → IsBelowAll low es → Ascends es → AreAbove low es
above_of low [] b a = tt
above_of low (e ∷ es) b a = (above_less low e.key b.0, above_of e.key es a.0 a.1)

pub map_above : (m : List Entry) → AllByRecursion IsEntry m → Ascends m → AreAbove [] m
map_above [] all a = tt
map_above (e ∷ es) all a = (key_above e.key all.0.key.size.0, above_of e.key es a.0 a.1)

inner_reads : (v : TreeVersion) (h : ℕ) (at : Position) (cs : List (Option (List ℕ))) → IsPlace (form_of v) h at → length cs ≡ 16 → AreNames cs → children_in (inner_of v at (inner_spelling (inner_node v at cs))) ≡ Some cs
inner_reads v h at cs p l names =
    ap children_in (inner_again v at (place_position v h at p) (inner_spelling (inner_node v at cs)) (inner_node v at cs) (record { position = place_position v h at p; mask = subst (λ (n : ℕ). mask_of cs < 2 ^ n) l (mask_below cs); each = mask_ones cs; digests = names_digests cs names }) refl refl refl)
    ∙ ap Some (children_again cs l)

segment_reads : (v : TreeVersion) (h : ℕ) (at : Position) (es : List Entry) → IsPlace (form_of v) h at → IsMap es → entries_in (segment_of v at (segment_spelling (segment v at es))) ≡ Some es
segment_reads v h at es p ok =
    ap entries_in (segment_again v at (place_position v h at p) (segment_spelling (segment v at es)) (segment v at es) (record { position = place_position v h at p; few = ok.few; entries = entries_valid [] es (map_above es ok.entries ok.ascends) ok.entries }) refl refl refl)

pub nibble_below : (digest : List ℕ) (level : ℕ) → nibble digest level < 16
nibble_below digest level = by (level % 2 == 0)
  where
    by : (b : Bool) → cond b (slice_index digest (level / 2) / 16 % 16) (slice_index digest (level / 2) % 16) < 16
    by true = omega arith
    by false = omega arith

pub form_laws : (v : TreeVersion) → Laws (form_of v)
unfolding form_of
form_laws v = record {
  in_width = λ key level. nibble_below (md5 key) level;
  inner_again = λ h at cs p l names. inner_reads v h at cs p l names;
  segment_again = λ h at es p ok. segment_reads v h at es p ok;
}

pub form_shape : (v : TreeVersion) → ((form_of v).width ≡ 16) × ((form_of v).depth ≡ levels v)
unfolding form_of
form_shape v = (refl, refl)
