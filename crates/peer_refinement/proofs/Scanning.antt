-- A scan of a tree whose nodes are stored finds no damage.
use Rattle.std.proofs.Common.{◌≡◌, ℕ, zero, suc, ◌+◌, ◌<◌, ◌≤◌, Bool, cond, List, [], ◌∷◌, ◌++◌, Option, None, Some, refl, ap, sym, ◌∙◌, subst, arith, inr}
use Rattle.ens_base.proofs.Lists.{bytes_itself}
use Rattle.std.specs.Prelude.{◌==◌}
use Rattle.md5.specs.Md5.{md5}
use Rattle.ens_base.specs.declared.entry.Entry.{Entry}
use Rattle.synctree.specs.Plans.{Done, ◌>>=◌}
use Rattle.synctree.specs.Entries.{IsMap}
use Rattle.synctree.specs.Forms.{Form, Laws, IsPlace, child, root}
use Rattle.synctree.specs.Maps.{each_of, within, named, text, Stands}
use Rattle.synctree.proofs.Parts.{map_part}
use Rattle.synctree.proofs.Unique.{has_entries, root_is_node, root_place, child_place, children_again}
use Rattle.tree_node.specs.declared.body.Scan.{Scan}
use Rattle.tree_node.specs.declared.position.Position.{Position}
use Rattle.tree_repair.specs.Levels.{read_named, read_all, hash_read, hash_all, read_level, verified, slot, child_slots, slots_below, next_level, damage_of, damage_in, found, scan_from, scan_plan}
use Rattle.tree_repair.specs.declared.slot.Slot.{Slot}
use Rattle.tree_repair.proofs.Telling.{named_some}
use Rattle.world_stores.specs.Nodes.{Nodes}
use Rattle.peer_refinement.specs.Whole.{IsStored}
use Rattle.peer_refinement.proofs.Arriving.{Reaches, Tells, tells_then}
use Rattle.peer_refinement.proofs.Reading.{AreStored}

-- a node that was read verifies if it has the digest
verified_is : {A : Type 0} (node_at : List ℕ → Option A) (o : Option (List ℕ)) (bytes : List ℕ) → o ≡ Some (md5 bytes) → verified node_at o (Some bytes) ≡ node_at bytes
verified_is node_at o bytes e = ap (λ q. verified node_at q (Some bytes)) e ∙ ap (λ (b : Bool). cond b (node_at bytes) None) (bytes_itself (md5 bytes))

module _ (strings : List (List ℕ)) (F : Form) (laws : Laws F) (s : Nodes) where
  -- the slot names a stored node with these entries below it, and so are all nodes below
  record NamesPart (h : ℕ) (x : Slot) : Type 0 where
    entries : List Entry
    place : IsPlace F h x.at
    is_map : IsMap entries
    digest : x.digest ≡ Some (md5 (text F h x.at entries))
    stored : AreStored s F h x.at entries

  abbrev NameParts : ℕ → List Slot → Type 0
  NameParts h [] = Unit {0}
  NameParts h (x ∷ xs) = NamesPart h x × NameParts h xs

  parts_append : (h : ℕ) (xs ys : List Slot) → NameParts h xs → NameParts h ys → NameParts h (xs ++ ys)
  parts_append h [] ys a b = b
  parts_append h (x ∷ xs) ys a b = (a.0, parts_append h xs ys a.1 b)

  -- what is read of a level
  abbrev texts : (h : ℕ) (xs : List Slot) → NameParts h xs → List (Option (List ℕ))
  texts h [] a = []
  texts h (x ∷ xs) a = Some (text F h x.at a.0.entries) ∷ texts h xs a.1

  named_tells : (o : Option (List ℕ)) (bytes : List ℕ) → o ≡ Some (md5 bytes) → IsStored s.entries bytes → Tells strings (read_named o) s (Some bytes)
  named_tells o bytes e stored = subst (λ (q : Option (List ℕ)). Tells strings (read_named q) s (Some bytes)) (sym e) (refl, (stored, refl))

  read_tells : (h : ℕ) (xs : List Slot) (a : NameParts h xs) → Tells strings (read_all xs) s (texts h xs a)
  read_tells h [] a = (refl, refl)
  read_tells h (x ∷ xs) a =
      tells_then strings (read_named x.digest) (λ y. read_all xs >>= (λ ys. Done (y ∷ ys))) s (Some (text F h x.at a.0.entries)) (λ y t. (y ≡ texts h (x ∷ xs) a) × (t ≡ s))
      (named_tells x.digest (text F h x.at a.0.entries) a.0.digest (a.0.stored (text F h x.at a.0.entries) (root_is_node F h x.at a.0.entries)))
      (tells_then strings (read_all xs) (λ ys. Done (Some (text F h x.at a.0.entries) ∷ ys)) s (texts h xs a.1) (λ y t. (y ≡ texts h (x ∷ xs) a) × (t ≡ s)) (read_tells h xs a.1) (refl, refl))

  hash_tells : (o : Option (List ℕ)) → Tells strings (hash_read o) s tt
  hash_tells None = (refl, refl)
  hash_tells (Some bytes) = λ i. (refl, refl)

  hash_all_tells : (reads : List (Option (List ℕ))) → Tells strings (hash_all reads) s tt
  hash_all_tells [] = (refl, refl)
  hash_all_tells (r ∷ rs) = tells_then strings (hash_read r) (λ _. hash_all rs) s tt (λ y t. (y ≡ tt) × (t ≡ s)) (hash_tells r) (hash_all_tells rs)

  level_tells : (h : ℕ) (xs : List Slot) (a : NameParts h xs) → Tells strings (read_level xs) s (texts h xs a)
  level_tells h xs a = tells_then strings (read_all xs) (λ reads. hash_all reads >>= (λ _. Done reads)) s (texts h xs a) (λ y t. (y ≡ texts h xs a) × (t ≡ s)) (read_tells h xs a)
      (tells_then strings (hash_all (texts h xs a)) (λ _. Done (texts h xs a)) s tt (λ y t. (y ≡ texts h xs a) × (t ≡ s)) (hash_all_tells (texts h xs a)) (refl, refl))

  -- the children of a node
  child_parts : (h : ℕ) (at : Position) (m : List Entry) (n i : ℕ) → IsPlace F (suc h) at → IsMap m → AreStored s F (suc h) at m → i + n ≤ F.width
      → NameParts h (child_slots F at i (each_of (λ c. named (within F at c m) (text F h (child F at c) (within F at c m))) n i))
  child_parts h at m zero i p ok stored few = tt
  child_parts h at m (suc n) i p ok stored few = by (named (within F at i m) (text F h (child F at i) (within F at i m))) refl (child_parts h at m n (i + 1) p ok stored (omega (arith, few)))
    where
      by : (o : Option (List ℕ)) → named (within F at i m) (text F h (child F at i) (within F at i m)) ≡ o → NameParts h (child_slots F at (i + 1) (each_of (λ c. named (within F at c m) (text F h (child F at c) (within F at c m))) n (i + 1)))
          → NameParts h (child_slots F at i (o ∷ each_of (λ c. named (within F at c m) (text F h (child F at c) (within F at c m))) n (i + 1)))
      by None e rest = rest
      by (Some d) e rest =
          let low : i < F.width = omega (arith, few) in
          let part : NamesPart h (slot (child F at i) (Some d)) = record {
            entries = within F at i m;
            place = child_place F h at i low p;
            is_map = map_part (λ k. F.digit k at.level == i) m ok;
            digest = ap Some (named_some (within F at i m) (text F h (child F at i) (within F at i m)) d e);
            stored = λ x k. stored x (inr (i, low, has_entries (within F at i m) (text F h (child F at i) (within F at i m)) d e, k));
          } in
          (part, rest)

  next_parts : (h : ℕ) (xs : List Slot) (a : NameParts (suc h) xs) → NameParts h (next_level F xs (texts (suc h) xs a))
  next_parts h [] a = tt
  next_parts h (x ∷ xs) a = parts_append h (slots_below F x.at (verified (F.inner_at x.at) x.digest (Some (text F (suc h) x.at a.0.entries)))) (next_level F xs (texts (suc h) xs a.1))
      (subst (λ (o : Option (List (Option (List ℕ)))). NameParts h (slots_below F x.at o))
      (sym (verified_is (F.inner_at x.at) x.digest (text F (suc h) x.at a.0.entries) a.0.digest ∙ children_again F laws h x.at a.0.entries a.0.place))
      (child_parts h x.at a.0.entries F.width 0 a.0.place a.0.is_map a.0.stored (omega arith))) (next_parts h xs a.1)

  no_damage : (xs : List Slot) (a : NameParts zero xs) → damage_in F xs (texts zero xs a) ≡ []
  no_damage [] a = refl
  no_damage (x ∷ xs) a =
      ap (λ (o : Option (List Entry)). damage_of x.at o ++ damage_in F xs (texts zero xs a.1)) (verified_is (F.segment_at x.at) x.digest (text F zero x.at a.0.entries) a.0.digest ∙ laws.segment_again zero x.at a.0.entries a.0.place a.0.is_map)
      ∙ no_damage xs a.1

  from_reaches : (h : ℕ) (xs : List Slot) → NameParts h xs → Reaches strings (scan_from F h xs) s (λ scan t. scan.damaged ≡ [])
  from_reaches zero xs a = tells_then strings (read_level xs) (λ reads. Done (found F xs reads)) s (texts zero xs a) (λ (scan : Scan) t. scan.damaged ≡ []) (level_tells zero xs a) (no_damage xs a)
  from_reaches (suc h) xs a = tells_then strings (read_level xs) (λ reads. scan_from F h (next_level F xs reads)) s (texts (suc h) xs a) (λ (scan : Scan) t. scan.damaged ≡ []) (level_tells (suc h) xs a) (from_reaches h (next_level F xs (texts (suc h) xs a)) (next_parts h xs a))

  pub scan_reaches : (digest : List ℕ) (m : List Entry) → Stands F digest m → AreStored s F F.depth root m → Reaches strings (scan_plan F (Some digest)) s (λ scan t. scan.damaged ≡ [])
  scan_reaches digest m stands stored =
      let part : NamesPart F.depth (slot root (Some digest)) = record { entries = m; place = root_place F; is_map = stands.is_map; digest = ap Some stands.root_is; stored = stored } in
      from_reaches F.depth (slot root (Some digest) ∷ []) (part, tt)
