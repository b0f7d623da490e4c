-- The digests that the stored nodes of a map name.
use Rattle.std.proofs.Common.{◌≡◌, ◌⊎◌, ℕ, zero, suc, ◌-◌, ◌/◌, ◌%◌, List, [], Option, None, Some, get_or, arith, ap, sym, ◌∙◌, inl, inr}
use Rattle.std.specs.Option.{option_and_then, option_map}
use Rattle.std.proofs.Math.Nat.{mod-lt}
use Rattle.md5.specs.Md5.{md5}
use Rattle.ens_base.specs.declared.entry.Entry.{Entry}
use Rattle.environment.specs.Maps.{Entries, value_at}
use Rattle.tree_node.specs.declared.position.Position.{Position}
use Rattle.tree_node.specs.declared.version.TreeVersion.{TreeVersion}
use Rattle.tree_node.specs.TreeVersions.{levels}
use Rattle.tree_node.specs.Positions.{IsPosition}
use Rattle.synctree.specs.Sixteen.{form_of}
use Rattle.synctree.specs.Forms.{Form, Laws, IsPlace, root}
use Rattle.synctree.specs.Maps.{within, named, text, IsNode}
use Rattle.synctree.specs.Paths.{under, present}
use Rattle.synctree.proofs.Formats.{form_laws}
use Rattle.synctree.proofs.Unique.{root_is_node, child_is, children_again}
use Rattle.synctree.proofs.Below.{IsThere, place, under_child, child_again, parent_place, node_below, some_width, present_is, named_is, first_text}
use Rattle.synctree.proofs.Places.{place_of}
use Rattle.world_stores.specs.Nodes.{Nodes}
use Rattle.world_stores.specs.Laws.{HoldsMap, digest_of_node}
use Rattle.world_stores.specs.Naming.{child_in, child_under, named_in, named_at}

module _ (F : Form) (laws : Laws F) where
  -- a stored inner node of the map names its children
  child_named : (h l i : ℕ) (m : List Entry) (entries : Entries) → IsPlace F h (place (suc l) i) → IsThere l (under F (place l (i / F.width)) m) → ((node : List ℕ) → IsNode F F.depth root m node → value_at (md5 node) entries ≡ Some node)
      → child_under F entries (place l (i / F.width)) (i % F.width) (md5 (text F (suc h) (place l (i / F.width)) (under F (place l (i / F.width)) m)))
      ≡ named (under F (place (suc l) i) m) (text F h (place (suc l) i) (under F (place (suc l) i) m))
  child_named h l i m entries p there stored =
      let up = parent_place F laws h l i p in
      ap (option_and_then (child_in F (place l (i / F.width)) (i % F.width))) (stored (text F (suc h) (place l (i / F.width)) (under F (place l (i / F.width)) m))
      (node_below F laws (suc h) l (i / F.width) m (text F (suc h) (place l (i / F.width)) (under F (place l (i / F.width)) m)) up there (root_is_node F (suc h) (place l (i / F.width)) (under F (place l (i / F.width)) m))))
      ∙ ap (option_and_then (λ (names : List (Option (List ℕ))). get_or names (i % F.width) None)) (children_again F laws h (place l (i / F.width)) (under F (place l (i / F.width)) m) up)
      ∙ child_is F h (place l (i / F.width)) (under F (place l (i / F.width)) m) (i % F.width) (mod-lt i (some_width F laws))
      ∙ ap (λ (q : Position). named (within F (place l (i / F.width)) (i % F.width) (under F (place l (i / F.width)) m)) (text F h q (within F (place l (i / F.width)) (i % F.width) (under F (place l (i / F.width)) m)))) (child_again F laws l i)
      ∙ ap (λ (es : List Entry). named es (text F h (place (suc l) i) es)) (sym (under_child F l i m))

  name_is : (h l i : ℕ) (s : Nodes) (m : List Entry) → IsPlace F h (place l i) → HoldsMap F s m → named_in F s l i ≡ option_map md5 (present l (under F (place l i) m) (text F h (place l i) (under F (place l i) m)))
  name_is h zero i s m p holds = holds.top_is ∙ ap Some (holds.stands.root_is ∙ ap md5 (sym (first_text F h i m p)))
  name_is h (suc l) i s m p holds =
      ap (option_and_then (child_under F s.entries (place l (i / F.width)) (i % F.width))) (name_is (suc h) l (i / F.width) s m (parent_place F laws h l i p) holds)
      ∙ by (present_is l (under F (place l (i / F.width)) m) (text F (suc h) (place l (i / F.width)) (under F (place l (i / F.width)) m)))
    where
      none_below : under F (place l (i / F.width)) m ≡ [] → under F (place (suc l) i) m ≡ []
      none_below e = under_child F l i m ∙ ap (within F (place l (i / F.width)) (i % F.width)) e

      by : ((present l (under F (place l (i / F.width)) m) (text F (suc h) (place l (i / F.width)) (under F (place l (i / F.width)) m)) ≡ None) × (under F (place l (i / F.width)) m ≡ []))
          ⊎ (IsThere l (under F (place l (i / F.width)) m) × (present l (under F (place l (i / F.width)) m) (text F (suc h) (place l (i / F.width)) (under F (place l (i / F.width)) m)) ≡ Some (text F (suc h) (place l (i / F.width)) (under F (place l (i / F.width)) m))))
          → option_and_then (child_under F s.entries (place l (i / F.width)) (i % F.width)) (option_map md5 (present l (under F (place l (i / F.width)) m) (text F (suc h) (place l (i / F.width)) (under F (place l (i / F.width)) m))))
          ≡ option_map md5 (present (suc l) (under F (place (suc l) i) m) (text F h (place (suc l) i) (under F (place (suc l) i) m)))
      by (inl (none, empty)) =
          ap (λ (o : Option (List ℕ)). option_and_then (child_under F s.entries (place l (i / F.width)) (i % F.width)) (option_map md5 o)) none
          ∙ ap (λ (es : List Entry). option_map md5 (present (suc l) es (text F h (place (suc l) i) es))) (sym (none_below empty))
      by (inr (there, some)) =
          ap (λ (o : Option (List ℕ)). option_and_then (child_under F s.entries (place l (i / F.width)) (i % F.width)) (option_map md5 o)) some
          ∙ child_named h l i m s.entries p there holds.stored
          ∙ named_is l (under F (place (suc l) i) m) (text F h (place (suc l) i) (under F (place (suc l) i) m))

  digest_is : (h : ℕ) (s : Nodes) (m : List Entry) (at : Position) → IsPlace F h at → HoldsMap F s m → named_at F s at ≡ digest_of_node F at m
  digest_is h s m at p holds = name_is h at.level at.index s m p holds ∙ ap (λ (n : ℕ). option_map md5 (present at.level (under F at m) (text F n at (under F at m)))) (omega (arith, p.level))

pub name_is_digest : (tree : TreeVersion) (s : Nodes) (m : List Entry) (at : Position) → HoldsMap (form_of tree) s m → IsPosition tree at → named_at (form_of tree) s at ≡ digest_of_node (form_of tree) at m
name_is_digest tree s m at holds position = digest_is (form_of tree) (form_laws tree) (levels tree - at.level) s m at (place_of tree at position) holds
