-- What the walks down a tree tell whose nodes are stored.
use Rattle.std.proofs.Common.{◌≡◌, ◌≢◌, ◌⊎◌, ℕ, zero, suc, ◌-◌, ◌/◌, ◌%◌, Bool, true, cond, List, [], ◌∷◌, Option, None, Some, get_or, refl, ap, sym, ◌∙◌, subst, arith, inl, inr}
use Rattle.std.specs.Prelude.{◌==◌, if◌then◌else◌}
use Rattle.std.specs.Option.{is_some, option_map}
use Rattle.std.proofs.Math.Nat.{mod-lt}
use Rattle.md5.specs.Md5.{md5}
use Rattle.ens_base.specs.declared.entry.Entry.{Entry}
use Rattle.synctree.specs.Nodes.{child_name, name_at, is_node, node_bytes, node_plan}
use Rattle.synctree.specs.Plans.{Plan, Done, Broken}
use Rattle.synctree.specs.Trees.{get_plan}
use Rattle.synctree.specs.Walks.{fetch, open_node, onward, find}
use Rattle.synctree.specs.Entries.{IsMap, lookup}
use Rattle.synctree.specs.Forms.{Form, Laws, IsPlace, child, root}
use Rattle.synctree.specs.Maps.{within, named, text, children, IsNode, Stands}
use Rattle.synctree.specs.Paths.{under, present, node_of}
use Rattle.synctree.proofs.Below.{IsThere, place, under_child, child_again, under_map, parent_place, node_below, some_width, present_is, named_is, first_text}
use Rattle.synctree.proofs.Parts.{map_part}
use Rattle.synctree.proofs.Unique.{root_is_node, root_place, child_place, child_is, children_again, lookup_within}
use Rattle.tree_node.specs.declared.position.Position.{Position}
use Rattle.world_stores.specs.Nodes.{Nodes}
use Rattle.peer_refinement.specs.Whole.{IsStored}
use Rattle.peer_refinement.proofs.Arriving.{Tells, tells_then, fetch_tells, open_tells}

-- each node of the part of a map is stored
abbrev pub AreStored : Nodes → Form → ℕ → Position → List Entry → Type 0
AreStored s F h at m = (x : List ℕ) → IsNode F h at m x → IsStored s.entries x

-- the text of a node is there, or the position is empty
module _ (strings : List (List ℕ)) (F : Form) (laws : Laws F) (s : Nodes) where
  pub segment_tells : (at : Position) (m : List Entry) (digest : List ℕ) → IsPlace F zero at → IsMap m → digest ≡ md5 (text F zero at m) → AreStored s F zero at m → Tells strings (open_node (F.segment_at at) at digest) s m
  segment_tells at m digest p ok is stored = open_tells strings (F.segment_at at) at digest (text F zero at m) m s is (stored (text F zero at m) (root_is_node F zero at m)) (laws.segment_again zero at m p ok)

  pub names_tell : (h : ℕ) (at : Position) (m : List Entry) (digest : List ℕ) → IsPlace F (suc h) at → digest ≡ md5 (text F (suc h) at m) → AreStored s F (suc h) at m → Tells strings (open_node (F.inner_at at) at digest) s (children F h at m)
  names_tell h at m digest p is stored = open_tells strings (F.inner_at at) at digest (text F (suc h) at m) (children F h at m) s is (stored (text F (suc h) at m) (root_is_node F (suc h) at m)) (children_again F laws h at m p)

  -- ## Finding an entry

  onward_tells : (l : List Entry) (t : List ℕ) (next : List ℕ → Plan (Option Entry)) (key : List ℕ) → (l ≢ [] → Tells strings (next (md5 t)) s (lookup key l)) → Tells strings (onward None next (named l t)) s (lookup key l)
  onward_tells [] t next key rest = (refl, refl)
  onward_tells (x ∷ l) t next key rest = rest (λ is. cc)

  find_tells : (h : ℕ) (at : Position) (m : List Entry) (digest key : List ℕ) → IsPlace F h at → IsMap m → digest ≡ md5 (text F h at m) → AreStored s F h at m → Tells strings (find F h at digest key) s (lookup key m)
  find_tells zero at m digest key p ok is stored =
      tells_then strings (open_node (F.segment_at at) at digest) (λ entries. Done (lookup key entries)) s m (λ y t. (y ≡ lookup key m) × (t ≡ s)) (segment_tells at m digest p ok is stored) (refl, refl)
  find_tells (suc h) at m digest key p ok is stored = by (λ some. find_tells h (child F at (F.digit key at.level)) (within F at (F.digit key at.level) m) (md5 (text F h (child F at (F.digit key at.level)) (within F at (F.digit key at.level) m))) key
      (child_place F h at (F.digit key at.level) (laws.in_width key at.level) p) (map_part (λ k. F.digit k at.level == F.digit key at.level) m ok) refl (λ x n. stored x (inr (F.digit key at.level, laws.in_width key at.level, some, n))))
    where
      by : (within F at (F.digit key at.level) m ≢ [] → Tells strings (find F h (child F at (F.digit key at.level)) (md5 (text F h (child F at (F.digit key at.level)) (within F at (F.digit key at.level) m))) key) s (lookup key (within F at (F.digit key at.level) m)))
          → Tells strings (find F (suc h) at digest key) s (lookup key m)
      by below =
          let here = onward_tells (within F at (F.digit key at.level) m) (text F h (child F at (F.digit key at.level)) (within F at (F.digit key at.level) m)) (λ d. find F h (child F at (F.digit key at.level)) d key) key below in
          let same = subst (λ (o : Option Entry). Tells strings (onward None (λ d. find F h (child F at (F.digit key at.level)) d key) (named (within F at (F.digit key at.level) m) (text F h (child F at (F.digit key at.level)) (within F at (F.digit key at.level) m)))) s o) (sym (lookup_within F at key m)) here in
          tells_then strings (open_node (F.inner_at at) at digest) (λ names. onward None (λ d. find F h (child F at (F.digit key at.level)) d key) (get_or names (F.digit key at.level) None)) s (children F h at m) (λ y t. (y ≡ lookup key m) × (t ≡ s)) (names_tell h at m digest p is stored)
          (subst (λ (q : Option (List ℕ)). Tells strings (onward None (λ d. find F h (child F at (F.digit key at.level)) d key) q) s (lookup key m)) (sym (child_is F h at m (F.digit key at.level) (laws.in_width key at.level))) same)

  pub get_tells : (digest key : List ℕ) (m : List Entry) → Stands F digest m → AreStored s F F.depth root m → Tells strings (get_plan F (Some digest) key) s (lookup key m)
  get_tells digest key m stands stored = λ i. find_tells F.depth root m digest key (root_place F) stands.is_map stands.root_is stored

  -- ## Reading a node

  -- the nodes below a node that is there are stored
  stored_below : (h l i : ℕ) (m : List Entry) → IsPlace F h (place l i) → IsThere l (under F (place l i) m) → AreStored s F F.depth root m → AreStored s F h (place l i) (under F (place l i) m)
  stored_below h l i m p there stored x n = stored x (node_below F laws h l i m x p there n)

  child_tells : (h l i : ℕ) (m : List Entry) → IsPlace F h (place (suc l) i) → IsThere l (under F (place l (i / F.width)) m) → AreStored s F F.depth root m
      → Tells strings (child_name F (place l (i / F.width)) (i % F.width) (md5 (text F (suc h) (place l (i / F.width)) (under F (place l (i / F.width)) m)))) s (named (under F (place (suc l) i) m) (text F h (place (suc l) i) (under F (place (suc l) i) m)))
  child_tells h l i m p there stored =
      tells_then strings (open_node (F.inner_at (place l (i / F.width))) (place l (i / F.width)) (md5 (text F (suc h) (place l (i / F.width)) (under F (place l (i / F.width)) m)))) (λ names. Done (get_or names (i % F.width) None)) s
      (children F h (place l (i / F.width)) (under F (place l (i / F.width)) m)) (λ y t. (y ≡ named (under F (place (suc l) i) m) (text F h (place (suc l) i) (under F (place (suc l) i) m))) × (t ≡ s))
      (names_tell h (place l (i / F.width)) (under F (place l (i / F.width)) m) (md5 (text F (suc h) (place l (i / F.width)) (under F (place l (i / F.width)) m))) (parent_place F laws h l i p) refl (stored_below (suc h) l (i / F.width) m (parent_place F laws h l i p) there stored)) (
        child_is F h (place l (i / F.width)) (under F (place l (i / F.width)) m) (i % F.width) (mod-lt i (some_width F laws))
            ∙ ap (λ (q : Position). named (within F (place l (i / F.width)) (i % F.width) (under F (place l (i / F.width)) m)) (text F h q (within F (place l (i / F.width)) (i % F.width) (under F (place l (i / F.width)) m)))) (child_again F laws l i)
            ∙ ap (λ (es : List Entry). named es (text F h (place (suc l) i) es)) (sym (under_child F l i m)),
        refl,
      )

  -- the digest of the node at a position, if there is one
  abbrev name_of : ℕ → ℕ → ℕ → List Entry → Option (List ℕ)
  name_of h l i m = option_map md5 (present l (under F (place l i) m) (text F h (place l i) (under F (place l i) m)))

  below_tells : (h l i : ℕ) (m : List Entry) → IsPlace F h (place (suc l) i) → AreStored s F F.depth root m → Tells strings (onward None (child_name F (place l (i / F.width)) (i % F.width)) (name_of (suc h) l (i / F.width) m)) s (name_of h (suc l) i m)
  below_tells h l i m p stored = by (present_is l (under F (place l (i / F.width)) m) (text F (suc h) (place l (i / F.width)) (under F (place l (i / F.width)) m)))
    where
      none_below : under F (place l (i / F.width)) m ≡ [] → under F (place (suc l) i) m ≡ []
      none_below e = under_child F l i m ∙ ap (within F (place l (i / F.width)) (i % F.width)) e

      by : ((present l (under F (place l (i / F.width)) m) (text F (suc h) (place l (i / F.width)) (under F (place l (i / F.width)) m)) ≡ None) × (under F (place l (i / F.width)) m ≡ []))
          ⊎ (IsThere l (under F (place l (i / F.width)) m) × (present l (under F (place l (i / F.width)) m) (text F (suc h) (place l (i / F.width)) (under F (place l (i / F.width)) m)) ≡ Some (text F (suc h) (place l (i / F.width)) (under F (place l (i / F.width)) m))))
          → Tells strings (onward None (child_name F (place l (i / F.width)) (i % F.width)) (name_of (suc h) l (i / F.width) m)) s (name_of h (suc l) i m)
      by (inl (none, empty)) = subst (λ (o : Option (List ℕ)). Tells strings (onward None (child_name F (place l (i / F.width)) (i % F.width)) (option_map md5 o)) s (name_of h (suc l) i m)) (sym none)
          (sym (ap (λ (es : List Entry). option_map md5 (present (suc l) es (text F h (place (suc l) i) es))) (none_below empty)), refl)
      by (inr (there, some)) = subst (λ (o : Option (List ℕ)). Tells strings (onward None (child_name F (place l (i / F.width)) (i % F.width)) (option_map md5 o)) s (name_of h (suc l) i m)) (sym some)
          (subst (λ (o : Option (List ℕ)). Tells strings (child_name F (place l (i / F.width)) (i % F.width) (md5 (text F (suc h) (place l (i / F.width)) (under F (place l (i / F.width)) m)))) s o)
          (named_is l (under F (place (suc l) i) m) (text F h (place (suc l) i) (under F (place (suc l) i) m))) (child_tells h l i m p there stored))

  name_tells : (h l i : ℕ) (m : List Entry) (digest : List ℕ) → IsPlace F h (place l i) → digest ≡ md5 (text F F.depth root m) → AreStored s F F.depth root m → Tells strings (name_at F digest l i) s (name_of h l i m)
  name_tells h zero i m digest p is stored = (ap Some (is ∙ ap md5 (sym (first_text F h i m p))), refl)
  name_tells h (suc l) i m digest p is stored = tells_then strings (name_at F digest l (i / F.width)) (onward None (child_name F (place l (i / F.width)) (i % F.width))) s (name_of (suc h) l (i / F.width) m) (λ y t. (y ≡ name_of h (suc l) i m) × (t ≡ s))
      (name_tells (suc h) l (i / F.width) m digest (parent_place F laws h l i p) is stored) (below_tells h l i m p stored)

  -- the text of a node encodes one
  is_text : (h : ℕ) (at : Position) (m : List Entry) → IsPlace F h at → IsMap m → is_node F h at (text F h at m) ≡ true
  is_text zero at m p ok = ap is_some (laws.segment_again zero at m p ok)
  is_text (suc h) at m p ok = ap is_some (children_again F laws h at m p)

  bytes_tell : (h : ℕ) (at : Position) (m : List Entry) → IsPlace F h at → IsMap m → IsThere at.level (under F at m) → AreStored s F F.depth root m → Tells strings (node_bytes F at (md5 (text F h at (under F at m)))) s (Some (text F h at (under F at m)))
  bytes_tell h at m p ok there stored =
      tells_then strings (fetch at (md5 (text F h at (under F at m)))) (λ bytes. if is_node F (F.depth - at.level) at bytes then Done (Some bytes) else Broken at) s (text F h at (under F at m)) (λ y t. (y ≡ Some (text F h at (under F at m))) × (t ≡ s))
      (fetch_tells strings at (md5 (text F h at (under F at m))) (text F h at (under F at m)) s refl (stored_below h at.level at.index m p there stored (text F h at (under F at m)) (root_is_node F h at (under F at m))))
      (subst (λ (b : Bool). Tells strings (cond b (Done (Some (text F h at (under F at m)))) (Broken at)) s (Some (text F h at (under F at m)))) (sym test) (refl, refl))
    where
      test : is_node F (F.depth - at.level) at (text F h at (under F at m)) ≡ true
      test = let height : F.depth - at.level ≡ h = omega (arith, p.level) in ap (λ (n : ℕ). is_node F n at (text F h at (under F at m))) height ∙ is_text h at (under F at m) p (under_map F at m ok)

  pub node_tells : (h : ℕ) (at : Position) (m : List Entry) (digest : List ℕ) → IsPlace F h at → Stands F digest m → AreStored s F F.depth root m → Tells strings (node_plan F (Some digest) at) s (node_of F at m)
  node_tells h at m digest p stands stored =
      tells_then strings (name_at F digest at.level at.index) (onward None (node_bytes F at)) s (name_of h at.level at.index m) (λ y t. (y ≡ node_of F at m) × (t ≡ s)) (name_tells h at.level at.index m digest p stands.root_is stored)
      (subst (λ (o : Option (List ℕ)). Tells strings (onward None (node_bytes F at) (name_of h at.level at.index m)) s o) height (by (present_is at.level (under F at m) (text F h at (under F at m)))))
    where
      height : present at.level (under F at m) (text F h at (under F at m)) ≡ node_of F at m
      height = ap (λ (n : ℕ). present at.level (under F at m) (text F n at (under F at m))) (omega (arith, p.level))

      by : ((present at.level (under F at m) (text F h at (under F at m)) ≡ None) × (under F at m ≡ [])) ⊎ (IsThere at.level (under F at m) × (present at.level (under F at m) (text F h at (under F at m)) ≡ Some (text F h at (under F at m))))
          → Tells strings (onward None (node_bytes F at) (name_of h at.level at.index m)) s (present at.level (under F at m) (text F h at (under F at m)))
      by (inl (none, empty)) = subst (λ (o : Option (List ℕ)). Tells strings (onward None (node_bytes F at) (option_map md5 o)) s o) (sym none) (refl, refl)
      by (inr (there, some)) = subst (λ (o : Option (List ℕ)). Tells strings (onward None (node_bytes F at) (option_map md5 o)) s o) (sym some) (bytes_tell h at m p stands.is_map there stored)
