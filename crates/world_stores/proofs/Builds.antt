-- The plain build of a map has exactly the nodes of the map.
use Rattle.std.proofs.Common.{◌≡◌, ◌⊎◌, ℕ, zero, suc, ◌+◌, ◌<◌, ◌≤◌, ◌^◌, Bool, true, false, List, [], ◌∷◌, ◌++◌, Option, None, Some, refl, ap, sym, ◌∙◌, subst, arith, inl, inr}
use Rattle.ens_base.proofs.Lists.{in_left, in_right, bytes_same, bytes_itself}
use Rattle.md5.specs.Md5.{md5}
use Rattle.ens_base.specs.declared.entry.Entry.{Entry}
use Rattle.ens_base.specs.Lists.{◌∈◌, same_bytes}
use Rattle.environment.specs.Maps.{value_at, with_value}
use Rattle.environment.proofs.MapLaws.{found_after, others_after}
use Rattle.tree_node.specs.declared.position.Position.{Position}
use Rattle.synctree.specs.Entries.{IsMap}
use Rattle.synctree.specs.Forms.{Form, Laws, IsPlace, root, child}
use Rattle.synctree.specs.Maps.{each_of, text, IsNode, NodesApart}
use Rattle.synctree.specs.Paths.{under, text_at, present, node_of}
use Rattle.synctree.proofs.Unique.{root_is_node, root_place, child_place}
use Rattle.synctree.proofs.Below.{IsThere, there_if_some, place, every, child_under, node_below}
use Rattle.tree_repair.specs.Builds.{somes, level_of, nodes_down, build_nodes}
use Rattle.world_stores.specs.Nodes.{Nodes, top_of}
use Rattle.world_stores.specs.Laws.{HoldsMap, stored_all}

-- ## Lists

in_parts : (x : List ℕ) (xs ys : List (List ℕ)) → x ∈ (xs ++ ys) → (x ∈ xs) ⊎ (x ∈ ys)
in_parts x [] ys i = inr i
in_parts x (y ∷ xs) ys (inl is) = inl (inl is)
in_parts x (y ∷ xs) ys (inr i) = by (in_parts x xs ys i)
  where
    by : (x ∈ xs) ⊎ (x ∈ ys) → (x ∈ (y ∷ xs)) ⊎ (x ∈ ys)
    by (inl j) = inl (inr j)
    by (inr j) = inr j

each_in : (f : ℕ → Option (List ℕ)) (n i k : ℕ) (s : List ℕ) → k < n → f (i + k) ≡ Some s → s ∈ somes (each_of f n i)
each_in f zero i k s l e = absurd (omega arith)
each_in f (suc n) i zero s l e = let here : f i ≡ Some s = ap f (omega arith) ∙ e in subst (λ (o : Option (List ℕ)). s ∈ somes (o ∷ each_of f n (i + 1))) (sym here) (inl refl)
each_in f (suc n) i (suc k) s l e = by (f i) (each_in f n (i + 1) k s (omega arith) (ap f (omega arith) ∙ e))
  where
    by : (o : Option (List ℕ)) → s ∈ somes (each_of f n (i + 1)) → s ∈ somes (o ∷ each_of f n (i + 1))
    by None r = r
    by (Some t) r = inr r

from_each : (f : ℕ → Option (List ℕ)) (n i : ℕ) (s : List ℕ) → s ∈ somes (each_of f n i) → (j : ℕ) × (j < i + n) × (f j ≡ Some s)
from_each f zero i s h = absurd h
from_each f (suc n) i s h = by (f i) refl h (λ later. from_each f n (i + 1) s later)
  where
    further : (j : ℕ) × (j < i + 1 + n) × (f j ≡ Some s) → (j : ℕ) × (j < i + suc n) × (f j ≡ Some s)
    further (j, l, e) = (j, omega (arith, l), e)

    by : (o : Option (List ℕ)) → f i ≡ o → s ∈ somes (o ∷ each_of f n (i + 1)) → (s ∈ somes (each_of f n (i + 1)) → (j : ℕ) × (j < i + 1 + n) × (f j ≡ Some s)) → (j : ℕ) × (j < i + suc n) × (f j ≡ Some s)
    by None is h rest = further (rest h)
    by (Some t) is (inl e) rest = (i, omega arith, is ∙ ap Some (sym e))
    by (Some t) is (inr h) rest = further (rest h)

-- ## Nodes that are there

there_present : (l : ℕ) (es : List Entry) (t : List ℕ) → IsThere l es → present l es t ≡ Some t
there_present zero es t there = refl
there_present (suc l) [] t there = absurd (there refl)
there_present (suc l) (e ∷ es) t there = refl

present_there : (l : ℕ) (es : List Entry) (t s : List ℕ) → present l es t ≡ Some s → IsThere l es × (s ≡ t)
present_there zero es t s e = (tt, cc)
present_there (suc l) [] t s e = absurd cc
present_there (suc l) (x ∷ es) t s e = (λ is. cc, cc)

module _ (F : Form) (laws : Laws F) (m : List Entry) where
  height : (h : ℕ) (at : Position) → at.level + h ≡ F.depth → text_at F at m ≡ text F h at (under F at m)
  height h at e = ap (λ (n : ℕ). text F n at (under F at m)) (omega (arith, e))

  -- ## From the build to the map

  from_level : (h l : ℕ) (s : List ℕ) → l + h ≡ F.depth → s ∈ somes (level_of F l m) → IsNode F F.depth root m s
  from_level h l s e i = by (from_each (λ j. node_of F (place l j) m) (F.width ^ l) 0 s i)
    where
      by : (j : ℕ) × (j < 0 + F.width ^ l) × (node_of F (place l j) m ≡ Some s) → IsNode F F.depth root m s
      by (j, low, is) =
          let node = present_there l (under F (place l j) m) (text_at F (place l j) m) s is in
          node_below F laws h l j m s (record { level = e; index = omega (arith, low) }) node.0
          (subst (IsNode F h (place l j) (under F (place l j) m)) (sym (node.1 ∙ height h (place l j) e)) (root_is_node F h (place l j) (under F (place l j) m)))

  from_down : (h l : ℕ) (s : List ℕ) → l + h ≡ F.depth → s ∈ nodes_down F h l m → IsNode F F.depth root m s
  from_down zero l s e i = from_level zero l s e i
  from_down (suc h) l s e i = by (in_parts s (nodes_down F h (suc l) m) (somes (level_of F l m)) i) (λ j. from_down h (suc l) s (omega (arith, e)) j)
    where
      by : (s ∈ nodes_down F h (suc l) m) ⊎ (s ∈ somes (level_of F l m)) → (s ∈ nodes_down F h (suc l) m → IsNode F F.depth root m s) → IsNode F F.depth root m s
      by (inl j) below = below j
      by (inr j) below = from_level (suc h) l s e j

  pub from_build : (s : List ℕ) → s ∈ build_nodes F m → IsNode F F.depth root m s
  from_build s i = from_down F.depth 0 s (omega arith) i

  -- ## From the map to the build

  to_level : (h : ℕ) (at : Position) → IsPlace F h at → IsThere at.level (under F at m) → text F h at (under F at m) ∈ somes (level_of F at.level m)
  to_level h at p there =
      let first : 0 + at.index ≡ at.index = omega arith in
      each_in (λ i. node_of F (place at.level i) m) (F.width ^ at.level) 0 at.index (text F h at (under F at m)) p.index
      (ap (λ (i : ℕ). node_of F (place at.level i) m) first ∙ there_present at.level (under F at m) (text_at F at m) there ∙ ap Some (height h at p.level))

  in_down : (h l k : ℕ) (s : List ℕ) → k ≤ h → s ∈ somes (level_of F (l + k) m) → s ∈ nodes_down F h l m
  in_down zero l k s few i = let same : l + k ≡ l = omega (arith, few) in subst (λ (n : ℕ). s ∈ somes (level_of F n m)) same i
  in_down (suc h) l zero s few i = let same : l + 0 ≡ l = omega arith in in_right (nodes_down F h (suc l) m) (somes (level_of F l m)) s (subst (λ (n : ℕ). s ∈ somes (level_of F n m)) same i)
  in_down (suc h) l (suc k) s few i = let same : l + suc k ≡ suc l + k = omega arith in in_left (nodes_down F h (suc l) m) (somes (level_of F l m)) s (in_down h (suc l) k s (omega (arith, few)) (subst (λ (n : ℕ). s ∈ somes (level_of F n m)) same i))

  text_in : (h : ℕ) (at : Position) → IsPlace F h at → IsThere at.level (under F at m) → text F h at (under F at m) ∈ build_nodes F m
  text_in h at p there =
      let first : at.level ≡ 0 + at.level = omega arith in
      in_down F.depth 0 at.level (text F h at (under F at m)) (omega (arith, p.level)) (subst (λ (n : ℕ). text F h at (under F at m) ∈ somes (level_of F n m)) first (to_level h at p there))

  node_in : (h : ℕ) (at : Position) (s : List ℕ) → IsPlace F h at → IsThere at.level (under F at m) → IsNode F h at (under F at m) s → s ∈ build_nodes F m
  node_in zero at s p there n = subst (λ (t : List ℕ). t ∈ build_nodes F m) (sym n) (text_in zero at p there)
  node_in (suc h) at s p there (inl is) = subst (λ (t : List ℕ). t ∈ build_nodes F m) (sym is) (text_in (suc h) at p there)
  node_in (suc h) at s p there (inr (c, l, some, n)) =
      let same = child_under F laws at c m l in
      node_in h (child F at c) s (child_place F h at c l p) (there_if_some (at.level + 1) (under F (child F at c) m) (λ none. some (same ∙ none))) (subst (λ (es : List Entry). IsNode F h (child F at c) es s) same n)

  pub to_build : (s : List ℕ) → IsNode F F.depth root m s → s ∈ build_nodes F m
  to_build s n = node_in F.depth root s (root_place F) tt (subst (λ (es : List Entry). IsNode F F.depth root es s) (sym (every m)) n)

-- ## A stored build

found_stored : (ts : List (List ℕ)) (s : List ℕ) → ((t : List ℕ) → t ∈ ts → md5 s ≡ md5 t → s ≡ t) → s ∈ ts → value_at (md5 s) (stored_all ts) ≡ Some s
found_stored [] s apart i = absurd i
found_stored (t ∷ ts) s apart i = by (same_bytes (md5 s) (md5 t)) refl (λ j. found_stored ts s (λ u k e. apart u (inr k) e) j) i
  where
    no : same_bytes (md5 s) (md5 t) ≡ false → md5 s ≡ md5 t → ⊥
    no differ e = let bad : true ≡ false = sym (bytes_itself (md5 t)) ∙ ap (λ k. same_bytes k (md5 t)) (sym e) ∙ differ in cc

    by : (b : Bool) → same_bytes (md5 s) (md5 t) ≡ b → (s ∈ ts → value_at (md5 s) (stored_all ts) ≡ Some s) → s ∈ (t ∷ ts) → value_at (md5 s) (with_value (md5 t) t (stored_all ts)) ≡ Some s
    by true same rest j =
        let is : s ≡ t = apart t (inl refl) (bytes_same (md5 s) (md5 t) same) in
        subst (λ (u : List ℕ). value_at (md5 u) (with_value (md5 t) t (stored_all ts)) ≡ Some u) (sym is) (found_after (md5 t) t (stored_all ts))
    by false differ rest (inl is) = absurd (no differ (ap md5 is))
    by false differ rest (inr j) = others_after (md5 t) (md5 s) t (stored_all ts) (no differ) ∙ rest j

pub build_holds : (F : Form) (laws : Laws F) (s : Nodes) (m : List Entry) → IsMap m → NodesApart F F.depth root m m → top_of s.tops ≡ Some (md5 (text F F.depth root m)) → s.entries ≡ stored_all (build_nodes F m) → HoldsMap F s m
build_holds F laws s m ok apart top entries = record {
  top = md5 (text F F.depth root m);
  top_is = top;
  stands = record { is_map = ok; root_is = refl };
  stored = λ node n. ap (value_at (md5 node)) entries ∙ found_stored (build_nodes F m) node (λ t i e. apart node t n (from_build F laws m t i) e) (to_build F laws m node n);
}
