-- A build, level by level.
use Rattle.std.proofs.Common.{◌≡◌, ℕ, suc, ◌+◌, ◌-◌, ◌<◌, List, [], ◌∷◌, ◌++◌, Option, Some, length, get_or, map, ap, sym, ◌∙◌, subst, arith, append_assoc}
use Rattle.std.proofs.lemmas.List.{map-append}
use Rattle.hash_book.specs.Hashing.{Book}
use Rattle.md5.specs.Md5.{md5}
use Rattle.ens_base.specs.declared.entry.Entry.{Entry}
use Rattle.tree_node.specs.declared.version.TreeVersion.{TreeVersion}
use Rattle.tree_node.specs.TreeVersions.{levels}
use Rattle.synctree.specs.Forms.{root}
use Rattle.synctree.specs.Maps.{text}
use Rattle.synctree.specs.Sixteen.{form_of}
use Rattle.synctree.specs.declared.stored_node.StoredNode.{StoredNode}
use Rattle.synctree.proofs.Places.{depth_is}
use Rattle.tree_repair.specs.Hashers.{digest_if}
use Rattle.tree_repair.specs.Builds.{somes, level_of, nodes_down, build_nodes, stored}
use Rattle.tree_repair.specs.RepairLevels.{indexes_of, texts_of, names_of}
use Rattle.tree_repair.proofs.Lists.{somes_cons, get_map_or}
use Rattle.tree_repair.specs.Admitting.{Admitted, Rejected, AdmitsAll}
use Rattle.tree_repair.proofs.Admissions.{admits_then, memory_after, rejected_on}
use Rattle.hash_book.specs.declared.error.HashError.{HashError}
use Rattle.hash_book.specs.declared.error.HashError.TheVariants.{Memory}
use Rattle.std.specs.Prelude.{IsErr, Result}
use Rattle.std.specs.Result.{IsErrAnd}
use Rattle.tree_repair.proofs.Levels.{root_name, somes_texts}

pub down_last : (v : TreeVersion) (l : ℕ) (m : List Entry) (texts : List (Option (List ℕ))) → l ≡ levels v → texts ≡ texts_of (form_of v) (levels v) m → somes texts ≡ nodes_down (form_of v) (levels v - l) l m
down_last v l m texts e is =
    let none : levels v - l ≡ 0 = omega arith in
    ap somes is ∙ somes_texts (form_of v) (levels v) m ∙ ap (λ (n : ℕ). somes (level_of (form_of v) n m)) (sym e) ∙ ap (λ (h : ℕ). nodes_down (form_of v) h l m) (sym none)

pub last_more : (v : TreeVersion) (l : ℕ) (m : List Entry) (texts : List (Option (List ℕ))) (old new : List StoredNode) → l ≡ levels v → texts ≡ texts_of (form_of v) (levels v) m → new ≡ old ++ map stored (somes texts) → new ≡ old ++ map stored (nodes_down (form_of v) (levels v - l) l m)
last_more v l m texts old new e is grown = grown ∙ ap (λ (ts : List (List ℕ)). old ++ map stored ts) (down_last v l m texts e is)

pub last_indexes : (v : TreeVersion) (l : ℕ) (m : List Entry) (is : List ℕ) → l ≡ levels v → is ≡ indexes_of (form_of v) (levels v) m → is ≡ indexes_of (form_of v) l m
last_indexes v l m is e f = f ∙ ap (λ (n : ℕ). indexes_of (form_of v) n m) (sym e)

pub last_names : (v : TreeVersion) (l : ℕ) (m : List Entry) (names texts : List (Option (List ℕ))) → l ≡ levels v → texts ≡ texts_of (form_of v) (levels v) m → names ≡ map digest_if texts → names ≡ names_of (form_of v) l m
last_names v l m names texts e f g = g ∙ ap (map digest_if) f ∙ ap (λ (n : ℕ). names_of (form_of v) n m) (sym e)

down_level : (v : TreeVersion) (l : ℕ) (m : List Entry) → l < levels v → nodes_down (form_of v) (levels v - (l + 1)) (l + 1) m ++ somes (level_of (form_of v) l m) ≡ nodes_down (form_of v) (levels v - l) l m
down_level v l m b = (λ j. nodes_down (form_of v) (height j) (next j) m ++ somes (level_of (form_of v) l m)) ∙ ap (λ (h : ℕ). nodes_down (form_of v) h l m) (sym higher)
  where
    height : levels v - (l + 1) ≡ levels v - suc l
    height = omega arith

    next : l + 1 ≡ suc l
    next = omega arith

    higher : levels v - l ≡ suc (levels v - suc l)
    higher = omega arith

pub down_step : (v : TreeVersion) (l : ℕ) (m : List Entry) (texts : List (Option (List ℕ))) → l < levels v → texts ≡ texts_of (form_of v) l m → nodes_down (form_of v) (levels v - (l + 1)) (l + 1) m ++ somes texts ≡ nodes_down (form_of v) (levels v - l) l m
down_step v l m texts b is = ap (λ (ts : List (List ℕ)). nodes_down (form_of v) (levels v - (l + 1)) (l + 1) m ++ ts) (ap somes is ∙ somes_texts (form_of v) l m) ∙ down_level v l m b

pub nodes_more : (xs ys zs : List (List ℕ)) (old between new : List StoredNode) → between ≡ old ++ map stored xs → new ≡ between ++ map stored ys → xs ++ ys ≡ zs → new ≡ old ++ map stored zs
nodes_more xs ys zs old between new e is same =
    is ∙ ap (λ (ns : List StoredNode). ns ++ map stored ys) e ∙ append_assoc old (map stored xs) (map stored ys)
    ∙ ap (λ (ns : List StoredNode). old ++ ns) (sym (map-append stored xs ys) ∙ ap (map stored) same)

pub all_nodes : (v : TreeVersion) (m : List Entry) → nodes_down (form_of v) (levels v - 0) 0 m ≡ build_nodes (form_of v) m
all_nodes v m = let height : levels v - 0 ≡ (form_of v).depth = omega (arith, depth_is v) in ap (λ (h : ℕ). nodes_down (form_of v) h 0 m) height

pub first_name : (v : TreeVersion) (m : List Entry) (names : List (Option (List ℕ))) (o d : Option (List ℕ)) → names ≡ names_of (form_of v) 0 m → o ≡ get_or names 0 d → o ≡ Some (md5 (text (form_of v) (form_of v).depth root m))
first_name v m names o d e is = is ∙ ap (λ (ns : List (Option (List ℕ))). get_or ns 0 d) (e ∙ root_name v m)

pub some_same : (a b : List ℕ) → (let o : Option (List ℕ) = Some a in o) ≡ Some b → a ≡ b
some_same a b e = cc

-- the digest beside a text
pub name_is : (names texts : List (Option (List ℕ))) (i : ℕ) (name text : Option (List ℕ)) → names ≡ map digest_if texts → i < length texts → name ≡ get_or names i name → text ≡ get_or texts i text → name ≡ digest_if text
name_is names texts i name text e l is at = is ∙ ap (λ (ns : List (Option (List ℕ))). get_or ns i name) e ∙ get_map_or digest_if texts i text name l at

-- one more text was kept
pub kept_more : (x : Option (List ℕ)) (rest : List (Option (List ℕ))) (old new all : List StoredNode) → new ≡ old ++ map stored (somes (x ∷ [])) → old ++ map stored (somes (x ∷ rest)) ≡ all → new ++ map stored (somes rest) ≡ all
kept_more x rest old new all is e = ap (λ (ns : List StoredNode). ns ++ map stored (somes rest)) is
    ∙ append_assoc old (map stored (somes (x ∷ []))) (map stored (somes rest))
    ∙ ap (λ (ns : List StoredNode). old ++ ns) (sym (ap (map stored) (somes_cons x rest) ∙ map-append stored (somes (x ∷ [])) (somes rest))) ∙ e

module _ {H : Type 0} (kept : H → Option Book) (clashes fulls : H → ℕ) where
  -- the lowest level was tried
  pub last_ok : {A : Type 0} (v : TreeVersion) (l : ℕ) (m : List Entry) (texts : List (Option (List ℕ))) (s t : H) (r : Result A HashError) → l ≡ levels v → texts ≡ texts_of (form_of v) (levels v) m → AdmitsAll kept clashes fulls (somes texts) s r t → AdmitsAll kept clashes fulls (nodes_down (form_of v) (levels v - l) l m) s r t
  last_ok v l m texts s t r e is h = subst (λ (xs : List (List ℕ)). AdmitsAll kept clashes fulls xs s r t) (down_last v l m texts e is) h

  -- the levels below were refused, memory ran out behind them, or the level was tried behind them
  pub level_err : {A : Type 0} (v : TreeVersion) (l : ℕ) (m : List Entry) (s t : H) (e : HashError) (r : Result A HashError) (G : HashError → Type 0) → l < levels v → Rejected kept clashes fulls (nodes_down (form_of v) (levels v - (l + 1)) (l + 1) m) s e t → IsErr r → IsErrAnd r G → ((d : HashError) → G d → d ≡ e) → AdmitsAll kept clashes fulls (nodes_down (form_of v) (levels v - l) l m) s r t
  level_err v l m s t e r G b a is and same = subst (λ (xs : List (List ℕ)). AdmitsAll kept clashes fulls xs s r t) (down_level v l m b)
      (rejected_on kept clashes fulls (nodes_down (form_of v) (levels v - (l + 1)) (l + 1) m) (somes (level_of (form_of v) l m)) s t e r G a is and same)

  pub level_memory : {A : Type 0} (v : TreeVersion) (l : ℕ) (m : List Entry) (s t : H) (r : Result A HashError) (G : HashError → Type 0) → l < levels v → Admitted kept clashes fulls (nodes_down (form_of v) (levels v - (l + 1)) (l + 1) m) s t → IsErr r → IsErrAnd r G → ((d : HashError) → G d → d ≡ Memory) → AdmitsAll kept clashes fulls (nodes_down (form_of v) (levels v - l) l m) s r t
  level_memory v l m s t r G b a is and same = subst (λ (xs : List (List ℕ)). AdmitsAll kept clashes fulls xs s r t) (down_level v l m b)
      (memory_after kept clashes fulls (nodes_down (form_of v) (levels v - (l + 1)) (l + 1) m) s t r G a is and same (somes (level_of (form_of v) l m)))

  pub level_ok : {A : Type 0} (v : TreeVersion) (l : ℕ) (m : List Entry) (texts : List (Option (List ℕ))) (s u t : H) (r : Result A HashError) → l < levels v → texts ≡ texts_of (form_of v) l m → Admitted kept clashes fulls (nodes_down (form_of v) (levels v - (l + 1)) (l + 1) m) s u → AdmitsAll kept clashes fulls (somes texts) u r t → AdmitsAll kept clashes fulls (nodes_down (form_of v) (levels v - l) l m) s r t
  level_ok v l m texts s u t r b is a h = subst (λ (xs : List (List ℕ)). AdmitsAll kept clashes fulls xs s r t) (down_step v l m texts b is)
      (admits_then kept clashes fulls (nodes_down (form_of v) (levels v - (l + 1)) (l + 1) m) (somes texts) s u t r a h)

  -- a build tries the nodes of the root and of all below it
  pub build_admits : (v : TreeVersion) (m : List Entry) (s t : H) → Admitted kept clashes fulls (nodes_down (form_of v) (levels v - 0) 0 m) s t → Admitted kept clashes fulls (build_nodes (form_of v) m) s t
  build_admits v m s t h = subst (λ (xs : List (List ℕ)). Admitted kept clashes fulls xs s t) (all_nodes v m) h

  pub build_rejects : (v : TreeVersion) (m : List Entry) (s t : H) (e : HashError) → Rejected kept clashes fulls (nodes_down (form_of v) (levels v - 0) 0 m) s e t → Rejected kept clashes fulls (build_nodes (form_of v) m) s e t
  build_rejects v m s t e h = subst (λ (xs : List (List ℕ)). Rejected kept clashes fulls xs s e t) (all_nodes v m) h
