-- A tree that is made anew, empty or of some entries: its root, and the nodes that were hashed for
-- it.
use Rattle.std.proofs.Common.{◌≡◌, ℕ, zero, suc, List, [], ◌∷◌, Ok, refl, sym, subst, inl, inr}
use Rattle.ens_base.proofs.Lists.{in_left}
use Rattle.ens_base.specs.declared.entry.Entry.{Entry}
use Rattle.ens_base.specs.Lists.{◌∈◌}
use Rattle.tree_node.specs.declared.position.Position.{Position}
use Rattle.synctree.specs.Entries.{IsMap}
use Rattle.synctree.specs.Forms.{Form, Laws, root}
use Rattle.synctree.specs.Maps.{text, IsNode, Stands}
use Rattle.synctree.specs.Installs.{write_all, install_plan}
use Rattle.synctree.specs.Plans.{Call, AnswerOf, Ends}
use Rattle.synctree.specs.Trees.{fresh_plan}
use Rattle.synctree.specs.Walks.{set_top}
use Rattle.synctree.proofs.Meaning.{ok_once, parted}
use Rattle.world_stores.specs.TreeRepair.{build_nodes, build_of, hash_all, rebuild_plan}
use Rattle.world_stores.proofs.Builds.{to_build}

-- the only node of a part without entries
pub empty_node : (F : Form) (h : ℕ) (at : Position) (x : List ℕ) → IsNode F h at [] x → x ≡ text F h at []
empty_node F zero at x n = n
empty_node F (suc h) at x (inl is) = is
empty_node F (suc h) at x (inr (c, l, some, n)) = absurd (some refl)

module _ {S : Type 0} (does : S → (call : Call) → AnswerOf call → S → Type 0) where
  -- the only node of the empty map was hashed
  pub fresh_nodes : (F : Form) (digest : List ℕ) (s t : S) (xs : List (List ℕ)) → Ends does (fresh_plan F) s xs (Ok digest) t → (x : List ℕ) → IsNode F F.depth root [] x → x ∈ xs
  fresh_nodes F digest s t xs (a, u, rest, d, e, more) x n = subst (λ zs. x ∈ zs) (sym e) (inl (empty_node F F.depth root x n))

  -- what is hashed one after another was hashed
  all_hashed : (ts : List (List ℕ)) (s t : S) (xs : List (List ℕ)) (done : Unit {0}) → Ends does (hash_all ts) s xs (Ok done) t → (x : List ℕ) → x ∈ ts → x ∈ xs
  all_hashed [] s t xs done ends x i = absurd i
  all_hashed (y ∷ ts) s t xs done (a, u, rest, d, e, more) x (inl is) = subst (λ zs. x ∈ zs) (sym e) (inl is)
  all_hashed (y ∷ ts) s t xs done (a, u, rest, d, e, more) x (inr i) = subst (λ zs. x ∈ zs) (sym e) (inr (all_hashed ts u t rest done more x i))

  set_is : (top digest : List ℕ) (s t : S) (xs : List (List ℕ)) → Ends does (set_top top) s xs (Ok digest) t → digest ≡ top
  set_is top digest s t xs (a, u, rest, d, e, (n, is, same)) = ok_once digest top is

  module _ (F : Form) (laws : Laws F) (m : List Entry) where
    pub rebuild_nodes : (digest : List ℕ) (s t : S) (xs : List (List ℕ)) → Ends does (rebuild_plan F m) s xs (Ok digest) t → (x : List ℕ) → IsNode F F.depth root m x → x ∈ xs
    rebuild_nodes digest s t xs ends x n =
        let r = parted does (hash_all (build_nodes F m)) (λ _. install_plan (build_of F m).nodes (build_of F m).top) s t xs digest ends in
        subst (λ zs. x ∈ zs) (sym r.strings) (in_left r.first r.second x (all_hashed (build_nodes F m) s r.between r.first r.value r.came x (to_build F laws m x n)))

    pub rebuild_stands : (digest : List ℕ) (s t : S) (xs : List (List ℕ)) → IsMap m → Ends does (rebuild_plan F m) s xs (Ok digest) t → Stands F digest m
    rebuild_stands digest s t xs ok ends =
        let r = parted does (hash_all (build_nodes F m)) (λ _. install_plan (build_of F m).nodes (build_of F m).top) s t xs digest ends in
        let q = parted does (write_all (build_of F m).nodes) (λ _. set_top (build_of F m).top) r.between t r.second digest r.went_on in
        record { is_map = ok; root_is = set_is (build_of F m).top digest q.between t q.second q.went_on }
