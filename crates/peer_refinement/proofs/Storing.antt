-- An entering stores each node of the new map, and leaves what is stored.
use Rattle.std.proofs.Common.{◌≡◌, ◌≢◌, ℕ, zero, suc, ◌<◌, Bool, true, false, List, [], ◌∷◌, Option, None, Some, get_or, set, replicate, refl, ap, sym, ◌∙◌, subst, arith, inl, inr}
use Rattle.ens_base.proofs.Lists.{bytes_same, bytes_itself}
use Rattle.std.specs.Prelude.{◌==◌, map}
use Rattle.std.proofs.lemmas.Bool.Decides.{nat_tests}
use Rattle.md5.specs.Md5.{md5}
use Rattle.ens_base.specs.declared.entry.Entry.{Entry}
use Rattle.ens_base.specs.Lists.{◌∈◌, same_bytes}
use Rattle.environment.specs.Maps.{with_value}
use Rattle.environment.specs.Stores.{Write}
use Rattle.environment.proofs.MapLaws.{found_after, others_after}
use Rattle.world_stores.proofs.Builds.{to_build}
use Rattle.synctree.specs.Installs.{write_all, install_plan}
use Rattle.synctree.specs.Plans.{◌>>=◌}
use Rattle.synctree.specs.Trees.{insert_plan, fresh_plan}
use Rattle.synctree.specs.Walks.{reach, store, set_top, enter}
use Rattle.synctree.proofs.Standing.{Names, names_child, same_part, children_put}
use Rattle.synctree.specs.Entries.{IsMap, put}
use Rattle.synctree.specs.Forms.{Form, Laws, IsPlace, child, root}
use Rattle.synctree.specs.Maps.{within, named, text, children, IsNode, Stands}
use Rattle.synctree.proofs.Parts.{each-none, put-other, map_part}
use Rattle.synctree.proofs.Unique.{has_entries, root_place, child_place, child_is}
use Rattle.tree_node.specs.declared.position.Position.{Position}
use Rattle.world_stores.specs.TreeRepair.{stored as under_digest, build_nodes, build_of, hash_all, rebuild_plan}
use Rattle.world_stores.specs.Nodes.{Nodes, after}
use Rattle.peer_refinement.specs.Trees.{AreFree}
use Rattle.peer_refinement.specs.Whole.{IsStored}
use Rattle.peer_refinement.proofs.Arriving.{Reaches, Tells, reaches_then, reaches_more, tells_then}
use Rattle.peer_refinement.proofs.Installing.{empty_node}
use Rattle.peer_refinement.proofs.Reading.{AreStored, segment_tells, names_tell}

module _ (strings : List (List ℕ)) where
  -- the string is in the list, and stored
  abbrev pub IsKept : Nodes → List ℕ → Type 0
  IsKept s x = (x ∈ strings) × IsStored s.entries x

  -- what was stored of the list still is, and no failure waits that did not wait before
  pub record Keeps (s t : Nodes) : Type 0 where
    pub stored : (x : List ℕ) → x ∈ strings → IsStored s.entries x → IsStored t.entries x
    pub faults : t.faults ≡ s.faults

  keeps_then : (s t u : Nodes) → Keeps s t → Keeps t u → Keeps s u
  keeps_then s t u first then = record { stored = λ x i k. then.stored x i (first.stored x i k); faults = then.faults ∙ first.faults }

  still_kept : (s t : Nodes) (x : List ℕ) → Keeps s t → IsKept s x → IsKept t x
  still_kept s t x keeps (i, stored) = (i, keeps.stored x i stored)

  -- the digest that a write returned; and the bytes are kept after it
  record Stored (bytes : List ℕ) (s : Nodes) (digest : List ℕ) (t : Nodes) : Type 0 where
    is : digest ≡ md5 bytes
    kept : IsKept t bytes
    keeps : Keeps s t

  module _ (free : AreFree strings) where
    still_stored : (bytes x : List ℕ) (s : Nodes) → bytes ∈ strings → x ∈ strings → IsStored s.entries x → IsStored (with_value (md5 bytes) bytes s.entries) x
    still_stored bytes x s i j stored = by (same_bytes (md5 x) (md5 bytes)) refl
      where
        no : same_bytes (md5 x) (md5 bytes) ≡ false → md5 x ≡ md5 bytes → ⊥
        no differ e = let bad : true ≡ false = sym (bytes_itself (md5 bytes)) ∙ ap (λ k. same_bytes k (md5 bytes)) (sym e) ∙ differ in cc

        by : (b : Bool) → same_bytes (md5 x) (md5 bytes) ≡ b → IsStored (with_value (md5 bytes) bytes s.entries) x
        by true same =
            let is : x ≡ bytes = free x bytes j i (bytes_same (md5 x) (md5 bytes) same) in
            subst (λ (y : List ℕ). IsStored (with_value (md5 bytes) bytes s.entries) y) (sym is) (found_after (md5 bytes) bytes s.entries)
        by false differ = others_after (md5 bytes) (md5 x) bytes s.entries (no differ) ∙ stored

    store_reaches : (bytes : List ℕ) (s : Nodes) → Reaches strings (store bytes) s (Stored bytes s)
    store_reaches bytes s = λ i. (
      refl,
      record {
        is = refl;
        kept = (i, found_after (md5 bytes) bytes s.entries);
        keeps = record { stored = λ x j stored. still_stored bytes x s i j stored; faults = refl };
      },
    )

    module _ (F : Form) (laws : Laws F) where
      -- each node of a part of a map that is named is kept
      abbrev NamedKept : Nodes → ℕ → Position → Option (List ℕ) → List Entry → Type 0
      NamedKept s h at None m = Unit {0}
      NamedKept s h at (Some d) m = (x : List ℕ) → IsNode F h at m x → IsKept s x

      -- the entry was entered below a position
      record Entered (h : ℕ) (at : Position) (e : Entry) (m : List Entry) (s : Nodes) (digest : List ℕ) (t : Nodes) : Type 0 where
        is : digest ≡ md5 (text F h at (put e m))
        nodes : (x : List ℕ) → IsNode F h at (put e m) x → IsKept t x
        keeps : Keeps s t

      reach_segment : (at : Position) (o : Option (List ℕ)) (m : List Entry) (s : Nodes) → IsPlace F zero at → IsMap m → Names F zero at o m → NamedKept s zero at o m → Tells strings (reach (F.segment_at at) [] at o) s m
      reach_segment at None m s p ok n kept = (sym n, refl)
      reach_segment at (Some d) m s p ok n kept = segment_tells strings F laws s at m d p ok n (λ x i. (kept x i).1)

      reach_names : (h : ℕ) (at : Position) (o : Option (List ℕ)) (m : List Entry) (s : Nodes) → IsPlace F (suc h) at → Names F (suc h) at o m → NamedKept s (suc h) at o m → Tells strings (reach (F.inner_at at) (replicate F.width None) at o) s (children F h at m)
      reach_names h at None m s p n kept = (sym (each-none F.width 0) ∙ ap (children F h at) (sym n), refl)
      reach_names h at (Some d) m s p n kept = names_tell strings F laws s h at m d p n (λ x i. (kept x i).1)

      child_kept : (h : ℕ) (at : Position) (o q : Option (List ℕ)) (m : List Entry) (s : Nodes) (c : ℕ) → c < F.width → Names F (suc h) at o m → q ≡ named (within F at c m) (text F h (child F at c) (within F at c m)) → NamedKept s (suc h) at o m → NamedKept s h (child F at c) q (within F at c m)
      child_kept h at o None m s c l n is kept = tt
      child_kept h at None (Some d) m s c l n is kept = absurd (has_entries (within F at c m) (text F h (child F at c) (within F at c m)) d (sym is) (ap (within F at c) n))
      child_kept h at (Some b) (Some d) m s c l n is kept = λ x i. kept x (inr (c, l, has_entries (within F at c m) (text F h (child F at c) (within F at c m)) d (sym is), i))

      -- a node of the map that was there before the entry
      old_node : (h : ℕ) (at : Position) (o : Option (List ℕ)) (m : List Entry) (s : Nodes) (c : ℕ) (x : List ℕ) → c < F.width → Names F (suc h) at o m → NamedKept s (suc h) at o m → within F at c m ≢ [] → IsNode F h (child F at c) (within F at c m) x → IsKept s x
      old_node h at None m s c x l n kept some i = absurd (some (ap (within F at c) n))
      old_node h at (Some d) m s c x l n kept some i = kept x (inr (c, l, some, i))

      -- a node of a child of the map with the entry
      child_node : (h : ℕ) (at : Position) (o : Option (List ℕ)) (e : Entry) (m : List Entry) (s t : Nodes) (c : ℕ) (x : List ℕ) (same : Bool) → (F.digit e.key at.level == c) ≡ same → c < F.width → IsMap m → Names F (suc h) at o m → NamedKept s (suc h) at o m
          → ((y : List ℕ) → IsNode F h (child F at (F.digit e.key at.level)) (put e (within F at (F.digit e.key at.level) m)) y → IsKept t y) → Keeps s t → within F at c (put e m) ≢ [] → IsNode F h (child F at c) (within F at c (put e m)) x → IsKept t x
      child_node h at o e m s t c x true same l ok n kept nodes keeps some i =
          let is : c ≡ F.digit e.key at.level = grind (arith, nat_tests) in
          let here : IsNode F h (child F at (F.digit e.key at.level)) (within F at (F.digit e.key at.level) (put e m)) x = subst (λ (d : ℕ). IsNode F h (child F at d) (within F at d (put e m)) x) is i in
          nodes x (subst (λ (es : List Entry). IsNode F h (child F at (F.digit e.key at.level)) es x) (same_part F laws at e m ok.ascends) here)
      child_node h at o e m s t c x false other l ok n kept nodes keeps some i =
          let same : within F at c (put e m) ≡ within F at c m = put-other (λ key. F.digit key at.level == c) e other m in
          still_kept s t x keeps (old_node h at o m s c x l n kept (λ none. some (same ∙ none)) (subst (λ (es : List Entry). IsNode F h (child F at c) es x) same i))

      -- the node is stored after the one below it
      top_stored : (h : ℕ) (at : Position) (o : Option (List ℕ)) (e : Entry) (m : List Entry) (s t u : Nodes) (below digest : List ℕ) → IsMap m → Names F (suc h) at o m → NamedKept s (suc h) at o m
          → Entered h (child F at (F.digit e.key at.level)) e (within F at (F.digit e.key at.level) m) s below t → Stored (F.inner_text at (set (children F h at m) (F.digit e.key at.level) (Some below))) t digest u → Entered (suc h) at e m s digest u
      top_stored h at o e m s t u below digest ok n kept entered stored = record {
        is = stored.is ∙ ap (λ zs. md5 (F.inner_text at zs)) set_is;
        nodes = node;
        keeps = keeps_then s t u entered.keeps stored.keeps;
      }
        where
          set_is : set (children F h at m) (F.digit e.key at.level) (Some below) ≡ children F h at (put e m)
          set_is = children_put F laws h at e m below ok.ascends entered.is

          node : (x : List ℕ) → IsNode F (suc h) at (put e m) x → IsKept u x
          node x (inl is) = subst (IsKept u) (ap (F.inner_text at) set_is ∙ sym is) stored.kept
          node x (inr (c, l, some, i)) = still_kept t u x stored.keeps (child_node h at o e m s t c x (F.digit e.key at.level == c) refl l ok n kept entered.nodes entered.keeps some i)

      segment_stored : (at : Position) (e : Entry) (m : List Entry) (s : Nodes) (digest : List ℕ) (t : Nodes) → Stored (F.segment_text at (put e m)) s digest t → Entered zero at e m s digest t
      segment_stored at e m s digest t stored = record { is = stored.is; nodes = λ x is. subst (IsKept t) (sym is) stored.kept; keeps = stored.keeps }

      enter_reaches : (h : ℕ) (at : Position) (o : Option (List ℕ)) (e : Entry) (m : List Entry) (s : Nodes) → IsPlace F h at → IsMap m → Names F h at o m → NamedKept s h at o m → Reaches strings (enter F h at o e) s (Entered h at e m s)
      enter_reaches zero at o e m s p ok n kept =
          tells_then strings (reach (F.segment_at at) [] at o) (λ entries. store (F.segment_text at (put e entries))) s m (Entered zero at e m s) (reach_segment at o m s p ok n kept)
          (reaches_more strings (store (F.segment_text at (put e m))) s (Stored (F.segment_text at (put e m)) s) (Entered zero at e m s) (store_reaches (F.segment_text at (put e m)) s) (λ digest t stored. segment_stored at e m s digest t stored))
      enter_reaches (suc h) at o e m s p ok n kept =
          let is = child_is F h at m (F.digit e.key at.level) (laws.in_width e.key at.level) in
          tells_then strings (reach (F.inner_at at) (replicate F.width None) at o)
          (λ names. enter F h (child F at (F.digit e.key at.level)) (get_or names (F.digit e.key at.level) None) e >>= (λ below. store (F.inner_text at (set names (F.digit e.key at.level) (Some below))))) s (children F h at m) (Entered (suc h) at e m s) (reach_names h at o m s p n kept)
          (reaches_then strings (enter F h (child F at (F.digit e.key at.level)) (get_or (children F h at m) (F.digit e.key at.level) None) e) (λ below. store (F.inner_text at (set (children F h at m) (F.digit e.key at.level) (Some below)))) s
          (Entered h (child F at (F.digit e.key at.level)) e (within F at (F.digit e.key at.level) m) s) (Entered (suc h) at e m s)
          (enter_reaches h (child F at (F.digit e.key at.level)) (get_or (children F h at m) (F.digit e.key at.level) None) e (within F at (F.digit e.key at.level) m) s (child_place F h at (F.digit e.key at.level) (laws.in_width e.key at.level) p)
          (map_part (λ k. F.digit k at.level == F.digit e.key at.level) m ok)
          (names_child F h (child F at (F.digit e.key at.level)) (within F at (F.digit e.key at.level) m) (get_or (children F h at m) (F.digit e.key at.level) None) is)
          (child_kept h at o (get_or (children F h at m) (F.digit e.key at.level) None) m s (F.digit e.key at.level) (laws.in_width e.key at.level) n is kept))
          (λ below t entered. reaches_more strings (store (F.inner_text at (set (children F h at m) (F.digit e.key at.level) (Some below)))) t (Stored (F.inner_text at (set (children F h at m) (F.digit e.key at.level) (Some below))) t) (Entered (suc h) at e m s)
          (store_reaches (F.inner_text at (set (children F h at m) (F.digit e.key at.level) (Some below))) t) (λ digest u stored. top_stored h at o e m s t u below digest ok n kept entered stored)))

      -- each node of the map with the entry is stored, and no failure waits
      pub insert_reaches : (digest : List ℕ) (e : Entry) (m : List Entry) (s : Nodes) → s.faults.pending ≡ None → Stands F digest m → ((x : List ℕ) → IsNode F F.depth root m x → IsKept s x)
          → Reaches strings (insert_plan F (Some digest) e) s (λ new t. AreStored t F F.depth root (put e m) × (t.faults ≡ s.faults))
      insert_reaches digest e m s none stands kept = λ i. reaches_then strings (enter F F.depth root (Some digest) e) set_top s (Entered F.depth root e m s) (λ new t. AreStored t F F.depth root (put e m) × (t.faults ≡ s.faults))
          (enter_reaches F.depth root (Some digest) e m s (root_place F) stands.is_map stands.root_is kept)
          (λ new t entered. (ap (λ f. f.pending) entered.keeps.faults ∙ none, (λ x n. (entered.nodes x n).1, entered.keeps.faults)))

      -- ## A new tree

      -- the strings were hashed, and the nodes are as they were
      all_hashed : (ts : List (List ℕ)) (s : Nodes) → Reaches strings (hash_all ts) s (λ v t. ((x : List ℕ) → x ∈ ts → x ∈ strings) × (t ≡ s))
      all_hashed [] s = (λ x i. absurd i, refl)
      all_hashed (y ∷ ts) s = λ known. reaches_more strings (hash_all ts) s (λ v t. ((x : List ℕ) → x ∈ ts → x ∈ strings) × (t ≡ s)) (λ v t. ((x : List ℕ) → x ∈ (y ∷ ts) → x ∈ strings) × (t ≡ s)) (all_hashed ts s) (λ v t rest. (by known rest.0, rest.1))
        where
          by : y ∈ strings → ((x : List ℕ) → x ∈ ts → x ∈ strings) → (x : List ℕ) → x ∈ (y ∷ ts) → x ∈ strings
          by known rest x (inl is) = subst (λ (z : List ℕ). z ∈ strings) (sym is) known
          by known rest x (inr i) = rest x i

      -- the strings are stored
      all_written : (ts : List (List ℕ)) (s : Nodes) → ((x : List ℕ) → x ∈ ts → x ∈ strings) → Reaches strings (write_all (map under_digest ts)) s (λ v t. ((x : List ℕ) → x ∈ ts → IsStored t.entries x) × Keeps s t)
      all_written [] s known = (λ x i. absurd i, record { stored = λ x i k. k; faults = refl })
      all_written (y ∷ ts) s known = (
        refl,
        reaches_more strings (write_all (map under_digest ts)) (after s (Write (md5 y) y)) (λ v t. ((x : List ℕ) → x ∈ ts → IsStored t.entries x) × Keeps (after s (Write (md5 y) y)) t) (λ v t. ((x : List ℕ) → x ∈ (y ∷ ts) → IsStored t.entries x) × Keeps s t)
            (all_written ts (after s (Write (md5 y) y)) (λ x i. known x (inr i))) (λ v t rest. (by t rest.0 rest.1, keeps_then s (after s (Write (md5 y) y)) t one rest.1)),
      )
        where
          one : Keeps s (after s (Write (md5 y) y))
          one = record { stored = λ x i k. still_stored y x s (known y (inl refl)) i k; faults = refl }

          by : (t : Nodes) → ((x : List ℕ) → x ∈ ts → IsStored t.entries x) → Keeps (after s (Write (md5 y) y)) t → (x : List ℕ) → x ∈ (y ∷ ts) → IsStored t.entries x
          by t rest keeps x (inl is) = subst (IsStored t.entries) (sym is) (keeps.stored y (known y (inl refl)) (found_after (md5 y) y s.entries))
          by t rest keeps x (inr i) = rest x i

      -- each node of the map of these entries is stored
      pub rebuild_reaches : (m : List Entry) (s : Nodes) → s.faults.pending ≡ None → Reaches strings (rebuild_plan F m) s (λ new t. AreStored t F F.depth root m × (t.faults ≡ s.faults))
      rebuild_reaches m s none = reaches_then strings (hash_all (build_nodes F m)) (λ v. install_plan (build_of F m).nodes (build_of F m).top) s (λ v t. ((x : List ℕ) → x ∈ build_nodes F m → x ∈ strings) × (t ≡ s)) (λ new t. AreStored t F F.depth root m × (t.faults ≡ s.faults))
          (all_hashed (build_nodes F m) s) (λ v t hashed. subst (λ (u : Nodes). Reaches strings (install_plan (build_of F m).nodes (build_of F m).top) u (λ new t. AreStored t F F.depth root m × (t.faults ≡ s.faults))) (sym hashed.1) (installs hashed.0))
        where
          installs : ((x : List ℕ) → x ∈ build_nodes F m → x ∈ strings) → Reaches strings (install_plan (build_of F m).nodes (build_of F m).top) s (λ new t. AreStored t F F.depth root m × (t.faults ≡ s.faults))
          installs known = reaches_then strings (write_all (build_of F m).nodes) (λ v. set_top (build_of F m).top) s (λ v t. ((x : List ℕ) → x ∈ build_nodes F m → IsStored t.entries x) × Keeps s t) (λ new t. AreStored t F F.depth root m × (t.faults ≡ s.faults))
              (all_written (build_nodes F m) s known) (λ v t written. (ap (λ f. f.pending) written.1.faults ∙ none, (λ x n. written.0 x (to_build F laws m x n), written.1.faults)))

  -- the node of an empty map is stored
  pub fresh_reaches : (F : Form) (s : Nodes) → s.faults.pending ≡ None → Reaches strings (fresh_plan F) s (λ new t. AreStored t F F.depth root [] × (t.faults ≡ s.faults))
  fresh_reaches F s none = λ i. (refl, (none, (λ x n. subst (IsStored (with_value (md5 (text F F.depth root [])) (text F F.depth root []) s.entries)) (sym (empty_node F F.depth root x n)) (found_after (md5 (text F F.depth root [])) (text F F.depth root []) s.entries), refl)))
