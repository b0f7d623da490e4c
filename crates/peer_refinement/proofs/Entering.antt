-- Each node of a map with one more entry is a node of the map before, or was hashed by the walk that
-- entered the entry.
use Rattle.std.proofs.Common.{◌≡◌, ◌≢◌, ◌⊎◌, ℕ, zero, suc, ◌<◌, Bool, true, false, List, [], ◌++◌, Option, None, Some, Ok, get_or, set, replicate, refl, ap, sym, ◌∙◌, subst, arith, inl, inr}
use Rattle.ens_base.proofs.Lists.{in_left, in_right}
use Rattle.std.specs.Prelude.{◌==◌}
use Rattle.std.proofs.lemmas.Bool.Decides.{nat_tests}
use Rattle.md5.specs.Md5.{md5}
use Rattle.ens_base.specs.declared.entry.Entry.{Entry}
use Rattle.ens_base.specs.Lists.{◌∈◌}
use Rattle.tree_node.specs.declared.position.Position.{Position}
use Rattle.synctree.specs.Entries.{IsMap, put}
use Rattle.synctree.specs.Forms.{Form, Laws, IsPlace, child, root}
use Rattle.synctree.specs.Maps.{within, named, text, children, IsNode, AreApart, Stands}
use Rattle.synctree.proofs.Parts.{put-other, map_part}
use Rattle.synctree.proofs.Unique.{root_place, child_place, child_is}
use Rattle.synctree.specs.Plans.{Call, AnswerOf, ◌>>=◌, Ends}
use Rattle.synctree.specs.Trees.{insert_plan}
use Rattle.synctree.specs.Walks.{reach, store, set_top, enter}
use Rattle.synctree.proofs.Meaning.{parted}
use Rattle.synctree.proofs.Standing.{Names, NamedApart, names_child, named_left, named_right, named_child, same_part, children_put, reached_segment, reached_names, enter_is}

-- a string of one of the two parts of a run was hashed in the run
in_first : (x : List ℕ) (xs first second : List (List ℕ)) → xs ≡ first ++ second → x ∈ first → x ∈ xs
in_first x xs first second is i = subst (λ zs. x ∈ zs) (sym is) (in_left first second x i)

in_second : (x : List ℕ) (xs first second : List (List ℕ)) → xs ≡ first ++ second → x ∈ second → x ∈ xs
in_second x xs first second is i = subst (λ zs. x ∈ zs) (sym is) (in_right first second x i)

-- the string is one of these, or a node of a part that has entries
abbrev IsKnown : List (List ℕ) → Form → ℕ → Position → List Entry → List ℕ → Type 0
IsKnown xs F h at m x = (x ∈ xs) ⊎ ((m ≢ []) × IsNode F h at m x)

module _ (F : Form) (laws : Laws F) {S : Type 0} (does : S → (call : Call) → AnswerOf call → S → Type 0) where
  stored_in : (bytes digest : List ℕ) (s t : S) (xs : List (List ℕ)) → Ends does (store bytes) s xs (Ok digest) t → bytes ∈ xs
  stored_in bytes digest s t xs (a, u, rest, d, e, more) = subst (λ zs. bytes ∈ zs) (sym e) (inl refl)

  -- an entering below a node: it entered the entry below the child of the key, and hashed the node
  -- after that
  record Below (h : ℕ) (at : Position) (e : Entry) (m : List Entry) (xs : List (List ℕ)) : Type 0 where
    name : Option (List ℕ)
    digest : List ℕ
    before : S
    later : S
    strings : List (List ℕ)
    names : Names F h (child F at (F.digit e.key at.level)) name (within F at (F.digit e.key at.level) m)
    apart : NamedApart strings F h (child F at (F.digit e.key at.level)) name (within F at (F.digit e.key at.level) m)
    came : Ends does (enter F h (child F at (F.digit e.key at.level)) name e) before strings (Ok digest) later
    among : (x : List ℕ) → x ∈ strings → x ∈ xs
    hashed : text F (suc h) at (put e m) ∈ xs

  went_below : (h : ℕ) (at : Position) (o : Option (List ℕ)) (e : Entry) (m : List Entry) (s t : S) (xs : List (List ℕ)) (new : List ℕ) → IsPlace F (suc h) at → IsMap m → Names F (suc h) at o m → NamedApart xs F (suc h) at o m
      → Ends does (enter F (suc h) at o e) s xs (Ok new) t → Below h at e m xs
  went_below h at o e m s t xs new p ok n apart ends =
      let r = parted does (reach (F.inner_at at) (replicate F.width None) at o) (λ names. enter F h (child F at (F.digit e.key at.level)) (get_or names (F.digit e.key at.level) None) e >>= (λ below. store (F.inner_text at (set names (F.digit e.key at.level) (Some below))))) s t xs new ends in
      let both : NamedApart (r.first ++ r.second) F (suc h) at o m = subst (λ zs. NamedApart zs F (suc h) at o m) r.strings apart in
      let cs : r.value ≡ children F h at m = reached_names F laws does h at o m s r.between r.first r.value p n (named_left F (suc h) at o m r.first r.second both) r.came in
      let q = parted does (enter F h (child F at (F.digit e.key at.level)) (get_or r.value (F.digit e.key at.level) None) e) (λ below. store (F.inner_text at (set r.value (F.digit e.key at.level) (Some below)))) r.between t r.second new r.went_on in
      let rest : NamedApart (q.first ++ q.second) F (suc h) at o m = subst (λ zs. NamedApart zs F (suc h) at o m) {y = q.first ++ q.second} q.strings (named_right F (suc h) at o m r.first r.second both) in
      let named_is : get_or r.value (F.digit e.key at.level) None ≡ named (within F at (F.digit e.key at.level) m) (text F h (child F at (F.digit e.key at.level)) (within F at (F.digit e.key at.level) m)) =
      ap (λ zs. get_or zs (F.digit e.key at.level) None) cs ∙ child_is F h at m (F.digit e.key at.level) (laws.in_width e.key at.level) in
      let child_names = names_child F h (child F at (F.digit e.key at.level)) (within F at (F.digit e.key at.level) m) (get_or r.value (F.digit e.key at.level) None) named_is in
      let child_apart = named_child F h at o (get_or r.value (F.digit e.key at.level) None) m (F.digit e.key at.level) (laws.in_width e.key at.level) n named_is q.first (named_left F (suc h) at o m q.first q.second rest) in
      let under : q.value ≡ md5 (text F h (child F at (F.digit e.key at.level)) (put e (within F at (F.digit e.key at.level) m))) =
      enter_is F laws does h (child F at (F.digit e.key at.level)) (get_or r.value (F.digit e.key at.level) None) e (within F at (F.digit e.key at.level) m) r.between q.between q.first q.value
      (child_place F h at (F.digit e.key at.level) (laws.in_width e.key at.level) p) (map_part (λ k. F.digit k at.level == F.digit e.key at.level) m ok) child_names child_apart q.came in
      let is : set r.value (F.digit e.key at.level) (Some q.value) ≡ children F h at (put e m) = ap (λ zs. set zs (F.digit e.key at.level) (Some q.value)) cs ∙ children_put F laws h at e m q.value ok.ascends under in
      let last : F.inner_text at (set r.value (F.digit e.key at.level) (Some q.value)) ∈ q.second = stored_in (F.inner_text at (set r.value (F.digit e.key at.level) (Some q.value))) new q.between t q.second q.went_on in
      record {
        name = get_or r.value (F.digit e.key at.level) None;
        digest = q.value;
        before = r.between;
        later = q.between;
        strings = q.first;
        names = child_names;
        apart = child_apart;
        came = q.came;
        among = λ x i. in_second x xs r.first r.second r.strings (in_first x r.second q.first q.second q.strings i);
        hashed = in_second (text F (suc h) at (put e m)) xs r.first r.second r.strings (in_second (text F (suc h) at (put e m)) r.second q.first q.second q.strings (subst (λ zs. F.inner_text at zs ∈ q.second) is last));
      }

  -- a node of a child of the map with the entry
  child_known : (h : ℕ) (at : Position) (e : Entry) (m : List Entry) (xs : List (List ℕ)) (b : Below h at e m xs) (c : ℕ) (x : List ℕ) (same : Bool) → (F.digit e.key at.level == c) ≡ same → c < F.width → IsMap m
      → ((y : List ℕ) → IsNode F h (child F at (F.digit e.key at.level)) (put e (within F at (F.digit e.key at.level) m)) y → IsKnown b.strings F h (child F at (F.digit e.key at.level)) (within F at (F.digit e.key at.level) m) y)
      → within F at c (put e m) ≢ [] → IsNode F h (child F at c) (within F at c (put e m)) x → IsKnown xs F (suc h) at m x
  child_known h at e m xs b c x true same l ok lower some n =
      let is : c ≡ F.digit e.key at.level = grind (arith, nat_tests) in
      let here : IsNode F h (child F at (F.digit e.key at.level)) (within F at (F.digit e.key at.level) (put e m)) x = subst (λ (d : ℕ). IsNode F h (child F at d) (within F at d (put e m)) x) is n in
      by (lower x (subst (λ (es : List Entry). IsNode F h (child F at (F.digit e.key at.level)) es x) (same_part F laws at e m ok.ascends) here))
    where
      by : IsKnown b.strings F h (child F at (F.digit e.key at.level)) (within F at (F.digit e.key at.level) m) x → IsKnown xs F (suc h) at m x
      by (inl i) = inl (b.among x i)
      by (inr (has, n)) = inr (λ none. has (ap (within F at (F.digit e.key at.level)) none), inr (F.digit e.key at.level, laws.in_width e.key at.level, has, n))
  child_known h at e m xs b c x false other l ok lower some n =
      let same : within F at c (put e m) ≡ within F at c m = put-other (λ key. F.digit key at.level == c) e other m in
      let has : within F at c m ≢ [] = λ none. some (same ∙ none) in
      inr (λ none. has (ap (within F at c) none), inr (c, l, has, subst (λ (es : List Entry). IsNode F h (child F at c) es x) same n))

  enter_nodes : (h : ℕ) (at : Position) (o : Option (List ℕ)) (e : Entry) (m : List Entry) (s t : S) (xs : List (List ℕ)) (new : List ℕ) → IsPlace F h at → IsMap m → Names F h at o m → NamedApart xs F h at o m
      → Ends does (enter F h at o e) s xs (Ok new) t → (x : List ℕ) → IsNode F h at (put e m) x → IsKnown xs F h at m x
  enter_nodes zero at o e m s t xs new p ok n apart ends x is =
      let r = parted does (reach (F.segment_at at) [] at o) (λ entries. store (F.segment_text at (put e entries))) s t xs new ends in
      let both : NamedApart (r.first ++ r.second) F zero at o m = subst (λ zs. NamedApart zs F zero at o m) r.strings apart in
      let es : r.value ≡ m = reached_segment F laws does at o m s r.between r.first r.value p ok n (named_left F zero at o m r.first r.second both) r.came in
      let last : F.segment_text at (put e r.value) ∈ r.second = stored_in (F.segment_text at (put e r.value)) new r.between t r.second r.went_on in
      let here : x ∈ r.second = subst (λ y. y ∈ r.second) (ap (λ l. F.segment_text at (put e l)) es ∙ sym is) last in
      inl (in_second x xs r.first r.second r.strings here)
  enter_nodes (suc h) at o e m s t xs new p ok n apart ends x is =
      let b = went_below h at o e m s t xs new p ok n apart ends in
      by b (enter_nodes h (child F at (F.digit e.key at.level)) b.name e (within F at (F.digit e.key at.level) m) b.before b.later b.strings b.digest
      (child_place F h at (F.digit e.key at.level) (laws.in_width e.key at.level) p) (map_part (λ k. F.digit k at.level == F.digit e.key at.level) m ok) b.names b.apart b.came) is
    where
      by : (b : Below h at e m xs) → ((y : List ℕ) → IsNode F h (child F at (F.digit e.key at.level)) (put e (within F at (F.digit e.key at.level) m)) y → IsKnown b.strings F h (child F at (F.digit e.key at.level)) (within F at (F.digit e.key at.level) m) y)
          → IsNode F (suc h) at (put e m) x → IsKnown xs F (suc h) at m x
      by b lower (inl top) = inl (subst (λ y. y ∈ xs) (sym top) b.hashed)
      by b lower (inr (c, l, some, n)) = child_known h at e m xs b c x (F.digit e.key at.level == c) refl l ok lower some n

  -- each node of the map with the entry was a node, or was hashed
  pub insert_nodes : (digest : List ℕ) (e : Entry) (m : List Entry) (s t : S) (xs : List (List ℕ)) (new : List ℕ) → Stands F digest m → AreApart xs F F.depth root m → Ends does (insert_plan F (Some digest) e) s xs (Ok new) t
      → (x : List ℕ) → IsNode F F.depth root (put e m) x → (x ∈ xs) ⊎ IsNode F F.depth root m x
  insert_nodes digest e m s t xs new stands apart (a, u, rest, d, eq, more) x n =
      let r = parted does (enter F F.depth root (Some digest) e) set_top u t rest new more in
      let here : AreApart rest F F.depth root m = λ y z i k. apart y z (subst (λ zs. y ∈ zs) (sym eq) (inr i)) k in
      let first : AreApart r.first F F.depth root m = λ y z i k. here y z (in_first y rest r.first r.second r.strings i) k in
      by r.first (λ i. subst (λ zs. x ∈ zs) (sym eq) (inr (in_first x rest r.first r.second r.strings i)))
      (enter_nodes F.depth root (Some digest) e m u r.between r.first r.value (root_place F) stands.is_map stands.root_is first r.came x n)
    where
      by : (ys : List (List ℕ)) → (x ∈ ys → x ∈ xs) → IsKnown ys F F.depth root m x → (x ∈ xs) ⊎ IsNode F F.depth root m x
      by ys among (inl i) = inl (among i)
      by ys among (inr (some, n)) = inr n
