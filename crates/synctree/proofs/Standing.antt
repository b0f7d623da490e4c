-- What entering an entry does to every map that stood under the top record.
use Rattle.std.proofs.Common.{◌≡◌, ◌≢◌, ℕ, zero, suc, ◌+◌, ◌<◌, ◌^◌, false, List, [], ◌∷◌, ◌++◌, Option, None, Some, Ok, get_or, set, replicate, length, refl, ap, sym, ◌∙◌, subst, arith, inr}
use Rattle.std.specs.Prelude.{◌==◌}
use Rattle.std.proofs.lemmas.Bool.Decides.{nat_tests}
use Rattle.md5.specs.Md5.{md5}
use Rattle.ens_base.specs.declared.entry.Entry.{Entry}
use Rattle.ens_base.specs.Lists.{◌∈◌}
use Rattle.synctree.specs.Fields.{IsEntry}
use Rattle.synctree.specs.TreeNode.{Position}
use Rattle.synctree.specs.Entries.{Ascends, IsMap, put}
use Rattle.synctree.specs.Forms.{Form, Laws, IsPlace, child, root}
use Rattle.synctree.specs.Maps.{within, named, text, children, AreApart, Stands}
use Rattle.synctree.proofs.Parts.{each-none, set-each, put-part, put-other, named-put, map_part, map_put}
use Rattle.synctree.proofs.Unique.{has_entries, root_place, child_place, child_is}
use Rattle.synctree.specs.declared.error.TreeError.{TreeError}
use Rattle.synctree.specs.Meanings.{Inserts}
use Rattle.synctree.specs.Plans.{Call, AnswerOf, ◌>>=◌, Ends, Did}
use Rattle.synctree.specs.Walks.{reach, store, set_top, enter}
use Rattle.synctree.specs.Trees.{insert_plan}
use Rattle.synctree.proofs.Meaning.{ok_once, apart_left, apart_right, apart_child, parted, opened, segment_is, names_are}

-- the digest of the node of a part of a map, or none if the part is empty
abbrev pub Names : Form → ℕ → Position → Option (List ℕ) → List Entry → Type 0
Names F h at None m = m ≡ []
Names F h at (Some d) m = d ≡ md5 (text F h at m)

pub names_child : (F : Form) (h : ℕ) (at : Position) (l : List Entry) (o : Option (List ℕ)) → o ≡ named l (text F h at l) → Names F h at o l
names_child F h at [] None e = refl
names_child F h at [] (Some d) e = absurd cc
names_child F h at (x ∷ l) None e = absurd cc
names_child F h at (x ∷ l) (Some d) e = cc

-- the strings are apart from the nodes of a part of a map, if it is named
abbrev pub NamedApart : List (List ℕ) → Form → ℕ → Position → Option (List ℕ) → List Entry → Type 0
NamedApart strings F h at None m = Unit {0}
NamedApart strings F h at (Some d) m = AreApart strings F h at m

pub named_left : (F : Form) (h : ℕ) (at : Position) (o : Option (List ℕ)) (m : List Entry) (xs ys : List (List ℕ)) → NamedApart (xs ++ ys) F h at o m → NamedApart xs F h at o m
named_left F h at None m xs ys a = tt
named_left F h at (Some d) m xs ys a = apart_left F h at m xs ys a

pub named_right : (F : Form) (h : ℕ) (at : Position) (o : Option (List ℕ)) (m : List Entry) (xs ys : List (List ℕ)) → NamedApart (xs ++ ys) F h at o m → NamedApart ys F h at o m
named_right F h at None m xs ys a = tt
named_right F h at (Some d) m xs ys a = apart_right F h at m xs ys a

pub named_child : (F : Form) (h : ℕ) (at : Position) (o q : Option (List ℕ)) (m : List Entry) (c : ℕ) → c < F.width → Names F (suc h) at o m → q ≡ named (within F at c m) (text F h (child F at c) (within F at c m))
    → (xs : List (List ℕ)) → NamedApart xs F (suc h) at o m → NamedApart xs F h (child F at c) q (within F at c m)
named_child F h at o None m c l n is xs a = tt
named_child F h at None (Some d) m c l n is xs a = absurd (has_entries (within F at c m) (text F h (child F at c) (within F at c m)) d (sym is) (ap (within F at c) n))
named_child F h at (Some b) (Some d) m c l n is xs a = apart_child F h at m c l (has_entries (within F at c m) (text F h (child F at c) (within F at c m)) d (sym is)) xs a

module _ (F : Form) (laws : Laws F) where
  pub same_part : (at : Position) (e : Entry) (m : List Entry) → Ascends m → within F at (F.digit e.key at.level) (put e m) ≡ put e (within F at (F.digit e.key at.level) m)
  same_part at e m a = put-part (λ key. F.digit key at.level == F.digit e.key at.level) e (grind (arith, nat_tests)) m a

  -- the children of a map with one more entry
  pub children_put : (h : ℕ) (at : Position) (e : Entry) (m : List Entry) (below : List ℕ) → Ascends m → below ≡ md5 (text F h (child F at (F.digit e.key at.level)) (put e (within F at (F.digit e.key at.level) m)))
      → set (children F h at m) (F.digit e.key at.level) (Some below) ≡ children F h at (put e m)
  children_put h at e m below sorted is = set-each
      (λ j. named (within F at j m) (text F h (child F at j) (within F at j m)))
      (λ j. named (within F at j (put e m)) (text F h (child F at j) (within F at j (put e m))))
      F.width 0 (F.digit e.key at.level) (Some below) here (λ j b ne. other j ne) (laws.in_width e.key at.level)
    where
      at_place : named (within F at (F.digit e.key at.level) (put e m)) (text F h (child F at (F.digit e.key at.level)) (within F at (F.digit e.key at.level) (put e m))) ≡ Some below
      at_place = rw (same_part at e m sorted) (named-put e (within F at (F.digit e.key at.level) m) (text F h (child F at (F.digit e.key at.level)) (put e (within F at (F.digit e.key at.level) m))) ∙ ap Some (sym is))

      here : named (within F at (0 + F.digit e.key at.level) (put e m)) (text F h (child F at (0 + F.digit e.key at.level)) (within F at (0 + F.digit e.key at.level) (put e m))) ≡ Some below
      here = let zeros : 0 + F.digit e.key at.level ≡ F.digit e.key at.level = omega arith in rw zeros at_place

      other : (j : ℕ) → j ≢ 0 + F.digit e.key at.level → named (within F at j m) (text F h (child F at j) (within F at j m)) ≡ named (within F at j (put e m)) (text F h (child F at j) (within F at j (put e m)))
      other j ne =
          let no : (F.digit e.key at.level == j) ≡ false = grind (arith, nat_tests) in
          rw (put-other (λ key. F.digit key at.level == j) e no m) refl

  module _ {S : Type 0} (does : S → (call : Call) → AnswerOf call → S → Type 0) where
    store_is : (bytes digest : List ℕ) (s t : S) (xs : List (List ℕ)) → Ends does (store bytes) s xs (Ok digest) t → digest ≡ md5 bytes
    store_is bytes digest s t xs (a, u, rest, d, e, (b, v, more, d', e', (n, is, same))) = ok_once digest (md5 bytes) is

    pub reached_segment : (at : Position) (o : Option (List ℕ)) (m : List Entry) (s t : S) (xs : List (List ℕ)) (es : List Entry) → IsPlace F zero at → IsMap m → Names F zero at o m → NamedApart xs F zero at o m → Ends does (reach (F.segment_at at) [] at o) s xs (Ok es) t → es ≡ m
    reached_segment at None m s t xs es p ok n apart (e, is, same) = ok_once es [] is ∙ sym n
    reached_segment at (Some d) m s t xs es p ok n apart ends = segment_is does F laws at m d xs es p ok n apart (opened does (F.segment_at at) at d s t xs es ends)

    pub reached_names : (h : ℕ) (at : Position) (o : Option (List ℕ)) (m : List Entry) (s t : S) (xs : List (List ℕ)) (cs : List (Option (List ℕ))) → IsPlace F (suc h) at → Names F (suc h) at o m → NamedApart xs F (suc h) at o m → Ends does (reach (F.inner_at at) (replicate F.width None) at o) s xs (Ok cs) t → cs ≡ children F h at m
    reached_names h at None m s t xs cs p n apart (e, is, same) = ok_once cs (replicate F.width None) is ∙ sym (each-none F.width 0) ∙ ap (children F h at) (sym n)
    reached_names h at (Some d) m s t xs cs p n apart ends = names_are does F laws h at m d xs cs p n apart (opened does (F.inner_at at) at d s t xs cs ends)

    pub enter_is : (h : ℕ) (at : Position) (o : Option (List ℕ)) (e : Entry) (m : List Entry) (s t : S) (xs : List (List ℕ)) (new : List ℕ) → IsPlace F h at → IsMap m → Names F h at o m → NamedApart xs F h at o m → Ends does (enter F h at o e) s xs (Ok new) t → new ≡ md5 (text F h at (put e m))
    enter_is zero at o e m s t xs new p ok n apart ends =
        let r = parted does (reach (F.segment_at at) [] at o) (λ entries. store (F.segment_text at (put e entries))) s t xs new ends in
        let both : NamedApart (r.first ++ r.second) F zero at o m = subst (λ zs. NamedApart zs F zero at o m) r.strings apart in
        let es : r.value ≡ m = reached_segment at o m s r.between r.first r.value p ok n (named_left F zero at o m r.first r.second both) r.came in
        store_is (F.segment_text at (put e r.value)) new r.between t r.second r.went_on ∙ ap (λ l. md5 (F.segment_text at (put e l))) es
    enter_is (suc h) at o e m s t xs new p ok n apart ends = by (λ q v w zs below a k. enter_is h (child F at (F.digit e.key at.level)) q e (within F at (F.digit e.key at.level) m) v w zs below
        (child_place F h at (F.digit e.key at.level) (laws.in_width e.key at.level) p) (map_part (λ k. F.digit k at.level == F.digit e.key at.level) m ok) a k)
      where
        by : ((q : Option (List ℕ)) (v w : S) (zs : List (List ℕ)) (below : List ℕ) → Names F h (child F at (F.digit e.key at.level)) q (within F at (F.digit e.key at.level) m) → NamedApart zs F h (child F at (F.digit e.key at.level)) q (within F at (F.digit e.key at.level) m)
            → Ends does (enter F h (child F at (F.digit e.key at.level)) q e) v zs (Ok below) w → below ≡ md5 (text F h (child F at (F.digit e.key at.level)) (put e (within F at (F.digit e.key at.level) m)))) → new ≡ md5 (text F (suc h) at (put e m))
        by lower =
            let r = parted does (reach (F.inner_at at) (replicate F.width None) at o) (λ names. enter F h (child F at (F.digit e.key at.level)) (get_or names (F.digit e.key at.level) None) e >>= (λ below. store (F.inner_text at (set names (F.digit e.key at.level) (Some below))))) s t xs new ends in
            let both : NamedApart (r.first ++ r.second) F (suc h) at o m = subst (λ zs. NamedApart zs F (suc h) at o m) r.strings apart in
            let cs : r.value ≡ children F h at m = reached_names h at o m s r.between r.first r.value p n (named_left F (suc h) at o m r.first r.second both) r.came in
            let q = parted does (enter F h (child F at (F.digit e.key at.level)) (get_or r.value (F.digit e.key at.level) None) e) (λ below. store (F.inner_text at (set r.value (F.digit e.key at.level) (Some below)))) r.between t r.second new r.went_on in
            let rest : NamedApart (q.first ++ q.second) F (suc h) at o m = subst (λ zs. NamedApart zs F (suc h) at o m) q.strings (named_right F (suc h) at o m r.first r.second both) in
            let name : get_or r.value (F.digit e.key at.level) None ≡ named (within F at (F.digit e.key at.level) m) (text F h (child F at (F.digit e.key at.level)) (within F at (F.digit e.key at.level) m)) =
            ap (λ zs. get_or zs (F.digit e.key at.level) None) cs ∙ child_is F h at m (F.digit e.key at.level) (laws.in_width e.key at.level) in
            let under : q.value ≡ md5 (text F h (child F at (F.digit e.key at.level)) (put e (within F at (F.digit e.key at.level) m))) =
            lower (get_or r.value (F.digit e.key at.level) None) r.between q.between q.first q.value (names_child F h (child F at (F.digit e.key at.level)) (within F at (F.digit e.key at.level) m) (get_or r.value (F.digit e.key at.level) None) name)
            (named_child F h at o (get_or r.value (F.digit e.key at.level) None) m (F.digit e.key at.level) (laws.in_width e.key at.level) n name q.first (named_left F (suc h) at o m q.first q.second rest)) q.came in
            store_is (F.inner_text at (set r.value (F.digit e.key at.level) (Some q.value))) new q.between t q.second q.went_on
            ∙ ap (λ zs. md5 (F.inner_text at zs)) (ap (λ zs. set zs (F.digit e.key at.level) (Some q.value)) cs ∙ children_put h at e m q.value ok.ascends under)

    set_is : (digest new : List ℕ) (s t : S) (xs : List (List ℕ)) → Ends does (set_top digest) s xs (Ok new) t → new ≡ digest
    set_is digest new s t xs (a, u, rest, d, e, (n, is, same)) = ok_once new digest is

    pub insert_stands : (digest : List ℕ) (e : Entry) (m : List Entry) (s t : S) (xs : List (List ℕ)) (new : List ℕ) → Stands F digest m → IsEntry e → length (put e m) < 2 ^ 32 → AreApart xs F F.depth root m → Ends does (insert_plan F (Some digest) e) s xs (Ok new) t → Stands F new (put e m)
    insert_stands digest e m s t xs new stands fits few apart (a, u, rest, d, eq, more) =
        let r = parted does (enter F F.depth root (Some digest) e) set_top u t rest new more in
        let here : AreApart rest F F.depth root m = λ x y i n. apart x y (subst (λ zs. x ∈ zs) (sym eq) (inr i)) n in
        let both : AreApart (r.first ++ r.second) F F.depth root m = subst (λ zs. AreApart zs F F.depth root m) r.strings here in
        record {
          is_map = map_put e m fits few stands.is_map;
          root_is = set_is r.value new r.between t r.second r.went_on ∙ enter_is F.depth root (Some digest) e m u r.between r.first r.value (root_place F) stands.is_map stands.root_is (apart_left F F.depth root m r.first r.second both) r.came;
        }

    pub inserts_of : (refuses : S → Call → TreeError → S → Type 0) (top : Option (List ℕ)) (e : Entry) (s t : S) (new : List ℕ) → Did does refuses (insert_plan F top e) s (Ok new) t → Inserts does F top e s new t
    inserts_of refuses top e s t new (xs, ends) = record { strings = xs; ends = ends; stands = λ digest m is stands fits few apart. insert_stands digest e m s t xs new stands fits few apart (subst (λ (q : Option (List ℕ)). Ends does (insert_plan F q e) s xs (Ok new) t) is ends) }
