-- Reading a node by its position: the steps of the code, and what it means for every map that stands
-- under the top record.
use Rattle.std.proofs.Common.{◌≡◌, ◌⊎◌, ℕ, zero, suc, ◌-◌, ◌/◌, ◌%◌, ◌<◌, ◌≤◌, ◌^◌, Bool, true, false, cond, List, [], ◌∷◌, ◌++◌, Option, None, Some, Result, Ok, Err, IfOk, get_or, arith, refl, ap, sym, ◌∙◌, subst, inl, inr}
use Rattle.ens_base.proofs.Lists.{bytes_same}
use Rattle.std.specs.Prelude.{IsErr, if◌then◌else◌}
use Rattle.std.specs.Option.{is_some}
use Rattle.std.specs.Result.{IsErrAnd}
use Rattle.hash_book.specs.Hashing.{Book}
use Rattle.md5.specs.Md5.{md5}
use Rattle.ens_base.specs.declared.entry.Entry.{Entry}
use Rattle.ens_base.specs.Lists.{◌∈◌, same_bytes}
use Rattle.environment.specs.Stores.{NodeCall, NodeAnswer}
use Rattle.environment.specs.declared.errors.StoreError.{StoreError}
use Rattle.synctree.specs.TreeNode.{Position, TreeVersion, levels, IsPosition, inner_of, segment_of}
use Rattle.synctree.proofs.TreeNode.{levels_few}
use Rattle.synctree.specs.Sixteen.{form_of, children_in, entries_in}
use Rattle.synctree.specs.Forms.{Form, Laws, IsPlace, root}
use Rattle.synctree.specs.Maps.{within, named, text, children, AreApart, Stands}
use Rattle.synctree.specs.Paths.{under, present, node_of}
use Rattle.synctree.proofs.Unique.{root_is_node, child_is}
use Rattle.synctree.proofs.Below.{IsThere, place, under_child, child_again, parent_place, node_below, some_width, present_is, first_text}
use Rattle.std.proofs.Math.Nat.{mod-lt}
use Rattle.synctree.specs.declared.error.TreeError.{TreeError}
use Rattle.synctree.specs.Plans.{Call, AnswerOf, Done, Broken, Ends, Did}
use Rattle.synctree.specs.Walks.{fetch, open_node, onward}
use Rattle.synctree.specs.Nodes.{child_name, name_at, is_node, node_bytes, node_plan, Reads}
use Rattle.synctree.proofs.Places.{inner_is, segment_is}
use Rattle.synctree.proofs.Exits.{DidOutside, after, cut_off}
use Rattle.synctree.proofs.Meaning.{ok_once, apart_left, apart_right, parted, opened, names_are}

-- ## The steps of the code

module _ {N H : Type 0} (may : N → (call : NodeCall) → NodeAnswer call → N → Type 0) (loses : N → NodeCall → StoreError → N → Type 0) (top : N → Option (Option (List ℕ))) (faults : N → ℕ)
    (kept : H → Option Book) (clashes fulls : H → ℕ) (F : Form) where
  pub name_first : (level index : ℕ) (digest : List ℕ) (s : N × H) → level ≡ 0 → DidOutside may loses top faults kept clashes fulls (name_at F digest level index) s (Ok (Some digest)) s
  name_first level index digest s is = rw is ([], (refl, refl, refl))

  pub name_err : (at above : Position) (digest : List ℕ) (s t : N × H) (r : Result (Option (List ℕ)) TreeError) (e : TreeError) (G : TreeError → Type 0) → 0 < at.level → above ≡ place (at.level - 1) (at.index / F.width)
      → DidOutside may loses top faults kept clashes fulls (name_at F digest above.level above.index) s (Err e) t → IsErr r → IsErrAnd r G → ((d : TreeError) → G d → d ≡ e) → DidOutside may loses top faults kept clashes fulls (name_at F digest at.level at.index) s r t
  name_err at above digest s t r e G some is d bad and same =
      let lower : at.level ≡ suc (at.level - 1) = omega (arith, some) in
      subst (λ (n : ℕ). DidOutside may loses top faults kept clashes fulls (name_at F digest n at.index) s r t) (sym lower)
      (cut_off may loses top faults kept clashes fulls (name_at F digest (at.level - 1) (at.index / F.width)) (onward None (child_name F (place (at.level - 1) (at.index / F.width)) (at.index % F.width))) s t r e G
      (subst (λ (p : Position). DidOutside may loses top faults kept clashes fulls (name_at F digest p.level p.index) s (Err e) t) is d) bad and same)

  pub name_next : (at above : Position) (digest : List ℕ) (s u t : N × H) (o : Option (List ℕ)) (r : Result (Option (List ℕ)) TreeError) → 0 < at.level → above ≡ place (at.level - 1) (at.index / F.width)
      → DidOutside may loses top faults kept clashes fulls (name_at F digest above.level above.index) s (Ok o) u → DidOutside may loses top faults kept clashes fulls (onward None (child_name F above (at.index % F.width)) o) u r t
      → DidOutside may loses top faults kept clashes fulls (name_at F digest at.level at.index) s r t
  name_next at above digest s u t o r some is d rest =
      let lower : at.level ≡ suc (at.level - 1) = omega (arith, some) in
      subst (λ (n : ℕ). DidOutside may loses top faults kept clashes fulls (name_at F digest n at.index) s r t) (sym lower)
      (after may loses top faults kept clashes fulls (name_at F digest (at.level - 1) (at.index / F.width)) (onward None (child_name F (place (at.level - 1) (at.index / F.width)) (at.index % F.width))) s u t o r
      (subst (λ (p : Position). DidOutside may loses top faults kept clashes fulls (name_at F digest p.level p.index) s (Ok o) u) is d)
      (subst (λ (p : Position). DidOutside may loses top faults kept clashes fulls (onward None (child_name F p (at.index % F.width)) o) u r t) is rest))

  pub bytes_did : (at : Position) (bytes : List ℕ) (test : Bool) (s : N × H) (r : Result (Option (List ℕ)) TreeError) → is_node F (F.depth - at.level) at bytes ≡ test
      → DidOutside may loses top faults kept clashes fulls (if test then Done (Some bytes) else Broken at) s r s → DidOutside may loses top faults kept clashes fulls (if is_node F (F.depth - at.level) at bytes then Done (Some bytes) else Broken at) s r s
  bytes_did at bytes test s r is d = rw is d

pub parent_position : (v : TreeVersion) (at above : Position) → IsPosition v at → 0 < at.level → above ≡ place (at.level - 1) (at.index / 16) → IsPosition v above
parent_position v at above p some is = subst (IsPosition v) (sym is) (record { level = omega (arith, p.level); index = small at.level at.index (omega (arith, p.level, levels_few v)) some p.index })
  where
    small : (l i : ℕ) → l ≤ 5 → 0 < l → i < 16 ^ l → i / 16 < 16 ^ (l - 1)
    small zero i a b c = absurd (omega arith)
    small (suc zero) i a b c = omega (arith, c)
    small (suc (suc zero)) i a b c = omega (arith, c)
    small (suc (suc (suc zero))) i a b c = omega (arith, c)
    small (suc (suc (suc (suc zero)))) i a b c = omega (arith, c)
    small (suc (suc (suc (suc (suc zero))))) i a b c = omega (arith, c)
    small (suc (suc (suc (suc (suc (suc l)))))) i a b c = absurd (omega arith)

-- ## Tests of bytes

pub inner_kind : (v : TreeVersion) (at : Position) (bytes : List ℕ) → at.level < levels v → is_node (form_of v) (levels v - at.level) at bytes ≡ is_some (children_in (inner_of v at bytes))
inner_kind v at bytes low = by (levels v - at.level) (omega (arith, low))
  where
    by : (h : ℕ) → 0 < h → is_node (form_of v) h at bytes ≡ is_some (children_in (inner_of v at bytes))
    by zero some = absurd (omega arith)
    by (suc h) some = rw (inner_is v at bytes) refl

pub segment_kind : (v : TreeVersion) (at : Position) (bytes : List ℕ) → at.level ≡ levels v → is_node (form_of v) (levels v - at.level) at bytes ≡ is_some (entries_in (segment_of v at bytes))
segment_kind v at bytes low = let zero_is : levels v - at.level ≡ 0 = omega (arith, low) in rw (zero_is, segment_is v at bytes) refl

-- ## What is read

-- the digest of a node that is there
abbrev digested : Option (List ℕ) → Option (List ℕ)
digested None = None
digested (Some t) = Some (md5 t)

pub named_is : (l : ℕ) (es : List Entry) (t : List ℕ) → named es t ≡ digested (present (suc l) es t)
named_is l [] t = refl
named_is l (e ∷ es) t = refl

module _ {S : Type 0} (does : S → (call : Call) → AnswerOf call → S → Type 0) where
  fetched : (at : Position) (digest bytes : List ℕ) (s t : S) (xs : List (List ℕ)) → Ends does (fetch at digest) s xs (Ok bytes) t → (xs ≡ bytes ∷ []) × (md5 bytes ≡ digest)
  fetched at digest bytes s t xs (None, u, rest, d, e, (n, bad, same)) = absurd cc
  fetched at digest bytes s t xs (Some b, u, rest, d, e, (tt, v, more, d', e', h)) = by (same_bytes (md5 b) digest) refl h
    where
      by : (test : Bool) → same_bytes (md5 b) digest ≡ test → Ends does (cond test (Done b) (Broken at)) v more (Ok bytes) t → (xs ≡ bytes ∷ []) × (md5 bytes ≡ digest)
      by true is (n, one, same) =
          let b' : bytes ≡ b = ok_once bytes b one in
          (e ∙ e' ∙ ap (λ zs. b ∷ zs) n ∙ ap (λ z. z ∷ []) (sym b'), ap md5 b' ∙ bytes_same (md5 b) digest is)
      by false is (n, bad, same) = absurd cc

  whole : (test : Bool) (at : Position) (bytes : List ℕ) (s t : S) (xs : List (List ℕ)) (o : Option (List ℕ)) → Ends does (if test then Done (Some bytes) else Broken at) s xs (Ok o) t → o ≡ Some bytes
  whole true at bytes s t xs o (n, is, same) = ok_once o (Some bytes) is
  whole false at bytes s t xs o (n, bad, same) = absurd cc

  module _ (F : Form) (laws : Laws F) where
    -- the strings are apart from the nodes below a node that is there
    apart_below : (h l i : ℕ) (m : List Entry) (xs : List (List ℕ)) → IsPlace F h (place l i) → IsThere l (under F (place l i) m) → AreApart xs F F.depth root m → AreApart xs F h (place l i) (under F (place l i) m)
    apart_below h l i m xs p there apart s t x n = apart s t x (node_below F laws h l i m t p there n)

    child_finds : (h l i : ℕ) (m : List Entry) (digest : List ℕ) (s t : S) (xs : List (List ℕ)) (o : Option (List ℕ)) → IsPlace F h (place (suc l) i) → IsThere l (under F (place l (i / F.width)) m) → AreApart xs F F.depth root m
        → digest ≡ md5 (text F (suc h) (place l (i / F.width)) (under F (place l (i / F.width)) m)) → Ends does (child_name F (place l (i / F.width)) (i % F.width) digest) s xs (Ok o) t
        → o ≡ named (under F (place (suc l) i) m) (text F h (place (suc l) i) (under F (place (suc l) i) m))
    child_finds h l i m digest s t xs o p there apart is ends =
        let up = place l (i / F.width) in
        let r = parted does (open_node (F.inner_at (place l (i / F.width))) (place l (i / F.width)) digest) (λ names. Done (get_or names (i % F.width) None)) s t xs o ends in
        let cs : r.value ≡ children F h (place l (i / F.width)) (under F (place l (i / F.width)) m) = names_are does F laws h (place l (i / F.width)) (under F (place l (i / F.width)) m) digest r.first r.value (parent_place F laws h l i p) is
        (apart_left F (suc h) (place l (i / F.width)) (under F (place l (i / F.width)) m) r.first r.second (subst (λ zs. AreApart zs F (suc h) (place l (i / F.width)) (under F (place l (i / F.width)) m)) r.strings (apart_below (suc h) l (i / F.width) m xs (parent_place F laws h l i p) there apart)))
        (opened does (F.inner_at (place l (i / F.width))) (place l (i / F.width)) digest s r.between r.first r.value r.came) in
        ok_once o (get_or r.value (i % F.width) None) r.went_on.1 ∙ ap (λ zs. get_or zs (i % F.width) None) cs ∙ child_is F h (place l (i / F.width)) (under F (place l (i / F.width)) m) (i % F.width) (mod-lt i (some_width F laws))
        ∙ ap (λ (q : Position). named (within F (place l (i / F.width)) (i % F.width) (under F (place l (i / F.width)) m)) (text F h q (within F (place l (i / F.width)) (i % F.width) (under F (place l (i / F.width)) m)))) (child_again F laws l i)
        ∙ ap (λ (es : List Entry). named es (text F h (place (suc l) i) es)) (sym (under_child F l i m))

    name_is : (h l i : ℕ) (m : List Entry) (digest : List ℕ) (s t : S) (xs : List (List ℕ)) (o : Option (List ℕ)) → IsPlace F h (place l i) → AreApart xs F F.depth root m → digest ≡ md5 (text F F.depth root m)
        → Ends does (name_at F digest l i) s xs (Ok o) t → o ≡ digested (present l (under F (place l i) m) (text F h (place l i) (under F (place l i) m)))
    name_is h zero i m digest s t xs o p apart is (n, one, same) = ok_once o (Some digest) one ∙ ap Some (is ∙ ap md5 (sym (first_text F h i m p)))
    name_is h (suc l) i m digest s t xs o p apart is ends =
        let r = parted does (name_at F digest l (i / F.width)) (onward None (child_name F (place l (i / F.width)) (i % F.width))) s t xs o ends in
        let both : AreApart (r.first ++ r.second) F F.depth root m = subst (λ zs. AreApart zs F F.depth root m) r.strings apart in
        by r.value r.between r.second
        (name_is (suc h) l (i / F.width) m digest s r.between r.first r.value (parent_place F laws h l i p) (apart_left F F.depth root m r.first r.second both) is r.came)
        (apart_right F F.depth root m r.first r.second both)
        (present_is l (under F (place l (i / F.width)) m) (text F (suc h) (place l (i / F.width)) (under F (place l (i / F.width)) m))) r.went_on
      where
        none_below : under F (place l (i / F.width)) m ≡ [] → under F (place (suc l) i) m ≡ []
        none_below e = under_child F l i m ∙ ap (within F (place l (i / F.width)) (i % F.width)) e

        onward_is : (q : Option (List ℕ)) (u : S) (zs : List (List ℕ)) → IsThere l (under F (place l (i / F.width)) m) → AreApart zs F F.depth root m → q ≡ Some (md5 (text F (suc h) (place l (i / F.width)) (under F (place l (i / F.width)) m)))
            → Ends does (onward None (child_name F (place l (i / F.width)) (i % F.width)) q) u zs (Ok o) t → o ≡ digested (present (suc l) (under F (place (suc l) i) m) (text F h (place (suc l) i) (under F (place (suc l) i) m)))
        onward_is None u zs there a e w = absurd cc
        onward_is (Some d) u zs there a e w =
            let is : d ≡ md5 (text F (suc h) (place l (i / F.width)) (under F (place l (i / F.width)) m)) = cc in
            child_finds h l i m d u t zs o p there a is w ∙ named_is l (under F (place (suc l) i) m) (text F h (place (suc l) i) (under F (place (suc l) i) m))

        onward_none : (q : Option (List ℕ)) (u : S) (zs : List (List ℕ)) → q ≡ None → Ends does (onward None (child_name F (place l (i / F.width)) (i % F.width)) q) u zs (Ok o) t → o ≡ None
        onward_none None u zs e (n, one, same) = ok_once o None one
        onward_none (Some d) u zs e w = absurd cc

        by : (q : Option (List ℕ)) (u : S) (zs : List (List ℕ)) → q ≡ digested (present l (under F (place l (i / F.width)) m) (text F (suc h) (place l (i / F.width)) (under F (place l (i / F.width)) m))) → AreApart zs F F.depth root m
            → ((present l (under F (place l (i / F.width)) m) (text F (suc h) (place l (i / F.width)) (under F (place l (i / F.width)) m)) ≡ None) × (under F (place l (i / F.width)) m ≡ [])) ⊎ (IsThere l (under F (place l (i / F.width)) m) × (present l (under F (place l (i / F.width)) m) (text F (suc h) (place l (i / F.width)) (under F (place l (i / F.width)) m)) ≡ Some (text F (suc h) (place l (i / F.width)) (under F (place l (i / F.width)) m))))
            → Ends does (onward None (child_name F (place l (i / F.width)) (i % F.width)) q) u zs (Ok o) t → o ≡ digested (present (suc l) (under F (place (suc l) i) m) (text F h (place (suc l) i) (under F (place (suc l) i) m)))
        by q u zs e a (inl (none, empty)) w = onward_none q u zs (e ∙ ap digested none) w ∙ ap (λ (es : List Entry). digested (present (suc l) es (text F h (place (suc l) i) es))) (sym (none_below empty))
        by q u zs e a (inr (there, some)) w = onward_is q u zs there a (e ∙ ap digested some) w

    pub node_is : (h : ℕ) (at : Position) (m : List Entry) (digest : List ℕ) (s t : S) (xs : List (List ℕ)) (o : Option (List ℕ)) → IsPlace F h at → AreApart xs F F.depth root m → Stands F digest m → Ends does (node_plan F (Some digest) at) s xs (Ok o) t → o ≡ node_of F at m
    node_is h at m digest s t xs o p apart stands ends =
        let r = parted does (name_at F digest at.level at.index) (onward None (node_bytes F at)) s t xs o ends in
        let both : AreApart (r.first ++ r.second) F F.depth root m = subst (λ zs. AreApart zs F F.depth root m) r.strings apart in
        by r.value r.between r.second
        (name_is h at.level at.index m digest s r.between r.first r.value p (apart_left F F.depth root m r.first r.second both) stands.root_is r.came)
        (apart_right F F.depth root m r.first r.second both)
        (present_is at.level (under F at m) (text F h at (under F at m))) r.went_on
        ∙ ap (λ (n : ℕ). present at.level (under F at m) (text F n at (under F at m))) (omega (arith, p.level))
      where
        onward_none : (q : Option (List ℕ)) (u : S) (zs : List (List ℕ)) → q ≡ None → Ends does (onward None (node_bytes F at) q) u zs (Ok o) t → o ≡ None
        onward_none None u zs e (n, one, same) = ok_once o None one
        onward_none (Some d) u zs e w = absurd cc

        onward_is : (q : Option (List ℕ)) (u : S) (zs : List (List ℕ)) → IsThere at.level (under F at m) → AreApart zs F F.depth root m → q ≡ Some (md5 (text F h at (under F at m))) → Ends does (onward None (node_bytes F at) q) u zs (Ok o) t → o ≡ Some (text F h at (under F at m))
        onward_is None u zs there a e w = absurd cc
        onward_is (Some d) u zs there a e w =
            let is : d ≡ md5 (text F h at (under F at m)) = cc in
            let r = parted does (fetch at d) (λ bytes. if is_node F (F.depth - at.level) at bytes then Done (Some bytes) else Broken at) u t zs o w in
            let f = fetched at d r.value u r.between r.first r.came in
            let same : r.value ≡ text F h at (under F at m) = apart_below h at.level at.index m zs p there a r.value (text F h at (under F at m)) (subst (λ ys. r.value ∈ ys) (sym (r.strings ∙ ap (λ ys. ys ++ r.second) f.0)) (inl refl)) (root_is_node F h at (under F at m)) (f.1 ∙ is) in
            whole (is_node F (F.depth - at.level) at r.value) at r.value r.between t r.second o r.went_on ∙ ap Some same

        by : (q : Option (List ℕ)) (u : S) (zs : List (List ℕ)) → q ≡ digested (present at.level (under F at m) (text F h at (under F at m))) → AreApart zs F F.depth root m
            → ((present at.level (under F at m) (text F h at (under F at m)) ≡ None) × (under F at m ≡ [])) ⊎ (IsThere at.level (under F at m) × (present at.level (under F at m) (text F h at (under F at m)) ≡ Some (text F h at (under F at m))))
            → Ends does (onward None (node_bytes F at) q) u zs (Ok o) t → o ≡ present at.level (under F at m) (text F h at (under F at m))
        by q u zs e a (inl (none, empty)) w = onward_none q u zs (e ∙ ap digested none) w ∙ sym none
        by q u zs e a (inr (there, some)) w = onward_is q u zs there a (e ∙ ap digested some) w ∙ sym some

    pub reads_of : (refuses : S → Call → TreeError → S → Type 0) (top : Option (List ℕ)) (h : ℕ) (at : Position) (s t : S) (r : Result (Option (List ℕ)) TreeError) → IsPlace F h at → Did does refuses (node_plan F top at) s r t → IfOk r (λ o. Reads does F top at s o t)
    reads_of refuses top h at s t (Ok o) p (xs, ends) = record { strings = xs; ends = ends; answers = λ digest m is stands apart. node_is h at m digest s t xs o p apart stands (subst (λ (q : Option (List ℕ)). Ends does (node_plan F q at) s xs (Ok o) t) is ends) }
    reads_of refuses top h at s t (Err e) p d = tt
