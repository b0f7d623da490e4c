-- What the walks of a tree return, for every map that stands under its digest.
use Rattle.std.proofs.Common.{◌≡◌, ◌≢◌, ℕ, zero, suc, ◌<◌, Bool, true, false, cond, List, [], ◌∷◌, ◌++◌, Option, None, Some, Result, Ok, Err, IfOk, get_or, arith, refl, ap, sym, ◌∙◌, subst, inl, inr}
use Rattle.ens_base.proofs.Lists.{in_left, in_right, bytes_same}
use Rattle.std.specs.Prelude.{◌==◌}
use Rattle.md5.specs.Md5.{md5}
use Rattle.ens_base.specs.declared.entry.Entry.{Entry}
use Rattle.ens_base.specs.Lists.{◌∈◌, same_bytes}
use Rattle.synctree.specs.TreeNode.{Position}
use Rattle.synctree.specs.Entries.{IsMap, lookup}
use Rattle.synctree.specs.Forms.{Form, Laws, IsPlace, child, root}
use Rattle.synctree.specs.Maps.{within, named, text, children, AreApart, Stands}
use Rattle.synctree.proofs.Parts.{map_part}
use Rattle.synctree.proofs.Unique.{some_once, root_is_node, root_place, child_place, child_is, children_again, lookup_within}
use Rattle.synctree.specs.declared.error.TreeError.{TreeError}
use Rattle.synctree.specs.Meanings.{Finds}
use Rattle.synctree.specs.Plans.{Call, AnswerOf, Plan, Done, Broken, Ask, ◌>>=◌, hashed, Ends, Did}
use Rattle.synctree.specs.Walks.{spelled, open_node, onward, find, store, set_top}
use Rattle.synctree.specs.Trees.{get_plan, fresh_plan}
use Rattle.synctree.proofs.Composing.{hashed_append}

pub ok_once : {A : Type 0} (x y : A) → (let r : Result A Position = Ok x in r) ≡ Ok y → x ≡ y
ok_once x y e = cc

pub apart_left : (F : Form) (h : ℕ) (at : Position) (m : List Entry) (xs ys : List (List ℕ)) → AreApart (xs ++ ys) F h at m → AreApart xs F h at m
apart_left F h at m xs ys a s t i = a s t (in_left xs ys s i)

pub apart_right : (F : Form) (h : ℕ) (at : Position) (m : List Entry) (xs ys : List (List ℕ)) → AreApart (xs ++ ys) F h at m → AreApart ys F h at m
apart_right F h at m xs ys a s t i = a s t (in_right xs ys s i)

pub apart_child : (F : Form) (h : ℕ) (at : Position) (m : List Entry) (c : ℕ) → c < F.width → within F at c m ≢ [] → (xs : List (List ℕ)) → AreApart xs F (suc h) at m → AreApart xs F h (child F at c) (within F at c m)
apart_child F h at m c l some xs a s t i n = a s t i (inr (c, l, some, n))

-- one plan after another, both ended well: what each returned
pub record Parted {A B S : Type 0} (does : S → (call : Call) → AnswerOf call → S → Type 0) (p : Plan A) (f : A → Plan B) (s : S) (xs : List (List ℕ)) (y : B) (t : S) : Type 0 where
  pub first : List (List ℕ)
  pub second : List (List ℕ)
  pub value : A
  pub between : S
  pub came : Ends does p s first (Ok value) between
  pub went_on : Ends does (f value) between second (Ok y) t
  pub strings : xs ≡ first ++ second

module _ {S : Type 0} (does : S → (call : Call) → AnswerOf call → S → Type 0) where
  pub parted : {A B : Type 0} (p : Plan A) (f : A → Plan B) (s t : S) (xs : List (List ℕ)) (y : B) → Ends does (p >>= f) s xs (Ok y) t → Parted does p f s xs y t
  parted (Done x) f s t xs y h = record { first = []; second = xs; value = x; between = s; came = (refl, refl, refl); went_on = h; strings = refl }
  parted (Broken at) f s t xs y (e, is, same) = absurd cc
  parted (Ask call next) f s t xs y (answer, u, rest, d, e, more) =
      let r = parted (next answer) f u t rest y more in
      record { first = hashed call r.first; second = r.second; value = r.value; between = r.between; came = (answer, u, r.first, d, refl, r.came); went_on = r.went_on; strings = e ∙ ap (hashed call) r.strings ∙ sym (hashed_append call r.first r.second) }

  -- bytes that have the digest and encode the node were hashed
  pub record Opened {A : Type 0} (node_at : List ℕ → Option A) (digest : List ℕ) (xs : List (List ℕ)) (node : A) : Type 0 where
    pub bytes : List ℕ
    pub hashes : xs ≡ bytes ∷ []
    pub has_digest : md5 bytes ≡ digest
    pub is_node : node_at bytes ≡ Some node

  spelled_is : {A : Type 0} (at : Position) (o : Option A) (s t : S) (xs : List (List ℕ)) (node : A) → Ends does (spelled at o) s xs (Ok node) t → (xs ≡ []) × (o ≡ Some node)
  spelled_is at None s t xs node (e, is, same) = absurd cc
  spelled_is at (Some x) s t xs node (e, is, same) = (e, ap Some (ok_once x node (sym is)))

  tested : {A : Type 0} (node_at : List ℕ → Option A) (at : Position) (digest bytes : List ℕ) (s t : S) (xs rest : List (List ℕ)) (node : A) (test : Bool) → same_bytes (md5 bytes) digest ≡ test → xs ≡ bytes ∷ rest
      → Ends does (cond test (Done bytes) (Broken at) >>= (λ b. spelled at (node_at b))) s rest (Ok node) t → Opened node_at digest xs node
  tested node_at at digest bytes s t xs rest node true is e h =
      let r = spelled_is at (node_at bytes) s t rest node h in
      record { bytes = bytes; hashes = e ∙ ap (λ zs. bytes ∷ zs) r.0; has_digest = bytes_same (md5 bytes) digest is; is_node = r.1 }
  tested node_at at digest bytes s t xs rest node false is e (n, bad, same) = absurd cc

  pub opened : {A : Type 0} (node_at : List ℕ → Option A) (at : Position) (digest : List ℕ) (s t : S) (xs : List (List ℕ)) (node : A) → Ends does (open_node node_at at digest) s xs (Ok node) t → Opened node_at digest xs node
  opened node_at at digest s t xs node (None, u, rest, d, e, (n, bad, same)) = absurd cc
  opened node_at at digest s t xs node (Some bytes, u, rest, d, e, (tt, v, more, d', e', h)) = tested node_at at digest bytes v t xs more node (same_bytes (md5 bytes) digest) refl (e ∙ e') h

  module _ (F : Form) (laws : Laws F) where
    opened_text : (h : ℕ) (at : Position) (m : List Entry) (digest : List ℕ) {A : Type 0} (node_at : List ℕ → Option A) (xs : List (List ℕ)) (node : A) → digest ≡ md5 (text F h at m) → AreApart xs F h at m → Opened node_at digest xs node → node_at (text F h at m) ≡ Some node
    opened_text h at m digest node_at xs node is apart o =
        let same : o.bytes ≡ text F h at m = apart o.bytes (text F h at m) (subst (λ zs. o.bytes ∈ zs) (sym o.hashes) (inl refl)) (root_is_node F h at m) (o.has_digest ∙ is) in
        ap node_at (sym same) ∙ o.is_node

    pub segment_is : (at : Position) (m : List Entry) (digest : List ℕ) (xs : List (List ℕ)) (es : List Entry) → IsPlace F zero at → IsMap m → digest ≡ md5 (text F zero at m) → AreApart xs F zero at m → Opened (F.segment_at at) digest xs es → es ≡ m
    segment_is at m digest xs es p ok is apart o = some_once (F.segment_at at (F.segment_text at m)) es m (opened_text zero at m digest (F.segment_at at) xs es is apart o) (laws.segment_again zero at m p ok)

    pub names_are : (h : ℕ) (at : Position) (m : List Entry) (digest : List ℕ) (xs : List (List ℕ)) (cs : List (Option (List ℕ))) → IsPlace F (suc h) at → digest ≡ md5 (text F (suc h) at m) → AreApart xs F (suc h) at m → Opened (F.inner_at at) digest xs cs → cs ≡ children F h at m
    names_are h at m digest xs cs p is apart o = some_once (F.inner_at at (F.inner_text at (children F h at m))) cs (children F h at m) (opened_text (suc h) at m digest (F.inner_at at) xs cs is apart o) (children_again F laws h at m p)

    onward_finds : (l : List Entry) (t : List ℕ) (next : List ℕ → Plan (Option Entry)) (u v : S) (zs : List (List ℕ)) (key : List ℕ) (o : Option Entry) → Ends does (onward None next (named l t)) u zs (Ok o) v → (l ≢ [] → Ends does (next (md5 t)) u zs (Ok o) v → o ≡ lookup key l) → o ≡ lookup key l
    onward_finds [] t next u v zs key o (e, is, same) f = ok_once o None is
    onward_finds (x ∷ l) t next u v zs key o h f = f (λ is. cc) h

    pub find_finds : (h : ℕ) (at : Position) (m : List Entry) (digest key : List ℕ) (s t : S) (xs : List (List ℕ)) (o : Option Entry) → IsPlace F h at → IsMap m → digest ≡ md5 (text F h at m) → AreApart xs F h at m → Ends does (find F h at digest key) s xs (Ok o) t → o ≡ lookup key m
    find_finds zero at m digest key s t xs o p ok is apart ends =
        let r = parted (open_node (F.segment_at at) at digest) (λ entries. Done (lookup key entries)) s t xs o ends in
        let one : r.value ≡ m = segment_is at m digest r.first r.value p ok is (apart_left F zero at m r.first r.second (subst (λ zs. AreApart zs F zero at m) r.strings apart)) (opened (F.segment_at at) at digest s r.between r.first r.value r.came) in
        ok_once o (lookup key r.value) r.went_on.1 ∙ ap (lookup key) one
    find_finds (suc h) at m digest key s t xs o p ok is apart ends = by (λ zs v w a e. find_finds h (child F at (F.digit key at.level)) (within F at (F.digit key at.level) m) (md5 (text F h (child F at (F.digit key at.level)) (within F at (F.digit key at.level) m))) key v w zs o
        (child_place F h at (F.digit key at.level) (laws.in_width key at.level) p) (map_part (λ k. F.digit k at.level == F.digit key at.level) m ok) refl a e)
      where
        by : ((zs : List (List ℕ)) (v w : S) → AreApart zs F h (child F at (F.digit key at.level)) (within F at (F.digit key at.level) m)
            → Ends does (find F h (child F at (F.digit key at.level)) (md5 (text F h (child F at (F.digit key at.level)) (within F at (F.digit key at.level) m))) key) v zs (Ok o) w → o ≡ lookup key (within F at (F.digit key at.level) m)) → o ≡ lookup key m
        by below =
            let next = λ (d : List ℕ). find F h (child F at (F.digit key at.level)) d key in
            let r = parted (open_node (F.inner_at at) at digest) (λ names. onward None (λ d. find F h (child F at (F.digit key at.level)) d key) (get_or names (F.digit key at.level) None)) s t xs o ends in
            let both : AreApart (r.first ++ r.second) F (suc h) at m = subst (λ zs. AreApart zs F (suc h) at m) r.strings apart in
            let cs : r.value ≡ children F h at m = names_are h at m digest r.first r.value p is (apart_left F (suc h) at m r.first r.second both) (opened (F.inner_at at) at digest s r.between r.first r.value r.came) in
            let name : get_or r.value (F.digit key at.level) None ≡ named (within F at (F.digit key at.level) m) (text F h (child F at (F.digit key at.level)) (within F at (F.digit key at.level) m)) =
            ap (λ zs. get_or zs (F.digit key at.level) None) cs ∙ child_is F h at m (F.digit key at.level) (laws.in_width key at.level) in
            onward_finds (within F at (F.digit key at.level) m) (text F h (child F at (F.digit key at.level)) (within F at (F.digit key at.level) m)) (λ d. find F h (child F at (F.digit key at.level)) d key) r.between t r.second key o
            (subst (λ q. Ends does (onward None (λ d. find F h (child F at (F.digit key at.level)) d key) q) r.between r.second (Ok o) t) name r.went_on)
            (λ some e. below r.second r.between t (apart_child F h at m (F.digit key at.level) (laws.in_width key at.level) some r.second (apart_right F (suc h) at m r.first r.second both)) e)
            ∙ sym (lookup_within F at key m)

    -- the entry that a get returns is the one of every map that stands under the top record
    pub get_answers : (digest key : List ℕ) (m : List Entry) (s t : S) (xs : List (List ℕ)) (o : Option Entry) → Stands F digest m → AreApart xs F F.depth root m → Ends does (get_plan F (Some digest) key) s xs (Ok o) t → o ≡ lookup key m
    get_answers digest key m s t xs o stands apart (tt, u, rest, d, e, more) = find_finds F.depth root m digest key u t rest o (root_place F) stands.is_map stands.root_is (λ a b i n. apart a b (subst (λ zs. a ∈ zs) (sym e) (inr i)) n) more

    pub finds_of : (refuses : S → Call → TreeError → S → Type 0) (top : Option (List ℕ)) (key : List ℕ) (s t : S) (r : Result (Option Entry) TreeError) → Did does refuses (get_plan F top key) s r t → IfOk r (λ o. Finds does F top key s o t)
    finds_of refuses top key s t (Ok o) (xs, ends) = record { strings = xs; ends = ends; answers = λ digest m is stands apart. get_answers digest key m s t xs o stands apart (subst (λ (q : Option (List ℕ)). Ends does (get_plan F q key) s xs (Ok o) t) is ends) }
    finds_of refuses top key s t (Err e) d = tt

  stored_is : (bytes digest : List ℕ) (s t : S) (xs : List (List ℕ)) → Ends does (store bytes >>= set_top) s xs (Ok digest) t → digest ≡ md5 bytes
  stored_is bytes digest s t xs (a, u, rest, d, e, (b, v, more, d', e', (c, w, last, d'', e'', (n, is, same)))) = ok_once digest (md5 bytes) is

  pub fresh_stands : (F : Form) (digest : List ℕ) (s t : S) (xs : List (List ℕ)) → Ends does (fresh_plan F) s xs (Ok digest) t → Stands F digest []
  fresh_stands F digest s t xs ends = record { is_map = record { ascends = tt; entries = tt; few = omega arith }; root_is = stored_is (text F F.depth root []) digest s t xs ends }
