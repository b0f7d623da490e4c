-- What the two versions of a tree share, and walks from a digest that no root of the version has: none comes
-- to a value, and a scan finds the root damaged.
use Rattle.std.proofs.Common.{◌≡◌, ◌⊎◌, ◌-◌, ◌/◌, ◌%◌, ◌<◌, ◌^◌, ◌==◌, ◌&&◌, ◌||◌, ℕ, zero, suc, Bool, true, false, cond, if◌then◌else◌, List, [], ◌∷◌, ◌++◌, Option, None, Some, Ok, Err, get_or, refl, ap, sym, ◌∙◌, subst, arith, inl, inr}
use native.Mathlib.Nat.{pow-zero}
use Rattle.std.specs.Option.{is_some}
use Rattle.std.specs.Prelude.{set}
use Rattle.std.proofs.lemmas.Option.{none-some}
use Rattle.ens_base.proofs.Lists.{in_left, bytes_same}
use Rattle.ens_base.specs.Lists.{◌∈◌, same_bytes}
use Rattle.ens_base.specs.declared.entry.Entry.{Entry}
use Rattle.fields.specs.Numbers.{byte_at}
use Rattle.fields.proofs.NumberLaws.{byte_grammar}
use Rattle.md5.specs.Md5.{md5}
use Rattle.synctree.proofs.Meaning.{ok_once, parted, opened}
use Rattle.synctree.proofs.Places.{inner_is}
use Rattle.synctree.proofs.Puts.{inner_text_is}
use Rattle.synctree.specs.Nodes.{child_name, name_at, is_node, node_bytes, node_plan}
use Rattle.synctree.specs.Plans.{Call, AnswerOf, Plan, Done, Broken, ◌>>=◌, Ends}
use Rattle.synctree.specs.Trees.{get_plan, insert_plan}
use Rattle.synctree.specs.Walks.{fetch, open_node, onward, find, store, enter, set_top}
use Rattle.synctree.proofs.Below.{place, parent_place}
use Rattle.synctree.proofs.Unique.{root_is_node}
use Rattle.synctree.specs.Forms.{Form, Laws, IsPlace, child, root}
use Rattle.synctree.specs.Maps.{text, children, AreApart, Stands}
use Rattle.synctree.specs.Paths.{passes}
use Rattle.synctree.specs.Sixteen.{form_of, nibble, inner_node, children_in}
use Rattle.tree_node.specs.Nodes.{inner_spelling, inner_at, inner_of}
use Rattle.tree_node.specs.declared.body.Scan.{Scan}
use Rattle.tree_node.specs.declared.error.NodeError.TheVariants.{BadTag}
use Rattle.tree_node.specs.declared.node.InnerNode.{InnerNode}
use Rattle.tree_node.specs.declared.position.Position.{Position}
use Rattle.tree_node.specs.declared.version.TreeVersion.{TreeVersion}
use Rattle.tree_node.specs.declared.version.TreeVersion.TheVariants.{One, Two}
use Rattle.tree_repair.specs.Levels.{verified, slot, slots_below, scan_from, scan_plan}
use Rattle.tree_repair.specs.Scans.{lost}

-- ## Versions

-- two versions are one, or differ
pub same_or_other : (v w : TreeVersion) → (v ≡ w) ⊎ (v ≡ w → ⊥)
same_or_other One One = inl refl
same_or_other Two Two = inl refl
same_or_other One Two = inr (λ same. cc)
same_or_other Two One = inr (λ same. cc)

-- there are levels of inner nodes
pub deep : (v : TreeVersion) → (h : ℕ) × ((form_of v).depth ≡ suc h)
unfolding form_of
deep One = (2, refl)
deep Two = (4, refl)

-- paths are the same in both versions
pub passes_same : (v : TreeVersion) (key : List ℕ) (level index : ℕ) → passes (form_of v) key level index ≡ passes (form_of Two) key level index
unfolding form_of
passes_same v key zero index = refl
passes_same v key (suc level) index = ap (λ (b : Bool). b && nibble (md5 key) level == index % 16) (passes_same v key level (index / 16))

pub lost_same : (v : TreeVersion) (ps : List Position) (key : List ℕ) → lost (form_of v) ps key ≡ lost (form_of Two) ps key
lost_same v [] key = refl
lost_same v (p ∷ ps) key = ap (λ (b : Bool). b || lost (form_of v) ps key) (passes_same v key p.level p.index) ∙ ap (λ (b : Bool). passes (form_of Two) key p.level p.index || b) (lost_same v ps key)

-- an inner node of one version is none of the other
other_tag : (v w : TreeVersion) (n : InnerNode) (asked : Position) → n.version ≡ w → (w ≡ v → ⊥) → inner_of v asked (inner_spelling n) ≡ Err BadTag
unfolding inner_at
other_tag One One n asked is other = absurd (other refl)
other_tag Two Two n asked is other = absurd (other refl)
other_tag One Two n asked is other =
    let tag : byte_at (inner_spelling n) 0 ≡ Ok (3, 1) = subst (λ (v : TreeVersion). byte_at (inner_spelling (record n { version = v })) 0 ≡ Ok (3, 1)) (sym is) (byte_grammar.again (inner_spelling (record n { version = Two })) 0 3 _ (omega arith) refl) in
    rw tag refl
other_tag Two One n asked is other =
    let tag : byte_at (inner_spelling n) 0 ≡ Ok (1, 1) = subst (λ (v : TreeVersion). byte_at (inner_spelling (record n { version = v })) 0 ≡ Ok (1, 1)) (sym is) (byte_grammar.again (inner_spelling (record n { version = One })) 0 1 _ (omega arith) refl) in
    rw tag refl

-- the root of a tree of one version is none of the other
other_root : (v w : TreeVersion) (m : List Entry) → (w ≡ v → ⊥) → (form_of v).inner_at root (text (form_of w) (form_of w).depth root m) ≡ None
other_root v w m other =
    let d = deep w in
    rw d.1 (
    inner_is v root (text (form_of w) (suc d.0) root m)
    ∙ ap (λ (bytes : List ℕ). children_in (inner_of v root bytes)) (inner_text_is w root (children (form_of w) d.0 root m))
    ∙ ap children_in (other_tag v w (inner_node w root (children (form_of w) d.0 root m)) root refl other)
    )

-- ## Walks from no root

-- no string of the list that has the digest encodes a root of this form
abbrev pub NoRoot : Form → List ℕ → List (List ℕ) → Type 0
NoRoot F digest strings = (bytes : List ℕ) → bytes ∈ strings → md5 bytes ≡ digest → F.inner_at root bytes ≡ None

-- so it is with the digest of a map in the other version
pub foreign_root : (v w : TreeVersion) (digest : List ℕ) (m : List Entry) (strings : List (List ℕ)) → (w ≡ v → ⊥) → Stands (form_of w) digest m → AreApart strings (form_of w) (form_of w).depth root m → NoRoot (form_of v) digest strings
foreign_root v w digest m strings other stands apart bytes i is =
    let same : bytes ≡ text (form_of w) (form_of w).depth root m = apart bytes (text (form_of w) (form_of w).depth root m) i (root_is_node (form_of w) (form_of w).depth root m) (is ∙ stands.root_is) in
    ap (λ (b : List ℕ). (form_of v).inner_at root b) same ∙ other_root v w m other

-- what a scan finds if the root is damaged
abbrev pub no_entries : Scan
no_entries = record { entries = []; damaged = root ∷ [] }

module _ {S : Type 0} (does : S → (call : Call) → AnswerOf call → S → Type 0) (F : Form) (digest : List ℕ) (h : ℕ) (depth : F.depth ≡ suc h) where
  none_ahead : (xs first second : List (List ℕ)) → xs ≡ first ++ second → NoRoot F digest xs → NoRoot F digest first
  none_ahead xs first second are none bytes i = none bytes (subst (λ zs. bytes ∈ zs) (sym are) (in_left first second bytes i))

  none_behind : (xs rest : List (List ℕ)) (x : List ℕ) → xs ≡ x ∷ rest → NoRoot F digest xs → NoRoot F digest rest
  none_behind xs rest x are none bytes i = none bytes (subst (λ zs. bytes ∈ zs) (sym are) (inr i))

  opens_none : {A : Type 0} (f : List (Option (List ℕ)) → Plan A) (s t : S) (xs : List (List ℕ)) (y : A) → NoRoot F digest xs → Ends does (open_node (F.inner_at root) root digest >>= f) s xs (Ok y) t → ⊥
  opens_none f s t xs y none ends =
      let r = parted does (open_node (F.inner_at root) root digest) f s t xs y ends in
      let o = opened does (F.inner_at root) root digest s r.between r.first r.value r.came in
      none-some r.value (sym (none_ahead xs r.first r.second r.strings none o.bytes (subst (λ zs. o.bytes ∈ zs) (sym o.hashes) (inl refl)) o.has_digest) ∙ o.is_node)

  pub get_none : (key : List ℕ) (s t : S) (xs : List (List ℕ)) (o : Option Entry) → NoRoot F digest xs → Ends does (get_plan F (Some digest) key) s xs (Ok o) t → ⊥
  get_none key s t xs o none (tt, u, rest, d, e, more) =
      opens_none (λ names. onward None (λ below. find F h (child F root (F.digit key 0)) below key) (get_or names (F.digit key 0) None)) u t rest o (none_behind xs rest key e none)
      (subst (λ (n : ℕ). Ends does (find F n root digest key) u rest (Ok o) t) depth more)

  pub insert_none : (entry : Entry) (s t : S) (xs : List (List ℕ)) (new : List ℕ) → NoRoot F digest xs → Ends does (insert_plan F (Some digest) entry) s xs (Ok new) t → ⊥
  insert_none entry s t xs new none (tt, u, rest, d, e, more) =
      let r = parted does (enter F F.depth root (Some digest) entry) set_top u t rest new more in
      opens_none (λ names. enter F h (child F root (F.digit entry.key 0)) (get_or names (F.digit entry.key 0) None) entry >>= (λ below. store (F.inner_text root (set names (F.digit entry.key 0) (Some below))))) u r.between r.first r.value
      (none_ahead rest r.first r.second r.strings (none_behind xs rest entry.key e none)) (subst (λ (n : ℕ). Ends does (enter F n root (Some digest) entry) u r.first (Ok r.value) r.between) depth r.came)

  -- the bytes that were fetched are the one string that was hashed, and have the digest
  fetched : (at : Position) (named bytes : List ℕ) (s t : S) (xs : List (List ℕ)) → Ends does (fetch at named) s xs (Ok bytes) t → (xs ≡ bytes ∷ []) × (md5 bytes ≡ named)
  fetched at named bytes s t xs (None, u, rest, d, e, (n, bad, same)) = absurd cc
  fetched at named bytes s t xs (Some b, u, rest, d, e, (tt, v, more, d', e', k)) = by (same_bytes (md5 b) named) refl k
    where
      by : (test : Bool) → same_bytes (md5 b) named ≡ test → Ends does (cond test (Done b) (Broken at)) v more (Ok bytes) t → (xs ≡ bytes ∷ []) × (md5 bytes ≡ named)
      by true is (n, one, same) =
          let b' : bytes ≡ b = ok_once bytes b one in
          (e ∙ e' ∙ ap (λ zs. b ∷ zs) n ∙ ap (λ z. z ∷ []) (sym b'), ap md5 b' ∙ bytes_same (md5 b) named is)
      by false is (n, bad, same) = absurd cc

  broken_none : {A : Type 0} (at : Position) (s t : S) (xs : List (List ℕ)) (y : A) → Ends does (Broken at) s xs (Ok y) t → ⊥
  broken_none at s t xs y (n, bad, same) = absurd cc

  -- there is one position at the root
  alone : (i : ℕ) → i < F.width ^ 0 → i ≡ 0
  alone i below = let one : F.width ^ 0 ≡ 1 = pow-zero F.width in omega (arith, below, one)

  module _ (laws : Laws F) where
    name_none : (n l i : ℕ) (s t : S) (xs : List (List ℕ)) (o : Option (List ℕ)) → IsPlace F n (place (suc l) i) → NoRoot F digest xs → Ends does (name_at F digest (suc l) i) s xs (Ok o) t → ⊥
    name_none n zero i s t xs o p none ends =
        let up = parent_place F laws n zero i p in
        let first : i / F.width ≡ 0 = alone (i / F.width) up.index in
        opens_none (λ names. Done (get_or names (i % F.width) None)) s t xs o none (subst (λ (j : ℕ). Ends does (child_name F (place zero j) (i % F.width) digest) s xs (Ok o) t) first ends)
    name_none n (suc l) i s t xs o p none ends =
        let r = parted does (name_at F digest (suc l) (i / F.width)) (onward None (child_name F (place (suc l) (i / F.width)) (i % F.width))) s t xs o ends in
        name_none (suc n) l (i / F.width) s r.between r.first r.value (parent_place F laws n (suc l) i p) (none_ahead xs r.first r.second r.strings none) r.came

    below_none : (n l i : ℕ) (s t : S) (xs : List (List ℕ)) (o : Option (List ℕ)) → IsPlace F n (place l i) → NoRoot F digest xs → Ends does (node_plan F (Some digest) (place l i)) s xs (Ok o) t → ⊥
    below_none n zero i s t xs o p none ends =
        let first : i ≡ 0 = alone i p.index in
        let r = parted does (fetch (place zero i) digest) (λ bytes. if is_node F (F.depth - zero) (place zero i) bytes then Done (Some bytes) else Broken (place zero i)) s t xs o ends in
        let f = fetched (place zero i) digest r.value s r.between r.first r.came in
        let height : F.depth - zero ≡ suc h = omega (arith, depth) in
        let no_node : F.inner_at root r.value ≡ None = none_ahead xs r.first r.second r.strings none r.value (subst (λ zs. r.value ∈ zs) (sym f.0) (inl refl)) f.1 in
        let test : is_node F (F.depth - zero) (place zero i) r.value ≡ false = ap (λ (k : ℕ). is_node F k (place zero i) r.value) height ∙ ap (λ (j : ℕ). is_some (F.inner_at (place zero j) r.value)) first ∙ ap is_some no_node in
        broken_none (place zero i) r.between t r.second o (subst (λ (b : Bool). Ends does (if b then Done (Some r.value) else Broken (place zero i)) r.between r.second (Ok o) t) test r.went_on)
    below_none n (suc l) i s t xs o p none ends =
        let r = parted does (name_at F digest (suc l) i) (onward None (node_bytes F (place (suc l) i))) s t xs o ends in
        name_none n l i s r.between r.first r.value p (none_ahead xs r.first r.second r.strings none) r.came

    pub node_none : (n : ℕ) (at : Position) (s t : S) (xs : List (List ℕ)) (o : Option (List ℕ)) → IsPlace F n at → NoRoot F digest xs → Ends does (node_plan F (Some digest) at) s xs (Ok o) t → ⊥
    node_none n at = below_none n at.level at.index

  -- ## Scans

  -- a position without a digest is damaged, and nothing below it is read
  blind_scan : (n : ℕ) (s t : S) (xs : List (List ℕ)) (scan : Scan) → Ends does (scan_from F n (slot root None ∷ [])) s xs (Ok scan) t → scan ≡ no_entries
  blind_scan zero s t xs scan (n, is, same) = ok_once scan no_entries is
  blind_scan (suc n) s t xs scan ends = blind_scan n s t xs scan ends

  unread : (bytes : List ℕ) → (md5 bytes ≡ digest → F.inner_at root bytes ≡ None) → verified (F.inner_at root) (Some digest) (Some bytes) ≡ None
  unread bytes none = by (same_bytes (md5 bytes) digest) refl
    where
      by : (b : Bool) → same_bytes (md5 bytes) digest ≡ b → (if b then F.inner_at root bytes else None) ≡ None
      by true is = none (bytes_same (md5 bytes) digest is)
      by false is = refl

  read_root : (n : ℕ) (s t : S) (xs : List (List ℕ)) (scan : Scan) → NoRoot F digest xs → Ends does (scan_from F (suc n) (slot root (Some digest) ∷ [])) s xs (Ok scan) t → scan ≡ no_entries
  read_root n s t xs scan none (None, u, rest, d, e, more) = blind_scan n u t rest scan more
  read_root n s t xs scan none (Some bytes, u, rest, d, e, (tt, v, last, d', e', more)) =
      let inside : bytes ∈ xs = subst (λ zs. bytes ∈ zs) (sym (e ∙ e')) (inl refl) in
      blind_scan n v t last scan (subst (λ (q : Option (List (Option (List ℕ)))). Ends does (scan_from F n (slots_below F root q ++ [])) v last (Ok scan) t) (unread bytes (none bytes inside)) more)

  pub scan_none : (s t : S) (xs : List (List ℕ)) (scan : Scan) → NoRoot F digest xs → Ends does (scan_plan F (Some digest)) s xs (Ok scan) t → scan ≡ no_entries
  scan_none s t xs scan none ends = read_root h s t xs scan none (subst (λ (n : ℕ). Ends does (scan_from F n (slot root (Some digest) ∷ [])) s xs (Ok scan) t) depth ends)
