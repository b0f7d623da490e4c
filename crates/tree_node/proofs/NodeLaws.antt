-- The grammars of nodes.
use Rattle.std.proofs.Common.{◌≡◌, ℕ, ◌^◌, ◌<◌, Bool, true, false, cond, eqb, List, ◌∷◌, ◌++◌, ◌∙◌, get_or, length, drop, Result, Ok, Err, refl, sym, ap, subst, eq-eqb}
use Rattle.std.specs.Prelude.{IfOk, count_ones}
use Rattle.std.proofs.lemmas.Bool.{eqb-true}
use Rattle.byteorder.specs.Endian.{big_bytes}
use Rattle.fields.specs.declared.field_error.FieldError.{FieldError}
use Rattle.fields.specs.declared.field_error.FieldError.TheVariants as fields
use Rattle.ens_base.specs.Limits.{IsBytes}
use Rattle.fields.specs.Grammar.{IsGrammar}
use Rattle.fields.proofs.GrammarLaws.{Reader, valid_as, field_then, field_last, tested, checked, right, ok_is, whole_found, whole_again, apart}
use Rattle.fields.proofs.NumberLaws.{byte_grammar, u16_grammar, u32_grammar}
use Rattle.tree_node.specs.declared.position.Position.{Position}
use Rattle.tree_node.specs.declared.version.TreeVersion.{TreeVersion}
use Rattle.tree_node.specs.declared.node.InnerNode.{InnerNode}
use Rattle.tree_node.specs.declared.node.Segment.{Segment}
use Rattle.tree_node.specs.declared.error.NodeError.{NodeError}
use Rattle.tree_node.specs.declared.error.NodeError.TheVariants.{Short, Trailing, Order, Position as OtherPosition, Memory, BadTag}
use Rattle.tree_node.specs.TreeVersions.{inner_tag, segment_tag}
use Rattle.tree_node.proofs.TreeVersionLaws.{inner_tag_small, segment_tag_small, inner_tag_once, segment_tag_once, tags_differ}
use Rattle.tree_node.specs.Positions.{IsPosition, position_spelling, same_position}
use Rattle.tree_node.specs.Entries.{AreEntries, entries_spelling, AreDigests, digests_spelling}
use Rattle.tree_node.specs.Nodes.{IsInner, inner_spelling, IsSegment, segment_spelling, ended, ordered, asked_at, inner_fields_at, inner_at, segment_fields_at, segment_at, all_of, inner_of, segment_of, Answers}
use Rattle.tree_node.proofs.PositionLaws.{any_grammar, position_fits, from_same, to_same}
use Rattle.tree_node.proofs.EntryLaws.{entries_grammar, digests_grammar}

ended_ok : {X : Type 0} (r : Result X FieldError) (x : X) → ended r ≡ right NodeError x → r ≡ Ok x
ended_ok (Ok y) x e = ap (λ z. Ok z) (ok_is NodeError y x e)
ended_ok (Err (fields.Short at)) x e = absurd cc
ended_ok (Err (fields.Rule at)) x e = absurd cc
ended_ok (Err fields.Memory) x e = absurd cc

ordered_ok : {X : Type 0} (r : Result X FieldError) (x : X) → ordered r ≡ right NodeError x → r ≡ Ok x
ordered_ok (Ok y) x e = ap (λ z. Ok z) (ok_is NodeError y x e)
ordered_ok (Err (fields.Short at)) x e = absurd cc
ordered_ok (Err (fields.Rule at)) x e = absurd cc
ordered_ok (Err fields.Memory) x e = absurd cc

pub ended_grammar : {A : Type 0} {IsValid : A → Type 0} {spelling : A → List ℕ} {read : Reader A FieldError} → IsGrammar IsValid spelling read → IsGrammar IsValid spelling (λ bytes at. ended (read bytes at))
ended_grammar {read = read} g = record {
  found = λ bytes at x end fits e. g.found bytes at x end fits (ended_ok (read bytes at) (x, end) e);
  again = λ bytes at x rest good e. ap ended (g.again bytes at x rest good e);
}

ordered_grammar : {A : Type 0} {IsValid : A → Type 0} {spelling : A → List ℕ} {read : Reader A FieldError} → IsGrammar IsValid spelling read → IsGrammar IsValid spelling (λ bytes at. ordered (read bytes at))
ordered_grammar {read = read} g = record {
  found = λ bytes at x end fits e. g.found bytes at x end fits (ordered_ok (read bytes at) (x, end) e);
  again = λ bytes at x rest good e. ap ordered (g.again bytes at x rest good e);
}

pub asked_grammar : (v : TreeVersion) (asked : Position) → IsPosition v asked → IsGrammar (λ p. p ≡ asked) position_spelling (asked_at asked)
unfolding asked_at
asked_grammar v asked ok = valid_as (λ p h. from_same p asked h.1) (λ p h. (position_fits v p (subst (IsPosition v) (sym h) ok), to_same p asked h)) (checked (λ p. same_position p asked) (λ _. OtherPosition) (ended_grammar any_grammar))

there : (v : TreeVersion) (asked : Position) → IsPosition v asked → (w : TreeVersion) (p : Position) → w ≡ v → p ≡ asked → IsPosition w p
there v asked ok w p of is = subst (λ (u : TreeVersion). IsPosition u p) (sym of) (subst (IsPosition v) (sym is) ok)

remade_inner : (n : InnerNode) (v : TreeVersion) (position : Position) (mask : ℕ) → v ≡ n.version → position ≡ n.position → mask ≡ n.mask → (let made : InnerNode = record { version = v; position = position; mask = mask; digests = n.digests } in made) ≡ n
remade_inner n v position mask w p m = λ i. record { version = w i; position = p i; mask = m i; digests = n.digests }

inner_fields_grammar : (v : TreeVersion) (asked : Position) → IsPosition v asked → IsGrammar (λ n. IsInner n × (n.version ≡ v) × (n.position ≡ asked)) (λ n. position_spelling n.position ++ (big_bytes 2 n.mask ++ digests_spelling n.digests)) (inner_fields_at v asked)
unfolding inner_fields_at
inner_fields_grammar v asked ok =
    let parts : IsGrammar (λ (n : InnerNode). (n.version ≡ v) × ((n.position ≡ asked) × ((n.mask < 2 ^ 16) × (AreDigests n.digests × (length n.digests ≡ count_ones n.mask))))) (λ n. position_spelling n.position ++ (big_bytes 2 n.mask ++ digests_spelling n.digests)) (inner_fields_at v asked) =
    field_then (asked_grammar v asked ok) (λ (n : InnerNode). n.position) _
    (λ position _ _. field_then (ended_grammar u16_grammar) (λ (n : InnerNode). n.mask) _
    (λ mask _ _. valid_as
    (λ n h. (h.0, (h.1.0, subst (λ (m : ℕ). length n.digests ≡ count_ones m) (sym h.0.1) h.1.1)))
    (λ n h. (h.0, (h.1.0, subst (λ (m : ℕ). length n.digests ≡ count_ones m) h.0.1 h.1.1)))
    (field_last (ended_grammar (digests_grammar (count_ones mask))) (λ (n : InnerNode). n.digests) (λ digests. record { version = v; position = position; mask = mask; digests = digests }) {P = λ n. ((n.version ≡ v) × (n.position ≡ position)) × (n.mask ≡ mask)} (λ _. refl) (λ _. ((refl, refl), refl)) (λ n h. remade_inner n v position mask (sym h.0.0) (sym h.0.1) (sym h.1))))) in
    valid_as (λ n h. (record { position = there v asked ok n.version n.position h.0 h.1.0; mask = h.1.1.0; each = h.1.1.1.1; digests = h.1.1.1.0 }, h.0, h.1.0)) (λ n h. (h.1, (h.2, (h.0.mask, (h.0.digests, h.0.each))))) parts

pub inner_grammar : (v : TreeVersion) (asked : Position) → IsPosition v asked → IsGrammar (λ n. IsInner n × (n.version ≡ v) × (n.position ≡ asked)) inner_spelling (inner_at v asked)
unfolding inner_at
inner_grammar v asked ok =
    let parts : IsGrammar (λ (n : InnerNode). Unit {0} × ((inner_tag n.version < 256) × (IsInner n × (n.version ≡ v) × (n.position ≡ asked)))) inner_spelling (inner_at v asked) =
    field_then (ended_grammar byte_grammar) (λ (n : InnerNode). inner_tag n.version) _
    (λ tag start _. valid_as (λ n h. ((tt, ap inner_tag h.1.1 ∙ sym (eqb-true _ _ h.0)), h.1)) (λ n h. (eq-eqb _ _ (sym h.0.1 ∙ ap inner_tag h.1.1), h.1)) (tested (eqb tag (inner_tag v)) BadTag (inner_fields_grammar v asked ok))) in
    valid_as (λ n h. h.1.1) (λ n h. (tt, (inner_tag_small n.version, h))) parts

remade_segment : (s : Segment) (v : TreeVersion) (position : Position) → v ≡ s.version → position ≡ s.position → (let made : Segment = record { version = v; position = position; entries = s.entries } in made) ≡ s
remade_segment s v position w p = λ i. record { version = w i; position = p i; entries = s.entries }

segment_fields_grammar : (v : TreeVersion) (asked : Position) → IsPosition v asked → IsGrammar (λ s. IsSegment s × (s.version ≡ v) × (s.position ≡ asked)) (λ s. position_spelling s.position ++ (big_bytes 4 (length s.entries) ++ entries_spelling s.entries)) (segment_fields_at v asked)
unfolding segment_fields_at
segment_fields_grammar v asked ok =
    let parts : IsGrammar (λ (s : Segment). (s.version ≡ v) × ((s.position ≡ asked) × ((length s.entries < 2 ^ 32) × AreEntries s.entries))) (λ s. position_spelling s.position ++ (big_bytes 4 (length s.entries) ++ entries_spelling s.entries)) (segment_fields_at v asked) =
    field_then (asked_grammar v asked ok) (λ (s : Segment). s.position) _
    (λ position _ _. field_then (ended_grammar u32_grammar) (λ (s : Segment). length s.entries) _
    (λ count _ _. valid_as
    (λ s h. ((h.0, h.1.1), h.1.0))
    (λ s h. (h.0.0, (h.1, h.0.1)))
    (field_last (ordered_grammar (entries_grammar count)) (λ (s : Segment). s.entries) (λ entries. record { version = v; position = position; entries = entries }) {P = λ s. (s.version ≡ v) × (s.position ≡ position)} (λ _. refl) (λ _. (refl, refl)) (λ s h. remade_segment s v position (sym h.0) (sym h.1))))) in
    valid_as (λ s h. (record { position = there v asked ok s.version s.position h.0 h.1.0; few = h.1.1.0; entries = h.1.1.1 }, h.0, h.1.0)) (λ s h. (h.1, (h.2, (h.0.few, h.0.entries)))) parts

pub segment_grammar : (v : TreeVersion) (asked : Position) → IsPosition v asked → IsGrammar (λ s. IsSegment s × (s.version ≡ v) × (s.position ≡ asked)) segment_spelling (segment_at v asked)
unfolding segment_at
segment_grammar v asked ok =
    let parts : IsGrammar (λ (s : Segment). Unit {0} × ((segment_tag s.version < 256) × (IsSegment s × (s.version ≡ v) × (s.position ≡ asked)))) segment_spelling (segment_at v asked) =
    field_then (ended_grammar byte_grammar) (λ (s : Segment). segment_tag s.version) _
    (λ tag start _. valid_as (λ n h. ((tt, ap segment_tag h.1.1 ∙ sym (eqb-true _ _ h.0)), h.1)) (λ n h. (eq-eqb _ _ (sym h.0.1 ∙ ap segment_tag h.1.1), h.1)) (tested (eqb tag (segment_tag v)) BadTag (segment_fields_grammar v asked ok))) in
    valid_as (λ n h. h.1.1) (λ n h. (tt, (segment_tag_small n.version, h))) parts

pub all_answers : {X : Type 0} (r read : Result (X × ℕ) NodeError) (size : ℕ) → Answers r read → Answers (all_of r size) (all_of read size)
all_answers {X = X} (Ok x) read size h = rw h (same (eqb x.1 size))
  where
    same : (b : Bool) → Answers (cond b (right NodeError x.0) (Err Trailing)) (cond b (Ok x.0) (Err Trailing))
    same true = refl
    same false = refl
all_answers (Err Short) read size h = rw h refl
all_answers (Err Trailing) read size h = rw h refl
all_answers (Err Order) read size h = rw h refl
all_answers (Err OtherPosition) read size h = rw h refl
all_answers (Err Memory) read size h = tt
all_answers (Err BadTag) read size h = rw h refl

all_ok : {X : Type 0} (r : Result (X × ℕ) NodeError) (size : ℕ) (n : X) → all_of r size ≡ right NodeError n → r ≡ Ok (n, size)
all_ok (Ok x) size n e = by (eqb x.1 size) refl e
  where
    by : (b : Bool) → eqb x.1 size ≡ b → cond b (right NodeError x.0) (Err Trailing) ≡ right NodeError n → right NodeError x ≡ Ok (n, size)
    by true t h = let is : x.0 ≡ n = ok_is NodeError x.0 n h in let ends : x.1 ≡ size = eqb-true _ _ t in λ i. Ok (is i, ends i)
    by false t h = absurd cc
all_ok (Err d) size n e = absurd cc

whole_again_of : {X : Type 0} {IsValid : X → Type 0} {spelling : X → List ℕ} {read : Reader X NodeError} → IsGrammar IsValid spelling read → (bytes : List ℕ) (x : X) → IsValid x → bytes ≡ spelling x → all_of (read bytes 0) (length bytes) ≡ Ok x
whole_again_of g bytes x good e =
    let ends : eqb (length bytes) (length bytes) ≡ true = eq-eqb _ _ refl in
    rw (whole_again g bytes x good e, ends) refl

whole_found_of : {X : Type 0} {IsValid : X → Type 0} {spelling : X → List ℕ} {read : Reader X NodeError} → IsGrammar IsValid spelling read → (bytes : List ℕ) (r : Result X NodeError) → IsBytes bytes → Answers r (all_of (read bytes 0) (length bytes)) → IfOk r (λ x. IsValid x × (bytes ≡ spelling x))
whole_found_of {read = read} g bytes (Ok x) fits h = whole_found g bytes x fits (all_ok (read bytes 0) (length bytes) x h)
whole_found_of g bytes (Err e) fits h = tt

-- what is read was spelled so
pub inner_found : (v : TreeVersion) (asked : Position) → IsPosition v asked → (bytes : List ℕ) (r : Result InnerNode NodeError) → IsBytes bytes → Answers r (inner_of v asked bytes) → IfOk r (λ n. IsInner n × (n.version ≡ v) × (n.position ≡ asked) × (bytes ≡ inner_spelling n))
inner_found v asked ok bytes (Ok n) fits h = let f = whole_found_of (inner_grammar v asked ok) bytes (Ok n) fits h in (f.0.0, f.0.1, f.0.2, f.1)
inner_found v asked ok bytes (Err e) fits h = tt

pub segment_found : (v : TreeVersion) (asked : Position) → IsPosition v asked → (bytes : List ℕ) (r : Result Segment NodeError) → IsBytes bytes → Answers r (segment_of v asked bytes) → IfOk r (λ s. IsSegment s × (s.version ≡ v) × (s.position ≡ asked) × (bytes ≡ segment_spelling s))
segment_found v asked ok bytes (Ok s) fits h = let f = whole_found_of (segment_grammar v asked ok) bytes (Ok s) fits h in (f.0.0, f.0.1, f.0.2, f.1)
segment_found v asked ok bytes (Err e) fits h = tt

-- what is spelled so is read
pub inner_again : (v : TreeVersion) (asked : Position) → IsPosition v asked → (bytes : List ℕ) (n : InnerNode) → IsInner n → n.version ≡ v → n.position ≡ asked → bytes ≡ inner_spelling n → inner_of v asked bytes ≡ Ok n
inner_again v asked ok bytes n good of is e = whole_again_of (inner_grammar v asked ok) bytes n (good, of, is) e

pub segment_again : (v : TreeVersion) (asked : Position) → IsPosition v asked → (bytes : List ℕ) (s : Segment) → IsSegment s → s.version ≡ v → s.position ≡ asked → bytes ≡ segment_spelling s → segment_of v asked bytes ≡ Ok s
segment_again v asked ok bytes s good of is e = whole_again_of (segment_grammar v asked ok) bytes s (good, of, is) e

-- no spelling begins another
first_byte : (m n : ℕ) (a b : List ℕ) → m ∷ a ≡ n ∷ b → m ≡ n
first_byte m n a b e = ap (λ (l : List ℕ). get_or l 0 m) e

pub inner_apart : (x y : InnerNode) (a b : List ℕ) → IsInner x → IsInner y → inner_spelling x ++ a ≡ inner_spelling y ++ b → (x ≡ y) × (a ≡ b)
inner_apart x y a b good fine same =
    let versions : x.version ≡ y.version = inner_tag_once x.version y.version (first_byte _ _ _ _ same) in
    let places = apart any_grammar x.position y.position (big_bytes 2 x.mask ++ (digests_spelling x.digests ++ a)) (big_bytes 2 y.mask ++ (digests_spelling y.digests ++ b)) (position_fits x.version x.position good.position) (position_fits y.version y.position fine.position) (ap (λ (l : List ℕ). drop 1 l) same) in
    apart (inner_grammar x.version x.position good.position) x y a b (good, refl, refl) (fine, sym versions, sym places.0) same

pub segments_apart : (x y : Segment) (a b : List ℕ) → IsSegment x → IsSegment y → segment_spelling x ++ a ≡ segment_spelling y ++ b → (x ≡ y) × (a ≡ b)
segments_apart x y a b good fine same =
    let versions : x.version ≡ y.version = segment_tag_once x.version y.version (first_byte _ _ _ _ same) in
    let places = apart any_grammar x.position y.position (big_bytes 4 (length x.entries) ++ (entries_spelling x.entries ++ a)) (big_bytes 4 (length y.entries) ++ (entries_spelling y.entries ++ b)) (position_fits x.version x.position good.position) (position_fits y.version y.position fine.position) (ap (λ (l : List ℕ). drop 1 l) same) in
    apart (segment_grammar x.version x.position good.position) x y a b (good, refl, refl) (fine, sym versions, sym places.0) same

-- an inner node and a segment begin with different bytes
pub kinds_apart : (x : InnerNode) (y : Segment) (a b : List ℕ) → inner_spelling x ++ a ≡ segment_spelling y ++ b → ⊥
kinds_apart x y a b same = tags_differ x.version y.version (first_byte _ _ _ _ same)
