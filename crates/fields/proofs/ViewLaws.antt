-- The grammars of views, and of one or two of them.
use Rattle.std.proofs.Common.{◌≡◌, ℕ, zero, suc, ◌+◌, ◌^◌, ◌<◌, ◌≤◌, Bool, true, false, cond, eqb, List, [], ◌∷◌, ◌++◌, length, get_or, Result, Ok, Err, refl, sym, ap, subst, ◌∙◌, append-nil, arith, ◌⊎◌, inl, inr}
use Rattle.std.specs.Prelude.{nat_le, nat_lt, ◌&&◌}
use Rattle.std.specs.List.{flat_map}
use Rattle.std.specs.List.Sorted.{IsStrictlyIncreasing}
use Rattle.std.proofs.lemmas.Bool.{eqb-true, eqb-false}
use Rattle.std.proofs.lemmas.Bool.Decides.{nat_tests}
use Rattle.std.proofs.lemmas.List.Elements.{All-from_get_or, All-get_or}
use Rattle.byteorder.specs.Endian.{big_bytes}
use Rattle.ens_base.specs.View.{IsPeer, IsViewSize, IsView}
use Rattle.fields.specs.declared.field_error.FieldError.{FieldError}
use Rattle.fields.specs.declared.field_error.FieldError.TheVariants.{Rule}
use Rattle.ens_base.specs.Limits.{IsBytes}
use Rattle.fields.specs.Grammar.{IsGrammar}
use Rattle.fields.specs.Views.{view_spelling, member_at, members_at, view_at, AreViews, views_spelling, one_view_at, two_views_at, views_at}
use Rattle.fields.proofs.GrammarLaws.{valid_as, spelled_as, field_then, field_last, tested, checked, nothing}
use Rattle.fields.proofs.NumberLaws.{byte_grammar, u32_grammar}

-- peers in strictly ascending order, the first above `low`
abbrev pub IsAbove : ℕ → List ℕ → Type 0
IsAbove low [] = Unit {0}
IsAbove low (m ∷ ms) = (low < m) × (m ≤ 31) × IsAbove m ms

above_at : (low : ℕ) (ms : List ℕ) → IsAbove low ms → (k : ℕ) → k < length ms → (low < get_or ms k 0) × (get_or ms k 0 ≤ 31)
above_at low [] h k lt = absurd (omega arith)
above_at low (m ∷ ms) h zero lt = (h.0, h.1)
above_at low (m ∷ ms) h (suc k) lt = let later = above_at m ms h.2 k (omega arith) in (omega (arith, later.0, h.0), later.1)

ascends : (low : ℕ) (ms : List ℕ) → IsAbove low ms → IsStrictlyIncreasing ms
ascends low [] h k lt = absurd (omega arith)
ascends low (m ∷ ms) h zero lt = (above_at m ms h.2 0 (omega arith)).0
ascends low (m ∷ ms) h (suc k) lt = let e : suc (k + 1) ≡ suc k + 1 = omega arith in subst (λ (n : ℕ). get_or ms k 0 < get_or (m ∷ ms) n 0) e (ascends m ms h.2 k (omega arith))

pub view_of_above : (ms : List ℕ) → IsViewSize (length ms) → IsAbove 0 ms → IsView ms
view_of_above ms size h = record {
  size = size;
  peers = All-from_get_or IsPeer ms 0 (λ k lt. let at = above_at 0 ms h k lt in (omega (arith, at.0), at.1));
  ascends = ascends 0 ms h;
}

above_of : (low : ℕ) (ms : List ℕ) → ((k : ℕ) → k < length ms → IsPeer (get_or ms k 0)) → IsStrictlyIncreasing ms → (0 < length ms → low < get_or ms 0 0) → IsAbove low ms
above_of low [] peers up first = tt
above_of low (m ∷ ms) peers up first = (first (omega arith), (peers 0 (omega arith)).1, above_of m ms (λ k lt. peers (suc k) (omega arith)) (λ k lt. let e : suc k + 1 ≡ suc (k + 1) = omega arith in subst (λ (n : ℕ). get_or ms k 0 < get_or (m ∷ ms) n 0) e (up (suc k) (omega arith))) (λ some. up 0 (omega arith)))

above_of_view : (ms : List ℕ) → IsView ms → IsAbove 0 ms
above_of_view ms v = above_of 0 ms (λ k lt. All-get_or IsPeer ms k 0 lt v.peers) v.ascends (λ some. (All-get_or IsPeer ms 0 0 some v.peers).0)

abbrev is_peer_above : ℕ → ℕ → Bool
is_peer_above low m = nat_lt low m && nat_le m 31

from_test : (low m : ℕ) → is_peer_above low m ≡ true → (low < m) × (m ≤ 31)
from_test low m h = grind (arith, nat_tests)

to_test : (low m : ℕ) → (low < m) × (m ≤ 31) → is_peer_above low m ≡ true
to_test low m h = grind (arith, nat_tests)

pub member_grammar : (low : ℕ) → IsGrammar (λ m. (low < m) × (m ≤ 31)) (big_bytes 4) (member_at low)
unfolding member_at
member_grammar low =
    let parts : IsGrammar (λ m. (m < 2 ^ 32) × (is_peer_above low m ≡ true)) (big_bytes 4) (member_at low) = checked (is_peer_above low) (λ at. Rule at) u32_grammar in
    valid_as (λ m h. from_test low m h.1) (λ m h. (omega (arith, h.1), to_test low m h)) parts

abbrev first_of : List ℕ → ℕ
first_of [] = 0
first_of (m ∷ ms) = m

abbrev others_of : List ℕ → List ℕ
others_of [] = []
others_of (m ∷ ms) = ms

determined : (m : ℕ) (ms : List ℕ) → (0 < length ms) × (first_of ms ≡ m) → m ∷ others_of ms ≡ ms
determined m [] h = absurd (omega arith)
determined m (a ∷ ms) h = ap (λ (x : ℕ). x ∷ ms) (sym h.1)

abbrev IsMore : ℕ → ℕ → List ℕ → Type 0
IsMore n low ms = (0 < length ms) × (((low < first_of ms) × (first_of ms ≤ 31)) × (IsAbove (first_of ms) (others_of ms) × (length (others_of ms) ≡ n)))

more_to : (n low : ℕ) (ms : List ℕ) → IsMore n low ms → IsAbove low ms × (length ms ≡ suc n)
more_to n low [] h = absurd (omega arith)
more_to n low (m ∷ ms) h = ((h.1.0.0, h.1.0.1, h.1.1.0), ap suc h.1.1.1)

more_from : (n low : ℕ) (ms : List ℕ) → IsAbove low ms × (length ms ≡ suc n) → IsMore n low ms
more_from n low [] h = absurd (omega arith)
more_from n low (m ∷ ms) h = (omega arith, ((h.0.0, h.0.1), (h.0.2, omega arith)))

spelled_more : (ms : List ℕ) → 0 < length ms → big_bytes 4 (first_of ms) ++ flat_map (big_bytes 4) (others_of ms) ≡ flat_map (big_bytes 4) ms
spelled_more [] h = absurd (omega arith)
spelled_more (m ∷ ms) h = refl

none_spelled : (ms : List ℕ) → IsAbove 0 ms → [] ≡ ms → flat_map (big_bytes 4) ms ≡ []
none_spelled [] h e = refl
none_spelled (m ∷ ms) h e = absurd cc

none_is : (low : ℕ) (ms : List ℕ) → IsAbove low ms × (length ms ≡ 0) → [] ≡ ms
none_is low [] h = refl
none_is low (m ∷ ms) h = absurd (omega arith)

is_none : (low : ℕ) (ms : List ℕ) → [] ≡ ms → IsAbove low ms × (length ms ≡ 0)
is_none low [] h = (tt, refl)
is_none low (m ∷ ms) h = absurd cc

nothing_spelled : (ms : List ℕ) → [] ≡ ms → [] ≡ flat_map (big_bytes 4) ms
nothing_spelled [] h = refl
nothing_spelled (m ∷ ms) h = absurd cc

pub members_grammar : (n low : ℕ) → IsGrammar (λ ms. IsAbove low ms × (length ms ≡ n)) (flat_map (big_bytes 4)) (members_at n low)
unfolding members_at
members_grammar zero low = valid_as (λ ms h. is_none low ms h) (λ ms h. none_is low ms h) (spelled_as (λ ms h. nothing_spelled ms h) (nothing []))
members_grammar (suc n) low =
    let parts : IsGrammar (λ ms. IsMore n low ms) (λ ms. big_bytes 4 (first_of ms) ++ flat_map (big_bytes 4) (others_of ms)) (members_at (suc n) low) =
    field_then (member_grammar low) first_of _
    (λ m start good. valid_as
    (λ ms h. (h.0, (subst (λ (a : ℕ). IsAbove a (others_of ms)) (sym h.0.1) h.1.0, h.1.1)))
    (λ ms h. (h.0, (subst (λ (a : ℕ). IsAbove a (others_of ms)) h.0.1 h.1.0, h.1.1)))
    (field_last (members_grammar n m) others_of (λ ms. m ∷ ms) {P = λ ms. (0 < length ms) × (first_of ms ≡ m)} (λ _. refl) (λ ms. (omega arith, refl)) (λ ms h. determined m ms h))) in
    valid_as (more_to n low) (more_from n low) (spelled_as (λ ms h. spelled_more ms h.0) parts)

pub view_read : (n : ℕ) (bytes : List ℕ) (at : ℕ) (ms : List ℕ) (end : ℕ) → IsBytes bytes → members_at n 0 bytes at ≡ Ok (ms, end) → 1 ≤ length ms → length ms ≤ 9 → IsView ms
view_read n bytes at ms end fits e some few = view_of_above ms (some, few) ((members_grammar n 0).found bytes at ms end fits e).1.0

in_limits : (n : ℕ) → (1 ≤ n) × (n ≤ 9) → nat_le 1 n && nat_le n 9 ≡ true
in_limits n h = grind (arith, nat_tests)

from_limits : (n : ℕ) → nat_le 1 n && nat_le n 9 ≡ true → (1 ≤ n) × (n ≤ 9)
from_limits n h = grind (arith, nat_tests)

pub view_grammar : IsGrammar IsView view_spelling view_at
unfolding view_at
view_grammar =
    let parts : IsGrammar (λ (v : List ℕ). Unit {0} × ((length v < 256) × IsView v)) view_spelling view_at =
    field_then byte_grammar (λ (v : List ℕ). length v) _
    (λ n start _. valid_as
    (λ v h. ((tt, h.1.1), view_of_above v (from_limits (length v) (rw h.1.1 h.0)) h.1.0))
    (λ v h. (rw (← h.0.1) (in_limits (length v) h.1.size), (above_of_view v h.1, h.0.1)))
    (tested (nat_le 1 n && nat_le n 9) (Rule start) (members_grammar n 0))) in
    valid_as (λ v h. h.1.1) (λ v h. (tt, (omega (arith, h.size), h))) parts

abbrev IsOne : List (List ℕ) → Type 0
IsOne views = (length views ≡ 1) × AreViews views

abbrev IsTwo : List (List ℕ) → Type 0
IsTwo views = (length views ≡ 2) × AreViews views

abbrev new_of : List (List ℕ) → List ℕ
new_of [] = []
new_of (new ∷ views) = new

abbrev old_of : List (List ℕ) → List ℕ
old_of [] = []
old_of (new ∷ views) = new_of views

one_made : (views : List (List ℕ)) → length views ≡ 1 → new_of views ∷ [] ≡ views
one_made [] e = absurd (omega arith)
one_made (new ∷ []) e = refl
one_made (new ∷ old ∷ views) e = absurd (omega arith)

one_to : (views : List (List ℕ)) → (length views ≡ 1) × IsView (new_of views) → IsOne views
one_to [] h = absurd (omega arith)
one_to (new ∷ []) h = h
one_to (new ∷ old ∷ views) h = absurd (omega arith)

one_from : (views : List (List ℕ)) → IsOne views → (length views ≡ 1) × IsView (new_of views)
one_from [] h = absurd (omega arith)
one_from (new ∷ []) h = h
one_from (new ∷ old ∷ views) h = absurd (omega arith)

one_spelled : (views : List (List ℕ)) → IsOne views → view_spelling (new_of views) ≡ flat_map view_spelling views
one_spelled [] h = absurd (omega arith)
one_spelled (new ∷ []) h = sym (append-nil (view_spelling new))
one_spelled (new ∷ old ∷ views) h = absurd (omega arith)

one_grammar : IsGrammar IsOne (flat_map view_spelling) one_view_at
unfolding one_view_at
one_grammar =
    let parts : IsGrammar (λ views. (length views ≡ 1) × IsView (new_of views)) (λ views. view_spelling (new_of views)) one_view_at =
    field_last view_grammar new_of (λ view. view ∷ []) (λ _. refl) (λ _. refl) one_made in
    spelled_as one_spelled (valid_as one_to one_from parts)

two_made : (new : List ℕ) (views : List (List ℕ)) → (length views ≡ 2) × (new_of views ≡ new) → new ∷ old_of views ∷ [] ≡ views
two_made new [] h = absurd (omega arith)
two_made new (a ∷ []) h = absurd (omega arith)
two_made new (a ∷ b ∷ []) h = ap (λ (v : List ℕ). v ∷ b ∷ []) (sym h.1)
two_made new (a ∷ b ∷ c ∷ views) h = absurd (omega arith)

two_to : (views : List (List ℕ)) → (length views ≡ 2) × (IsView (new_of views) × IsView (old_of views)) → IsTwo views
two_to [] h = absurd (omega arith)
two_to (new ∷ []) h = absurd (omega arith)
two_to (new ∷ old ∷ []) h = h
two_to (new ∷ old ∷ more ∷ views) h = absurd (omega arith)

two_from : (views : List (List ℕ)) → IsTwo views → (length views ≡ 2) × (IsView (new_of views) × IsView (old_of views))
two_from [] h = absurd (omega arith)
two_from (new ∷ []) h = absurd (omega arith)
two_from (new ∷ old ∷ []) h = h
two_from (new ∷ old ∷ more ∷ views) h = absurd (omega arith)

two_spelled : (views : List (List ℕ)) → IsTwo views → view_spelling (new_of views) ++ view_spelling (old_of views) ≡ flat_map view_spelling views
two_spelled [] h = absurd (omega arith)
two_spelled (new ∷ []) h = absurd (omega arith)
two_spelled (new ∷ old ∷ []) h = ap (λ (l : List ℕ). view_spelling new ++ l) (sym (append-nil (view_spelling old)))
two_spelled (new ∷ old ∷ more ∷ views) h = absurd (omega arith)

two_grammar : IsGrammar IsTwo (flat_map view_spelling) two_views_at
unfolding two_views_at
two_grammar =
    let parts : IsGrammar (λ views. (length views ≡ 2) × (IsView (new_of views) × IsView (old_of views))) (λ views. view_spelling (new_of views) ++ view_spelling (old_of views)) two_views_at =
    field_then view_grammar new_of _
    (λ new _ _. field_last view_grammar old_of (λ old. new ∷ old ∷ []) {P = λ views. (length views ≡ 2) × (new_of views ≡ new)} (λ _. refl) (λ _. (refl, refl)) (two_made new)) in
    spelled_as two_spelled (valid_as two_to two_from parts)

count_of : (views : List (List ℕ)) → AreViews views → (length views ≡ 1) ⊎ (length views ≡ 2)
count_of [] h = absurd h
count_of (new ∷ []) h = inl refl
count_of (new ∷ old ∷ []) h = inr refl
count_of (new ∷ old ∷ more ∷ views) h = absurd h

pub err_is_no : {A : Type 0} (d : FieldError) (x : A) → (let left : Result A FieldError = Err d in left) ≡ Ok x → ⊥
err_is_no d x e = cc

counted_by : (n start : ℕ) (one two : Bool) → eqb n 1 ≡ one → eqb n 2 ≡ two → IsGrammar (λ views. (Unit {0} × (length views ≡ n)) × AreViews views) (flat_map view_spelling)
    (λ bytes at. cond one (one_view_at bytes at) (cond two (two_views_at bytes at) (Err (Rule start))))
counted_by n start true two a b = let is : n ≡ 1 = eqb-true _ _ a in valid_as (λ views h. ((tt, h.0 ∙ sym is), h.1)) (λ views h. (h.0.1 ∙ is, h.1)) one_grammar
counted_by n start false true a b = let is : n ≡ 2 = eqb-true _ _ b in valid_as (λ views h. ((tt, h.0 ∙ sym is), h.1)) (λ views h. (h.0.1 ∙ is, h.1)) two_grammar
counted_by n start false false a b = record {
  found = λ bytes at x end fits e. absurd (err_is_no (Rule start) (x, end) e);
  again = λ bytes at x rest good e. elim (count_of x good.1) [ inl one ↦ absurd (eqb-false _ _ a (sym good.0.1 ∙ one)) | inr two ↦ absurd (eqb-false _ _ b (sym good.0.1 ∙ two)) ];
}

pub views_grammar : IsGrammar AreViews views_spelling views_at
unfolding views_at
views_grammar =
    let parts : IsGrammar (λ (views : List (List ℕ)). Unit {0} × ((length views < 256) × AreViews views)) views_spelling views_at =
    field_then byte_grammar (λ (views : List (List ℕ)). length views) _ (λ n start _. counted_by n start (eqb n 1) (eqb n 2) refl refl) in
    valid_as (λ v h. h.1.1) (λ v h. (tt, (elim (count_of v h) [ inl one ↦ omega arith | inr two ↦ omega arith ], h))) parts
