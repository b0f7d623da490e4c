-- Sets that a loop over the members of a view fills.
use Rattle.std.specs.Prelude.{replicate, slice_set, ◌||◌, slice_index_or}
use Rattle.ens_base.specs.Lists.{is_in}
use Rattle.std.proofs.Common.{◌≡◌, ℕ, zero, suc, ◌+◌, ◌<◌, ◌≤◌, Bool, true, false, ◌==◌, List, [], ◌∷◌, ◌++◌, length, take, get_or, ◌⊎◌, inl, inr, arith, refl, sym, ap, ◌∙◌}
use Rattle.std.proofs.lemmas.Bool.{cases_lt}
use Rattle.std.proofs.lemmas.Bool.Decides.{nat_tests}
use Rattle.std.proofs.lemmas.List.{length-set, ext_get_or, take_more, get_or-replicate, get_or_past, get_or_default}
use Rattle.std.proofs.lemmas.List.FromFn.{get_or-map-range_with_len}
use Rattle.ens_base.specs.PeerSet.{holds}
use Rattle.ens_base.specs.View.{IsView}
use Rattle.quorums.specs.Members.{those, members}
use Rattle.quorums.specs.Quorums.{is_member}

-- the set has the members of the list, and those of the set before
pub record HasJoined (view : List ℕ) (before set : List Bool) : Type 0 where
  pub size : length set ≡ length before
  pub at : (p : ℕ) → holds set p ≡ (is_in view p || holds before p)
  pub none : holds before 0 ≡ false → holds set 0 ≡ false

in_end : (view : List ℕ) (m p : ℕ) → is_in (view ++ m ∷ []) p ≡ (p == m || is_in view p)
in_end [] m p = refl
in_end (x ∷ view) m p = ap (λ b. p == x || b) (in_end view m p) ∙ swapped (p == x) (p == m) (is_in view p)
  where
    swapped : (a b c : Bool) → (a || (b || c)) ≡ (b || (a || c))
    swapped a b c = grind (arith, nat_tests)

none_more : (new old : Bool) (m : ℕ) → 1 ≤ m → old ≡ false → new ≡ (0 == m || old) → new ≡ false
none_more new old m low o n = grind (arith, nat_tests)

more_at : (new old in_more in_view here before : Bool) → old ≡ (in_view || before) → new ≡ (here || old) → in_more ≡ (here || in_view) → new ≡ (in_more || before)
more_at new old in_more in_view here before o n m = grind (arith, nat_tests)

joined_more : (view : List ℕ) (k m : ℕ) (before set now : List Bool) → k < length view → 1 ≤ m → HasJoined (take k view) before set → m ≡ get_or view k m → now ≡ slice_set set m true → ((p : ℕ) → holds now p ≡ (p == m || holds set p)) → HasJoined (take (k + 1) view) before now
joined_more view k m before set now h low j at e members = rw (take_more view k m h) (rw (sym at) (record {
  size = rw e (length-set set m true ∙ j.size);
  at = λ p. more_at (holds now p) (holds set p) _ _ (p == m) (holds before p) (j.at p) (members p) (in_end (take k view) m p);
  none = λ h. none_more (holds now 0) (holds set 0) m low (j.none h) (members 0);
}))

-- one more member of a view, whose members a loop takes from a list
pub member_more : (view items : List ℕ) (k m : ℕ) (before set now : List Bool) → IsView view → items ≡ view → k < length items → HasJoined (take k view) before set → m ≡ get_or items k 0 → now ≡ slice_set set m true → ((p : ℕ) → holds now p ≡ (p == m || holds set p)) → HasJoined (take (k + 1) view) before now
member_more view items k m before set now are same h j at e members =
    let below : k < length view = rw (sym same) h in
    let read : m ≡ get_or view k m = at ∙ get_or_default items k 0 m h ∙ ap (λ xs. get_or xs k m) same in
    joined_more view k m before set now below (omega (arith, (are.peers k m below).0, read)) j read e members

all_at : (test : ℕ → Bool) (set : List Bool) → ((p : ℕ) → holds set p ≡ test p) → test 0 ≡ false → (p : ℕ) → p < 32 → holds set p ≡ holds (those test) p
all_at test set at none zero h = at 0 ∙ none
all_at test set at none (suc k) h = at (suc k) ∙ sym (get_or-map-range_with_len test 1 31 k (suc k) false (omega arith) (omega arith))

-- a set with exactly those that pass the test, of which 0 is none
pub set_of_test : (test : ℕ → Bool) (set : List Bool) → length set ≡ 32 → test 0 ≡ false → ((p : ℕ) → holds set p ≡ test p) → set ≡ those test
set_of_test test set size none at = ext_get_or false set (those test) size (λ p h. all_at test set at none p (omega (arith, h, size)))

pub none_held : (p : ℕ) → holds (replicate 32 false) p ≡ false
none_held p = by_place (cases_lt p 32)
  where
    by_place : (p < 32) ⊎ (32 ≤ p) → holds (replicate 32 false) p ≡ false
    by_place (inl h) = get_or-replicate 32 p false false h
    by_place (inr h) = get_or_past (replicate 32 false) p false h

one_at : (a : Bool) (r e : Bool) → r ≡ (a || e) → e ≡ false → r ≡ (a || false)
one_at a r e h n = grind (arith, nat_tests)

two_at : (a b r s e : Bool) → s ≡ (a || e) → r ≡ (b || s) → e ≡ false → r ≡ (a || (b || false))
two_at a b r s e h k n = grind (arith, nat_tests)

pub one_holds : (views : List (List ℕ)) (first : List ℕ) (set : List Bool) → views ≡ first ∷ [] → ((p : ℕ) → holds set p ≡ (is_in first p || holds (replicate 32 false) p)) → (p : ℕ) → holds set p ≡ is_member views p
one_holds views first set e at p = rw e (one_at (is_in first p) (holds set p) _ (at p) (none_held p))

pub two_hold : (views : List (List ℕ)) (first second : List ℕ) (set all : List Bool) → views ≡ first ∷ second ∷ [] → ((p : ℕ) → holds set p ≡ (is_in first p || holds (replicate 32 false) p)) → ((p : ℕ) → holds all p ≡ (is_in second p || holds set p)) → (p : ℕ) → holds all p ≡ is_member views p
two_hold views first second set all e at more p = rw e (two_at (is_in first p) (is_in second p) (holds all p) (holds set p) _ (at p) (more p) (none_held p))

pub set_of_members : (views : List (List ℕ)) (set : List Bool) → length set ≡ 32 → holds set 0 ≡ false → ((p : ℕ) → holds set p ≡ is_member views p) → set ≡ members views
set_of_members views set size none at = set_of_test (is_member views) set size (sym (at 0) ∙ none) at

-- of flags of which none is set none is
pub no_flag : (n q : ℕ) → slice_index_or (replicate n false) q false ≡ false
no_flag zero q = refl
no_flag (suc n) zero = refl
no_flag (suc n) (suc q) = no_flag n q
