-- The tests of membership decide membership.
use Rattle.std.specs.Prelude.{slice_index_or, Contains, ◌||◌, ◌&&◌, ◌↔◌}
use Rattle.ens_base.specs.Lists.{is_in}
use Rattle.ens_base.proofs.Tests.{same_test}
use Rattle.std.proofs.Common.{◌≡◌, ℕ, zero, suc, ◌<◌, ◌⊎◌, Bool, true, ◌==◌, List, [], ◌∷◌, length, arith, refl, inl, inr}
use Rattle.std.proofs.lemmas.Bool.{false≢true, or_cases, or_left, or_right, and_parts}
use Rattle.std.proofs.lemmas.Bool.Decides.{nat_tests}
use Rattle.std.proofs.lemmas.List.Elements.{All-cons, All-tail}
use Rattle.quorums.specs.Quorums.{is_member, has_all, has_every, IsMember, HasAll, HasEvery}

found_at : (view : List ℕ) (peer k : ℕ) → k < length view → slice_index_or view k peer ≡ peer → is_in view peer ≡ true
found_at [] peer k h e = absurd (omega (arith, h))
found_at (member ∷ view) peer zero h e = here member peer (is_in view peer) e
  where
    here : (m p : ℕ) (b : Bool) → m ≡ p → ((p == m) || b) ≡ true
    here m p b e = grind (arith, nat_tests)
found_at (member ∷ view) peer (suc k) h e = later (peer == member) (is_in view peer) (found_at view peer k (omega (arith, h)) e)
  where
    later : (a b : Bool) → b ≡ true → (a || b) ≡ true
    later a b h = grind (arith, nat_tests)

pub in_of_contains : (view : List ℕ) (peer : ℕ) → Contains view peer → is_in view peer ≡ true
in_of_contains view peer c = found_at view peer c.0 c.1 c.2

either : (p m : ℕ) (b : Bool) → ((p == m) || b) ≡ true → (m ≡ p) ⊎ (b ≡ true)
either p m b h = grind (arith, nat_tests)

pub contains_of_in : (view : List ℕ) (peer : ℕ) → is_in view peer ≡ true → Contains view peer
contains_of_in [] peer h = absurd (false≢true h)
contains_of_in (member ∷ view) peer h = by_head (either peer member (is_in view peer) h) (λ (t : is_in view peer ≡ true). contains_of_in view peer t)
  where
    by_head : (member ≡ peer) ⊎ (is_in view peer ≡ true) → (is_in view peer ≡ true → Contains view peer) → Contains (member ∷ view) peer
    by_head (inl e) rest = (zero, omega arith, e)
    by_head (inr t) rest = (suc (rest t).0, omega (arith, (rest t).1), (rest t).2)

pub in_is : (view : List ℕ) (peer : ℕ) (b : Bool) → ((b ≡ true) ↔ Contains view peer) → b ≡ is_in view peer
in_is view peer b h = same_test b (is_in view peer) (λ t. in_of_contains view peer (h.0 t)) (λ t. h.1 (contains_of_in view peer t))

pub member_of_test : (views : List (List ℕ)) (peer : ℕ) → is_member views peer ≡ true → IsMember views peer
member_of_test [] peer h = false≢true h
member_of_test (view ∷ views) peer h = by_view (or_cases (is_in view peer) (is_member views peer) h) (λ (t : is_member views peer ≡ true). member_of_test views peer t)
  where
    by_view : (is_in view peer ≡ true) ⊎ (is_member views peer ≡ true) → (is_member views peer ≡ true → IsMember views peer) → IsMember (view ∷ views) peer
    by_view (inl t) rest = inl (contains_of_in view peer t)
    by_view (inr t) rest = inr (rest t)

pub test_of_member : (views : List (List ℕ)) (peer : ℕ) → IsMember views peer → is_member views peer ≡ true
test_of_member [] peer h = absurd h
test_of_member (view ∷ views) peer (inl c) = or_left (is_in view peer) (is_member views peer) (in_of_contains view peer c)
test_of_member (view ∷ views) peer (inr m) = or_right (is_in view peer) (is_member views peer) (test_of_member views peer m)

pub member_decides : (views : List (List ℕ)) (peer : ℕ) → (is_member views peer ≡ true) ↔ IsMember views peer
member_decides views peer = (member_of_test views peer, test_of_member views peer)

all_of_test : (peers : ℕ → Bool) (view : List ℕ) → has_all peers view ≡ true → HasAll peers view
all_of_test peers [] h = λ k d at. absurd (omega (arith, at))
all_of_test peers (member ∷ view) h = let both : (peers member ≡ true) × (has_all peers view ≡ true) = and_parts (peers member) (has_all peers view) h in
    All-cons (λ m. peers m ≡ true) member view both.0 (all_of_test peers view both.1)

test_of_all : (peers : ℕ → Bool) (view : List ℕ) → HasAll peers view → has_all peers view ≡ true
test_of_all peers [] h = refl
test_of_all peers (member ∷ view) h = both (peers member) (has_all peers view) (h 0 member (omega arith)) (test_of_all peers view (All-tail (λ m. peers m ≡ true) member view h))
  where
    both : (a b : Bool) → a ≡ true → b ≡ true → (a && b) ≡ true
    both a b p q = grind (arith, nat_tests)

pub all_decides : (peers : ℕ → Bool) (view : List ℕ) → (has_all peers view ≡ true) ↔ HasAll peers view
all_decides peers view = (all_of_test peers view, test_of_all peers view)

every_of_test : (peers : ℕ → Bool) (views : List (List ℕ)) → has_every peers views ≡ true → HasEvery peers views
every_of_test peers [] h = tt
every_of_test peers (view ∷ views) h = let both : (has_all peers view ≡ true) × (has_every peers views ≡ true) = and_parts (has_all peers view) (has_every peers views) h in
    (all_of_test peers view both.0, every_of_test peers views both.1)

test_of_every : (peers : ℕ → Bool) (views : List (List ℕ)) → HasEvery peers views → has_every peers views ≡ true
test_of_every peers [] h = refl
test_of_every peers (view ∷ views) h = both (has_all peers view) (has_every peers views) (test_of_all peers view h.0) (test_of_every peers views h.1)
  where
    both : (a b : Bool) → a ≡ true → b ≡ true → (a && b) ≡ true
    both a b p q = grind (arith, nat_tests)

pub every_decides : (peers : ℕ → Bool) (views : List (List ℕ)) → (has_every peers views ≡ true) ↔ HasEvery peers views
every_decides peers views = (every_of_test peers views, test_of_every peers views)

-- a test that decides whether all are in the set is that test
pub all_is : (peers : ℕ → Bool) (view : List ℕ) (b : Bool) → ((b ≡ true) ↔ HasAll peers view) → b ≡ has_all peers view
all_is peers view b h = same_test b (has_all peers view) (λ t. test_of_all peers view (h.0 t)) (λ t. h.1 (all_of_test peers view t))
