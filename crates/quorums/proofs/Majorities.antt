-- Majorities and quorums, for sets of peers given as tests.
use Rattle.std.proofs.Common.{◌≡◌, ℕ, ◌+◌, ◌<◌, ◌≤◌, Bool, true, false, suc, ◌&&◌, cond, List, [], ◌∷◌, length, count_by, arith, refl, sym, ◌∙◌, inl, inr}
use Rattle.std.specs.Prelude.{◌↔◌}
use Rattle.std.proofs.lemmas.Bool.{true≢false}
use Rattle.std.proofs.lemmas.Bool.Decides.{nat_tests}
use Rattle.std.proofs.lemmas.List.Sums.{sum_by-cons}
use Rattle.ens_base.specs.Lists.{◌∈◌}
use Rattle.quorums.specs.Quorums.{is_majority, is_quorum, Meet, SharesView, QuorumsMeet, HasOutside, MissesEveryQuorum}

pub count-cons : (s : ℕ → Bool) (x : ℕ) (v : List ℕ) → count_by s (x ∷ v) ≡ cond (s x) 1 0 + count_by s v
count-cons s x v = sum_by-cons (λ y. cond (s y) 1 0) x v

-- ## A majority with more peers is a majority

one_more : (s t : ℕ → Bool) (x : ℕ) → (s x ≡ true → t x ≡ true) → (m n : ℕ) → m ≤ n → cond (s x) 1 0 + m ≤ cond (t x) 1 0 + n
one_more s t x f m n h = grind arith

-- if one set has every member of the view that another has, it counts at least as many
pub count_more : (s t : ℕ → Bool) (v : List ℕ) → ((x : ℕ) → x ∈ v → s x ≡ true → t x ≡ true) → count_by s v ≤ count_by t v
count_more s t [] f = omega arith
count_more s t (x ∷ v) f = rw (count-cons s x v, count-cons t x v) (one_more s t x (f x (inl refl)) (count_by s v) (count_by t v) (count_more s t v (λ y h. f y (inr h))))

pub majority_more_on : (s t : ℕ → Bool) (v : List ℕ) → ((x : ℕ) → x ∈ v → s x ≡ true → t x ≡ true) → is_majority s v ≡ true → is_majority t v ≡ true
majority_more_on s t v f m = grind (arith, nat_tests, count_more s t v f)

pub majority_more : (s t : ℕ → Bool) → ((x : ℕ) → s x ≡ true → t x ≡ true) → (v : List ℕ) → is_majority s v ≡ true → is_majority t v ≡ true
majority_more s t f v = majority_more_on s t v (λ x h. f x)

pub quorum_more : (s t : ℕ → Bool) → ((x : ℕ) → s x ≡ true → t x ≡ true) → (vs : List (List ℕ)) → is_quorum s vs ≡ true → is_quorum t vs ≡ true
quorum_more s t f [] q = refl
quorum_more s t f (v ∷ vs) q = grind (arith, majority_more s t f v, quorum_more s t f vs)

-- a set that is not a quorum is not one with fewer peers
pub quorum_less : (s t : ℕ → Bool) (vs : List (List ℕ)) → ((q : ℕ) → t q ≡ true → s q ≡ true) → is_quorum s vs ≡ false → is_quorum t vs ≡ false
quorum_less s t vs f n = by_cases (is_quorum t vs) refl
  where
    by_cases : (b : Bool) → is_quorum t vs ≡ b → is_quorum t vs ≡ false
    by_cases false p = p
    by_cases true p = absurd (true≢false (sym (quorum_more t s f vs p) ∙ n))

-- ## Two majorities of one view share a member

meet_here : (s t : ℕ → Bool) (x : ℕ) (v : List ℕ) (a b : Bool) → s x ≡ a → t x ≡ b → suc (length v) < (cond a 1 0 + count_by s v) + (cond b 1 0 + count_by t v) → (length v < count_by s v + count_by t v → Meet s t v) → Meet s t (x ∷ v)
meet_here s t x v true true p q h rest = record { peer = x; member = inl refl; in_left = p; in_right = q }
meet_here s t x v true false p q h rest = let m : Meet s t v = rest (omega arith) in record { peer = m.peer; member = inr m.member; in_left = m.in_left; in_right = m.in_right }
meet_here s t x v false true p q h rest = let m : Meet s t v = rest (omega arith) in record { peer = m.peer; member = inr m.member; in_left = m.in_left; in_right = m.in_right }
meet_here s t x v false false p q h rest = let m : Meet s t v = rest (omega arith) in record { peer = m.peer; member = inr m.member; in_left = m.in_left; in_right = m.in_right }

-- if two counts add up to more than the length of the list, they share a member
pub meet_of_counts : (s t : ℕ → Bool) (v : List ℕ) → length v < count_by s v + count_by t v → Meet s t v
meet_of_counts s t [] h = absurd (omega arith)
meet_of_counts s t (x ∷ v) h = meet_here s t x v (s x) (t x) refl refl (rw (count-cons s x v, count-cons t x v) at h) (meet_of_counts s t v)

pub meet_of_majorities : (s t : ℕ → Bool) (v : List ℕ) → is_majority s v ≡ true → is_majority t v ≡ true → Meet s t v
meet_of_majorities s t v m n = meet_of_counts s t v (grind (arith, nat_tests))

pub majority_of_quorum : (s : ℕ → Bool) (vs : List (List ℕ)) (v : List ℕ) → v ∈ vs → is_quorum s vs ≡ true → is_majority s v ≡ true
majority_of_quorum s [] v h q = absurd h
majority_of_quorum s (u ∷ vs) v (inl e) q = grind arith
majority_of_quorum s (u ∷ vs) v (inr h) q = majority_of_quorum s vs v h (grind arith)

-- quorums of two lists that share a view share a peer
pub meet_of_quorums : (s t : ℕ → Bool) (vs us : List (List ℕ)) → SharesView vs us → is_quorum s vs ≡ true → is_quorum t us ≡ true → QuorumsMeet s t vs us
meet_of_quorums s t vs us share p q = record {
  view = share.view;
  in_views = share.in_left;
  in_others = share.in_right;
  meet = meet_of_majorities s t share.view (majority_of_quorum s vs share.view share.in_left p) (majority_of_quorum t us share.view share.in_right q);
}

-- ## A quorum has a peer outside any set that is not a quorum

record OutsideOf (s t : ℕ → Bool) (v : List ℕ) : Type 0 where
  pub peer : ℕ
  pub member : peer ∈ v
  pub inside : s peer ≡ true
  pub outside : t peer ≡ false

later : (s t : ℕ → Bool) (x : ℕ) (v : List ℕ) → OutsideOf s t v → OutsideOf s t (x ∷ v)
later s t x v o = record { peer = o.peer; member = inr o.member; inside = o.inside; outside = o.outside }

outside_here : (s t : ℕ → Bool) (x : ℕ) (v : List ℕ) (a b : Bool) → s x ≡ a → t x ≡ b → cond b 1 0 + count_by t v < cond a 1 0 + count_by s v → (count_by t v < count_by s v → OutsideOf s t v) → OutsideOf s t (x ∷ v)
outside_here s t x v true true p q h rest = later s t x v (rest (omega arith))
outside_here s t x v true false p q h rest = record { peer = x; member = inl refl; inside = p; outside = q }
outside_here s t x v false true p q h rest = later s t x v (rest (omega arith))
outside_here s t x v false false p q h rest = later s t x v (rest (omega arith))

outside_of_counts : (s t : ℕ → Bool) (v : List ℕ) → count_by t v < count_by s v → OutsideOf s t v
outside_of_counts s t [] h = absurd (omega arith)
outside_of_counts s t (x ∷ v) h = outside_here s t x v (s x) (t x) refl refl (rw (count-cons t x v, count-cons s x v) at h) (outside_of_counts s t v)

outside_first : (s t : ℕ → Bool) (v : List ℕ) (vs : List (List ℕ)) (a b : Bool) → is_majority t v ≡ a → is_quorum t vs ≡ b → (is_majority s v && is_quorum s vs) ≡ true → (a && b) ≡ false → (is_quorum s vs ≡ true → is_quorum t vs ≡ false → HasOutside s t vs) → HasOutside s t (v ∷ vs)
outside_first s t v vs false b p e q n rest = let o = outside_of_counts s t v (fewer p q) in record { peer = o.peer; view = v; listed = inl refl; member = o.member; in_first = o.inside; outside = o.outside }
  where
    fewer : is_majority t v ≡ false → (is_majority s v && is_quorum s vs) ≡ true → count_by t v < count_by s v
    fewer p q = grind (arith, nat_tests)
outside_first s t v vs true b p e q n rest = let o : HasOutside s t vs = rest (grind arith) (grind arith) in record { peer = o.peer; view = o.view; listed = inr o.listed; member = o.member; in_first = o.in_first; outside = o.outside }

pub outside_of_quorum : (s t : ℕ → Bool) (vs : List (List ℕ)) → is_quorum s vs ≡ true → is_quorum t vs ≡ false → HasOutside s t vs
outside_of_quorum s t [] p q = absurd (cc)
outside_of_quorum s t (v ∷ vs) p q = outside_first s t v vs (is_majority t v) (is_quorum t vs) refl refl p q (outside_of_quorum s t vs)

missed_is_none : (s : ℕ → Bool) (vs : List (List ℕ)) → MissesEveryQuorum s vs → is_quorum s vs ≡ false
missed_is_none s vs f = by_cases (is_quorum s vs) refl
  where
    by_cases : (b : Bool) → is_quorum s vs ≡ b → is_quorum s vs ≡ false
    by_cases false p = p
    by_cases true p = let o = f s p in absurd (true≢false (sym o.in_first ∙ o.outside))

pub missed_exactly : (s : ℕ → Bool) (vs : List (List ℕ)) → ((is_quorum s vs ≡ false) ↔ MissesEveryQuorum s vs)
missed_exactly s vs = (λ n q p. outside_of_quorum q s vs p n, missed_is_none s vs)

-- ## All peers are a quorum

all_count : (s : ℕ → Bool) → ((q : ℕ) → s q ≡ true) → (v : List ℕ) → count_by s v ≡ length v
all_count s f [] = refl
all_count s f (x ∷ v) = rw (count-cons s x v, f x, all_count s f v) (omega arith)

pub quorum_of_all : (s : ℕ → Bool) → ((q : ℕ) → s q ≡ true) → (v : List ℕ) → 0 < length v → is_quorum s (v ∷ []) ≡ true
quorum_of_all s f v h = grind (arith, nat_tests, all_count s f v)

-- ## Lists that share a view

pub shares_first : (v : List ℕ) (vs us : List (List ℕ)) → SharesView (v ∷ vs) (v ∷ us)
shares_first v vs us = record { view = v; in_left = inl refl; in_right = inl refl }

pub shares_itself : (vs : List (List ℕ)) → 0 < length vs → SharesView vs vs
shares_itself [] h = absurd (omega arith)
shares_itself (v ∷ vs) h = shares_first v vs vs

pub shares_back : (vs us : List (List ℕ)) → SharesView vs us → SharesView us vs
shares_back vs us s = record { view = s.view; in_left = s.in_right; in_right = s.in_left }
