-- Entries sorted by their segments.
use Rattle.std.proofs.Common.{◌≡◌, ℕ, ◌+◌, ◌<◌, ◌≤◌, Bool, cond, List, [], ◌∷◌, ◌++◌, length, get_or, drop, refl, ap, sym, ◌∙◌, subst, arith, append_assoc}
use Rattle.std.specs.Prelude.{◌==◌, ◌&&◌, filter, not}
use Rattle.std.specs.Ordering.{is_lt, nat_cmp}
use Rattle.std.specs.List.{All}
use Rattle.std.specs.List.Sorted.{IsStableByKey, ties}
use Rattle.std.specs.Fn.{Called, ComputesKey}
use Rattle.std.proofs.lemmas.Fn.{always_returns_same}
use Rattle.std.proofs.lemmas.List.Elements.{All-nil, All-cons}
use Rattle.std.proofs.lemmas.Bool.Decides.{nat_tests}
use denote.Param.Members.{Mut}
use denote.Ref.{Bor}
use Rattle.synctree.proofs.Slices.{drop_at, drop_all}
use Rattle.tree_repair.specs.declared.order.Placed.{Placed}
use Rattle.tree_repair.specs.Segments.{placed}
use Rattle.tree_repair.proofs.Lists.{append_nil}

pub placed_more : (segments : List ℕ) (i : ℕ) (order new all : List Placed) → i < length segments → new ≡ order ++ record { segment = get_or segments i 0; entry = i } ∷ [] → order ++ placed (drop i segments) i ≡ all → new ++ placed (drop (i + 1) segments) (i + 1) ≡ all
placed_more segments i order new all l is e =
    ap (λ (ps : List Placed). ps ++ placed (drop (i + 1) segments) (i + 1)) is
    ∙ append_assoc order (record { segment = get_or segments i 0; entry = i } ∷ []) (placed (drop (i + 1) segments) (i + 1))
    ∙ ap (λ (ss : List ℕ). order ++ placed ss i) (sym (drop_at segments i (get_or segments i 0) 0 l refl))
    ∙ e

pub placed_all : (segments : List ℕ) (i : ℕ) (order : List Placed) → length segments ≤ i → order ++ placed (drop i segments) i ≡ placed segments 0 → order ≡ placed segments 0
placed_all segments i order l e = sym (append_nil order) ∙ ap (λ (ss : List ℕ). order ++ placed ss i) (sym (drop_all segments i l)) ∙ e

within_from : (n i : ℕ) (segments : List ℕ) → i + length segments ≤ n → All (λ (p : Placed). p.entry < n) (placed segments i)
within_from n i [] l = All-nil (λ (p : Placed). p.entry < n)
within_from n i (s ∷ ss) l = All-cons (λ (p : Placed). p.entry < n) (record { segment = s; entry = i }) (placed ss (i + 1)) (omega arith) (within_from n (i + 1) ss (omega arith))

pub placed_within : (segments : List ℕ) (order : List Placed) → order ≡ placed segments 0 → All (λ (p : Placed). p.entry < length segments) order
placed_within segments order is = subst (λ (ps : List Placed). All (λ (p : Placed). p.entry < length segments) ps) (sym is) (within_from (length segments) 0 segments (omega arith))

ties_number : (i s : ℕ) → (not (is_lt (nat_cmp i s)) && not (is_lt (nat_cmp s i))) ≡ (s == i)
ties_number i s = grind (arith, nat_tests)

ties_segment : (i : ℕ) (ps : List Placed) → filter (ties {X = Placed} (λ x y. is_lt (nat_cmp x.segment y.segment)) (record { segment = i; entry = 0 })) ps ≡ filter (λ p. p.segment == i) ps
ties_segment i [] = refl
ties_segment i (p ∷ ps) =
    ap (λ (b : Bool). cond b (p ∷ filter (ties {X = Placed} (λ x y. is_lt (nat_cmp x.segment y.segment)) (record { segment = i; entry = 0 })) ps) (filter (ties {X = Placed} (λ x y. is_lt (nat_cmp x.segment y.segment)) (record { segment = i; entry = 0 })) ps)) (ties_number i p.segment)
    ∙ ap (λ (qs : List Placed). cond (p.segment == i) (p ∷ qs) qs) (ties_segment i ps)

-- a stable sort by segment keeps the entries of each segment in their order
pub stable_parts : {F : Type 0} {g : Mut F (Bor Placed × Unit {0}) ℕ} {f : F} (all xs ys : List Placed) → xs ≡ all → ((key : Placed → ℕ) → ComputesKey g key f → IsStableByKey key nat_cmp xs ys)
    → ((a : Bor Placed × Unit {0}) (r : ℕ) (f' : F) → Called g f a r f' → (r ≡ a.0.now.segment) × (f' ≡ f)) → (i : ℕ) → filter (λ p. p.segment == i) ys ≡ filter (λ p. p.segment == i) all
stable_parts {g = g} {f = f} all xs ys is stable h i =
    sym (ties_segment i ys)
    ∙ stable (λ p. p.segment) (always_returns_same g (λ a r. r ≡ a.0.now.segment) f h) (record { segment = i; entry = 0 })
    ∙ ties_segment i xs ∙ ap (λ (ps : List Placed). filter (λ p. p.segment == i) ps) is
