-- The laws of a disk that records its calls.
use Rattle.std.specs.Prelude.{ℕ, ◌≤◌, List, length}
use Rattle.std.proofs.Common.{sym, subst, arith}
use Rattle.std.proofs.lemmas.List.{take_all}
use Rattle.slot_disk.specs.Steps.{Deed, Leaves, LeftSince}

-- what a crash may leave now counts as left since each earlier moment
pub left_now : (first : List ℕ) (all : List Deed) (t : ℕ) (c : List ℕ) → t ≤ length all → Leaves first all c → LeftSince first all t c
left_now first all t c le now = (length all, le, omega arith, subst (λ (l : List Deed). Leaves first l c) (sym (take_all (length all) all (omega arith))) now)

-- no moment but the present one lies since the present one
pub now_left : (first : List ℕ) (all : List Deed) (c : List ℕ) → LeftSince first all (length all) c → Leaves first all c
now_left first all c left = subst (λ (l : List Deed). Leaves first l c) (take_all left.0 all left.1) left.3
