-- A scan names only positions of the tree as damaged, whatever the nodes hold.
use Rattle.std.specs.List.{AllByRecursion}
use Rattle.std.proofs.Common.{◌≡◌, ℕ, zero, suc, List, [], ◌∷◌, ◌++◌, Option, None, Some, Ok, refl, subst, arith}
use Rattle.std.proofs.lemmas.List.Elements.{All-head, All-tail}
use Rattle.ens_base.specs.declared.entry.Entry.{Entry}
use Rattle.environment.specs.declared.memory.failing_call.Leaves.{Leaves}
use Rattle.world_spec.specs.Answers.{answered, whole}
use Rattle.world_spec.specs.Held.{Held, unless_failing}
use Rattle.world_spec.specs.Walks.{End, Came, Broke, Failed, walk, nodes_failed}
use Rattle.step_plans.specs.Calls.{ScanTree}
use Rattle.tree_node.specs.TreeVersions.{levels}
use Rattle.tree_node.specs.declared.version.TreeVersion.{TreeVersion}
use Rattle.synctree.proofs.Places.{depth_is}
use Rattle.synctree.specs.Plans.{Node, Hash, AnswerOf, Plan, Done, Broken, Ask, ◌>>=◌}
use Rattle.synctree.specs.Forms.{root}
use Rattle.synctree.specs.Sixteen.{form_of}
use Rattle.tree_node.specs.Positions.{IsPosition}
use Rattle.tree_node.specs.declared.body.Scan.{Scan}
use Rattle.tree_node.specs.declared.position.Position.{Position}
use Rattle.tree_repair.proofs.Stepping.{level_are, first_slots}
use Rattle.tree_repair.specs.Levels.{read_level, verified, slot, next_level, damage_of, damage_in, found, scan_from, scan_plan}
use Rattle.tree_repair.specs.Slots.{IsSlot, AreSlots}
use Rattle.tree_repair.specs.declared.slot.Slot.{Slot}
use Rattle.world_stores.specs.Nodes.{Nodes, refusal, answer, after}
use Rattle.peer_refinement.specs.Trees.{form_in}

-- ## What each value of a plan has

-- each value that the plan may tell has this
abbrev Gives : {A : Type 0} → (A → Type 0) → Plan A → Type 0
Gives P (Done x) = P x
Gives P (Broken at) = Unit {0}
Gives P (Ask call next) = (a : AnswerOf call) → Gives P (next a)

-- a plan after one
gives_then : {A B : Type 0} (P : B → Type 0) (p : Plan A) (f : A → Plan B) → ((x : A) → Gives P (f x)) → Gives P (p >>= f)
gives_then P (Done x) f gives = gives x
gives_then P (Broken at) f gives = tt
gives_then P (Ask call next) f gives = λ a. gives_then P (next a) f gives

-- the value of a walk
walk_gives : {A : Type 0} (P : A → Type 0) (p : Plan A) (s : Nodes) (hashed : List (List ℕ)) (x : A) → Gives P p → (walk p s hashed).end ≡ Came x → P x
unfolding walk
walk_gives P (Done y) s hashed x gives is = let same : y ≡ x = grind (arith, is) in subst (λ z. P z) same gives
walk_gives P (Broken at) s hashed x gives is = let none : ⊥ = grind (arith, is) in absurd none
walk_gives P (Ask (Hash bytes) next) s hashed x gives is = walk_gives P (next tt) s (hashed ++ bytes ∷ []) x (gives tt) is
walk_gives P (Ask (Node call) next) s hashed x gives is = by_failure (refusal s call) is (λ went. walk_gives P (next (answer s call)) (after s call) hashed x (gives (answer s call)) went)
  where
    by_failure : (o : Option Leaves) → (unless_failing o (walk (next (answer s call)) (after s call) hashed) (λ leaves. record { end = Failed; nodes = nodes_failed s call leaves; hashed = hashed })).end ≡ Came x
        → ((walk (next (answer s call)) (after s call) hashed).end ≡ Came x → P x) → P x
    by_failure None is goes = goes is
    by_failure (Some leaves) is goes = let none : ⊥ = grind (arith, is) in absurd none

-- ## The levels of a scan

all_append : (v : TreeVersion) (a b : List Position) → AllByRecursion (IsPosition v) a → AllByRecursion (IsPosition v) b → AllByRecursion (IsPosition v) (a ++ b)
all_append v [] b first second = second
all_append v (x ∷ a) b first second = (first.0, all_append v a b first.1 second)

damage_inside : (v : TreeVersion) (at : Position) (o : Option (List Entry)) → IsPosition v at → AllByRecursion (IsPosition v) (damage_of at o)
damage_inside v at None is = (is, tt)
damage_inside v at (Some entries) is = tt

-- what is damaged at the lowest level
lowest_inside : (v : TreeVersion) (slots : List Slot) (reads : List (Option (List ℕ))) → AreSlots v zero slots → AllByRecursion (IsPosition v) (damage_in (form_of v) slots reads)
lowest_inside v [] reads are = tt
lowest_inside v (x ∷ slots) [] are = tt
lowest_inside v (x ∷ slots) (read ∷ reads) are = all_append v (damage_of x.at (verified ((form_of v).segment_at x.at) x.digest read)) (damage_in (form_of v) slots reads)
    (damage_inside v x.at (verified ((form_of v).segment_at x.at) x.digest read) (All-head (IsSlot v zero) x slots are).position) (lowest_inside v slots reads (All-tail (IsSlot v zero) x slots are))

-- the damage that a scan names is at positions of the tree
abbrev IsInside : TreeVersion → Scan → Type 0
IsInside v scan = AllByRecursion (IsPosition v) scan.damaged

from_inside : (v : TreeVersion) (h : ℕ) (slots : List Slot) → AreSlots v h slots → Gives (IsInside v) (scan_from (form_of v) h slots)
from_inside v zero slots are = gives_then (IsInside v) (read_level slots) (λ reads. Done (found (form_of v) slots reads)) (λ reads. lowest_inside v slots reads are)
from_inside v (suc h) slots are = gives_then (IsInside v) (read_level slots) (λ reads. scan_from (form_of v) h (next_level (form_of v) slots reads)) (λ reads. from_inside v h (next_level (form_of v) slots reads) (level_are v h slots reads are))

-- ## The scan of a tree

scan_inside : (v : TreeVersion) (top : Option (List ℕ)) → Gives (IsInside v) (scan_plan (form_of v) top)
scan_inside v top = rw (depth_is v) (from_inside v (levels v) (slot root top ∷ []) (first_slots v (levels v) top refl))

whole_came : (end : End Scan) (scan : Scan) → whole end ≡ Ok scan → end ≡ Came scan
whole_came (Came found) scan is = cc
whole_came (Broke at) scan is = absurd cc
whole_came Failed scan is = absurd cc

pub scan_positions : (h : Held) (scan : Scan) → (answered ScanTree h).result ≡ Ok scan → AllByRecursion (IsPosition h.stores.tree.version) scan.damaged
scan_positions h scan is = walk_gives (IsInside h.stores.tree.version) (scan_plan (form_in h) h.stores.tree.top) h.stores.tree.store h.hashed scan (scan_inside h.stores.tree.version h.stores.tree.top)
    (whole_came (walk (scan_plan (form_in h) h.stores.tree.top) h.stores.tree.store h.hashed).end scan is)
