-- A scan reports no position as broken: it goes on past damage.
use Rattle.std.proofs.Common.{ℕ, zero, suc, List, [], ◌∷◌, Option, None, Some, Err}
use Rattle.tree_node.specs.declared.position.Position.{Position}
use Rattle.synctree.specs.Forms.{Form, root}
use Rattle.synctree.specs.Plans.{Call, AnswerOf, Plan, Done, Broken, Ask, ◌>>=◌, Ends}
use Rattle.tree_repair.specs.declared.slot.Slot.{Slot}
use Rattle.tree_repair.specs.Levels.{read_named, read_all, hash_all, read_level, slot, next_level, scan_from, scan_plan}

-- whatever the answers, the plan breaks off at no position
abbrev pub IsUnbroken : {A : Type 0} → Plan A → Type 0
IsUnbroken (Done x) = Unit {0}
IsUnbroken (Broken at) = ⊥
IsUnbroken (Ask call next) = (answer : AnswerOf call) → IsUnbroken (next answer)

pub then_unbroken : {A B : Type 0} (p : Plan A) (f : A → Plan B) → IsUnbroken p → ((x : A) → IsUnbroken (f x)) → IsUnbroken (p >>= f)
then_unbroken (Done x) f here after = after x
then_unbroken (Broken at) f here after = here
then_unbroken (Ask call next) f here after = λ answer. then_unbroken (next answer) f (here answer) after

read_unbroken : (xs : List Slot) → IsUnbroken (read_all xs)
read_unbroken [] = tt
read_unbroken (x ∷ xs) = then_unbroken (read_named x.digest) (λ y. read_all xs >>= (λ ys. Done (y ∷ ys))) (by x.digest) (λ y. then_unbroken (read_all xs) (λ ys. Done (y ∷ ys)) (read_unbroken xs) (λ ys. tt))
  where
    by : (o : Option (List ℕ)) → IsUnbroken (read_named o)
    by None = tt
    by (Some digest) = λ answer. tt

hash_unbroken : (rs : List (Option (List ℕ))) → IsUnbroken (hash_all rs)
hash_unbroken [] = tt
hash_unbroken (None ∷ rs) = hash_unbroken rs
hash_unbroken (Some bytes ∷ rs) = λ answer. hash_unbroken rs

level_unbroken : (xs : List Slot) → IsUnbroken (read_level xs)
level_unbroken xs = then_unbroken (read_all xs) (λ reads. hash_all reads >>= (λ _. Done reads)) (read_unbroken xs) (λ reads. then_unbroken (hash_all reads) (λ _. Done reads) (hash_unbroken reads) (λ _. tt))

pub from_unbroken : (F : Form) (h : ℕ) (xs : List Slot) → IsUnbroken (scan_from F h xs)
from_unbroken F zero xs = then_unbroken (read_level xs) _ (level_unbroken xs) (λ reads. tt)
from_unbroken F (suc h) xs = then_unbroken (read_level xs) _ (level_unbroken xs) (λ reads. from_unbroken F h (next_level F xs reads))

pub ends_well : {A S : Type 0} (does : S → (call : Call) → AnswerOf call → S → Type 0) (p : Plan A) (s t : S) (strings : List (List ℕ)) (at : Position) → IsUnbroken p → Ends does p s strings (Err at) t → ⊥
ends_well does (Done x) s t strings at here (none, is, same) = absurd cc
ends_well does (Broken place) s t strings at here ends = here
ends_well does (Ask call next) s t strings at here (answer, u, rest, did, is, more) = ends_well does (next answer) u t rest at (here answer) more

pub scan_unbroken : {S : Type 0} (does : S → (call : Call) → AnswerOf call → S → Type 0) (F : Form) (top : Option (List ℕ)) (s t : S) (strings : List (List ℕ)) (at : Position) → Ends does (scan_plan F top) s strings (Err at) t → ⊥
scan_unbroken does F top s t strings at = ends_well does (scan_plan F top) s t strings at (from_unbroken F F.depth (slot root top ∷ []))
