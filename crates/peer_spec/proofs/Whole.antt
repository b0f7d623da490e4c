-- The plans of the tree that report no damage: a scan, and a rebuild.
use Rattle.std.proofs.Common.{ℕ, zero, suc, List, [], ◌∷◌, Option, None, Some, Err, arith}
use Rattle.ens_base.specs.declared.entry.Entry.{Entry}
use Rattle.synctree.specs.Installs.{write_all}
use Rattle.synctree.specs.Plans.{Plan, Done, Broken, Ask, ◌>>=◌, Ends, Call, AnswerOf}
use Rattle.synctree.specs.Walks.{set_top}
use Rattle.synctree.specs.declared.stored_node.StoredNode.{StoredNode}
use Rattle.synctree.specs.Forms.{Form, root}
use Rattle.tree_node.specs.declared.position.Position.{Position}
use Rattle.tree_repair.specs.Builds.{build_nodes, build_of}
use Rattle.tree_repair.specs.Rebuilds.{hash_all as hash_strings, rebuild_plan}
use Rattle.tree_repair.specs.Levels.{for_each, read_named, hash_read, hash_all, read_all, read_level, next_level, scan_from, scan_plan, slot}
use Rattle.tree_repair.specs.declared.slot.Slot.{Slot}

-- the plan reports no damage
abbrev pub IsWhole : {A : Type 0} → Plan A → Type 0
IsWhole (Done x) = Unit {0}
IsWhole (Broken at) = ⊥
IsWhole (Ask call next) = (a : AnswerOf call) → IsWhole (next a)

then_whole : {A B : Type 0} (p : Plan A) (f : A → Plan B) → IsWhole p → ((x : A) → IsWhole (f x)) → IsWhole (p >>= f)
then_whole (Done x) f whole after = after x
then_whole (Broken at) f whole after = whole
then_whole (Ask call next) f whole after = λ a. then_whole (next a) f (whole a) after

-- so it ends at no position
pub never_broken : {A S : Type 0} (does : S → (call : Call) → AnswerOf call → S → Type 0) (p : Plan A) (s : S) (strings : List (List ℕ)) (at : Position) (t : S) → IsWhole p → Ends does p s strings (Err at) t → ⊥
never_broken does (Done x) s strings at t whole ends = let none : ⊥ = grind (arith, ends.1) in none
never_broken does (Broken here) s strings at t whole ends = whole
never_broken does (Ask call next) s strings at t whole ends = never_broken does (next ends.0) ends.1 ends.2 at t (whole ends.0) ends.5

each_whole : {A B : Type 0} (p : A → Plan B) (xs : List A) → ((x : A) → IsWhole (p x)) → IsWhole (for_each p xs)
each_whole p [] whole = tt
each_whole p (x ∷ xs) whole = then_whole (p x) _ (whole x) (λ y. then_whole (for_each p xs) _ (each_whole p xs whole) (λ ys. tt))

read_whole : (named : Option (List ℕ)) → IsWhole (read_named named)
read_whole None = tt
read_whole (Some digest) = λ a. tt

hashed_whole : (r : Option (List ℕ)) → IsWhole (hash_read r)
hashed_whole None = tt
hashed_whole (Some bytes) = λ a. tt

hash_all_whole : (rs : List (Option (List ℕ))) → IsWhole (hash_all rs)
hash_all_whole [] = tt
hash_all_whole (r ∷ rs) = then_whole (hash_read r) _ (hashed_whole r) (λ u. hash_all_whole rs)

level_whole : (slots : List Slot) → IsWhole (read_level slots)
level_whole slots = then_whole (read_all slots) _ (each_whole (λ (x : Slot). read_named x.digest) slots (λ x. read_whole x.digest)) (λ reads. then_whole (hash_all reads) _ (hash_all_whole reads) (λ u. tt))

scan_from_whole : (F : Form) (h : ℕ) (slots : List Slot) → IsWhole (scan_from F h slots)
scan_from_whole F zero slots = then_whole (read_level slots) _ (level_whole slots) (λ reads. tt)
scan_from_whole F (suc h) slots = then_whole (read_level slots) _ (level_whole slots) (λ reads. scan_from_whole F h (next_level F slots reads))

pub scan_whole : (F : Form) (top : Option (List ℕ)) → IsWhole (scan_plan F top)
scan_whole F top = scan_from_whole F F.depth (slot root top ∷ [])

strings_whole : (xs : List (List ℕ)) → IsWhole (hash_strings xs)
strings_whole [] = tt
strings_whole (x ∷ xs) = λ u. strings_whole xs

write_whole : (nodes : List StoredNode) → IsWhole (write_all nodes)
write_whole [] = tt
write_whole (n ∷ ns) = λ u. write_whole ns

top_whole : (digest : List ℕ) → IsWhole (set_top digest)
top_whole digest = λ u. tt

pub rebuild_whole : (F : Form) (m : List Entry) → IsWhole (rebuild_plan F m)
rebuild_whole F m =
    then_whole (hash_strings (build_nodes F m)) _ (strings_whole (build_nodes F m))
    (λ u. then_whole (write_all (build_of F m).nodes) _ (write_whole (build_of F m).nodes) (λ v. top_whole (build_of F m).top))
