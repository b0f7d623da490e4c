-- A scan as a plan, level by level.
use Rattle.std.specs.Prelude.{ℕ, zero, suc, ◌+◌, List, [], ◌∷◌, ◌++◌, Option, None, Some, if◌then◌else◌}
use Rattle.md5.specs.Md5.{md5}
use Rattle.ens_base.specs.declared.entry.Entry.{Entry}
use Rattle.ens_base.specs.Lists.{same_bytes}
use Rattle.environment.specs.Stores.{Read}
use Rattle.tree_node.specs.declared.body.Scan.{Scan}
use Rattle.tree_node.specs.declared.position.Position.{Position}
use Rattle.synctree.specs.Forms.{Form, child, root}
use Rattle.synctree.specs.Plans.{Node, Hash, Plan, Done, Ask, ◌>>=◌}
use Rattle.tree_repair.specs.declared.slot.Slot.{Slot}
use Rattle.tree_repair.specs.Sorted.{sorted}

-- a plan for each item in order; the value is the list of their values
abbrev pub for_each : {A B : Type 0} → (A → Plan B) → List A → Plan (List B)
for_each p [] = Done []
for_each p (x ∷ xs) = p x >>= (λ y. for_each p xs >>= (λ ys. Done (y ∷ ys)))

-- what the store has under a digest, and nothing where no digest is named
abbrev pub read_named : Option (List ℕ) → Plan (Option (List ℕ))
read_named None = Done None
read_named (Some digest) = Ask (Node (Read digest)) Done

-- hashes what was read, if anything was
abbrev pub hash_read : Option (List ℕ) → Plan (Unit {0})
hash_read None = Done tt
hash_read (Some bytes) = Ask (Hash bytes) Done

abbrev pub hash_all : List (Option (List ℕ)) → Plan (Unit {0})
hash_all [] = Done tt
hash_all (r ∷ rs) = hash_read r >>= (λ _. hash_all rs)

-- reads the nodes of a level
abbrev pub read_all : List Slot → Plan (List (Option (List ℕ)))
read_all slots = for_each (λ x. read_named x.digest) slots

-- reads all nodes of a level, and then hashes all that was read
abbrev pub read_level : List Slot → Plan (List (Option (List ℕ)))
read_level slots = read_all slots >>= (λ reads. hash_all reads >>= (λ _. Done reads))

-- the node under this digest, if these bytes have the digest and encode one
abbrev pub verified : {A : Type 0} → (List ℕ → Option A) → Option (List ℕ) → Option (List ℕ) → Option A
verified node_at None read = None
verified node_at (Some digest) None = None
verified node_at (Some digest) (Some bytes) = if same_bytes (md5 bytes) digest then node_at bytes else None

abbrev pub slot : Position → Option (List ℕ) → Slot
slot at digest = record { at = at; digest = digest }

-- the children that are there, from child i on
abbrev pub child_slots : Form → Position → ℕ → List (Option (List ℕ)) → List Slot
child_slots F at i [] = []
child_slots F at i (None ∷ names) = child_slots F at (i + 1) names
child_slots F at i (Some digest ∷ names) = slot (child F at i) (Some digest) ∷ child_slots F at (i + 1) names

-- in place of an inner node its children, or the position if it does not verify
abbrev pub slots_below : Form → Position → Option (List (Option (List ℕ))) → List Slot
slots_below F at None = slot at None ∷ []
slots_below F at (Some names) = child_slots F at 0 names

-- the next level, after these reads
abbrev pub next_level : Form → List Slot → List (Option (List ℕ)) → List Slot
next_level F [] reads = []
next_level F (x ∷ xs) [] = []
next_level F (x ∷ xs) (r ∷ rs) = slots_below F x.at (verified (F.inner_at x.at) x.digest r) ++ next_level F xs rs

abbrev pub entries_of : Option (List Entry) → List Entry
entries_of None = []
entries_of (Some es) = es

abbrev pub damage_of : Position → Option (List Entry) → List Position
damage_of at None = at ∷ []
damage_of at (Some es) = []

-- the entries of the segments that verify, after these reads
abbrev pub entries_in : Form → List Slot → List (Option (List ℕ)) → List Entry
entries_in F [] reads = []
entries_in F (x ∷ xs) [] = []
entries_in F (x ∷ xs) (r ∷ rs) = entries_of (verified (F.segment_at x.at) x.digest r) ++ entries_in F xs rs

-- the positions that do not verify, after these reads
abbrev pub damage_in : Form → List Slot → List (Option (List ℕ)) → List Position
damage_in F [] reads = []
damage_in F (x ∷ xs) [] = []
damage_in F (x ∷ xs) (r ∷ rs) = damage_of x.at (verified (F.segment_at x.at) x.digest r) ++ damage_in F xs rs

-- what a scan found at the lowest level
abbrev pub found : Form → List Slot → List (Option (List ℕ)) → Scan
found F slots reads = record { entries = sorted (entries_in F slots reads); damaged = damage_in F slots reads }

-- scans the nodes of a level with h levels below it
abbrev pub scan_from : Form → ℕ → List Slot → Plan Scan
scan_from F zero slots = read_level slots >>= (λ reads. Done (found F slots reads))
scan_from F (suc h) slots = read_level slots >>= (λ reads. scan_from F h (next_level F slots reads))

-- scans a tree; without a top record the root is damaged
abbrev pub scan_plan : Form → Option (List ℕ) → Plan Scan
scan_plan F top = scan_from F F.depth (slot root top ∷ [])
