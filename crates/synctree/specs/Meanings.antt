-- What the calls of a tree mean, for every map that stands under its top record.
use Rattle.std.specs.Option.{IsSomeAnd}
use Rattle.std.specs.Prelude.{◌≡◌, ◌<◌, ◌^◌, length, ℕ, List, Option, Some, Result, Ok, Err}
use Rattle.ens_base.specs.declared.entry.Entry.{Entry}
use Rattle.synctree.specs.Fields.{IsEntry}
use Rattle.synctree.specs.Entries.{lookup, put}
use Rattle.synctree.specs.Forms.{Form, root}
use Rattle.synctree.specs.Maps.{AreApart, Stands}
use Rattle.synctree.specs.Plans.{Call, AnswerOf, Ends}
use Rattle.ens_base.specs.declared.refused.Refused.{Refused}
use Rattle.synctree.specs.declared.error.TreeError.{TreeError}
use Rattle.synctree.specs.declared.tree.Tree.{Tree}
use Rattle.synctree.specs.Seals.{root_under}
use Rattle.synctree.specs.Trees.{get_plan, insert_plan}

-- The plan of a get ended with this entry. It is the entry of the map that stands under the top
-- record, unless a string that was hashed has the digest of a different node of that map.
pub record Finds {S : Type 0} (does : S → (call : Call) → AnswerOf call → S → Type 0) (F : Form) (top : Option (List ℕ)) (key : List ℕ) (s : S) (o : Option Entry) (t : S) : Type 0 where
  pub strings : List (List ℕ)
  pub ends : Ends does (get_plan F top key) s strings (Ok o) t
  pub answers : (digest : List ℕ) (m : List Entry) → top ≡ Some digest → Stands F digest m → AreApart strings F F.depth root m → o ≡ lookup key m

-- a tree over the store as the call left it, whose root is that of the top record under the seal, or
-- the error of the call and the store
abbrev pub Opens : {N : Type 0} → (Result (Option (List ℕ)) TreeError → N → Type 0) → Option (List ℕ) → Result (Tree N) (Refused N TreeError) → Type 0
Opens did seal (Ok tree) = (top : Option (List ℕ)) × did (Ok top) tree.store × (tree.top ≡ root_under seal top)
Opens did seal (Err refused) = did (Err refused.error) refused.held

-- a fresh tree whose top record has the digest that its plan returned, or the error of the plan and
-- the store
abbrev pub Freshens : {N : Type 0} → (Result (List ℕ) TreeError → N → Type 0) → Result (Tree N) (Refused N TreeError) → Type 0
Freshens did (Ok tree) = IsSomeAnd tree.top (λ digest. did (Ok digest) tree.store)
Freshens did (Err refused) = did (Err refused.error) refused.held

-- the tree after it was opened again: its root is that of the top record under the seal, or after an
-- error the tree has its old root
abbrev pub Reopens : (Result (Option (List ℕ)) TreeError → Type 0) → Option (List ℕ) → Option (List ℕ) → Result (Unit {0}) TreeError → Option (List ℕ) → Type 0
Reopens did seal old (Ok x) new = (top : Option (List ℕ)) × did (Ok top) × (new ≡ root_under seal top)
Reopens did seal old (Err e) new = did (Err e) × (new ≡ old)

-- the tree after a change: its root has the digest that the plan returned, or after an error the
-- tree has its old root
abbrev pub Enters : (Result (List ℕ) TreeError → Type 0) → Option (List ℕ) → Result (Unit {0}) TreeError → Option (List ℕ) → Type 0
Enters did old (Ok x) new = IsSomeAnd new (λ digest. did (Ok digest))
Enters did old (Err e) new = did (Err e) × (new ≡ old)

-- The plan of an insert ended with this digest in the top record. If a map stood under the old top
-- record, the entry can be encoded, and the map with the entry has fewer than 2^32 entries, then
-- this map stands under the digest, unless a string that was hashed has the digest of a different
-- node of the old map.
pub record Inserts {S : Type 0} (does : S → (call : Call) → AnswerOf call → S → Type 0) (F : Form) (top : Option (List ℕ)) (e : Entry) (s : S) (new : List ℕ) (t : S) : Type 0 where
  pub strings : List (List ℕ)
  pub ends : Ends does (insert_plan F top e) s strings (Ok new) t
  pub stands : (digest : List ℕ) (m : List Entry) → top ≡ Some digest → Stands F digest m → IsEntry e → length (put e m) < 2 ^ 32 → AreApart strings F F.depth root m → Stands F new (put e m)
