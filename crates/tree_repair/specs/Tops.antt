-- What a change of a tree leaves in the top record of its store.
use Rattle.std.specs.Prelude.{◌≡◌, ◌⊎◌, ◌<◌, ◌^◌, ℕ, List, Option, Some, Result, Ok, Err, length}
use Rattle.ens_base.specs.declared.entry.Entry.{Entry}
use Rattle.environment.specs.Stores.{SetsTop}
use Rattle.environment.specs.Told.{StaysTold}
use Rattle.synctree.specs.Entries.{put}
use Rattle.synctree.specs.Forms.{Form, root}
use Rattle.synctree.specs.Maps.{AreApart, Stands}
use Rattle.synctree.specs.Plans.{Call, Hash, AnswerOf, Plan, Ask, Ends}
use Rattle.synctree.specs.Trees.{insert_plan}
use Rattle.synctree.specs.Walks.{enter, from_top}
use Rattle.synctree.specs.declared.error.TreeError.{TreeError}
use Rattle.synctree.specs.declared.error.TreeError.TheVariants.{Damaged, Failed, Clash, BookFull, Memory}

-- the top record, where it was known, now holds this digest
abbrev pub HoldsTop : Option (Option (List ℕ)) → Option (Option (List ℕ)) → List ℕ → Type 0
HoldsTop old new digest = SetsTop {T = Unit {0}} old new digest (Ok tt)

-- the top record, where it was known, is as it was, or holds a digest that satisfies IsNew
abbrev pub OldOrNew : (List ℕ → Type 0) → Option (Option (List ℕ)) → Option (Option (List ℕ)) → Type 0
OldOrNew IsNew old new = StaysTold old new ⊎ ((digest : List ℕ) × IsNew digest × HoldsTop old new digest)

-- The top record after a change of a tree. A change that succeeds leaves its new digest. After damage
-- or a rejected string the record is as it was. After a failure of the store, and when out of memory,
-- it is as it was or holds the new digest.
abbrev pub LeavesTop : (List ℕ → Type 0) → Option (Option (List ℕ)) → Option (Option (List ℕ)) → Result (List ℕ) TreeError → Type 0
LeavesTop IsNew old new (Ok digest) = IsNew digest × HoldsTop old new digest
LeavesTop IsNew old new (Err (Damaged at)) = StaysTold old new
LeavesTop IsNew old new (Err Failed) = OldOrNew IsNew old new
LeavesTop IsNew old new (Err (Clash first second)) = StaysTold old new
LeavesTop IsNew old new (Err (BookFull bytes)) = StaysTold old new
LeavesTop IsNew old new (Err Memory) = OldOrNew IsNew old new

-- If a map stands under the top record, and has fewer than 2^32 entries with the entry, then it
-- stands with the entry under the new digest, unless one of these strings has the digest of a
-- different node of the map.
abbrev pub NamesPut : List (List ℕ) → Form → Option (List ℕ) → Entry → List ℕ → Type 0
NamesPut strings F top e new = (digest : List ℕ) (m : List Entry) → top ≡ Some digest → Stands F digest m → length (put e m) < 2 ^ 32 → AreApart strings F F.depth root m → Stands F new (put e m)

-- an insert up to its last call: the nodes on the path of the entry are written, but not the top
-- record; it returns the digest of the new root
abbrev pub path_plan : Form → Option (List ℕ) → Entry → Plan (List ℕ)
path_plan F top e = Ask (Hash e.key) (λ _. from_top top (λ digest. enter F F.depth root (Some digest) e))

-- The path of the entry was written, and the new root has this digest. It names the map with the
-- entry, unless a string that was hashed clashes with a node of the map.
pub record IsRootWith {S : Type 0} (does : S → (call : Call) → AnswerOf call → S → Type 0) (F : Form) (top : Option (List ℕ)) (e : Entry) (s : S) (new : List ℕ) : Type 0 where
  pub strings : List (List ℕ)
  pub written : S
  pub ends : Ends does (path_plan F top e) s strings (Ok new) written
  pub names : NamesPut strings F top e new

-- An insert ended with this digest in the top record. It names the map with the entry, unless a
-- string that was hashed clashes with a node of the map.
pub record Entered {S : Type 0} (does : S → (call : Call) → AnswerOf call → S → Type 0) (F : Form) (top : Option (List ℕ)) (e : Entry) (s : S) (new : List ℕ) (t : S) : Type 0 where
  pub strings : List (List ℕ)
  pub ends : Ends does (insert_plan F top e) s strings (Ok new) t
  pub names : NamesPut strings F top e new
