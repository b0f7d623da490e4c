-- The backup of what two disks hold, and what a job that makes it prints.
use Rattle.std.specs.Prelude.{◌≡◌, ◌≢◌, ◌<◌, ◌≤◌, ℕ, List, [], ◌∷◌, length, map, Option, None, Some, Result, Ok, Err, IsSomeAnd, OnOk, Vec, if◌then◌else◌}
use Rattle.std.specs.declared.alloc.Global.{Global}
use Rattle.md5.specs.Md5.{md5}
use Rattle.ens_base.specs.Causes.{Rose}
use Rattle.ens_base.specs.Lists.{same_bytes}
use Rattle.ens_base.specs.declared.entry.Entry.{Entry}
use Rattle.ens_base.specs.declared.status.Status.{Status}
use Rattle.environment.specs.Maps.{Entries, value_at}
use Rattle.environment.specs.MemStores.{Held}
use Rattle.slot_disk.specs.Crash.{Told}
use Rattle.disk_stores.specs.LogFiles.{IsClean}
use Rattle.disk_stores.specs.Records.{entries_of}
use Rattle.disk_stores.specs.DiskCalls.{HoldsNodes, HoldsObjects}
use Rattle.disk_stores.specs.NodeMaps.{nodes_of}
use Rattle.disk_stores.specs.declared.nodes.DiskNodes.{DiskNodes}
use Rattle.synctree.specs.Shapes.{version_in}
use Rattle.synctree.specs.declared.error.TreeError.{TreeError}
use Rattle.synctree.specs.declared.error.TreeError.TheVariants as trees
use Rattle.synctree.specs.declared.tree.Tree.{Tree}
use Rattle.synctree.specs.Forms.{root}
use Rattle.synctree.specs.Sixteen.{form_of}
use Rattle.tree_node.specs.declared.body.Scan.{Scan}
use Rattle.tree_node.specs.declared.position.Position.{Position}
use Rattle.tree_node.specs.declared.version.TreeVersion.{TreeVersion}
use Rattle.tree_repair.specs.PlainScans.{plain_scan}
use Rattle.tree_backup.specs.Causes.{IsFromOutside, cause_of}
use Rattle.tree_backup.specs.Checks.{Spells, backup_with, top_of}
use Rattle.tree_backup.specs.Items.{backup_spelling, entries_of as items_entries}
use Rattle.tree_backup.specs.Order.{IsTwice}
use Rattle.tree_backup.specs.Runs.{IsWhole, matched}
use Rattle.tree_backup.specs.Stores.{fetched}
use Rattle.tree_backup.specs.declared.error.BackupError.{BackupError}
use Rattle.tree_backup.specs.declared.error.BackupError.TheVariants.{Order, Damaged}
use Rattle.tree_backup.specs.declared.item.Item.{Item}
use Rattle.backup_job.specs.Disks.{Changes, ChangesLogs, Same, error_of}
use Rattle.backup_job.specs.Printed.{Reports, backup_text, fault_text, limit_text, memory_text}
use Rattle.backup_job.specs.declared.disks.Logs.{Logs}
use Rattle.backup_job.specs.declared.disks.Pair.{Pair}

-- what is stored under a digest
abbrev pub node_in : Held → List ℕ → Option (List ℕ)
node_in held digest = value_at digest held.entries

-- the version of the tree that these bytes are the root of, if they have the digest
abbrev pub version_of : List ℕ → Option (List ℕ) → Option TreeVersion
version_of digest None = None
version_of digest (Some bytes) = if same_bytes (md5 bytes) digest then version_in bytes else None

-- the version in which the root under this top record verifies, if it does in one
abbrev pub version_under : (List ℕ → Option (List ℕ)) → Option (List ℕ) → Option TreeVersion
version_under has None = None
version_under has (Some digest) = version_of digest (has digest)

-- an entry, with the object that is stored under its key if that matches
abbrev pub item_in : Entries → Entry → Item
item_in objects e = matched (fetched e (value_at e.key objects))

-- the bytes of a backup of these items
abbrev pub backup_bytes : List Item → List ℕ
backup_bytes xs = backup_spelling (backup_with (top_of (items_entries xs)) xs)

-- The backup of what a scan found, or why there is none: the first damaged position, or a key that occurs
-- twice. An error from outside says nothing.
abbrev pub GivesScan : Entries → Scan → Result (Vec ℕ Global) BackupError → Type 0
GivesScan objects found (Ok bytes) = IsWhole found × Spells bytes.items (map (item_in objects) found.entries)
GivesScan objects found (Err (Damaged at)) = (others : List Position) × (found.damaged ≡ at ∷ others)
GivesScan objects found (Err Order) = (found.damaged ≡ []) × IsTwice found.entries
GivesScan objects found (Err e) = IsFromOutside e

-- the backup of a tree of this version, or of one whose root verifies in none, which damages the root
abbrev pub GivesTree : Held → Entries → Option TreeVersion → Result (Vec ℕ Global) BackupError → Type 0
GivesTree held objects None (Ok bytes) = ⊥
GivesTree held objects None (Err (Damaged at)) = at ≡ root
GivesTree held objects None (Err e) = IsFromOutside e
GivesTree held objects (Some version) made = GivesScan objects (plain_scan (form_of version) (node_in held) held.top) made

-- the backup of these nodes and objects, or why there is none
abbrev pub Gives : Held → Entries → Result (Vec ℕ Global) BackupError → Type 0
Gives held objects made = GivesTree held objects (version_under (node_in held) held.top) made

-- a root verifies in some version, its tree has no damage and no key twice, and the backup is not too long
pub record IsBackable (held : Held) (objects : Entries) : Type 0 where
  pub version : TreeVersion
  pub found : version_under (node_in held) held.top ≡ Some version
  pub whole : (plain_scan (form_of version) (node_in held) held.top).damaged ≡ []
  pub once : ¬ IsTwice (plain_scan (form_of version) (node_in held) held.top).entries
  pub few : length (backup_bytes (map (item_in objects) (plain_scan (form_of version) (node_in held) held.top).entries)) ≤ 268435456

-- why there may be no backup: damage, a key that occurs twice, or an error from outside
abbrev pub IsOfBackup : BackupError → Type 0
IsOfBackup (Damaged at) = Unit {0}
IsOfBackup Order = Unit {0}
IsOfBackup e = IsFromOutside e

-- what is made passes a check
abbrev pub MayBeMade : Result (Vec ℕ Global) BackupError → Type 0
MayBeMade (Ok bytes) = (items : List Item) × Spells bytes.items items
MayBeMade (Err e) = IsOfBackup e

-- these bytes are printed, or they are too many
abbrev pub EndsBytes : List ℕ → Status → List ℕ → Type 0
EndsBytes bytes Status.Done text = (text ≡ bytes) × (length bytes ≤ 268435456)
EndsBytes bytes Status.Limit text = (268435456 < length bytes) × (text ≡ limit_text)
EndsBytes bytes status text = ⊥

-- a job with this result ends so; memory may run out for each
abbrev pub Ends : Result (Vec ℕ Global) BackupError → Status → List ℕ → Type 0
Ends made Status.Memory text = text ≡ memory_text
Ends (Ok bytes) status text = EndsBytes bytes.items status text
Ends (Err e) status text = Reports e status text

-- the version in which the root verifies was taken, or it verifies in none
abbrev pub Takes : Option TreeVersion → TreeVersion → Result (Unit {0}) TreeError → Type 0
Takes found version (Ok x) = found ≡ Some version
Takes found version (Err (trees.Damaged at)) = (at ≡ root) × (found ≡ None)
Takes found version (Err e) = Unit {0}

module _ {D : Type 0} (seen : D → Option (List ℕ)) (faults : D → ℕ) where
  -- the tree took the version in which its root verifies, and its store holds what it held
  pub record Shapes (old new : Tree (DiskNodes D)) (result : Result (Unit {0}) TreeError) : Type 0 where
    pub holds : (held : Held) → HoldsNodes seen old.store held → HoldsNodes seen new.store held
    pub takes : (held : Held) → HoldsNodes seen old.store held → Takes (version_under (node_in held) held.top) new.version result
    pub top : OnOk result (new.top ≡ new.store.top)
    pub clean : result ≢ Err trees.Failed → IsClean old.store.log.file → IsClean new.store.log.file
    pub later : faults old.store.log.file.disk ≤ faults new.store.log.file.disk
    pub failed : result ≡ Err trees.Failed → Rose (faults old.store.log.file.disk) (faults new.store.log.file.disk)

  -- this was made of what the stores hold, and they hold it still
  pub record BacksLogs (old new : Logs D) (made : Result (Vec ℕ Global) BackupError) : Type 0 where
    pub may : MayBeMade made
    pub gives : (held : Held) (objects : Entries) → HoldsNodes seen old.tree.store held → HoldsObjects seen old.backend objects → Gives held objects made
    pub changes : ChangesLogs seen faults old new (error_of made) Same Same

  -- this was made of what the disks hold, where they tell their bytes, and they hold it still
  pub record Backs (old new : Pair D) (made : Result (Vec ℕ Global) BackupError) : Type 0 where
    pub may : MayBeMade made
    pub gives : Told (seen old.nodes) (λ nodes. Told (seen old.objects) (λ objects. Gives (nodes_of nodes) (entries_of objects) made))
    pub changes : Changes seen faults old new (error_of made) Same Same

  -- the disks tell what can be backed up
  abbrev pub CanBackUp : Pair D → Type 0
  CanBackUp disks = IsSomeAnd (seen disks.nodes) (λ nodes. IsSomeAnd (seen disks.objects) (λ objects. IsBackable (nodes_of nodes) (entries_of objects)))

  -- a backup of the disks ended so, and left them so
  pub record Backed (old new : Pair D) (status : Status) (text : List ℕ) : Type 0 where
    pub made : Result (Vec ℕ Global) BackupError
    pub backs : Backs old new made
    pub ends : Ends made status text

-- what a backup of disks prints, for each status
abbrev pub PrintsBackup : Status → List ℕ → Type 0
PrintsBackup Status.Done text = ((items : List Item) × Spells text items) × (length text ≤ 268435456)
PrintsBackup Status.Backup text = (error : BackupError) × IsOfBackup error × (text ≡ backup_text (cause_of error))
PrintsBackup Status.Limit text = text ≡ limit_text
PrintsBackup Status.StoreFault text = text ≡ fault_text
PrintsBackup Status.Memory text = text ≡ memory_text
PrintsBackup status text = ⊥
