-- A content that is restored to two disks, and what the job that does it prints.
use Rattle.std.specs.Prelude.{◌≡◌, ◌⊎◌, ℕ, List, [], ◌∷◌, take, string_bytes, Option, None, Some, Result, Ok, Err, IfErr, OnErr, OnOk}
use Rattle.std.specs.declared.alloc.AllocError.{AllocError}
use Rattle.ens_base.specs.declared.entry.Entry.{Entry}
use Rattle.ens_base.specs.declared.status.Status.{Status}
use Rattle.stored_formats.specs.Objects.{object_spelling}
use Rattle.stored_formats.specs.declared.object.Object.{Object}
use Rattle.environment.specs.Maps.{Entries, with_value}
use Rattle.environment.specs.MemStores.{Held, nodes_after}
use Rattle.environment.specs.Stores.{SetTop, Write}
use Rattle.synctree.specs.declared.stored_node.StoredNode.{StoredNode}
use Rattle.synctree.specs.Maps.{Stands}
use Rattle.synctree.specs.Sixteen.{form_of}
use Rattle.tree_node.specs.declared.version.TreeVersion.TheVariants.{Two}
use Rattle.tree_repair.specs.Builds.{build_of}
use Rattle.tree_backup.specs.Causes.{IsFromOutside}
use Rattle.tree_backup.specs.Checks.{top_of}
use Rattle.tree_backup.specs.declared.error.BackupError.{BackupError}
use Rattle.tree_backup.specs.declared.item.Content.{Content}
use Rattle.disk_stores.specs.Records.{entries_of}
use Rattle.disk_stores.specs.NodeMaps.{nodes_of}
use Rattle.backup_job.specs.Disks.{Became, Changes, Same, error_of}
use Rattle.backup_job.specs.Printed.{GaveContent, PrintsCheck, Reports, content_text, fault_text, memory_text}
use Rattle.backup_job.specs.declared.disks.Pair.{Pair}
use Rattle.backup_job.specs.declared.ending.Ending.{Ending}

-- the nodes of the plain build of these entries in version two
abbrev pub built : List Entry → List StoredNode
built es = (build_of (form_of Two) es).nodes

-- a store after these nodes were written, one after another
abbrev pub nodes_with : List StoredNode → Held → Held
nodes_with [] held = held
nodes_with (n ∷ ns) held = nodes_with ns (nodes_after held (Write n.digest n.bytes))

-- a store after the nodes of the build were written, and its digest into the top record
abbrev pub rebuilt : List Entry → Held → Held
rebuilt es held = nodes_after (nodes_with (built es) held) (SetTop (top_of es))

-- objects after these were stored under their keys, one after another
abbrev pub objects_with : List Object → Entries → Entries
objects_with [] held = held
objects_with (o ∷ os) held = objects_with os (with_value o.key (object_spelling o) held)

-- the nodes of the build and the top record were written; or, after an error, some first nodes, or all this
abbrev pub NodesRestored : List Entry → Option BackupError → Held → Held → Type 0
NodesRestored es None held after = after ≡ rebuilt es held
NodesRestored es (Some e) held after = ((n : ℕ) × (after ≡ nodes_with (take n (built es)) held)) ⊎ (after ≡ rebuilt es held)

-- the objects were stored; or, after an error, some first ones
abbrev pub ObjectsRestored : List Object → Option BackupError → Entries → Entries → Type 0
ObjectsRestored os None held after = after ≡ objects_with os held
ObjectsRestored os (Some e) held after = (n : ℕ) × (after ≡ objects_with (take n os) held)

-- a restore that wrote its content with this result ends so
abbrev pub EndsWritten : Content → Result (Unit {0}) BackupError → Status → List ℕ → Type 0
EndsWritten content (Ok x) status text = (status ≡ Status.Done) × (text ≡ content_text content)
EndsWritten content (Err e) status text = Reports e status text

module _ {D : Type 0} (seen : D → Option (List ℕ)) (faults : D → ℕ) where
  -- No object was stored, or all nodes and the top record were written before the first of them.
  abbrev pub AreInOrder : List Entry → Pair D → Pair D → Type 0
  AreInOrder es old new = Became seen faults entries_of Same old.objects new.objects ⊎ Became seen faults nodes_of (λ held after. after ≡ rebuilt es held) old.nodes new.nodes

  -- The content was written to the disks, or an error came from outside. Its map stands under the digest in
  -- the new top record.
  pub record Rewrites (content : Content) (old new : Pair D) (result : Result (Unit {0}) BackupError) : Type 0 where
    pub outside : IfErr result IsFromOutside
    pub stands : OnOk result (Stands (form_of Two) (top_of content.entries) content.entries)
    pub changes : Changes seen faults old new (error_of result) (NodesRestored content.entries (error_of result)) (ObjectsRestored content.objects (error_of result))
    pub order : OnErr result (AreInOrder content.entries old new)

  -- the source gave a content, and it was written to the disks with this result
  abbrev pub Wrote : Option (List ℕ) → Pair D → Pair D → Content → Result (Unit {0}) BackupError → Type 0
  Wrote source old new content result = GaveContent source content × Rewrites content old new result

  -- A restore ended so, and left the disks so. A source that does not pass touches no disk.
  abbrev pub Restored : Option (List ℕ) → Pair D → Pair D → Status → List ℕ → Type 0
  Restored source old new Status.Done text = (content : Content) × Wrote source old new content (Ok tt) × (text ≡ content_text content)
  Restored source old new Status.StoreFault text = (content : Content) × Wrote source old new content (Err BackupError.Failed) × (text ≡ fault_text)
  Restored source old new Status.Memory text = ((new ≡ old) ⊎ ((content : Content) × (result : Result (Unit {0}) BackupError) × Wrote source old new content result)) × (text ≡ memory_text)
  Restored source old new status text = PrintsCheck source status text × (new ≡ old)

  -- the same of a restore that ends with this ending, or when out of memory
  abbrev pub RestoresTo : Option (List ℕ) → Pair D → Pair D → Result Ending AllocError → Type 0
  RestoresTo source old new (Ok e) = Restored source old new e.status (string_bytes e.text)
  RestoresTo source old new (Err e) = Restored source old new Status.Memory memory_text

-- what a restore prints, for each status
abbrev pub PrintsRestore : Option (List ℕ) → Status → List ℕ → Type 0
PrintsRestore source Status.StoreFault text = ((content : Content) × GaveContent source content) × (text ≡ fault_text)
PrintsRestore source status text = PrintsCheck source status text
