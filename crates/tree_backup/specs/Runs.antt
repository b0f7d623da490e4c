-- What a backup and a restore did with a tree, a backend and a hasher.
use Rattle.std.specs.Prelude.{◌≡◌, ◌⊎◌, ℕ, List, [], ◌∷◌, ◌++◌, map, Option, None, Result, Ok, Err, Vec, if◌then◌else◌}
use Rattle.std.specs.declared.alloc.Global.{Global}
use Rattle.ens_base.specs.declared.entry.Entry.{Entry}
use Rattle.hash_book.specs.Hashing.{Book}
use Rattle.hash_book.specs.declared.error.HashError.{HashError}
use Rattle.environment.specs.Stores.{BackendCall, BackendAnswer}
use Rattle.environment.specs.declared.errors.StoreError.{StoreError}
use Rattle.synctree.specs.declared.error.TreeError.{TreeError}
use Rattle.synctree.specs.Sixteen.{form_of}
use Rattle.tree_node.specs.Entries.{AreAbove}
use Rattle.tree_node.specs.declared.body.Scan.{Scan}
use Rattle.tree_node.specs.declared.position.Position.{Position}
use Rattle.tree_node.specs.declared.version.TreeVersion.TheVariants.{Two}
use Rattle.tree_repair.specs.Admitting.{Admitted, Rejected}
use Rattle.tree_repair.specs.Builds.{build_nodes}
use Rattle.tree_backup.specs.Causes.{of_tree, of_store, of_hash, IsFromOutside}
use Rattle.tree_backup.specs.Checks.{matches, texts_of, Spells}
use Rattle.tree_backup.specs.Order.{IsTwice}
use Rattle.tree_backup.specs.Stores.{Fetches, FetchStops, Puts, PutStops}
use Rattle.tree_backup.specs.declared.error.BackupError.{BackupError}
use Rattle.tree_backup.specs.declared.error.BackupError.TheVariants.{Order, Damaged}
use Rattle.tree_backup.specs.declared.item.Item.{Item}
use Rattle.stored_formats.specs.declared.object.Object.{Object}

-- the item, without an object that does not match its entry
abbrev pub matched : Item → Item
matched x = if matches x then x else record { entry = x.entry; object = None }

-- the strings that are hashed for what the backend returned: the objects, and then the nodes
abbrev pub backup_strings : List Entry → List Item → List (List ℕ)
backup_strings es items = texts_of items ++ build_nodes (form_of Two) es

-- a scan without damage, in which each key occurs once
pub record IsWhole (found : Scan) : Type 0 where
  pub undamaged : found.damaged ≡ []
  pub above : AreAbove [] found.entries

-- The call went on with these entries, from these states of the backend and the hasher, and stopped
-- with this error: a get was refused, or the hasher rejected an object or a node, or memory ran out.
abbrev pub StopsBehind : {B H : Type 0} → (B → (call : BackendCall) → BackendAnswer call → B → Type 0) → (B → BackendCall → StoreError → B → Type 0)
    → (H → Option Book) → (H → ℕ) → (H → ℕ) → List Entry → B → H → BackupError → B → H → Type 0
StopsBehind gets loses kept clashes fulls es b h e c k = ((error : StoreError) × (of_store error ≡ e) × FetchStops gets loses es b error c × (k ≡ h))
    ⊎ ((items : List Item) × (error : HashError) × (of_hash error ≡ e) × Fetches gets es b items c × Rejected kept clashes fulls (backup_strings es items) h error k)

-- The bytes are those of these entries, each with the object that the backend returned, if that matches.
pub record BackedUp {B H : Type 0} (gets : B → (call : BackendCall) → BackendAnswer call → B → Type 0) (kept : H → Option Book) (clashes fulls : H → ℕ) (es : List Entry) (b : B) (h : H) (bytes : List ℕ) (c : B) (k : H) : Type 0 where
  pub items : List Item
  pub fetched : Fetches gets es b items c
  pub hashed : Admitted kept clashes fulls (backup_strings es items) h k
  pub spells : Spells bytes (map matched items)

-- what the call returned behind a scan without damage that gave these entries, each key once
abbrev pub BehindWhole : {B H : Type 0} → (B → (call : BackendCall) → BackendAnswer call → B → Type 0) → (B → BackendCall → StoreError → B → Type 0)
    → (H → Option Book) → (H → ℕ) → (H → ℕ) → List Entry → B → H → Result (Vec ℕ Global) BackupError → B → H → Type 0
BehindWhole gets loses kept clashes fulls es b h (Ok bytes) c k = BackedUp gets kept clashes fulls es b h bytes.items c k
BehindWhole gets loses kept clashes fulls es b h (Err e) c k = IsFromOutside e × StopsBehind gets loses kept clashes fulls es b h e c k

-- the first position that the scan found damaged, after which nothing was asked
abbrev pub FoundDamage : {B H : Type 0} → Scan → Position → B → H → B → H → Type 0
FoundDamage found at b h c k = ((others : List Position) × (found.damaged ≡ at ∷ others)) × (c ≡ b) × (k ≡ h)

-- a scan without damage gave a key twice, after which nothing was asked
abbrev pub FoundTwice : {B H : Type 0} → Scan → B → H → B → H → Type 0
FoundTwice found b h c k = (found.damaged ≡ []) × IsTwice found.entries × (c ≡ b) × (k ≡ h)

-- what the call returned behind a scan that found this
abbrev pub Behind : {B H : Type 0} → (B → (call : BackendCall) → BackendAnswer call → B → Type 0) → (B → BackendCall → StoreError → B → Type 0)
    → (H → Option Book) → (H → ℕ) → (H → ℕ) → Scan → B → H → Result (Vec ℕ Global) BackupError → B → H → Type 0
Behind gets loses kept clashes fulls found b h (Err (Damaged at)) c k = FoundDamage found at b h c k
Behind gets loses kept clashes fulls found b h (Err Order) c k = FoundTwice found b h c k
Behind gets loses kept clashes fulls found b h result c k = IsWhole found × BehindWhole gets loses kept clashes fulls found.entries b h result c k

-- the entries of a scan without damage in which each key occurs once, or what it is in place of that
abbrev pub Sound : Scan → Result (List Entry) BackupError → Type 0
Sound found (Ok entries) = IsWhole found × (entries ≡ found.entries)
Sound found (Err (Damaged at)) = (others : List Position) × (found.damaged ≡ at ∷ others)
Sound found (Err Order) = (found.damaged ≡ []) × IsTwice found.entries
Sound found (Err e) = ⊥

-- What a backup did: it scanned the tree and went on with what the scan found, or the scan was stopped
-- from outside. `Scanned` is what a scan may return and leave of the nodes and the hasher.
abbrev pub BacksUp : {N B H : Type 0} → (Result Scan TreeError → N × H → Type 0) → (B → (call : BackendCall) → BackendAnswer call → B → Type 0) → (B → BackendCall → StoreError → B → Type 0)
    → (H → Option Book) → (H → ℕ) → (H → ℕ) → B → Result (Vec ℕ Global) BackupError → N → B → H → Type 0
BacksUp {H = H} Scanned gets loses kept clashes fulls b result m c k = ((found : Scan) × (h : H) × Scanned (Ok found) (m, h) × Behind gets loses kept clashes fulls found b h result c k)
    ⊎ ((error : TreeError) × IsFromOutside (of_tree error) × (result ≡ Err (of_tree error)) × Scanned (Err error) (m, k) × (c ≡ b))

-- What a restore did: the map was built and installed, and then each object was stored; or one of both
-- was stopped from outside. `Rebuilt` is what a rebuild may return and leave.
abbrev pub RestoresErr : {B : Type 0} → (Result (Unit {0}) TreeError → Type 0) → (B → (call : BackendCall) → BackendAnswer call → B → Type 0) → (B → BackendCall → StoreError → B → Type 0)
    → List Object → B → BackupError → B → Type 0
RestoresErr Rebuilt puts loses os b e c = ((error : TreeError) × (of_tree error ≡ e) × Rebuilt (Err error) × (c ≡ b)) ⊎ ((error : StoreError) × (of_store error ≡ e) × Rebuilt (Ok tt) × PutStops puts loses os b error c)

abbrev pub Restores : {B : Type 0} → (Result (Unit {0}) TreeError → Type 0) → (B → (call : BackendCall) → BackendAnswer call → B → Type 0) → (B → BackendCall → StoreError → B → Type 0)
    → List Object → B → Result (Unit {0}) BackupError → B → Type 0
Restores Rebuilt puts loses os b (Ok x) c = Rebuilt (Ok tt) × Puts puts os b c
Restores Rebuilt puts loses os b (Err e) c = IsFromOutside e × RestoresErr Rebuilt puts loses os b e c
