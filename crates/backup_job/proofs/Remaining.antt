-- What a backup finds on disks, and what stays on them.
use Rattle.std.proofs.Common.{◌≡◌, ◌≢◌, ◌⊎◌, ℕ, List, [], ◌∷◌, map, Option, None, Some, Result, Ok, Err, refl, sym, ap, subst, ◌∙◌, inl, inr}
use Rattle.std.specs.Prelude.{Vec}
use Rattle.std.specs.declared.alloc.Global.{Global}
use Rattle.ens_base.specs.Causes.{Rose}
use Rattle.ens_base.specs.declared.entry.Entry.{Entry}
use Rattle.hash_book.specs.declared.plain.PlainHasher.{PlainHasher}
use Rattle.environment.specs.Maps.{Entries, value_at}
use Rattle.environment.specs.MemStores.{Held}
use Rattle.environment.specs.Stores.{BackendCall, BackendAnswer}
use Rattle.environment.specs.declared.errors.StoreError.{StoreError}
use Rattle.environment.specs.declared.errors.StoreError.TheVariants as stores
use Rattle.disk_stores.specs.LogFiles.{IsClean}
use Rattle.disk_stores.specs.DiskCalls.{HoldsNodes, HoldsObjects, ObjectsDo, ObjectsRefuse}
use Rattle.disk_stores.specs.declared.backend.DiskBackend.{DiskBackend}
use Rattle.disk_stores.specs.declared.nodes.DiskNodes.{DiskNodes}
use Rattle.synctree.specs.Plans.{Did}
use Rattle.synctree.specs.declared.error.TreeError.{TreeError}
use Rattle.synctree.specs.declared.error.TreeError.TheVariants as trees
use Rattle.synctree.specs.Forms.{Form}
use Rattle.synctree.specs.Sixteen.{form_of}
use Rattle.tree_node.specs.declared.body.Scan.{Scan}
use Rattle.tree_node.specs.declared.version.TreeVersion.{TreeVersion}
use Rattle.tree_repair.specs.Levels.{scan_plan}
use Rattle.tree_repair.specs.PlainScans.{plain_scan}
use Rattle.tree_repair.proofs.Descending.{scan_is_plain}
use Rattle.tree_backup.specs.Causes.{IsFromOutside, of_tree}
use Rattle.tree_backup.specs.Checks.{Spells}
use Rattle.tree_backup.specs.Runs.{BacksUp, Behind, BehindWhole, matched}
use Rattle.tree_backup.specs.Stores.{FetchStops, Fetches, fetched}
use Rattle.tree_backup.specs.declared.error.BackupError.{BackupError}
use Rattle.tree_backup.specs.declared.error.BackupError.TheVariants as errors
use Rattle.tree_backup.specs.declared.item.Item.{Item}
use Rattle.backup_job.specs.Backed.{BacksLogs, GivesScan, GivesTree, IsOfBackup, MayBeMade, Shapes, Takes, item_in, node_in, version_under}
use Rattle.backup_job.specs.Disks.{error_of}
use Rattle.backup_job.specs.declared.disks.Logs.{Logs}
use Rattle.backup_job.proofs.Holding.{did_clean, did_holds, did_value, does, reading, reading_value, refuses, rose_later}

ok_err : {A : Type 0} (x : A) (e : BackupError) → ◌≡◌ {A = Result A BackupError} (Ok x) (Err e) → ⊥
ok_err x e h = cc

ok_once : {A E : Type 0} (x y : A) → ◌≡◌ {A = Result A E} (Ok x) (Ok y) → x ≡ y
ok_once x y e = cc

failed_tree : (e : TreeError) → e ≡ trees.Failed → of_tree e ≡ errors.Failed
failed_tree e is = ap of_tree is

module _ {D : Type 0} (seen : D → Option (List ℕ)) (faults : D → ℕ) where
  abbrev pub gets : DiskBackend D → (call : BackendCall) → BackendAnswer call → DiskBackend D → Type 0
  gets s call a t = ObjectsDo seen s call a t

  abbrev pub loses : DiskBackend D → BackendCall → StoreError → DiskBackend D → Type 0
  loses s call e t = ObjectsRefuse seen s e t

  -- ---- gets

  fetches_told : (es : List Entry) (b c : DiskBackend D) (items : List Item) (held : Entries) → HoldsObjects seen b held → Fetches gets es b items c → (items ≡ map (λ e. fetched e (value_at e.key held)) es) × HoldsObjects seen c held
  fetches_told [] b c items held holds (none, same) = (none, subst (λ (u : DiskBackend D). HoldsObjects seen u held) (sym same) holds)
  fetches_told (e ∷ es) b c items held holds (bytes, u, rest, did, is, more) =
      let later = fetches_told es u c rest held (did.holds held holds) more in
      let one : bytes ≡ value_at e.key held = did.answers held holds in
      (is ∙ ap (λ (o : Option (List ℕ)). fetched e o ∷ rest) one ∙ ap (λ (xs : List Item). fetched e (value_at e.key held) ∷ xs) later.0, later.1)

  fetches_clean : (es : List Entry) (b c : DiskBackend D) (items : List Item) → IsClean b.log.file → Fetches gets es b items c → IsClean c.log.file
  fetches_clean [] b c items clean (none, same) = subst (λ (u : DiskBackend D). IsClean u.log.file) (sym same) clean
  fetches_clean (e ∷ es) b c items clean (bytes, u, rest, did, is, more) = fetches_clean es u c rest (did.clean clean) more

  stops_told : (es : List Entry) (b c : DiskBackend D) (e : StoreError) (held : Entries) → HoldsObjects seen b held → FetchStops gets loses es b e c → HoldsObjects seen c held
  stops_told [] b c e held holds (is, same) = subst (λ (u : DiskBackend D). HoldsObjects seen u held) (sym same) holds
  stops_told (x ∷ es) b c e held holds (inl (is, same)) = subst (λ (u : DiskBackend D). HoldsObjects seen u held) (sym same) holds
  stops_told (x ∷ es) b c e held holds (inr (inl off)) = off.holds held holds
  stops_told (x ∷ es) b c e held holds (inr (inr (bytes, u, did, more))) = stops_told es u c e held (did.holds held holds) more

  stops_clean : (es : List Entry) (b c : DiskBackend D) → IsClean b.log.file → FetchStops gets loses es b stores.Memory c → IsClean c.log.file
  stops_clean [] b c clean (is, same) = subst (λ (u : DiskBackend D). IsClean u.log.file) (sym same) clean
  stops_clean (x ∷ es) b c clean (inl (is, same)) = subst (λ (u : DiskBackend D). IsClean u.log.file) (sym same) clean
  stops_clean (x ∷ es) b c clean (inr (inl off)) = subst IsClean (sym (off.memory refl)) clean
  stops_clean (x ∷ es) b c clean (inr (inr (bytes, u, did, more))) = stops_clean es u c (did.clean clean) more

  -- ---- what follows a scan

  abbrev Then : List Entry → DiskBackend D → PlainHasher → Result (Vec ℕ Global) BackupError → DiskBackend D → PlainHasher → Type 0
  Then es b h r c k = BehindWhole gets loses (λ x. None) (λ x. 0) (λ x. 0) es b h r c k

  abbrev After : Scan → DiskBackend D → PlainHasher → Result (Vec ℕ Global) BackupError → DiskBackend D → PlainHasher → Type 0
  After found b h r c k = Behind gets loses (λ x. None) (λ x. 0) (λ x. 0) found b h r c k

  mapped : (held : Entries) (es : List Entry) → map matched (map (λ e. fetched e (value_at e.key held)) es) ≡ map (item_in held) es
  mapped held [] = refl
  mapped held (e ∷ es) = ap (λ (xs : List Item). item_in held e ∷ xs) (mapped held es)

  then_kept : (es : List Entry) (b c : DiskBackend D) (h k : PlainHasher) (r : Result (Vec ℕ Global) BackupError) (held : Entries) → HoldsObjects seen b held → Then es b h r c k → HoldsObjects seen c held
  then_kept es b c h k (Ok bytes) held holds did = (fetches_told es b c did.items held holds did.fetched).1
  then_kept es b c h k (Err e) held holds (out, inl (error, is, stops, same)) = stops_told es b c error held holds stops
  then_kept es b c h k (Err e) held holds (out, inr (items, error, is, fetches, off)) = (fetches_told es b c items held holds fetches).1

  then_clean : (es : List Entry) (b c : DiskBackend D) (h k : PlainHasher) (r : Result (Vec ℕ Global) BackupError) → error_of r ≢ Some errors.Failed → IsClean b.log.file → Then es b h r c k → IsClean c.log.file
  then_clean es b c h k (Ok bytes) other clean did = fetches_clean es b c did.items clean did.fetched
  then_clean es b c h k (Err e) other clean (out, inl (stores.Failed, is, stops, same)) = absurd (other (ap Some (sym is)))
  then_clean es b c h k (Err e) other clean (out, inl (stores.Memory, is, stops, same)) = stops_clean es b c clean stops
  then_clean es b c h k (Err e) other clean (out, inr (items, error, is, fetches, off)) = fetches_clean es b c items clean fetches

  after_kept : (found : Scan) (b c : DiskBackend D) (h k : PlainHasher) (r : Result (Vec ℕ Global) BackupError) (held : Entries) → HoldsObjects seen b held → After found b h r c k → HoldsObjects seen c held
  after_kept found b c h k (Ok bytes) held holds did = then_kept found.entries b c h k (Ok bytes) held holds did.1
  after_kept found b c h k (Err (errors.Damaged at)) held holds did = subst (λ (u : DiskBackend D). HoldsObjects seen u held) (sym did.1) holds
  after_kept found b c h k (Err errors.Order) held holds did = subst (λ (u : DiskBackend D). HoldsObjects seen u held) (sym did.2) holds
  after_kept found b c h k (Err e) held holds did = then_kept found.entries b c h k (Err e) held holds did.1

  after_clean : (found : Scan) (b c : DiskBackend D) (h k : PlainHasher) (r : Result (Vec ℕ Global) BackupError) → error_of r ≢ Some errors.Failed → IsClean b.log.file → After found b h r c k → IsClean c.log.file
  after_clean found b c h k (Ok bytes) other clean did = then_clean found.entries b c h k (Ok bytes) other clean did.1
  after_clean found b c h k (Err (errors.Damaged at)) other clean did = subst (λ (u : DiskBackend D). IsClean u.log.file) (sym did.1) clean
  after_clean found b c h k (Err errors.Order) other clean did = subst (λ (u : DiskBackend D). IsClean u.log.file) (sym did.2) clean
  after_clean found b c h k (Err e) other clean did = then_clean found.entries b c h k (Err e) other clean did.1

  after_gives : (found : Scan) (b c : DiskBackend D) (h k : PlainHasher) (r : Result (Vec ℕ Global) BackupError) (held : Entries) → HoldsObjects seen b held → After found b h r c k → GivesScan held found r
  after_gives found b c h k (Ok bytes) held holds did =
      let items = (fetches_told found.entries b c did.1.items held holds did.1.fetched).0 in
      (did.0, subst (λ (xs : List Item). Spells bytes.items xs) (ap (map matched) items ∙ mapped held found.entries) did.1.spells)
  after_gives found b c h k (Err (errors.Damaged at)) held holds did = did.0
  after_gives found b c h k (Err errors.Order) held holds did = (did.0, did.1)
  after_gives found b c h k (Err e) held holds did = did.1.0

  after_may : (found : Scan) (b c : DiskBackend D) (h k : PlainHasher) (r : Result (Vec ℕ Global) BackupError) → After found b h r c k → MayBeMade r
  after_may found b c h k (Ok bytes) did = (map matched did.1.items, did.1.spells)
  after_may found b c h k (Err (errors.Damaged at)) did = tt
  after_may found b c h k (Err errors.Order) did = tt
  after_may found b c h k (Err e) did = did.1.0

  outside_may : (e : BackupError) → IsFromOutside e → IsOfBackup e
  outside_may (errors.Damaged at) out = tt
  outside_may errors.Order out = tt
  outside_may e out = out

  outside_gives : (objects : Entries) (found : Scan) (e : BackupError) → IsFromOutside e → GivesScan objects found (Err e)
  outside_gives objects found (errors.Damaged at) out = absurd out
  outside_gives objects found errors.Order out = absurd out
  outside_gives objects found e out = out

  -- ---- a backup of a tree of this form under this top record

  module _ (F : Form) (top : Option (List ℕ)) (m0 m : DiskNodes D) (h0 k : PlainHasher) (b c : DiskBackend D) where
    abbrev Scanned : Result Scan TreeError → DiskNodes D × PlainHasher → Type 0
    Scanned r s = Did (does seen faults) (refuses seen faults) (scan_plan F top) (m0, h0) r s

    abbrev pub BacksDisks : Result (Vec ℕ Global) BackupError → Type 0
    BacksDisks r = BacksUp Scanned gets loses (λ x. None) (λ x. 0) (λ x. 0) b r m c k

    scan_read : (held : Held) → top ≡ held.top → reading (node_in held) (scan_plan F top) ≡ Some (Ok (plain_scan F (node_in held) held.top))
    scan_read held is = rw is (reading_value (node_in held) (scan_plan F held.top) (plain_scan F (node_in held) held.top) (scan_is_plain F (node_in held) held.top))

    pub backs_may : (r : Result (Vec ℕ Global) BackupError) → BacksDisks r → MayBeMade r
    backs_may r (inl (found, h, scanned, after)) = after_may found b c h k r after
    backs_may r (inr (error, out, is, scanned, same)) = subst MayBeMade (sym is) (outside_may (of_tree error) out)

    pub backs_nodes : (r : Result (Vec ℕ Global) BackupError) (held : Held) → top ≡ held.top → HoldsNodes seen m0 held → BacksDisks r → HoldsNodes seen m held
    backs_nodes r held is holds (inl (found, h, scanned, after)) = did_holds seen faults (scan_plan F top) (m0, h0) (m, h) (Ok found) _ held (scan_read held is) holds scanned
    backs_nodes r held is holds (inr (error, out, e, scanned, same)) = did_holds seen faults (scan_plan F top) (m0, h0) (m, k) (Err error) _ held (scan_read held is) holds scanned

    pub backs_objects : (r : Result (Vec ℕ Global) BackupError) (held : Entries) → HoldsObjects seen b held → BacksDisks r → HoldsObjects seen c held
    backs_objects r held holds (inl (found, h, scanned, after)) = after_kept found b c h k r held holds after
    backs_objects r held holds (inr (error, out, e, scanned, same)) = subst (λ (u : DiskBackend D). HoldsObjects seen u held) (sym same) holds

    pub backs_nodes_clean : (r : Result (Vec ℕ Global) BackupError) → error_of r ≢ Some errors.Failed → IsClean m0.log.file → BacksDisks r → IsClean m.log.file
    backs_nodes_clean r other clean (inl (found, h, scanned, after)) = did_clean seen faults (scan_plan F top) (m0, h0) (m, h) (Ok found) scanned (λ e. cc) clean
    backs_nodes_clean r other clean (inr (error, out, is, scanned, same)) =
        did_clean seen faults (scan_plan F top) (m0, h0) (m, k) (Err error) scanned (λ e. other (ap error_of is ∙ ap Some (failed_tree error (tree_once error e)))) clean
      where
        tree_once : (x : TreeError) → ◌≡◌ {A = Result Scan TreeError} (Err x) (Err trees.Failed) → x ≡ trees.Failed
        tree_once x e = cc

    pub backs_objects_clean : (r : Result (Vec ℕ Global) BackupError) → error_of r ≢ Some errors.Failed → IsClean b.log.file → BacksDisks r → IsClean c.log.file
    backs_objects_clean r other clean (inl (found, h, scanned, after)) = after_clean found b c h k r other clean after
    backs_objects_clean r other clean (inr (error, out, is, scanned, same)) = subst (λ (u : DiskBackend D). IsClean u.log.file) (sym same) clean

    pub backs_gives : (r : Result (Vec ℕ Global) BackupError) (held : Held) (objects : Entries) → top ≡ held.top → HoldsNodes seen m0 held → HoldsObjects seen b objects → BacksDisks r → GivesScan objects (plain_scan F (node_in held) held.top) r
    backs_gives r held objects is nodes holds (inl (found, h, scanned, after)) =
        let one : found ≡ plain_scan F (node_in held) held.top = ok_once found _ (did_value seen faults (scan_plan F top) (m0, h0) (m, h) found _ held (scan_read held is) nodes scanned) in
        subst (λ (x : Scan). GivesScan objects x r) one (after_gives found b c h k r objects holds after)
    backs_gives r held objects is nodes holds (inr (error, out, e, scanned, same)) =
        subst (λ (x : Result (Vec ℕ Global) BackupError). GivesScan objects (plain_scan F (node_in held) held.top) x) (sym e) (outside_gives objects (plain_scan F (node_in held) held.top) (of_tree error) out)

-- the error for one of a tree is a failure exactly if that is one
pub tree_failed : (e : TreeError) → of_tree e ≡ errors.Failed → e ≡ trees.Failed
tree_failed (trees.Damaged at) is = absurd cc
tree_failed trees.Failed is = refl
tree_failed (trees.Clash first second) is = absurd cc
tree_failed (trees.BookFull n) is = absurd cc
tree_failed trees.Memory is = absurd cc

tree_may : (e : TreeError) → IsOfBackup (of_tree e)
tree_may (trees.Damaged at) = tt
tree_may trees.Failed = tt
tree_may (trees.Clash first second) = tt
tree_may (trees.BookFull n) = tt
tree_may trees.Memory = tt

pub some_failed : (e : BackupError) → ◌≡◌ {A = Option BackupError} (Some e) (Some errors.Failed) → e ≡ errors.Failed
some_failed e is = cc

-- a tree whose version was not found is not backed up
not_shaped : (held : Held) (objects : Entries) (version : TreeVersion) (found : Option TreeVersion) (e : TreeError) → Takes found version (Err e) → GivesTree held objects found (Err (of_tree e))
not_shaped held objects version None (trees.Damaged at) h = h.0
not_shaped held objects version (Some v) (trees.Damaged at) h = absurd (some_none h.1)
  where
    some_none : ◌≡◌ {A = Option TreeVersion} (Some v) None → ⊥
    some_none e = cc
not_shaped held objects version None trees.Failed h = tt
not_shaped held objects version (Some v) trees.Failed h = tt
not_shaped held objects version None (trees.Clash first second) h = tt
not_shaped held objects version (Some v) (trees.Clash first second) h = tt
not_shaped held objects version None (trees.BookFull n) h = tt
not_shaped held objects version (Some v) (trees.BookFull n) h = tt
not_shaped held objects version None trees.Memory h = tt
not_shaped held objects version (Some v) trees.Memory h = tt

module _ {D : Type 0} (seen : D → Option (List ℕ)) (faults : D → ℕ) where
  abbrev NodesRose : Logs D → Logs D → Type 0
  NodesRose old new = Rose (faults old.tree.store.log.file.disk) (faults new.tree.store.log.file.disk)

  abbrev ObjectsRose : Logs D → Logs D → Type 0
  ObjectsRose old new = Rose (faults old.backend.log.file.disk) (faults new.backend.log.file.disk)

  -- the version was not found
  pub backs_err : (old new : Logs D) (e : TreeError) → Shapes seen faults old.tree new.tree (Err e) → new.backend ≡ old.backend → BacksLogs seen faults old new (Err (of_tree e))
  backs_err old new e shapes same = record {
    may = tree_may e;
    gives = λ held objects holds also. not_shaped held objects new.tree.version (version_under (node_in held) held.top) e (shapes.takes held holds);
    changes = record {
      nodes = λ held holds. (held, shapes.holds held holds, refl);
      objects = λ held holds. (held, subst (λ (b : DiskBackend D). HoldsObjects seen b held) (sym same) holds, refl);
      clean = λ other clean. (shapes.clean (λ x. other (ap Some (ap of_tree (tree_once e x)))) clean.0, subst (λ (b : DiskBackend D). IsClean b.log.file) (sym same) clean.1);
      failed = λ is. inl (shapes.failed (ap Err (tree_failed e (some_failed (of_tree e) is))));
    };
  }
    where
      tree_once : (x : TreeError) → ◌≡◌ {A = Result (Unit {0}) TreeError} (Err x) (Err trees.Failed) → x ≡ trees.Failed
      tree_once x e = cc

  -- the version was found, and the tree in it was backed up
  pub backs_logs : (old mid new : Logs D) (h k : PlainHasher) (r : Result (Vec ℕ Global) BackupError) → Shapes seen faults old.tree mid.tree (Ok tt) → mid.backend ≡ old.backend
      → BacksDisks seen faults (form_of mid.tree.version) mid.tree.top mid.tree.store new.tree.store h k mid.backend new.backend r → (r ≡ Err errors.Failed → NodesRose mid new ⊎ ObjectsRose mid new) → BacksLogs seen faults old new r
  backs_logs old mid new h k r shapes same did rose = record {
    may = backs_may seen faults (form_of mid.tree.version) mid.tree.top mid.tree.store new.tree.store h k mid.backend new.backend r did;
    gives = λ held objects holds also.
        let given = backs_gives seen faults (form_of mid.tree.version) mid.tree.top mid.tree.store new.tree.store h k mid.backend new.backend r held objects (named held holds) (shapes.holds held holds) (kept objects also) did in
        subst (λ (o : Option TreeVersion). GivesTree held objects o r) (sym (shapes.takes held holds)) given;
    changes = record {
      nodes = λ held holds. (held, backs_nodes seen faults (form_of mid.tree.version) mid.tree.top mid.tree.store new.tree.store h k mid.backend new.backend r held (named held holds) (shapes.holds held holds) did, refl);
      objects = λ held holds. (held, backs_objects seen faults (form_of mid.tree.version) mid.tree.top mid.tree.store new.tree.store h k mid.backend new.backend r held (kept held holds) did, refl);
      clean = λ other clean. (
        backs_nodes_clean seen faults (form_of mid.tree.version) mid.tree.top mid.tree.store new.tree.store h k mid.backend new.backend r other (shapes.clean (λ x. absurd (ok_tree x)) clean.0) did,
        backs_objects_clean seen faults (form_of mid.tree.version) mid.tree.top mid.tree.store new.tree.store h k mid.backend new.backend r other (subst (λ (b : DiskBackend D). IsClean b.log.file) (sym same) clean.1) did,
      );
      failed = λ is. by (rose (failed_result r is));
    };
  }
    where
      ok_tree : ◌≡◌ {A = Result (Unit {0}) TreeError} (Ok tt) (Err trees.Failed) → ⊥
      ok_tree e = cc

      failed_result : (r : Result (Vec ℕ Global) BackupError) → error_of r ≡ Some errors.Failed → r ≡ Err errors.Failed
      failed_result (Ok x) is = absurd cc
      failed_result (Err e) is = ap Err (some_failed e is)

      named : (held : Held) → HoldsNodes seen old.tree.store held → mid.tree.top ≡ held.top
      named held holds = shapes.top ∙ (shapes.holds held holds).top

      kept : (held : Entries) → HoldsObjects seen old.backend held → HoldsObjects seen mid.backend held
      kept held holds = subst (λ (b : DiskBackend D). HoldsObjects seen b held) (sym same) holds

      by : NodesRose mid new ⊎ ObjectsRose mid new → NodesRose old new ⊎ ObjectsRose old new
      by (inl more) = inl (rose_later seen faults _ _ _ shapes.later more)
      by (inr more) = inr (subst (λ (b : DiskBackend D). Rose (faults b.log.file.disk) (faults new.backend.log.file.disk)) same more)
