-- What disks hold, from what the stores on them hold.
use Rattle.std.proofs.Common.{◌≡◌, ◌≢◌, ◌⊎◌, ℕ, List, ◌++◌, drop, take-append-drop, Option, None, Some, Result, Ok, Err, refl, sym, ap, subst, ◌∙◌, inl, inr}
use Rattle.std.specs.Option.{IsSomeAnd}
use Rattle.std.specs.Prelude.{OnErr, OnOk, Vec}
use Rattle.std.specs.declared.alloc.Global.{Global}
use Rattle.ens_base.specs.Causes.{Rose}
use Rattle.hash_book.specs.declared.plain.PlainHasher.{PlainHasher}
use Rattle.slot_disk.specs.Crash.{SeenIn, Told}
use Rattle.environment.specs.Maps.{Entries}
use Rattle.environment.specs.MemStores.{Held}
use Rattle.disk_stores.specs.LogFiles.{IsClean}
use Rattle.disk_stores.specs.Logs.{Holds}
use Rattle.disk_stores.specs.Records.{entries_of}
use Rattle.disk_stores.specs.declared.log.Log.{Log}
use Rattle.disk_stores.specs.DiskCalls.{HoldsNodes, HoldsObjects}
use Rattle.disk_stores.specs.NodeMaps.{nodes_in, nodes_of}
use Rattle.disk_stores.specs.declared.backend.DiskBackend.{DiskBackend}
use Rattle.disk_stores.specs.declared.nodes.DiskNodes.{DiskNodes}
use Rattle.synctree.specs.declared.error.TreeError.{TreeError}
use Rattle.synctree.specs.declared.error.TreeError.TheVariants as trees
use Rattle.synctree.specs.Entries.{IsMap}
use Rattle.synctree.specs.Maps.{Stands}
use Rattle.synctree.specs.Sixteen.{form_of}
use Rattle.tree_node.specs.declared.version.TreeVersion.TheVariants.{Two}
use Rattle.tree_backup.specs.Causes.{IsFromOutside, of_tree}
use Rattle.tree_backup.specs.Checks.{top_of}
use Rattle.tree_backup.specs.declared.error.BackupError.{BackupError}
use Rattle.tree_backup.specs.declared.error.BackupError.TheVariants.{Failed}
use Rattle.tree_backup.specs.declared.item.Content.{Content}
use Rattle.backup_job.specs.Backed.{Backs, BacksLogs}
use Rattle.backup_job.specs.Disks.{Became, Changes, ChangesLogs, Closed, Leads, Leaves, Opened, PairRose, Same, error_of}
use Rattle.backup_job.specs.Restored.{AreInOrder, NodesRestored, ObjectsRestored, Rewrites, rebuilt}
use Rattle.backup_job.specs.declared.disks.Logs.{Logs}
use Rattle.backup_job.specs.declared.disks.Pair.{Pair}
use Rattle.backup_job.proofs.Holding.{Reopened, rose_later}
use Rattle.backup_job.proofs.Remaining.{some_failed, tree_failed}
use Rattle.backup_job.proofs.Rewriting.{RestoresDisks, restores_in_order, restores_nodes, restores_nodes_clean, restores_objects, restores_objects_clean, restores_outside, stands_under}

pub told_map : (o : Option (List ℕ)) (P Q : List ℕ → Type 0) → Told o P → ((file : List ℕ) → P file → Q file) → Told o Q
told_map None P Q told more = tt
told_map (Some file) P Q told more = more file told

pub told_both : (o p : Option (List ℕ)) (P Q : List ℕ → Type 0) (R : List ℕ → List ℕ → Type 0) → Told o P → Told p Q → ((file other : List ℕ) → P file → Q other → R file other) → Told o (λ file. Told p (λ other. R file other))
told_both o p P Q R told also more = told_map o P (λ file. Told p (λ other. R file other)) told (λ file h. told_map p Q (λ other. R file other) also (λ other k. more file other h k))

leaves_more : {A : Type 0} (error : Option BackupError) (view : List ℕ → A) (P Q : A → Type 0) (file : List ℕ) → ((x : A) → P x → Q x) → Leaves error view P file → Leaves error view Q file
leaves_more None view P Q file more h = more (view file) h
leaves_more (Some Failed) view P Q file more (inl h) = inl (more (view file) h)
leaves_more (Some Failed) view P Q file more (inr l) = inr (record { prefix = l.prefix; rest = l.rest; split = l.split; whole = l.whole; gives = more (view l.prefix) l.gives })
leaves_more (Some e) view P Q file more h = more (view file) h

module _ {D : Type 0} (seen : D → Option (List ℕ)) (faults : D → ℕ) where
  -- a log leads its file
  log_leads : (log : Log D) (es : Entries) → Holds seen log es → SeenIn seen log.file.disk (λ file. Leads entries_of (λ x. x ≡ es) file)
  log_leads log es h = (
    h.on.file,
    h.on.told,
    record {
      prefix = h.bytes;
      rest = drop log.file.end h.on.file;
      split = sym (take-append-drop log.file.end h.on.file) ∙ ap (λ (l : List ℕ). l ++ drop log.file.end h.on.file) h.on.prefix;
      whole = h.indexed.whole;
      gives = h.map;
    },
  )

  nodes_lead : (s : DiskNodes D) (held : Held) → HoldsNodes seen s held → SeenIn seen s.log.file.disk (λ file. Leads nodes_of (λ x. x ≡ held) file)
  nodes_lead s held h =
      let l = log_leads s.log h.entries h.log in
      (l.0, l.1, record { prefix = l.2.prefix; rest = l.2.rest; split = l.2.split; whole = l.2.whole; gives = ap nodes_in l.2.gives ∙ h.nodes })

  -- the file that is left, if it gives this map, or leads to it after a failure
  left : {A : Type 0} (error : Option BackupError) (view : List ℕ → A) (P : A → Type 0) (d : D) (after : A) → P after → (error ≢ Some Failed → SeenIn seen d (λ file. view file ≡ after)) → SeenIn seen d (λ file. Leads view (λ x. x ≡ after) file) → SeenIn seen d (λ file. Leaves error view P file)
  left None view P d after h whole leads = let w = whole (λ e. cc) in (w.0, w.1, subst P (sym w.2) h)
  left (Some Failed) view P d after h whole leads = (leads.0, leads.1, inr (record { prefix = leads.2.prefix; rest = leads.2.rest; split = leads.2.split; whole = leads.2.whole; gives = subst P (sym leads.2.gives) h }))
  left (Some e) view P d after h whole leads = let w = whole (λ x. cc) in (w.0, w.1, subst P (sym w.2) h)

  -- what was made of the stores was made of their disks
  pub changed : (old new : Pair D) (logs after : Logs D) (error : Option BackupError) (N : Held → Held → Type 0) (O : Entries → Entries → Type 0) → Opened seen faults old logs → ChangesLogs seen faults logs after error N O → Closed seen faults after new → Changes seen faults old new error N O
  changed old new logs after error N O opened made closed = record {
    nodes = told_map (seen old.nodes) _ _ opened.nodes (λ file holds.
        let n = made.nodes (nodes_of file) holds in
        left error nodes_of (N (nodes_of file)) new.nodes n.0 n.2 (λ calm. closed.nodes n.0 n.1 (made.clean calm opened.clean).0)
        (subst (λ (d : D). SeenIn seen d (λ f. Leads nodes_of (λ x. x ≡ n.0) f)) (sym closed.same.0) (nodes_lead after.tree.store n.0 n.1)));
    objects = told_map (seen old.objects) _ _ opened.objects (λ file holds.
        let n = made.objects (entries_of file) holds in
        left error entries_of (O (entries_of file)) new.objects n.0 n.2 (λ calm. closed.objects n.0 n.1 (made.clean calm opened.clean).1)
        (subst (λ (d : D). SeenIn seen d (λ f. Leads entries_of (λ x. x ≡ n.0) f)) (sym closed.same.1) (log_leads after.backend.log n.0 n.1)));
    failed = λ is. by (made.failed is);
  }
    where
      by : Rose (faults logs.tree.store.log.file.disk) (faults after.tree.store.log.file.disk) ⊎ Rose (faults logs.backend.log.file.disk) (faults after.backend.log.file.disk) → PairRose seen faults old new
      by (inl rose) = inl (subst (λ (d : D). Rose (faults old.nodes) (faults d)) (sym closed.same.0) (rose_later seen faults _ _ _ opened.later.0 rose))
      by (inr rose) = inr (subst (λ (d : D). Rose (faults old.objects) (faults d)) (sym closed.same.1) (rose_later seen faults _ _ _ opened.later.1 rose))

  -- disks that hold what they held, hold what may be left of them
  pub changes_more : (old new : Pair D) (error : Option BackupError) (N N2 : Held → Held → Type 0) (O O2 : Entries → Entries → Type 0) → ((x y : Held) → N x y → N2 x y) → ((x y : Entries) → O x y → O2 x y)
      → Changes seen faults old new error N O → Changes seen faults old new error N2 O2
  changes_more old new error N N2 O O2 nodes objects h = record {
    nodes = told_map (seen old.nodes) _ _ h.nodes (λ file s. (s.0, s.1, leaves_more error nodes_of (N (nodes_of file)) (N2 (nodes_of file)) s.0 (nodes (nodes_of file)) s.2));
    objects = told_map (seen old.objects) _ _ h.objects (λ file s. (s.0, s.1, leaves_more error entries_of (O (entries_of file)) (O2 (entries_of file)) s.0 (objects (entries_of file)) s.2));
    failed = h.failed;
  }

  -- the top record was not read
  pub not_read : (logs after : Logs D) (e : TreeError) (top : Option (List ℕ)) → Reopened seen faults logs.tree.store after.tree.store (Err e) top → after.backend ≡ logs.backend → ChangesLogs seen faults logs after (Some (of_tree e)) Same Same
  not_read logs after e top opened same = record {
    nodes = λ held holds. (held, opened.holds held holds, refl);
    objects = λ held holds. (held, subst (λ (b : DiskBackend D). HoldsObjects seen b held) (sym same) holds, refl);
    clean = λ other clean. (opened.clean (λ x. other (ap Some (ap of_tree (tree_once e x)))) clean.0, subst (λ (b : DiskBackend D). IsClean b.log.file) (sym same) clean.1);
    failed = λ is. inl (opened.failed (ap Err (tree_failed e (some_failed (of_tree e) is))));
  }
    where
      tree_once : (x : TreeError) → ◌≡◌ {A = Result (Unit {0}) TreeError} (Err x) (Err trees.Failed) → x ≡ trees.Failed
      tree_once x e = cc

  -- what was made of the stores was made of the disks
  pub made : (old new : Pair D) (logs after : Logs D) (r : Result (Vec ℕ Global) BackupError) → Opened seen faults old logs → BacksLogs seen faults logs after r → Closed seen faults after new → Backs seen faults old new r
  made old new logs after r opened backs closed = record {
    may = backs.may;
    gives = told_both (seen old.nodes) (seen old.objects) _ _ _ opened.nodes opened.objects (λ file other holds also. backs.gives (nodes_of file) (entries_of other) holds also);
    changes = changed old new logs after (error_of r) Same Same opened backs.changes closed;
  }

  -- objects that were not written are on their disk
  pub kept_objects : (old new : Pair D) (logs after : Logs D) → Opened seen faults old logs → after.backend ≡ logs.backend → Closed seen faults after new → Became seen faults entries_of Same old.objects new.objects
  kept_objects old new logs after opened same closed =
      told_map (seen old.objects) _ _ opened.objects
      (λ file holds. closed.objects (entries_of file) (subst (λ (b : DiskBackend D). HoldsObjects seen b (entries_of file)) (sym same) holds) (subst (λ (b : DiskBackend D). IsClean b.log.file) (sym same) opened.clean.1))

  -- a content that was written into the stores was written to the disks
  pub rewritten : (content : Content) (old new : Pair D) (logs after : Logs D) (h k : PlainHasher) (r : Result (Unit {0}) BackupError) → IsMap content.entries → Opened seen faults old logs
      → RestoresDisks seen faults content.entries content.objects logs.tree.store after.tree.store h k logs.tree.top after.tree.top logs.backend after.backend r
      → OnOk r (after.tree.top ≡ Some (top_of content.entries)) → OnOk r (IsMap content.entries → IsSomeAnd after.tree.top (λ top. Stands (form_of Two) top content.entries))
      → (r ≡ Err Failed → Rose (faults logs.tree.store.log.file.disk) (faults after.tree.store.log.file.disk) ⊎ Rose (faults logs.backend.log.file.disk) (faults after.backend.log.file.disk))
      → Closed seen faults after new → Rewrites seen faults content old new r
  rewritten content old new logs after h k r is opened did top stands rose closed = record {
    outside = restores_outside seen faults content.entries content.objects logs.tree.store after.tree.store h k logs.tree.top after.tree.top logs.backend after.backend r did;
    stands = stands_under r content.entries after.tree.top is stands top;
    changes = changed old new logs after (error_of r) (NodesRestored content.entries (error_of r)) (ObjectsRestored content.objects (error_of r)) opened (record {
      nodes = λ held holds. restores_nodes seen faults content.entries content.objects logs.tree.store after.tree.store h k logs.tree.top after.tree.top logs.backend after.backend r held holds did;
      objects = λ held holds. restores_objects seen faults content.entries content.objects logs.tree.store after.tree.store h k logs.tree.top after.tree.top logs.backend after.backend r held holds did;
      clean = λ other clean. (
        restores_nodes_clean seen faults content.entries content.objects logs.tree.store after.tree.store h k logs.tree.top after.tree.top logs.backend after.backend r other clean.0 did,
        restores_objects_clean seen faults content.entries content.objects logs.tree.store after.tree.store h k logs.tree.top after.tree.top logs.backend after.backend r other clean.1 did,
      );
      failed = λ e. rose (failed_result r e);
    }) closed;
    order = in_order r did;
  }
    where
      in_order : (r : Result (Unit {0}) BackupError) → RestoresDisks seen faults content.entries content.objects logs.tree.store after.tree.store h k logs.tree.top after.tree.top logs.backend after.backend r → OnErr r (AreInOrder seen faults content.entries old new)
      in_order (Ok x) did = tt
      in_order (Err e) did = by (restores_in_order seen faults content.entries content.objects logs.tree.store after.tree.store h k logs.tree.top after.tree.top logs.backend after.backend e did)
        where
          by : (after.backend ≡ logs.backend) ⊎ (((held : Held) → HoldsNodes seen logs.tree.store held → HoldsNodes seen after.tree.store (rebuilt content.entries held)) × (IsClean logs.tree.store.log.file → IsClean after.tree.store.log.file)) → AreInOrder seen faults content.entries old new
          by (inl same) = inl (kept_objects old new logs after opened same closed)
          by (inr whole) = inr (told_map (seen old.nodes) _ _ opened.nodes (λ file holds. closed.nodes (rebuilt content.entries (nodes_of file)) (whole.0 (nodes_of file) holds) (whole.1 opened.clean.0)))

      failed_result : (r : Result (Unit {0}) BackupError) → error_of r ≡ Some Failed → r ≡ Err Failed
      failed_result (Ok x) is = absurd cc
      failed_result (Err e) is = ap Err (some_failed e is)

  -- disks that were not opened were not rewritten
  pub not_rewritten : (content : Content) (old new : Pair D) (e : BackupError) → IsFromOutside e → Changes seen faults old new (Some e) Same Same → Became seen faults entries_of Same old.objects new.objects → Rewrites seen faults content old new (Err e)
  not_rewritten content old new e out kept objects = record {
    outside = out;
    stands = tt;
    changes = changes_more old new (Some e) Same (NodesRestored content.entries (Some e)) Same (ObjectsRestored content.objects (Some e)) (λ x y is. inl (0, is)) (λ x y is. (0, is)) kept;
    order = inl objects;
  }
