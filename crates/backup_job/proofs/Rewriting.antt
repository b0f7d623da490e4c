-- What nodes and objects on disks hold after a restore.
use Rattle.std.proofs.Common.{◌≡◌, ◌≢◌, ◌⊎◌, ℕ, suc, List, [], ◌∷◌, take, Option, None, Some, Result, Ok, Err, refl, sym, ap, subst, ◌∙◌, inl, inr}
use Rattle.std.specs.Option.{IsSomeAnd}
use Rattle.std.specs.Prelude.{IfErr, OnOk}
use Rattle.ens_base.specs.declared.entry.Entry.{Entry}
use Rattle.hash_book.specs.declared.plain.PlainHasher.{PlainHasher}
use Rattle.stored_formats.specs.Objects.{object_spelling}
use Rattle.stored_formats.specs.declared.object.Object.{Object}
use Rattle.environment.specs.Maps.{Entries, with_value}
use Rattle.environment.specs.MemStores.{Held, nodes_after}
use Rattle.environment.specs.Stores.{SetTop, Write}
use Rattle.environment.specs.declared.errors.StoreError.{StoreError}
use Rattle.environment.specs.declared.errors.StoreError.TheVariants as stores
use Rattle.disk_stores.specs.LogFiles.{IsClean}
use Rattle.disk_stores.specs.DiskCalls.{HoldsNodes, HoldsObjects}
use Rattle.disk_stores.specs.declared.backend.DiskBackend.{DiskBackend}
use Rattle.disk_stores.specs.declared.nodes.DiskNodes.{DiskNodes}
use Rattle.synctree.specs.Installs.{install_plan}
use Rattle.synctree.specs.Meanings.{Enters}
use Rattle.synctree.specs.Plans.{Node, Hash, Ends, Stops, Did, ◌>>=◌}
use Rattle.synctree.specs.declared.error.TreeError.{TreeError}
use Rattle.synctree.specs.declared.error.TreeError.TheVariants as trees
use Rattle.synctree.specs.declared.stored_node.StoredNode.{StoredNode}
use Rattle.synctree.specs.Entries.{IsMap}
use Rattle.synctree.specs.Maps.{Stands}
use Rattle.synctree.specs.Sixteen.{form_of}
use Rattle.tree_node.specs.declared.position.Position.{Position}
use Rattle.tree_node.specs.declared.version.TreeVersion.TheVariants.{Two}
use Rattle.tree_repair.specs.Builds.{build_nodes}
use Rattle.tree_repair.specs.Rebuilds.{hash_all, rebuild_plan}
use Rattle.tree_backup.specs.Causes.{IsFromOutside, of_tree}
use Rattle.tree_backup.specs.Checks.{top_of}
use Rattle.tree_backup.specs.Runs.{Restores}
use Rattle.tree_backup.specs.Stores.{PutStops, Puts}
use Rattle.tree_backup.specs.declared.error.BackupError.{BackupError}
use Rattle.tree_backup.specs.declared.error.BackupError.TheVariants as errors
use Rattle.backup_job.specs.Disks.{error_of}
use Rattle.backup_job.specs.Restored.{NodesRestored, ObjectsRestored, built, nodes_with, objects_with, rebuilt}
use Rattle.backup_job.proofs.Holding.{Stores, did_clean, does, refused_holds, refuses}
use Rattle.backup_job.proofs.Remaining.{gets, loses}

module _ {D : Type 0} (seen : D → Option (List ℕ)) (faults : D → ℕ) where
  -- ---- nodes

  writes_end : (ns : List StoredNode) (top : List ℕ) (s t : Stores seen faults) (xs : List (List ℕ)) (out : Result (List ℕ) Position) (held : Held) → HoldsNodes seen s.0 held → Ends (does seen faults) (install_plan ns top) s xs out t
      → HoldsNodes seen t.0 (nodes_after (nodes_with ns held) (SetTop top))
  writes_end [] top s t xs out held holds (answer, u, rest, did, is, (none, e, same)) = subst (λ (v : Stores seen faults). HoldsNodes seen v.0 (nodes_after held (SetTop top))) (sym same) (did.0.holds held holds)
  writes_end (n ∷ ns) top s t xs out held holds (answer, u, rest, did, is, more) = writes_end ns top u t rest out (nodes_after held (Write n.digest n.bytes)) (did.0.holds held holds) more

  hashes_end : (ys : List (List ℕ)) (ns : List StoredNode) (top : List ℕ) (s t : Stores seen faults) (xs : List (List ℕ)) (out : Result (List ℕ) Position) (held : Held) → HoldsNodes seen s.0 held
      → Ends (does seen faults) (hash_all ys >>= (λ _. install_plan ns top)) s xs out t → HoldsNodes seen t.0 (nodes_after (nodes_with ns held) (SetTop top))
  hashes_end [] ns top s t xs out held holds ends = writes_end ns top s t xs out held holds ends
  hashes_end (y ∷ ys) ns top s t xs out held holds (answer, u, rest, did, is, more) = hashes_end ys ns top u t rest out held (subst (λ (n : DiskNodes D). HoldsNodes seen n held) (sym did.0) holds) more

  -- some first nodes, or all and the top record
  record Part (ns : List StoredNode) (top : List ℕ) (held : Held) (t : DiskNodes D) : Type 0 where
    pub after : Held
    pub holds : HoldsNodes seen t after
    pub part : ((n : ℕ) × (after ≡ nodes_with (take n ns) held)) ⊎ (after ≡ nodes_after (nodes_with ns held) (SetTop top))

  none_yet : (ns : List StoredNode) (top : List ℕ) (held : Held) (t : DiskNodes D) → HoldsNodes seen t held → Part ns top held t
  none_yet ns top held t holds = record { after = held; holds = holds; part = inl (0, refl) }

  one_more : (n : StoredNode) (ns : List StoredNode) (top : List ℕ) (held : Held) (t : DiskNodes D) → Part ns top (nodes_after held (Write n.digest n.bytes)) t → Part (n ∷ ns) top held t
  one_more n ns top held t p = record { after = p.after; holds = p.holds; part = by p.part }
    where
      by : ((k : ℕ) × (p.after ≡ nodes_with (take k ns) (nodes_after held (Write n.digest n.bytes)))) ⊎ (p.after ≡ nodes_after (nodes_with ns (nodes_after held (Write n.digest n.bytes))) (SetTop top))
          → ((k : ℕ) × (p.after ≡ nodes_with (take k (n ∷ ns)) held)) ⊎ (p.after ≡ nodes_after (nodes_with (n ∷ ns) held) (SetTop top))
      by (inl (k, is)) = inl (suc k, is)
      by (inr is) = inr is

  writes_stop : (ns : List StoredNode) (top : List ℕ) (s t : Stores seen faults) (e : TreeError) (held : Held) → HoldsNodes seen s.0 held → Stops (does seen faults) (refuses seen faults) (install_plan ns top) s e t → Part ns top held t.0
  writes_stop [] top s t e held holds (inl (is, same)) = none_yet [] top held t.0 (subst (λ (v : Stores seen faults). HoldsNodes seen v.0 held) (sym same) holds)
  writes_stop [] top s t e held holds (inr (inl off)) = none_yet [] top held t.0 (refused_holds seen faults s (Node (SetTop top)) e t held off holds)
  writes_stop [] top s t e held holds (inr (inr (answer, u, did, (is, same)))) = record {
    after = nodes_after held (SetTop top);
    holds = subst (λ (v : Stores seen faults). HoldsNodes seen v.0 (nodes_after held (SetTop top))) (sym same) (did.0.holds held holds);
    part = inr refl;
  }
  writes_stop (n ∷ ns) top s t e held holds (inl (is, same)) = none_yet (n ∷ ns) top held t.0 (subst (λ (v : Stores seen faults). HoldsNodes seen v.0 held) (sym same) holds)
  writes_stop (n ∷ ns) top s t e held holds (inr (inl off)) = none_yet (n ∷ ns) top held t.0 (refused_holds seen faults s (Node (Write n.digest n.bytes)) e t held off holds)
  writes_stop (n ∷ ns) top s t e held holds (inr (inr (answer, u, did, more))) =
      one_more n ns top held t.0 (writes_stop ns top u t e (nodes_after held (Write n.digest n.bytes)) (did.0.holds held holds) more)

  hashes_stop : (ys : List (List ℕ)) (ns : List StoredNode) (top : List ℕ) (s t : Stores seen faults) (e : TreeError) (held : Held) → HoldsNodes seen s.0 held
      → Stops (does seen faults) (refuses seen faults) (hash_all ys >>= (λ _. install_plan ns top)) s e t → Part ns top held t.0
  hashes_stop [] ns top s t e held holds stops = writes_stop ns top s t e held holds stops
  hashes_stop (y ∷ ys) ns top s t e held holds (inl (is, same)) = none_yet ns top held t.0 (subst (λ (v : Stores seen faults). HoldsNodes seen v.0 held) (sym same) holds)
  hashes_stop (y ∷ ys) ns top s t e held holds (inr (inl off)) = none_yet ns top held t.0 (refused_holds seen faults s (Hash y) e t held off holds)
  hashes_stop (y ∷ ys) ns top s t e held holds (inr (inr (answer, u, did, more))) = hashes_stop ys ns top u t e held (subst (λ (n : DiskNodes D). HoldsNodes seen n held) (sym did.0) holds) more

  -- ---- objects

  puts_told : (os : List Object) (b c : DiskBackend D) (held : Entries) → HoldsObjects seen b held → Puts (gets seen faults) os b c → HoldsObjects seen c (objects_with os held)
  puts_told [] b c held holds same = subst (λ (u : DiskBackend D). HoldsObjects seen u held) (sym same) holds
  puts_told (o ∷ os) b c held holds (u, did, more) = puts_told os u c (with_value o.key (object_spelling o) held) (did.holds held holds) more

  puts_clean : (os : List Object) (b c : DiskBackend D) → IsClean b.log.file → Puts (gets seen faults) os b c → IsClean c.log.file
  puts_clean [] b c clean same = subst (λ (u : DiskBackend D). IsClean u.log.file) (sym same) clean
  puts_clean (o ∷ os) b c clean (u, did, more) = puts_clean os u c (did.clean clean) more

  puts_stop : (os : List Object) (b c : DiskBackend D) (e : StoreError) (held : Entries) → HoldsObjects seen b held → PutStops (gets seen faults) (loses seen faults) os b e c → (n : ℕ) × HoldsObjects seen c (objects_with (take n os) held)
  puts_stop [] b c e held holds (is, same) = (0, subst (λ (u : DiskBackend D). HoldsObjects seen u held) (sym same) holds)
  puts_stop (o ∷ os) b c e held holds (inl (is, same)) = (0, subst (λ (u : DiskBackend D). HoldsObjects seen u held) (sym same) holds)
  puts_stop (o ∷ os) b c e held holds (inr (inl off)) = (0, off.holds held holds)
  puts_stop (o ∷ os) b c e held holds (inr (inr (u, did, more))) =
      let later = puts_stop os u c e (with_value o.key (object_spelling o) held) (did.holds held holds) more in
      (suc later.0, later.1)

  stops_clean : (os : List Object) (b c : DiskBackend D) → IsClean b.log.file → PutStops (gets seen faults) (loses seen faults) os b stores.Memory c → IsClean c.log.file
  stops_clean [] b c clean (is, same) = subst (λ (u : DiskBackend D). IsClean u.log.file) (sym same) clean
  stops_clean (o ∷ os) b c clean (inl (is, same)) = subst (λ (u : DiskBackend D). IsClean u.log.file) (sym same) clean
  stops_clean (o ∷ os) b c clean (inr (inl off)) = subst IsClean (sym (off.memory refl)) clean
  stops_clean (o ∷ os) b c clean (inr (inr (u, did, more))) = stops_clean os u c (did.clean clean) more

  -- ---- a restore of these entries and objects

  module _ (es : List Entry) (os : List Object) (m0 m : DiskNodes D) (h0 k : PlainHasher) (old new : Option (List ℕ)) (b c : DiskBackend D) where
    abbrev Built : Result (List ℕ) TreeError → Type 0
    Built x = Did (does seen faults) (refuses seen faults) (rebuild_plan (form_of Two) es) (m0, h0) x (m, k)

    abbrev Entered : Result (Unit {0}) TreeError → Type 0
    Entered r = Enters Built old r new

    abbrev pub RestoresDisks : Result (Unit {0}) BackupError → Type 0
    RestoresDisks r = Restores Entered (gets seen faults) (loses seen faults) os b r c

    entered : (held : Held) → HoldsNodes seen m0 held → Entered (Ok tt) → HoldsNodes seen m (rebuilt es held)
    entered held holds did = by new did
      where
        by : (o : Option (List ℕ)) → IsSomeAnd o (λ digest. Built (Ok digest)) → HoldsNodes seen m (rebuilt es held)
        by None none = absurd none
        by (Some digest) (xs, ends) = hashes_end (build_nodes (form_of Two) es) (built es) (top_of es) (m0, h0) (m, k) xs (Ok digest) held holds ends

    broken : (e : TreeError) (held : Held) → HoldsNodes seen m0 held → IsFromOutside (of_tree e) → Built (Err e) → Part (built es) (top_of es) held m
    broken (trees.Damaged at) held holds out did = absurd out
    broken trees.Failed held holds out did = hashes_stop (build_nodes (form_of Two) es) (built es) (top_of es) (m0, h0) (m, k) trees.Failed held holds did
    broken (trees.Clash first second) held holds out did = hashes_stop (build_nodes (form_of Two) es) (built es) (top_of es) (m0, h0) (m, k) (trees.Clash first second) held holds did
    broken (trees.BookFull n) held holds out did = hashes_stop (build_nodes (form_of Two) es) (built es) (top_of es) (m0, h0) (m, k) (trees.BookFull n) held holds did
    broken trees.Memory held holds out did = hashes_stop (build_nodes (form_of Two) es) (built es) (top_of es) (m0, h0) (m, k) trees.Memory held holds did

    entered_clean : IsClean m0.log.file → Entered (Ok tt) → IsClean m.log.file
    entered_clean clean did = by new did
      where
        by : (o : Option (List ℕ)) → IsSomeAnd o (λ digest. Built (Ok digest)) → IsClean m.log.file
        by None none = absurd none
        by (Some digest) went = did_clean seen faults (rebuild_plan (form_of Two) es) (m0, h0) (m, k) (Ok digest) went (λ e. cc) clean

    pub restores_nodes : (r : Result (Unit {0}) BackupError) (held : Held) → HoldsNodes seen m0 held → RestoresDisks r → (after : Held) × HoldsNodes seen m after × NodesRestored es (error_of r) held after
    restores_nodes (Ok x) held holds (did, puts) = (rebuilt es held, entered held holds did, refl)
    restores_nodes (Err e) held holds (out, inl (error, is, did, same)) =
        let p = broken error held holds (subst IsFromOutside (sym is) out) did.0 in
        (p.after, p.holds, p.part)
    restores_nodes (Err e) held holds (out, inr (error, is, did, stops)) = (rebuilt es held, entered held holds did, inr refl)

    pub restores_objects : (r : Result (Unit {0}) BackupError) (held : Entries) → HoldsObjects seen b held → RestoresDisks r → (after : Entries) × HoldsObjects seen c after × ObjectsRestored os (error_of r) held after
    restores_objects (Ok x) held holds (did, puts) = (objects_with os held, puts_told os b c held holds puts, refl)
    restores_objects (Err e) held holds (out, inl (error, is, did, same)) = (held, subst (λ (u : DiskBackend D). HoldsObjects seen u held) (sym same) holds, (0, refl))
    restores_objects (Err e) held holds (out, inr (error, is, did, stops)) =
        let p = puts_stop os b c error held holds stops in
        (objects_with (take p.0 os) held, p.1, (p.0, refl))

    pub restores_nodes_clean : (r : Result (Unit {0}) BackupError) → error_of r ≢ Some errors.Failed → IsClean m0.log.file → RestoresDisks r → IsClean m.log.file
    restores_nodes_clean (Ok x) other clean (did, puts) = entered_clean clean did
    restores_nodes_clean (Err e) other clean (out, inl (error, is, did, same)) =
        did_clean seen faults (rebuild_plan (form_of Two) es) (m0, h0) (m, k) (Err error) did.0 (λ x. other (ap Some (sym is ∙ ap of_tree (tree_once error x)))) clean
      where
        tree_once : (x : TreeError) → ◌≡◌ {A = Result (List ℕ) TreeError} (Err x) (Err trees.Failed) → x ≡ trees.Failed
        tree_once x e = cc
    restores_nodes_clean (Err e) other clean (out, inr (error, is, did, stops)) = entered_clean clean did

    pub restores_objects_clean : (r : Result (Unit {0}) BackupError) → error_of r ≢ Some errors.Failed → IsClean b.log.file → RestoresDisks r → IsClean c.log.file
    restores_objects_clean (Ok x) other clean (did, puts) = puts_clean os b c clean puts
    restores_objects_clean (Err e) other clean (out, inl (error, is, did, same)) = subst (λ (u : DiskBackend D). IsClean u.log.file) (sym same) clean
    restores_objects_clean (Err e) other clean (out, inr (stores.Failed, is, did, stops)) = absurd (other (ap Some (sym is)))
    restores_objects_clean (Err e) other clean (out, inr (stores.Memory, is, did, stops)) = stops_clean os b c clean stops

    -- after an error no object was stored, or all nodes were written
    pub restores_in_order : (e : BackupError) → RestoresDisks (Err e) → (c ≡ b) ⊎ (((held : Held) → HoldsNodes seen m0 held → HoldsNodes seen m (rebuilt es held)) × (IsClean m0.log.file → IsClean m.log.file))
    restores_in_order e (out, inl (error, is, did, same)) = inl same
    restores_in_order e (out, inr (error, is, did, stops)) = inr (λ held holds. entered held holds did, λ clean. entered_clean clean did)

    pub restores_outside : (r : Result (Unit {0}) BackupError) → RestoresDisks r → IfErr r IsFromOutside
    restores_outside (Ok x) did = tt
    restores_outside (Err e) did = did.0

-- the map stands under the top record that was written
pub stands_under : (r : Result (Unit {0}) BackupError) (es : List Entry) (new : Option (List ℕ)) → IsMap es → OnOk r (IsMap es → IsSomeAnd new (λ top. Stands (form_of Two) top es)) → OnOk r (new ≡ Some (top_of es)) → OnOk r (Stands (form_of Two) (top_of es) es)
stands_under (Ok x) es new is stands top = rw top at (stands is)
stands_under (Err e) es new is stands top = tt
