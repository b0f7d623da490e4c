-- The version of the tree that a store of nodes holds.
use Rattle.std.proofs.Common.{◌≡◌, ◌≤◌, ℕ, Bool, true, false, List, Option, None, Some, Result, Ok, Err, refl, sym, ap, subst, ◌∙◌, arith}
use Rattle.std.specs.Prelude.{cond, IfErr, OnOk}
use Rattle.md5.specs.Md5.{md5}
use Rattle.ens_base.specs.Lists.{same_bytes}
use Rattle.hash_book.specs.declared.plain.PlainHasher.{PlainHasher}
use Rattle.environment.specs.MemStores.{Held}
use Rattle.disk_stores.specs.DiskCalls.{HoldsNodes}
use Rattle.disk_stores.specs.declared.nodes.DiskNodes.{DiskNodes}
use Rattle.synctree.specs.Plans.{Done, Broken, Did, ◌>>=◌}
use Rattle.synctree.specs.Shapes.{shape_plan, version_in}
use Rattle.synctree.specs.Walks.{spelled, verified}
use Rattle.synctree.specs.declared.error.TreeError.{TreeError}
use Rattle.synctree.specs.declared.error.TreeError.TheVariants as trees
use Rattle.synctree.specs.declared.tree.Tree.{Tree}
use Rattle.tree_backup.specs.Causes.{IsFromOutside, of_tree}
use Rattle.synctree.specs.Forms.{root}
use Rattle.tree_node.specs.declared.position.Position.{Position}
use Rattle.tree_node.specs.declared.version.TreeVersion.{TreeVersion}
use Rattle.backup_job.specs.Backed.{Shapes, Takes, node_in, version_of, version_under}
use Rattle.backup_job.proofs.Holding.{Reopened, did_break, did_clean, did_holds, did_later, did_rose, did_value, does, reading, refuses, rose_later}

-- the version, or the root as damaged
abbrev pub shaped : Option TreeVersion → Result TreeVersion Position
shaped None = Err root
shaped (Some version) = Ok version

spelled_shape : (has : List ℕ → Option (List ℕ)) (o : Option TreeVersion) → reading has (spelled root o) ≡ Some (shaped o)
spelled_shape has None = refl
spelled_shape has (Some version) = refl

verified_shape : (has : List ℕ → Option (List ℕ)) (bytes : List ℕ) (b : Bool)
    → reading has (cond b (Done bytes) (Broken root) >>= (λ read. spelled root (version_in read))) ≡ Some (shaped (cond b (version_in bytes) None))
verified_shape has bytes true = spelled_shape has (version_in bytes)
verified_shape has bytes false = refl

-- the plan that looks for the version finds it in what is stored
pub shape_read : (has : List ℕ → Option (List ℕ)) (top : Option (List ℕ)) → reading has (shape_plan top) ≡ Some (shaped (version_under has top))
shape_read has None = refl
shape_read has (Some digest) = by (has digest)
  where
    by : (o : Option (List ℕ)) → reading has (verified root digest o >>= (λ bytes. spelled root (version_in bytes))) ≡ Some (shaped (version_of digest o))
    by None = refl
    by (Some bytes) = verified_shape has bytes (same_bytes (md5 bytes) digest)

tree_once : {A : Type 0} (x y : TreeError) → ◌≡◌ {A = Result A TreeError} (Err x) (Err y) → x ≡ y
tree_once x y e = cc

-- the root is damaged exactly if it verifies in no version
broke : (at : Position) (found : Option TreeVersion) → ◌≡◌ {A = Result TreeVersion Position} (Err at) (shaped found) → (at ≡ root) × (found ≡ None)
broke at None e = (cc, refl)
broke at (Some version) e = absurd cc

took : (version : TreeVersion) (found : Option TreeVersion) → ◌≡◌ {A = Result TreeVersion Position} (Ok version) (shaped found) → found ≡ Some version
took version None e = absurd cc
took version (Some v) e = cc

module _ {D : Type 0} (seen : D → Option (List ℕ)) (faults : D → ℕ) where
  abbrev Looked : Tree (DiskNodes D) → Tree (DiskNodes D) → PlainHasher → PlainHasher → Result TreeVersion TreeError → Type 0
  Looked old new h k r = Did (does seen faults) (refuses seen faults) (shape_plan old.top) (old.store, h) r (new.store, k)

  looked_read : (old : Tree (DiskNodes D)) (held : Held) → old.top ≡ old.store.top → HoldsNodes seen old.store held → reading (node_in held) (shape_plan old.top) ≡ Some (shaped (version_under (node_in held) held.top))
  looked_read old held under holds = rw (under ∙ holds.top) (shape_read (node_in held) held.top)

  -- no version was found, or the look was stopped
  pub shapes_err : (old new : Tree (DiskNodes D)) (h k : PlainHasher) (e : TreeError) → old.top ≡ old.store.top → Looked old new h k (Err e) → Shapes seen faults old new (Err e)
  shapes_err old new h k e under did = record {
    holds = λ held holds. did_holds seen faults (shape_plan old.top) (old.store, h) (new.store, k) (Err e) (shaped (version_under (node_in held) held.top)) held (looked_read old held under holds) holds did;
    takes = λ held holds. by held holds e did;
    top = tt;
    clean = λ other clean. did_clean seen faults (shape_plan old.top) (old.store, h) (new.store, k) (Err e) did (λ x. other (ap Err (tree_once e trees.Failed x))) clean;
    later = did_later seen faults (shape_plan old.top) (old.store, h) (new.store, k) (Err e) did;
    failed = λ is. did_rose seen faults (shape_plan old.top) (old.store, h) (new.store, k) (subst (λ (x : TreeError). Looked old new h k (Err x)) (tree_once e trees.Failed is) did);
  }
    where
      by : (held : Held) → HoldsNodes seen old.store held → (e : TreeError) → Looked old new h k (Err e) → Takes (version_under (node_in held) held.top) new.version (Err e)
      by held holds (trees.Damaged at) did =
          broke at (version_under (node_in held) held.top) (did_break seen faults (shape_plan old.top) (old.store, h) (new.store, k) at (shaped (version_under (node_in held) held.top)) held (looked_read old held under holds) holds did)
      by held holds e did = tt

  -- a version was found, and the tree opened in it
  pub shapes_ok : (old mid new : Tree (DiskNodes D)) (h k : PlainHasher) (version : TreeVersion) (r : Result (Unit {0}) TreeError) → old.top ≡ old.store.top → Looked old mid h k (Ok version) → Reopened seen faults mid.store new.store r new.top → OnOk r (new.version ≡ version)
      → Shapes seen faults old new r
  shapes_ok old mid new h k version r under did opened is = record {
    holds = λ held holds. opened.holds held (kept held holds);
    takes = λ held holds. by held holds r is opened.outside;
    top = opened.top;
    clean = λ other clean. opened.clean other (did_clean seen faults (shape_plan old.top) (old.store, h) (mid.store, k) (Ok version) did (λ x. absurd (ok_err x)) clean);
    later = omega (arith, later, opened.later);
    failed = λ e. rose_later seen faults _ _ _ later (opened.failed e);
  }
    where
      ok_err : ◌≡◌ {A = Result TreeVersion TreeError} (Ok version) (Err trees.Failed) → ⊥
      ok_err e = cc

      later : faults old.store.log.file.disk ≤ faults mid.store.log.file.disk
      later = did_later seen faults (shape_plan old.top) (old.store, h) (mid.store, k) (Ok version) did

      kept : (held : Held) → HoldsNodes seen old.store held → HoldsNodes seen mid.store held
      kept held holds = did_holds seen faults (shape_plan old.top) (old.store, h) (mid.store, k) (Ok version) (shaped (version_under (node_in held) held.top)) held (looked_read old held under holds) holds did

      by : (held : Held) → HoldsNodes seen old.store held → (r : Result (Unit {0}) TreeError) → OnOk r (new.version ≡ version) → IfErr r (λ e. IsFromOutside (of_tree e)) → Takes (version_under (node_in held) held.top) new.version r
      by held holds (Ok x) is out =
          took version (version_under (node_in held) held.top) (did_value seen faults (shape_plan old.top) (old.store, h) (mid.store, k) version (shaped (version_under (node_in held) held.top)) held (looked_read old held under holds) holds did) ∙ ap Some (sym is)
      by held holds (Err (trees.Damaged at)) is out = absurd out
      by held holds (Err e) is out = tt
