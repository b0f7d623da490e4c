-- The calls of a tree, which set the top record last.
use Rattle.std.specs.Option.{IsSomeAnd}
use Rattle.std.proofs.Common.{OnOk, ◌≡◌, ◌⊎◌, ℕ, List, [], Option, None, Some, Result, Ok, Err, refl, sym, subst, inl, inr, arith}
use Rattle.md5.specs.Md5.{md5}
use Rattle.ens_base.specs.Lists.{◌∈◌}
use Rattle.ens_base.specs.declared.entry.Entry.{Entry}
use Rattle.fields.specs.Entries.{IsEntry}
use Rattle.hash_book.specs.Hashing.{Book}
use Rattle.environment.specs.Stores.{NodeCall, NodeAnswer, SetTop, SetsTop}
use Rattle.environment.specs.Told.{StaysTold}
use Rattle.environment.specs.declared.errors.StoreError.{StoreError}
use Rattle.environment.specs.declared.errors.StoreError.TheVariants as stores
use Rattle.tree_node.specs.declared.version.TreeVersion.{TreeVersion}
use Rattle.synctree.specs.Entries.{put}
use Rattle.synctree.specs.Forms.{Form, Laws, root}
use Rattle.synctree.specs.Maps.{text, Stands}
use Rattle.synctree.specs.Sixteen.{form_of}
use Rattle.synctree.proofs.Formats.{form_laws}
use Rattle.synctree.proofs.Parts.{map_put}
use Rattle.synctree.proofs.Unique.{root_place}
use Rattle.synctree.specs.Installs.{store_does, store_refuses, write_all, install_plan}
use Rattle.synctree.specs.Meanings.{Enters, Inserts}
use Rattle.synctree.specs.Outsides.{outside_does, outside_refuses}
use Rattle.synctree.specs.Plans.{Call, Node, AnswerOf, ◌>>=◌, Ends, Did}
use Rattle.synctree.specs.Trees.{insert_plan, fresh_plan}
use Rattle.synctree.specs.Walks.{store, set_top}
use Rattle.synctree.specs.declared.error.TreeError.{TreeError}
use Rattle.synctree.specs.declared.error.TreeError.TheVariants.{Damaged, Failed, Clash, BookFull, Memory}
use Rattle.synctree.specs.declared.stored_node.StoredNode.{StoredNode}
use Rattle.synctree.proofs.Meaning.{ok_once}
use Rattle.synctree.proofs.Records.{memory_top, write_all_none, store_none, store_sparing, outside_sparing}
use Rattle.synctree.proofs.Standing.{enter_is}
use Rattle.tree_repair.specs.Tops.{HoldsTop, LeavesTop, NamesPut, IsRootWith, Entered, path_plan}
use Rattle.tree_repair.proofs.Setting.{IsLate, Keeping, leaves, path_none}

-- what a failed write of the record leaves: the old one or the new one
failed_top : (old new : Option (Option (List ℕ))) (digest : List ℕ) → SetsTop {T = Unit {0}} old new digest (Err stores.Failed) → StaysTold old new ⊎ (Unit {0} × HoldsTop old new digest)
failed_top None new digest h = inl tt
failed_top (Some top) new digest (inl is) = inl is
failed_top (Some top) new digest (inr is) = inr (tt, is)

module _ {N : Type 0} (may : N → (call : NodeCall) → NodeAnswer call → N → Type 0) (loses : N → NodeCall → StoreError → N → Type 0) (top : N → Option (Option (List ℕ))) (faults : N → ℕ) where
  store_keeping : Keeping top (store_does may top faults) (store_refuses loses top faults)
  store_keeping = record { sparing = store_sparing may loses top faults; sets = λ s t digest (m, holds, f). holds; set_refused = at_top }
    where
      at_top : (s t : N) (digest : List ℕ) (e : TreeError) → store_refuses loses top faults s (Node (SetTop digest)) e t → StaysTold (top s) (top t) ⊎ (IsLate e × HoldsTop (top s) (top t) digest)
      at_top s t digest Failed (m, sets, f, rose) = failed_top (top s) (top t) digest sets
      at_top s t digest Memory (m, sets, f) = inl (memory_top (top s) (top t) digest sets)
      at_top s t digest (Damaged at) d = absurd d
      at_top s t digest (Clash first second) d = absurd d
      at_top s t digest (BookFull bytes) d = absurd d

  pub install_leaves : (nodes : List StoredNode) (digest : List ℕ) (s t : N) (r : Result (List ℕ) TreeError) → Did (store_does may top faults) (store_refuses loses top faults) (install_plan nodes digest) s r t → LeavesTop (λ new. new ≡ digest) (top s) (top t) r
  install_leaves nodes digest s t r did = leaves top (store_does may top faults) (store_refuses loses top faults) store_keeping (write_all nodes) (λ _. digest) s (λ new. new ≡ digest) (λ x xs u ends. refl) (write_all_none nodes) r t did

  module _ {H : Type 0} (kept : H → Option Book) (clashes fulls : H → ℕ) where
    abbrev Does : N × H → (call : Call) → AnswerOf call → N × H → Type 0
    Does = outside_does may top faults kept clashes fulls

    abbrev Refuses : N × H → Call → TreeError → N × H → Type 0
    Refuses = outside_refuses loses top faults kept clashes fulls

    outside_keeping : Keeping (λ (s : N × H). top s.0) Does Refuses
    outside_keeping = record { sparing = outside_sparing may loses top faults kept clashes fulls; sets = λ s t digest (m, holds, f, same). holds; set_refused = at_top }
      where
        at_top : (s t : N × H) (digest : List ℕ) (e : TreeError) → Refuses s (Node (SetTop digest)) e t → StaysTold (top s.0) (top t.0) ⊎ (IsLate e × HoldsTop (top s.0) (top t.0) digest)
        at_top s t digest Failed (m, sets, f, rose, same) = failed_top (top s.0) (top t.0) digest sets
        at_top s t digest Memory (m, sets, f, same) = inl (memory_top (top s.0) (top t.0) digest sets)
        at_top s t digest (Damaged at) d = absurd d
        at_top s t digest (Clash first second) d = absurd d
        at_top s t digest (BookFull bytes) d = absurd d

    pub fresh_leaves : (tree : TreeVersion) (s t : N × H) (r : Result (List ℕ) TreeError) → Did Does Refuses (fresh_plan (form_of tree)) s r t → LeavesTop (λ new. Stands (form_of tree) new []) (top s.0) (top t.0) r
    fresh_leaves tree s t r did = leaves (λ (u : N × H). top u.0) Does Refuses outside_keeping (store (text (form_of tree) (form_of tree).depth root [])) (λ x. x) s (λ new. Stands (form_of tree) new []) names (store_none (text (form_of tree) (form_of tree).depth root [])) r t did
      where
        names : (new : List ℕ) (xs : List (List ℕ)) (u : N × H) → Ends Does (store (text (form_of tree) (form_of tree).depth root [])) s xs (Ok new) u → Stands (form_of tree) new []
        names new xs u (a, v, rest, d, e, (b, w, more, d', e', (n, is, same))) = record { is_map = record { ascends = tt; entries = tt; few = omega arith }; root_is = ok_once new (md5 (text (form_of tree) (form_of tree).depth root [])) is }

    -- the digest of the new root names the map with the entry
    path_names : (F : Form) (laws : Laws F) (old : Option (List ℕ)) (e : Entry) (s u : N × H) (xs : List (List ℕ)) (new : List ℕ) → IsEntry e → Ends Does (path_plan F old e) s xs (Ok new) u → NamesPut xs F old e new
    path_names F laws old e s u xs new fits ends digest m is stands few apart =
        let named : Ends Does (path_plan F (Some digest) e) s xs (Ok new) u = subst (λ (o : Option (List ℕ)). Ends Does (path_plan F o e) s xs (Ok new) u) is ends in
        record { is_map = map_put e m fits few stands.is_map; root_is = by named }
      where
        by : Ends Does (path_plan F (Some digest) e) s xs (Ok new) u → new ≡ md5 (text F F.depth root (put e m))
        by (a, v, rest, d, eq, more) = enter_is F laws Does F.depth root (Some digest) e m v u rest new (root_place F) stands.is_map stands.root_is (λ x y i n. apart x y (subst (λ zs. x ∈ zs) (sym eq) (inr i)) n) more

    pub insert_leaves : (tree : TreeVersion) (old : Option (List ℕ)) (e : Entry) (s t : N × H) (r : Result (List ℕ) TreeError) → IsEntry e → Did Does Refuses (insert_plan (form_of tree) old e) s r t → LeavesTop (IsRootWith Does (form_of tree) old e s) (top s.0) (top t.0) r
    insert_leaves tree old e s t r fits did = leaves (λ (u : N × H). top u.0) Does Refuses outside_keeping (path_plan (form_of tree) old e) (λ x. x) s (IsRootWith Does (form_of tree) old e s) as_root (path_none (form_of tree) old e) r t (as_path old did)
      where
        as_root : (new : List ℕ) (xs : List (List ℕ)) (u : N × H) → Ends Does (path_plan (form_of tree) old e) s xs (Ok new) u → IsRootWith Does (form_of tree) old e s new
        as_root new xs u ends = record { strings = xs; written = u; ends = ends; names = path_names (form_of tree) (form_laws tree) old e s u xs new fits ends }

        as_path : (o : Option (List ℕ)) → Did Does Refuses (insert_plan (form_of tree) o e) s r t → Did Does Refuses (path_plan (form_of tree) o e >>= set_top) s r t
        as_path None d = d
        as_path (Some digest) d = d

    -- an insert ended so, and so it leaves the top record
    pub insert_changes : (tree : TreeVersion) (old : Option (List ℕ)) (e : Entry) (s t : N × H) → IsEntry e → (r : Result (Unit {0}) TreeError) (new : Option (List ℕ)) → Enters (λ q. Did Does Refuses (insert_plan (form_of tree) old e) s q t) old r new → Enters (LeavesTop (IsRootWith Does (form_of tree) old e s) (top s.0) (top t.0)) old r new
    insert_changes tree old e s t fits (Ok u) None did = absurd did
    insert_changes tree old e s t fits (Ok u) (Some digest) did = insert_leaves tree old e s t (Ok digest) fits did
    insert_changes tree old e s t fits (Err error) new did = (insert_leaves tree old e s t (Err error) fits did.0, did.1)

    -- an insert of an entry that fits
    pub insert_enters : (tree : TreeVersion) (old : Option (List ℕ)) (e : Entry) (s t : N × H) → IsEntry e → (r : Result (Unit {0}) TreeError) (new : Option (List ℕ))
        → OnOk r (IsSomeAnd new (λ digest. Inserts Does (form_of tree) old e s digest t)) → OnOk r (IsSomeAnd new (λ digest. Entered Does (form_of tree) old e s digest t))
    insert_enters tree old e s t fits (Ok u) None h = absurd h
    insert_enters tree old e s t fits (Ok u) (Some digest) h = record { strings = h.strings; ends = h.ends; names = λ d m is stands few apart. h.stands d m is stands fits few apart }
    insert_enters tree old e s t fits (Err error) new h = tt
