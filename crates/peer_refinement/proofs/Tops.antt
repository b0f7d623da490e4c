-- What each call does to the top records.
use Rattle.std.proofs.Common.{◌≡◌, ◌⊎◌, ℕ, zero, suc, ◌-◌, ◌<◌, ◌^◌, List, [], ◌∷◌, ◌++◌, Option, Some, length, refl, ap, sym, ◌∙◌, subst, arith, inl, inr}
use Rattle.ens_base.proofs.Lists.{in_left, in_right}
use Rattle.std.specs.Prelude.{max, slice_get, take}
use Rattle.ens_base.specs.declared.entry.Entry.{Entry}
use Rattle.ens_base.specs.Lists.{◌∈◌}
use Rattle.fields.specs.Entries.{IsEntry}
use Rattle.world_spec.specs.Answers.{entered, done, root_after, version_opened, with_tree, walked}
use Rattle.world_spec.specs.Held.{Held}
use Rattle.world_spec.specs.Walks.{End, Came, Broke, Failed, Walk}
use Rattle.step_plans.specs.Calls.{Load, Save, FreshTree, OpenTree, Root, Find, Enter, ScanTree, ReadNode, Install, Fetch, Put, Hash}
use Rattle.step_plans.specs.declared.error.PeerError.TheVariants.{StoreFault}
use Rattle.world_spec.specs.PeerSpec.{position_plan}
use Rattle.tree_node.specs.declared.version.TreeVersion.{TreeVersion}
use Rattle.synctree.specs.Plans.{Plan}
use Rattle.synctree.specs.Trees.{fresh_plan, get_plan, insert_plan}
use Rattle.synctree.proofs.Meaning.{fresh_stands}
use Rattle.synctree.proofs.Standing.{insert_stands}
use Rattle.synctree.specs.Entries.{put}
use Rattle.synctree.specs.Forms.{root}
use Rattle.synctree.specs.Maps.{IsNode, Stands}
use Rattle.synctree.specs.Sixteen.{form_of}
use Rattle.synctree.proofs.Formats.{form_laws}
use Rattle.world_stores.specs.TreeRepair.{rebuild_plan}
use Rattle.tree_repair.specs.Levels.{scan_plan}
use Rattle.world_stores.specs.Nodes.{Nodes, top_of, reverted}
use Rattle.peer_refinement.specs.Trees.{AreAmong, AreFree, Shows, form_in}
use Rattle.peer_refinement.specs.Tops.{tops_of, IsNamed, IsWritten, IsTorn, HasEntered, EntersTops, HasBuilt, InstallsTops, MakesTops, KeepsTops}
use Rattle.peer_refinement.specs.Rooted.{Sees}
use Rattle.peer_refinement.specs.Whole.{IsRecorded}
use Rattle.peer_refinement.proofs.Walking.{OnlyReads, nodes_stay}
use Rattle.peer_refinement.proofs.Entering.{insert_nodes}
use Rattle.peer_refinement.proofs.Foreign.{same_or_other}
use Rattle.peer_refinement.proofs.Installing.{fresh_nodes, rebuild_nodes, rebuild_stands}
use Rattle.peer_refinement.proofs.Keeping.{after_saving, after_putting, apart_of, still_shows, built_in}
use Rattle.peer_refinement.proofs.LastWrites.{would, LeadsTo, LeavesTops, walk_leaves}
use Rattle.peer_refinement.proofs.Recording.{last_top, insert_last, fresh_last, rebuild_last}
use Rattle.peer_refinement.proofs.Whole.{get_only, position_only, scan_only}

-- ## Names

-- a digest that names a map goes on naming it as more is hashed
pub named_behind : (hashed more : List (List ℕ)) (digest : List ℕ) (m : List Entry) → AreAmong hashed more → IsNamed hashed digest m → IsNamed more digest m
named_behind hashed more digest m among named = record { tree = named.tree; stands = named.stands; texts = λ x n. among x (named.texts x n) }

-- and a tree shows the map that its root names, if it is opened in the version of the root
named_shows : (h : Held) (m : List Entry) (digest : List ℕ) → h.stores.tree.top ≡ Some digest → (named : IsNamed h.hashed digest m) → named.tree ≡ h.stores.tree.version → Shows h m
named_shows h m digest is named same = record {
  digest = digest;
  top = is;
  stands = subst (λ (v : TreeVersion). Stands (form_of v) digest m) same named.stands;
  texts = subst (λ (v : TreeVersion). (x : List ℕ) → IsNode (form_of v) (form_of v).depth root m x → x ∈ h.hashed) same named.texts;
}

-- a tree whose root names the map sees it
pub named_sees : (h : Held) (m : List Entry) (digest : List ℕ) → h.stores.tree.top ≡ Some digest → IsNamed h.hashed digest m → Sees h m
named_sees h m digest is named = elim (same_or_other named.tree h.stores.tree.version) [
  | inl same ↦ inr (named_shows h m digest is named same)
  | inr other ↦ inl (inr (record { digest = digest; top = is; named = named; other = other }))
]

-- ## Lists of top records

-- the first records of a list are records of it
in_take : (n : ℕ) (tops : List (List ℕ)) (digest : List ℕ) → digest ∈ take n tops → digest ∈ tops
in_take zero tops digest i = absurd i
in_take (suc n) [] digest i = absurd i
in_take (suc n) (d ∷ tops) digest (inl is) = inl is
in_take (suc n) (d ∷ tops) digest (inr i) = inr (in_take n tops digest i)

-- a record at any place of the list
some_at : (tops : List (List ℕ)) (i : ℕ) → i < length tops → (digest : List ℕ) × (slice_get tops i ≡ Some digest) × (digest ∈ tops)
some_at [] i few = absurd (omega (arith, few))
some_at (d ∷ tops) zero few = (d, refl, inl refl)
some_at (d ∷ tops) (suc i) few = let r = some_at tops i (omega (arith, few)) in (r.0, r.1, inr r.2)

-- a record that stays after a revert was there before
pub reverted_in : (n : ℕ) (tops : List (List ℕ)) (digest : List ℕ) → digest ∈ reverted n tops → digest ∈ tops
reverted_in n tops digest i = in_take (max 1 (length tops - n)) tops digest i

-- after a revert the top record holds one of the records before, if there is one
pub reverted_some : (tops : List (List ℕ)) → 0 < length tops → (n : ℕ) → (digest : List ℕ) × (top_of (reverted n tops) ≡ Some digest) × (digest ∈ tops)
reverted_some tops some n =
    let r = some_at (reverted n tops) (length (reverted n tops) - 1) (omega (arith, not_empty tops (max 1 (length tops - n)) some (one (length tops - n)))) in
    (r.0, r.1, reverted_in n tops r.0 r.2)
  where
    one : (k : ℕ) → 0 < max 1 k
    one zero = omega arith
    one (suc k) = omega arith

    not_empty : (xs : List (List ℕ)) (k : ℕ) → 0 < length xs → 0 < k → 0 < length (take k xs)
    not_empty [] k some more = absurd (omega (arith, some))
    not_empty (x ∷ xs) zero some more = absurd (omega (arith, more))
    not_empty (x ∷ xs) (suc k) some more = omega arith

-- ## A write of the top record

-- the map stands under the digest in this version, and the text of each of its nodes was hashed
abbrev IsNamedIn : TreeVersion → List (List ℕ) → List ℕ → List Entry → Type 0
IsNamedIn v hashed digest m = Stands (form_of v) digest m × ((x : List ℕ) → IsNode (form_of v) (form_of v).depth root m x → x ∈ hashed)

named_in : (v : TreeVersion) (hashed : List (List ℕ)) (digest : List ℕ) (m : List Entry) → IsNamedIn v hashed digest m → IsNamed hashed digest m
named_in v hashed digest m named = record { tree = v; stands = named.0; texts = named.1 }

-- the write was not refused
is_written : (v : TreeVersion) (m : List Entry) (h : Held) (w : Walk (List ℕ)) (digest : List ℕ) → IsNamedIn v w.hashed digest m → w.nodes.tops ≡ tops_of h.stores ++ digest ∷ [] → IsWritten m h (with_tree v (Some digest) w h)
is_written v m h w digest named is = record {
  next = record { digest = digest; tops = is; named = named_in v w.hashed digest m named };
  shows = record { digest = digest; top = refl; stands = named.0; texts = named.1 };
  recorded = ap top_of is ∙ last_top (tops_of h.stores) digest;
}

-- the write was refused
is_torn : (v : TreeVersion) (m : List Entry) (h : Held) (w : Walk (List ℕ)) (digest : List ℕ) → IsNamedIn v w.hashed digest m → (w.nodes.tops ≡ tops_of h.stores) ⊎ (w.nodes.tops ≡ tops_of h.stores ++ digest ∷ [])
    → IsTorn m h StoreFault (with_tree h.stores.tree.version h.stores.tree.top w h)
is_torn v m h w digest named (inl is) = (refl, inl is)
is_torn v m h w digest named (inr is) = (refl, inr (record { digest = digest; tops = is; named = named_in v w.hashed digest m named }))

-- ## Entering

-- the digest to which an entering leads names the map with the entry
put_named : (strings : List (List ℕ)) (h : Held) (m : List Entry) (e : Entry) (digest : List ℕ) (now : List (List ℕ)) (new : List ℕ) → AreFree strings → AreAmong now strings → Shows h m → Stands (form_in h) digest m → IsEntry e → length (put e m) < 2 ^ 32
    → LeadsTo (insert_plan (form_in h) (Some digest) e) h.stores.tree.store h.hashed now new → IsNamedIn h.stores.tree.version now new (put e m)
put_named strings h m e digest now new free among shows stands fits few leads =
    let v = h.stores.tree.version in
    let apart = apart_of (form_of v) strings now h.hashed leads.strings m free among leads.grew shows.texts in (
      insert_stands (form_of v) (form_laws v) would digest e m h.stores.tree.store leads.last leads.strings new stands fits few apart leads.came,
      λ x n. known x (insert_nodes (form_of v) (form_laws v) would digest e m h.stores.tree.store leads.last leads.strings new stands apart leads.came x n),
    )
  where
    known : (x : List ℕ) → (x ∈ leads.strings) ⊎ IsNode (form_in h) (form_in h).depth root m x → x ∈ now
    known x (inl i) = subst (λ zs. x ∈ zs) (sym leads.grew) (in_right h.hashed leads.strings x i)
    known x (inr n) = subst (λ zs. x ∈ zs) (sym leads.grew) (in_left h.hashed leads.strings x (shows.texts x n))

-- the ends of an entering, from those of its walk
entered_end : (h : Held) (m : List Entry) (e : Entry) (p : Plan (List ℕ)) (w : Walk (List ℕ)) (end : End (List ℕ)) → ((new : List ℕ) → LeadsTo p h.stores.tree.store h.hashed w.hashed new → IsNamedIn h.stores.tree.version w.hashed new (put e m))
    → Shows (with_tree h.stores.tree.version h.stores.tree.top w h) m → LeavesTops p h.stores.tree.store h.hashed w.nodes.tops w.hashed end → HasEntered e m h (entered end) (with_tree h.stores.tree.version (root_after h.stores.tree.top end) w h)
entered_end h m e p w (Came new) named shows (leads, is) = is_written h.stores.tree.version (put e m) h w new (named new leads) is
entered_end h m e p w (Broke at) named shows is = (shows, is)
entered_end h m e p w Failed named shows (new, leads, either) = is_torn h.stores.tree.version (put e m) h w new (named new leads) either

entered_from : (strings : List (List ℕ)) (h : Held) (m : List Entry) (e : Entry) (digest : List ℕ) → AreFree strings → AreAmong (walked (insert_plan (form_in h) (Some digest) e) h).hashed strings → Shows h m → Stands (form_in h) digest m → IsEntry e → length (put e m) < 2 ^ 32
    → HasEntered e m h (entered (walked (insert_plan (form_in h) (Some digest) e) h).end) (with_tree h.stores.tree.version (root_after h.stores.tree.top (walked (insert_plan (form_in h) (Some digest) e) h).end) (walked (insert_plan (form_in h) (Some digest) e) h) h)
entered_from strings h m e digest free among shows stands fits few =
    let p : Plan (List ℕ) = insert_plan (form_in h) (Some digest) e in
    entered_end h m e p (walked p h) (walked p h).end (λ new leads. put_named strings h m e digest (walked p h).hashed new free among shows stands fits few leads) (still_shows p h m shows)
    (walk_leaves p h.stores.tree.store h.hashed (insert_last (form_in h) (Some digest) e))

pub enters : EntersTops
enters strings h m e free among shows fits few =
    subst (λ (top : Option (List ℕ)). AreAmong (walked (insert_plan (form_in h) top e) h).hashed strings
    → HasEntered e m h (entered (walked (insert_plan (form_in h) top e) h).end) (with_tree h.stores.tree.version (root_after h.stores.tree.top (walked (insert_plan (form_in h) top e) h).end) (walked (insert_plan (form_in h) top e) h) h)) (sym shows.top)
    (λ a. entered_from strings h m e shows.digest free a shows shows.stands fits few) among

-- ## A new tree

-- the ends of a building in this version, from those of its walk
built_end : (v : TreeVersion) (h : Held) (m : List Entry) (p : Plan (List ℕ)) (w : Walk (List ℕ)) (end : End (List ℕ)) → ((new : List ℕ) → LeadsTo p h.stores.tree.store h.hashed w.hashed new → IsNamedIn v w.hashed new m)
    → LeavesTops p h.stores.tree.store h.hashed w.nodes.tops w.hashed end → HasBuilt m h (done end) (with_tree (version_opened v h.stores.tree.version end) (root_after h.stores.tree.top end) w h)
built_end v h m p w (Came new) named (leads, is) = is_written v m h w new (named new leads) is
built_end v h m p w (Broke at) named is = (refl, inl is)
built_end v h m p w Failed named (new, leads, either) = is_torn v m h w new (named new leads) either

pub makes : MakesTops
makes v h = built_end v h [] (fresh_plan (form_of v)) (walked (fresh_plan (form_of v)) h) (walked (fresh_plan (form_of v)) h).end named (walk_leaves (fresh_plan (form_of v)) h.stores.tree.store h.hashed (fresh_last (form_of v)))
  where
    named : (new : List ℕ) → LeadsTo (fresh_plan (form_of v)) h.stores.tree.store h.hashed (walked (fresh_plan (form_of v)) h).hashed new → IsNamedIn v (walked (fresh_plan (form_of v)) h).hashed new []
    named new leads = (
      fresh_stands would (form_of v) new h.stores.tree.store leads.last leads.strings leads.came,
      λ x n. subst (λ zs. x ∈ zs) (sym leads.grew) (in_right h.hashed leads.strings x (fresh_nodes would (form_of v) new h.stores.tree.store leads.last leads.strings leads.came x n)),
    )

pub installs : InstallsTops
installs h m ok =
    let v = h.stores.tree.version in
    subst (λ (version : TreeVersion). HasBuilt m h (done (walked (rebuild_plan (form_of v) m) h).end) (with_tree version (root_after h.stores.tree.top (walked (rebuild_plan (form_of v) m) h).end) (walked (rebuild_plan (form_of v) m) h) h)) (built_in v (walked (rebuild_plan (form_of v) m) h).end)
    (built_end v h m (rebuild_plan (form_of v) m) (walked (rebuild_plan (form_of v) m) h) (walked (rebuild_plan (form_of v) m) h).end named (walk_leaves (rebuild_plan (form_of v) m) h.stores.tree.store h.hashed (rebuild_last (form_of v) m)))
  where
    named : (new : List ℕ) → LeadsTo (rebuild_plan (form_in h) m) h.stores.tree.store h.hashed (walked (rebuild_plan (form_in h) m) h).hashed new → IsNamedIn h.stores.tree.version (walked (rebuild_plan (form_in h) m) h).hashed new m
    named new leads = (
      rebuild_stands would (form_in h) (form_laws h.stores.tree.version) m new h.stores.tree.store leads.last leads.strings ok leads.came,
      λ x n. subst (λ zs. x ∈ zs) (sym leads.grew) (in_right h.hashed leads.strings x (rebuild_nodes would (form_in h) (form_laws h.stores.tree.version) m new h.stores.tree.store leads.last leads.strings leads.came x n)),
    )

-- ## Other calls

-- the top records are as they were, and the root is recorded if it was
abbrev KeepsThem : Held → Held → Type 0
KeepsThem h t = (tops_of t.stores ≡ tops_of h.stores) × (IsRecorded h → IsRecorded t)

-- a walk that only reads leaves the top records
reads_them : {A : Type 0} (p : Plan A) (h : Held) → OnlyReads p → KeepsThem h (with_tree h.stores.tree.version h.stores.tree.top (walked p h) h)
reads_them p h only =
    let stay : (walked p h).nodes.tops ≡ tops_of h.stores = ap (λ (s : Nodes). s.tops) (nodes_stay p h.stores.tree.store h.hashed only) in
    (stay, λ is. ap top_of stay ∙ is)

pub keeps : KeepsTops
keeps Load h k = (refl, λ is. is)
keeps (Save fact) h k = after_saving fact h (KeepsThem h) (λ facts. (refl, λ is. is))
keeps (FreshTree tree) h k = absurd k
keeps (OpenTree seal tree) h k = absurd k
keeps Root h k = (refl, λ is. is)
keeps (Find key) h k = reads_them (get_plan (form_in h) h.stores.tree.top key) h (get_only h.stores.tree.version h.stores.tree.top key)
keeps (Enter entry) h k = absurd k
keeps ScanTree h k = reads_them (scan_plan (form_in h) h.stores.tree.top) h (scan_only h.stores.tree.version h.stores.tree.top)
keeps (ReadNode at) h k = reads_them (position_plan h.stores.tree.version h.stores.tree.top at) h (position_only h.stores.tree.version h.stores.tree.top at)
keeps (Install entries) h k = absurd k
keeps (Fetch key) h k = (refl, λ is. is)
keeps (Put key bytes) h k = after_putting key bytes h (KeepsThem h) (λ objects. (refl, λ is. is))
keeps (Hash bytes) h k = (refl, λ is. is)
