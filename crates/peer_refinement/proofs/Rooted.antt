-- Trees that show a map or are blind.
use Rattle.std.proofs.Common.{◌≡◌, inl, inr, ℕ, ◌-◌, Bool, true, false, if◌then◌else◌, List, [], ◌∷◌, ◌++◌, filter, Option, None, Some, Result, Ok, Err, refl, sym, ap, ◌∙◌, subst}
use Rattle.ens_base.proofs.Lists.{bytes_same}
use Rattle.ens_base.specs.Lists.{same_bytes}
use Rattle.ens_base.specs.declared.entry.Entry.{Entry}
use Rattle.world_spec.specs.Answers.{answered, looked, entered, whole, root_after, with_tree, walked}
use Rattle.world_spec.specs.Held.{Held}
use Rattle.world_spec.specs.Walks.{End, Came, Broke, Failed, walk}
use Rattle.step_plans.specs.Calls.{Call, Load, Save, FreshTree, OpenTree, Root, Find, Enter, ScanTree, ReadNode, Install, Fetch, Put, Hash}
use Rattle.step_plans.specs.declared.error.PeerError.{PeerError}
use Rattle.step_plans.specs.declared.walked.Walked.{Walked}
use Rattle.step_plans.specs.declared.walked.Walked.TheVariants.{Reached, Broken}
use Rattle.synctree.proofs.Places.{place_of}
use Rattle.synctree.specs.Nodes.{node_plan}
use Rattle.synctree.specs.Plans.{Plan, Ends}
use Rattle.synctree.specs.Seals.{if_sealed}
use Rattle.synctree.specs.Trees.{get_plan, insert_plan}
use Rattle.synctree.proofs.Formats.{form_laws}
use Rattle.synctree.specs.Entries.{lookup}
use Rattle.synctree.specs.Forms.{root}
use Rattle.synctree.specs.Paths.{node_of}
use Rattle.synctree.specs.Sixteen.{form_of}
use Rattle.tree_node.specs.Positions.{IsPosition}
use Rattle.tree_node.specs.TreeVersions.{levels}
use Rattle.tree_node.specs.declared.body.Scan.{Scan}
use Rattle.tree_node.specs.declared.position.Position.{Position}
use Rattle.tree_node.specs.declared.version.TreeVersion.{TreeVersion}
use Rattle.tree_node.specs.declared.version.TreeVersion.TheVariants.{One, Two}
use Rattle.tree_repair.specs.Levels.{slot, scan_plan}
use Rattle.world_stores.specs.Nodes.{Nodes, top_of}
use Rattle.peer_refinement.specs.TreeLaws.{IsReached, IsScanned, KeepsRoot, KeepsVersion}
use Rattle.peer_refinement.specs.Rooted.{IsForeign, IsBlind, SeesEntries, IsShown, SeesNodes, IsSeen, SeesMaps, SeesEntered, EndsEntered, KeepsSight, HasUnsealed, OpensSealed, OpensRecorded, OpensIn}
use Rattle.peer_refinement.specs.Tops.{IsNamed, HasEntered, tops_of}
use Rattle.peer_refinement.specs.Trees.{AreAmong, AreFree, Shows, form_in}
use Rattle.peer_refinement.proofs.Foreign.{deep, NoRoot, foreign_root, no_entries, get_none, insert_none, node_none, scan_none}
use Rattle.peer_refinement.proofs.Keeping as keeping
use Rattle.peer_refinement.proofs.Keeping.{after_saving, after_putting, apart_of, plan_at}
use Rattle.peer_refinement.proofs.LastWrites.{would, LeadsTo, LeavesTops, walk_leaves}
use Rattle.peer_refinement.proofs.Recording.{insert_last}
use Rattle.peer_refinement.proofs.Tops as records
use Rattle.peer_refinement.proofs.Walking.{does, Ended, Comes, walk_is, walk_grows, no_failure, get_reads, node_reads, comes_reads, unbroken, scan_comes}

-- ## Without a root

no_find : (v : TreeVersion) (h : Held) (m : List Entry) (key : List ℕ) → IsReached (lookup key m) (looked (walked (get_plan (form_of v) None key) h).end)
unfolding walk
no_find v h m key = tt

no_node : (v : TreeVersion) (h : Held) (m : List Entry) (at : Position) → IsShown h m at (looked (walked (node_plan (form_of v) None at) h).end)
unfolding walk
no_node v h m at = tt

no_scan : (v : TreeVersion) (h : Held) → whole (walked (scan_plan (form_of v) None) h).end ≡ Ok no_entries
unfolding walk form_of
no_scan One h = refl
no_scan Two h = refl

no_entry : (h : Held) (m : List Entry) (e : Entry)
    → EndsEntered e m h (entered (walked (insert_plan (form_in h) None e) h).end) (with_tree h.stores.tree.version (root_after None (walked (insert_plan (form_in h) None e) h).end) (walked (insert_plan (form_in h) None e) h) h)
unfolding walk
no_entry h m e = (inl (inl refl), refl)

-- ## With a root of the other version

-- no string that was hashed encodes such a root
foreign_apart : (strings : List (List ℕ)) (h : Held) (m : List Entry) (f : IsForeign h m) (now xs : List (List ℕ)) → AreFree strings → AreAmong now strings → now ≡ h.hashed ++ xs → NoRoot (form_in h) f.digest xs
foreign_apart strings h m f now xs free among grew =
    foreign_root h.stores.tree.version f.named.tree f.digest m xs f.other f.named.stands (apart_of (form_of f.named.tree) strings now h.hashed xs m free among grew f.named.texts)

-- a walk that came to a value is a run of its plan that hashed no such root
record Run {A : Type 0} (h : Held) (digest : List ℕ) (p : Plan A) (y : A) : Type 0 where
  strings : List (List ℕ)
  none : NoRoot (form_in h) digest strings
  ends : Ends does p h.stores.tree.store strings (Ok y) (walked p h).nodes

run_of : {A : Type 0} (strings : List (List ℕ)) (h : Held) (m : List Entry) (f : IsForeign h m) (p : Plan A) → AreFree strings → AreAmong (walked p h).hashed strings → (y : A) → (walked p h).end ≡ Came y → Run h f.digest p y
run_of {A} strings h m f p free among y is =
    let w = walk_is p h.stores.tree.store h.hashed in
    record {
      strings = w.strings;
      none = foreign_apart strings h m f (walked p h).hashed w.strings free among w.grew;
      ends = subst (λ (end : End A). Ended p h.stores.tree.store w.strings end (walked p h).nodes) is w.ended;
    }

-- a walk that comes to no value, and does not fail, meets damage
unseen : {A : Type 0} (P : Result (Walked A) PeerError → Type 0) (end : End A) → ((at : Position) → P (Ok (Broken at))) → ((y : A) → end ≡ Came y → ⊥) → (end ≡ Failed → ⊥) → P (looked end)
unseen P (Came y) broken came sound = absurd (came y refl)
unseen P (Broke at) broken came sound = broken at
unseen P Failed broken came sound = absurd (sound refl)

foreign_find : (strings : List (List ℕ)) (h : Held) (m : List Entry) (key : List ℕ) (f : IsForeign h m) → AreFree strings → AreAmong (walked (get_plan (form_in h) (Some f.digest) key) h).hashed strings → IsReached (lookup key m) (looked (walked (get_plan (form_in h) (Some f.digest) key) h).end)
foreign_find strings h m key f free among =
    let p : Plan (Option Entry) = get_plan (form_in h) (Some f.digest) key in
    let d = deep h.stores.tree.version in
    unseen (IsReached (lookup key m)) (walked p h).end (λ at. tt)
    (λ y is. let r = run_of strings h m f p free among y is in get_none does (form_in h) f.digest d.0 d.1 key h.stores.tree.store (walked p h).nodes r.strings y r.none r.ends)
    (no_failure p h.stores.tree.store h.hashed (get_reads (form_in h) f.digest key))

foreign_node : (strings : List (List ℕ)) (h : Held) (m : List Entry) (at : Position) (f : IsForeign h m) → AreFree strings → AreAmong (walked (node_plan (form_in h) (Some f.digest) at) h).hashed strings → IsPosition h.stores.tree.version at
    → IsShown h m at (looked (walked (node_plan (form_in h) (Some f.digest) at) h).end)
foreign_node strings h m at f free among is =
    let v = h.stores.tree.version in
    let p : Plan (Option (List ℕ)) = node_plan (form_of v) (Some f.digest) at in
    let d = deep v in
    unseen (IsShown h m at) (walked p h).end (λ broken. tt)
    (λ y came. let r = run_of strings h m f p free among y came in node_none does (form_of v) f.digest d.0 d.1 (form_laws v) (levels v - at.level) at h.stores.tree.store (walked p h).nodes r.strings y (place_of v at is) r.none r.ends)
    (no_failure p h.stores.tree.store h.hashed (node_reads (form_of v) f.digest at))

scanned_end : (p : Plan Scan) (s t : Nodes) (xs : List (List ℕ)) (end : End Scan) → Comes p → Ended p s xs end t → (end ≡ Failed → ⊥) → ((scan : Scan) → end ≡ Came scan → scan ≡ no_entries) → whole end ≡ Ok no_entries
scanned_end p s t xs (Came scan) comes ended sound is = ap (λ (x : Scan). Ok x) (is scan refl)
scanned_end p s t xs (Broke at) comes ended sound is = absurd (unbroken does p s t xs at comes ended)
scanned_end p s t xs Failed comes ended sound is = absurd (sound refl)

foreign_scan : (strings : List (List ℕ)) (h : Held) (m : List Entry) (f : IsForeign h m) → AreFree strings → AreAmong (walked (scan_plan (form_in h) (Some f.digest)) h).hashed strings → whole (walked (scan_plan (form_in h) (Some f.digest)) h).end ≡ Ok no_entries
foreign_scan strings h m f free among =
    let p : Plan Scan = scan_plan (form_in h) (Some f.digest) in
    let d = deep h.stores.tree.version in
    let w = walk_is p h.stores.tree.store h.hashed in
    let comes : Comes p = scan_comes (form_in h) (form_in h).depth (slot root (Some f.digest) ∷ []) in
    scanned_end p h.stores.tree.store (walked p h).nodes w.strings (walked p h).end comes w.ended (no_failure p h.stores.tree.store h.hashed (comes_reads p comes))
    (λ scan is. let r = run_of strings h m f p free among scan is in scan_none does (form_in h) f.digest d.0 d.1 h.stores.tree.store (walked p h).nodes r.strings scan r.none r.ends)

foreign_entry : (strings : List (List ℕ)) (h : Held) (m : List Entry) (e : Entry) (f : IsForeign h m) → AreFree strings → AreAmong (walked (insert_plan (form_in h) (Some f.digest) e) h).hashed strings
    → EndsEntered e m h (entered (walked (insert_plan (form_in h) (Some f.digest) e) h).end)
    (with_tree h.stores.tree.version (root_after h.stores.tree.top (walked (insert_plan (form_in h) (Some f.digest) e) h).end) (walked (insert_plan (form_in h) (Some f.digest) e) h) h)
foreign_entry strings h m e f free among = by_end (walked p h).end (walk_leaves p h.stores.tree.store h.hashed (insert_last (form_in h) (Some f.digest) e))
  where
    p : Plan (List ℕ)
    p = insert_plan (form_in h) (Some f.digest) e

    leads_none : (new : List ℕ) → LeadsTo p h.stores.tree.store h.hashed (walked p h).hashed new → ⊥
    leads_none new leads =
        let d = deep h.stores.tree.version in
        insert_none would (form_in h) f.digest d.0 d.1 e h.stores.tree.store leads.last leads.strings new (foreign_apart strings h m f (walked p h).hashed leads.strings free among leads.grew) leads.came

    by_end : (end : End (List ℕ)) → LeavesTops p h.stores.tree.store h.hashed (walked p h).nodes.tops (walked p h).hashed end
        → EndsEntered e m h (entered end) (with_tree h.stores.tree.version (root_after h.stores.tree.top end) (walked p h) h)
    by_end (Came new) (leads, is) = absurd (leads_none new leads)
    by_end (Broke at) is = (
      inl (inr (record {
        digest = f.digest;
        top = f.top;
        named = record { tree = f.named.tree; stands = f.named.stands; texts = λ x n. walk_grows p h.stores.tree.store h.hashed x (f.named.texts x n) };
        other = f.other;
      })),
      is,
    )
    by_end Failed (new, leads, either) = absurd (leads_none new leads)

-- ## With any root

blind_scan : (strings : List (List ℕ)) (h : Held) (m : List Entry) → AreFree strings → AreAmong (answered ScanTree h).held.hashed strings → IsBlind h m → (answered ScanTree h).result ≡ Ok no_entries
blind_scan strings h m free among (inl none) = subst (λ (top : Option (List ℕ)). whole (walked (scan_plan (form_in h) top) h).end ≡ Ok no_entries) (sym none) (no_scan h.stores.tree.version h)
blind_scan strings h m free among (inr f) =
    subst (λ (top : Option (List ℕ)). AreAmong (walked (scan_plan (form_in h) top) h).hashed strings → whole (walked (scan_plan (form_in h) top) h).end ≡ Ok no_entries) (sym f.top) (λ a. foreign_scan strings h m f free a) among

pub finds : SeesEntries
finds strings h m key free among (inr shows) = keeping.finds strings h m key free among shows
finds strings h m key free among (inl (inl none)) = subst (λ (top : Option (List ℕ)). IsReached (lookup key m) (looked (walked (get_plan (form_in h) top key) h).end)) (sym none) (no_find h.stores.tree.version h m key)
finds strings h m key free among (inl (inr f)) =
    subst (λ (top : Option (List ℕ)). AreAmong (walked (get_plan (form_in h) top key) h).hashed strings → IsReached (lookup key m) (looked (walked (get_plan (form_in h) top key) h).end)) (sym f.top) (λ a. foreign_find strings h m key f free a) among

-- what is reached in a tree that shows the map
shown : (h : Held) (m : List Entry) (at : Position) (r : Result (Walked (Option (List ℕ))) PeerError) → Shows h m → IsReached (node_of (form_in h) at m) r → IsShown h m at r
shown h m at (Ok (Reached node)) shows is = (is, shows)
shown h m at (Ok (Broken p)) shows is = tt
shown h m at (Err e) shows is = is

pub reads : SeesNodes
reads strings h m at free among (inr shows) is = shown h m at (answered (ReadNode at) h).result shows (keeping.reads strings h m at free among shows is)
reads strings h m at free among (inl blind) is =
    subst (λ (p : Plan (Option (List ℕ))). AreAmong (walked p h).hashed strings → IsShown h m at (looked (walked p h).end)) (sym (plan_at h.stores.tree.version h.stores.tree.top at is)) (by_root blind) among
  where
    by_root : IsBlind h m → AreAmong (walked (node_plan (form_in h) h.stores.tree.top at) h).hashed strings → IsShown h m at (looked (walked (node_plan (form_in h) h.stores.tree.top at) h).end)
    by_root (inl none) = subst (λ (top : Option (List ℕ)). AreAmong (walked (node_plan (form_in h) top at) h).hashed strings → IsShown h m at (looked (walked (node_plan (form_in h) top at) h).end)) (sym none) (λ a. no_node h.stores.tree.version h m at)
    by_root (inr f) = subst (λ (top : Option (List ℕ)). AreAmong (walked (node_plan (form_in h) top at) h).hashed strings → IsShown h m at (looked (walked (node_plan (form_in h) top at) h).end)) (sym f.top) (λ a. foreign_node strings h m at f free a is)

none_kept : (m : List Entry) → filter (λ (e : Entry). false) m ≡ []
none_kept [] = refl
none_kept (e ∷ m) = none_kept m

-- what is scanned of a tree that shows the map
seen : (h : Held) (m : List Entry) (r : Result Scan PeerError) → Shows h m → IsScanned m r → IsSeen h m r
seen h m (Ok scan) shows is = (is, inr shows)
seen h m (Err e) shows is = is

pub scans : SeesMaps
scans strings h m free among (inr shows) = seen h m (answered ScanTree h).result shows (keeping.scans strings h m free among shows)
scans strings h m free among (inl blind) = subst (IsSeen h m) (sym (blind_scan strings h m free among blind)) (sym (none_kept m), inl (λ key. refl))

seen_entered : (e : Entry) (m : List Entry) (h : Held) (r : Result (Walked (Unit {0})) PeerError) (t : Held) → HasEntered e m h r t → EndsEntered e m h r t
seen_entered e m h (Ok (Reached done)) t is = is
seen_entered e m h (Ok (Broken at)) t is = (inr is.0, is.1)
seen_entered e m h (Err error) t is = is

pub enters : SeesEntered
enters strings h m e free among (inr shows) fits few = seen_entered e m h (answered (Enter e) h).result (answered (Enter e) h).held (records.enters strings h m e free among shows fits few)
enters strings h m e free among (inl (inl none)) fits few =
    subst (λ (top : Option (List ℕ)). EndsEntered e m h (entered (walked (insert_plan (form_in h) top e) h).end) (with_tree h.stores.tree.version (root_after top (walked (insert_plan (form_in h) top e) h).end) (walked (insert_plan (form_in h) top e) h) h)) (sym none) (no_entry h m e)
enters strings h m e free among (inl (inr f)) fits few =
    subst (λ (top : Option (List ℕ)). AreAmong (walked (insert_plan (form_in h) top e) h).hashed strings
    → EndsEntered e m h (entered (walked (insert_plan (form_in h) top e) h).end) (with_tree h.stores.tree.version (root_after h.stores.tree.top (walked (insert_plan (form_in h) top e) h).end) (walked (insert_plan (form_in h) top e) h) h)) (sym f.top)
    (λ a. foreign_entry strings h m e f free a) among

-- a call that leaves the root
pub root_kept_so : (call : Call) (h : Held) → KeepsRoot call → (answered call h).held.stores.tree.top ≡ h.stores.tree.top
root_kept_so Load h k = refl
root_kept_so (Save fact) h k = after_saving fact h (λ t. t.stores.tree.top ≡ h.stores.tree.top) (λ facts. refl)
root_kept_so (FreshTree tree) h k = absurd k
root_kept_so (OpenTree seal tree) h k = absurd k
root_kept_so Root h k = refl
root_kept_so (Find key) h k = refl
root_kept_so (Enter entry) h k = absurd k
root_kept_so ScanTree h k = refl
root_kept_so (ReadNode at) h k = refl
root_kept_so (Install entries) h k = absurd k
root_kept_so (Fetch key) h k = refl
root_kept_so (Put key bytes) h k = after_putting key bytes h (λ t. t.stores.tree.top ≡ h.stores.tree.top) (λ objects. refl)
root_kept_so (Hash bytes) h k = refl

-- it leaves the version of the tree too
keeps_version : (call : Call) → KeepsRoot call → KeepsVersion call
keeps_version (FreshTree tree) k = k
keeps_version (OpenTree seal tree) k = k
keeps_version Load k = tt
keeps_version (Save fact) k = tt
keeps_version Root k = tt
keeps_version (Find key) k = tt
keeps_version (Enter entry) k = tt
keeps_version ScanTree k = tt
keeps_version (ReadNode at) k = tt
keeps_version (Install entries) k = tt
keeps_version (Fetch key) k = tt
keeps_version (Put key bytes) k = tt
keeps_version (Hash bytes) k = tt

pub version_kept_so : (call : Call) (h : Held) → KeepsRoot call → (answered call h).held.stores.tree.version ≡ h.stores.tree.version
version_kept_so call h k = keeping.versions call h (keeps_version call k)

pub keeps : KeepsSight
keeps call h m k (inl (inl none)) = inl (inl (root_kept_so call h k ∙ none))
keeps call h m k (inl (inr f)) = inl (inr (record {
  digest = f.digest;
  top = root_kept_so call h k ∙ f.top;
  named = record { tree = f.named.tree; stands = f.named.stands; texts = λ x n. keeping.grows call h x (f.named.texts x n) };
  other = λ same. f.other (same ∙ version_kept_so call h k);
}))
keeps call h m k (inr shows) = inr (keeping.keeps call h m k shows)

-- ## A tree that is opened

unsealed_root : (v : TreeVersion) (h : Held) (m : List Entry) (seal : List ℕ) (top : Option (List ℕ)) (store : Nodes) → IsNamed h.hashed seal m → HasUnsealed seal m (record h { stores = record h.stores { tree = record { version = v; store = store; top = if_sealed seal top } } })
unsealed_root v h m seal None store named = record { sees = inl (inl refl); root = inl refl }
unsealed_root v h m seal (Some top) store named = by_same (same_bytes top seal) refl
  where
    by_same : (b : Bool) → same_bytes top seal ≡ b → HasUnsealed seal m (record h { stores = record h.stores { tree = record { version = v; store = store; top = if b then Some top else None } } })
    by_same false is = record { sees = inl (inl refl); root = inl refl }
    by_same true is =
        let same : Some top ≡ Some seal = ap (λ (x : List ℕ). Some x) (bytes_same top seal is) in
        record { sees = records.named_sees (record h { stores = record h.stores { tree = record { version = v; store = store; top = Some top } } }) m seal same named; root = inr same }

pub opens : OpensSealed
unfolding walk
opens v h m seal named = (refl, unsealed_root v h m seal (top_of (tops_of h.stores)) h.stores.tree.store named, refl)

pub reopens : OpensRecorded
unfolding walk
reopens v h m digest is named = (refl, record { sees = records.named_sees (answered (OpenTree None v) h).held m digest is named; recorded = refl; tops = refl })

-- it is of the version that was asked for
pub opens_in : OpensIn
unfolding walk
opens_in seal v h = refl

-- it writes no top record
pub opens_tops : (seal : Option (List ℕ)) (v : TreeVersion) (h : Held) → tops_of (answered (OpenTree seal v) h).held.stores ≡ tops_of h.stores
unfolding walk
opens_tops seal v h = refl
