-- What the calls answer over a whole tree.
use Rattle.std.proofs.Common.{◌≡◌, ℕ, ◌-◌, Bool, true, false, if◌then◌else◌, List, [], ◌∷◌, Option, None, Some, Ok, Err, refl, ap, sym, ◌∙◌, subst}
use Rattle.std.specs.Prelude.{filter, not}
use Rattle.ens_base.specs.declared.entry.Entry.{Entry}
use Rattle.environment.specs.Maps.{with_value}
use Rattle.environment.specs.declared.memory.failing_call.Leaves.{Leaves}
use Rattle.world_spec.specs.Answers.{Answered, answered, looked, entered, whole as all_of, done, version_opened, with_tree, with_facts, with_backend, walked, facts_failed, objects_failed}
use Rattle.world_spec.specs.Held.{Held, unless_failing}
use Rattle.world_spec.specs.Walks.{walk}
use Rattle.step_plans.specs.Calls.{Load, Save, FreshTree, OpenTree, Root, Find, Enter, ScanTree, ReadNode, Install, Fetch, Put, Hash}
use Rattle.step_plans.specs.declared.error.PeerError.TheVariants.{StoreFault}
use Rattle.step_plans.specs.declared.walked.Walked.TheVariants.{Reached}
use Rattle.world_spec.specs.PeerSpec.{has_position, position_plan}
use Rattle.tree_node.specs.TreeVersions.{levels}
use Rattle.tree_node.specs.declared.version.TreeVersion.{TreeVersion}
use Rattle.tree_node.specs.declared.version.TreeVersion.TheVariants.{Two}
use Rattle.synctree.specs.Nodes.{node_plan}
use Rattle.synctree.specs.Plans.{Plan, Done}
use Rattle.synctree.specs.Trees.{fresh_plan, get_plan, insert_plan}
use Rattle.synctree.proofs.Places.{place_of}
use Rattle.synctree.specs.Entries.{lookup, put}
use Rattle.synctree.specs.Forms.{root}
use Rattle.synctree.specs.Paths.{node_of}
use Rattle.synctree.specs.Sixteen.{form_of}
use Rattle.synctree.proofs.Below.{every}
use Rattle.synctree.proofs.Formats.{form_laws}
use Rattle.tree_node.specs.declared.body.Scan.{Scan}
use Rattle.tree_node.specs.declared.position.Position.{Position}
use Rattle.world_stores.specs.TreeRepair.{rebuild_plan}
use Rattle.tree_repair.specs.Levels.{slot, scan_plan}
use Rattle.tree_repair.specs.Scans.{lost}
use Rattle.world_stores.specs.Nodes.{Nodes, top_of}
use Rattle.peer_refinement.specs.TreeLaws.{IsScanned, IsEntered, IsMade}
use Rattle.peer_refinement.specs.Trees.{AreAmong, Shows, form_in}
use Rattle.peer_refinement.specs.Whole.{IsWhole, FindsAll, ReadsAll, ScansAll, EntersAll, MakesWhole, InstallsWhole, OpensWhole, KeepsWhole, IsRecorded, KeepsRecord, ServesOthers}
use Rattle.peer_refinement.proofs.Walking.{OnlyReads, nodes_stay, get_reads, node_reads, comes_reads, scan_comes}
use Rattle.peer_refinement.proofs.Arriving.{Arrives, arrives, told}
use Rattle.peer_refinement.proofs.Reading.{AreStored, get_tells, node_tells}
use Rattle.peer_refinement.proofs.Scanning.{scan_reaches}
use Rattle.peer_refinement.proofs.Storing.{insert_reaches, rebuild_reaches, fresh_reaches}
use Rattle.peer_refinement.proofs.Recording.{root_recorded, insert_last, fresh_last, rebuild_last}
use Rattle.peer_refinement.proofs.Keeping.{grows, plan_at}
use Rattle.peer_refinement.proofs.Keeping as keeping

served : {R : Type 0} (o : Option Leaves) (goes : R) (fails : Leaves → R) → o ≡ None → unless_failing o goes fails ≡ goes
served None goes fails e = refl
served (Some leaves) goes fails e = absurd cc

pub serves : ServesOthers
serves Load h none = refl
serves (Save fact) h none = served h.stores.facts.faults.pending (record { result = Ok tt; held = with_facts (record h.stores.facts { kept = Some fact }) h })
    (λ leaves. record { result = Err StoreFault; held = with_facts (facts_failed h.stores.facts (record h.stores.facts { kept = Some fact }) leaves) h }) none.facts
serves (FreshTree tree) h none = tt
serves (OpenTree seal tree) h none = tt
serves Root h none = tt
serves (Find key) h none = tt
serves (Enter entry) h none = tt
serves ScanTree h none = tt
serves (ReadNode at) h none = tt
serves (Install entries) h none = tt
serves (Fetch key) h none = refl
serves (Put key bytes) h none = served h.stores.backend.faults.pending (record { result = Ok tt; held = with_backend (record h.stores.backend { entries = with_value key bytes h.stores.backend.entries }) h })
    (λ leaves. record { result = Err StoreFault; held = with_backend (objects_failed h.stores.backend (record h.stores.backend { entries = with_value key bytes h.stores.backend.entries }) leaves) h }) none.backend
serves (Hash bytes) h none = refl

-- ## Looking

pub finds : FindsAll
finds h m key whole =
    let v = h.stores.tree.version in
    subst (λ (top : Option (List ℕ)). looked (walked (get_plan (form_of v) top key) h).end ≡ Ok (Reached (lookup key m))) (sym whole.shows.top)
    (ap looked (told (get_plan (form_of v) (Some whole.shows.digest) key) h.stores.tree.store h.hashed (lookup key m)
    (get_tells (walked (get_plan (form_of v) (Some whole.shows.digest) key) h).hashed (form_of v) (form_laws v) h.stores.tree.store whole.shows.digest key m whole.shows.stands whole.stored)))

pub reads : ReadsAll
reads h m at is whole =
    let v = h.stores.tree.version in
    subst (λ (p : Plan (Option (List ℕ))). looked (walked p h).end ≡ Ok (Reached (node_of (form_of v) at m))) (sym (plan_at v h.stores.tree.top at is))
    (subst (λ (top : Option (List ℕ)). looked (walked (node_plan (form_of v) top at) h).end ≡ Ok (Reached (node_of (form_of v) at m))) (sym whole.shows.top)
    (ap looked (told (node_plan (form_of v) (Some whole.shows.digest) at) h.stores.tree.store h.hashed (node_of (form_of v) at m)
    (node_tells (walked (node_plan (form_of v) (Some whole.shows.digest) at) h).hashed (form_of v) (form_laws v) h.stores.tree.store (levels v - at.level) at m whole.shows.digest (place_of v at is) whole.shows.stands whole.stored))))

-- entries without damage are all entries
pub all_entries : (m : List Entry) (scan : Scan) → scan.damaged ≡ [] → scan.entries ≡ filter (λ e. not (lost (form_of Two) scan.damaged e.key)) m → scan ≡ record { entries = m; damaged = [] }
all_entries m scan none is =
    let all : scan.entries ≡ m = is ∙ ap (λ (ps : List Position). filter (λ e. not (lost (form_of Two) ps e.key)) m) none ∙ every m in
    λ i. record { entries = all i; damaged = none i }

pub scans : ScansAll
scans strings h m free among whole = ap all_of came.came ∙ ap Ok (all_entries m came.value came.held found)
  where
    came : Arrives (walked (scan_plan (form_in h) h.stores.tree.top) h) (λ scan t. scan.damaged ≡ [])
    came = subst (λ (top : Option (List ℕ)). Arrives (walked (scan_plan (form_in h) top) h) (λ (scan : Scan) t. scan.damaged ≡ [])) (sym whole.shows.top)
        (arrives (walked (scan_plan (form_in h) (Some whole.shows.digest)) h).hashed (scan_plan (form_in h) (Some whole.shows.digest)) h.stores.tree.store h.hashed (λ (scan : Scan) t. scan.damaged ≡ [])
        (scan_reaches (walked (scan_plan (form_in h) (Some whole.shows.digest)) h).hashed (form_in h) (form_laws h.stores.tree.version) h.stores.tree.store whole.shows.digest m whole.shows.stands whole.stored) (λ x i. i))

    found : came.value.entries ≡ filter (λ e. not (lost (form_of Two) came.value.damaged e.key)) m
    found = subst (IsScanned m) (ap all_of came.came) (keeping.scans strings h m free among whole.shows)

-- ## Entering

pub enters : EntersAll
enters strings h m e free among fits few whole = (
  result,
  record {
    shows = subst (λ r. IsEntered e m r (answered (Enter e) h).held) result (keeping.enters strings h m e free among whole.shows fits few);
    stored = came.held.0;
    no_faults = record { facts = whole.no_faults.facts; backend = whole.no_faults.backend; tree = ap (λ f. f.pending) came.held.1 ∙ whole.no_faults.tree };
  },
)
  where
    came : Arrives (walked (insert_plan (form_in h) h.stores.tree.top e) h) (λ new t. AreStored t (form_in h) (form_in h).depth root (put e m) × (t.faults ≡ h.stores.tree.store.faults))
    came = subst (λ (top : Option (List ℕ)). AreAmong (walked (insert_plan (form_in h) top e) h).hashed strings → Arrives (walked (insert_plan (form_in h) top e) h) (λ new t. AreStored t (form_in h) (form_in h).depth root (put e m) × (t.faults ≡ h.stores.tree.store.faults))) (sym whole.shows.top)
        (λ a. arrives strings (insert_plan (form_in h) (Some whole.shows.digest) e) h.stores.tree.store h.hashed (λ new t. AreStored t (form_in h) (form_in h).depth root (put e m) × (t.faults ≡ h.stores.tree.store.faults))
        (insert_reaches strings free (form_in h) (form_laws h.stores.tree.version) whole.shows.digest e m h.stores.tree.store whole.no_faults.tree whole.shows.stands (λ x n. (among x (grows (Enter e) h x (whole.shows.texts x n)), whole.stored x n))) a) among

    result : (answered (Enter e) h).result ≡ Ok (Reached tt)
    result = ap entered came.came

-- ## A new tree

pub makes : MakesWhole
makes v h none = (
  result,
  record {
    shows = subst (λ r. IsMade [] h r (answered (FreshTree v) h).held) result (keeping.makes v h);
    stored = subst (λ (u : TreeVersion). AreStored (walked (fresh_plan (form_of v)) h).nodes (form_of u) (form_of u).depth root []) (sym made_in) came.held.0;
    no_faults = record { facts = none.facts; backend = none.backend; tree = ap (λ f. f.pending) came.held.1 ∙ none.tree };
  },
)
  where
    came : Arrives (walked (fresh_plan (form_of v)) h) (λ new t. AreStored t (form_of v) (form_of v).depth root [] × (t.faults ≡ h.stores.tree.store.faults))
    came = arrives (walked (fresh_plan (form_of v)) h).hashed (fresh_plan (form_of v)) h.stores.tree.store h.hashed (λ new t. AreStored t (form_of v) (form_of v).depth root [] × (t.faults ≡ h.stores.tree.store.faults))
        (fresh_reaches (walked (fresh_plan (form_of v)) h).hashed (form_of v) h.stores.tree.store none.tree) (λ x i. i)

    -- the walk came to a root, and so the tree has the new version
    made_in : version_opened v h.stores.tree.version (walked (fresh_plan (form_of v)) h).end ≡ v
    made_in = ap (version_opened v h.stores.tree.version) came.came

    result : (answered (FreshTree v) h).result ≡ Ok tt
    result = ap done came.came

pub installs : InstallsWhole
installs strings h m free among ok none = (
  result,
  record {
    shows = subst (λ r. IsMade m h r (answered (Install m) h).held) result (keeping.installs h m ok);
    stored = came.held.0;
    no_faults = record { facts = none.facts; backend = none.backend; tree = ap (λ f. f.pending) came.held.1 ∙ none.tree };
  },
)
  where
    came : Arrives (walked (rebuild_plan (form_in h) m) h) (λ new t. AreStored t (form_in h) (form_in h).depth root m × (t.faults ≡ h.stores.tree.store.faults))
    came = arrives strings (rebuild_plan (form_in h) m) h.stores.tree.store h.hashed (λ new t. AreStored t (form_in h) (form_in h).depth root m × (t.faults ≡ h.stores.tree.store.faults))
        (rebuild_reaches strings free (form_in h) (form_laws h.stores.tree.version) m h.stores.tree.store none.tree) among

    result : (answered (Install m) h).result ≡ Ok tt
    result = ap done came.came

pub opens : OpensWhole
unfolding walk
opens v h m holds hashed none = (
  refl,
  record {
    shows = record { digest = holds.top; top = holds.top_is; stands = holds.stands; texts = hashed };
    stored = holds.stored;
    no_faults = record { facts = none.facts; backend = none.backend; tree = none.tree };
  },
)

-- ## Other calls

-- a walk that only reads leaves the tree whole
still_whole : {A : Type 0} (p : Plan A) (h : Held) (m : List Entry) → OnlyReads p → Shows (with_tree h.stores.tree.version h.stores.tree.top (walked p h) h) m → IsWhole h m → IsWhole (with_tree h.stores.tree.version h.stores.tree.top (walked p h) h) m
still_whole p h m only shows whole =
    let stay = nodes_stay p h.stores.tree.store h.hashed only in
    record {
      shows = shows;
      stored = subst (λ (s : Nodes). AreStored s (form_in h) (form_in h).depth root m) (sym stay) whole.stored;
      no_faults = record { facts = whole.no_faults.facts; backend = whole.no_faults.backend; tree = ap (λ (s : Nodes). s.faults.pending) stay ∙ whole.no_faults.tree };
    }

pub get_only : (v : TreeVersion) (top : Option (List ℕ)) (key : List ℕ) → OnlyReads (get_plan (form_of v) top key)
get_only v None key = (tt, λ a. tt)
get_only v (Some digest) key = get_reads (form_of v) digest key

node_only : (v : TreeVersion) (top : Option (List ℕ)) (at : Position) → OnlyReads (node_plan (form_of v) top at)
node_only v None at = tt
node_only v (Some digest) at = node_reads (form_of v) digest at

pub position_only : (v : TreeVersion) (top : Option (List ℕ)) (at : Position) → OnlyReads (position_plan v top at)
position_only v top at = by (has_position v at)
  where
    by : (b : Bool) → OnlyReads (if b then node_plan (form_of v) top at else Done None)
    by true = node_only v top at
    by false = tt

pub scan_only : (v : TreeVersion) (top : Option (List ℕ)) → OnlyReads (scan_plan (form_of v) top)
scan_only v top = comes_reads (scan_plan (form_of v) top) (scan_comes (form_of v) (form_of v).depth (slot root top ∷ []))

pub keeps : KeepsWhole
keeps Load h m k whole = whole
keeps (Save fact) h m k whole = subst (λ (a : Answered (Save fact)). IsWhole a.held m) (sym (serves (Save fact) h whole.no_faults)) (record {
  shows = whole.shows;
  stored = whole.stored;
  no_faults = record { facts = whole.no_faults.facts; backend = whole.no_faults.backend; tree = whole.no_faults.tree };
})
keeps (FreshTree tree) h m k whole = absurd k
keeps (OpenTree seal tree) h m k whole = absurd k
keeps Root h m k whole = whole
keeps (Find key) h m k whole = still_whole (get_plan (form_in h) h.stores.tree.top key) h m (get_only h.stores.tree.version h.stores.tree.top key) (keeping.keeps (Find key) h m tt whole.shows) whole
keeps (Enter entry) h m k whole = absurd k
keeps ScanTree h m k whole = still_whole (scan_plan (form_in h) h.stores.tree.top) h m (scan_only h.stores.tree.version h.stores.tree.top) (keeping.keeps ScanTree h m tt whole.shows) whole
keeps (ReadNode at) h m k whole = still_whole (position_plan h.stores.tree.version h.stores.tree.top at) h m (position_only h.stores.tree.version h.stores.tree.top at) (keeping.keeps (ReadNode at) h m tt whole.shows) whole
keeps (Install entries) h m k whole = absurd k
keeps (Fetch key) h m k whole = whole
keeps (Put key bytes) h m k whole = subst (λ (a : Answered (Put key bytes)). IsWhole a.held m) (sym (serves (Put key bytes) h whole.no_faults)) (record {
  shows = whole.shows;
  stored = whole.stored;
  no_faults = record { facts = whole.no_faults.facts; backend = whole.no_faults.backend; tree = whole.no_faults.tree };
})
keeps (Hash bytes) h m k whole = record { shows = keeping.keeps (Hash bytes) h m tt whole.shows; stored = whole.stored; no_faults = record { facts = whole.no_faults.facts; backend = whole.no_faults.backend; tree = whole.no_faults.tree } }

-- ## The top record

-- a walk that only reads leaves the top record
still_recorded : {A : Type 0} (p : Plan A) (h : Held) → OnlyReads p → IsRecorded h → IsRecorded (with_tree h.stores.tree.version h.stores.tree.top (walked p h) h)
still_recorded p h only is = ap (λ (s : Nodes). top_of s.tops) (nodes_stay p h.stores.tree.store h.hashed only) ∙ is

open_recorded : (v : TreeVersion) (h : Held) → IsRecorded (answered (OpenTree None v) h).held
unfolding walk
open_recorded v h = refl

pub records : KeepsRecord
records Load h none own is = is
records (Save fact) h none own is = subst (λ (a : Answered (Save fact)). IsRecorded a.held) (sym (serves (Save fact) h none)) is
records (FreshTree tree) h none own is = root_recorded (fresh_plan (form_of tree)) h.stores.tree.store h.hashed h.stores.tree.top none.tree (fresh_last (form_of tree)) is
records (OpenTree None tree) h none own is = open_recorded tree h
records (OpenTree (Some seal) tree) h none own is = absurd own
records Root h none own is = is
records (Find key) h none own is = still_recorded (get_plan (form_in h) h.stores.tree.top key) h (get_only h.stores.tree.version h.stores.tree.top key) is
records (Enter e) h none own is = root_recorded (insert_plan (form_in h) h.stores.tree.top e) h.stores.tree.store h.hashed h.stores.tree.top none.tree (insert_last (form_in h) h.stores.tree.top e) is
records ScanTree h none own is = still_recorded (scan_plan (form_in h) h.stores.tree.top) h (scan_only h.stores.tree.version h.stores.tree.top) is
records (ReadNode at) h none own is = still_recorded (position_plan h.stores.tree.version h.stores.tree.top at) h (position_only h.stores.tree.version h.stores.tree.top at) is
records (Install entries) h none own is = root_recorded (rebuild_plan (form_in h) entries) h.stores.tree.store h.hashed h.stores.tree.top none.tree (rebuild_last (form_in h) entries) is
records (Fetch key) h none own is = is
records (Put key bytes) h none own is = subst (λ (a : Answered (Put key bytes)). IsRecorded a.held) (sym (serves (Put key bytes) h none)) is
records (Hash bytes) h none own is = is
