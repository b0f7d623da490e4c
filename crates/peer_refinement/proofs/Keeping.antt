-- What each call does to the map that the tree shows.
use Rattle.std.proofs.Common.{◌≡◌, ◌⊎◌, ℕ, ◌-◌, ◌<◌, ◌≤◌, ◌^◌, ◌∙◌, nat_le, not, Bool, true, if◌then◌else◌, List, [], ◌∷◌, ◌++◌, Option, None, Some, Ok, Err, length, refl, ap, sym, subst, arith, inl, inr}
use Rattle.std.specs.Prelude.{filter}
use Rattle.std.proofs.lemmas.Bool.Decides.{nat_tests}
use Rattle.ens_base.proofs.Lists.{in_left, in_right}
use Rattle.ens_base.specs.declared.entry.Entry.{Entry}
use Rattle.ens_base.specs.Lists.{◌∈◌}
use Rattle.fields.specs.Entries.{IsEntry}
use Rattle.environment.specs.Maps.{with_value}
use Rattle.environment.specs.declared.memory.failing_call.Leaves.{Leaves}
use Rattle.world_spec.specs.Answers.{Answered, answered, looked, entered, whole, done, root_after, version_opened, with_facts, with_backend, with_tree, walked, facts_failed, objects_failed}
use Rattle.world_spec.specs.Held.{Held, unless_failing}
use Rattle.world_spec.specs.Walks.{End, Came, Broke, Failed, Walk, walk}
use Rattle.step_plans.specs.Calls.{Load, Save, FreshTree, OpenTree, Root, Find, Enter, ScanTree, ReadNode, Install, Fetch, Put, Hash}
use Rattle.stored_formats.specs.declared.saved.SavedFact.{SavedFact}
use Rattle.step_plans.specs.declared.error.PeerError.TheVariants.{StoreFault}
use Rattle.world_spec.specs.PeerSpec.{position_plan}
use Rattle.tree_node.specs.Positions.{IsPosition}
use Rattle.tree_node.specs.TreeVersions.{levels}
use Rattle.tree_node.specs.declared.position.Position.{Position}
use Rattle.tree_node.specs.declared.version.TreeVersion.{TreeVersion}
use Rattle.tree_node.specs.declared.version.TreeVersion.TheVariants.{Two}
use Rattle.synctree.specs.Nodes.{node_plan}
use Rattle.synctree.specs.Plans.{Plan, Done, Ends}
use Rattle.synctree.specs.Trees.{open_plan, fresh_plan, get_plan, insert_plan}
use Rattle.synctree.proofs.Descending.{node_is}
use Rattle.synctree.proofs.Meaning.{get_answers, fresh_stands}
use Rattle.synctree.proofs.Places.{place_of}
use Rattle.synctree.proofs.Standing.{insert_stands}
use Rattle.synctree.specs.Entries.{lookup, put}
use Rattle.synctree.specs.Forms.{Form, root}
use Rattle.synctree.specs.Maps.{IsNode, AreApart, Stands}
use Rattle.synctree.specs.Paths.{node_of}
use Rattle.synctree.specs.Sixteen.{form_of}
use Rattle.synctree.proofs.Formats.{form_laws}
use Rattle.tree_node.specs.declared.body.Scan.{Scan}
use Rattle.world_stores.specs.TreeRepair.{rebuild_plan}
use Rattle.tree_repair.specs.Levels.{slot, scan_plan}
use Rattle.world_stores.proofs.TreeRepair.{filter_agree}
use Rattle.tree_repair.proofs.Telling.{scan_answers}
use Rattle.tree_repair.specs.Scans.{lost}
use Rattle.world_stores.specs.Nodes.{Nodes}
use Rattle.world_stores.specs.Objects.{Objects}
use Rattle.world_stores.specs.declared.fact.HeldFact.{HeldFact}
use Rattle.peer_refinement.specs.Trees.{AreAmong, AreFree, Shows, form_in}
use Rattle.peer_refinement.specs.TreeLaws.{FindsEntries, ReadsNodes, ScansMaps, EntersEntries, MakesEmpty, InstallsMaps, KeepsMaps, KeepsVersions, KeepsHashed, HashesBytes, KeepsStores, IsReached, IsScanned, IsEntered, IsMade, SparesOthers}
use Rattle.peer_refinement.proofs.Walking.{does, Ended, OnlyReads, Comes, walk_is, walk_grows, no_failure, get_reads, node_reads, comes_reads, unbroken, scan_comes}
use Rattle.peer_refinement.proofs.Entering.{insert_nodes}
use Rattle.peer_refinement.proofs.Foreign.{lost_same}
use Rattle.peer_refinement.proofs.Installing.{fresh_nodes, rebuild_nodes, rebuild_stands}

-- what holds whether or not a failure waits
either_way : {A : Type 0} (P : A → Type 0) (o : Option Leaves) (goes : A) (fails : Leaves → A) → P goes → ((leaves : Leaves) → P (fails leaves)) → P (unless_failing o goes fails)
either_way P None goes fails p q = p
either_way P (Some leaves) goes fails p q = q leaves

-- what holds of each fact keeper holds after a save, and likewise for the objects after a put
pub after_saving : (fact : SavedFact) (h : Held) (P : Held → Type 0) → ((facts : HeldFact) → P (with_facts facts h)) → P (answered (Save fact) h).held
after_saving fact h P holds = either_way (λ (a : Answered (Save fact)). P a.held) h.stores.facts.faults.pending (record { result = Ok tt; held = with_facts (record h.stores.facts { kept = Some fact }) h })
    (λ leaves. record { result = Err StoreFault; held = with_facts (facts_failed h.stores.facts (record h.stores.facts { kept = Some fact }) leaves) h })
    (holds (record h.stores.facts { kept = Some fact })) (λ leaves. holds (facts_failed h.stores.facts (record h.stores.facts { kept = Some fact }) leaves))

pub after_putting : (key bytes : List ℕ) (h : Held) (P : Held → Type 0) → ((objects : Objects) → P (with_backend objects h)) → P (answered (Put key bytes) h).held
after_putting key bytes h P holds = either_way (λ (a : Answered (Put key bytes)). P a.held) h.stores.backend.faults.pending (record { result = Ok tt; held = with_backend (record h.stores.backend { entries = with_value key bytes h.stores.backend.entries }) h })
    (λ leaves. record { result = Err StoreFault; held = with_backend (objects_failed h.stores.backend (record h.stores.backend { entries = with_value key bytes h.stores.backend.entries }) leaves) h })
    (holds (record h.stores.backend { entries = with_value key bytes h.stores.backend.entries })) (λ leaves. holds (objects_failed h.stores.backend (record h.stores.backend { entries = with_value key bytes h.stores.backend.entries }) leaves))

-- a tree with the same root shows the same map, after any walk
pub still_shows : {A : Type 0} (p : Plan A) (h : Held) (m : List Entry) → Shows h m → Shows (with_tree h.stores.tree.version h.stores.tree.top (walked p h) h) m
still_shows p h m shows = record { digest = shows.digest; top = shows.top; stands = shows.stands; texts = λ x n. walk_grows p h.stores.tree.store h.hashed x (shows.texts x n) }

-- strings without clashes are apart from the nodes of a map that was hashed
pub apart_of : (F : Form) (strings now hashed xs : List (List ℕ)) (m : List Entry) → AreFree strings → AreAmong now strings → now ≡ hashed ++ xs → ((x : List ℕ) → IsNode F F.depth root m x → x ∈ hashed) → AreApart xs F F.depth root m
apart_of F strings now hashed xs m free among grew texts x y i n e =
    free x y (among x (subst (λ zs. x ∈ zs) (sym grew) (in_right hashed xs x i))) (among y (subst (λ zs. y ∈ zs) (sym grew) (in_left hashed xs y (texts y n)))) e

-- ## Looking

pub looked_end : {A : Type 0} (p : Plan A) (x : A) (s t : Nodes) (xs : List (List ℕ)) (end : End A) → ((y : A) → Ends does p s xs (Ok y) t → y ≡ x) → Ended p s xs end t → (end ≡ Failed → ⊥) → IsReached x (looked end)
looked_end p x s t xs (Came y) is ends sound = is y ends
looked_end p x s t xs (Broke at) is ends sound = tt
looked_end p x s t xs Failed is ends sound = sound refl

-- a walk that looks for something finds it, if each run of its plan does that is apart from the map
looked_from : {A : Type 0} (F : Form) (p : Plan A) (x : A) (strings hashed : List (List ℕ)) (m : List Entry) (s : Nodes) → OnlyReads p → AreFree strings → AreAmong (walk p s hashed).hashed strings → ((y : List ℕ) → IsNode F F.depth root m y → y ∈ hashed)
    → ((y : A) (xs : List (List ℕ)) (t : Nodes) → AreApart xs F F.depth root m → Ends does p s xs (Ok y) t → y ≡ x) → IsReached x (looked (walk p s hashed).end)
looked_from F p x strings hashed m s quiet free among texts is =
    let w = walk_is p s hashed in
    looked_end p x s (walk p s hashed).nodes w.strings (walk p s hashed).end (λ y ends. is y w.strings (walk p s hashed).nodes (apart_of F strings (walk p s hashed).hashed hashed w.strings m free among w.grew texts) ends) w.ended (no_failure p s hashed quiet)

pub finds : FindsEntries
finds strings h m key free among shows =
    let v = h.stores.tree.version in
    subst (λ (top : Option (List ℕ)). AreAmong (walked (get_plan (form_of v) top key) h).hashed strings → IsReached (lookup key m) (looked (walked (get_plan (form_of v) top key) h).end)) (sym shows.top)
    (λ a. looked_from (form_of v) (get_plan (form_of v) (Some shows.digest) key) (lookup key m) strings h.hashed m h.stores.tree.store (get_reads (form_of v) shows.digest key) free a shows.texts
    (λ y xs t apart ends. get_answers does (form_of v) (form_laws v) shows.digest key m h.stores.tree.store t xs y shows.stands apart ends)) among

-- a position of the tree is read by the plan of its node
pub plan_at : (v : TreeVersion) (top : Option (List ℕ)) (at : Position) → IsPosition v at → position_plan v top at ≡ node_plan (form_of v) top at
plan_at v top at is = ap (λ (b : Bool). if b then node_plan (form_of v) top at else Done None) (within at.level (levels v) is.level)
  where
    within : (level last : ℕ) → level ≤ last → nat_le level last ≡ true
    within level last le = grind (arith, nat_tests)

pub reads : ReadsNodes
reads strings h m at free among shows is =
    let v = h.stores.tree.version in
    subst (λ (p : Plan (Option (List ℕ))). AreAmong (walked p h).hashed strings → IsReached (node_of (form_of v) at m) (looked (walked p h).end)) (sym (plan_at v h.stores.tree.top at is))
    (subst (λ (top : Option (List ℕ)). AreAmong (walked (node_plan (form_of v) top at) h).hashed strings → IsReached (node_of (form_of v) at m) (looked (walked (node_plan (form_of v) top at) h).end)) (sym shows.top)
    (λ a. looked_from (form_of v) (node_plan (form_of v) (Some shows.digest) at) (node_of (form_of v) at m) strings h.hashed m h.stores.tree.store (node_reads (form_of v) shows.digest at) free a shows.texts
    (λ y xs t apart ends. node_is does (form_of v) (form_laws v) (levels v - at.level) at m shows.digest h.stores.tree.store t xs y (place_of v at is) apart shows.stands ends))) among

-- what a scan in any version says of a map
scan_says : (v : TreeVersion) (scan : Scan) (m : List Entry) → scan.entries ≡ filter (λ (e : Entry). not (lost (form_of v) scan.damaged e.key)) m → scan.entries ≡ filter (λ (e : Entry). not (lost (form_of Two) scan.damaged e.key)) m
scan_says v scan m is = is ∙ filter_agree (λ (e : Entry). not (lost (form_of v) scan.damaged e.key)) (λ (e : Entry). not (lost (form_of Two) scan.damaged e.key)) (λ e. ap not (lost_same v scan.damaged e.key)) m

scanned_end : (v : TreeVersion) (m : List Entry) (digest : List ℕ) (s t : Nodes) (xs : List (List ℕ)) (end : End Scan) → Stands (form_of v) digest m → AreApart xs (form_of v) (form_of v).depth root m → Comes (scan_plan (form_of v) (Some digest))
    → Ended (scan_plan (form_of v) (Some digest)) s xs end t → (end ≡ Failed → ⊥) → IsScanned m (whole end)
scanned_end v m digest s t xs (Came scan) stands apart comes ends sound = scan_says v scan m (scan_answers (form_of v) (form_laws v) does digest m s t xs scan stands apart ends)
scanned_end v m digest s t xs (Broke at) stands apart comes ends sound = unbroken does (scan_plan (form_of v) (Some digest)) s t xs at comes ends
scanned_end v m digest s t xs Failed stands apart comes ends sound = sound refl

scanned_from : (v : TreeVersion) (strings hashed : List (List ℕ)) (m : List Entry) (digest : List ℕ) (s : Nodes) → AreFree strings → AreAmong (walk (scan_plan (form_of v) (Some digest)) s hashed).hashed strings → Stands (form_of v) digest m
    → ((x : List ℕ) → IsNode (form_of v) (form_of v).depth root m x → x ∈ hashed) → IsScanned m (whole (walk (scan_plan (form_of v) (Some digest)) s hashed).end)
scanned_from v strings hashed m digest s free among stands texts =
    let w = walk_is (scan_plan (form_of v) (Some digest)) s hashed in
    let comes : Comes (scan_plan (form_of v) (Some digest)) = scan_comes (form_of v) (form_of v).depth (slot root (Some digest) ∷ []) in
    scanned_end v m digest s (walk (scan_plan (form_of v) (Some digest)) s hashed).nodes w.strings (walk (scan_plan (form_of v) (Some digest)) s hashed).end stands
    (apart_of (form_of v) strings (walk (scan_plan (form_of v) (Some digest)) s hashed).hashed hashed w.strings m free among w.grew texts) comes w.ended (no_failure (scan_plan (form_of v) (Some digest)) s hashed (comes_reads (scan_plan (form_of v) (Some digest)) comes))

pub scans : ScansMaps
scans strings h m free among shows =
    let v = h.stores.tree.version in
    subst (λ (top : Option (List ℕ)). AreAmong (walked (scan_plan (form_of v) top) h).hashed strings → IsScanned m (whole (walked (scan_plan (form_of v) top) h).end)) (sym shows.top)
    (λ a. scanned_from v strings h.hashed m shows.digest h.stores.tree.store free a shows.stands shows.texts) among

-- ## Entering

-- a tree with its old root and version shows what it showed, after a walk that hashed more
old_root : (h : Held) (w : Walk (List ℕ)) (xs : List (List ℕ)) → w.hashed ≡ h.hashed ++ xs → (m : List Entry) → Shows h m → Shows (with_tree h.stores.tree.version h.stores.tree.top w h) m
old_root h w xs grew m shows = record { digest = shows.digest; top = shows.top; stands = shows.stands; texts = λ x n. subst (λ zs. x ∈ zs) (sym grew) (in_left h.hashed xs x (shows.texts x n)) }

entered_end : (h : Held) (m : List Entry) (e : Entry) (digest : List ℕ) (w : Walk (List ℕ)) (xs : List (List ℕ)) (end : End (List ℕ)) → Shows h m → IsEntry e → length (put e m) < 2 ^ 32 → Stands (form_in h) digest m → AreApart xs (form_in h) (form_in h).depth root m → w.hashed ≡ h.hashed ++ xs
    → Ended (insert_plan (form_in h) (Some digest) e) h.stores.tree.store xs end w.nodes → IsEntered e m (entered end) (with_tree h.stores.tree.version (root_after h.stores.tree.top end) w h)
entered_end h m e digest w xs (Came new) shows fits few stands apart grew ends = record {
  digest = new;
  top = refl;
  stands = insert_stands (form_in h) (form_laws h.stores.tree.version) does digest e m h.stores.tree.store w.nodes xs new stands fits few apart ends;
  texts = λ x n. known x (insert_nodes (form_in h) (form_laws h.stores.tree.version) does digest e m h.stores.tree.store w.nodes xs new stands apart ends x n);
}
  where
    known : (x : List ℕ) → (x ∈ xs) ⊎ IsNode (form_in h) (form_in h).depth root m x → x ∈ w.hashed
    known x (inl i) = subst (λ zs. x ∈ zs) (sym grew) (in_right h.hashed xs x i)
    known x (inr n) = subst (λ zs. x ∈ zs) (sym grew) (in_left h.hashed xs x (shows.texts x n))
entered_end h m e digest w xs (Broke at) shows fits few stands apart grew ends = old_root h w xs grew m shows
entered_end h m e digest w xs Failed shows fits few stands apart grew ends = (refl, old_root h w xs grew m shows)

entered_from : (strings : List (List ℕ)) (h : Held) (m : List Entry) (e : Entry) (digest : List ℕ) → AreFree strings → AreAmong (walked (insert_plan (form_in h) (Some digest) e) h).hashed strings → Shows h m → Stands (form_in h) digest m → IsEntry e → length (put e m) < 2 ^ 32
    → IsEntered e m (entered (walked (insert_plan (form_in h) (Some digest) e) h).end) (with_tree h.stores.tree.version (root_after h.stores.tree.top (walked (insert_plan (form_in h) (Some digest) e) h).end) (walked (insert_plan (form_in h) (Some digest) e) h) h)
entered_from strings h m e digest free among shows stands fits few =
    let w = walk_is (insert_plan (form_in h) (Some digest) e) h.stores.tree.store h.hashed in
    entered_end h m e digest (walked (insert_plan (form_in h) (Some digest) e) h) w.strings (walked (insert_plan (form_in h) (Some digest) e) h).end shows fits few stands
    (apart_of (form_in h) strings (walked (insert_plan (form_in h) (Some digest) e) h).hashed h.hashed w.strings m free among w.grew shows.texts) w.grew w.ended

pub enters : EntersEntries
enters strings h m e free among shows fits few =
    subst (λ (top : Option (List ℕ)). AreAmong (walked (insert_plan (form_in h) top e) h).hashed strings
    → IsEntered e m (entered (walked (insert_plan (form_in h) top e) h).end) (with_tree h.stores.tree.version (root_after h.stores.tree.top (walked (insert_plan (form_in h) top e) h).end) (walked (insert_plan (form_in h) top e) h) h)) (sym shows.top)
    (λ a. entered_from strings h m e shows.digest free a shows shows.stands fits few) among

-- ## A new tree

-- a tree that is made in this version, from its nodes
made_end : (v : TreeVersion) (h : Held) (m : List Entry) (p : Plan (List ℕ)) (w : Walk (List ℕ)) (xs : List (List ℕ)) (end : End (List ℕ)) → w.hashed ≡ h.hashed ++ xs
    → ((new : List ℕ) → Ends does p h.stores.tree.store xs (Ok new) w.nodes → Stands (form_of v) new m)
    → ((new : List ℕ) → Ends does p h.stores.tree.store xs (Ok new) w.nodes → (x : List ℕ) → IsNode (form_of v) (form_of v).depth root m x → x ∈ xs)
    → Ended p h.stores.tree.store xs end w.nodes → IsMade m h (done end) (with_tree (version_opened v h.stores.tree.version end) (root_after h.stores.tree.top end) w h)
made_end v h m p w xs (Came new) grew stands texts ends = record {
  digest = new;
  top = refl;
  stands = stands new ends;
  texts = λ x n. subst (λ zs. x ∈ zs) (sym grew) (in_right h.hashed xs x (texts new ends x n));
}
made_end v h m p w xs (Broke at) grew stands texts ends = (refl, refl, old_root h w xs grew)
made_end v h m p w xs Failed grew stands texts ends = (refl, refl, old_root h w xs grew)

pub makes : MakesEmpty
makes v h =
    let w = walk_is (fresh_plan (form_of v)) h.stores.tree.store h.hashed in
    let t = (walked (fresh_plan (form_of v)) h).nodes in
    made_end v h [] (fresh_plan (form_of v)) (walked (fresh_plan (form_of v)) h) w.strings (walked (fresh_plan (form_of v)) h).end w.grew
    (λ new ends. fresh_stands does (form_of v) new h.stores.tree.store t w.strings ends) (λ new ends. fresh_nodes does (form_of v) new h.stores.tree.store t w.strings ends) w.ended

-- a tree that is built anew keeps its version
pub built_in : {A : Type 0} (v : TreeVersion) (end : End A) → version_opened v v end ≡ v
built_in v (Came x) = refl
built_in v (Broke at) = refl
built_in v Failed = refl

pub installs : InstallsMaps
installs h m ok =
    let v = h.stores.tree.version in
    let w = walk_is (rebuild_plan (form_of v) m) h.stores.tree.store h.hashed in
    let t = (walked (rebuild_plan (form_of v) m) h).nodes in
    subst (λ (version : TreeVersion). IsMade m h (done (walked (rebuild_plan (form_of v) m) h).end) (with_tree version (root_after h.stores.tree.top (walked (rebuild_plan (form_of v) m) h).end) (walked (rebuild_plan (form_of v) m) h) h)) (built_in v (walked (rebuild_plan (form_of v) m) h).end)
    (made_end v h m (rebuild_plan (form_of v) m) (walked (rebuild_plan (form_of v) m) h) w.strings (walked (rebuild_plan (form_of v) m) h).end w.grew
    (λ new ends. rebuild_stands does (form_of v) (form_laws v) m new h.stores.tree.store t w.strings ok ends) (λ new ends. rebuild_nodes does (form_of v) (form_laws v) m new h.stores.tree.store t w.strings ends) w.ended)

-- ## Other calls

pub keeps : KeepsMaps
keeps Load h m k shows = shows
keeps (Save fact) h m k shows = after_saving fact h (λ t. Shows t m) (λ facts. shows)
keeps (FreshTree tree) h m k shows = absurd k
keeps (OpenTree seal tree) h m k shows = absurd k
keeps Root h m k shows = shows
keeps (Find key) h m k shows = still_shows (get_plan (form_in h) h.stores.tree.top key) h m shows
keeps (Enter entry) h m k shows = absurd k
keeps ScanTree h m k shows = still_shows (scan_plan (form_in h) h.stores.tree.top) h m shows
keeps (ReadNode at) h m k shows = still_shows (position_plan h.stores.tree.version h.stores.tree.top at) h m shows
keeps (Install entries) h m k shows = absurd k
keeps (Fetch key) h m k shows = shows
keeps (Put key bytes) h m k shows = after_putting key bytes h (λ t. Shows t m) (λ objects. shows)
keeps (Hash bytes) h m k shows = record { digest = shows.digest; top = shows.top; stands = shows.stands; texts = λ x n. in_left h.hashed (bytes ∷ []) x (shows.texts x n) }

pub versions : KeepsVersions
versions Load h k = refl
versions (Save fact) h k = after_saving fact h (λ t. t.stores.tree.version ≡ h.stores.tree.version) (λ facts. refl)
versions (FreshTree tree) h k = absurd k
versions (OpenTree seal tree) h k = absurd k
versions Root h k = refl
versions (Find key) h k = refl
versions (Enter entry) h k = refl
versions ScanTree h k = refl
versions (ReadNode at) h k = refl
versions (Install entries) h k = refl
versions (Fetch key) h k = refl
versions (Put key bytes) h k = after_putting key bytes h (λ t. t.stores.tree.version ≡ h.stores.tree.version) (λ objects. refl)
versions (Hash bytes) h k = refl

pub grows : KeepsHashed
grows Load h x i = i
grows (Save fact) h x i = after_saving fact h (λ t. x ∈ t.hashed) (λ facts. i)
grows (FreshTree tree) h x i = walk_grows (fresh_plan (form_of tree)) h.stores.tree.store h.hashed x i
grows (OpenTree seal tree) h x i = walk_grows open_plan h.stores.tree.store h.hashed x i
grows Root h x i = i
grows (Find key) h x i = walk_grows (get_plan (form_in h) h.stores.tree.top key) h.stores.tree.store h.hashed x i
grows (Enter entry) h x i = walk_grows (insert_plan (form_in h) h.stores.tree.top entry) h.stores.tree.store h.hashed x i
grows ScanTree h x i = walk_grows (scan_plan (form_in h) h.stores.tree.top) h.stores.tree.store h.hashed x i
grows (ReadNode at) h x i = walk_grows (position_plan h.stores.tree.version h.stores.tree.top at) h.stores.tree.store h.hashed x i
grows (Install entries) h x i = walk_grows (rebuild_plan (form_in h) entries) h.stores.tree.store h.hashed x i
grows (Fetch key) h x i = i
grows (Put key bytes) h x i = after_putting key bytes h (λ t. x ∈ t.hashed) (λ objects. i)
grows (Hash bytes) h x i = in_left h.hashed (bytes ∷ []) x i

pub hashes : HashesBytes
hashes bytes h = (refl, in_right h.hashed (bytes ∷ []) bytes (inl refl))

pub spares : KeepsStores
spares Load h = refl
spares (Save fact) h = after_saving fact h (λ t. SparesOthers (Save fact) h.stores t.stores) (λ facts. (refl, refl))
spares (FreshTree tree) h = (refl, refl)
spares (OpenTree seal tree) h = (refl, refl)
spares Root h = (refl, refl)
spares (Find key) h = (refl, refl)
spares (Enter entry) h = (refl, refl)
spares ScanTree h = (refl, refl)
spares (ReadNode at) h = (refl, refl)
spares (Install entries) h = (refl, refl)
spares (Fetch key) h = refl
spares (Put key bytes) h = after_putting key bytes h (λ t. SparesOthers (Put key bytes) h.stores t.stores) (λ objects. (refl, refl))
spares (Hash bytes) h = refl
