-- What each call of a step does to the map that the tree of a peer in memory shows.
use Rattle.std.specs.Prelude.{◌≡◌, ◌<◌, ◌^◌, ℕ, List, [], Result, Ok, Err, length, filter, not}
use Rattle.ens_base.specs.declared.entry.Entry.{Entry}
use Rattle.ens_base.specs.Lists.{◌∈◌}
use Rattle.fields.specs.Entries.{IsEntry}
use Rattle.world_spec.specs.Answers.{answered}
use Rattle.world_spec.specs.Held.{Held, HeldStores}
use Rattle.md5.specs.Md5.{md5}
use Rattle.step_plans.specs.Calls.{Call, Load, Save, FreshTree, OpenTree, Find, Enter, ScanTree, ReadNode, Install, Fetch, Put, Hash}
use Rattle.step_plans.specs.declared.error.PeerError.{PeerError}
use Rattle.step_plans.specs.declared.error.PeerError.TheVariants.{StoreFault}
use Rattle.step_plans.specs.declared.walked.Walked.{Walked}
use Rattle.step_plans.specs.declared.walked.Walked.TheVariants.{Reached, Broken}
use Rattle.tree_node.specs.declared.version.TreeVersion.{TreeVersion}
use Rattle.tree_node.specs.declared.version.TreeVersion.TheVariants.{Two}
use Rattle.synctree.specs.Entries.{IsMap, lookup, put}
use Rattle.synctree.specs.Paths.{node_of}
use Rattle.synctree.specs.Sixteen.{form_of}
use Rattle.tree_node.specs.Positions.{IsPosition}
use Rattle.tree_node.specs.declared.body.Scan.{Scan}
use Rattle.tree_node.specs.declared.position.Position.{Position}
use Rattle.tree_repair.specs.Scans.{lost}
use Rattle.peer_refinement.specs.Trees.{AreAmong, AreFree, Shows, form_in}

-- this value, or a position that does not verify
abbrev pub IsReached : {A : Type 0} → A → Result (Walked A) PeerError → Type 0
IsReached x (Ok (Reached y)) = y ≡ x
IsReached x (Ok (Broken at)) = Unit {0}
IsReached x (Err e) = ⊥

-- A find returns the entry that the map has for the key. Here and below, `strings` is any list that
-- has all strings hashed up to the end of the call.
abbrev pub FindsEntries : Type 0
FindsEntries = (strings : List (List ℕ)) (h : Held) (m : List Entry) (key : List ℕ) → AreFree strings → AreAmong (answered (Find key) h).held.hashed strings → Shows h m → IsReached (lookup key m) (answered (Find key) h).result

-- a read of a position of the tree returns the text of the node there in the tree of the map, or none if the
-- position is empty there
abbrev pub ReadsNodes : Type 0
ReadsNodes = (strings : List (List ℕ)) (h : Held) (m : List Entry) (at : Position) → AreFree strings → AreAmong (answered (ReadNode at) h).held.hashed strings → Shows h m → IsPosition h.stores.tree.version at → IsReached (node_of (form_in h) at m) (answered (ReadNode at) h).result

-- the entries of the map whose paths go through no damaged position; paths are the same in either version,
-- and go further in version two
abbrev pub IsScanned : List Entry → Result Scan PeerError → Type 0
IsScanned m (Ok scan) = scan.entries ≡ filter (λ e. not (lost (form_of Two) scan.damaged e.key)) m
IsScanned m (Err e) = ⊥

-- a scan returns the entries of the map, but for those below a damaged position
abbrev pub ScansMaps : Type 0
ScansMaps = (strings : List (List ℕ)) (h : Held) (m : List Entry) → AreFree strings → AreAmong (answered ScanTree h).held.hashed strings → Shows h m → IsScanned m (answered ScanTree h).result

-- the tree shows the map with the entry; or a position does not verify, or the write of the top
-- record failed, and it shows the map as it was
abbrev pub IsEntered : Entry → List Entry → Result (Walked (Unit {0})) PeerError → Held → Type 0
IsEntered e m (Ok (Reached done)) t = Shows t (put e m)
IsEntered e m (Ok (Broken at)) t = Shows t m
IsEntered e m (Err error) t = (error ≡ StoreFault) × Shows t m

-- an entering puts its entry into the map
abbrev pub EntersEntries : Type 0
EntersEntries = (strings : List (List ℕ)) (h : Held) (m : List Entry) (e : Entry) → AreFree strings → AreAmong (answered (Enter e) h).held.hashed strings → Shows h m
    → IsEntry e → length (put e m) < 2 ^ 32 → IsEntered e m (answered (Enter e) h).result (answered (Enter e) h).held

-- the tree shows this map; or the write of the top record failed, and the tree has the root that it
-- had, and shows the map that it showed
abbrev pub IsMade : List Entry → Held → Result (Unit {0}) PeerError → Held → Type 0
IsMade m h (Ok done) t = Shows t m
IsMade m h (Err e) t = (e ≡ StoreFault) × (t.stores.tree.top ≡ h.stores.tree.top) × ((n : List Entry) → Shows h n → Shows t n)

-- a fresh tree shows the empty map, whatever strings were hashed
abbrev pub MakesEmpty : Type 0
MakesEmpty = (tree : TreeVersion) (h : Held) → IsMade [] h (answered (FreshTree tree) h).result (answered (FreshTree tree) h).held

-- an installed tree shows the map of its entries, whatever strings were hashed
abbrev pub InstallsMaps : Type 0
InstallsMaps = (h : Held) (entries : List Entry) → IsMap entries → IsMade entries h (answered (Install entries) h).result (answered (Install entries) h).held

-- a call that gives the tree no other root
abbrev pub KeepsRoot : Call → Type 0
KeepsRoot (FreshTree tree) = ⊥
KeepsRoot (OpenTree seal tree) = ⊥
KeepsRoot (Enter entry) = ⊥
KeepsRoot (Install entries) = ⊥
KeepsRoot call = Unit {0}

-- such a call leaves the map, whatever strings were hashed
abbrev pub KeepsMaps : Type 0
KeepsMaps = (call : Call) (h : Held) (m : List Entry) → KeepsRoot call → Shows h m → Shows (answered call h).held m

-- a call that neither makes nor opens a tree
abbrev pub KeepsVersion : Call → Type 0
KeepsVersion (FreshTree tree) = ⊥
KeepsVersion (OpenTree seal tree) = ⊥
KeepsVersion call = Unit {0}

-- such a call leaves the version of the tree
abbrev pub KeepsVersions : Type 0
KeepsVersions = (call : Call) (h : Held) → KeepsVersion call → (answered call h).held.stores.tree.version ≡ h.stores.tree.version

-- what was hashed before a call is still there
abbrev pub KeepsHashed : Type 0
KeepsHashed = (call : Call) (h : Held) → AreAmong h.hashed (answered call h).held.hashed

-- the answer to a call that hashes bytes is their MD5, and the bytes are then among what was hashed
abbrev pub HashesBytes : Type 0
HashesBytes = (bytes : List ℕ) (h : Held) → ((answered (Hash bytes) h).result ≡ Ok (md5 bytes)) × (bytes ∈ (answered (Hash bytes) h).held.hashed)

-- the stores that a call does not speak to are as they were
abbrev pub SparesOthers : Call → HeldStores → HeldStores → Type 0
SparesOthers Load s t = t ≡ s
SparesOthers (Save fact) s t = (t.backend ≡ s.backend) × (t.tree ≡ s.tree)
SparesOthers (Fetch key) s t = t ≡ s
SparesOthers (Put key bytes) s t = (t.tree ≡ s.tree) × (t.facts ≡ s.facts)
SparesOthers (Hash bytes) s t = t ≡ s
SparesOthers call s t = (t.backend ≡ s.backend) × (t.facts ≡ s.facts)

-- a call changes no store but its own, and a call that only reads changes none
abbrev pub KeepsStores : Type 0
KeepsStores = (call : Call) (h : Held) → SparesOthers call h.stores (answered call h).held.stores
