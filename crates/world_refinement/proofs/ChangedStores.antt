-- The node of a peer as the peer stops or starts, and as lines of the schedule change its stores.
use Rattle.std.proofs.Common.{◌≡◌, ◌⊎◌, ◌<◌, ◌≤◌, ℕ, Bool, true, false, if◌then◌else◌, inl, inr, List, [], ◌∷◌, ◌++◌, length, Option, None, Some, Result, Ok, Err, append-nil, arith, refl, sym, ap, ◌∙◌, subst}
use Rattle.std.proofs.lemmas.Bool.{and_parts}
use Rattle.std.proofs.lemmas.Option.{none-some, same_Some}
use Rattle.ens_base.proofs.Lists.{bytes_same}
use Rattle.ens_base.specs.Lists.{◌∈◌, same_bytes}
use Rattle.ens_base.specs.declared.entry.Entry.{Entry}
use Rattle.environment.specs.declared.memory.failing_call.Leaves.{Leaves}
use Rattle.protocol_laws.specs.Objects.{Objects, epoch_of, IsGenuine}
use Rattle.protocol_laws.specs.Protocol.{State, Lose, Revert, happens, MayCome}
use Rattle.step_refinement.proofs.ElectionRefinement.{listed_started}
use Rattle.step_refinement.specs.ElectionRefinement.{IsListedFact, IsSaved, PeerHolds}
use Rattle.protocol_laws.proofs.Later.{stay_step}
use Rattle.protocol_laws.specs.Stays.{EntriesStay}
use Rattle.peer_refinement.specs.WorldSpec.{Answered, answered, Held, HeldStores, held_with, Ended, run, either, walk}
use Rattle.role_laws.specs.Roles.{Follows}
use Rattle.step_refinement.specs.LeaderRefinement.{rank, entry_rank}
use Rattle.peer_refinement.specs.PeerSpec.{resumed, continued, ascends, is_whole, reseals, reseals_if, migrated, scanned, continued_in, opened, start_of}
use Rattle.peer_state.specs.Moves.{follower}
use Rattle.peer_state.specs.declared.state.Mode.{Mode}
use Rattle.peer_state.specs.declared.state.Phase.{Phase}
use Rattle.peer_state.specs.declared.state.State.{State as PeerState}
use Rattle.stored_formats.specs.declared.fact.Fact.{Fact}
use Rattle.stored_formats.specs.declared.saved.SavedFact.{SavedFact}
use Rattle.register_model.specs.declared.note.Note.{Note}
use Rattle.step_refinement.specs.PeerRefinement.{EntrySays, ShownMayReturn, ranks, MayReturn}
use Rattle.role_laws.proofs.SealMoves.{unsealed_not}
use Rattle.role_laws.specs.Kept.{IsSealed, RootHolds}
use Rattle.step_plans.specs.Saved.{with_seal, bare, kept_seal}
use Rattle.schedule_text.specs.declared.keyword.StoreName.{StoreName}
use Rattle.schedule_text.specs.declared.keyword.StoreName.TheVariants as names
use Rattle.step_plans.specs.Calls.{Call, AnswerOf, Save, OpenTree, ScanTree, Install}
use Rattle.step_plans.specs.Plans.{Plan, Ask, Ending, Finished, Stopped}
use Rattle.step_plans.specs.declared.error.PeerError.{PeerError}
use Rattle.step_plans.specs.declared.error.PeerError.TheVariants.{StoreFault}
use Rattle.role_laws.specs.Facts.{Lines}
use Rattle.step_refinement.proofs.PeerRefinement.{stays}
use Rattle.tree_sync.specs.Syncs.{is_clean}
use Rattle.tree_sync.proofs.Same.{none_is}
use Rattle.synctree.specs.Seals.{if_sealed}
use Rattle.synctree.specs.Entries.{lookup}
use Rattle.tree_node.specs.declared.body.Scan.{Scan}
use Rattle.tree_node.specs.declared.version.TreeVersion.{TreeVersion}
use Rattle.tree_node.specs.declared.version.TreeVersion.TheVariants.{One, Two}
use Rattle.peer_refinement.proofs.Keeping.{grows, spares, versions}
use Rattle.peer_refinement.proofs.Rooted as rooted
use Rattle.peer_refinement.proofs.Tops as records
use Rattle.peer_refinement.proofs.Tops.{reverted_in, reverted_some}
use Rattle.peer_refinement.proofs.Whole.{all_entries}
use Rattle.peer_refinement.specs.Rooted.{Sees, IsSeen, HasUnsealed}
use Rattle.peer_refinement.specs.Tops.{IsNamed, NamesNext, IsWritten, IsTorn, HasBuilt, tops_of}
use Rattle.peer_refinement.specs.Trees.{AreAmong, AreFree}
use Rattle.protocol_laws.proofs.Maps.{put_here}
use Rattle.world_spec.specs.Nodes.{Node, Up, Down, taken_by, taken_of, run_over, started, hashed_by_start, over_stores}
use Rattle.world_spec.specs.Stores.{failing, spoiled, segment_spoiled, inner_spoiled, taken_back}
use Rattle.world_spec.proofs.Determined.{taken_strings}
use Rattle.world_stores.specs.Nodes.{top_of, reverted}
use Rattle.world_stores.specs.declared.fact.HeldFact.{HeldFact}
use Rattle.world_refinement.proofs.HashedBefore.{behind, run_behind}
use Rattle.step_refinement.proofs.CallByCall.{run_hashes}
use Rattle.step_refinement.proofs.StoreAnswers.{SaveEnds, Saves, Refuses, save_ends}
use Rattle.step_refinement.proofs.ShownMaps.{IsSealOf, tops_behind, tops_next, tops_stay, seal_names, next_top, last_over, last_stays, last_under, last_sealed, named_top, tree_over, written_root}
use Rattle.step_refinement.specs.Peers.{TopReturns, TopsReturn, LastMap, TreeHolds, DownHolds, SealFits, SyncFits}
use Rattle.step_refinement.specs.Roles.{role_in}
use Rattle.world_refinement.specs.Roles.{role_of}
use Rattle.world_refinement.specs.Worlds.{UpFits, NodeFits}

-- ## Stores that change

-- a change of stores leaves the fact, the top records, and the root and the version of the tree
pub record SparesRecords (f : HeldStores → HeldStores) : Type 0 where
  pub kept : (stores : HeldStores) → (f stores).facts.kept ≡ stores.facts.kept
  pub tops : (stores : HeldStores) → tops_of (f stores) ≡ tops_of stores
  pub root : (stores : HeldStores) → (f stores).tree.top ≡ stores.tree.top
  pub version : (stores : HeldStores) → (f stores).tree.version ≡ stores.tree.version

-- so does a failure that begins to wait
pub failing_spares : (store : StoreName) (leaves : Leaves) → SparesRecords (failing store leaves)
failing_spares names.Fact leaves = record { kept = λ stores. refl; tops = λ stores. refl; root = λ stores. refl; version = λ stores. refl }
failing_spares names.Tree leaves = record { kept = λ stores. refl; tops = λ stores. refl; root = λ stores. refl; version = λ stores. refl }
failing_spares names.Backend leaves = record { kept = λ stores. refl; tops = λ stores. refl; root = λ stores. refl; version = λ stores. refl }

-- so does a change of an object, a segment or an inner node
pub spoiled_spares : (key : List ℕ) (bytes : Option (List ℕ)) → SparesRecords (spoiled key bytes)
spoiled_spares key bytes = record { kept = λ stores. refl; tops = λ stores. refl; root = λ stores. refl; version = λ stores. refl }

-- a change of a segment keeps the fact and the records
pub segment_spares : (key : List ℕ) (bytes : Option (List ℕ)) → SparesRecords (segment_spoiled key bytes)
segment_spares key bytes = record { kept = λ stores. refl; tops = λ stores. refl; root = λ stores. refl; version = λ stores. refl }

-- and so does a change of an inner node
pub inner_spares : (level index : ℕ) (bytes : Option (List ℕ)) → SparesRecords (inner_spoiled level index bytes)
inner_spares level index bytes = record { kept = λ stores. refl; tops = λ stores. refl; root = λ stores. refl; version = λ stores. refl }

module _ (version : TreeVersion) (lines : Lines) (strings : List (List ℕ)) (q : ℕ) where
  module _ (f : HeldStores → HeldStores) (spares : SparesRecords f) (hashed : List (List ℕ)) (s : State) where
    -- nothing that holds of a tree is about its stored nodes
    abbrev altered_tree : (seal : Option (List ℕ)) (stores : HeldStores) → TreeHolds s strings q seal (held_with stores hashed) → TreeHolds s strings q seal (held_with (f stores) hashed)
    altered_tree seal stores tree = tree_over s strings q seal (held_with stores hashed) (held_with (f stores) hashed) (spares.kept stores) (spares.tops stores) (spares.root stores) (λ x i. i) tree

    -- nor is anything that holds of a node
    pub altered_fits : (node : Node) → NodeFits version lines strings hashed s q node → NodeFits version lines strings hashed s q (over_stores f node)
    altered_fits (Up x stores) fits = record {
      holds = subst (PeerHolds s.objects.ledger q x) (sym (ap bare (spares.kept stores))) fits.holds;
      listed = fits.listed;
      trust = fits.trust;
      tree = altered_tree x.seal stores fits.tree;
      seal = fits.seal;
      mode = fits.mode;
      held = spares.version stores ∙ fits.held;
      sync = subst (λ (root : Option (List ℕ)). SyncFits version lines s strings q x.fact x.trusted fits.tree.last.map root x.sync) (sym (spares.root stores)) fits.sync;
      fits = fits.fits;
      rests = fits.rests;
    }
    altered_fits (Down stores) down = record {
      fact = down.fact;
      kept = ap bare (spares.kept stores) ∙ down.kept;
      saved = down.saved;
      listed = down.listed;
      seal = subst (SealFits lines) (sym (ap kept_seal (spares.kept stores))) down.seal;
      blind = down.blind;
      last = last_under strings q s hashed (kept_seal stores.facts.kept) (kept_seal (f stores).facts.kept) (tops_of (f stores)) (ap kept_seal (spares.kept stores))
          (last_over strings q s hashed hashed (kept_seal stores.facts.kept) (tops_of stores) (tops_of (f stores)) (λ x i. i) (spares.tops stores) down.last);
    }

-- the role of the peer is as it was
pub altered_role : (f : HeldStores → HeldStores) (node : Node) → role_of (over_stores f node) ≡ role_of node
altered_role f (Up x stores) = refl
altered_role f (Down stores) = refl

-- ## A peer that stops

-- a peer that stops keeps the map that it wrote last
pub stopped_fits : (version : TreeVersion) (lines : Lines) (strings hashed : List (List ℕ)) (s : State) (q : ℕ) (x : PeerState) (stores : HeldStores) → UpFits version lines strings hashed s q x stores → DownHolds lines (happens s (Lose q)) strings hashed q stores
stopped_fits version lines strings hashed s q x stores fits = record {
  fact = x.fact;
  kept = fits.holds.kept;
  saved = fits.holds.saved;
  listed = fits.listed.fact;
  seal = subst (SealFits lines) (sym fits.tree.sealed) fits.seal;
  blind = put_here s.objects.trusted q false;
  last = last_under strings q (happens s (Lose q)) hashed x.seal (kept_seal stores.facts.kept) (tops_of stores) fits.tree.sealed
      (last_stays strings q s (happens s (Lose q)) hashed x.seal (tops_of stores) (stay_step s (Lose q) (tt, tt)) refl refl fits.tree.last);
}

-- ## A peer that starts

-- the node after a step, whatever was hashed before
taken_behind : (xs : List (List ℕ)) (e : Ending PeerState) (h : Held) (notes : List Note) → (taken_by e (behind xs h) notes).node ≡ (taken_by e h notes).node
taken_behind xs (Finished x out) h notes = refl
taken_behind xs (Stopped error) h notes = refl

module _ (mode : Mode) (view : List ℕ) (stores : HeldStores) (hashed : List (List ℕ)) where
  abbrev begun : Ended PeerState
  begun = run_over (start_of mode view) stores

  -- the start, after these strings were hashed
  abbrev whole : Ended PeerState
  whole = run (start_of mode view) (held_with stores hashed) []

  started_node : started mode view (Down stores) ≡ (taken_of whole).node
  started_node = sym (taken_behind hashed begun.ending begun.held begun.notes) ∙ ap (λ (e : Ended PeerState). (taken_of e).node) (sym (run_behind (start_of mode view) stores hashed))

  started_strings : hashed ++ hashed_by_start mode view (Down stores) ≡ whole.held.hashed
  started_strings = ap (λ (xs : List (List ℕ)). hashed ++ xs) (taken_strings begun.ending begun.held begun.notes) ∙ ap (λ (e : Ended PeerState). e.held.hashed) (sym (run_behind (start_of mode view) stores hashed))

-- a top record, if it is the seal
if_sealed_is : (seal : List ℕ) (top : Option (List ℕ)) → (if_sealed seal top ≡ None) ⊎ (if_sealed seal top ≡ top)
if_sealed_is seal None = inl refl
if_sealed_is seal (Some top) = by_same (same_bytes top seal)
  where
    by_same : (b : Bool) → ((if b then Some top else None) ≡ None) ⊎ ((if b then Some top else None) ≡ Some top)
    by_same true = inr refl
    by_same false = inl refl

-- a tree that was opened under a seal has the top record as its root, or no root
root_is : (tree : TreeVersion) (h : Held) (seal : List ℕ) → let t : Held = (answered (OpenTree (Some seal) tree) h).held in (t.stores.tree.top ≡ None) ⊎ (t.stores.tree.top ≡ top_of (tops_of h.stores))
unfolding walk
root_is tree h seal = if_sealed_is seal (top_of (tops_of h.stores))

-- how a tree was opened under this seal, if there is one, by a peer that does not trust it and wrote this map
-- last
record IsOpened (o : Objects) (q : ℕ) (seal : Option (List ℕ)) (m : List Entry) (h t : Held) (result : Result (Unit {0}) PeerError) : Type 0 where
  answers : result ≡ Ok tt
  tops : tops_of t.stores ≡ tops_of h.stores
  root : RootHolds o q (top_of (tops_of t.stores)) seal t.stores.tree.top
  sees : Sees t m

-- how the start of peer q ends: the peer runs, with a tree of this version, and follows nobody; or a store
-- refused a call, and the peer is down
abbrev pub StartEnds : TreeVersion → Lines → List (List ℕ) → State → ℕ → Ending PeerState → Held → Type 0
StartEnds version lines strings s q (Finished x out) h = UpFits version lines strings h.hashed s q x h.stores × (x.phase ≡ follower)
StartEnds version lines strings s q (Stopped error) h = DownHolds lines s strings h.hashed q h.stores

-- the node then, and its role
start_node : (version : TreeVersion) (lines : Lines) (strings : List (List ℕ)) (s : State) (q : ℕ) (e : Ending PeerState) (h : Held) (notes : List Note) → StartEnds version lines strings s q e h → NodeFits version lines strings h.hashed s q (taken_by e h notes).node
start_node version lines strings s q (Finished x out) h notes ends = ends.0
start_node version lines strings s q (Stopped error) h notes ends = ends

start_role : (version : TreeVersion) (lines : Lines) (strings : List (List ℕ)) (s : State) (q : ℕ) (e : Ending PeerState) (h : Held) (notes : List Note) → StartEnds version lines strings s q e h → role_of (taken_by e h notes).node ≡ Follows []
start_role version lines strings s q (Finished x out) h notes ends = ap (λ (phase : Phase). role_in [] phase []) ends.1
start_role version lines strings s q (Stopped error) h notes ends = refl

module _ (lines : Lines) (strings : List (List ℕ)) (s : State) (q : ℕ) (free : AreFree strings) (may : ShownMayReturn s) where
  opens_so : (tree : TreeVersion) (seal : Option (List ℕ)) (h : Held) → (last : LastMap s strings h.hashed q seal (tops_of h.stores)) → s.objects.trusted q ≡ false → IsOpened s.objects q seal last.map h (answered (OpenTree seal tree) h).held (answered (OpenTree seal tree) h).result
  opens_so tree None h last blind =
      let has = rooted.reopens tree h last.map last.digest last.is last.named in
      record { answers = has.0; tops = has.1.tops; root = inl (sym has.1.recorded, sym has.1.recorded); sees = has.1.sees }
  opens_so tree (Some seal) h last blind = record { answers = has.0; tops = has.2; root = by_root has.1.root (root_is tree h seal); sees = has.1.sees }
    where
      t : Held
      t = (answered (OpenTree (Some seal) tree) h).held

      has : ((answered (OpenTree (Some seal) tree) h).result ≡ Ok tt) × HasUnsealed seal last.map t × (tops_of t.stores ≡ tops_of h.stores)
      has = rooted.opens tree h last.map seal (subst (λ (digest : List ℕ). IsNamed h.hashed digest last.map) (same_Some last.digest seal (sym last.is)) last.named)

      by_root : (t.stores.tree.top ≡ None) ⊎ (t.stores.tree.top ≡ Some seal) → (t.stores.tree.top ≡ None) ⊎ (t.stores.tree.top ≡ top_of (tops_of h.stores)) → RootHolds s.objects q (top_of (tops_of t.stores)) (Some seal) t.stores.tree.top
      by_root (inl none) either_way = inr (none, tt, blind)
      by_root (inr is) (inl none) = absurd (none-some seal (sym none ∙ is))
      by_root (inr is) (inr top) = inl (top ∙ sym (ap top_of has.2), is)

  -- ## What a start keeps

  -- the stores keep this fact with its seal, and the map that the peer wrote last
  record Keeps (saved : SavedFact) (h : Held) : Type 0 where
    kept : h.stores.facts.kept ≡ Some saved
    saves : IsSaved s.objects.ledger q saved.fact
    listed : IsListedFact lines.voting saved.fact
    seal : SealFits lines saved.seal
    blind : s.objects.trusted q ≡ false
    last : LastMap s strings h.hashed q saved.seal (tops_of h.stores)

  kept_down : (saved : SavedFact) (h : Held) → Keeps saved h → DownHolds lines s strings h.hashed q h.stores
  kept_down saved h k = record {
    fact = saved.fact;
    kept = ap bare k.kept;
    saved = k.saves;
    listed = k.listed;
    seal = subst (SealFits lines) (sym (ap kept_seal k.kept)) k.seal;
    blind = k.blind;
    last = last_under strings q s h.hashed saved.seal (kept_seal h.stores.facts.kept) (tops_of h.stores) (ap kept_seal k.kept) k.last;
  }

  -- over stores that keep the same fact
  abbrev keeps_by : (saved : SavedFact) (h t : Held) → t.stores.facts.kept ≡ h.stores.facts.kept → LastMap s strings t.hashed q saved.seal (tops_of t.stores) → Keeps saved h → Keeps saved t
  keeps_by saved h t facts last k = record { kept = facts ∙ k.kept; saves = k.saves; listed = k.listed; seal = k.seal; blind = k.blind; last = last }

  -- and the same top records
  abbrev keeps_over : (saved : SavedFact) (h t : Held) → t.stores.facts.kept ≡ h.stores.facts.kept → tops_of t.stores ≡ tops_of h.stores → AreAmong h.hashed t.hashed → Keeps saved h → Keeps saved t
  keeps_over saved h t facts tops among k = keeps_by saved h t facts (last_over strings q s h.hashed t.hashed saved.seal (tops_of h.stores) (tops_of t.stores) among tops k.last) k

  -- a call of the tree leaves the kept fact
  same_fact : (call : Call) (h : Held) → ((answered call h).held.stores.facts ≡ h.stores.facts) → (answered call h).held.stores.facts.kept ≡ h.stores.facts.kept
  same_fact call h same = ap (λ (f : HeldFact). f.kept) same

  -- ## The plan of a start

  -- the plan of a start ends so, if all that it hashes is among the strings
  abbrev Ends : TreeVersion → Plan PeerState → Held → Type 0
  Ends version plan h = AreAmong (run plan h []).held.hashed strings → StartEnds version lines strings s q (run plan h []).ending (run plan h []).held

  asked_ends : (version : TreeVersion) (call : Call) (next : AnswerOf call → Plan PeerState) (h : Held)
      → (AreAmong (answered call h).held.hashed strings → (a : AnswerOf call) → (answered call h).result ≡ Ok a → Ends version (next a) (answered call h).held)
      → ((e : PeerError) → (answered call h).result ≡ Err e → DownHolds lines s strings (answered call h).held.hashed q (answered call h).held.stores) → Ends version (Ask call next) h
  asked_ends version call next h goes stops = by (answered call h).result refl
    where
      after : Result (AnswerOf call) PeerError → Ended PeerState
      after r = either r (λ a. run (next a) (answered call h).held []) (λ error. record { ending = Stopped error; held = (answered call h).held; notes = [] })

      by : (r : Result (AnswerOf call) PeerError) → (answered call h).result ≡ r → AreAmong (after r).held.hashed strings → StartEnds version lines strings s q (after r).ending (after r).held
      by (Ok a) is among = goes (λ x i. among x (run_hashes grows (next a) (answered call h).held [] x i)) a is among
      by (Err e) is among = stops e is

  -- the peer continues from the fact
  resumed_ends : (version : TreeVersion) (mode : Mode) (saved : SavedFact) (h : Held) → mode.tree ≡ version → Keeps saved h → RootHolds s.objects q (top_of (tops_of h.stores)) saved.seal h.stores.tree.top → h.stores.tree.version ≡ version → Ends version (resumed mode saved) h
  resumed_ends version mode saved h is k root held among = (
    record {
      holds = record { saved = k.saves; kept = ap bare k.kept; phase = tt; sync = tt };
      listed = listed_started lines.voting q mode saved false k.listed;
      trust = k.blind;
      tree = record { last = k.last; sealed = ap kept_seal k.kept; root = root };
      seal = k.seal;
      mode = is;
      held = held;
      sync = tt;
      fits = tt;
      rests = tt;
    },
    refl,
  )

  -- the stores once the tree was opened
  abbrev opened_held : TreeVersion → SavedFact → Held → Held
  opened_held tree saved h = (answered (OpenTree saved.seal tree) h).held

  abbrev opened_keeps : (tree : TreeVersion) (saved : SavedFact) (h : Held) → Keeps saved h → Keeps saved (opened_held tree saved h)
  opened_keeps tree saved h k =
      keeps_over saved h (opened_held tree saved h) (same_fact (OpenTree saved.seal tree) h (spares (OpenTree saved.seal tree) h).1) (rooted.opens_tops saved.seal tree h) (grows (OpenTree saved.seal tree) h) k

  continued_ends : (version : TreeVersion) (mode : Mode) (saved : SavedFact) (h : Held) → mode.tree ≡ version → Keeps saved h → Ends version (continued version mode saved) h
  continued_ends version mode saved h is k =
      asked_ends version (OpenTree saved.seal version) (λ u. resumed mode saved) h
      (λ among a ok. resumed_ends version mode saved (opened_held version saved h) is (opened_keeps version saved h k) (opens_so version saved.seal h k.last k.blind).root (rooted.opens_in saved.seal version h))
      (λ e refused. kept_down saved (opened_held version saved h) (opened_keeps version saved h k))

  -- ## A migration

  -- the same map was written again, and is named by the next top record, and by this seal, if there is one
  abbrev renewed : (saved : SavedFact) (h t : Held) (seal : Option (List ℕ)) (k : Keeps saved h) (next : NamesNext k.last.map h t) → IsSealOf seal next.digest → AreAmong h.hashed t.hashed → (IsSealed seal → IsSealed saved.seal) → (seal ≡ None → saved.seal ≡ None) → LastMap s strings t.hashed q seal (tops_of t.stores)
  renewed saved h t seal k next names among sealed unsealed = record {
    digest = next.digest;
    is = seal_names (top_of (tops_of t.stores)) seal next.digest (next_top h t k.last.map next) names;
    map = k.last.map;
    named = next.named;
    says = k.last.says;
    honest = λ has. k.last.honest (sealed has);
    returns = λ none. subst (λ (tops : List (List ℕ)). TopsReturn s strings t.hashed q tops) (sym next.tops)
        (tops_next s strings t.hashed q (tops_of h.stores) next.digest k.last.map next.named (may strings q k.last.map next.named.stands.is_map k.last.says) (tops_behind s strings h.hashed t.hashed q (tops_of h.stores) among (k.last.returns (unsealed none))));
  }

  -- under a seal nothing depends on the top records
  abbrev under_seal : (saved : SavedFact) (h t : Held) → t.stores.facts.kept ≡ h.stores.facts.kept → AreAmong h.hashed t.hashed → IsSealed saved.seal → Keeps saved h → Keeps saved t
  under_seal saved h t facts among sealed k = keeps_by saved h t facts (last_sealed strings q s h.hashed t.hashed saved.seal (tops_of h.stores) (tops_of t.stores) sealed among k.last) k

  -- the tree was built anew in version two from the map of the stores h
  module _ (mode : Mode) (saved : SavedFact) (h : Held) (is : mode.tree ≡ Two) (k : Keeps saved h) (deep : h.stores.tree.version ≡ Two) where
    abbrev m : List Entry
    m = k.last.map

    abbrev t : Held
    t = (answered (Install m) h).held

    facts : t.stores.facts.kept ≡ h.stores.facts.kept
    facts = same_fact (Install m) h (spares (Install m) h).1

    among_t : AreAmong h.hashed t.hashed
    among_t = grows (Install m) h

    deep_t : t.stores.tree.version ≡ Two
    deep_t = versions (Install m) h tt ∙ deep

    -- the write of the top record was refused
    torn_down : (e : PeerError) → IsTorn m h e t → (seal : Option (List ℕ)) → saved.seal ≡ seal → DownHolds lines s strings t.hashed q t.stores
    torn_down e torn (Some seal) sealed = kept_down saved t (under_seal saved h t facts among_t (subst IsSealed (sym sealed) tt) k)
    torn_down e torn None none = by torn.1
      where
        by : (tops_of t.stores ≡ tops_of h.stores) ⊎ NamesNext m h t → DownHolds lines s strings t.hashed q t.stores
        by (inl same) = kept_down saved t (keeps_over saved h t facts same among_t k)
        by (inr next) = kept_down saved t (keeps_by saved h t facts (renewed saved h t saved.seal k next (inl none) among_t (λ x. x) (λ x. x)) k)

    module _ (written : IsWritten m h t) where
      -- the root is the next top record
      root_t : t.stores.tree.top ≡ Some written.next.digest
      root_t = written_root h t m written

      -- without a seal the peer continues from its fact
      unsealed_ends : saved.seal ≡ None → Ends Two (resumed mode saved) t
      unsealed_ends none = resumed_ends Two mode saved t is (keeps_by saved h t facts (renewed saved h t saved.seal k written.next (inl none) among_t (λ x. x) (λ x. x)) k)
          (inl (sym written.recorded, sym written.recorded ∙ sym (named_top (top_of (tops_of t.stores)) saved.seal none))) deep_t

      -- the fact with the new root as its seal
      abbrev new : SavedFact
      new = with_seal t.stores.tree.top saved.fact

      -- over stores that keep it
      new_keeps : (u : Held) → u.stores.facts.kept ≡ Some new → tops_of u.stores ≡ tops_of t.stores → AreAmong t.hashed u.hashed → IsSealed saved.seal → Keeps new u
      new_keeps u kept tops among sealed = record {
        kept = kept;
        saves = k.saves;
        listed = k.listed;
        seal = λ always. subst IsSealed (sym root_t) tt;
        blind = k.blind;
        last = last_over strings q s t.hashed u.hashed t.stores.tree.top (tops_of t.stores) (tops_of u.stores) among tops
            (renewed saved h t t.stores.tree.top k written.next (inr root_t) among_t (λ has. sealed) (λ none. absurd (none-some written.next.digest (sym none ∙ root_t))));
      }

      -- with a seal it saves its fact again
      sealed_ends : IsSealed saved.seal → Ends Two (reseals mode saved) t
      sealed_ends sealed = asked_ends Two (Save new) (λ u. resumed mode new) t (λ among u ok. saves u ok (save_ends new t)) (λ e refused. rests e refused (save_ends new t))
        where
          v : Held
          v = (answered (Save new) t).held

          tops_v : tops_of v.stores ≡ tops_of t.stores
          tops_v = (records.keeps (Save new) t tt).0

          saves : (u : Unit {0}) → (answered (Save new) t).result ≡ Ok u → SaveEnds new t (answered (Save new) t) → Ends Two (resumed mode new) v
          saves u ok (Saves saves_so) =
              let kept : v.stores.facts.kept ≡ Some new = ap (λ (a : Answered (Save new)). a.held.stores.facts.kept) saves_so in
              let root : v.stores.tree.top ≡ t.stores.tree.top = ap (λ tree. tree.top) (spares (Save new) t).1 in
              let top : top_of (tops_of v.stores) ≡ t.stores.tree.top = ap top_of tops_v ∙ written.recorded in
              resumed_ends Two mode new v is (new_keeps v kept tops_v (grows (Save new) t) sealed)
              (inl (root ∙ sym top, root ∙ root_t ∙ sym (seal_names (top_of (tops_of v.stores)) t.stores.tree.top written.next.digest (top ∙ root_t) (inr root_t))))
              (versions (Save new) t tt ∙ deep_t)
          saves u ok (Refuses refused left) = let no : (let r : Result (Unit {0}) PeerError = Ok u in r) ≡ Err StoreFault = sym ok ∙ refused in absurd cc

          rests : (e : PeerError) → (answered (Save new) t).result ≡ Err e → SaveEnds new t (answered (Save new) t) → DownHolds lines s strings v.hashed q v.stores
          rests e refused (Saves saves_so) = let no : (let r : Result (Unit {0}) PeerError = Err e in r) ≡ Ok tt = sym refused ∙ ap (λ (a : Answered (Save new)). a.result) saves_so in absurd cc
          rests e refused (Refuses same (inl old)) = kept_down saved v (under_seal saved h v (old ∙ facts) (λ x i. grows (Save new) t x (among_t x i)) sealed k)
          rests e refused (Refuses same (inr newer)) = kept_down new v (new_keeps v newer tops_v (grows (Save new) t) sealed)

      built_ends : (seal : Option (List ℕ)) → saved.seal ≡ seal → Ends Two (reseals_if seal mode saved) t
      built_ends None none = unsealed_ends none
      built_ends (Some seal) sealed = sealed_ends (subst IsSealed (sym sealed) tt)

    -- the tree is built, or that is refused
    installs_ends : Ends Two (Ask (Install m) (λ v. reseals_if saved.seal mode saved)) h
    installs_ends = asked_ends Two (Install m) (λ v. reseals_if saved.seal mode saved) h
        (λ among u ok. built_ends (subst (λ (r : Result (Unit {0}) PeerError). HasBuilt m h r t) ok (records.installs h m k.last.named.stands.is_map)) saved.seal refl)
        (λ e refused. torn_down e (subst (λ (r : Result (Unit {0}) PeerError). HasBuilt m h r t) refused (records.installs h m k.last.named.stands.is_map)) saved.seal refl)

  -- the tree of the map takes the place of the one that was scanned
  migrated_ends : (mode : Mode) (saved : SavedFact) (h : Held) → mode.tree ≡ Two → (k : Keeps saved h) → Ends Two (migrated mode saved k.last.map) h
  migrated_ends mode saved h is k =
      asked_ends Two (OpenTree None Two) (λ u. Ask (Install k.last.map) (λ v. reseals_if saved.seal mode saved)) h
      (λ among u ok. installs_ends mode saved bare_held is bare_keeps (rooted.opens_in None Two h)) (λ e refused. kept_down saved bare_held bare_keeps)
    where
      bare_held : Held
      bare_held = (answered (OpenTree None Two) h).held

      bare_keeps : Keeps saved bare_held
      bare_keeps = keeps_over saved h bare_held (same_fact (OpenTree None Two) h (spares (OpenTree None Two) h).1) (rooted.opens_tops None Two h) (grows (OpenTree None Two) h) k

  -- a tree that was scanned in version one
  scanned_ends : (mode : Mode) (saved : SavedFact) (scan : Scan) (h t : Held) → mode.tree ≡ Two → (k : Keeps saved h) → t.stores.facts.kept ≡ h.stores.facts.kept → tops_of t.stores ≡ tops_of h.stores → AreAmong h.hashed t.hashed → IsSeen h k.last.map (Ok scan) → Ends Two (scanned mode saved scan) t
  scanned_ends mode saved scan h t is k facts tops among seen = by (is_whole scan) refl
    where
      on : Keeps saved t
      on = keeps_over saved h t facts tops among k

      -- a whole scan has the map
      map_is : is_whole scan ≡ true → scan.entries ≡ k.last.map
      map_is whole = ap (λ (x : Scan). x.entries) (all_entries k.last.map scan (none_is scan.damaged (and_parts (is_clean scan) (ascends [] scan.entries) whole).0) seen.0)

      by : (b : Bool) → is_whole scan ≡ b → Ends Two (if b then migrated mode saved scan.entries else continued Two mode saved) t
      by true whole = subst (λ (entries : List Entry). Ends Two (migrated mode saved entries) t) (sym (map_is whole)) (migrated_ends mode saved t is on)
      by false other = continued_ends Two mode saved t is on

  -- ## Any start

  continued_in_ends : (tree : TreeVersion) (mode : Mode) (saved : SavedFact) (h : Held) → mode.tree ≡ tree → Keeps saved h → Ends tree (continued_in tree mode saved) h
  continued_in_ends One mode saved h is k = continued_ends One mode saved h is k
  continued_in_ends Two mode saved h is k =
      asked_ends Two (OpenTree saved.seal One) (λ u. Ask ScanTree (λ scan. scanned mode saved scan)) h
      (λ among u ok. asked_ends Two ScanTree (λ scan. scanned mode saved scan) t
      (λ more scan answers. scanned_ends mode saved scan t v is opened (same_fact ScanTree t (spares ScanTree t).1) (records.keeps ScanTree t tt).0 (grows ScanTree t) (subst (IsSeen t opened.last.map) answers (rooted.scans strings t opened.last.map free more sees)))
      (λ e refused. kept_down saved v (keeps_over saved t v (same_fact ScanTree t (spares ScanTree t).1) (records.keeps ScanTree t tt).0 (grows ScanTree t) opened)))
      (λ e refused. kept_down saved t opened)
    where
      t : Held
      t = opened_held One saved h

      v : Held
      v = (answered ScanTree t).held

      opened : Keeps saved t
      opened = opened_keeps One saved h k

      sees : Sees t k.last.map
      sees = (opens_so One saved.seal h k.last k.blind).sees

  -- what is kept, if its fact is
  some_saved : (kept : Option SavedFact) (fact : Fact) → bare kept ≡ Some fact → (saved : SavedFact) × (kept ≡ Some saved)
  some_saved None fact is = absurd (none-some fact is)
  some_saved (Some saved) fact is = (saved, refl)

  -- the start of a peer that is down
  start_ends : (mode : Mode) (view : List ℕ) (stores : HeldStores) (hashed : List (List ℕ)) → DownHolds lines s strings hashed q stores → Ends mode.tree (start_of mode view) (held_with stores hashed)
  start_ends mode view stores hashed down =
      let k = some_saved stores.facts.kept down.fact down.kept in
      let same : down.fact ≡ k.0.fact = same_Some down.fact k.0.fact (sym down.kept ∙ ap bare k.1) in
      subst (λ (o : Option SavedFact). Ends mode.tree (opened mode view o) (held_with stores hashed)) (sym k.1)
      (continued_in_ends mode.tree mode k.0 (held_with stores hashed) refl (record {
        kept = k.1;
        saves = subst (IsSaved s.objects.ledger q) same down.saved;
        listed = subst (IsListedFact lines.voting) same down.listed;
        seal = subst (SealFits lines) (ap kept_seal k.1) down.seal;
        blind = down.blind;
        last = last_under strings q s hashed (kept_seal stores.facts.kept) k.0.seal (tops_of stores) (sym (ap kept_seal k.1)) down.last;
      }))

  -- a peer that starts fits, once the strings of its start were hashed; a running peer goes on
  pub started_fits : (mode : Mode) (view : List ℕ) (hashed : List (List ℕ)) (node : Node) → NodeFits mode.tree lines strings hashed s q node → AreAmong (hashed ++ hashed_by_start mode view node) strings → NodeFits mode.tree lines strings (hashed ++ hashed_by_start mode view node) s q (started mode view node)
  started_fits mode view hashed (Up x stores) fits among = subst (λ (xs : List (List ℕ)). UpFits mode.tree lines strings xs s q x stores) (sym (append-nil hashed)) fits
  started_fits mode view hashed (Down stores) down among =
      let e : Ended PeerState = run (start_of mode view) (held_with stores hashed) [] in
      let strings_are : hashed ++ hashed_by_start mode view (Down stores) ≡ e.held.hashed = started_strings mode view stores hashed in
      let ends : StartEnds mode.tree lines strings s q e.ending e.held = start_ends mode view stores hashed down (subst (λ (xs : List (List ℕ)). AreAmong xs strings) strings_are among) in
      subst (λ (xs : List (List ℕ)). NodeFits mode.tree lines strings xs s q (started mode view (Down stores))) (sym strings_are)
      (subst (λ (n : Node). NodeFits mode.tree lines strings e.held.hashed s q n) (sym (started_node mode view stores hashed)) (start_node mode.tree lines strings s q e.ending e.held e.notes ends))

  -- and follows nobody
  pub started_role : (mode : Mode) (view : List ℕ) (hashed : List (List ℕ)) (node : Node) → NodeFits mode.tree lines strings hashed s q node → AreAmong (hashed ++ hashed_by_start mode view node) strings → role_of (started mode view node) ≡ role_of node
  started_role mode view hashed (Up x stores) fits among = refl
  started_role mode view hashed (Down stores) down among =
      let e : Ended PeerState = run (start_of mode view) (held_with stores hashed) [] in
      let ends : StartEnds mode.tree lines strings s q e.ending e.held = start_ends mode view stores hashed down (subst (λ (xs : List (List ℕ)). AreAmong xs strings) (started_strings mode view stores hashed) among) in
      ap role_of (started_node mode view stores hashed) ∙ start_role mode.tree lines strings s q e.ending e.held e.notes ends

-- ## A tree that is put back

-- each entry of the map is a version of its key, of an epoch up to this one
genuine_in : (s : State) (strings : List (List ℕ)) (d : ℕ) (k : List ℕ) (m : List Entry) → ((e : Entry) → e ∈ m → EntrySays s strings e) → ((e : Entry) → e ∈ m → epoch_of (rank e.version) ≤ d) → IsGenuine s.objects d k (ranks m k)
genuine_in s strings d k [] says reached = inl refl
genuine_in s strings d k (e ∷ es) says reached = by_key (same_bytes e.key k) refl (genuine_in s strings d k es (λ x at. says x (inr at)) (λ x at. reached x (inr at)))
  where
    by_key : (b : Bool) → same_bytes e.key k ≡ b → IsGenuine s.objects d k (ranks es k) → IsGenuine s.objects d k (entry_rank (if b then Some e else lookup k es))
    by_key true is later = inr ((says e (inl refl)).version.proposed, sym (says e (inl refl)).key ∙ bytes_same e.key k is, reached e (inl refl))
    by_key false is later = later

-- there is a top record
some_top : (tops : List (List ℕ)) (digest : List ℕ) → top_of tops ≡ Some digest → 0 < length tops
some_top [] digest is = absurd (none-some digest is)
some_top (top ∷ tops) digest is = omega arith

-- the tree of a peer that is down is put back to this map: it may come, and then the peer is down over the
-- stores that have it
pub record PutsBack (lines : Lines) (strings hashed : List (List ℕ)) (s : State) (q : ℕ) (stores : HeldStores) : Type 0 where
  pub map : List Entry
  pub may : MayCome s (Revert q (ranks map))
  pub down : DownHolds lines (happens s (Revert q (ranks map))) strings hashed q stores

-- without a seal a tree may be put back to what one of its top records names
reverts : (lines : Lines) (strings hashed : List (List ℕ)) (s : State) (q n : ℕ) (stores : HeldStores) → DownHolds lines s strings hashed q stores → kept_seal stores.facts.kept ≡ None → PutsBack lines strings hashed s q (taken_back n stores)
reverts lines strings hashed s q n stores down none = record {
  map = m;
  may = may;
  down = record {
    fact = down.fact;
    kept = down.kept;
    saved = down.saved;
    listed = down.listed;
    seal = down.seal;
    blind = down.blind;
    last = record {
      digest = new.0;
      is = named_top (top_of (reverted n (tops_of stores))) (kept_seal stores.facts.kept) none ∙ new.1;
      map = m;
      named = return.named;
      says = record {
        entries = ((stays lines s t stay).returns strings q m return.returns).entries;
        visible = λ k. ap (λ (f : List ℕ → ℕ). f k) (put_here s.objects.visible q (ranks m));
      };
      honest = λ sealed. absurd (unsealed_not (kept_seal stores.facts.kept) none sealed);
      returns = λ x digest at. tops_stay s t strings hashed q (tops_of stores) stay (down.last.returns none) digest (reverted_in n (tops_of stores) digest at);
    };
  };
}
  where
    topped : top_of (tops_of stores) ≡ Some down.last.digest
    topped = sym (named_top (top_of (tops_of stores)) (kept_seal stores.facts.kept) none) ∙ down.last.is

    new : (digest : List ℕ) × (top_of (reverted n (tops_of stores)) ≡ Some digest) × (digest ∈ tops_of stores)
    new = reverted_some (tops_of stores) (some_top (tops_of stores) down.last.digest topped) n

    return : TopReturns s strings hashed q new.0
    return = down.last.returns none new.0 new.2

    m : List Entry
    m = return.map

    genuine : MayReturn s strings q m → (k : List ℕ) → IsGenuine s.objects (s.objects.ledger.ballot q) k (ranks m k)
    genuine returns k = genuine_in s strings (s.objects.ledger.ballot q) k m returns.entries returns.reached

    may : MayCome s (Revert q (ranks m))
    may = (record { blind = down.blind; genuine = genuine return.returns }, tt)

    t : State
    t = happens s (Revert q (ranks m))

    stay : EntriesStay s t
    stay = stay_step s (Revert q (ranks m)) may

-- the tree of a peer that is down is put back: under a seal the peer is down as before; and there is one
-- where every start has sealing on
abbrev pub TakesBack : Lines → List (List ℕ) → List (List ℕ) → State → ℕ → HeldStores → Type 0
TakesBack lines strings hashed s q stores = DownHolds lines s strings hashed q stores ⊎ ((¬ (lines.sealed ≡ true)) × PutsBack lines strings hashed s q stores)

pub reverted_fits : (lines : Lines) (strings hashed : List (List ℕ)) (s : State) (q n : ℕ) (stores : HeldStores) → DownHolds lines s strings hashed q stores → TakesBack lines strings hashed s q (taken_back n stores)
reverted_fits lines strings hashed s q n stores down = by_seal (kept_seal stores.facts.kept) refl
  where
    by_seal : (seal : Option (List ℕ)) → kept_seal stores.facts.kept ≡ seal → TakesBack lines strings hashed s q (taken_back n stores)
    by_seal None none = inr (λ sealed. unsealed_not (kept_seal stores.facts.kept) none (down.seal sealed), reverts lines strings hashed s q n stores down none)
    by_seal (Some seal) is = inl (record {
      fact = down.fact;
      kept = down.kept;
      saved = down.saved;
      listed = down.listed;
      seal = down.seal;
      blind = down.blind;
      last = last_sealed strings q s hashed hashed (kept_seal stores.facts.kept) (tops_of stores) (tops_of (taken_back n stores)) (subst IsSealed (sym is) tt) (λ x i. i) down.last;
    })
