-- The stores in memory that the stores of a peer on disks stand for, and how plans run over both.
use Rattle.std.specs.Prelude.{◌≡◌, ℕ, List, [], Option}
use Rattle.disk_stores.specs.DiskCalls.{HoldsNodes, HoldsObjects}
use Rattle.environment.specs.MemStores.{Held as NodesHeld}
use Rattle.fact_store.specs.Held.{held_kept}
use Rattle.peer_spec.specs.Starts.{start_of}
use Rattle.peer_server.specs.DiskPeers.{OnDisks, disks_do, disks_refuse}
use Rattle.peer_state.specs.declared.state.Mode.{Mode}
use Rattle.peer_state.specs.declared.state.State.{State}
use Rattle.register_model.specs.declared.note.Note.{Note}
use Rattle.step_plans.specs.Plans.{Plan, Out, Finished, Runs}
use Rattle.world_spec.specs.Held.{HeldStores}
use Rattle.world_spec.specs.HeldLaws.{held_with}
use Rattle.world_spec.specs.HeldRuns.{run}
use Rattle.world_spec.specs.Laws.{NoneWaits}
use Rattle.world_stores.specs.Facts.{kept_of}
use Rattle.world_stores.specs.Nodes.{Nodes, top_of}

-- the nodes in memory and the digest that their top record holds
abbrev pub held_in : Nodes → NodesHeld
held_in nodes = record { entries = nodes.entries; top = top_of nodes.tops }

-- Stores on disks that tell their bytes hold what these stores in memory hold, and no failure waits. The
-- tree need not be open.
pub record StandsFor {D : Type 0} (seen : D → Option (List ℕ)) (s : OnDisks D) (h : HeldStores) : Type 0 where
  pub objects : HoldsObjects seen s.0.backend h.backend.entries
  pub nodes : HoldsNodes seen s.0.tree.store (held_in h.tree.store)
  pub fact : held_kept s.0.facts ≡ kept_of h.facts.kept
  pub none : NoneWaits h

-- and the tree is open: its root and its version are the same
pub record StandsOpen {D : Type 0} (seen : D → Option (List ℕ)) (s : OnDisks D) (h : HeldStores) : Type 0 where
  pub stands : StandsFor seen s h
  pub root : s.0.tree.top ≡ h.tree.top
  pub version : s.0.tree.version ≡ h.tree.version

-- over these stores in memory the plan comes to this end, and stores on disks stand for what it leaves
pub record RunsInMemory {D : Type 0} (seen : D → Option (List ℕ)) (plan : Plan State) (h : HeldStores) (hashed : List (List ℕ)) (ns : List Note) (x : State) (out : Out) (t : OnDisks D) (ms : List Note) : Type 0 where
  pub left : HeldStores
  pub strings : List (List ℕ)
  pub is : run plan (held_with h hashed) ns ≡ record { ending = Finished x out; held = held_with left strings; notes = ms }
  pub stands : StandsOpen seen t left

-- A plan that came to its end over disks that tell comes to the same end over stores in memory; and so does
-- a start, over disks whose tree is not open yet.
pub record RunAsMaps {D : Type 0} (seen : D → Option (List ℕ)) (faults : D → ℕ) : Type 0 where
  pub plans : (plan : Plan State) (s t : OnDisks D) (h : HeldStores) (hashed : List (List ℕ)) (ns ms : List Note) (x : State) (out : Out) → StandsOpen seen s h
      → Runs (disks_do seen faults) (disks_refuse seen faults) plan s ns (Finished x out) t ms → RunsInMemory seen plan h hashed ns x out t ms
  pub starts : (mode : Mode) (view : List ℕ) (s t : OnDisks D) (h : HeldStores) (hashed : List (List ℕ)) (ms : List Note) (x : State) (out : Out) → StandsFor seen s h
      → Runs (disks_do seen faults) (disks_refuse seen faults) (start_of mode view) s [] (Finished x out) t ms → RunsInMemory seen (start_of mode view) h hashed [] x out t ms
