-- A step or a start of a peer over stores in memory is that of its node.
use Rattle.std.proofs.Common.{◌≡◌, ◌⊎◌, ℕ, List, [], Option, inl, inr, refl, sym, ap, subst}
use Rattle.hash_book.specs.Hashing.{Book}
use Rattle.world_spec.proofs.HeldDetermined.{determined}
use Rattle.world_spec.proofs.Taken.{hashed_none}
use Rattle.world_spec.specs.Held.{Held, HeldStores, Account, account, HasHashed}
use Rattle.world_spec.specs.HeldLaws.{HeldDo, HeldRefuse, IsUnplanned, IsCutOff, IsRun, held_with, strings_by}
use Rattle.world_spec.specs.HeldRuns.{Ended}
use Rattle.world_spec.specs.PeerSpec.{step_of, start_of}
use Rattle.peer_state.specs.declared.event.Event.{Event}
use Rattle.peer_state.specs.declared.state.Mode.{Mode}
use Rattle.peer_state.specs.declared.state.State.{State}
use Rattle.step_plans.specs.Plans.{Plan, Out, nothing, Ending, Finished, Stopped, Runs}
use Rattle.step_plans.specs.declared.error.PeerError.{PeerError}
use Rattle.step_plans.specs.declared.error.PeerError.TheVariants.{StoreFault}
use Rattle.register_model.specs.declared.note.Note.{Note}
use Rattle.world_spec.specs.Nodes.{Node, Up, Down, hashed_by_start, taken, taken_by, taken_of, run_over}
use Rattle.world_spec.specs.Steps.{outcome, ComesTo, StartsAs}

came_to : (first now : Account) (k : Ended State) (e : Ending State) (t : HeldStores) (strings : List (List ℕ)) (node : Node) (out : Out) (notes : List Note) → k ≡ record { ending = e; held = held_with t strings; notes = notes }
    → taken_by e (held_with t strings) notes ≡ outcome node out notes strings → HasHashed strings first now → ComesTo first now (taken_of k) node out notes
came_to first now k e t strings node out notes is taken has = rw is (rw taken (record { is = refl; has = has }))

pub taken_strings : (e : Ending State) (h : Held) (notes : List Note) → (taken_by e h notes).hashed ≡ h.hashed
taken_strings (Finished x out) h notes = refl
taken_strings (Stopped error) h notes = refl

module _ {H : Type 0} (strings : H → Option Book) (c d : H → ℕ) where
  -- what is known of a hasher
  abbrev pub tells : H → Account
  tells h = account strings c d h

  -- how the stores in memory and the hasher may answer a call, and how they may refuse it
  abbrev pub MayRun : Plan State → HeldStores × H → Ending State → HeldStores × H → List Note → Type 0
  MayRun p s e t ms = Runs (HeldDo strings c d) (HeldRefuse strings c d) p s [] e t ms

  -- the run of the plan, unless it was cut off
  ran : (p : Plan State) (s t : HeldStores × H) (e : Ending State) (ms : List Note) → MayRun p s e t ms → IsCutOff (strings_by p s.0 [] []) (tells s.1) (tells t.1) e ⊎ IsRun tells (tells s.1) p s [] [] e t ms
  ran p s t e ms runs = determined strings c d (tells s.1) p s t [] [] ms e (hashed_none (tells s.1)) runs

  -- a plan that finished leaves a running node
  finished : (p : Plan State) (s t : HeldStores × H) (x : State) (out : Out) (ms : List Note) → MayRun p s (Finished x out) t ms → ComesTo (tells s.1) (tells t.1) (taken_of (run_over p s.0)) (Up x t.0) out ms
  finished p s t x out ms runs = by_run (ran p s t (Finished x out) ms runs) where
    by_run : IsCutOff {X = State} (strings_by p s.0 [] []) (tells s.1) (tells t.1) (Finished x out) ⊎ IsRun tells (tells s.1) p s [] [] (Finished x out) t ms → ComesTo (tells s.1) (tells t.1) (taken_of (run_over p s.0)) (Up x t.0) out ms
    by_run (inl cut) = absurd cut
    by_run (inr is) = came_to (tells s.1) (tells t.1) (run_over p s.0) (Finished x out) t.0 is.hashed_now (Up x t.0) out ms is.is refl is.has

  -- a plan that stopped leaves a node that is down, unless it was cut off
  stopped : (p : Plan State) (s t : HeldStores × H) (e : PeerError) (ms : List Note) → MayRun p s (Stopped e) t ms
      → IsUnplanned (taken_of (run_over p s.0)).hashed (tells s.1) (tells t.1) e ⊎ ((e ≡ StoreFault) × ComesTo (tells s.1) (tells t.1) (taken_of (run_over p s.0)) (Down t.0) nothing ms)
  stopped p s t e ms runs = by_run (ran p s t (Stopped e) ms runs) where
    by_run : IsCutOff {X = State} (strings_by p s.0 [] []) (tells s.1) (tells t.1) (Stopped e) ⊎ IsRun tells (tells s.1) p s [] [] (Stopped e) t ms
        → IsUnplanned (taken_of (run_over p s.0)).hashed (tells s.1) (tells t.1) e ⊎ ((e ≡ StoreFault) × ComesTo (tells s.1) (tells t.1) (taken_of (run_over p s.0)) (Down t.0) nothing ms)
    by_run (inl cut) =
        let k : Ended State = run_over p s.0 in
        inl (subst (λ (l : List (List ℕ)). IsUnplanned l (tells s.1) (tells t.1) e) (sym (taken_strings k.ending k.held k.notes)) cut)
    by_run (inr is) = inr (is.planned, came_to (tells s.1) (tells t.1) (run_over p s.0) (Stopped e) t.0 is.hashed_now (Down t.0) nothing ms is.is refl is.has)

  module _ (me : ℕ) (event : Event) (x : State) (s t : HeldStores × H) (ms : List Note) where
    -- a step that finished is that of the node
    pub step_taken : (y : State) (out : Out) → MayRun (step_of me event x) s (Finished y out) t ms → ComesTo (tells s.1) (tells t.1) (taken me event (Up x s.0)) (Up y t.0) out ms
    step_taken y out runs = finished (step_of me event x) s t y out ms runs

    -- a step that stopped is that of the node, which is down, unless it was cut off
    pub step_stopped : (e : PeerError) → MayRun (step_of me event x) s (Stopped e) t ms
        → IsUnplanned (taken me event (Up x s.0)).hashed (tells s.1) (tells t.1) e ⊎ ((e ≡ StoreFault) × ComesTo (tells s.1) (tells t.1) (taken me event (Up x s.0)) (Down t.0) nothing ms)
    step_stopped e runs = stopped (step_of me event x) s t e ms runs

  module _ (mode : Mode) (view : List ℕ) (s t : HeldStores × H) (ms : List Note) where
    -- the start of a node that is down, from the outcome of its plan
    starts_as : (node : Node) (out : Out) → ComesTo (tells s.1) (tells t.1) (taken_of (run_over (start_of mode view) s.0)) node out ms → StartsAs (tells s.1) (tells t.1) mode view (Down s.0) node
    starts_as node out came = record { is = ap (λ k. k.node) came.is; has = came.has }

    -- a start that finished leads to a running node
    pub start_taken : (y : State) (out : Out) → MayRun (start_of mode view) s (Finished y out) t ms → StartsAs (tells s.1) (tells t.1) mode view (Down s.0) (Up y t.0)
    start_taken y out runs = starts_as (Up y t.0) out (finished (start_of mode view) s t y out ms runs)

    -- a start that stopped leaves the node down, unless it was cut off
    pub start_stopped : (e : PeerError) → MayRun (start_of mode view) s (Stopped e) t ms
        → IsUnplanned (hashed_by_start mode view (Down s.0)) (tells s.1) (tells t.1) e ⊎ ((e ≡ StoreFault) × StartsAs (tells s.1) (tells t.1) mode view (Down s.0) (Down t.0))
    start_stopped e runs = by_end (stopped (start_of mode view) s t e ms runs) where
      by_end : IsUnplanned (taken_of (run_over (start_of mode view) s.0)).hashed (tells s.1) (tells t.1) e ⊎ ((e ≡ StoreFault) × ComesTo (tells s.1) (tells t.1) (taken_of (run_over (start_of mode view) s.0)) (Down t.0) nothing ms)
          → IsUnplanned (hashed_by_start mode view (Down s.0)) (tells s.1) (tells t.1) e ⊎ ((e ≡ StoreFault) × StartsAs (tells s.1) (tells t.1) mode view (Down s.0) (Down t.0))
      by_end (inl cut) = inl cut
      by_end (inr came) = inr (came.0, starts_as (Down t.0) nothing came.1)
