-- The run of a plan over disks that tell is its run over stores in memory.
use Rattle.std.proofs.Common.{◌≡◌, ℕ, List, [], ◌∷◌, ◌++◌, Option, None, Some, Result, Ok, sym, ap, ◌∙◌, subst, inl, inr}
use Rattle.world_spec.specs.Answers.{answered}
use Rattle.world_spec.specs.Held.{HeldStores}
use Rattle.world_spec.specs.HeldLaws.{held_with}
use Rattle.world_spec.specs.HeldRuns.{Ended, run, either}
use Rattle.stored_formats.specs.declared.saved.SavedFact.{SavedFact}
use Rattle.peer_spec.specs.Starts.{start_of, opened, continued_in, seals_opening, scanned, resumed}
use Rattle.peer_server.specs.DiskPeers.{OnDisks, disks_refuse}
use Rattle.peer_stores.proofs.SameStores.{same_stores}
use Rattle.peer_state.specs.declared.state.Mode.{Mode}
use Rattle.peer_state.specs.declared.state.State.{State}
use Rattle.register_model.specs.declared.note.Note.{Note}
use Rattle.step_plans.specs.Calls.{Call, Load, FreshTree, OpenTree, ScanTree, AnswerOf}
use Rattle.step_plans.specs.Plans.{Plan, Done, Say, Ask, Out, Ending, Finished, Stopped, Runs}
use Rattle.step_plans.specs.declared.error.PeerError.{PeerError}
use Rattle.tree_node.specs.declared.version.TreeVersion.{TreeVersion}
use Rattle.tree_node.specs.declared.version.TreeVersion.TheVariants.{One, Two}
use Rattle.process_laws.specs.Memory.{StandsFor, StandsOpen, RunsInMemory, RunAsMaps}
use Rattle.process_laws.proofs.Calls.{does, Opens, opens_so, loads_answer, call_so}

-- a run that finished was not stopped
pub not_stopped : (x : State) (out : Out) (error : PeerError) → (let e : Ending State = Finished x out in e) ≡ Stopped error → ⊥
not_stopped x out error is = cc

module _ {D : Type 0} (seen : D → Option (List ℕ)) (faults : D → ℕ) where
  abbrev MayRun : Plan State → OnDisks D → List Note → State → Out → OnDisks D → List Note → Type 0
  MayRun plan s ns x out t ms = Runs (does seen faults) (disks_refuse seen faults) plan s ns (Finished x out) t ms

  -- the plan ends here
  ended : (y : State) (o : Out) (h : HeldStores) (hashed : List (List ℕ)) (ns ms : List Note) (x : State) (out : Out) (t : OnDisks D) → (let e : Ending State = Finished x out in e) ≡ Finished y o → ms ≡ ns → StandsOpen seen t h → RunsInMemory seen (Done y o) h hashed ns x out t ms
  ended y o h hashed ns ms x out t is same before = record {
    left = h;
    strings = hashed;
    is = ap (λ (e : Ending State). let r : Ended State = record { ending = e; held = held_with h hashed; notes = ns } in r) (sym is) ∙ ap (λ (notes : List Note). let r : Ended State = record { ending = Finished x out; held = held_with h hashed; notes = notes } in r) (sym same);
    stands = before;
  }

  -- the plan goes on with the answer of the stores in memory
  goes : (call : Call) (next : AnswerOf call → Plan State) (a : AnswerOf call) (h : HeldStores) (hashed : List (List ℕ)) (ns ms : List Note) (x : State) (out : Out) (t : OnDisks D) → (answered call (held_with h hashed)).result ≡ Ok a
      → RunsInMemory seen (next a) (answered call (held_with h hashed)).held.stores (answered call (held_with h hashed)).held.hashed ns x out t ms → RunsInMemory seen (Ask call next) h hashed ns x out t ms
  goes call next a h hashed ns ms x out t is later = record {
    left = later.left;
    strings = later.strings;
    is = ap (λ (r : Result (AnswerOf call) PeerError). either {R = Ended State} r (λ b. run (next b) (answered call (held_with h hashed)).held ns) (λ error. record { ending = Stopped error; held = (answered call (held_with h hashed)).held; notes = ns })) is ∙ later.is;
    stands = later.stands;
  }

  -- every plan, over an before tree
  pub run_so : (plan : Plan State) (s t : OnDisks D) (h : HeldStores) (hashed : List (List ℕ)) (ns ms : List Note) (x : State) (out : Out) → StandsOpen seen s h → MayRun plan s ns x out t ms → RunsInMemory seen plan h hashed ns x out t ms
  run_so (Done y o) s t h hashed ns ms x out before (inl cut) = absurd (not_stopped x out _ cut.0)
  run_so (Done y o) s t h hashed ns ms x out before (inr came) = ended y o h hashed ns ms x out t came.0 came.2 (subst (λ (u : OnDisks D). StandsOpen seen u h) (sym came.1) before)
  run_so (Say note plan) s t h hashed ns ms x out before (inl cut) = absurd (not_stopped x out _ cut.0)
  run_so (Say note plan) s t h hashed ns ms x out before (inr on) = let later = run_so plan s t h hashed (ns ++ note ∷ []) ms x out before on in record { left = later.left; strings = later.strings; is = later.is; stands = later.stands }
  run_so (Ask call next) s t h hashed ns ms x out before (inl cut) = absurd (not_stopped x out _ cut.0)
  run_so (Ask call next) s t h hashed ns ms x out before (inr (inl refused)) = absurd (not_stopped x out refused.0 refused.2)
  run_so (Ask call next) s t h hashed ns ms x out before (inr (inr on)) =
      let so = call_so seen faults call on.0 s on.1 h hashed on.2 before in
      goes call next on.0 h hashed ns ms x out t so.result
      (run_so (next on.0) on.1 t (answered call (held_with h hashed)).held.stores (answered call (held_with h hashed)).held.hashed ns ms x out so.stands on.3)

  -- a plan that opens the tree first
  opening_so : (call : Call) → Opens seen faults call → (next : AnswerOf call → Plan State) (s t : OnDisks D) (h : HeldStores) (hashed : List (List ℕ)) (ns ms : List Note) (x : State) (out : Out) → StandsFor seen s h → MayRun (Ask call next) s ns x out t ms → RunsInMemory seen (Ask call next) h hashed ns x out t ms
  opening_so call opens next s t h hashed ns ms x out stands (inl cut) = absurd (not_stopped x out _ cut.0)
  opening_so call opens next s t h hashed ns ms x out stands (inr (inl refused)) = absurd (not_stopped x out refused.0 refused.2)
  opening_so call opens next s t h hashed ns ms x out stands (inr (inr on)) =
      let so = opens_so seen faults call opens on.0 s on.1 h hashed on.2 stands in
      goes call next on.0 h hashed ns ms x out t so.result
      (run_so (next on.0) on.1 t (answered call (held_with h hashed)).held.stores (answered call (held_with h hashed)).held.hashed ns ms x out so.stands on.3)

  continued_so : (tree : TreeVersion) (mode : Mode) (saved : SavedFact) (s t : OnDisks D) (h : HeldStores) (hashed : List (List ℕ)) (ns ms : List Note) (x : State) (out : Out) → StandsFor seen s h → MayRun (continued_in tree mode saved) s ns x out t ms → RunsInMemory seen (continued_in tree mode saved) h hashed ns x out t ms
  continued_so One mode saved s t h hashed ns ms x out stands ran = opening_so (OpenTree saved.seal One) tt (λ u. resumed mode saved) s t h hashed ns ms x out stands ran
  continued_so Two mode saved s t h hashed ns ms x out stands ran = opening_so (OpenTree saved.seal One) tt (λ u. Ask ScanTree (λ scan. scanned mode saved scan)) s t h hashed ns ms x out stands ran

  opened_so : (mode : Mode) (view : List ℕ) (kept : Option SavedFact) (s t : OnDisks D) (h : HeldStores) (hashed : List (List ℕ)) (ns ms : List Note) (x : State) (out : Out) → StandsFor seen s h → MayRun (opened mode view kept) s ns x out t ms → RunsInMemory seen (opened mode view kept) h hashed ns x out t ms
  opened_so mode view None s t h hashed ns ms x out stands ran = opening_so (FreshTree mode.tree) tt (λ u. seals_opening mode.sealing mode view) s t h hashed ns ms x out stands ran
  opened_so mode view (Some saved) s t h hashed ns ms x out stands ran = continued_so mode.tree mode saved s t h hashed ns ms x out stands ran

  -- a load leaves all stores as they are
  loaded : (a : Option SavedFact) (s t : OnDisks D) (h : HeldStores) → does seen faults s Load a t → StandsFor seen s h → StandsFor seen t h
  loaded a s t h did stands = subst (λ stores. StandsFor seen (stores, t.1) h) (sym (same_stores s.0 t.0 did.3.0 did.3.1 did.4)) (record { objects = stands.objects; nodes = stands.nodes; fact = stands.fact; none = stands.none })

  -- the start of a peer
  pub start_so : (mode : Mode) (view : List ℕ) (s t : OnDisks D) (h : HeldStores) (hashed : List (List ℕ)) (ms : List Note) (x : State) (out : Out) → StandsFor seen s h → MayRun (start_of mode view) s [] x out t ms → RunsInMemory seen (start_of mode view) h hashed [] x out t ms
  start_so mode view s t h hashed ms x out stands (inl cut) = absurd (not_stopped x out _ cut.0)
  start_so mode view s t h hashed ms x out stands (inr (inl refused)) = absurd (not_stopped x out refused.0 refused.2)
  start_so mode view s t h hashed ms x out stands (inr (inr on)) =
      goes Load (λ kept. opened mode view kept) on.0 h hashed [] ms x out t (ap Ok (loads_answer seen faults on.0 s on.1 h on.2 stands))
      (opened_so mode view on.0 on.1 t h hashed [] ms x out (loaded on.0 s on.1 h on.2 stands) on.3)

-- every plan and every start
pub run_as_maps : {D : Type 0} (seen : D → Option (List ℕ)) (faults : D → ℕ) → RunAsMaps seen faults
run_as_maps seen faults = record {
  plans = λ plan s t h hashed ns ms x out before ran. run_so seen faults plan s t h hashed ns ms x out before ran;
  starts = λ mode view s t h hashed ms x out stands ran. start_so seen faults mode view s t h hashed ms x out stands ran;
}
