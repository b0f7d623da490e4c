-- Why the stores of a peer failed.
use Rattle.std.specs.Prelude.{Option, None, Some}
use Rattle.std.proofs.Common.{◌≡◌, ◌⊎◌, ◌≤◌, ◌∙◌, ◌++◌, ◌∷◌, [], ap, sym, ℕ, List, Result, Ok, Err, inl, inr, arith}
use Rattle.ens_base.specs.Causes.{Rose}
use Rattle.ens_base.specs.declared.status.Status.TheVariants as statuses
use Rattle.ens_base.proofs.Causes.{rose_later, same_count}
use Rattle.disk_stores.specs.declared.backend.DiskBackend.{DiskBackend}
use Rattle.disk_stores.specs.declared.nodes.DiskNodes.{DiskNodes}
use Rattle.fact_store.specs.Held.{held_kept}
use Rattle.fact_store.specs.declared.delayed_fact.DelayedFact.{DelayedFact}
use Rattle.peer_core.specs.PeerStores.{Stores}
use Rattle.stored_formats.specs.declared.fact_error.FactError.{FactError}
use Rattle.stored_formats.specs.declared.saved.SavedFact.{SavedFact}
use Rattle.peer_state.specs.declared.state.State.{State}
use Rattle.register_model.specs.declared.note.Note.{Note}
use Rattle.step_plans.specs.Calls.{Call, Load, Save, Fetch, Put, Hash, AnswerOf}
use Rattle.step_plans.specs.Plans.{Plan, Done, Say, Ask, Ending, Stopped, Runs}
use Rattle.step_plans.specs.declared.error.PeerError.{PeerError}
use Rattle.step_plans.specs.declared.error.PeerError.TheVariants as errors
use Rattle.peer_server.specs.DiskPeers.{OnDisks, disks_do, disks_refuse}
use Rattle.peer_server.specs.Faults.{peer_status}

-- if what is held is a record that is no fact, then X
abbrev pub IsHonest : {D : Type 0} → (FactError → Type 0) → OnDisks D → Type 0
IsHonest X s = (why : FactError) → held_kept s.0.facts ≡ Some (Err why) → X why

-- no count of faults of the disks decreased
pub record Later {D : Type 0} (faults : D → ℕ) (X : FactError → Type 0) (s t : OnDisks D) : Type 0 where
  pub objects : faults s.0.backend.log.file.disk ≤ faults t.0.backend.log.file.disk
  pub nodes : faults s.0.tree.store.log.file.disk ≤ faults t.0.tree.store.log.file.disk
  pub honest : IsHonest X t

-- why the stores failed between these
abbrev pub Caused : {D : Type 0} → (D → ℕ) → (FactError → Type 0) → OnDisks D → OnDisks D → Type 0
Caused faults X s t =
    Rose (faults s.0.tree.store.log.file.disk) (faults t.0.tree.store.log.file.disk) ⊎ (Rose (faults s.0.backend.log.file.disk) (faults t.0.backend.log.file.disk) ⊎ ((why : FactError) × X why))

no_bad : (kept : Option (Result SavedFact FactError)) (fact : SavedFact) (why : FactError) → kept ≡ Some (Ok fact) → kept ≡ Some (Err why) → ⊥
no_bad kept fact why good bad = cc

same_honest : {D : Type 0} (X : FactError → Type 0) (s t : OnDisks D) → held_kept t.0.facts ≡ held_kept s.0.facts → IsHonest X s → IsHonest X t
same_honest X s t same honest why is = honest why (sym same ∙ is)

pub later_on : {D : Type 0} (faults : D → ℕ) (X : FactError → Type 0) (s t u : OnDisks D) → Later faults X s t → Later faults X t u → Later faults X s u
later_on faults X s t u first second = record {
  objects = omega (arith, first.objects, second.objects);
  nodes = omega (arith, first.nodes, second.nodes);
  honest = second.honest;
}

pub later_none : {D : Type 0} (faults : D → ℕ) (X : FactError → Type 0) (s : OnDisks D) → IsHonest X s → Later faults X s s
later_none faults X s honest = record { objects = omega arith; nodes = omega arith; honest = honest }

pub caused_later : {D : Type 0} (faults : D → ℕ) (X : FactError → Type 0) (s t u : OnDisks D) → Later faults X s t → Caused faults X t u → Caused faults X s u
caused_later faults X s t u later (inl rose) = inl (rose_later _ _ _ later.nodes rose)
caused_later faults X s t u later (inr (inl rose)) = inr (inl (rose_later _ _ _ later.objects rose))
caused_later faults X s t u later (inr (inr useless)) = inr (inr useless)

abbrev stop : PeerError → Ending State
stop e = Stopped e

stopped_by : (e error : PeerError) → stop e ≡ stop error → e ≡ error
stopped_by e error same = grind (arith, same)

-- out of memory is no fault of the stores
no_memory : (e : PeerError) → stop e ≡ stop errors.Memory → peer_status e ≡ statuses.StoreFault → ⊥
no_memory e same is =
    let memory : statuses.Memory ≡ statuses.StoreFault = sym (ap peer_status (stopped_by e errors.Memory same)) ∙ is in
    cc

module _ {D : Type 0} (seen : D → Option (List ℕ)) (faults : D → ℕ) (X : FactError → Type 0) where
  -- a call that was answered decreases no count
  pub keeps_later : (s t : OnDisks D) (call : Call) (a : AnswerOf call) → disks_do seen faults s call a t → IsHonest X s → Later faults X s t
  keeps_later s t Load a did honest = record {
    objects = same_count (λ b. faults b.log.file.disk) s.0.backend t.0.backend did.3.0;
    nodes = same_count (λ n. faults n.store.log.file.disk) s.0.tree t.0.tree did.3.1;
    honest = same_honest X s t did.1 honest;
  }
  keeps_later s t (Save fact) a did honest = record {
    objects = same_count (λ b. faults b.log.file.disk) s.0.backend t.0.backend did.2.0;
    nodes = same_count (λ n. faults n.store.log.file.disk) s.0.tree t.0.tree did.2.1;
    honest = λ why is. absurd (no_bad (held_kept t.0.facts) fact why did.0 is);
  }
  keeps_later s t (Fetch key) a did honest = record {
    objects = did.1;
    nodes = same_count (λ n. faults n.store.log.file.disk) s.0.tree t.0.tree did.2.0;
    honest = same_honest X s t (ap held_kept did.2.1) honest;
  }
  keeps_later s t (Put key bytes) a did honest = record {
    objects = did.1;
    nodes = same_count (λ n. faults n.store.log.file.disk) s.0.tree t.0.tree did.2.0;
    honest = same_honest X s t (ap held_kept did.2.1) honest;
  }
  keeps_later s t (Hash bytes) a did honest = record {
    objects = same_count (λ k. faults k.backend.log.file.disk) s.0 t.0 did.4;
    nodes = same_count (λ k. faults k.tree.store.log.file.disk) s.0 t.0 did.4;
    honest = same_honest X s t (ap (λ (k : Stores (DiskBackend D) (DiskNodes D) DelayedFact). held_kept k.facts) did.4) honest;
  }
  keeps_later s t call a did honest = record {
    objects = same_count (λ b. faults b.log.file.disk) s.0.backend t.0.backend did.1.3.0;
    nodes = did.1.0;
    honest = same_honest X s t (ap held_kept did.1.3.1) honest;
  }

  -- a refused call that is a fault of the stores has a cause
  pub refused_caused : (s t : OnDisks D) (call : Call) (e : PeerError) → disks_refuse seen faults s call e t → IsHonest X s → peer_status e ≡ statuses.StoreFault → Caused faults X s t
  refused_caused s t Load errors.StoreFault off honest is = absurd off.3.0
  refused_caused s t Load (errors.BadFact why) off honest is = inr (inr (why, honest why off.0.0))
  refused_caused s t Load errors.Memory off honest is = absurd cc
  refused_caused s t Load e off honest is = absurd off.0
  refused_caused s t (Save fact) e off honest is = absurd off.4
  refused_caused s t (Fetch key) errors.StoreFault off honest is = inr (inl off.0.1.rose)
  refused_caused s t (Fetch key) errors.Memory off honest is = absurd cc
  refused_caused s t (Fetch key) e off honest is = absurd off.0
  refused_caused s t (Put key bytes) errors.StoreFault off honest is = inr (inl off.0.1.rose)
  refused_caused s t (Put key bytes) errors.Memory off honest is = absurd cc
  refused_caused s t (Put key bytes) e off honest is = absurd off.0
  refused_caused s t (Hash bytes) (errors.Clash first second) off honest is = absurd cc
  refused_caused s t (Hash bytes) (errors.BookFull kept) off honest is = absurd cc
  refused_caused s t (Hash bytes) errors.Memory off honest is = absurd cc
  refused_caused s t (Hash bytes) e off honest is = absurd off.0
  refused_caused s t call errors.StoreFault off honest is = inl off.1
  refused_caused s t call (errors.Clash first second) off honest is = absurd cc
  refused_caused s t call (errors.BookFull kept) off honest is = absurd cc
  refused_caused s t call errors.Memory off honest is = absurd cc
  refused_caused s t call e off honest is = absurd off.1

  -- and so has a plan that was stopped by one
  pub stopped_caused : (p : Plan State) (s : OnDisks D) (ns : List Note) (e : PeerError) (t : OnDisks D) (ms : List Note)
      → Runs (disks_do seen faults) (disks_refuse seen faults) p s ns (Stopped e) t ms → IsHonest X s → peer_status e ≡ statuses.StoreFault → Caused faults X s t
  stopped_caused (Done y more) s ns e t ms ran honest is = elim ran [
    | inl cut ↦ absurd (no_memory e cut.0 is)
    | inr end ↦ let none : ⊥ = grind (arith, end.0) in absurd none
  ]
  stopped_caused (Say note p) s ns e t ms ran honest is = elim ran [
    | inl cut ↦ absurd (no_memory e cut.0 is)
    | inr on ↦ stopped_caused p s (ns ++ note ∷ []) e t ms on honest is
  ]
  stopped_caused (Ask call next) s ns e t ms ran honest is = elim ran [
    | inl cut ↦ absurd (no_memory e cut.0 is)
    | inr (inl off) ↦ refused_caused s t call off.0 off.1 honest (ap peer_status (stopped_by off.0 e (sym off.2)) ∙ is)
    | inr (inr on) ↦
        let later = keeps_later s on.1 call on.0 on.2 honest in
        caused_later faults X s on.1 t later (stopped_caused (next on.0) on.1 ns e t ms on.3 later.honest is)
  ]

  -- a load that was answered shows no such record
  pub loaded_honest : (s t : OnDisks D) (a : Option SavedFact) → disks_do seen faults s Load a t → IsHonest X t
  loaded_honest s t None did why is = let none : ⊥ = cc (did.0, did.1, is) in absurd none
  loaded_honest s t (Some fact) did why is = absurd (no_bad (held_kept t.0.facts) fact why (did.1 ∙ did.0) is)
