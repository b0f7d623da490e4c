-- The fact that stores on disks keep in memory is that of the state, with its seal.
use Rattle.std.specs.Prelude.{Option, None, Some}
use Rattle.std.proofs.Common.{◌≡◌, ◌∙◌, ap, sym, subst, refl, ℕ, List, [], ◌∷◌, Bool, true, false, if◌then◌else◌, Ok, inl, inr, arith}
use Rattle.disk_stores.specs.declared.backend.DiskBackend.{DiskBackend}
use Rattle.disk_stores.specs.declared.nodes.DiskNodes.{DiskNodes}
use Rattle.ens_base.specs.declared.entry.Entry.{Entry}
use Rattle.fact_store.specs.Held.{held_kept}
use Rattle.fact_store.specs.declared.delayed_fact.DelayedFact.{DelayedFact}
use Rattle.peer_core.specs.PeerStores.{Stores}
use Rattle.stored_formats.specs.declared.saved.SavedFact.{SavedFact}
use Rattle.peer_spec.specs.Starts.{first_state, opened, opening_saved, saves_opening, start_of, seals_opening, resumed, continued, is_whole, reseals_if, migrated, scanned, continued_in}
use Rattle.peer_server.specs.DiskPeers.{OnDisks, disks_do, disks_refuse}
use Rattle.peer_state.specs.Moves.{saved_by}
use Rattle.peer_state.specs.declared.state.Mode.{Mode}
use Rattle.peer_state.specs.declared.state.State.{State}
use Rattle.step_plans.specs.Calls.{Call, Load, Save, OpenTree, Root, ScanTree, Install, Fetch, Put, Hash, AnswerOf}
use Rattle.step_plans.specs.Plans.{Ask, Out, Ending, Finished, Runs, nothing}
use Rattle.step_plans.specs.Saved.{with_seal}
use Rattle.step_plans.specs.declared.error.PeerError.{PeerError}
use Rattle.tree_node.specs.declared.version.TreeVersion.{TreeVersion}
use Rattle.tree_node.specs.declared.version.TreeVersion.TheVariants.{One, Two}
use Rattle.peer_turns.proofs.Steps.{kept_fact}
use Rattle.peer_turns.specs.Ends.{last_saved}
use Rattle.peer_turns.specs.Deeds.{Deed, Did}

-- the stores keep this fact
abbrev pub Keeps : {D : Type 0} → OnDisks D → SavedFact → Type 0
Keeps s fact = held_kept s.0.facts ≡ Some (Ok fact)

abbrev finish : State → Out → Ending State
finish x out = Finished x out

state_is : (x y : State) (o p : Out) → finish x o ≡ finish y p → y ≡ x
state_is x y o p same = grind (arith, same)

module _ {D : Type 0} (seen : D → Option (List ℕ)) (faults : D → ℕ) where
  abbrev Does : OnDisks D → (call : Call) → AnswerOf call → OnDisks D → Type 0
  Does s call a t = disks_do seen faults s call a t

  abbrev Refuses : OnDisks D → Call → PeerError → OnDisks D → Type 0
  Refuses s call e t = disks_refuse seen faults s call e t

  still : (s t : OnDisks D) (f : SavedFact) → t.0.facts ≡ s.0.facts → Keeps s f → Keeps t f
  still s t f same keeps = ap held_kept same ∙ keeps

  -- after a call the stores keep the fact that was saved last
  pub call_keeps : (s t : OnDisks D) (call : Call) (a : AnswerOf call) (f : SavedFact) → Does s call a t → Keeps s f → Keeps t (last_saved call f)
  call_keeps s t Load a f did keeps = did.1 ∙ keeps
  call_keeps s t (Save fact) a f did keeps = did.0
  call_keeps s t (Fetch key) a f did keeps = still s t f did.2.1 keeps
  call_keeps s t (Put key bytes) a f did keeps = still s t f did.2.1 keeps
  call_keeps s t (Hash bytes) a f did keeps = still s t f (ap (λ (k : Stores (DiskBackend D) (DiskNodes D) DelayedFact). k.facts) did.4) keeps
  call_keeps s t call a f did keeps = still s t f did.1.3.1 keeps

  -- and so do steps
  pub steps_keep : (me : ℕ) (ds : List Deed) (x y : State) (s t : OnDisks D) → Did Does Refuses me x s ds y t → Keeps s (saved_by x) → Keeps t (saved_by y)
  steps_keep me [] x y s t did keeps = subst (λ (z : State). Keeps t (saved_by z)) (sym did.0) (subst (λ (u : OnDisks D). Keeps u (saved_by x)) (sym did.1) keeps)
  steps_keep me (d ∷ ds) x y s t did keeps =
      steps_keep me ds did.0 y did.1 t did.3 (kept_fact Does Refuses me d.event x did.0 s did.1 [] d.notes d.out did.2 Keeps call_keeps keeps)

  loaded : (x : State) (mode : Mode) (f : SavedFact) (trusted : Bool) (s t : OnDisks D) → finish x nothing ≡ finish (first_state mode f trusted) nothing → t ≡ s → Keeps s f → Keeps t (saved_by x)
  loaded x mode f trusted s t same stay keeps =
      let state : first_state mode f trusted ≡ x = state_is x (first_state mode f trusted) nothing nothing same in
      subst (λ (z : State). Keeps t (saved_by z)) state (subst (λ (u : OnDisks D). Keeps u f) (sym stay) keeps)

  saved_opening : (mode : Mode) (view : List ℕ) (seal : Option (List ℕ)) (s t : OnDisks D) (x : State) → Runs Does Refuses (saves_opening mode view seal) s [] (Finished x nothing) t [] → Keeps t (saved_by x)
  saved_opening mode view seal s t x ran = elim ran [
    | inl cut ↦ let none : ⊥ = grind (arith, cut.0) in absurd none
    | inr (inl off) ↦ let none : ⊥ = grind (arith, off.2) in absurd none
    | inr (inr on) ↦ elim on.3 [
      | inl cut ↦ let none : ⊥ = grind (arith, cut.0) in absurd none
      | inr end ↦ loaded x mode (opening_saved view seal) true on.1 t end.0 end.1 on.2.0
    ]
  ]

  sealed_opening : (seals : Bool) (mode : Mode) (view : List ℕ) (s t : OnDisks D) (x : State) → Runs Does Refuses (seals_opening seals mode view) s [] (Finished x nothing) t [] → Keeps t (saved_by x)
  sealed_opening false mode view s t x ran = saved_opening mode view None s t x ran
  sealed_opening true mode view s t x ran = elim ran [
    | inl cut ↦ let none : ⊥ = grind (arith, cut.0) in absurd none
    | inr (inl off) ↦ let none : ⊥ = grind (arith, off.2) in absurd none
    | inr (inr on) ↦ saved_opening mode view on.0 on.1 t x on.3
  ]

  -- a peer that continues from the fact that is kept
  resumed_keeps : (mode : Mode) (f : SavedFact) (s t : OnDisks D) (x : State) → Runs Does Refuses (resumed mode f) s [] (Finished x nothing) t [] → Keeps s f → Keeps t (saved_by x)
  resumed_keeps mode f s t x ran keeps = elim ran [
    | inl cut ↦ let none : ⊥ = grind (arith, cut.0) in absurd none
    | inr end ↦ loaded x mode f false s t end.0 end.1 keeps
  ]

  continued_keeps : (tree : TreeVersion) (mode : Mode) (f : SavedFact) (s t : OnDisks D) (x : State) → Runs Does Refuses (continued tree mode f) s [] (Finished x nothing) t [] → Keeps s f → Keeps t (saved_by x)
  continued_keeps tree mode f s t x ran keeps = elim ran [
    | inl cut ↦ let none : ⊥ = grind (arith, cut.0) in absurd none
    | inr (inl off) ↦ let none : ⊥ = grind (arith, off.2) in absurd none
    | inr (inr on) ↦ resumed_keeps mode f on.1 t x on.3 (call_keeps s on.1 (OpenTree f.seal tree) on.0 f on.2 keeps)
  ]

  -- the fact is kept again, with its new seal
  resaved_keeps : (mode : Mode) (f g : SavedFact) (s t : OnDisks D) (x : State) → Runs Does Refuses (Ask (Save g) (λ u. resumed mode g)) s [] (Finished x nothing) t [] → Keeps s f → Keeps t (saved_by x)
  resaved_keeps mode f g s t x ran keeps = elim ran [
    | inl cut ↦ let none : ⊥ = grind (arith, cut.0) in absurd none
    | inr (inl off) ↦ let none : ⊥ = grind (arith, off.2) in absurd none
    | inr (inr on) ↦ resumed_keeps mode g on.1 t x on.3 (call_keeps s on.1 (Save g) on.0 f on.2 keeps)
  ]

  resealed_keeps : (seal : Option (List ℕ)) (mode : Mode) (f : SavedFact) (s t : OnDisks D) (x : State) → Runs Does Refuses (reseals_if seal mode f) s [] (Finished x nothing) t [] → Keeps s f → Keeps t (saved_by x)
  resealed_keeps None mode f s t x ran keeps = resumed_keeps mode f s t x ran keeps
  resealed_keeps (Some seal) mode f s t x ran keeps = elim ran [
    | inl cut ↦ let none : ⊥ = grind (arith, cut.0) in absurd none
    | inr (inl off) ↦ let none : ⊥ = grind (arith, off.2) in absurd none
    | inr (inr on) ↦ resaved_keeps mode f (with_seal on.0 f.fact) on.1 t x on.3 (call_keeps s on.1 Root on.0 f on.2 keeps)
  ]

  installed_keeps : (entries : List Entry) (mode : Mode) (f : SavedFact) (s t : OnDisks D) (x : State) → Runs Does Refuses (Ask (Install entries) (λ v. reseals_if f.seal mode f)) s [] (Finished x nothing) t [] → Keeps s f → Keeps t (saved_by x)
  installed_keeps entries mode f s t x ran keeps = elim ran [
    | inl cut ↦ let none : ⊥ = grind (arith, cut.0) in absurd none
    | inr (inl off) ↦ let none : ⊥ = grind (arith, off.2) in absurd none
    | inr (inr on) ↦ resealed_keeps f.seal mode f on.1 t x on.3 (call_keeps s on.1 (Install entries) on.0 f on.2 keeps)
  ]

  migrated_keeps : (entries : List Entry) (mode : Mode) (f : SavedFact) (s t : OnDisks D) (x : State) → Runs Does Refuses (migrated mode f entries) s [] (Finished x nothing) t [] → Keeps s f → Keeps t (saved_by x)
  migrated_keeps entries mode f s t x ran keeps = elim ran [
    | inl cut ↦ let none : ⊥ = grind (arith, cut.0) in absurd none
    | inr (inl off) ↦ let none : ⊥ = grind (arith, off.2) in absurd none
    | inr (inr on) ↦ installed_keeps entries mode f on.1 t x on.3 (call_keeps s on.1 (OpenTree None Two) on.0 f on.2 keeps)
  ]

  chosen_keeps : (whole : Bool) (entries : List Entry) (mode : Mode) (f : SavedFact) (s t : OnDisks D) (x : State) → Runs Does Refuses (if whole then migrated mode f entries else continued Two mode f) s [] (Finished x nothing) t [] → Keeps s f → Keeps t (saved_by x)
  chosen_keeps true entries mode f s t x ran keeps = migrated_keeps entries mode f s t x ran keeps
  chosen_keeps false entries mode f s t x ran keeps = continued_keeps Two mode f s t x ran keeps

  scanned_keeps : (mode : Mode) (f : SavedFact) (s t : OnDisks D) (x : State) → Runs Does Refuses (Ask ScanTree (λ scan. scanned mode f scan)) s [] (Finished x nothing) t [] → Keeps s f → Keeps t (saved_by x)
  scanned_keeps mode f s t x ran keeps = elim ran [
    | inl cut ↦ let none : ⊥ = grind (arith, cut.0) in absurd none
    | inr (inl off) ↦ let none : ⊥ = grind (arith, off.2) in absurd none
    | inr (inr on) ↦ chosen_keeps (is_whole on.0) on.0.entries mode f on.1 t x on.3 (call_keeps s on.1 ScanTree on.0 f on.2 keeps)
  ]

  continued_in_keeps : (tree : TreeVersion) (mode : Mode) (f : SavedFact) (s t : OnDisks D) (x : State) → Runs Does Refuses (continued_in tree mode f) s [] (Finished x nothing) t [] → Keeps s f → Keeps t (saved_by x)
  continued_in_keeps One mode f s t x ran keeps = continued_keeps One mode f s t x ran keeps
  continued_in_keeps Two mode f s t x ran keeps = elim ran [
    | inl cut ↦ let none : ⊥ = grind (arith, cut.0) in absurd none
    | inr (inl off) ↦ let none : ⊥ = grind (arith, off.2) in absurd none
    | inr (inr on) ↦ scanned_keeps mode f on.1 t x on.3 (call_keeps s on.1 (OpenTree f.seal One) on.0 f on.2 keeps)
  ]

  -- at its start the peer has the fact that it keeps
  from_kept : (mode : Mode) (view : List ℕ) (found : Option SavedFact) (s t : OnDisks D) (x : State) → Runs Does Refuses (opened mode view found) s [] (Finished x nothing) t []
      → ((f : SavedFact) → found ≡ Some f → held_kept s.0.facts ≡ Some (Ok f)) → Keeps t (saved_by x)
  from_kept mode view None s t x ran kept = elim ran [
    | inl cut ↦ let none : ⊥ = grind (arith, cut.0) in absurd none
    | inr (inl off) ↦ let none : ⊥ = grind (arith, off.2) in absurd none
    | inr (inr on) ↦ sealed_opening mode.sealing mode view on.1 t x on.3
  ]
  from_kept mode view (Some f) s t x ran kept = continued_in_keeps mode.tree mode f s t x ran (kept f refl)

  found_kept : (s t : OnDisks D) (a : Option SavedFact) → Does s Load a t → (f : SavedFact) → a ≡ Some f → held_kept t.0.facts ≡ Some (Ok f)
  found_kept s t None did f is = absurd cc
  found_kept s t (Some g) did f is = let same : g ≡ f = cc in did.1 ∙ did.0 ∙ ap (λ (h : SavedFact). Some (Ok h)) same

  pub start_keeps : (mode : Mode) (view : List ℕ) (s t : OnDisks D) (x : State) → Runs Does Refuses (start_of mode view) s [] (Finished x nothing) t [] → Keeps t (saved_by x)
  start_keeps mode view s t x ran = elim ran [
    | inl cut ↦ let none : ⊥ = grind (arith, cut.0) in absurd none
    | inr (inl off) ↦ let none : ⊥ = grind (arith, off.2) in absurd none
    | inr (inr on) ↦ from_kept mode view on.0 on.1 t x on.3 (found_kept s on.1 on.0 on.2)
  ]
