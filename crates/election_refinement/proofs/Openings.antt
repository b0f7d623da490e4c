-- The world of a schedule before its first event and after its last.
use Rattle.std.proofs.Common.{◌≡◌, ℕ, zero, suc, ◌<◌, ◌≤◌, true, List, [], ◌∷◌, inl, Some, slice_get, replicate, arith, lit<, refl, ap, sym, subst}
use Rattle.std.proofs.lemmas.Bool.{false≢true}
use Rattle.std.proofs.lemmas.Bool.Decides.{nat_tests}
use Rattle.std.proofs.lemmas.List.Elements.{All-nil}
use Rattle.protocol_laws.specs.Ledger.{opening_ledger}
use Rattle.protocol_laws.specs.Protocol.{Step}
use Rattle.ens_base.specs.View.{IsView}
use Rattle.stored_formats.specs.Facts.{opening_fact}
use Rattle.schedule_text.specs.Forms.{is_sealed}
use Rattle.schedule_text.specs.Spelling.{MayStand, AllMayStand}
use Rattle.schedule_text.specs.declared.event.ScheduleEvent.{ScheduleEvent}
use Rattle.schedule_text.specs.declared.form.Form.{Form}
use Rattle.step_plans.specs.Saved.{bare}
use Rattle.world_spec.proofs.Ending.{opening_is}
use Rattle.world_spec.proofs.Obeying.{IsFine, opening_fine}
use Rattle.world_spec.specs.Lines.{applied, run_from, run_of_schedule}
use Rattle.world_spec.specs.Nodes.{Node, opening_node}
use Rattle.world_spec.specs.Runs.{Run, tree_first, opening_mode, opening_run}
use Rattle.election_refinement.proofs.Numbers.{number_zero}
use Rattle.election_refinement.proofs.Worlds.{IsSpared, AreSpared, SparesAll, applied_refines}
use Rattle.election_refinement.specs.Refinement.{IsKnown, IsSaved, NodeHolds, FrameHolds, IsOrderly}
use Rattle.election_refinement.specs.Worlds.{AllSpare, IsRefinement, HasRun, GoesOn}

-- each element of a list of equal ones
pub replicated : {A : Type 0} (n place : ℕ) (x y : A) → slice_get (replicate n x) place ≡ Some y → x ≡ y
replicated zero place x y at = absurd (cc)
replicated (suc n) zero x y at = cc
replicated (suc n) (suc place) x y at = replicated n place x y at

module _ (view : List ℕ) where
  pub known_first : IsKnown (opening_ledger view) (opening_fact view)
  known_first = record {
    ballot = omega arith;
    epoch = omega arith;
    below = omega arith;
    elected = rw number_zero refl;
    is_fact = inl (number_zero, refl);
    leader = refl;
    views = refl;
    change = refl;
  }

  pub saved_first : (p : ℕ) → IsSaved (opening_ledger view) p (opening_fact view)
  saved_first p = record { known = known_first; ballot = sym number_zero; place = rw number_zero refl }

  started : (form : Form) (p : ℕ) → NodeHolds (opening_ledger view) p (opening_node (opening_mode form) view)
  started form p =
      let o = opening_is (is_sealed form) (tree_first form) view in
      subst (NodeHolds (opening_ledger view) p) (sym o.is) (record { saved = saved_first p; kept = ap bare o.kept; phase = tt; sync = tt })

  pub orderly_first : IsOrderly (opening_ledger view)
  orderly_first = record { reached = λ d h. zero_only d h; fits = λ d h. absurd (false≢true h); adopted = λ q d h. absurd (false≢true h); left = λ d h later. absurd (none d (zero_only d h) later) }
    where
      none : (d : ℕ) → d ≤ 0 → 0 < d → ⊥
      none d low later = omega (arith, low, later)

      zero_only : (d : ℕ) → (opening_ledger view).elected d ≡ true → d ≤ 0
      zero_only d h = grind (arith, nat_tests)

  opening_refines : (form : Form) (peers : ℕ) → IsView view → IsRefinement view [] (opening_run form peers view)
  opening_refines form peers is_view = record {
    run = is_view.size.0;
    refines = record { orderly = orderly_first; nodes = λ place node at. subst (NodeHolds (opening_ledger view) (suc place)) (replicated peers place (opening_node (opening_mode form) view) node at) (started form (suc place)); sent = All-nil (FrameHolds (opening_ledger view)) };
  }

  -- the world after an event refines an extension of the run
  pub event_refines : (steps : List Step) (peers : ℕ) (event : ScheduleEvent) (w : Run) → peers ≤ 31 → MayStand peers event → IsRefinement view steps w → GoesOn view steps (applied event w)
  event_refines steps peers event w few may refinement =
      (applied_refines view steps (λ place. ⊥) peers few event w may (λ place none. absurd none) (record { on = record { more = []; refinement = refinement }; up = λ place node none at. absurd none; fine = λ place none. absurd none })).on

  -- the world refines a run, and the spared peers run
  record Runs (spared : ℕ → Type 0) (w : Run) : Type 0 where
    has : HasRun view w
    up : AreSpared spared w
    fine : (place : ℕ) → spared place → IsFine w

  module _ (spared : ℕ → Type 0) (peers : ℕ) (few : peers ≤ 31) where
    next_runs : (event : ScheduleEvent) (w : Run) → MayStand peers event → SparesAll spared event → Runs spared w → Runs spared (applied event w)
    next_runs event w may spares h =
        let now = applied_refines view h.has.steps spared peers few event w may spares (record { on = record { more = []; refinement = h.has.refinement }; up = h.up; fine = h.fine }) in
        record { has = record { steps = _; refinement = now.on.refinement }; up = now.up; fine = now.fine }

    from_runs : (events : List ScheduleEvent) (w : Run) → AllMayStand peers events → ((place : ℕ) → spared place → AllSpare (suc place) events) → Runs spared w → Runs spared (run_from events w)
    from_runs [] w may spare h = h
    from_runs (event ∷ more) w may spare h =
        from_runs more (applied event w) may.1 (λ place is_spared. (spare place is_spared).1) (next_runs event w may.0 (λ place is_spared. (spare place is_spared).0) h)

    opening_spared : (form : Form) → IsSpared (opening_node (opening_mode form) view)
    opening_spared form = let o = opening_is (is_sealed form) (tree_first form) view in subst IsSpared (sym o.is) (o.none, lit< tt)

    opening_runs : (form : Form) → IsView view → Runs spared (opening_run form peers view)
    opening_runs form is_view = record {
      has = record { steps = []; refinement = opening_refines form peers is_view };
      up = λ place node is_spared at. subst IsSpared (replicated peers place (opening_node (opening_mode form) view) node at) (opening_spared form);
      fine = λ place is_spared. opening_fine form peers view;
    }

  pub schedule_refines : (form : Form) (peers : ℕ) (events : List ScheduleEvent) → peers ≤ 31 → IsView view → AllMayStand peers events → HasRun view (run_of_schedule form peers view events)
  schedule_refines form peers events few is_view may =
      (from_runs (λ place. ⊥) peers few events (opening_run form peers view) may (λ place none. absurd none) (opening_runs (λ place. ⊥) peers few form is_view)).has

  -- the peer at this place runs, if no line stops it or makes one of its writes fail
  pub spared_runs : (form : Form) (peers : ℕ) (events : List ScheduleEvent) (place : ℕ) → peers ≤ 31 → IsView view → AllMayStand peers events → AllSpare (suc place) events
      → (node : Node) → slice_get (run_of_schedule form peers view events).nodes place ≡ Some node → IsSpared node
  spared_runs form peers events place few is_view may spare node at =
      (from_runs (λ q. place ≡ q) peers few events (opening_run form peers view) may (λ q same. subst (λ n. AllSpare (suc n) events) same spare) (opening_runs (λ q. place ≡ q) peers few form is_view)).up place node refl at
