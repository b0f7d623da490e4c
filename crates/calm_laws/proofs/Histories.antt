-- The histories of a calm run have the calls of each key in the order of their lines.
use Rattle.std.proofs.Common.{◌≡◌, ◌<◌, inl, inr, refl, ap, sym, subst, ℕ, true, false, not, List, [], ◌∷◌, length}
use Rattle.std.proofs.lemmas.Bool.{or_right}
use Rattle.register_model.proofs.Served.{calm_order}
use Rattle.register_model.specs.Served.{ids_on}
use Rattle.world_refinement.specs.Lines.{lines_of, calls_from, answers_in}
use Rattle.ens_base.specs.Lists.{◌∈◌}
use Rattle.history_scribe.specs.Histories.{AreHistories}
use Rattle.quorums.proofs.Majorities.{majority_more_on, majority_of_quorum, quorum_of_all}
use Rattle.quorums.specs.Quorums.{is_majority}
use Rattle.register_model.specs.declared.history.History.{History}
use Rattle.schedule_input.specs.Premise.{is_firm, is_reverted, changed_views}
use Rattle.schedule_text.specs.declared.event.ScheduleEvent.{ScheduleEvent}
use Rattle.schedule_text.specs.declared.event.ScheduleEvent.TheVariants.{Call, Tick, Calm}
use Rattle.schedule_text.specs.Forms.{is_sealed}
use Rattle.schedule_text.specs.declared.form.Form.{Form}
use Rattle.schedule_text.specs.declared.schedule.Schedule.{Schedule}
use Rattle.role_laws.specs.Facts.{AreFirm}
use Rattle.calm_laws.specs.Calm.{ArePairs, IsCalmAt, RunsUndisturbed, run_of}
use Rattle.calm_laws.proofs.LegalRuns.{legal}
use Rattle.calm_laws.proofs.Schedules.{few_lines, calls_complete}

-- no line of a calm schedule reverts a tree, or changes the view
never_reverted : (p : ℕ) (events : List ScheduleEvent) → ArePairs p events → (q : ℕ) → is_reverted events q ≡ false
never_reverted p [] are q = refl
never_reverted p (Call r id key command ∷ Calm ∷ more) are q = never_reverted p more are.1 q
never_reverted p other are q = absurd are

never_changed : (p : ℕ) (events : List ScheduleEvent) → ArePairs p events → changed_views events ≡ []
never_changed p [] are = refl
never_changed p (Call r id key command ∷ Calm ∷ more) are = never_changed p more are.1
never_changed p other are = absurd are

calm_reverts : (p : ℕ) (events : List ScheduleEvent) → IsCalmAt p events → (q : ℕ) → is_reverted events q ≡ false
calm_reverts p (Tick r k ∷ Calm ∷ more) are q = never_reverted p more are.2 q
calm_reverts p other are q = absurd are

calm_changes : (p : ℕ) (events : List ScheduleEvent) → IsCalmAt p events → changed_views events ≡ []
calm_changes p (Tick r k ∷ Calm ∷ more) are = never_changed p more are.2
calm_changes p other are = absurd are

-- so each view keeps a majority
are_firm : (p : ℕ) (form : Form) (view : List ℕ) (events : List ScheduleEvent) → 0 < length view → IsCalmAt p events → AreFirm (lines_of form view events)
are_firm p form view events filled calm v is = by (subst (λ (vs : List (List ℕ)). v ∈ (view ∷ vs)) (calm_changes p events calm) is) where
  most : is_majority (λ q. true) view ≡ true
  most = majority_of_quorum (λ q. true) (view ∷ []) view (inl refl) (quorum_of_all (λ q. true) (λ q. refl) view filled)

  kept : is_majority (is_firm form events) view ≡ true
  kept = majority_more_on (λ q. true) (is_firm form events) view (λ q member yes. or_right (is_sealed form) (not (is_reverted events q)) (ap not (calm_reverts p events calm q))) most

  by : v ∈ (view ∷ []) → is_majority (is_firm form events) v ≡ true
  by (inl same) = subst (λ (x : List ℕ). is_majority (is_firm form events) x ≡ true) (sym same) kept
  by (inr none) = absurd none

pub histories_in_order : (s : Schedule) → RunsUndisturbed s → (histories : List History) → AreHistories (run_of s).notes (run_of s).called histories → (h : History) → h ∈ histories → h.calls ≡ ids_on h.key (calls_from 1 s.events)
histories_in_order s runs histories are h is =
    calm_order (calls_from 1 s.events) (answers_in (run_of s).printed) h.key h.calls
    (legal s.form s.peers s.view s.events runs.schedule.peers.1 runs.schedule.view.1 (few_lines (length s.events) runs.schedule.lines) (are_firm runs.undisturbed.peer s.form s.view s.events runs.schedule.view.1.size.0 runs.undisturbed.calm) runs.schedule.events
    runs.schedule.distinct runs.apart histories are h is)
    (calls_complete s runs)
