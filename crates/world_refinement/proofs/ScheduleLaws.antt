-- Schedules: their worlds agree with runs of the abstract protocol, their histories are legal, and their
-- answers have causes.
use Rattle.std.specs.Prelude.{Contains}
use Rattle.ens_base.specs.Lists.{AreDistinct, ◌∈◌}
use Rattle.ens_base.specs.View.{IsView}
use Rattle.peer_refinement.specs.WorldSpec.{HasNoClash}
use Rattle.history_scribe.specs.Histories.{AreHistories}
use Rattle.register_model.specs.declared.history.History.{History}
use Rattle.schedule_text.specs.Spelling.{AllMayStand, call_ids}
use Rattle.schedule_text.specs.declared.event.ScheduleEvent.{ScheduleEvent}
use Rattle.schedule_text.specs.declared.form.Form.{Form}
use Rattle.role_laws.specs.Facts.{AreFirm, Lines}
use Rattle.world_spec.specs.Lines.{run_of_schedule}
use Rattle.world_refinement.specs.Causes.{HaveCauses}
use Rattle.world_refinement.specs.Lines.{lines_of, AreLegal, BookAgrees}
use Rattle.world_refinement.specs.Worlds.{HasRun}
use Rattle.std.proofs.Common.{ℕ, suc, ◌<◌, ◌≤◌, ◌^◌, List, [], ◌∷◌, length, arith, refl, sym, subst, inl, inr}
use Rattle.protocol_laws.specs.Protocol.{State, opening}
use Rattle.peer_refinement.specs.Trees.{AreFree}
use Rattle.world_spec.specs.Runs.{opening_run}
use Rattle.world_refinement.proofs.Causes.{causes_of}
use Rattle.world_refinement.proofs.OpeningWorld.{opening_holds}
use Rattle.world_refinement.proofs.Schedules.{IsCarried, IsAfter, schedule_agrees, schedule_legal}
use Rattle.world_refinement.proofs.Agreement.{Stands, carried, is_safe}

-- ## Strings without clashes

pub in_contains : (strings : List (List ℕ)) (s : List ℕ) → s ∈ strings → Contains strings s
in_contains [] s at = absurd at
in_contains (x ∷ strings) s (inl same) = (0, omega arith, sym same)
in_contains (x ∷ strings) s (inr at) = let there = in_contains strings s at in let within = there.1 in (suc there.0, omega (arith, within), there.2)

-- strings of which no two clash are free of clashes
pub free_of : (strings : List (List ℕ)) → HasNoClash strings → AreFree strings
free_of strings apart a b in_a in_b same = apart a b (in_contains strings a in_a) (in_contains strings b in_b) same

-- ## A whole schedule

module _ (form : Form) (peers : ℕ) (view : List ℕ) (events : List ScheduleEvent) (small : peers ≤ 31) (is_view : IsView view) (few : length events < 2 ^ 32) (sound : AreFirm (lines_of form view events)) (may : AllMayStand peers events) (distinct : AreDistinct (call_ids events))
    (apart : HasNoClash (run_of_schedule form peers view events).hashed) where
  -- what its lines say, and all strings that it hashes
  abbrev Said : Lines
  Said = lines_of form view events

  abbrev Strings : List (List ℕ)
  Strings = (run_of_schedule form peers view events).hashed

  opens : Stands Said view Strings (opening_run form peers view) (opening view)
  opens = record { steps = []; is = refl; holds = opening_holds form view Said peers Strings refl is_view (inl refl) }

  carries : IsCarried peers Said (run_of_schedule form peers view events) (Stands Said view Strings)
  carries = carried Said view Strings sound (free_of Strings apart) peers small (run_of_schedule form peers view events) (λ x at. at)

  -- the world after the schedule agrees with a run of the abstract protocol, in its book too
  schedule_stands : IsAfter peers (Stands Said view Strings) events (run_of_schedule form peers view events)
  schedule_stands = schedule_agrees form peers view events (Stands Said view Strings) carries opens small few may distinct

  -- the world of a schedule agrees with a run
  pub schedules_run : HasRun Said view Strings (run_of_schedule form peers view events)
  schedules_run = let a : Stands Said view Strings (run_of_schedule form peers view events) schedule_stands.state = schedule_stands.holds in record { steps = a.steps; holds = a.holds; safe = is_safe view a.steps a.holds.parts.run }

  -- its histories are legal
  pub schedules_are_legal : (histories : List History) → AreHistories (run_of_schedule form peers view events).notes (run_of_schedule form peers view events).called histories → AreLegal events (run_of_schedule form peers view events).printed histories
  schedules_are_legal = schedule_legal form peers view events (Stands Said view Strings) carries opens small few may distinct

  -- each answer printed has its cause
  pub schedules_have_causes : HaveCauses events (run_of_schedule form peers view events).printed (run_of_schedule form peers view events).notes
  schedules_have_causes = let a : Stands Said view Strings (run_of_schedule form peers view events) schedule_stands.state = schedule_stands.holds in
      causes_of view a.steps events (run_of_schedule form peers view events) a.holds.parts.run (subst (λ (s : State). BookAgrees events (run_of_schedule form peers view events) s.book) (sym a.is) schedule_stands.agrees)
