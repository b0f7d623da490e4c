-- The world after a sound schedule agrees with a run of the abstract protocol, in its calls and its answers.
use Rattle.std.proofs.Common.{◌≡◌, ◌<◌, ◌^◌, List, [], length, None, refl, sym, subst, inl, arith}
use Rattle.protocol_laws.specs.Protocol.{State, Step, IsRun, opening, state_after}
use Rattle.world_refinement.proofs.Agreement.{Stands, carried}
use Rattle.world_refinement.proofs.OpeningWorld.{opening_holds}
use Rattle.world_refinement.proofs.Schedules.{IsAfter, IsCarried, schedule_agrees}
use Rattle.world_refinement.proofs.ScheduleLaws.{in_contains}
use Rattle.world_refinement.specs.Lines.{BookAgrees, lines_of}
use Rattle.world_spec.specs.Held.{HasNoClash}
use Rattle.cluster.specs.Replay.{hashed_by, schedule_run}
use Rattle.cluster.proofs.Replay.{firm_lines}
use Rattle.schedule_input.specs.Premise.{first_unsound}
use Rattle.schedule_text.specs.Spelling.{IsSchedule}
use Rattle.schedule_text.specs.declared.schedule.Schedule.{Schedule}
use Rattle.world_refinement.specs.StepRefinement.{AsksFit, EpochsFit}
use Rattle.role_laws.specs.Facts.{Lines}
use Rattle.world_refinement.specs.PeerRefinement.{AreFree}
use Rattle.world_spec.specs.Runs.{Run, opening_run}

-- a run of the protocol, whose book has the calls of the schedule and the answers that were printed
pub record HasBook (s : Schedule) : Type 0 where
  pub steps : List Step
  pub run : IsRun s.view steps
  pub asks : AsksFit (state_after s.view steps)
  pub epochs : EpochsFit (state_after s.view steps)
  pub agrees : BookAgrees s.events (schedule_run s) (state_after s.view steps).book

module _ (s : Schedule) (is : IsSchedule s) (sound : first_unsound s ≡ None) (apart : HasNoClash (hashed_by s)) where
  abbrev Said : Lines
  Said = lines_of s.form s.view s.events

  abbrev Agreed : Run → State → Type 0
  Agreed = Stands Said s.view (hashed_by s)

  pub few_events : length s.events < 2 ^ 32
  few_events = omega (arith, is.lines)

  free : AreFree (hashed_by s)
  free a b in_a in_b same = apart a b (in_contains (hashed_by s) a in_a) (in_contains (hashed_by s) b in_b) same

  opens : Agreed (opening_run s.form s.peers s.view) (opening s.view)
  opens = record { steps = []; is = refl; holds = opening_holds s.form s.view Said s.peers (hashed_by s) refl is.view.1 (inl refl) }

  carries : IsCarried s.peers Said (schedule_run s) Agreed
  carries = carried Said s.view (hashed_by s) (firm_lines s is sound) free s.peers is.peers.1 (schedule_run s) (λ x at. at)

  pub has_book : HasBook s
  has_book = by (schedule_agrees s.form s.peers s.view s.events Agreed carries opens is.peers.1 few_events is.events is.distinct)
    where
      by : IsAfter s.peers Agreed s.events (schedule_run s) → HasBook s
      by after =
          let a : Agreed (schedule_run s) after.state = after.holds in
          record { steps = a.steps; run = a.holds.parts.run; asks = a.holds.parts.asked; epochs = a.holds.parts.epochs; agrees = subst (λ (t : State). BookAgrees s.events (schedule_run s) t.book) (sym a.is) after.agrees }
