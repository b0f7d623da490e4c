-- The end of a step of a calm run: no task is left, and no epoch ends.
use Rattle.std.proofs.Common.{◌≡◌, ap, ◌∙◌, ℕ, List, []}
use Rattle.std.proofs.lemmas.List.{append-nil}
use Rattle.peer_refinement.specs.PeerSpec.{row_done, driven, most_turns, concluded}
use Rattle.peer_refinement.proofs.PeerSpec.{driven_none}
use Rattle.peer_state.specs.Rows.{while_26}
use Rattle.peer_state.specs.declared.state.ChangeState.TheVariants.{Settled}
use Rattle.peer_state.specs.declared.state.Phase.{Phase}
use Rattle.peer_state.specs.declared.state.Phase.TheVariants as phases
use Rattle.peer_state.specs.declared.state.State.{State}
use Rattle.phase_rows.specs.Rows.{silent}
use Rattle.step_plans.specs.Plans.{Done, Out, Rest}
use Rattle.step_plans.specs.declared.tasks.Task.{Task}
use Rattle.phase_rows.specs.declared.phase.Then.TheVariants as thens

-- no epoch is ending
abbrev pub IsSettled : Phase → Type 0
IsSettled (phases.Leading l) = l.change ≡ Settled
IsSettled phase = Unit {0}

module _ (me : ℕ) where
  pub quiet_row : (x : State) (out : Out) (next : Rest State (List Task)) → row_done me (silent thens.Stay) x out next ≡ next [] x out
  quiet_row x out next = ap (λ s. next [] x (record out { sends = s })) (append-nil out.sends)

  abbrev after : Rest State (Unit {0}) → Rest State (List Task)
  after next ts y o = driven me most_turns ts y o (λ rest z p. next tt z p)

  ends_26 : (phase : Phase) (x : State) (out : Out) (next : Rest State (Unit {0})) → IsSettled phase → row_done me (while_26 phase me x).1 (while_26 phase me x).0 out (after next) ≡ next tt x out
  ends_26 (phases.Leading l) x out next settled = rw settled (quiet_row x out (after next) ∙ driven_none me most_turns x out (λ rest z p. next tt z p))
  ends_26 (phases.Following f) x out next settled = quiet_row x out (after next) ∙ driven_none me most_turns x out (λ rest z p. next tt z p)
  ends_26 (phases.Probing f) x out next settled = quiet_row x out (after next) ∙ driven_none me most_turns x out (λ rest z p. next tt z p)
  ends_26 (phases.Electing f) x out next settled = quiet_row x out (after next) ∙ driven_none me most_turns x out (λ rest z p. next tt z p)

  -- rule 26 does nothing
  pub concludes : (x : State) (out : Out) (next : Rest State (Unit {0})) → IsSettled x.phase → concluded me x out next ≡ next tt x out
  concludes x out next settled = ends_26 x.phase x out next settled

  -- what follows the row of an event that names no rule
  pub over : (x : State) (out : Out) → IsSettled x.phase → driven me most_turns [] x out (λ rest z p. concluded me z p (λ u y o. Done y o)) ≡ Done x out
  over x out settled = driven_none me most_turns x out (λ rest z p. concluded me z p (λ u y o. Done y o)) ∙ concludes x out (λ u y o. Done y o) settled
