-- What holds of a row for one phase, and of the row for the others, holds in each phase.
use Rattle.std.proofs.Common.{◌≡◌, refl}
use Rattle.phase_rules.specs.declared.election.Election.{Election}
use Rattle.phase_rules.specs.declared.probing.Probing.{Probing}
use Rattle.phase_rows.specs.declared.phase.PhaseOut.{PhaseOut}
use Rattle.peer_state.specs.Rows.{while_probing, while_electing, while_leading}
use Rattle.peer_state.specs.declared.state.Leadership.{Leadership}
use Rattle.peer_state.specs.declared.state.Phase.{Phase}
use Rattle.peer_state.specs.declared.state.Phase.TheVariants as phases
use Rattle.peer_state.specs.declared.state.State.{State}

module _ (P : State × PhaseOut → Type 0) where
  pub by_probing : {row : Probing → State × PhaseOut} {other : State × PhaseOut} (phase : Phase) → ((p : Probing) → phase ≡ phases.Probing p → P (row p)) → P other → P (while_probing row phase other)
  by_probing (phases.Probing p) row other = row p refl
  by_probing phase row other = other

  pub by_electing : {row : Election → State × PhaseOut} {other : State × PhaseOut} (phase : Phase) → ((e : Election) → phase ≡ phases.Electing e → P (row e)) → P other → P (while_electing row phase other)
  by_electing (phases.Electing e) row other = row e refl
  by_electing phase row other = other

  pub by_leading : {row : Leadership → State × PhaseOut} {other : State × PhaseOut} (phase : Phase) → ((l : Leadership) → phase ≡ phases.Leading l → P (row l)) → P other → P (while_leading row phase other)
  by_leading (phases.Leading l) row other = row l refl
  by_leading phase row other = other
