-- Steps that end leading while no call is unanswered.
use Rattle.std.proofs.Common.{◌≡◌, Bool, true, false, List, [], ◌∷◌, refl}
use Rattle.std.proofs.lemmas.Bool.{true≢false}
use Rattle.leader.specs.CallTable.{Waiting, has_calls}
use Rattle.std.specs.Prelude.{map}
use Rattle.leader.specs.Ticks.{left_answer}
use Rattle.peer_state.specs.Moves.{waits, timeouts, stopped_leading, left}
use Rattle.peer_state.specs.NoAllocation.{EndsQuietly}
use Rattle.peer_state.specs.declared.state.Phase.{Phase}
use Rattle.peer_state.specs.declared.state.Phase.TheVariants as phases
use Rattle.peer_state.specs.declared.state.State.{State}

no_answers : (calls : List Waiting) → has_calls calls ≡ false → map left_answer calls ≡ []
no_answers [] none = refl
no_answers (w ∷ ws) none = absurd (true≢false none)

pub no_timeouts : (phase : Phase) → waits phase ≡ false → timeouts phase ≡ []
no_timeouts (phases.Leading l) none = no_answers l.leader.table.calls none
no_timeouts (phases.Following f) none = refl
no_timeouts (phases.Probing p) none = refl
no_timeouts (phases.Electing e) none = refl

stopped_waits : (phase : Phase) → waits phase ≡ false → waits (stopped_leading phase) ≡ false
stopped_waits (phases.Leading l) none = refl
stopped_waits (phases.Following f) none = refl
stopped_waits (phases.Probing p) none = refl
stopped_waits (phases.Electing e) none = refl

waits_less : (leave : Bool) (x : State) → waits x.phase ≡ false → waits (left leave x).phase ≡ false
waits_less false x none = none
waits_less true x none = stopped_waits x.phase none

-- a leader that stepped down has no call left
pub still_quiet : (leave ends : Bool) (x : State) → EndsQuietly ends x.phase → EndsQuietly ends (left leave x).phase
still_quiet leave true x none = waits_less leave x none
still_quiet leave false x none = tt
