-- How the step of a peer ends.
use Rattle.std.specs.Prelude.{◌≡◌, None}
use Rattle.world_spec.specs.Held.{HeldStores}
use Rattle.world_spec.specs.HeldRuns.{Ended}
use Rattle.peer_state.specs.declared.state.State.{State}
use Rattle.step_plans.specs.Plans.{Out, Finished}

-- no write of these stores is to fail
pub record NoneWaits (s : HeldStores) : Type 0 where
  pub facts : s.facts.faults.pending ≡ None
  pub tree : s.tree.store.faults.pending ≡ None
  pub backend : s.backend.faults.pending ≡ None

-- the plan ended well, and no write is to fail after it
pub record IsFinished (e : Ended State) : Type 0 where
  pub state : State
  pub out : Out
  pub ending : e.ending ≡ Finished state out
  pub none : NoneWaits e.held.stores
