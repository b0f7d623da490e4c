-- When a peer takes a request to change the view, in the words of the rule.
use Rattle.std.specs.Prelude.{◌≡◌, List, ◌∷◌, ℕ}
use Rattle.ens_base.specs.Views.{first_view}
use Rattle.peer_state.specs.declared.state.ChangeState.TheVariants.{Settled}
use Rattle.peer_state.specs.declared.state.Phase.{Phase}
use Rattle.peer_state.specs.declared.state.Phase.TheVariants as phases
use Rattle.peer_state.specs.declared.state.State.{State}

-- the peer leads and has begun no change: none is wanted, and its epoch is not ending
abbrev pub LeadsWithoutChange : Phase → Type 0
LeadsWithoutChange (phases.Leading l) = l.change ≡ Settled
LeadsWithoutChange (phases.Following f) = ⊥
LeadsWithoutChange (phases.Probing p) = ⊥
LeadsWithoutChange (phases.Electing e) = ⊥

-- the epoch has an old view beside a new one
abbrev pub HasTwoViews : List (List ℕ) → Type 0
HasTwoViews views = (new : List ℕ) × (old : List ℕ) × (rest : List (List ℕ)) × (views ≡ new ∷ (old ∷ rest))

-- the peer takes a request for this view: it leads, it has begun no change, its epoch has one view, and
-- the view asked for is another one
pub record TakesChange (view : List ℕ) (x : State) : Type 0 where
  pub leads : LeadsWithoutChange x.phase
  pub one : ¬ HasTwoViews x.fact.views
  pub other : ¬ (first_view x.fact.views ≡ view)
