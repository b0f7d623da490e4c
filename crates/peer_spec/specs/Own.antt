-- That a peer sends as itself has one proof at most.
use Rattle.std.specs.Prelude.{ℕ, List, Option, None, Some}
use Rattle.std.proofs.Props.{props}
use Rattle.tree_node.specs.declared.version.TreeVersion.TheVariants.{Two}
use Rattle.peer_state.specs.TreeExchange.{ArePlaces, Question}
use Rattle.peer_state.specs.TreeSync.{Running}
use Rattle.tree_node.specs.declared.position.Position.{Position}
use Rattle.peer_spec.specs.Kept.{LeadsAs, SyncsAs}
use Rattle.peer_state.specs.declared.state.Phase.{Phase}
use Rattle.peer_state.specs.declared.state.Phase.TheVariants as phases

pub ArePlaces-prop : (q : Option Question) (left : List Position) → IsProp (ArePlaces Two q left)
ArePlaces-prop None left = hlevel props
ArePlaces-prop (Some q) left = hlevel props

pub LeadsAs-prop : (me : ℕ) (phase : Phase) → IsProp (LeadsAs me phase)
LeadsAs-prop me (phases.Leading l) = hlevel props
LeadsAs-prop me (phases.Following f) = hlevel props
LeadsAs-prop me (phases.Probing p) = hlevel props
LeadsAs-prop me (phases.Electing e) = hlevel props

pub SyncsAs-prop : (me : ℕ) (sync : Option Running) → IsProp (SyncsAs me sync)
SyncsAs-prop me None = hlevel props
SyncsAs-prop me (Some r) = hlevel (ArePlaces-prop, props)

pub ruleset own_props = (LeadsAs-prop, SyncsAs-prop, props)
