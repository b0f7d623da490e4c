-- The role of each peer of a world in the theory of leaders, and what was said in a world.
use Rattle.std.specs.Prelude.{ℕ, zero, suc, List, [], ◌∷◌, Option, None, Some, slice_get}
use Rattle.role_laws.specs.Roles.{Role, Follows, Sent}
use Rattle.step_refinement.specs.Roles.{role_in, said_of, said_by}
use Rattle.wire_frames.specs.declared.frame.Frame.{Frame}
use Rattle.world_spec.specs.Nodes.{Node, Up, Down}

-- the role of a peer between two steps; a peer that is down owes nothing
abbrev pub role_of : Node → Role
role_of (Up x stores) = role_in [] x.phase []
role_of (Down stores) = Follows []

-- the role of the peer at a place, if there is one
abbrev pub role_at : Option Node → Role
role_at None = Follows []
role_at (Some node) = role_of node

-- the roles of the peers 1, 2, .. of a world; there is no peer 0
abbrev pub roles_of : List Node → ℕ → Role
roles_of nodes zero = Follows []
roles_of nodes (suc place) = role_at (slice_get nodes place)

-- what these frames say
abbrev pub said_in : List Frame → List Sent
said_in [] = []
said_in (f ∷ frames) = said_by f.from (said_of f.message) (said_in frames)
