use Rattle.role_laws.proofs.Roles.{roles_open, run_roles}
use Rattle.role_laws.proofs.leaders.roles_move.Goals as goal

pub returns-clause-opens : goal.returns-clause-opens
returns-clause-opens c = roles_open

pub returns-clause-moves : goal.returns-clause-moves
returns-clause-moves c = run_roles
