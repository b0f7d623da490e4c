use Rattle.role_laws.proofs.SealMoves.{puts}
use Rattle.role_laws.proofs.Ending.{ends}
use Rattle.role_laws.proofs.Stopping.{stops_so}
use Rattle.role_laws.proofs.laws.sealed_peers_refine.Goals as goal

pub returns-clause-puts : goal.returns-clause-puts
returns-clause-puts c = puts

pub returns-clause-ends : goal.returns-clause-ends
returns-clause-ends c = ends

pub returns-clause-stops : goal.returns-clause-stops
returns-clause-stops c = stops_so
