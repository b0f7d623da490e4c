use Rattle.peer_refinement.proofs.Replying.{run_serves, run_checks, run_gets, run_puts}
use Rattle.peer_refinement.proofs.request_laws.peers_reply.Goals as goal

pub returns-clause-serve : goal.returns-clause-serve
returns-clause-serve c = run_serves

pub returns-clause-checks : goal.returns-clause-checks
returns-clause-checks c = run_checks

pub returns-clause-gets : goal.returns-clause-gets
returns-clause-gets c = run_gets

pub returns-clause-puts : goal.returns-clause-puts
returns-clause-puts c = run_puts
