use Rattle.http_exchange.proofs.Sequences.{run_from_start}
use Rattle.http_exchange.proofs.laws.first_requests.Goals as goal

pub returns : goal.returns
returns c = run_from_start
