use Rattle.http_exchange.proofs.Sequences.{begins_alike}
use Rattle.http_exchange.proofs.laws.one_sequence.Goals as goal

pub returns : goal.returns
returns c = begins_alike
