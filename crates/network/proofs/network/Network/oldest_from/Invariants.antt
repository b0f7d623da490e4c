use Rattle.std.proofs.Common.{◌≡◌, ◌&&◌, nat_lt}
use Rattle.network.specs.Mail.{oldest, goes_into}
use Rattle.network.proofs.network.Network.oldest_from.Given as goal

abbrev pub invariant-loop-number : goal.invariant-loop-number
invariant-loop-number l = l.best ≡ oldest (λ f. goes_into l.from l.peers f && nat_lt f.to l.number) l.self
