use Rattle.std.proofs.Common.{◌≡◌, ◌&&◌, nat_lt}
use Rattle.network.specs.Mail.{oldest, is_among}
use Rattle.network.proofs.network.Network.oldest_in_lines.Given as goal

abbrev pub invariant-loop-number : goal.invariant-loop-number
invariant-loop-number l = l.best ≡ oldest (λ f. is_among l.peers f && nat_lt f.from l.number) l.self
