use Rattle.std.proofs.Common.{◌-◌, ◌≤◌, length, drop}
use Rattle.http_exchange.specs.declared.limits.TheConstants.{MAX_BODY}
use Rattle.http_exchange.proofs.Contents.{InLoop}
use Rattle.http_exchange.proofs.front.read_content.Given as goal

abbrev pub invariant-loop-read : goal.invariant-loop-read
invariant-loop-read l =
    (l.used ≤ length l.input) × (length l.body.items ≤ MAX_BODY)
    × InLoop l.fn.server l.input l.server (drop l.used l.input) l.body.items

abbrev pub decreases-loop-read : goal.decreases-loop-read
decreases-loop-read l = length l.input - l.used
