use Rattle.std.proofs.Common.{Some, ap, ◌∙◌}
use Rattle.tree_exchange.proofs.Having.{last_is}
use Rattle.tree_exchange.proofs.taking.last_key.Goals as goal

pub returns-in_ok-copy-in-Some : goal.returns-in_ok-copy-in-Some
returns-in_ok-copy-in-Some c = ap Some (c.in_ok-copy-in-Some.ensures) ∙ last_is c.args.entries.now c.in-Some.entry.now (c.in-Some.ensures).value
