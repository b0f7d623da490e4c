use Rattle.std.proofs.Common.{◌≡◌, rules, arith}
use Rattle.std.proofs.lemmas.Grind.{common_steps}
use Rattle.peer_turns.specs.Turns.{event_in}
use Rattle.peer_turns.proofs.Taken.{may_come}
use Rattle.peer_turns.proofs.taking.event_of.Goals as goal

pub returns-clause-may : goal.returns-clause-may
returns-clause-may c =
    let is : c.event_by.result ≡ event_in c.args.words.now c.args.frame = first_of (search rules, grind (arith, common_steps)) in
    may_come c.args.words.now c.args.frame c.event_by.result c.requires.peers c.requires.obeys is
