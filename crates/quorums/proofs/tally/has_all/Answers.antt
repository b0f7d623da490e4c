use Rattle.std.proofs.Common.{rules, ◌↔◌, IsTrue}
use Rattle.ens_base.specs.PeerSet.{holds}
use Rattle.quorums.specs.Quorums.{HasAll}
use Rattle.quorums.proofs.Everyone.{majority_of_all}
use Rattle.quorums.proofs.Memberships.{all_is}
use Rattle.quorums.proofs.tally.has_all.Goals as goal

pub returns-clause-test : goal.returns-clause-test
returns-clause-test c = all_is _ c.args.view.now _ (search rules)

pub returns-clause-majority : goal.returns-clause-majority
returns-clause-majority c = let all : (IsTrue c.all.result ↔ HasAll (holds c.args.votes.now) c.args.view.now) = search rules in λ t. majority_of_all (holds c.args.votes.now) c.args.view.now c.members.ensures.view (all.0 t)
