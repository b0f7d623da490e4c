use Rattle.std.proofs.Common.{rules, ◌∙◌, ap, length}
use Rattle.ens_base.specs.PeerSet.{holds}
use Rattle.quorums.proofs.Sets.{one_holds, two_hold, set_of_members}
use Rattle.quorums.proofs.tally.members.Goals as goal

pub returns-in-None-clause-members : goal.returns-in-None-clause-members
returns-in-None-clause-members c = one_holds c.args.views.now c.first.result c.with_view-set.result (search rules) (rw c.empty.ensures at c.with_view-set.ensures.members)

pub returns-in-None-clause-set : goal.returns-in-None-clause-set
returns-in-None-clause-set c = set_of_members c.args.views.now c.with_view-set.result (c.with_view-set.ensures.size ∙ ap length c.empty.ensures) (c.with_view-set.ensures.none (ap (λ s. holds s 0) c.empty.ensures)) (returns-in-None-clause-members c)

pub returns-in-Some-clause-members : goal.returns-in-Some-clause-members
returns-in-Some-clause-members c = two_hold c.args.views.now c.first.result c.in-Some.old c.with_view-set.result c.with_view.result (search rules) (rw c.empty.ensures at c.with_view-set.ensures.members) c.with_view.ensures.members

pub returns-in-Some-clause-set : goal.returns-in-Some-clause-set
returns-in-Some-clause-set c = set_of_members c.args.views.now c.with_view.result (c.with_view.ensures.size ∙ c.with_view-set.ensures.size ∙ ap length c.empty.ensures) (c.with_view.ensures.none (c.with_view-set.ensures.none (ap (λ s. holds s 0) c.empty.ensures))) (returns-in-Some-clause-members c)
