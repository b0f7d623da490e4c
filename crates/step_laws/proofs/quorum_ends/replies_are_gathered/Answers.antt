use Rattle.step_laws.proofs.Gathering.{own_reply, one_more_reply, other_reply}
use Rattle.step_laws.proofs.quorum_ends.replies_are_gathered.Goals as goal

pub returns-clause-own : goal.returns-clause-own
returns-clause-own c = own_reply

pub returns-clause-more : goal.returns-clause-more
returns-clause-more c = one_more_reply

pub returns-clause-others : goal.returns-clause-others
returns-clause-others c = other_reply
