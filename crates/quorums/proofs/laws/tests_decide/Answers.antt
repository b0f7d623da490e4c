use Rattle.quorums.proofs.Memberships.{member_decides, all_decides, every_decides}
use Rattle.quorums.proofs.laws.tests_decide.Goals as goal

pub returns-clause-member : goal.returns-clause-member
returns-clause-member c = member_decides

pub returns-clause-all : goal.returns-clause-all
returns-clause-all c = all_decides

pub returns-clause-every : goal.returns-clause-every
returns-clause-every c = every_decides
