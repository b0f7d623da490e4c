use Rattle.quorums.proofs.Majorities.{meet_of_majorities, meet_of_quorums, quorum_more}
use Rattle.quorums.proofs.laws.quorums_meet.Goals as goal

pub returns-clause-majorities : goal.returns-clause-majorities
returns-clause-majorities c = meet_of_majorities

pub returns-clause-quorums : goal.returns-clause-quorums
returns-clause-quorums c = meet_of_quorums

pub returns-clause-more : goal.returns-clause-more
returns-clause-more c = quorum_more
