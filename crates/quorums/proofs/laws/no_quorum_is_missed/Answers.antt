use Rattle.quorums.proofs.Majorities.{missed_exactly}
use Rattle.quorums.proofs.laws.no_quorum_is_missed.Goals as goal

pub returns : goal.returns
returns c = missed_exactly
