use Rattle.leader.proofs.leader.Leader.start.Goals as goal

-- src/starts.rt:194:5
pub returns : goal.returns
returns c = rw (← c.known-known.ensures) c.by_known.ensures
