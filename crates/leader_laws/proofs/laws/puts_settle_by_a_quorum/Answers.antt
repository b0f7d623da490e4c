use Rattle.leader_laws.proofs.Settling.{key_settles, reply_settles, joined_settles, got_settles, checked_settles, tick_settles, rest_settles}
use Rattle.leader_laws.proofs.laws.puts_settle_by_a_quorum.Goals as goal

pub returns-clause-key : goal.returns-clause-key
returns-clause-key c = key_settles

pub returns-clause-put : goal.returns-clause-put
returns-clause-put c = reply_settles

pub returns-clause-joined : goal.returns-clause-joined
returns-clause-joined c = joined_settles

pub returns-clause-got : goal.returns-clause-got
returns-clause-got c = got_settles

pub returns-clause-checked : goal.returns-clause-checked
returns-clause-checked c = checked_settles

pub returns-clause-tick : goal.returns-clause-tick
returns-clause-tick c = tick_settles

pub returns-clause-rest : goal.returns-clause-rest
returns-clause-rest c = rest_settles
