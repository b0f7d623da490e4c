use Rattle.process_laws.proofs.LoneGroup.{lone_joined}
use Rattle.process_laws.proofs.group_laws.a_lone_process_may_live_twice.Goals as goal

pub returns : goal.returns
returns c = lone_joined
