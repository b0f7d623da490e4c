use Rattle.run_laws.proofs.Recording.{replay_recorded}
use Rattle.run_laws.proofs.laws.a_replay_is_well_recorded.Goals as goal

pub returns : goal.returns
returns c = replay_recorded
