use Rattle.process_laws.proofs.Lone.{lone_sound}
use Rattle.process_laws.proofs.life_laws.a_lone_peer_may_live_twice.Goals as goal

pub returns : goal.returns
returns c = lone_sound
