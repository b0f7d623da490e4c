use Rattle.peer_turns.proofs.Coming.{frames_fit}
use Rattle.peer_turns.proofs.spec_laws.taken_frames_may_come.Goals as goal

pub returns : goal.returns
returns c = frames_fit
