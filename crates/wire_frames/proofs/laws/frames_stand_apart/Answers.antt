use Rattle.wire_frames.proofs.FrameLaws.{frames_apart}
use Rattle.wire_frames.proofs.laws.frames_stand_apart.Goals as goal

pub returns : goal.returns
returns c = frames_apart
