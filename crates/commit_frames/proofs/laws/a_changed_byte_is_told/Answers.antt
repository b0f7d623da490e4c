use Rattle.commit_frames.proofs.Changed.{changed_byte}
use Rattle.commit_frames.proofs.laws.a_changed_byte_is_told.Goals as goal

pub returns : goal.returns
returns c = changed_byte
