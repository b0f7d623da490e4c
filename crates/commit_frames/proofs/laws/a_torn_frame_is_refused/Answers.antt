use Rattle.commit_frames.proofs.Lost.{zeros_same}
use Rattle.commit_frames.proofs.Torn.{whole_or_none}
use Rattle.commit_frames.proofs.laws.a_torn_frame_is_refused.Goals as goal

pub returns-clause-zeros : goal.returns-clause-zeros
returns-clause-zeros c = zeros_same

pub returns-clause-frame : goal.returns-clause-frame
returns-clause-frame c = whole_or_none
