use Rattle.commit_frames.proofs.ReadBack.{read_record}
use Rattle.commit_frames.proofs.laws.a_record_is_read_back.Goals as goal

pub returns : goal.returns
returns c = read_record
