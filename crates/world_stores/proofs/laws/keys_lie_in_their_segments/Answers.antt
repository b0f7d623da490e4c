use Rattle.world_stores.proofs.Segments.{segment_position, segment_path}
use Rattle.world_stores.proofs.laws.keys_lie_in_their_segments.Goals as goal

pub returns-clause-position : goal.returns-clause-position
returns-clause-position c = segment_position

pub returns-clause-path : goal.returns-clause-path
returns-clause-path c = segment_path
