use Rattle.election_refinement.proofs.Consequences.{shared}
use Rattle.election_refinement.proofs.laws.lists_share_a_view.Goals as goal

pub returns : goal.returns
returns c = shared
