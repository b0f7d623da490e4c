use Rattle.protocol_laws.proofs.Epochs.{run_lists}
use Rattle.protocol_laws.proofs.elections.lists_share_a_view.Goals as goal

pub returns : goal.returns
returns c = run_lists
