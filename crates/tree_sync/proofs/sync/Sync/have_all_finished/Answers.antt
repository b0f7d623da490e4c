use Rattle.std.proofs.Common.{rules}
use Rattle.quorums.proofs.Memberships.{all_is}
use Rattle.tree_sync.proofs.sync.Sync.have_all_finished.Goals as goal

pub returns : goal.returns
returns c = all_is _ c.args.self.now.view _ (search rules)
