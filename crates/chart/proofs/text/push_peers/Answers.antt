use Rattle.std.proofs.Common.{string_bytes}
use Rattle.chart.proofs.Shown.{peers_next}
use Rattle.chart.proofs.text.push_peers.Goals as goal

pub loop-below-preserved : goal.loop-below-preserved
loop-below-preserved c = peers_next (string_bytes c.loop-below.text) (string_bytes c.push_peer.new.text) c.loop-below.below c.args.peers _ c.loop-below-test.true c.loop-below.invariant c.in_ok-push_peer.ensures
