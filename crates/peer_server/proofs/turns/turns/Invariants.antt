use Rattle.std.proofs.Common.{◌≡◌, ◌≤◌, ◌<◌, List, length}
use Rattle.peer_turns.specs.Turns.{Turn}
use Rattle.peer_server.proofs.Underway.{Underway}
use Rattle.peer_server.specs.Turning.{AreCounted, IsReady}
use Rattle.peer_server.proofs.turns.turns.Given as goal

abbrev pub invariant-loop-made : goal.invariant-loop-made
invariant-loop-made g l = record {
  made : (turns : List Turn) × (length turns ≡ l._made) × Underway g.D.Disk.seen g.D.Disk.may_leave g.D.Disk.moment g.D.Disk.left_since g.D.Disk.fault_count g.L.Link.sent g.L.Link.given g.T.Ticker.coming l.words l.fn.server l.server l.fn.link l.link l.fn.ticker l.ticker turns l.waiting × AreCounted l.words turns l.counts;
  few : l.waiting < 32;
  ready : IsReady l.words l.server;
  later : g.L.Link.fault_count l.fn.link ≤ g.L.Link.fault_count l.link;
}
