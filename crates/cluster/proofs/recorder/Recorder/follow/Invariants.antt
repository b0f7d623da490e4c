use Rattle.std.proofs.Common.{◌≡◌}
use Rattle.std.specs.Vec.Iter.{into_iter_items}
use Rattle.world_model.specs.WorldSpec.{account}
use Rattle.cluster.specs.Recorders.{IsInStep, mail_in}
use Rattle.cluster.proofs.Lines.{Underway}
use Rattle.cluster.proofs.recorder.Recorder.follow.Given as goal

abbrev pub invariant-loop-line : goal.invariant-loop-line
invariant-loop-line g l = record {
  step : IsInStep l.recorder (mail_in l.recorder);
  peers : l.recorder.schedule.peers ≡ l.words.peers;
  under : Underway g.L.Link.sent g.L.Link.given g.L.Link.fault_count l.words (account g.H.Hasher16.kept g.H.Hasher16.clashes g.H.Hasher16.fulls l.fn.hasher) l.fn.link l.fn.script (into_iter_items l.line-iterator) l.recorder l.link (account g.H.Hasher16.kept g.H.Hasher16.clashes g.H.Hasher16.fulls l.hasher);
}
