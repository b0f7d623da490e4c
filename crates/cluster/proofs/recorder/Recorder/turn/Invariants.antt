use Rattle.std.proofs.Common.{◌≡◌, ℕ, List, Option, Ok}
use Rattle.cluster.specs.Recordings.{Recording}
use Rattle.ens_base.specs.declared.peer_words.ClusterWords.{ClusterWords}
use Rattle.world_model.specs.WorldSpec.{Account, account}
use Rattle.cluster.specs.Recorders.{Hears, IsInStep, Reached, mail_in}
use Rattle.cluster.proofs.recorder.Recorder.turn.Given as goal

abbrev pub invariant-loop-look : goal.invariant-loop-look
invariant-loop-look g l = record {
  step : IsInStep l.self (mail_in l.self);
  peers : l.self.schedule.peers ≡ l.fn.self.schedule.peers;
  hears : (w : ClusterWords) (first : Account) (a : _) (looks : List (Option (List ℕ))) (r : Recording)
      → Reached g.L.Link.sent g.L.Link.given g.L.Link.fault_count w first a looks r l.fn.self l.fn.link (account g.H.Hasher16.kept g.H.Hasher16.clashes g.H.Hasher16.fulls l.fn.hasher)
      → Hears g.L.Link.sent g.L.Link.given g.L.Link.fault_count w first a l._look looks r l.fn.link (Ok tt) l.self l.link (account g.H.Hasher16.kept g.H.Hasher16.clashes g.H.Hasher16.fulls l.hasher);
}
