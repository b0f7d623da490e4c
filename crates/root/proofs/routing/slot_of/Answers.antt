use Rattle.world_spec.specs.Held.{account}
use Rattle.replay.proofs.WorldModel.{clashed_one, filled_one}
use Rattle.root.proofs.routing.slot_of.Goals as goal

pub returns-in-Err-Clash-clause-error : goal.returns-in-Err-Clash-clause-error
returns-in-Err-Clash-clause-error g c = let a = rw (c.in-Err-Clash.field-0-is, c.bytes.ensures.bytes) at c.in-Err-Clash.ensures.admits in rw c.new-in-Err-Clash.ensures (rw c.new.ensures (clashed_one _ _ _ (account g.H.Hasher16.kept g.H.Hasher16.clashes g.H.Hasher16.fulls c.args.hasher.now) (account g.H.Hasher16.kept g.H.Hasher16.clashes g.H.Hasher16.fulls c.digest.new.self) a.1.2 a.0 a.1.0 a.1.1 a.1.3))

pub returns-in-Err-BookFull-clause-error : goal.returns-in-Err-BookFull-clause-error
returns-in-Err-BookFull-clause-error g c = let a = rw (c.in-Err-BookFull.field-0-is, c.bytes.ensures.bytes) at c.in-Err-BookFull.ensures.admits in filled_one _ _ (account g.H.Hasher16.kept g.H.Hasher16.clashes g.H.Hasher16.fulls c.args.hasher.now) (account g.H.Hasher16.kept g.H.Hasher16.clashes g.H.Hasher16.fulls c.digest.new.self) a.0 a.1.0 a.1.2 a.1.3
