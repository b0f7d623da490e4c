use Rattle.world_spec.specs.Held.{account}
use Rattle.world_model.proofs.Hashed.{clashed_one, filled_one}
use Rattle.world_model.proofs.hashing.hash.Goals as goal

pub returns-in-Err-Clash-clause-err : goal.returns-in-Err-Clash-clause-err
returns-in-Err-Clash-clause-err g c = let a = rw c.in-Err-Clash.field-0-is at c.in-Err-Clash.ensures.admits in rw c.new-in-Err-Clash.ensures (rw c.new.ensures (clashed_one _ _ _ (account g.H.Hasher16.kept g.H.Hasher16.clashes g.H.Hasher16.fulls c.args.hasher.now) (account g.H.Hasher16.kept g.H.Hasher16.clashes g.H.Hasher16.fulls c.digest.new.self) a.1.2 a.0 a.1.0 a.1.1 a.1.3))

pub returns-in-Err-BookFull-clause-err : goal.returns-in-Err-BookFull-clause-err
returns-in-Err-BookFull-clause-err g c = let a = rw c.in-Err-BookFull.field-0-is at c.in-Err-BookFull.ensures.admits in filled_one _ _ (account g.H.Hasher16.kept g.H.Hasher16.clashes g.H.Hasher16.fulls c.args.hasher.now) (account g.H.Hasher16.kept g.H.Hasher16.clashes g.H.Hasher16.fulls c.digest.new.self) a.0 a.1.0 a.1.2 a.1.3
