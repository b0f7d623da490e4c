use Rattle.std.proofs.Common.{refl}
use Rattle.history_scribe.proofs.Gathered.{begins}
use Rattle.history_scribe.proofs.told.Told.new.Goals as goal

pub returns : goal.returns
returns c = λ notes key. begins _ notes key refl c.new.ensures.empty c.new-2.ensures
