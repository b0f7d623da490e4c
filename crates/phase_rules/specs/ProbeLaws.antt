-- The laws of the rules of probing.
use Rattle.std.specs.Prelude.{◌≤◌}
use Rattle.phase_rows.specs.StoredFormats.{Fact, IsNewer}
use Rattle.phase_rules.specs.declared.probing.Probing.{Probing}

-- the best fact is no older than before, and the count no less
pub record HasGrown (before now : Probing) : Type 0 where
  pub best : ¬ IsNewer before.best now.best
  pub count : before.count ≤ now.count

-- the best fact is at least as new as this one, and the count at least that of its ballot
pub record HasReckonedWith (now : Probing) (reply : Fact) : Type 0 where
  pub best : ¬ IsNewer reply now.best
  pub count : reply.ballot.count ≤ now.count
