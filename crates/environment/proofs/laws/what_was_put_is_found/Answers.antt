use Rattle.environment.proofs.MapLaws.{found_after, others_after}
use Rattle.environment.proofs.laws.what_was_put_is_found.Goals as goal

pub returns-clause-found : goal.returns-clause-found
returns-clause-found c = found_after

pub returns-clause-others : goal.returns-clause-others
returns-clause-others c = others_after
