use Rattle.role_laws.proofs.Views.{suffice}
use Rattle.role_laws.proofs.laws.full_views_suffice.Goals as goal

pub returns : goal.returns
returns c = suffice
