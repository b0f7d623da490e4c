use Rattle.role_laws.proofs.Tables.{put_found}
use Rattle.role_laws.proofs.leaders.tables_are_lists.Goals as goal

pub returns : goal.returns
returns c = put_found
