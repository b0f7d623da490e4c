use Rattle.network.proofs.MailLaws.{oldest_waits, clear_before_oldest, clear_without_oldest}
use Rattle.network.proofs.laws.the_oldest_comes_first.Goals as goal

pub returns : goal.returns
returns c = record { waits = oldest_waits; first = clear_before_oldest; none = clear_without_oldest }
