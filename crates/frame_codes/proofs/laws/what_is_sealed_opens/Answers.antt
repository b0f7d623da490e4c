use Rattle.frame_codes.proofs.Opening.{sealed_of_opened, opened_of_sealed, sent_opens}
use Rattle.frame_codes.proofs.laws.what_is_sealed_opens.Goals as goal

pub returns-clause-exact : goal.returns-clause-exact
returns-clause-exact c k frame bytes = (sealed_of_opened k frame bytes, opened_of_sealed k frame bytes)

pub returns-clause-sent : goal.returns-clause-sent
returns-clause-sent c = sent_opens
