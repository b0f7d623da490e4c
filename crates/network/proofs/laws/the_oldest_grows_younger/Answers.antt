use Rattle.network.proofs.MailLaws.{clear_past_oldest, clear_posted, clear_settled, clear_lost, oldest_is_beyond}
use Rattle.network.proofs.laws.the_oldest_grows_younger.Goals as goal

pub returns : goal.returns
returns c = record { oldest = clear_past_oldest; posted = clear_posted; settled = clear_settled; lost = clear_lost; beyond = oldest_is_beyond }
