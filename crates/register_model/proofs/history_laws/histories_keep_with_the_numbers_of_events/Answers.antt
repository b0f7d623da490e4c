use Rattle.register_model.proofs.Numbered.{numbered_legal}
use Rattle.register_model.proofs.history_laws.histories_keep_with_the_numbers_of_events.Goals as goal

pub returns : goal.returns
returns c = λ number most calls answers key order rises legal. numbered_legal number calls answers most key order rises legal
