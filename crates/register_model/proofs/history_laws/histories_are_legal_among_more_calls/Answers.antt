use Rattle.register_model.proofs.Parts.{legal_among}
use Rattle.register_model.proofs.history_laws.histories_are_legal_among_more_calls.Goals as goal

pub returns : goal.returns
returns c = λ calls more_calls answers more_answers key order part legal. legal_among calls more_calls answers more_answers key order part legal
