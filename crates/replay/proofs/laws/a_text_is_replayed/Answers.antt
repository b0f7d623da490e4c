use Rattle.replay.proofs.Texts.{text_replayed}
use Rattle.replay.proofs.laws.a_text_is_replayed.Goals as goal

pub returns : goal.returns
returns c = text_replayed
