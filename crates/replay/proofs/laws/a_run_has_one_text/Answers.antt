use Rattle.replay.proofs.Texts.{one_text}
use Rattle.replay.proofs.laws.a_run_has_one_text.Goals as goal

pub returns : goal.returns
returns c = one_text
