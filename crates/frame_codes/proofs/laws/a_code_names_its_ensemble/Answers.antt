use Rattle.frame_codes.proofs.Names.{apart}
use Rattle.frame_codes.proofs.laws.a_code_names_its_ensemble.Goals as goal

pub returns : goal.returns
returns c = apart
