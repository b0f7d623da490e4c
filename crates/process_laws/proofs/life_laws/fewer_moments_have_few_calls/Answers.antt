use Rattle.process_laws.proofs.Few.{few_moments}
use Rattle.process_laws.proofs.life_laws.fewer_moments_have_few_calls.Goals as goal

pub returns : goal.returns
returns c = few_moments
