use Rattle.cluster.proofs.Recorded.{keeps_script}
use Rattle.cluster.proofs.laws.a_recording_keeps_the_script.Goals as goal

pub returns : goal.returns
returns c = keeps_script
