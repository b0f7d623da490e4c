use Rattle.std.proofs.Common.{[]}
use Rattle.world_spec.specs.HeldLaws.{held_with}
use Rattle.world_spec.proofs.PeerSpec.{steps_young}
use Rattle.peer_state.specs.Ages.{IsYoung}
use Rattle.world_spec.specs.PeerSpec.{step_of}
use Rattle.world_spec.proofs.Ending.{run_finishes}
use Rattle.world_spec.proofs.laws.steps_end_well.Goals as goal

pub returns : goal.returns
returns c = λ me event x s peer come young none. (run_finishes (λ y out. IsYoung y.phase) (step_of me event x) (held_with s []) [] (steps_young me event x peer come young) none).finished
