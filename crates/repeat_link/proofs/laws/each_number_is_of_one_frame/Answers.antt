use Rattle.repeat_link.proofs.Going.{pushed_before, one_frame_each}
use Rattle.repeat_link.proofs.laws.each_number_is_of_one_frame.Goals as goal

pub returns-clause-pushed : goal.returns-clause-pushed
returns-clause-pushed c = pushed_before

pub returns-clause-distinct : goal.returns-clause-distinct
returns-clause-distinct c = one_frame_each 1
