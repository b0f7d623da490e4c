use Rattle.phase_rows.proofs.Filled.{IsFilled}
use Rattle.ens_base.specs.Lists.{is_in}
use Rattle.world_model.proofs.applying.set_of_members.Given as goal

abbrev pub invariant-loop-number : goal.invariant-loop-number
invariant-loop-number l = IsFilled (is_in l.members) l.number l.set
