use Rattle.std.proofs.Common.{refl, ◌∙◌}
use Rattle.ens_base.specs.declared.status.Status.TheVariants as Status
use Rattle.ensemble.proofs.generating.print_generated.Goals as goal

pub returns-in_default-clause-prefix : goal.returns-in_default-clause-prefix
returns-in_default-clause-prefix g c = λ fault. (Status.Memory, _, refl, c.finish.ensures.prefix fault)

pub returns-in-Ok-write_all-clause-printed : goal.returns-in-Ok-write_all-clause-printed
returns-in-Ok-write_all-clause-printed g c = λ no. (c.deref.result.now, c.deref.ensures.value ∙ c.in-Ok.ensures, c.in-Ok-write_all.ensures.ok)

pub returns-clause-prefix : goal.returns-clause-prefix
returns-clause-prefix g c = λ fault. (Status.Done, c.deref.result.now, c.deref.ensures.value ∙ c.in-Ok.ensures, c.write_all.ensures.prefix)
