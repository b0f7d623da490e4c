use Rattle.std.proofs.Common.{rules, sym, subst}
use Rattle.schedule_generator.proofs.Calls.{generated_valid}
use Rattle.schedule_text.specs.Spelling.{IsSchedule}
use Rattle.ensemble.proofs.generating.summary_ending.Goals as goal

pub summarize-requires : goal.summarize-requires
summarize-requires g c = (search rules, subst IsSchedule (sym c.in_ok-schedule.ensures) (generated_valid c.args.number c.args.calls c.requires))
