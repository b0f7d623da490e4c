use Rattle.std.proofs.Common.{rules}
use Rattle.ensemble.proofs.Serving.{none_given}
use Rattle.ensemble.specs.Arguments.{words_given}
use Rattle.ensemble.proofs.system.job_of.Goals as goal

pub returns-in-Err-Usage : goal.returns-in-Err-Usage
returns-in-Err-Usage c = none_given (words_given c.args.all.now) _ (search rules) (rw c.in-Err-Usage.field-0-is at c.in-Err-Usage.ensures)
