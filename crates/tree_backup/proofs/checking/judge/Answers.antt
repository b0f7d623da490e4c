use Rattle.std.proofs.Common.{◌∙◌, ap}
use Rattle.tree_backup.specs.Checks.{mismatch}
use Rattle.tree_backup.proofs.Judged.{passes_hash, mismatched, all_matching}
use Rattle.tree_backup.proofs.Strings.{judged_err, judged_mismatch, judged_top}
use Rattle.tree_backup.proofs.checking.judge.Goals as goal

pub returns-in-Err-clause-exact : goal.returns-in-Err-clause-exact
returns-in-Err-clause-exact g c = rw c.hash_error.ensures (passes_hash c.in-Err.error _)

pub returns-in-Err-clause-hashed : goal.returns-in-Err-clause-hashed
returns-in-Err-clause-hashed g c = rw c.hash_error.ensures (judged_err g.H.Hasher16.kept g.H.Hasher16.clashes g.H.Hasher16.fulls c.args.backup c.args.hasher.now c.first_mismatch.new.hasher c.in-Err.error (rw c.as_slice.ensures at c.in-Err.ensures.admits))

pub returns-in-Ok-None-clause-exact : goal.returns-in-Ok-None-clause-exact
returns-in-Ok-None-clause-exact g c = all_matching c.judge_top.result c.args.backup ((rw c.in-Ok-None.field-0-is at c.in-Ok-None.ensures.ok) ∙ ap mismatch c.as_slice.ensures) c.judge_top.ensures.exact

pub returns-in-Ok-None-clause-hashed : goal.returns-in-Ok-None-clause-hashed
returns-in-Ok-None-clause-hashed g c = judged_top g.H.Hasher16.kept g.H.Hasher16.clashes g.H.Hasher16.fulls c.args.backup c.args.hasher.now c.first_mismatch.new.hasher c.judge_top.new.hasher c.judge_top.result ((rw c.in-Ok-None.field-0-is at c.in-Ok-None.ensures.ok) ∙ ap mismatch c.as_slice.ensures) (rw c.as_slice.ensures at c.in-Ok-None.ensures.admits) c.judge_top.ensures.hashed

pub returns-in-Ok-Some-clause-exact : goal.returns-in-Ok-Some-clause-exact
returns-in-Ok-Some-clause-exact g c = mismatched c.in-Ok-Some.key c.args.backup ((rw c.in-Ok-Some.field-0-is at c.in-Ok-Some.ensures.ok) ∙ ap mismatch c.as_slice.ensures)

pub returns-in-Ok-Some-clause-hashed : goal.returns-in-Ok-Some-clause-hashed
returns-in-Ok-Some-clause-hashed g c = judged_mismatch g.H.Hasher16.kept g.H.Hasher16.clashes g.H.Hasher16.fulls c.args.backup c.in-Ok-Some.key c.args.hasher.now c.first_mismatch.new.hasher ((rw c.in-Ok-Some.field-0-is at c.in-Ok-Some.ensures.ok) ∙ ap mismatch c.as_slice.ensures) (rw c.as_slice.ensures at c.in-Ok-Some.ensures.admits)
