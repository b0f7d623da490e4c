use Rattle.std.proofs.Common.{◌∙◌}
use Rattle.tree_backup.specs.Runs.{Behind}
use Rattle.tree_backup.proofs.Outcomes.{not_sound, behind_whole}
use Rattle.tree_backup.proofs.Strings.{passed_on}
use Rattle.tree_backup.proofs.backing.back_up_scan.Goals as goal

pub returns-in_err-entries-clause-did : goal.returns-in_err-entries-clause-did
returns-in_err-entries-clause-did g c = passed_on c.from_residual.result c.in_err-entries.field-0.0 _ (λ r. Behind g.B.Backend.may_answer g.B.Backend.may_refuse g.H.Hasher16.kept g.H.Hasher16.clashes g.H.Hasher16.fulls c.args.found c.args.backend.now c.args.hasher.now r c.args.backend.now c.args.hasher.now) c.from_residual.ensures.0 c.from_residual.ensures.1 (λ d h. h)
    (not_sound g.B.Backend.may_answer g.B.Backend.may_refuse g.H.Hasher16.kept g.H.Hasher16.clashes g.H.Hasher16.fulls c.args.found c.args.backend.now c.args.hasher.now c.in_err-entries.field-0.0 c.in_err-entries.ensures)

pub returns-clause-did : goal.returns-clause-did
returns-clause-did g c = behind_whole g.B.Backend.may_answer g.B.Backend.may_refuse g.H.Hasher16.kept g.H.Hasher16.clashes g.H.Hasher16.fulls c.args.found c.as_slice.result.now c.args.backend.now c.back_up_entries.new.backend c.args.hasher.now c.back_up_entries.new.hasher c.back_up_entries.result c.in_ok-entries.ensures.0 (c.as_slice.ensures ∙ c.in_ok-entries.ensures.1) c.back_up_entries.ensures.did
