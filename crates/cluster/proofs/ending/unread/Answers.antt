use Rattle.std.proofs.Common.{◌∙◌, append_assoc}
use Rattle.ens_base.specs.declared.status.Status.TheVariants as Status
use Rattle.cluster.proofs.Printing.{bad_reports, failed_reports, lines_reports, reports_made}
use Rattle.cluster.proofs.ending.unread.Goals as goal

pub returns-in-Failed : goal.returns-in-Failed
returns-in-Failed c = reports_made c.new.result c.args.error Status.ReadFault _ (failed_reports c.args.error c.in-Failed.is) c.new.ensures

pub returns-in_ok-format-in-Bad : goal.returns-in_ok-format-in-Bad
returns-in_ok-format-in-Bad c = bad_reports c.args.error c.in-Bad.line c.in-Bad.cause _ c.in-Bad.is (c.in_ok-format-in-Bad.ensures.ok ∙ simp append_assoc)

pub returns-in-Lines : goal.returns-in-Lines
returns-in-Lines c = reports_made c.new-in-Lines.result c.args.error Status.Limit _ (lines_reports c.args.error c.in-Lines.is) c.new-in-Lines.ensures
