use Rattle.audit.proofs.Printing.{reported}
use Rattle.audit.proofs.job.text_of_report.Goals as goal

pub returns : goal.returns
returns c = reported c.args.recorded.now c.in_ok-report.report c.report_text.result c.in_ok-report.ensures.report c.report_text.ensures.text
