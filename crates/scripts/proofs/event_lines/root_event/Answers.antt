use Rattle.std.proofs.Common.{Err, sym, ap, ◌∙◌, arith}
use Rattle.lexemes.specs.declared.cause.Cause.{Cause}
use Rattle.scripts.proofs.Lines.{lone_line}
use Rattle.scripts.proofs.event_lines.root_event.Goals as goal

pub returns-in_default : goal.returns-in_default
returns-in_default c = lone_line c.args.peers c.args.line.now (omega arith) c.in_default.ensures.parts ∙ ap (λ (cause : Cause). Err cause) (sym c.lone_cause.ensures)
