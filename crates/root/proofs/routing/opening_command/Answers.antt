use Rattle.std.proofs.Common.{◌∙◌}
use Rattle.root.proofs.Own.{never_long}
use Rattle.root.proofs.routing.opening_command.Goals as goal

pub unreachable-requires : goal.unreachable-requires
unreachable-requires c = never_long c.args.view.now c.deref.result.now c.in-Err-Length.field-0 c.in-Err-Length.field-0-0 c.in_ok-bytes.ensures.valid (c.deref.ensures.value ∙ c.in_ok-bytes.ensures.spelled) c.in-Err-Length.field-0-is c.in-Err-Length.ensures.length
