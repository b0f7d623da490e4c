use Rattle.std.specs.BTreeSet.{contains}
use Rattle.std.specs.Ordering.{nat_cmp}
use Rattle.std.proofs.lemmas.Result.{err_from_is_err_and}
use Rattle.scripts.proofs.Admissions.{refused}
use Rattle.scripts.proofs.log.RootLog.push.Goals as goal

pub returns-in_err-admit : goal.returns-in_err-admit
returns-in_err-admit c =
    let exit = err_from_is_err_and c.from_residual.result c.from_residual.ensures.1 in
    rw (exit.1, exit.2) (refused c.args.self.now.events.items (contains nat_cmp c.args.self.now.ids) c.args.self.now.known c.args.event c.id.result c.admit.new.events.items (contains nat_cmp c.admit.new.ids) c.in_err-admit.field-0.0 c.id.ensures c.admit.ensures.events c.in_err-admit.ensures.ids)
