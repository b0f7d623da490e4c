use Rattle.std.proofs.Common.{◌≡◌, Result, Err, rules, sym, subst}
use Rattle.synctree.specs.declared.error.TreeError.{TreeError}
use Rattle.backup_job.specs.Backed.{Shapes}
use Rattle.backup_job.proofs.Holding.{reopened}
use Rattle.backup_job.proofs.Shaping.{shapes_err, shapes_ok}
use Rattle.backup_job.proofs.backing.take_shape.Goals as goal

pub returns-in_err-version : goal.returns-in_err-version
returns-in_err-version g c =
    let is : c.from_residual.result ≡ Err c.in_err-version.field-0.0 = search rules in
    subst (λ (r : Result (Unit {0}) TreeError). Shapes g.D.Disk.seen g.D.Disk.fault_count c.args.tree.now c.shape.new.self r) (sym is)
    (shapes_err g.D.Disk.seen g.D.Disk.fault_count c.args.tree.now c.shape.new.self (record {}) c.shape.new.hasher c.in_err-version.field-0.0 c.requires c.in_err-version.ensures.did)

pub returns : goal.returns
returns g c =
    shapes_ok g.D.Disk.seen g.D.Disk.fault_count c.args.tree.now c.shape.new.self c.reopen.new.self (record {}) c.shape.new.hasher c.in_ok-version.version c.reopen.result c.requires c.in_ok-version.ensures.did
    (reopened g.D.Disk.seen g.D.Disk.fault_count c.shape.new.self.store c.reopen.new.self.store c.shape.new.self.top c.reopen.new.self.top c.reopen.result c.reopen.ensures.did) c.reopen.ensures.version_is
