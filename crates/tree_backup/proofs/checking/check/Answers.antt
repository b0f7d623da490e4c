use Rattle.std.proofs.Common.{rules}
use Rattle.tree_backup.specs.Items.{AreItems}
use Rattle.tree_backup.specs.Checks.{Passes, check_of, checked_strings}
use Rattle.tree_backup.specs.Hashed.{Hashed}
use Rattle.tree_backup.specs.Readings.{backup_of}
use Rattle.tree_backup.proofs.Judged.{unread, was_read, only, found_of, map_of, above_of, keys_of}
use Rattle.tree_backup.proofs.Reasons.{of_check}
use Rattle.tree_backup.proofs.Strings.{unread_hashed, read_hashed, passed_on}
use Rattle.tree_backup.proofs.checking.check.Goals as goal

pub judge-requires-clause-items : goal.judge-requires-clause-items
judge-requires-clause-items g c = let items : AreItems c.in_ok-backup.backup.items = c.in_ok-backup.ensures.found.0.items in search rules

pub returns-in_err-backup-clause-exact : goal.returns-in_err-backup-clause-exact
returns-in_err-backup-clause-exact g c = passed_on c.from_residual.result c.in_err-backup.field-0.0 _ (λ r. Passes r (check_of c.args.bytes.now)) c.from_residual.ensures.0 c.from_residual.ensures.1 (λ d h. h) (unread c.in_err-backup.field-0.0 (backup_of c.args.bytes.now) c.in_err-backup.ensures.exact)

pub returns-in_err-backup-clause-only : goal.returns-in_err-backup-clause-only
returns-in_err-backup-clause-only g c = λ items. only c.from_residual.result c.args.bytes.now items (passed_on c.from_residual.result c.in_err-backup.field-0.0 _ (λ r. Passes r (check_of c.args.bytes.now)) c.from_residual.ensures.0 c.from_residual.ensures.1 (λ d h. h) (unread c.in_err-backup.field-0.0 (backup_of c.args.bytes.now) c.in_err-backup.ensures.exact))

pub returns-in_err-backup-clause-hashed : goal.returns-in_err-backup-clause-hashed
returns-in_err-backup-clause-hashed g c = passed_on c.from_residual.result c.in_err-backup.field-0.0 _ (λ r. Hashed g.H.Hasher16.kept g.H.Hasher16.clashes g.H.Hasher16.fulls (checked_strings c.args.bytes.now) c.args.hasher.now r c.args.hasher.now) c.from_residual.ensures.0 c.from_residual.ensures.1 (λ d h. h) (unread_hashed g.H.Hasher16.kept g.H.Hasher16.clashes g.H.Hasher16.fulls c.args.bytes.now c.args.hasher.now c.in_err-backup.field-0.0 c.in_err-backup.ensures.exact)

pub returns-in_err-backup-clause-causes : goal.returns-in_err-backup-clause-causes
returns-in_err-backup-clause-causes g c = of_check c.from_residual.result c.args.bytes.now (passed_on c.from_residual.result c.in_err-backup.field-0.0 _ (λ r. Passes r (check_of c.args.bytes.now)) c.from_residual.ensures.0 c.from_residual.ensures.1 (λ d h. h) (unread c.in_err-backup.field-0.0 (backup_of c.args.bytes.now) c.in_err-backup.ensures.exact))

pub returns-clause-found : goal.returns-clause-found
returns-clause-found g c = found_of c.args.bytes.now c.in_ok-backup.backup c.judge.result c.in_ok-backup.ensures.found.0 c.in_ok-backup.ensures.found.1 c.judge.ensures.exact

pub returns-clause-exact : goal.returns-clause-exact
returns-clause-exact g c = was_read c.judge.result c.in_ok-backup.backup (backup_of c.args.bytes.now) c.in_ok-backup.ensures.exact c.judge.ensures.exact

pub returns-clause-only : goal.returns-clause-only
returns-clause-only g c = λ items. only c.judge.result c.args.bytes.now items (was_read c.judge.result c.in_ok-backup.backup (backup_of c.args.bytes.now) c.in_ok-backup.ensures.exact c.judge.ensures.exact)

pub returns-clause-hashed : goal.returns-clause-hashed
returns-clause-hashed g c = read_hashed g.H.Hasher16.kept g.H.Hasher16.clashes g.H.Hasher16.fulls c.args.bytes.now c.in_ok-backup.backup c.args.hasher.now c.judge.new.hasher c.judge.result c.in_ok-backup.ensures.exact c.judge.ensures.hashed

pub returns-clause-causes : goal.returns-clause-causes
returns-clause-causes g c = of_check c.judge.result c.args.bytes.now (was_read c.judge.result c.in_ok-backup.backup (backup_of c.args.bytes.now) c.in_ok-backup.ensures.exact c.judge.ensures.exact)

pub returns-clause-map : goal.returns-clause-map
returns-clause-map g c = map_of c.args.bytes.now c.in_ok-backup.backup c.judge.result c.in_ok-backup.ensures.found.0 c.in_ok-backup.ensures.found.1 c.judge.ensures.exact

pub returns-clause-entries : goal.returns-clause-entries
returns-clause-entries g c = above_of c.args.bytes.now c.in_ok-backup.backup c.judge.result c.in_ok-backup.ensures.found.0 c.in_ok-backup.ensures.found.1 c.judge.ensures.exact

pub returns-clause-objects : goal.returns-clause-objects
returns-clause-objects g c = keys_of c.args.bytes.now c.in_ok-backup.backup c.judge.result c.in_ok-backup.ensures.found.0 c.in_ok-backup.ensures.found.1 c.judge.ensures.exact
