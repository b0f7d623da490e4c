use Rattle.std.proofs.Common.{◌<◌, ◌≤◌, length, refl, rules}
use Rattle.ens_base.specs.declared.status.Status.TheVariants as status
use Rattle.backup_job.proofs.backing.print_bytes.Goals as goal

pub returns-then-bytes-gt-MOST_BYTES-clause-prefix : goal.returns-then-bytes-gt-MOST_BYTES-clause-prefix
returns-then-bytes-gt-MOST_BYTES-clause-prefix g c = λ fault.
    let many : 268435456 < length c.args.bytes.now = search rules in
    (status.Limit, _, (many, refl), c.finish.ensures.prefix fault)

pub returns-in-Err-clause-prefix : goal.returns-in-Err-clause-prefix
returns-in-Err-clause-prefix g c = λ fault.
    let few : length c.args.bytes.now ≤ 268435456 = search rules in
    (status.Done, c.args.bytes.now, (refl, few), c.write_all.ensures.prefix)
