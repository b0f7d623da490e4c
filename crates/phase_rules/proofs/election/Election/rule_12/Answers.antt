use Rattle.std.proofs.Common.{◌≡◌, true, refl, sym}
use Rattle.phase_rows.specs.Orders.{is_same, is_newer}
use Rattle.phase_rules.proofs.election.Election.rule_12.Goals as goal

pub returns-then-is_newer : goal.returns-then-is_newer
returns-then-is_newer c =
    let same : is_same c.args.ballot c.args.fact.ballot ≡ true = sym c.if-is_same.ensures in
    let newer : is_newer c.args.promised c.in-Preparing.base ≡ true = sym c.if-is_newer.ensures in
    rw (c.in-Preparing.is, same, newer, c.send.ensures, c.others_outside-to.ensures, c.with_members.ensures, c.insert.ensures.set) refl
