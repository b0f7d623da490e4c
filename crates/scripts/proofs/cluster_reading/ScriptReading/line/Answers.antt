use Rattle.std.proofs.Common.{◌≡◌, ◌==◌, length, false, refl, arith}
use Rattle.std.proofs.lemmas.Bool.Decides.{nat_tests}
use Rattle.std.proofs.lemmas.Result.{err_from_is_err_and}
use Rattle.schedule_text.specs.Reading.{most_lines}
use Rattle.scripts.proofs.Taking.{takes_added, takes_refused}
use Rattle.scripts.proofs.cluster_reading.ScriptReading.line.Goals as goal

pub returns-in_err-line-clause-takes : goal.returns-in_err-line-clause-takes
returns-in_err-line-clause-takes c =
    let exit = err_from_is_err_and c.from_residual.result c.from_residual.ensures.1 in
    let count : c.len-lines.result ≡ length c.args.self.now.lines.items = omega (arith, c.len-lines.ensures) in
    let more : (length c.args.self.now.lines.items == most_lines) ≡ false = grind (arith, nat_tests, count, c.if-lines-eq-MAX_LINES.false) in
    rw (exit.1, exit.2) (takes_refused c.args.self.now.peers c.args.self.now.lines.items c.args.bytes.now more c.args.self.now.lines.items c.in_err-line.field-0.0 (rw count at c.in_err-line.ensures) refl)

pub returns-clause-takes : goal.returns-clause-takes
returns-clause-takes c =
    let count : c.len-lines.result ≡ length c.args.self.now.lines.items = omega (arith, c.len-lines.ensures) in
    let more : (length c.args.self.now.lines.items == most_lines) ≡ false = grind (arith, nat_tests, count, c.if-lines-eq-MAX_LINES.false) in
    takes_added c.args.self.now.peers c.args.self.now.lines.items c.args.bytes.now more c.push.new.self.lines.items c.in_ok-line.line c.push.result (rw count at c.in_ok-line.ensures) (rw count at c.push.ensures.adds)
