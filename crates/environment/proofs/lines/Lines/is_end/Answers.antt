use Rattle.std.proofs.Common.{◌≡◌, ◌==◌, false, vec_len, arith}
use Rattle.std.proofs.lemmas.Bool.Decides.{nat_tests}
use Rattle.environment.proofs.Bytes.{some_pending}
use Rattle.environment.proofs.lines.Lines.is_end.Goals as goal

pub returns-then-not-is_empty-clause-more : goal.returns-then-not-is_empty-clause-more
returns-then-not-is_empty-clause-more g c = λ same. some_pending c.args.self.now.pending.items _ (λ none.
    let test : false ≡ (vec_len c.args.self.now.pending == 0) = c.if-not-is_empty.ensures in
    let empty : vec_len c.args.self.now.pending ≡ 0 = omega (arith, none, c.args.self.now.pending.ok) in
    grind (arith, nat_tests, test, empty))
