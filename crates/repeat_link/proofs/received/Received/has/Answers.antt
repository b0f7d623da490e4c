use Rattle.std.proofs.Common.{◌≡◌, ◌∙◌, ◌-◌, ◌==◌, false, nat_lt, sym, ap, arith}
use Rattle.std.proofs.lemmas.Bool.Decides.{nat_tests}
use Rattle.std.proofs.lemmas.Nat.Bits.{bit_at_above}
use Rattle.repeat_link.proofs.Windows.{came_below}
use Rattle.repeat_link.proofs.received.Received.has.Goals as goal

pub returns-else-below-lt64 : goal.returns-else-below-lt64
returns-else-below-lt64 c =
    let r = c.args.self in
    let n = c.args.number in
    let none = bit_at_above r.bits 64 (r.greatest - 1 - n) (omega arith) (omega arith) in
    let far : nat_lt (r.greatest - 1 - n) 64 ≡ false = grind (arith, nat_tests) in
    far ∙ sym (came_below r n (omega arith) ∙ ap (λ b. b == 1) none)
