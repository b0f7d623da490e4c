use Rattle.std.proofs.Common.{ℕ, ◌≤◌, length, arith, length-take}
use Rattle.std.proofs.lemmas.Bool.{false≢true}
use Rattle.fields.proofs.ViewLaws.{view_read}
use Rattle.fields.proofs.views.take_view.Goals as goal

pub unreachable-requires : goal.unreachable-requires
unreachable-requires c =
    let some : 1 ≤ length c.fill_members.new.members = omega (arith, length-take {A = ℕ}) in
    let few : length c.fill_members.new.members ≤ 9 = omega (arith, length-take {A = ℕ}) in
    false≢true (c.in-Err.ensures.valid.1 (view_read _ c.args.bytes.now _ c.fill_members.new.members _ (λ i. omega (arith, c.type_inv.bytes i)) c.in_ok-end.ensures.exact some few))
