use Rattle.std.proofs.Common.{arith, ap, length}
use Rattle.fields.proofs.MemberLoop.{length-members, written_more}
use Rattle.fields.proofs.views.write_view.Goals as goal

pub write_u32-place-requires : goal.write_u32-place-requires
write_u32-place-requires c = omega (arith, length-members c.args.x.now, ap length c.members-members.ensures.members)

pub loop-member-preserved : goal.loop-member-preserved
loop-member-preserved c = record {
  size = omega arith;
  written = written_more _ _ _ c.members-members.result.now _ _ c.loop-member.member-index _ _ (omega arith) c.from.ensures c.loop-member.invariant.written c.write_u32-place.ensures;
}
