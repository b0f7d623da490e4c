use Rattle.std.proofs.Common.{arith, length-set}
use Rattle.std.proofs.lemmas.Result.{err_from_is_err_and}
use Rattle.fields.proofs.MemberLoop.{goes_on, stops, is_done}
use Rattle.fields.proofs.views.fill_members.Goals as goal

pub returns-in_err-member-clause-exact : goal.returns-in_err-member-clause-exact
returns-in_err-member-clause-exact c =
    let p = err_from_is_err_and c.from_residual.result c.from_residual.ensures.1 in
    rw (p.1, p.2) (stops c.loop-i.members c.loop-i.i c.loop-i.low c.loop-i.place c.args.bytes.now _ _ (omega arith) c.in_err-member.ensures.exact c.loop-i.invariant.read)

pub loop-i-preserved : goal.loop-i-preserved
loop-i-preserved c = record {
  within = c.in_ok-member.ensures.within;
  read = rw length-set (goes_on c.loop-i.members c.loop-i.i c.loop-i.low c.in_ok-member.member c.loop-i.place c.in_ok-member.after c.args.bytes.now _ (omega arith) c.in_ok-member.ensures.exact c.loop-i.invariant.read);
}

pub returns-clause-exact : goal.returns-clause-exact
returns-clause-exact c = is_done c.loop-i.members c.loop-i.i c.loop-i.low c.loop-i.place c.args.bytes.now _ (omega arith) c.loop-i.invariant.read
