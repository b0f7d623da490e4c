use Rattle.step_plans.proofs.Alone.{posted_alone}
use Rattle.step_plans.proofs.outbox.Outbox.send_to.Goals as goal

pub returns-in-Some-only_member-clause-sends : goal.returns-in-Some-only_member-clause-sends
returns-in-Some-only_member-clause-sends c =
    rw c.in-Some.is (rw c.in-Some-only_member.ensures.some.1 (rw (posted_alone c.in-Some-only_member.peer c.in-Some.message c.in-Some-only_member.ensures.some.0) c.send.ensures.sends))
