use Rattle.std.proofs.lemmas.Result.{err_from_is_err_and}
use Rattle.network.proofs.Queued.{still_kept, same_mail, posted_mail, posted_kept}
use Rattle.network.proofs.network.Network.send.Goals as goal

pub returns-clause-ok : goal.returns-clause-ok
returns-clause-ok c =
    posted_mail c.self.inside.sent.items c.add_waiting.new.sent.items c.self.inside.waiting.items c.add_waiting.new.waiting.items c.args.frame c.in_ok-add_waiting.ensures.sent c.in_ok-add_waiting.ensures.waiting c.args.self.now c.self.view_is

pub returns-in_err-add_waiting-clause-err : goal.returns-in_err-add_waiting-clause-err
returns-in_err-add_waiting-clause-err c =
    let p = err_from_is_err_and c.from_residual.result c.from_residual.ensures.1 in
    rw p.1 (same_mail c.self.inside.sent.items c.add_waiting.new.sent.items c.self.inside.waiting.items c.add_waiting.new.waiting.items c.args.self.now c.in_err-add_waiting.ensures.same_sent c.in_err-add_waiting.ensures.same_waiting c.self.view_is)

pub invariant_of-self : goal.invariant_of-self
invariant_of-self c =
    still_kept c.self.inside.sent.items c.add_waiting.new.sent.items c.self.inside.waiting.items c.add_waiting.new.waiting.items c.self.inside.lines c.add_waiting.new.lines c.self.inside.bound c.self.inside.first c.in_err-add_waiting.ensures.same_sent c.in_err-add_waiting.ensures.same_waiting c.in_err-add_waiting.ensures.same_lines c.self.invariant

pub invariant_of-self-2 : goal.invariant_of-self-2
invariant_of-self-2 c =
    posted_kept c.self.inside.sent.items c.add_waiting.new.sent.items c.self.inside.waiting.items c.add_waiting.new.waiting.items c.args.frame c.in_ok-add_waiting.ensures.sent c.in_ok-add_waiting.ensures.waiting c.self.inside.lines c.add_waiting.new.lines c.place-place.result c.self.inside.sent.len c.self.inside.bound c.bound_with-bound.result c.self.inside.first c.self.invariant c.requires c.bound_with-bound.ensures.higher c.bound_with-bound.ensures.below c.bound_with-bound.ensures.few c.self.inside.sent.ok.0 c.place-place.ensures c.in_ok-add_waiting.ensures.lines
