use Rattle.std.specs.Vec.{vec_len}
use Rattle.register_checker.proofs.Runs.{HasBegun, gone_first, gone_next, gone_on, gone_stops, gone_astray, is_empty, is_not_empty}
use Rattle.register_checker.proofs.run.first_astray.Goals as goal

pub loop-place-init : goal.loop-place-init
loop-place-init c = gone_first c.args.calls.now c.args.answers.now c.requires.calls c.args.order.now c.in_ok-walk.walk c.in_ok-walk.ensures.0 c.in_ok-walk.ensures.1

pub returns-in-None-clause-some : goal.returns-in-None-clause-some
returns-in-None-clause-some c =
    gone_astray c.args.calls.now c.args.answers.now c.requires.calls c.args.order.now c.loop-place.place 0 c.loop-place-test.true c.in-None.ensures.none c.loop-place.walk c.loop-place.invariant

pub returns-then-is_empty-clause-some : goal.returns-then-is_empty-clause-some
returns-then-is_empty-clause-some c =
    let calls = c.args.calls.now in
    let answers = c.args.answers.now in
    let order = c.args.order.now in
    let begun : HasBegun calls answers order c.pass.new.self c.loop-place.place = gone_next calls answers c.requires.calls order c.loop-place.place 0 c.in-Some.call.now c.loop-place-test.true c.in-Some.ensures.found.0 c.in-Some.ensures.found.1 c.reply_of-reply.result c.reply_of-reply.ensures.found c.reply_of-reply.ensures.none c.loop-place.walk c.pass.new.self c.in_ok-pass-in-Some.ensures c.loop-place.invariant in
    let v = c.pass.new.self.possible in
    gone_stops calls answers c.requires.calls order c.loop-place.place c.loop-place-test.true c.loop-place.walk c.pass.new.self c.loop-place.invariant begun (is_empty calls answers c.requires.calls order v.items c.is_empty.result (vec_len v) v.ok.0 c.is_empty.ensures c.if-is_empty.true)

pub loop-place-preserved : goal.loop-place-preserved
loop-place-preserved c =
    let calls = c.args.calls.now in
    let answers = c.args.answers.now in
    let order = c.args.order.now in
    let begun : HasBegun calls answers order c.pass.new.self c.loop-place.place = gone_next calls answers c.requires.calls order c.loop-place.place 0 c.in-Some.call.now c.loop-place-test.true c.in-Some.ensures.found.0 c.in-Some.ensures.found.1 c.reply_of-reply.result c.reply_of-reply.ensures.found c.reply_of-reply.ensures.none c.loop-place.walk c.pass.new.self c.in_ok-pass-in-Some.ensures c.loop-place.invariant in
    let v = c.pass.new.self.possible in
    gone_on calls answers c.requires.calls order c.loop-place.place c.pass.new.self begun (is_not_empty calls answers c.requires.calls order v.items c.is_empty.result (vec_len v) v.ok.0 c.is_empty.ensures c.if-is_empty.false)
