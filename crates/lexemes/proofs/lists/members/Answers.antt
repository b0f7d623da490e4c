use Rattle.std.proofs.Common.{◌≤◌, sym, ◌∙◌, arith}
use Rattle.lexemes.proofs.Ascending.{member_bound, member_step, member_refused}
use Rattle.lexemes.proofs.lists.members.Goals as goal

pub returns-in_default : goal.returns-in_default
returns-in_default c =
    sym c.loop-word.invariant.2
    ∙ member_refused c.loop-word.members.items c.loop-word.low c.args.peers c.args.words.now c.loop-word.word-index _ c.loop-word-test.true (rw c.from.ensures at (sym c.in_default.ensures))

pub loop-word-preserved : goal.loop-word-preserved
loop-word-preserved c =
    let read = rw c.from.ensures at (sym c.in-Some.ensures) in
    let most : c.in-Some.member ≤ c.args.peers = member_bound c.loop-word.low c.args.peers c.in-Some.member c.args.words.now c.loop-word.word-index _ (omega arith) read in
    let next = member_step c.loop-word.members.items c.loop-word.low c.args.peers c.in-Some.member c.args.words.now c.loop-word.word-index _ c.loop-word-test.true read in
    (omega arith, omega arith, rw c.in_ok-push.ensures.items (sym next ∙ c.loop-word.invariant.2))
