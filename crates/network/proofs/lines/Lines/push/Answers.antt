use Rattle.std.proofs.Common.{◌<◌, ◌++◌, ◌∷◌, [], ℕ, List, length, ap, arith, ◌∙◌}
use Rattle.std.proofs.lemmas.Result.{err_from_is_err_and}
use Rattle.network.proofs.Queues.{queue_read, queue_changed, queue_same}
use Rattle.network.proofs.lines.Lines.push.Goals as goal

pub returns-clause-ok : goal.returns-clause-ok
returns-clause-ok c =
    let within : c.args.place < length c.self.inside.lines.items = omega (arith, c.requires, c.self.invariant, c.self.inside.lines.ok.0) in
    let queue = queue_read (λ q. q.items) c.self.inside.lines.items c.args.place c.index_mut.result.now c.args.self.now c.self.view_is within c.index_mut.ensures.value in
    queue_changed (λ q. q.items) c.self.inside.lines.items c.args.place c.push_back.new.self c.args.self.now c.self.view_is within (λ ns. ns ++ c.args.number ∷ []) (c.in_ok-push_back.ensures.items ∙ ap (λ (ns : List ℕ). ns ++ c.args.number ∷ []) queue)

pub returns-in_err-push_back-clause-err : goal.returns-in_err-push_back-clause-err
returns-in_err-push_back-clause-err c =
    let p = err_from_is_err_and c.from_residual.result c.from_residual.ensures.1 in
    let within : c.args.place < length c.self.inside.lines.items = omega (arith, c.requires, c.self.invariant, c.self.inside.lines.ok.0) in
    let queue = queue_read (λ q. q.items) c.self.inside.lines.items c.args.place c.index_mut.result.now c.args.self.now c.self.view_is within c.index_mut.ensures.value in
    rw p.1 (queue_same (λ q. q.items) c.self.inside.lines.items c.args.place c.push_back.new.self c.args.self.now c.self.view_is within (c.in_err-push_back.ensures.items ∙ queue))
