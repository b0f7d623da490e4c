use Rattle.std.proofs.Common.{subst}
use Rattle.step_plans.proofs.Parts.{did_after}
use Rattle.phase_rows.specs.declared.phase.Then.TheVariants as thens
use Rattle.peer_spec.specs.Drives.{row_done, after_put, put_done}
use Rattle.peer_machine.specs.Outcomes.{Acts, spot}
use Rattle.peer_machine.proofs.machine.Machine.write_put.Goals as goal

pub returns-in-Ok-clause-acts : goal.returns-in-Ok-clause-acts
returns-in-Ok-clause-acts g c =
    did_after g.S.Store.does g.S.Store.refuses (put_done thens.Put c.args.me c.args.from c.args.ballot c.args.object.now c.args.row) (row_done c.args.me (after_put c.args.from c.args.ballot c.args.row c.in-Ok.seen))
    (spot c.args.self.now c.args.hasher.now c.args.out.now) (spot c.written.new.self c.written.new.hasher c.args.out.now) (spot c.row_done.new.self c.row_done.new.hasher c.row_done.new.out) c.row_done.result
    (λ next e end ls h. c.in-Ok.ensures (λ seen y p. row_done c.args.me (after_put c.args.from c.args.ballot c.args.row seen) y p next) e end ls h)
    (subst (λ k. Acts g.S.Store.does g.S.Store.refuses (row_done c.args.me k) c.written.new.self c.written.new.hasher c.args.out.now c.row_done.result c.row_done.new.self c.row_done.new.hasher c.row_done.new.out)
    c.after_put.ensures c.row_done.ensures.acts)

pub returns-in-Err-clause-acts : goal.returns-in-Err-clause-acts
returns-in-Err-clause-acts g c = λ next. c.in-Err.ensures (λ seen y p. row_done c.args.me (after_put c.args.from c.args.ballot c.args.row seen) y p next)
