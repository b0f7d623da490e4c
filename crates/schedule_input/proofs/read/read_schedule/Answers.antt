use Rattle.std.proofs.Common.{arith}
use Rattle.std.specs.Prelude.{OnOk, Result, Ok, Err}
use Rattle.std.proofs.lemmas.Result.{err_from_is_err_and, IfErr-weaker}
use Rattle.schedule_input.proofs.Cutting.{cut_off, next_failed}
use Rattle.schedule_input.proofs.Parts.{at_end, reads_as, refuses_later, too_many}
use Rattle.schedule_input.proofs.read.read_schedule.Goals as goal
use Rattle.schedule_input.proofs.LineParts.{ended_left}
use Rattle.schedule_input.proofs.LineCutting.{nothing_pending}

-- what holds in any case holds on success
anyway : {T E : Type 0} {P : Type 0} (r : Result T E) → P → OnOk r P
anyway (Ok x) p = p
anyway (Err e) p = tt

pub returns-then-not-branch-clause-bad : goal.returns-then-not-branch-clause-bad
returns-then-not-branch-clause-bad g c = reads_as _ _ _ c.loop-turn.reading _ c.loop-turn.invariant.reads (too_many _ c.loop-turn.reading (omega (arith, c.loop-turn.invariant.count)) (c.in_ok-is_end.ensures.more c.if-not-branch.true))

pub returns-clause-end : goal.returns-clause-end
returns-clause-end g c = anyway c.end_of-2.result (ended_left c.is_end.new.self.pending.items _ (c.in_ok-is_end.ensures.end c.if-not-branch.false))

pub returns-clause-bad : goal.returns-clause-bad
returns-clause-bad g c = IfErr-weaker c.end_of-2.result _ _ (λ e refuses. refuses_later _ _ _ c.loop-turn.reading e c.loop-turn.invariant.reads (refuses _ (at_end _ _ c.loop-turn.reading c.is_end.ensures.kept (c.in_ok-is_end.ensures.end c.if-not-branch.false)))) c.end_of-2.ensures.bad

pub returns-in_err-is_end-clause-cut : goal.returns-in_err-is_end-clause-cut
returns-in_err-is_end-clause-cut g c =
    let exit = err_from_is_err_and c.from_residual-in_err-is_end.result c.from_residual-in_err-is_end.ensures.1 in
    rw (exit.1, exit.2) (λ is.
    let none = c.in_err-is_end.ensures.undecided (next_failed c.in_err-is_end.field-0.0 is) in
    cut_off _ _ _ _ c.is_end.new.self.pending.items c.loop-turn.reading c.loop-turn.invariant.taken c.is_end.ensures.kept (nothing_pending c.is_end.new.self.pending.items none) (omega (arith, c.loop-turn.invariant.count)) (λ e. none))
