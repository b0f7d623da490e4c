use Rattle.std.proofs.Common.{◌≡◌, arith}
use Rattle.std.specs.Prelude.{OnOk, Result, Ok, Err}
use Rattle.std.proofs.lemmas.Result.{err_from_is_err_and, IfErr-weaker}
use Rattle.schedule_input.proofs.Counting.{cut_short, taken_last}
use Rattle.schedule_input.proofs.LineCutting.{nothing_pending}
use Rattle.schedule_input.proofs.LineParts.{at_end, ended_left, reads_as, too_many}
use Rattle.scripts.specs.Progress.{Blank, lines_so_far}
use Rattle.scripts.specs.RootReading.{ended, next_line}
use Rattle.schedule_text.specs.declared.error.ScheduleError.TheVariants.{Lines}
use Rattle.scripts.proofs.Numbered.{last_line, last_rest}
use Rattle.schedule_input.proofs.Cutting.{next_failed}
use Rattle.scripts.proofs.RootRefusing.{refuses_later}
use Rattle.scripts.proofs.Scripts.{script_numbered}
use Rattle.scripts.proofs.root_input.read_root_script.Goals as goal

-- what holds in any case holds on success
anyway : {T E : Type 0} {P : Type 0} (r : Result T E) → P → OnOk r P
anyway (Ok x) p = p
anyway (Err e) p = tt

pub returns-then-not-branch-clause-bad : goal.returns-then-not-branch-clause-bad
returns-then-not-branch-clause-bad g c =
    let full : lines_so_far c.loop-turn.reading ≡ 200000 = omega (arith, c.loop-turn.invariant.count) in
    reads_as next_line ended _ _ _ c.loop-turn.reading _ c.loop-turn.invariant.reads (too_many next_line ended _ c.loop-turn.reading Lines (last_line script_numbered c.loop-turn.reading full) (last_rest script_numbered c.loop-turn.reading full) (c.in_ok-is_end.ensures.more c.if-not-branch.true))

pub returns-clause-end : goal.returns-clause-end
returns-clause-end g c = anyway c.end_of-2.result (ended_left c.is_end.new.self.pending.items _ (c.in_ok-is_end.ensures.end c.if-not-branch.false))

pub returns-clause-bad : goal.returns-clause-bad
returns-clause-bad g c = IfErr-weaker c.end_of-2.result _ _ (λ e refuses. refuses_later next_line ended _ _ _ c.loop-turn.reading e c.loop-turn.invariant.reads (refuses _ (at_end next_line ended _ _ c.loop-turn.reading c.is_end.ensures.kept (c.in_ok-is_end.ensures.end c.if-not-branch.false)))) c.end_of-2.ensures.bad

pub returns-in_err-is_end-clause-cut : goal.returns-in_err-is_end-clause-cut
returns-in_err-is_end-clause-cut g c =
    let exit = err_from_is_err_and c.from_residual-in_err-is_end.result c.from_residual-in_err-is_end.ensures.1 in
    rw (exit.1, exit.2) (λ is.
    let none = c.in_err-is_end.ensures.undecided (next_failed c.in_err-is_end.field-0.0 is) in
    cut_short next_line ended Blank lines_so_far _ _ _ _ c.is_end.new.self.pending.items c.loop-turn.reading c.loop-turn.invariant.taken c.is_end.ensures.kept (nothing_pending c.is_end.new.self.pending.items none) (omega (arith, c.loop-turn.invariant.count)) (λ e. none))

pub returns-in_err-is_end-clause-taken : goal.returns-in_err-is_end-clause-taken
returns-in_err-is_end-clause-taken g c = taken_last next_line ended Blank lines_so_far _ _ _ _ c.is_end.new.self.pending.items c.loop-turn.reading c.is_end.ensures.kept c.is_end.ensures.few (omega (arith, c.loop-turn.invariant.count)) c.loop-turn.invariant.taken

pub returns-then-not-branch-clause-taken : goal.returns-then-not-branch-clause-taken
returns-then-not-branch-clause-taken g c = taken_last next_line ended Blank lines_so_far _ _ _ _ c.is_end.new.self.pending.items c.loop-turn.reading c.is_end.ensures.kept c.is_end.ensures.few (omega (arith, c.loop-turn.invariant.count)) c.loop-turn.invariant.taken

pub returns-clause-taken : goal.returns-clause-taken
returns-clause-taken g c = taken_last next_line ended Blank lines_so_far _ _ _ _ c.is_end.new.self.pending.items c.loop-turn.reading c.is_end.ensures.kept c.is_end.ensures.few (omega (arith, c.loop-turn.invariant.count)) c.loop-turn.invariant.taken
