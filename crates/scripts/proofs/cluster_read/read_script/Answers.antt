use Rattle.std.proofs.Common.{◌≡◌, arith, [], length}
use Rattle.std.specs.Prelude.{OnOk, Result, Ok, Err}
use Rattle.std.proofs.lemmas.Result.{err_from_is_err_and}
use Rattle.schedule_text.specs.declared.error.ScheduleError.TheVariants.{Lines}
use Rattle.schedule_input.proofs.Counting.{cut_short, taken_last}
use Rattle.schedule_input.proofs.LineCutting.{nothing_pending}
use Rattle.schedule_input.proofs.LineParts.{reads_as, too_many}
use Rattle.scripts.specs.Scripts.{ended, next_line}
use Rattle.scripts.proofs.ClusterRefusing.{last_line, last_rest, next_failed}
use Rattle.scripts.proofs.cluster_read.read_script.Goals as goal

-- what holds in any case holds on success
anyway : {T E : Type 0} {P : Type 0} (r : Result T E) → P → OnOk r P
anyway (Ok x) p = p
anyway (Err e) p = tt

pub returns-then-not-branch-clause-bad : goal.returns-then-not-branch-clause-bad
returns-then-not-branch-clause-bad g c =
    let full : length c.loop-turn.reading.lines.items ≡ 200000 = omega (arith, c.loop-turn.invariant.count) in
    reads_as (next_line c.args.peers) ended _ _ _ c.loop-turn.reading.lines.items _ c.loop-turn.invariant.reads (too_many (next_line c.args.peers) ended _ c.loop-turn.reading.lines.items Lines (last_line c.args.peers c.loop-turn.reading.lines.items full) (last_rest c.loop-turn.reading.lines.items full) (c.in_ok-is_end.ensures.more c.if-not-branch.true))

pub returns-in_err-is_end-clause-cut : goal.returns-in_err-is_end-clause-cut
returns-in_err-is_end-clause-cut g c =
    let exit = err_from_is_err_and c.from_residual-in_err-is_end.result c.from_residual-in_err-is_end.ensures.1 in
    rw (exit.1, exit.2) (λ is.
    let none = c.in_err-is_end.ensures.undecided (next_failed c.in_err-is_end.field-0.0 is) in
    cut_short (next_line c.args.peers) ended [] length _ _ _ _ c.is_end.new.self.pending.items c.loop-turn.reading.lines.items c.loop-turn.invariant.taken c.is_end.ensures.kept (nothing_pending c.is_end.new.self.pending.items none) (omega (arith, c.loop-turn.invariant.count)) (λ e. none))

pub returns-in_err-is_end-clause-taken : goal.returns-in_err-is_end-clause-taken
returns-in_err-is_end-clause-taken g c = taken_last (next_line c.args.peers) ended [] length _ _ _ _ c.is_end.new.self.pending.items c.loop-turn.reading.lines.items c.is_end.ensures.kept c.is_end.ensures.few (omega (arith, c.loop-turn.invariant.count)) c.loop-turn.invariant.taken

pub returns-then-not-branch-clause-taken : goal.returns-then-not-branch-clause-taken
returns-then-not-branch-clause-taken g c = taken_last (next_line c.args.peers) ended [] length _ _ _ _ c.is_end.new.self.pending.items c.loop-turn.reading.lines.items c.is_end.ensures.kept c.is_end.ensures.few (omega (arith, c.loop-turn.invariant.count)) c.loop-turn.invariant.taken

pub returns-clause-taken : goal.returns-clause-taken
returns-clause-taken g c = taken_last (next_line c.args.peers) ended [] length _ _ _ _ c.is_end.new.self.pending.items c.loop-turn.reading.lines.items c.is_end.ensures.kept c.is_end.ensures.few (omega (arith, c.loop-turn.invariant.count)) c.loop-turn.invariant.taken
