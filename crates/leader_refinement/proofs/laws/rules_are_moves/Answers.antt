use Rattle.leader_refinement.proofs.Openings.{run_begins}
use Rattle.leader_refinement.proofs.Ticks.{run_ticks}
use Rattle.leader_refinement.proofs.Joins.{run_joins}
use Rattle.leader_refinement.proofs.Starts.{run_starts, run_next}
use Rattle.leader_refinement.proofs.Asking.{run_asks, run_got}
use Rattle.leader_refinement.proofs.Gathering.{run_reads}
use Rattle.leader_refinement.proofs.Writes.{run_writes, run_rewrites}
use Rattle.leader_refinement.proofs.Checks.{run_checks, run_counts}
use Rattle.leader_refinement.proofs.Answers.{run_applies}
use Rattle.leader_refinement.proofs.Puts.{run_goes_in, run_stored, run_acknowledged}
use Rattle.leader_refinement.proofs.laws.rules_are_moves.Goals as goal

pub returns-clause-begins : goal.returns-clause-begins
returns-clause-begins c = run_begins

pub returns-clause-ticks : goal.returns-clause-ticks
returns-clause-ticks c = run_ticks

pub returns-clause-joins : goal.returns-clause-joins
returns-clause-joins c = run_joins

pub returns-clause-starts : goal.returns-clause-starts
returns-clause-starts c = run_starts

pub returns-clause-reads : goal.returns-clause-reads
returns-clause-reads c = run_asks

pub returns-clause-reads_count : goal.returns-clause-reads_count
returns-clause-reads_count c = run_got

pub returns-clause-evaluates : goal.returns-clause-evaluates
returns-clause-evaluates c = run_reads

pub returns-clause-writes : goal.returns-clause-writes
returns-clause-writes c = run_writes

pub returns-clause-rewrites : goal.returns-clause-rewrites
returns-clause-rewrites c = run_rewrites

pub returns-clause-checks : goal.returns-clause-checks
returns-clause-checks c = run_checks

pub returns-clause-checks_count : goal.returns-clause-checks_count
returns-clause-checks_count c = run_counts

pub returns-clause-applies : goal.returns-clause-applies
returns-clause-applies c = run_applies

pub returns-clause-goes_in : goal.returns-clause-goes_in
returns-clause-goes_in c = run_goes_in

pub returns-clause-puts : goal.returns-clause-puts
returns-clause-puts c = run_stored

pub returns-clause-puts_count : goal.returns-clause-puts_count
returns-clause-puts_count c = run_acknowledged

pub returns-clause-next : goal.returns-clause-next
returns-clause-next c = run_next
