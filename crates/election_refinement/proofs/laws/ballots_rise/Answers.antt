use Rattle.world_spec.specs.Lines.{applied, run_of_schedule}
use Rattle.election_refinement.proofs.Consequences.{rises}
use Rattle.election_refinement.proofs.Openings.{schedule_refines, event_refines}
use Rattle.election_refinement.proofs.laws.ballots_rise.Goals as goal

pub returns : goal.returns
returns c = λ form peers view events event few is_view may next.
    let h = schedule_refines view form peers events few is_view may in
    let w = run_of_schedule form peers view events in
    rises view h.steps w (applied event w) h.refinement (event_refines view h.steps peers event w few next h.refinement)
