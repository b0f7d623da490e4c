use Rattle.world_spec.specs.Lines.{run_of_schedule}
use Rattle.election_refinement.proofs.Consequences.{one_leads}
use Rattle.election_refinement.proofs.Openings.{schedule_refines}
use Rattle.election_refinement.proofs.laws.epochs_have_one_leader.Goals as goal

pub returns : goal.returns
returns c = λ form peers view events few is_view may. let h = schedule_refines view form peers events few is_view may in one_leads view h.steps (run_of_schedule form peers view events) h.refinement
