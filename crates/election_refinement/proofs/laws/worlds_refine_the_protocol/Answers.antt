use Rattle.election_refinement.proofs.Openings.{schedule_refines, event_refines}
use Rattle.election_refinement.proofs.laws.worlds_refine_the_protocol.Goals as goal

pub returns-clause-schedule : goal.returns-clause-schedule
returns-clause-schedule c = λ form peers view. schedule_refines view form peers

pub returns-clause-event : goal.returns-clause-event
returns-clause-event c = event_refines
