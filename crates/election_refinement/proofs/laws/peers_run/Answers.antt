use Rattle.std.proofs.Common.{ℕ, ◌<◌, List, sym, subst}
use Rattle.schedule_text.specs.declared.event.ScheduleEvent.{ScheduleEvent}
use Rattle.schedule_text.specs.declared.form.Form.{Form}
use Rattle.world_spec.specs.Lines.{run_of_schedule}
use Rattle.election_refinement.proofs.Openings.{schedule_refines, spared_runs}
use Rattle.election_refinement.proofs.Sizes.{size, schedule_size, is_keeping, is_running}
use Rattle.election_refinement.specs.Worlds.{ledger_after}
use Rattle.election_refinement.proofs.laws.peers_run.Goals as goal

within : (form : Form) (peers : ℕ) (view : List ℕ) (events : List ScheduleEvent) (place : ℕ) → place < peers → place < size (run_of_schedule form peers view events)
within form peers view events place below = subst (λ n. place < n) (sym (schedule_size form peers view events)) below

pub returns-clause-kept : goal.returns-clause-kept
returns-clause-kept c = λ form peers view events place few is_view may below.
    let h = schedule_refines view form peers events few is_view may in
    is_keeping view (ledger_after view h.steps) (run_of_schedule form peers view events) h.refinement.refines place (within form peers view events place below)

pub returns-clause-spared : goal.returns-clause-spared
returns-clause-spared c = λ form peers view events place few is_view may spare below.
    let h = schedule_refines view form peers events few is_view may in
    is_running view (ledger_after view h.steps) (run_of_schedule form peers view events) h.refinement.refines place (within form peers view events place below)
    (spared_runs view form peers events place few is_view may spare)
