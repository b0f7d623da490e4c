use Rattle.std.proofs.Common.{arith, rules, ◌≡◌, ◌∙◌, ◌≤◌, Some, [], length, sym, slice_get}
use Rattle.std.proofs.lemmas.Grind.{common_steps}
use Rattle.std.proofs.lemmas.List.{length-map}
use Rattle.std.proofs.lemmas.Option.{slice_get_read}
use Rattle.world_spec.proofs.Taken.{hashed_none}
use Rattle.world_spec.specs.Lines.{applied, run_of_schedule}
use Rattle.world_spec.specs.Runs.{opening_run}
use Rattle.world_model.specs.Peers.{node_of}
use Rattle.world_model.specs.Worlds.{run_of}
use Rattle.world_model.proofs.Events.{running_first, running_next, running_longer, running_last, opening_longer, stands_at}
use Rattle.world_model.proofs.Reached.{cut_off_refuses, refused_further, led_to}
use Rattle.chart.specs.Lines.{run_lines}
use Rattle.chart.proofs.Drawn.{drawn_first, drawn_next, drawn_last}
use Rattle.chart.proofs.Refused.{why_refused}
use Rattle.chart.proofs.running.run_lines.Goals as goal

pub returns-in_err-world-clause-error : goal.returns-in_err-world-clause-error
returns-in_err-world-clause-error g c =
    let opening = opening_run c.args.schedule.now.form c.args.schedule.now.peers c.args.schedule.now.view in
    let whole = run_of_schedule c.args.schedule.now.form c.args.schedule.now.peers c.args.schedule.now.view c.args.schedule.now.events in
    why_refused _ whole c.from_residual.result opening _
    (refused_further [] opening whole _ _ _ c.in_err-world.field-0.0 (hashed_none _) (opening_longer c.args.schedule.now.form c.args.schedule.now.peers c.args.schedule.now.view c.args.schedule.now.events)
    (cut_off_refuses _ opening _ c.in_err-world.field-0.0 c.in_err-world.ensures.error) opening c.from_residual.result _ c.from_residual.ensures.1 (λ d h. h))

pub loop-place-init : goal.loop-place-init
loop-place-init g c = (
  running_first c.args.schedule.now.form c.args.schedule.now.peers c.args.schedule.now.view c.args.schedule.now.events _ (run_of c.in_ok-world.world) _ c.in_ok-world.ensures.ok c.in_ok-world.ensures.hashed,
  rw c.new-lines.ensures (drawn_first c.args.schedule.now.events _ (run_of c.in_ok-world.world) c.in_ok-world.ensures.ok),
)

pub draw-requires : goal.draw-requires
draw-requires g c =
    let here : slice_get c.args.schedule.now.events c.loop-place.place ≡ Some c.index-events-place.result = grind (arith, common_steps, slice_get_read, c.as_slice-events.ensures) in
    (search rules, rw (sym (length-map c.loop-place.world.peers.items node_of) ∙ c.loop-place.invariant.0.many) (stands_at c.args.schedule.now.peers c.args.schedule.now.events c.loop-place.place c.index-events-place.result c.requires.events here))

pub returns-in_err-draw-clause-error : goal.returns-in_err-draw-clause-error
returns-in_err-draw-clause-error g c =
    let here : slice_get c.args.schedule.now.events c.loop-place.place ≡ Some c.index-events-place.result = grind (arith, common_steps, slice_get_read, c.as_slice-events.ensures) in
    let whole = run_of_schedule c.args.schedule.now.form c.args.schedule.now.peers c.args.schedule.now.view c.args.schedule.now.events in
    let next = applied c.index-events-place.result (run_of c.loop-place.world) in
    why_refused _ whole c.from_residual-in_err-draw.result next _
    (refused_further c.loop-place.invariant.0.strings next whole _ _ _ c.in_err-draw.field-0.0 c.loop-place.invariant.0.has
    (running_longer c.args.schedule.now.form c.args.schedule.now.peers c.args.schedule.now.view c.args.schedule.now.events c.loop-place.place _ (run_of c.loop-place.world) _ c.index-events-place.result here c.loop-place.invariant.0)
    c.in_err-draw.ensures.reaches next c.from_residual-in_err-draw.result _ c.from_residual-in_err-draw.ensures.1 (λ d h. h))

pub loop-place-preserved : goal.loop-place-preserved
loop-place-preserved g c =
    let here : slice_get c.args.schedule.now.events c.loop-place.place ≡ Some c.index-events-place.result = grind (arith, common_steps, slice_get_read, c.as_slice-events.ensures) in (
      running_next c.args.schedule.now.form c.args.schedule.now.peers c.args.schedule.now.view c.args.schedule.now.events c.loop-place.place _ (run_of c.loop-place.world) _ c.index-events-place.result here c.loop-place.invariant.0
          (run_of c.draw.new.world) _ c.in_ok-draw.ensures.reaches.0 c.in_ok-draw.ensures.reaches.2 c.draw.new.world.within,
      drawn_next c.args.schedule.now.events c.loop-place.place c.index-events-place.result c.loop-place.lines c.event.new.self c.draw.new.lines (run_lines c.args.schedule.now) (run_of c.loop-place.world) (run_of c.draw.new.world) here c.loop-place.invariant.1
          c.in_ok-event.ensures c.in_ok-draw.ensures.lines c.in_ok-draw.ensures.reaches.0,
    )

pub returns-clause-lines : goal.returns-clause-lines
returns-clause-lines g c =
    let past : length c.args.schedule.now.events ≤ c.loop-place.place = grind (arith, common_steps, c.loop-place-test.false, c.as_slice-events.ensures) in
    drawn_last c.args.schedule.now.events c.loop-place.place c.loop-place.lines c.add_waiting.new.lines (run_lines c.args.schedule.now) (run_of c.loop-place.world) past c.loop-place.invariant.1 c.in_ok-add_waiting.ensures

pub returns-clause-within : goal.returns-clause-within
returns-clause-within g c =
    let past : length c.args.schedule.now.events ≤ c.loop-place.place = grind (arith, common_steps, c.loop-place-test.false, c.as_slice-events.ensures) in
    let is = running_last c.args.schedule.now.form c.args.schedule.now.peers c.args.schedule.now.view c.args.schedule.now.events c.loop-place.place _ (run_of c.loop-place.world) _ past c.loop-place.invariant.0 in
    (led_to c.loop-place.invariant.0.strings c.loop-place.world (run_of_schedule c.args.schedule.now.form c.args.schedule.now.peers c.args.schedule.now.view c.args.schedule.now.events) _ _ is c.loop-place.world.within c.loop-place.invariant.0.has).1
