use Rattle.std.proofs.Common.{sym, ◌∙◌}
use Rattle.network.specs.Mail.{most_messages}
use Rattle.world_spec.specs.Runs.{delivered, calmed}
use Rattle.world_model.specs.Worlds.{run_of}
use Rattle.world_model.proofs.Loops.{calming_first, calming_next, calming_longer, calming_ends, calming_last}
use Rattle.world_model.proofs.Reached.{refused_further, led_to}
use Rattle.chart.proofs.Calms.{shown_first, shown_next, shown_ends, shown_last}
use Rattle.chart.proofs.drawing.calm.Goals as goal

pub loop-turn-init : goal.loop-turn-init
loop-turn-init g c = (calming_first c.args.peers.now c.args.world.now _, shown_first c.args.peers.now c.args.lines.now (run_of c.args.world.now))

pub returns-in-None-clause-reaches : goal.returns-in-None-clause-reaches
returns-in-None-clause-reaches g c =
    let is = calming_ends c.args.peers.now c.loop-turn._turn c.args.world.now c.loop-turn.world _ _ c.loop-turn-test.true c.loop-turn.invariant.0 (sym c.in-None.is ∙ c.oldest_among.ensures) in
    led_to c.loop-turn.invariant.0.strings c.loop-turn.world (calmed c.args.peers.now most_messages (run_of c.args.world.now)) _ _ is c.loop-turn.world.within c.loop-turn.invariant.0.has

pub returns-in-None-clause-lines : goal.returns-in-None-clause-lines
returns-in-None-clause-lines g c = shown_ends c.args.peers.now c.loop-turn._turn c.args.lines.now c.loop-turn.lines (run_of c.args.world.now) (run_of c.loop-turn.world) c.loop-turn-test.true (sym c.in-None.is ∙ c.oldest_among.ensures) c.loop-turn.invariant.1

pub returns-in_err-deliver-in-Some-clause-reaches : goal.returns-in_err-deliver-in-Some-clause-reaches
returns-in_err-deliver-in-Some-clause-reaches g c =
    refused_further c.loop-turn.invariant.0.strings (delivered c.in-Some.number (run_of c.loop-turn.world)) (calmed c.args.peers.now most_messages (run_of c.args.world.now)) _ _ _ c.in_err-deliver-in-Some.field-0.0 c.loop-turn.invariant.0.has
    (calming_longer c.args.peers.now c.loop-turn._turn c.args.world.now c.loop-turn.world _ _ c.loop-turn-test.true c.loop-turn.invariant.0 c.in-Some.number (sym c.in-Some.is ∙ c.oldest_among.ensures))
    c.in_err-deliver-in-Some.ensures.reaches (run_of c.deliver.new.world) c.from_residual.result _ c.from_residual.ensures.1 (λ d h. h)

pub loop-turn-preserved : goal.loop-turn-preserved
loop-turn-preserved g c = (
  calming_next c.args.peers.now c.loop-turn._turn c.args.world.now c.loop-turn.world _ _ c.loop-turn-test.true c.loop-turn.invariant.0 c.in-Some.number (sym c.in-Some.is ∙ c.oldest_among.ensures) c.deliver.new.world _
      c.in_ok-deliver-in-Some.ensures.reaches.0 c.in_ok-deliver-in-Some.ensures.reaches.2 c.deliver.ensures.begins,
  shown_next c.args.peers.now c.loop-turn._turn c.args.lines.now c.loop-turn.lines c.deliver.new.lines (run_of c.args.world.now) (run_of c.loop-turn.world) (run_of c.deliver.new.world) c.in-Some.number c.loop-turn-test.true (sym c.in-Some.is ∙ c.oldest_among.ensures)
      c.loop-turn.invariant.1 c.in_ok-deliver-in-Some.ensures.lines c.in_ok-deliver-in-Some.ensures.reaches.0,
)

pub returns-clause-reaches : goal.returns-clause-reaches
returns-clause-reaches g c =
    let is = calming_last c.args.peers.now c.loop-turn._turn c.args.world.now c.loop-turn.world _ _ c.loop-turn-test.false c.loop-turn.invariant.0 in
    led_to c.loop-turn.invariant.0.strings c.loop-turn.world (calmed c.args.peers.now most_messages (run_of c.args.world.now)) _ _ is c.loop-turn.world.within c.loop-turn.invariant.0.has

pub returns-clause-lines : goal.returns-clause-lines
returns-clause-lines g c = shown_last c.args.peers.now c.loop-turn._turn c.args.lines.now c.loop-turn.lines (run_of c.args.world.now) (run_of c.loop-turn.world) c.loop-turn-test.false c.loop-turn.invariant.1
