use Rattle.peer_state.specs.declared.event.Event.TheVariants as events
use Rattle.world_spec.specs.Runs.{stepped, ticked}
use Rattle.world_model.specs.Worlds.{run_of}
use Rattle.world_model.proofs.Loops.{ticking_first, ticking_next, ticking_longer, ticking_last}
use Rattle.world_model.proofs.Reached.{errs, refused_further, led_to}
use Rattle.world_model.proofs.Turning.{stops_among}
use Rattle.world_model.specs.Turns.{StopsAmong, after_tick}
use Rattle.world_model.proofs.world.World.tick.Goals as goal

pub loop-tick-init : goal.loop-tick-init
loop-tick-init g c = ticking_first c.args.peer c.args.ticks c.args.self.now _

pub returns-in_err-step_peer-clause-reaches : goal.returns-in_err-step_peer-clause-reaches
returns-in_err-step_peer-clause-reaches g c =
    refused_further c.loop-tick.invariant.strings (stepped c.args.peer events.Tick (run_of c.loop-tick.self)) (ticked c.args.peer c.args.ticks (run_of c.args.self.now)) _ _ _ c.in_err-step_peer.field-0.0 c.loop-tick.invariant.has
    (ticking_longer c.args.peer c.args.ticks c.loop-tick._tick c.args.self.now c.loop-tick.self _ _ c.loop-tick-test.true c.loop-tick.invariant) c.in_err-step_peer.ensures.reaches
    (run_of c.step_peer.new.self) c.from_residual.result _ c.from_residual.ensures.1 (λ d h. h)

pub loop-tick-preserved : goal.loop-tick-preserved
loop-tick-preserved g c = ticking_next c.args.peer c.args.ticks c.loop-tick._tick c.args.self.now c.loop-tick.self _ _ c.loop-tick-test.true c.loop-tick.invariant c.step_peer.new.self _
    c.in_ok-step_peer.ensures.reaches.0 c.in_ok-step_peer.ensures.reaches.2 c.step_peer.ensures.begins

pub returns-clause-reaches : goal.returns-clause-reaches
returns-clause-reaches g c =
    let is = ticking_last c.args.peer c.args.ticks c.loop-tick._tick c.args.self.now c.loop-tick.self _ _ c.loop-tick-test.false c.loop-tick.invariant in
    led_to c.loop-tick.invariant.strings c.loop-tick.self (ticked c.args.peer c.args.ticks (run_of c.args.self.now)) _ _ is c.loop-tick.self.within c.loop-tick.invariant.has

pub returns-in_err-step_peer-clause-stops : goal.returns-in_err-step_peer-clause-stops
returns-in_err-step_peer-clause-stops g c =
    errs (StopsAmong c.args.ticks (after_tick c.args.peer) (run_of c.args.self.now) _ _) c.from_residual.result _ c.in_err-step_peer.field-0.0 c.from_residual.ensures.1 (λ d h. h)
    (stops_among c.args.ticks c.loop-tick._tick (after_tick c.args.peer) (run_of c.args.self.now) c.loop-tick.invariant.strings c.loop-tick.self _ _ _ c.loop-tick-test.true c.loop-tick.invariant.so_far c.loop-tick.invariant.has c.in_err-step_peer.field-0.0 c.in_err-step_peer.ensures.stops)
