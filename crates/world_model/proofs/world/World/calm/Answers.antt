use Rattle.std.proofs.Common.{subst, sym, ◌∙◌}
use Rattle.network.specs.Mail.{most_messages}
use Rattle.world_spec.specs.Held.{account}
use Rattle.world_spec.specs.Runs.{Run, delivered, calmed}
use Rattle.world_model.specs.Worlds.{run_of}
use Rattle.world_model.proofs.Loops.{calming_first, calming_next, calming_longer, calming_ends, calming_last, turn_is}
use Rattle.world_model.proofs.Reached.{errs, refused_further, led_to}
use Rattle.world_model.proofs.Turning.{stops_among}
use Rattle.world_model.specs.Turns.{StopsAmong, StopsTurn, after_oldest}
use Rattle.world_model.proofs.world.World.calm.Goals as goal

pub loop-turn-init : goal.loop-turn-init
loop-turn-init g c = calming_first c.args.peers.now c.args.self.now _

pub returns-in-None-clause-reaches : goal.returns-in-None-clause-reaches
returns-in-None-clause-reaches g c =
    let is = calming_ends c.args.peers.now c.loop-turn._turn c.args.self.now c.loop-turn.self _ _ c.loop-turn-test.true c.loop-turn.invariant (sym c.in-None.is ∙ c.oldest_among.ensures.oldest) in
    led_to c.loop-turn.invariant.strings c.loop-turn.self (calmed c.args.peers.now most_messages (run_of c.args.self.now)) _ _ is c.loop-turn.self.within c.loop-turn.invariant.has

pub returns-in_err-deliver-in-Some-clause-reaches : goal.returns-in_err-deliver-in-Some-clause-reaches
returns-in_err-deliver-in-Some-clause-reaches g c =
    refused_further c.loop-turn.invariant.strings (delivered c.in-Some.number (run_of c.loop-turn.self)) (calmed c.args.peers.now most_messages (run_of c.args.self.now)) _ _ _ c.in_err-deliver-in-Some.field-0.0 c.loop-turn.invariant.has
    (calming_longer c.args.peers.now c.loop-turn._turn c.args.self.now c.loop-turn.self _ _ c.loop-turn-test.true c.loop-turn.invariant c.in-Some.number (sym c.in-Some.is ∙ c.oldest_among.ensures.oldest))
    c.in_err-deliver-in-Some.ensures.reaches (run_of c.deliver.new.self) c.from_residual.result _ c.from_residual.ensures.1 (λ d h. h)

pub loop-turn-preserved : goal.loop-turn-preserved
loop-turn-preserved g c = calming_next c.args.peers.now c.loop-turn._turn c.args.self.now c.loop-turn.self _ _ c.loop-turn-test.true c.loop-turn.invariant c.in-Some.number (sym c.in-Some.is ∙ c.oldest_among.ensures.oldest) c.deliver.new.self _
    c.in_ok-deliver-in-Some.ensures.reaches.0 c.in_ok-deliver-in-Some.ensures.reaches.2 c.deliver.ensures.begins

pub returns-clause-reaches : goal.returns-clause-reaches
returns-clause-reaches g c =
    let is = calming_last c.args.peers.now c.loop-turn._turn c.args.self.now c.loop-turn.self _ _ c.loop-turn-test.false c.loop-turn.invariant in
    led_to c.loop-turn.invariant.strings c.loop-turn.self (calmed c.args.peers.now most_messages (run_of c.args.self.now)) _ _ is c.loop-turn.self.within c.loop-turn.invariant.has

pub returns-in_err-deliver-in-Some-clause-stops : goal.returns-in_err-deliver-in-Some-clause-stops
returns-in_err-deliver-in-Some-clause-stops g c =
    let same = turn_is c.args.peers.now c.loop-turn._turn c.args.self.now c.loop-turn.self _ _ c.loop-turn-test.true c.loop-turn.invariant c.in-Some.number (sym c.in-Some.is ∙ c.oldest_among.ensures.oldest) in
    let first = account g.H.Hasher16.kept g.H.Hasher16.clashes g.H.Hasher16.fulls c.args.hasher.now in
    let mid = account g.H.Hasher16.kept g.H.Hasher16.clashes g.H.Hasher16.fulls c.loop-turn.hasher in
    let now = account g.H.Hasher16.kept g.H.Hasher16.clashes g.H.Hasher16.fulls c.deliver.new.hasher in
    errs (StopsAmong most_messages (after_oldest c.args.peers.now) (run_of c.args.self.now) first now) c.from_residual.result _ c.in_err-deliver-in-Some.field-0.0 c.from_residual.ensures.1 (λ d h. h)
    (stops_among most_messages c.loop-turn._turn (after_oldest c.args.peers.now) (run_of c.args.self.now) c.loop-turn.invariant.strings c.loop-turn.self first mid now c.loop-turn-test.true c.loop-turn.invariant.so_far c.loop-turn.invariant.has c.in_err-deliver-in-Some.field-0.0
    (subst (λ (due : Run). StopsTurn mid due now c.in_err-deliver-in-Some.field-0.0) same c.in_err-deliver-in-Some.ensures.stops))
