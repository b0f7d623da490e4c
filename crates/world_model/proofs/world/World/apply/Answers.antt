use Rattle.std.proofs.Common.{[]}
use Rattle.world_spec.proofs.Taken.{hashed_none}
use Rattle.world_spec.proofs.Growth.{counted_grows}
use Rattle.world_spec.specs.Lines.{applied, effect}
use Rattle.world_model.specs.Worlds.{run_of}
use Rattle.world_model.proofs.Reached.{errs, refused_further}
use Rattle.world_model.specs.Turns.{StopsAmong, turn, turns_of}
use Rattle.world_model.proofs.world.World.apply.Goals as goal

pub returns-in_err-effect-clause-reaches : goal.returns-in_err-effect-clause-reaches
returns-in_err-effect-clause-reaches g c =
    refused_further [] (effect c.args.event.now (run_of c.args.self.now)) (applied c.args.event.now (run_of c.args.self.now)) _ _ _ c.in_err-effect.field-0.0 (hashed_none _) (counted_grows c.args.event.now (run_of c.args.self.now))
    c.in_err-effect.ensures.reaches _ c.from_residual.result _ c.from_residual.ensures.1 (λ d h. h)

pub returns-in_err-effect-clause-stops : goal.returns-in_err-effect-clause-stops
returns-in_err-effect-clause-stops g c =
    errs (StopsAmong (turns_of c.args.event.now) (turn c.args.event.now) (run_of c.args.self.now) _ _) c.from_residual.result _ c.in_err-effect.field-0.0 c.from_residual.ensures.1 (λ d h. h) c.in_err-effect.ensures.stops
