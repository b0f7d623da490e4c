use Rattle.world_model.specs.declared.error.WorldError.TheVariants.{Memory}
use Rattle.std.proofs.Common.{refl}
use Rattle.cluster.proofs.Stepping.{applied_schedule, applies_err}
use Rattle.cluster.proofs.recorder.Recorder.apply.Goals as goal

pub returns-in_err-apply : goal.returns-in_err-apply
returns-in_err-apply g c = applies_err c.args.event c.args.self.now _ _ _ c.from_residual.result _ c.in_err-apply.field-0.0 c.from_residual.ensures.1 (λ d same. same) c.in_err-apply.ensures.stops

pub returns-in_err-push : goal.returns-in_err-push
returns-in_err-push g c = applies_err c.args.event c.args.self.now _ _ _ c.from_residual-in_err-push.result _ Memory c.from_residual-in_err-push.ensures.1 (λ d same. same) tt

pub returns : goal.returns
returns g c = record {
  world = c.in_ok-apply.ensures.reaches.0;
  within = c.in_ok-apply.ensures.reaches.1;
  has = c.in_ok-apply.ensures.reaches.2;
  schedule = applied_schedule c.args.self.now.schedule _ c.args.event c.in_ok-push.ensures.ok;
  index = refl;
}
