use Rattle.step_plans.specs.Outboxes.{out_of}
use Rattle.std.proofs.Common.{refl}
use Rattle.world_model.specs.Worlds.{run_of, reported}
use Rattle.world_model.proofs.Begins.{begins_same}
use Rattle.world_model.proofs.Placed.{past_limit}
use Rattle.world_model.proofs.Reached.{refused_sending}
use Rattle.world_model.proofs.world.World.report.Goals as goal

pub returns-in_err-lines-clause-begins : goal.returns-in_err-lines-clause-begins
returns-in_err-lines-clause-begins c = begins_same c.args.self.now

pub returns-in_err-post_all-clause-reaches : goal.returns-in_err-post_all-clause-reaches
returns-in_err-post_all-clause-reaches c =
    refused_sending (reported c.args.peer (out_of c.args.out) c.args.out.notes.items (run_of c.args.self.now)) c.in_err-post_all.field-0.0 _ c.from_residual-in_err-post_all.result _ c.from_residual-in_err-post_all.ensures.1 (λ d h. h)
    c.in_err-post_all.ensures.error (λ is. past_limit c.args.peer (out_of c.args.out) c.args.out.notes.items (run_of c.args.self.now) (c.in_err-post_all.ensures.limit (rw is refl)))
