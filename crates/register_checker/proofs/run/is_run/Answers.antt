use Rattle.std.proofs.Common.{refl}
use Rattle.register_checker.proofs.Runs.{no_true_false, stops_no_run}
use Rattle.register_checker.proofs.run.is_run.Goals as goal

pub returns-in-None : goal.returns-in-None
returns-in-None c = (λ t. rw c.in-None.is at c.in_ok-stop.ensures.none, λ run. refl)

pub returns : goal.returns
returns c = no_true_false (stops_no_run c.args.calls.now c.args.answers.now c.requires.calls c.args.order.now c.in-Some._place (rw c.in-Some.is at c.in_ok-stop.ensures.some))
