use Rattle.std.specs.Prelude.{All}
use Rattle.std.proofs.Common.{ap, sym, subst, inr, List}
use Rattle.std.proofs.lemmas.List.Elements.{All-push}
use Rattle.std.proofs.lemmas.Result.{err_from_is_err_and}
use Rattle.step_plans.specs.declared.outbox.Outbox.{Outbox}
use Rattle.peer_server.specs.Commits.{IsSendable}
use Rattle.peer_server.specs.Faults.{status_of}
use Rattle.peer_server.proofs.turns.step.Goals as goal

pub returns-in_err-keep-clause-broke : goal.returns-in_err-keep-clause-broke
returns-in_err-keep-clause-broke g c =
    let p = err_from_is_err_and c.from_residual-in_err-keep.result c.from_residual-in_err-keep.ensures.1 in
    rw (p.1, p.2) (inr (record { memory = ap status_of c.in_err-keep.ensures.memory; out = c.in_ok-out.out; ran = c.in_ok-out.ensures.ran; unsent = c.in_err-keep.ensures.same }))

pub returns-clause-stepped : goal.returns-clause-stepped
returns-clause-stepped g c = record { out = c.in_ok-out.out; ran = c.in_ok-out.ensures.ran; unsent = c.in_ok-keep.ensures.more }

pub returns-clause-ready : goal.returns-clause-ready
returns-clause-ready g c = record {
  peer = c.in_ok-out.ensures.ready;
  sendable =
      subst (λ (outs : List Outbox). All (IsSendable c.args.words.now.me) outs) (sym c.in_ok-keep.ensures.more)
      (All-push (IsSendable c.args.words.now.me) c.args.server.now.unsent.items c.in_ok-out.out c.requires.ready.sendable c.in_ok-out.ensures.sendable);
}
