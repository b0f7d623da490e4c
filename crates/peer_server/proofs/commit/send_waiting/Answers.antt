use Rattle.std.specs.Prelude.{All, Vec}
use Rattle.std.specs.declared.alloc.Global.{Global}
use Rattle.std.proofs.Common.{sym, subst}
use Rattle.step_plans.specs.declared.outbox.Outbox.{Outbox}
use Rattle.peer_server.specs.Commits.{IsSendable}
use Rattle.peer_server.proofs.commit.send_waiting.Goals as goal

pub send_all-requires-clause-sendable : goal.send_all-requires-clause-sendable
send_all-requires-clause-sendable g c = subst (λ (outs : Vec Outbox Global). All (IsSendable c.args.me) outs.items) (sym c.replace-unsent.ensures.value) c.requires.sendable
