use Rattle.std.specs.Prelude.{All, Vec}
use Rattle.std.specs.declared.alloc.Global.{Global}
use Rattle.std.proofs.Common.{sym, subst}
use Rattle.step_plans.specs.declared.outbox.Outbox.{Outbox}
use Rattle.peer_server.specs.Commits.{IsSendable}
use Rattle.peer_server.proofs.commit.commit.Goals as goal

pub send_waiting-requires-clause-sendable : goal.send_waiting-requires-clause-sendable
send_waiting-requires-clause-sendable g c = subst (λ (outs : Vec Outbox Global). All (IsSendable c.args.words.now.me) outs.items) (sym c.save.ensures.unsent) c.requires.ready.sendable
