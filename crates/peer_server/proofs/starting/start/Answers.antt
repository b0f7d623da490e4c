use Rattle.std.specs.Prelude.{All}
use Rattle.std.proofs.Common.{sym, subst, inr, List, []}
use Rattle.std.proofs.lemmas.List.Elements.{All-nil}
use Rattle.step_plans.specs.declared.outbox.Outbox.{Outbox}
use Rattle.peer_turns.specs.Turns.{is_client}
use Rattle.peer_server.specs.Commits.{IsSendable}
use Rattle.peer_server.specs.DiskPeers.{all_there, disks_do, disks_refuse}
use Rattle.peer_server.specs.Faults.{status_of}
use Rattle.peer_server.specs.Starting.{Unstarted, served_mode}
use Rattle.peer_server.specs.declared.disks.Disks.{Disks}
use Rattle.peer_server.proofs.Ending.{unstarted}
use Rattle.peer_server.proofs.Uncalled.{start_calls}
use Rattle.peer_server.proofs.starting.start.Goals as goal

pub returns-in-Err-clause-refused : goal.returns-in-Err-clause-refused
returns-in-Err-clause-refused g c =
    inr
    (subst (λ (after : Disks _). Unstarted g.D.Disk.seen g.D.Disk.may_leave g.D.Disk.moment g.D.Disk.left_since g.D.Disk.fault_count c.args.words.now (status_of c.peer_error.result) (all_there c.args.disks) after) (sym c.close.ensures)
    (unstarted g.D.Disk.seen g.D.Disk.may_leave g.D.Disk.moment g.D.Disk.left_since g.D.Disk.fault_count g.met.D.Disk.counts_now c.args.words.now (all_there c.args.disks) (c.in_ok-opened.opened.stores, record {}) (c.in-Err.refused.held, record {}) c.in_ok-opened.opened.facts c.peer_error.result c.in_ok-opened.ensures.opened
    (record { error = c.in-Err.refused.error; is = sym c.peer_error.ensures; notes = []; ran = c.in-Err.ensures.stopped })))

pub returns-in-Ok-clause-ready : goal.returns-in-Ok-clause-ready
returns-in-Ok-clause-ready g c = record {
  peer = record { me = c.in-Ok.ensures.me.0; goes_on = c.in-Ok.ensures.me.1; callers = start_calls (disks_do g.D.Disk.seen g.D.Disk.fault_count) (disks_refuse g.D.Disk.seen g.D.Disk.fault_count) is_client served_mode c.args.words.now.view (c.in_ok-opened.opened.stores, record {}) (c.in-Ok.peer.machine.stores, record {}) c.in-Ok.peer.machine.state c.in-Ok.ensures.started };
  sendable = subst (λ (outs : List Outbox). All (IsSendable c.args.words.now.me) outs) (sym c.new.ensures.items) (All-nil (IsSendable c.args.words.now.me));
}
