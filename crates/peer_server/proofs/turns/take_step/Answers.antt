use Rattle.std.proofs.Common.{◌∙◌, ℕ, sym, subst, [], Err}
use Rattle.peer_spec.specs.Kept.{AllMayGo}
use Rattle.step_plans.specs.Outboxes.{out_of}
use Rattle.step_plans.specs.declared.error.PeerError.TheVariants.{Halted}
use Rattle.peer_turns.proofs.Steps.{answered}
use Rattle.peer_turns.specs.Turns.{is_client}
use Rattle.peer_server.specs.DiskPeers.{disks_do, disks_refuse}
use Rattle.peer_server.proofs.Stepping.{all_may_go, finished_step, never_link, no_error, not_halted, stopped_step}
use Rattle.peer_server.proofs.turns.take_step.Goals as goal

pub returns-in-Ok : goal.returns-in-Ok
returns-in-Ok g c =
    let ran =
    finished_step (disks_do g.D.Disk.seen g.D.Disk.fault_count) (disks_refuse g.D.Disk.seen g.D.Disk.fault_count) c.args.words.now.me c.args.peer.now.me c.requires.ready.me c.args.event c.args.peer.now.machine.state c.step.new.self.machine.state
    (c.args.peer.now.machine.stores, record {}) (c.step.new.self.machine.stores, record {}) c.new-out.result c.step.new.out c.new-out.ensures.alone c.new-out.ensures.notes (c.in-Ok.ensures.took (no_error _ Halted)) in
    let ends =
    answered (disks_do g.D.Disk.seen g.D.Disk.fault_count) (disks_refuse g.D.Disk.seen g.D.Disk.fault_count) c.args.words.now.me c.args.event c.args.peer.now.machine.state c.step.new.self.machine.state
    (c.args.peer.now.machine.stores, record {}) (c.step.new.self.machine.stores, record {}) [] c.step.new.out.notes.items (out_of c.step.new.out) ran is_client c.requires.from c.requires.ready.callers in
    record {
      ran = ran;
      ready = record { me = c.in-Ok.ensures.me ∙ c.requires.ready.me; goes_on = c.in-Ok.ensures.goes_on; callers = ends.1 };
      sendable = (subst (λ (n : ℕ). AllMayGo n (out_of c.step.new.out)) c.requires.ready.me (c.in-Ok.ensures.may_go (all_may_go c.args.peer.now.me c.new-out.result c.new-out.ensures.alone)), ends.0);
      stopped = tt;
      no_link = tt;
    }

pub returns-in-Err : goal.returns-in-Err
returns-in-Err g c = record {
  ran = tt;
  ready = tt;
  sendable = tt;
  stopped = record {
    error = c.in-Err.e;
    is = sym c.peer_error.ensures;
    notes = c.step.new.out.notes.items;
    ran =
        stopped_step (disks_do g.D.Disk.seen g.D.Disk.fault_count) (disks_refuse g.D.Disk.seen g.D.Disk.fault_count) c.args.words.now.me c.args.peer.now.me c.requires.ready.me c.args.event c.args.peer.now.machine.state c.step.new.self.machine.state
        (c.args.peer.now.machine.stores, record {}) (c.step.new.self.machine.stores, record {}) c.new-out.result c.step.new.out c.new-out.ensures.alone c.new-out.ensures.notes c.in-Err.e
        (c.in-Err.ensures.took (not_halted {T = Unit {0}} c.args.peer.now.halted c.requires.ready.goes_on (Err c.in-Err.e) c.in-Err.ensures.halted));
  };
  no_link = never_link c.in-Err.e c.peer_error.result c.peer_error.ensures;
}
