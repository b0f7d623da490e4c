use Rattle.std.proofs.lemmas.Result.{err_from_is_err_and}
use Rattle.peer_server.proofs.Making.{tick_fell, turn_made}
use Rattle.peer_server.proofs.Stepping.{step_fell, tick_made}
use Rattle.peer_state.specs.declared.event.Event.TheVariants.{Tick}
use Rattle.peer_server.specs.DiskPeers.{disks_do, disks_refuse}
use Rattle.peer_server.specs.Faults.{status_of}
use Rattle.peer_server.specs.Lines.{looked, posted}
use Rattle.peer_server.specs.Turning.{point}
use Rattle.peer_server.proofs.turns.turn.Goals as goal

pub returns-clause-made : goal.returns-clause-made
returns-clause-made g c =
    turn_made (disks_do g.D.Disk.seen g.D.Disk.fault_count) (disks_refuse g.D.Disk.seen g.D.Disk.fault_count) (posted g.L.Link.sent c.args.words.now.me) (looked g.L.Link.given) g.T.Ticker.coming c.args.words.now (point c.args.server.now c.args.link.now) (point c.look.new.server c.look.new.link) (point c.tick.new.server c.look.new.link) c.args.ticker.now c.tick.new.ticker c.args.counts.now c.look.new.counts c.in_ok-is_quiet.ensures.made
    (tick_made g.D.Disk.seen g.D.Disk.fault_count g.L.Link.sent g.L.Link.given g.T.Ticker.coming c.args.words.now c.look.new.server c.tick.new.server c.look.new.link c.args.ticker.now c.tick.new.ticker c.in_ok-tick.ensures.made)

pub returns-in_err-tick-clause-broke : goal.returns-in_err-tick-clause-broke
returns-in_err-tick-clause-broke g c =
    let p = err_from_is_err_and c.from_residual-in_err-tick.result c.from_residual-in_err-tick.ensures.1 in
    rw (p.1, p.2)
    (tick_fell (disks_do g.D.Disk.seen g.D.Disk.fault_count) (disks_refuse g.D.Disk.seen g.D.Disk.fault_count) (posted g.L.Link.sent c.args.words.now.me) (looked g.L.Link.given) g.T.Ticker.coming c.args.words.now (status_of c.in_err-tick.field-0.0) (point c.args.server.now c.args.link.now) (point c.look.new.server c.look.new.link) (point c.tick.new.server c.look.new.link) c.args.ticker.now c.tick.new.ticker c.args.counts.now c.look.new.counts c.in_ok-is_quiet.ensures.made
    (step_fell g.D.Disk.seen g.D.Disk.fault_count g.L.Link.sent g.L.Link.given c.args.words.now.me Tick c.look.new.server c.tick.new.server c.look.new.link c.in_err-tick.field-0.0 c.in_err-tick.ensures.no_link c.in_err-tick.ensures.broke) c.in_err-tick.ensures.due)
