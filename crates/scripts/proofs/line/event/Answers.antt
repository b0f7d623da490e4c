use Rattle.schedule_text.specs.Events.{event_of}
use Rattle.scripts.proofs.Taking.{event_taken, refused_then}
use Rattle.scripts.proofs.line.event.Goals as goal

pub returns-in-Ok : goal.returns-in-Ok
returns-in-Ok c = event_taken c.args.place (event_of c.args.peers c.args.bytes.now) c.in-Ok.event c.in-Ok.ensures.exact

pub returns-in-Err : goal.returns-in-Err
returns-in-Err c = refused_then c.args.place (event_of c.args.peers c.args.bytes.now) _ c.in-Err.e c.in-Err.ensures.exact
