use Rattle.cluster.specs.Recorders.{mail_in}
use Rattle.cluster.proofs.Lines.{event_follows, event_may, event_step, turn_follows}
use Rattle.cluster.proofs.recorder.Recorder.line.Goals as goal

pub take_event-requires-clause-step : goal.take_event-requires-clause-step
take_event-requires-clause-step g c = λ κs lives. event_step c.args.self.now c.args.line c.in-Event.event c.in-Event.is c.requires.line c.requires.step

pub take_event-requires-clause-may : goal.take_event-requires-clause-may
take_event-requires-clause-may g c = λ κs lives. event_may c.args.self.now.schedule.peers (mail_in c.args.self.now) c.args.line c.in-Event.event c.in-Event.is c.requires.line

pub returns-in-Event-clause-follows : goal.returns-in-Event-clause-follows
returns-in-Event-clause-follows g c = λ w first a looks r reached.
    event_follows g.L.Link.sent g.L.Link.given g.L.Link.fault_count w first a looks r c.args.link.now c.args.line c.in-Event.event c.in-Event.is c.take_event.result c.take_event.new.self c.take_event.new.link _ (c.take_event.ensures.records w first a looks r reached)

pub returns-in-Turn-clause-follows : goal.returns-in-Turn-clause-follows
returns-in-Turn-clause-follows g c = λ w first a looks r reached.
    turn_follows g.L.Link.sent g.L.Link.given g.L.Link.fault_count w first a looks r c.args.link.now c.args.line c.in-Turn.count c.in-Turn.is c.turn.result c.turn.new.self c.turn.new.link _ (c.turn.ensures.hears w first a looks r reached)
