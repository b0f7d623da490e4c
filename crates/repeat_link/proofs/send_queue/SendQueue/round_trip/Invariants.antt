use Rattle.std.proofs.Common.{◌≡◌, drop}
use Rattle.repeat_link.specs.Queues.{round_trip_in}
use Rattle.repeat_link.proofs.send_queue.SendQueue.round_trip.Given as goal

abbrev pub invariant-loop-one : goal.invariant-loop-one
invariant-loop-one l = round_trip_in l.received l.now l.self.queued ≡ round_trip_in l.received l.now (drop l.one-index l.one-items)
