use Rattle.std.proofs.Common.{◌-◌, ◌∙◌, refl}
use Rattle.network.specs.Mail.{settled}
use Rattle.cluster.specs.Recorders.{mail_in}
use Rattle.cluster.specs.declared.recorder.Recorder.{Recorder}
use Rattle.cluster.specs.declared.stop.Stop.TheVariants.{Link as OfLink}
use Rattle.cluster.proofs.Looking.{found_in, hears_err, hears_message, hears_nothing, index_settled, index_stays, looked_none, looked_on, looked_once, looks_failed, may_deliver, still_in_step, taken_none, taken_some}
use Rattle.cluster.proofs.recorder.Recorder.look.Goals as goal

pub take_event-requires-clause-step : goal.take_event-requires-clause-step
take_event-requires-clause-step g c = λ κs lives.
    let m = mail_in c.args.self.now in
    let one = taken_some c.args.self.now.index c.take-2.new.self c.new.result m c.requires.index c.take-2.ensures.rest c.take-2.result c.in-Some-take.message c.take-2.ensures.first c.in-Some-take.is in
    still_in_step c.args.self.now _ m (settled m (c.in-Some-take.message - 1)) refl refl (index_settled c.args.self.now.index c.take-2.new.self c.new.result m c.requires.index c.take-2.ensures.rest c.in-Some-take.message one) c.requires

pub take_event-requires-clause-may : goal.take_event-requires-clause-may
take_event-requires-clause-may g c = λ κs lives.
    let m = mail_in c.args.self.now in
    may_deliver c.args.self.now.index c.take-2.new.self c.new.result m c.requires.index c.take-2.ensures.rest c.args.self.now.schedule.peers c.in-Some-take.message
    (taken_some c.args.self.now.index c.take-2.new.self c.new.result m c.requires.index c.take-2.ensures.rest c.take-2.result c.in-Some-take.message c.take-2.ensures.first c.in-Some-take.is)

pub returns-in_err-bytes-clause-hears : goal.returns-in_err-bytes-clause-hears
returns-in_err-bytes-clause-hears g c = λ w first a looks r reached.
    hears_err g.L.Link.sent g.L.Link.given g.L.Link.fault_count w first a looks r c.args.link.now c.from_residual.result _ (OfLink c.in_err-bytes.field-0.0) c.args.self.now c.receive.new.self _ c.from_residual.ensures.1 (λ d same. same)
    (looks_failed g.L.Link.sent g.L.Link.given g.L.Link.fault_count w first a looks r c.args.self.now c.args.link.now c.receive.new.self _ c.in_err-bytes.field-0.0 reached c.in_err-bytes.ensures.given c.in_err-bytes.ensures.sent c.in_err-bytes.ensures.counts)
    (looked_none g.L.Link.sent g.L.Link.given g.L.Link.fault_count w first a looks r c.args.link.now c.receive.new.self c.in_err-bytes.field-0.0 c.in_err-bytes.ensures.given c.in_err-bytes.ensures.sent)

pub returns-in_default-clause-hears : goal.returns-in_default-clause-hears
returns-in_default-clause-hears g c = λ w first a looks r reached.
    hears_nothing g.L.Link.sent g.L.Link.given g.L.Link.fault_count w first a looks r c.args.link.now _ c.args.self.now c.receive.new.self _ refl
    (rw c.in_default.is at (looked_on g.L.Link.sent g.L.Link.given g.L.Link.fault_count w first a looks r c.args.self.now c.args.self.now c.args.link.now c.receive.new.self _ _ reached refl c.in_ok-bytes.ensures.given c.in_ok-bytes.ensures.sent c.in_ok-bytes.ensures.counts))
    (rw c.in_default.is at (looked_once g.L.Link.sent g.L.Link.given g.L.Link.fault_count w first a looks r c.args.link.now c.receive.new.self _ c.in_ok-bytes.ensures.given c.in_ok-bytes.ensures.sent))

pub returns-in_default-take-clause-step : goal.returns-in_default-take-clause-step
returns-in_default-take-clause-step g c =
    let m = mail_in c.args.self.now in
    still_in_step c.args.self.now _ m m refl refl (index_stays c.args.self.now.index c.take-2.new.self c.new.result m c.requires.index c.take-2.ensures.rest c.take-2.result c.take-2.ensures.first c.in_default-take.is) c.requires

pub returns-in_default-take-clause-hears : goal.returns-in_default-take-clause-hears
returns-in_default-take-clause-hears g c = λ w first a looks r reached.
    let m = mail_in c.args.self.now in
    let d : Recorder = record c.args.self.now { index = c.take-2.new.self } in
    let none = taken_none c.args.self.now.index c.take-2.new.self c.new.result m c.requires.index c.take-2.ensures.rest c.take-2.result c.take-2.ensures.first c.in_default-take.is in
    hears_nothing g.L.Link.sent g.L.Link.given g.L.Link.fault_count w first a looks r c.args.link.now _ d c.receive.new.self _ (found_in g.L.Link.sent g.L.Link.given g.L.Link.fault_count w first a looks r c.args.self.now c.args.link.now _ reached c.new.result c.in-Some.bytes.items c.new.ensures ∙ none)
    (rw c.in-Some.is at (looked_on g.L.Link.sent g.L.Link.given g.L.Link.fault_count w first a looks r c.args.self.now d c.args.link.now c.receive.new.self _ _ reached refl c.in_ok-bytes.ensures.given c.in_ok-bytes.ensures.sent c.in_ok-bytes.ensures.counts))
    (rw c.in-Some.is at (looked_once g.L.Link.sent g.L.Link.given g.L.Link.fault_count w first a looks r c.args.link.now c.receive.new.self _ c.in_ok-bytes.ensures.given c.in_ok-bytes.ensures.sent))

pub returns-clause-hears : goal.returns-clause-hears
returns-clause-hears g c = λ w first a looks r reached.
    let m = mail_in c.args.self.now in
    let d : Recorder = record c.args.self.now { index = c.take-2.new.self } in
    let one = taken_some c.args.self.now.index c.take-2.new.self c.new.result m c.requires.index c.take-2.ensures.rest c.take-2.result c.in-Some-take.message c.take-2.ensures.first c.in-Some-take.is in
    hears_message g.L.Link.sent g.L.Link.given g.L.Link.fault_count w first a looks r c.args.link.now c.receive.new.self _ one.place c.in-Some-take.message c.take_event.result _ c.take_event.new.link _
    (found_in g.L.Link.sent g.L.Link.given g.L.Link.fault_count w first a looks r c.args.self.now c.args.link.now _ reached c.new.result c.in-Some.bytes.items c.new.ensures ∙ one.oldest_is) one.is
    (rw c.in-Some.is at (looked_once g.L.Link.sent g.L.Link.given g.L.Link.fault_count w first a looks r c.args.link.now c.receive.new.self _ c.in_ok-bytes.ensures.given c.in_ok-bytes.ensures.sent))
    (c.take_event.ensures.records w first a _ r
    (rw c.in-Some.is at (looked_on g.L.Link.sent g.L.Link.given g.L.Link.fault_count w first a looks r c.args.self.now d c.args.link.now c.receive.new.self _ _ reached refl c.in_ok-bytes.ensures.given c.in_ok-bytes.ensures.sent c.in_ok-bytes.ensures.counts)))
