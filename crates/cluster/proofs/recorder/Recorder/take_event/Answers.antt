use Rattle.std.proofs.Common.{◌∙◌, ap, rules, sym}
use Rattle.schedule_text.specs.declared.schedule.Schedule.{Schedule}
use Rattle.cluster.specs.declared.stop.Stop.TheVariants.{Link as OfLink}
use Rattle.cluster.proofs.Reaching.{nothing_yet, records_err}
use Rattle.cluster.proofs.Recording.{prefix_handed, recorded_step, records_event, sent_before_now, stops_applying, stops_handing, stops_lines}
use Rattle.cluster.proofs.Stepping.{stands_in_world}
use Rattle.cluster.proofs.recorder.Recorder.take_event.Goals as goal

pub apply-requires : goal.apply-requires
apply-requires g c = (search rules, stands_in_world c.args.self.now c.args.event c.requires.step c.requires.may)

pub hand_over-requires : goal.hand_over-requires
hand_over-requires g c = rw c.count-before.ensures (sent_before_now c.args.self.now c.args.event c.requires.step c.requires.may c.apply.new.self _ _ c.in_ok-apply.ensures)

pub returns-then-is_full-clause-records : goal.returns-then-is_full-clause-records
returns-then-is_full-clause-records g c = λ w first a looks r reached. (
  stops_lines c.args.self.now c.args.event c.requires.step c.requires.may g.L.Link.sent g.L.Link.given g.L.Link.fault_count w first a looks r c.args.link.now _ reached (sym c.is_full.ensures ∙ c.if-is_full.true),
  nothing_yet g.L.Link.sent g.L.Link.given g.L.Link.fault_count w first a _ c.args.link.now,
)

pub returns-in_err-apply-clause-records : goal.returns-in_err-apply-clause-records
returns-in_err-apply-clause-records g c = λ w first a looks r reached.
    records_err g.L.Link.sent g.L.Link.given g.L.Link.fault_count w first a looks r c.args.event c.args.link.now c.from_residual.result _ c.in_err-apply.field-0.0 _ c.args.link.now _ c.from_residual.ensures.1 (λ d same. same)
    (stops_applying c.args.self.now c.args.event c.requires.step c.requires.may g.L.Link.sent g.L.Link.given g.L.Link.fault_count w first a looks r c.args.link.now _ reached c.apply.new.self _ c.in_err-apply.field-0.0 (sym c.is_full.ensures ∙ c.if-is_full.false) c.in_err-apply.ensures)
    (nothing_yet g.L.Link.sent g.L.Link.given g.L.Link.fault_count w first a _ c.args.link.now)

pub returns-in_err-hand_over-clause-records : goal.returns-in_err-hand_over-clause-records
returns-in_err-hand_over-clause-records g c = λ w first a looks r reached.
    records_err g.L.Link.sent g.L.Link.given g.L.Link.fault_count w first a looks r c.args.event c.args.link.now c.from_residual-in_err-hand_over.result _ (OfLink c.in_err-hand_over.field-0.0) _ c.hand_over.new.link _ c.from_residual-in_err-hand_over.ensures.1 (λ d same. same)
    (stops_handing c.args.self.now c.args.event c.requires.step c.requires.may c.apply.new.self _ _ c.in_ok-apply.ensures c.hand_over.new.self c.hand_over.ensures.same.0 c.hand_over.ensures.same.1 g.L.Link.sent g.L.Link.given g.L.Link.fault_count w first a looks r c.args.link.now c.hand_over.new.link
    (sym c.is_full.ensures ∙ c.if-is_full.false) reached c.in_err-hand_over.field-0.0 (rw c.count-before.ensures at c.in_err-hand_over.ensures.hands))
    (prefix_handed c.args.self.now c.args.event c.requires.step c.requires.may c.apply.new.self _ _ c.in_ok-apply.ensures c.hand_over.new.self c.hand_over.ensures.same.0 c.hand_over.ensures.same.1 g.L.Link.sent g.L.Link.given g.L.Link.fault_count w first a looks r c.args.link.now c.hand_over.new.link
    (sym c.is_full.ensures ∙ c.if-is_full.false) reached c.in_err-hand_over.field-0.0 (rw c.count-before.ensures at c.in_err-hand_over.ensures.hands))

pub returns-clause-step : goal.returns-clause-step
returns-clause-step g c =
    recorded_step c.args.self.now c.args.event c.requires.step c.requires.may c.apply.new.self _ _ c.in_ok-apply.ensures c.hand_over.new.self c.hand_over.ensures.same.0 c.hand_over.ensures.same.1 g.L.Link.sent g.L.Link.given g.L.Link.fault_count c.args.link.now c.hand_over.new.link
    (sym c.is_full.ensures ∙ c.if-is_full.false) (rw c.count-before.ensures at c.in_ok-hand_over.ensures.hands)

pub returns-clause-peers : goal.returns-clause-peers
returns-clause-peers g c = ap (λ (s : Schedule). s.peers) (c.hand_over.ensures.same.1 ∙ c.in_ok-apply.ensures.schedule)

pub returns-clause-records : goal.returns-clause-records
returns-clause-records g c = λ w first a looks r reached.
    records_event c.args.self.now c.args.event c.requires.step c.requires.may c.apply.new.self _ _ c.in_ok-apply.ensures c.hand_over.new.self c.hand_over.ensures.same.0 c.hand_over.ensures.same.1 g.L.Link.sent g.L.Link.given g.L.Link.fault_count w first a looks r c.args.link.now c.hand_over.new.link
    (sym c.is_full.ensures ∙ c.if-is_full.false) reached (rw c.count-before.ensures at c.in_ok-hand_over.ensures.hands)
