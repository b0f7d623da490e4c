use Rattle.std.proofs.Common.{◌∙◌, ap}
use Rattle.std.specs.Vec.Iter.{into_iter_items}
use Rattle.schedule_text.specs.declared.schedule.Schedule.{Schedule}
use Rattle.cluster.proofs.Outcomes.{opened_reached, unopened}
use Rattle.cluster.proofs.Lines.{all_err, begun, followed_all, goes_on, next_may, none_left, stops_in}
use Rattle.cluster.proofs.recorder.Recorder.follow.Goals as goal

pub returns-in_err-recorder : goal.returns-in_err-recorder
returns-in_err-recorder g c =
    all_err g.L.Link.sent g.L.Link.given g.L.Link.fault_count c.args.words.now _ c.args.link.now c.args.script c.from_residual.result _ c.in_err-recorder.field-0.0 c.args.link.now _ c.from_residual.ensures.1 (λ d same. same)
    (unopened g.L.Link.sent g.L.Link.given g.L.Link.fault_count c.args.words.now _ c.args.link.now c.args.script c.in_err-recorder.field-0.0 _ c.in_err-recorder.ensures.refused)

pub loop-line-init : goal.loop-line-init
loop-line-init g c =
    let opened = c.in_ok-recorder.ensures.opened in
    record {
      step = opened.step;
      peers = ap (λ (s : Schedule). s.peers) opened.schedule;
      under = begun g.L.Link.sent g.L.Link.given g.L.Link.fault_count c.args.words.now _ c.args.link.now c.args.script (into_iter_items c.into_iter-line-iterator.result) c.in_ok-recorder.recorder _ (c.into_iter-line-iterator.ensures.into_iter_gives.0 ∙ c.into_vec-line-items.ensures) c.requires.script.may
          (opened_reached g.L.Link.sent g.L.Link.given g.L.Link.fault_count c.args.words.now _ c.args.link.now c.in_ok-recorder.recorder _ opened);
    }

pub line-requires-clause-step : goal.line-requires-clause-step
line-requires-clause-step g c = λ κs lives. c.loop-line.invariant.step

pub line-requires-clause-line : goal.line-requires-clause-line
line-requires-clause-line g c = λ κs lives.
    rw c.loop-line.invariant.peers (next_may g.L.Link.sent g.L.Link.given g.L.Link.fault_count c.args.words.now _ c.args.link.now c.args.script (into_iter_items c.loop-line.line-iterator) c.in-Some.line (into_iter_items c.next.new.self) c.loop-line.recorder c.loop-line.link _ c.in-Some.ensures.steps.0 c.loop-line.invariant.under)

pub loop-line-preserved : goal.loop-line-preserved
loop-line-preserved g c = record {
  step = c.in_ok-line.ensures.step;
  peers = c.in_ok-line.ensures.peers ∙ c.loop-line.invariant.peers;
  under = goes_on g.L.Link.sent g.L.Link.given g.L.Link.fault_count c.args.words.now _ c.args.link.now c.args.script (into_iter_items c.loop-line.line-iterator) c.in-Some.line (into_iter_items c.next.new.self) c.loop-line.recorder c.line.new.self c.loop-line.link c.line.new.link _ _ c.in-Some.ensures.steps.0 c.loop-line.invariant.under
      (λ looks r at. c.in_ok-line.ensures.follows c.args.words.now _ c.args.link.now looks r at);
}

pub returns-in_err-line : goal.returns-in_err-line
returns-in_err-line g c =
    all_err g.L.Link.sent g.L.Link.given g.L.Link.fault_count c.args.words.now _ c.args.link.now c.args.script c.from_residual-in_err-line.result _ c.in_err-line.field-0.0 c.line.new.link _ c.from_residual-in_err-line.ensures.1 (λ d same. same)
    (stops_in g.L.Link.sent g.L.Link.given g.L.Link.fault_count c.args.words.now _ c.args.link.now c.args.script (into_iter_items c.loop-line.line-iterator) c.in-Some.line (into_iter_items c.next.new.self) c.loop-line.recorder c.line.new.self c.loop-line.link c.line.new.link _ _ c.in_err-line.field-0.0 c.in-Some.ensures.steps.0 c.loop-line.invariant.under
    (λ looks r at. c.in_err-line.ensures.follows c.args.words.now _ c.args.link.now looks r at))

pub returns : goal.returns
returns g c =
    followed_all g.L.Link.sent g.L.Link.given g.L.Link.fault_count c.args.words.now _ c.args.link.now c.args.script (into_iter_items c.loop-line.line-iterator) c.loop-line.recorder c.loop-line.link _ (none_left c.loop-line.line-iterator c.in-None.ensures.steps.0) c.loop-line.invariant.under c.loop-line.invariant.step
