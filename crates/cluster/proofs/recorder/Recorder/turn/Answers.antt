use Rattle.std.proofs.Common.{◌∙◌, Ok, Err, arith, refl}
use Rattle.cluster.proofs.Looking.{hears_all, hears_more, hears_none, stops_hearing}
use Rattle.cluster.proofs.recorder.Recorder.turn.Goals as goal

pub loop-look-init : goal.loop-look-init
loop-look-init g c = record {
  step = c.requires;
  peers = refl;
  hears = λ w first a looks r reached. hears_none g.L.Link.sent g.L.Link.given g.L.Link.fault_count w first a looks r c.args.self.now c.args.link.now _ reached;
}

pub loop-look-preserved : goal.loop-look-preserved
loop-look-preserved g c = record {
  step = c.in_ok-look.ensures.step;
  peers = c.in_ok-look.ensures.peers ∙ c.loop-look.invariant.peers;
  hears = λ w first a looks r reached.
      hears_more g.L.Link.sent g.L.Link.given g.L.Link.fault_count w first a looks r c.loop-look._look c.args.count c.args.link.now (Ok tt) c.loop-look.self c.look.new.self c.loop-look.link c.look.new.link _ _ c.loop-look-test.true
      (c.loop-look.invariant.hears w first a looks r reached) (λ more s at. c.in_ok-look.ensures.hears w first a _ s at);
}

pub returns-in_err-look-clause-hears : goal.returns-in_err-look-clause-hears
returns-in_err-look-clause-hears g c = λ w first a looks r reached.
    stops_hearing g.L.Link.sent g.L.Link.given g.L.Link.fault_count w first a looks r c.args.count c.args.link.now c.from_residual.result _ c.in_err-look.field-0.0 c.look.new.self c.look.new.link _ c.from_residual.ensures.1 (λ d same. same)
    (hears_more g.L.Link.sent g.L.Link.given g.L.Link.fault_count w first a looks r c.loop-look._look c.args.count c.args.link.now (Err c.in_err-look.field-0.0) c.loop-look.self c.look.new.self c.loop-look.link c.look.new.link _ _ c.loop-look-test.true
    (c.loop-look.invariant.hears w first a looks r reached) (λ more s at. c.in_err-look.ensures.hears w first a _ s at))

pub returns-clause-hears : goal.returns-clause-hears
returns-clause-hears g c = λ w first a looks r reached.
    hears_all g.L.Link.sent g.L.Link.given g.L.Link.fault_count w first a looks r c.loop-look._look c.args.count c.args.link.now c.loop-look.self c.loop-look.link _ (omega (arith, c.loop-look-test.false)) (c.loop-look.invariant.hears w first a looks r reached)
