use Rattle.std.proofs.Common.{◌≡◌, ◌+◌, ◌∷◌, [], ◌≤◌, ℕ, List, arith, length, subst, sym}
use Rattle.network.specs.Mail.{MayBeSent}
use Rattle.wire_frames.specs.declared.frame.Frame.{Frame}
use Rattle.cluster.specs.Sending.{HandedAll}
use Rattle.cluster.proofs.Handing.{all_taken, broke_next, handed_next, handed_none, passed_on}
use Rattle.cluster.proofs.sending.hand_on.Goals as goal

pub loop-frame-init : goal.loop-frame-init
loop-frame-init g c = record { handed = handed_none g.L.Link.sent g.L.Link.given g.L.Link.fault_count (c.args.before + 1) c.args.index.now c.args.link.now; number = omega arith }

pub hand_one_on-requires : goal.hand_one_on-requires
hand_one_on-requires g c = subst MayBeSent (sym c.frame-item.is) (c.requires.may c.loop-frame.frame-index c.frame-item.result c.loop-frame-test.true)

pub loop-frame-preserved : goal.loop-frame-preserved
loop-frame-preserved g c =
    let place : c.loop-frame.number + 1 ≡ c.args.before + 1 + c.loop-frame.frame-index = omega (arith, c.loop-frame.invariant.number) in
    let one = subst (λ (n : ℕ). HandedAll g.L.Link.sent g.L.Link.given g.L.Link.fault_count (c.frame-item.result ∷ []) n c.loop-frame.link c.loop-frame.index c.hand_one_on.new.index c.hand_one_on.new.link) place c.in_ok-hand_one_on.ensures in
    record {
      handed = handed_next g.L.Link.sent g.L.Link.given g.L.Link.fault_count c.loop-frame.frame-index c.args.frames.now c.frame-item.result (c.args.before + 1) c.args.link.now c.loop-frame.link c.hand_one_on.new.link c.args.index.now c.loop-frame.index c.hand_one_on.new.index c.loop-frame-test.true c.frame-item.is
          c.loop-frame.invariant.handed one;
      number = omega (arith, c.loop-frame.invariant.number);
    }

pub returns-in_err-hand_one_on : goal.returns-in_err-hand_one_on
returns-in_err-hand_one_on g c =
    passed_on g.L.Link.sent g.L.Link.given g.L.Link.fault_count c.args.frames.now (c.args.before + 1) c.args.link.now c.hand_one_on.new.link c.args.index.now c.hand_one_on.new.index c.in_err-hand_one_on.field-0.0 c.from_residual.result _ c.from_residual.ensures.1 (λ d same. same)
    (broke_next g.L.Link.sent g.L.Link.given g.L.Link.fault_count c.loop-frame.frame-index c.args.frames.now c.frame-item.result (c.args.before + 1) c.args.link.now c.loop-frame.link c.hand_one_on.new.link c.args.index.now c.loop-frame.index c.in_err-hand_one_on.field-0.0 c.loop-frame-test.true c.frame-item.is
    c.loop-frame.invariant.handed c.in_err-hand_one_on.ensures)

pub returns : goal.returns
returns g c =
    let past : length c.args.frames.now ≤ c.loop-frame.frame-index = omega (arith, c.loop-frame-test.false) in
    subst (λ (fs : List Frame). HandedAll g.L.Link.sent g.L.Link.given g.L.Link.fault_count fs (c.args.before + 1) c.args.link.now c.args.index.now c.loop-frame.index c.loop-frame.link) (all_taken c.loop-frame.frame-index c.args.frames.now past) c.loop-frame.invariant.handed
