use Rattle.std.proofs.Common.{◌∙◌, sym}
use Rattle.world_model.proofs.Takes.{ok_taken, refused_taken, refused_cut, awake, named, comes_here, up_taken, fallen_taken, up_cut, none_goes, goes_as, refused_may_go}
use Rattle.world_model.proofs.peer.WorldPeer.step.Goals as goal

pub returns-in-Ok-clause-taken : goal.returns-in-Ok-clause-taken
returns-in-Ok-clause-taken g c =
    let me = c.args.self.now.me in
    let node = c.args.self.now.node in
    let peer = c.in-Up.peer in
    let own = c.args.self.now.own in
    let come = comes_here me c.args.event node peer c.in-Up.is own c.requires in
    let up = awake me c.args.event node peer c.in-Up.is own in
    up_taken me c.args.event node peer c.in-Up.is own _ _ _ _ _
    (ok_taken peer c.args.event come up c.step.new.self c.new-out.result c.step.new.out c.new-out.ensures.alone c.new-out.ensures.notes
    g.H.Hasher16.kept g.H.Hasher16.clashes g.H.Hasher16.fulls c.args.hasher.now c.step.new.hasher _ c.in-Ok.ensures.halted c.in-Ok.ensures.took)

pub returns-in-Ok-clause-may_go : goal.returns-in-Ok-clause-may_go
returns-in-Ok-clause-may_go g c =
    let peer = c.in-Up.peer in
    goes_as peer.me c.args.self.now.me c.step.new.out (named c.args.self.now.me c.args.event c.args.self.now.node peer c.in-Up.is c.args.self.now.own) (c.in-Ok.ensures.may_go (none_goes peer.me c.new-out.result c.new-out.ensures.alone))

pub returns-in-None-clause-taken : goal.returns-in-None-clause-taken
returns-in-None-clause-taken g c =
    let me = c.args.self.now.me in
    let node = c.args.self.now.node in
    let peer = c.in-Up.peer in
    let own = c.args.self.now.own in
    let come = comes_here me c.args.event node peer c.in-Up.is own c.requires in
    let up = awake me c.args.event node peer c.in-Up.is own in
    fallen_taken me c.args.event node peer c.in-Up.is own _ _ c.stop.new.self c.step.new.self.machine.stores _ _ c.stop.ensures
    (refused_taken peer c.args.event come up c.step.new.self c.new-out.result c.step.new.out c.new-out.ensures.alone c.new-out.ensures.notes
    g.H.Hasher16.kept g.H.Hasher16.clashes g.H.Hasher16.fulls c.args.hasher.now c.step.new.hasher c.in-Err.error (sym c.world_error.ensures ∙ c.in-None.is) c.in-Err.ensures.halted c.in-Err.ensures.took)

pub returns-in-None-clause-may_go : goal.returns-in-None-clause-may_go
returns-in-None-clause-may_go g c =
    let up = awake c.args.self.now.me c.args.event c.args.self.now.node c.in-Up.peer c.in-Up.is c.args.self.now.own in
    refused_may_go c.in-Up.peer c.args.self.now.me c.in-Err.error c.new-out.result c.step.new.out up c.new-out.ensures.alone c.in-Err.ensures.halted c.in-Err.ensures.took

pub returns-in-Some-clause-error : goal.returns-in-Some-clause-error
returns-in-Some-clause-error g c =
    let me = c.args.self.now.me in
    let node = c.args.self.now.node in
    let peer = c.in-Up.peer in
    let own = c.args.self.now.own in
    let come = comes_here me c.args.event node peer c.in-Up.is own c.requires in
    let up = awake me c.args.event node peer c.in-Up.is own in
    up_cut me c.args.event node peer c.in-Up.is own _ _ c.in-Some.error
    (refused_cut peer c.args.event come up c.step.new.self c.new-out.result c.step.new.out c.new-out.ensures.alone c.new-out.ensures.notes
    g.H.Hasher16.kept g.H.Hasher16.clashes g.H.Hasher16.fulls c.args.hasher.now c.step.new.hasher c.in-Err.error c.in-Some.error (sym c.world_error.ensures ∙ c.in-Some.is) c.in-Err.ensures.halted c.in-Err.ensures.took)
