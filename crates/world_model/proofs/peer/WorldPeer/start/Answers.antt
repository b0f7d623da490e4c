use Rattle.std.proofs.Common.{◌≡◌, ap, sym, ◌∙◌}
use Rattle.world_model.proofs.Takes.{start_ok, start_refused, start_cut}
use Rattle.world_model.specs.declared.node.MemNode.TheVariants as memory
use Rattle.world_model.proofs.peer.WorldPeer.start.Goals as goal

pub returns-in-Ok-clause-ok : goal.returns-in-Ok-clause-ok
returns-in-Ok-clause-ok g c =
    let down : c.args.self.now.node ≡ memory.Down c.replace-stores.result = c.in-Down.is ∙ ap memory.Down (sym c.replace-stores.ensures.value) in
    start_ok g.H.Hasher16.kept g.H.Hasher16.clashes g.H.Hasher16.fulls c.args.mode c.args.opening c.args.self.now.node c.replace-stores.result c.args.hasher.now c.start.new.hasher down c.in-Ok.peer.machine.state c.in-Ok.peer.machine.stores c.in-Ok.ensures.started

pub returns-in-None-clause-ok : goal.returns-in-None-clause-ok
returns-in-None-clause-ok g c =
    let down : c.args.self.now.node ≡ memory.Down c.replace-stores.result = c.in-Down.is ∙ ap memory.Down (sym c.replace-stores.ensures.value) in
    start_refused g.H.Hasher16.kept g.H.Hasher16.clashes g.H.Hasher16.fulls c.args.mode c.args.opening c.args.self.now.node c.replace-stores.result c.args.hasher.now c.start.new.hasher down c.in-Err.refused.error c.in-Err.refused.held
    (sym c.world_error.ensures ∙ c.in-None.is) c.in-Err.ensures.stopped

pub returns-in-Some-clause-error : goal.returns-in-Some-clause-error
returns-in-Some-clause-error g c =
    let down : c.args.self.now.node ≡ memory.Down c.replace-stores.result = c.in-Down.is ∙ ap memory.Down (sym c.replace-stores.ensures.value) in
    start_cut g.H.Hasher16.kept g.H.Hasher16.clashes g.H.Hasher16.fulls c.args.mode c.args.opening c.args.self.now.node c.replace-stores.result c.args.hasher.now c.start.new.hasher down c.in-Err.refused.error c.in-Err.refused.held c.in-Some.error
    (sym c.world_error.ensures ∙ c.in-Some.is) c.in-Err.ensures.stopped
