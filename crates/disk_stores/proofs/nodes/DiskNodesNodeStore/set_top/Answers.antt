use Rattle.std.proofs.Common.{◌≡◌, ℕ, length, Some, sym, ap, ◌∙◌}
use Rattle.disk_stores.proofs.NodeCalls.{top_done}
use Rattle.disk_stores.proofs.nodes.DiskNodesNodeStore.set_top.Goals as goal

pub returns-clause-answer : goal.returns-clause-answer
returns-clause-answer g c =
    let long : length c.args.digest.now ≡ 16 = ap (length {A = ℕ}) (sym c.digest.view_is) ∙ c.digest.told in
    top_done g.D.Disk.seen c.args.self.now (record c.args.self.now { log = c.put.new.self; top = Some c.digest.inside.0 }) c.args.digest.now _ _ (c.new-2.ensures ∙ c.new.ensures.items) c.digest.view_is long (ap Some c.digest.view_is) c.in_ok-put.ensures.holds c.in_ok-put.ensures.clean
