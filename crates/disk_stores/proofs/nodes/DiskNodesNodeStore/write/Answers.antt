use Rattle.std.proofs.Common.{◌≡◌, ℕ, length, refl, sym, ap, ◌∙◌}
use Rattle.disk_stores.proofs.NodeCalls.{write_done}
use Rattle.disk_stores.proofs.nodes.DiskNodesNodeStore.write.Goals as goal

pub returns-clause-answer : goal.returns-clause-answer
returns-clause-answer g c =
    let long : length c.args.digest.now ≡ 16 = ap (length {A = ℕ}) (sym c.digest.view_is) ∙ c.digest.told in
    write_done g.D.Disk.seen c.args.self.now (record c.args.self.now { log = c.put.new.self }) c.args.digest.now _ c.args.bytes.now c.put.result (c.in_ok-name.ensures ∙ c.digest.view_is) long refl c.put.ensures.holds c.put.ensures.clean
