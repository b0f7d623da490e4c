use Rattle.std.proofs.Common.{◌≡◌, ℕ, length, refl, sym, ap, ◌∙◌}
use Rattle.disk_stores.proofs.NodeCalls.{read_done}
use Rattle.disk_stores.proofs.nodes.DiskNodesNodeStore.read.Goals as goal

pub returns-clause-answer : goal.returns-clause-answer
returns-clause-answer g c =
    let long : length c.args.digest.now ≡ 16 = ap (length {A = ℕ}) (sym c.digest.view_is) ∙ c.digest.told in
    read_done g.D.Disk.seen c.args.self.now (record c.args.self.now { log = c.find.new.self }) c.args.digest.now _ c.find.result c.digest.view_is long refl c.find.ensures.found c.find.ensures.holds c.find.ensures.clean
