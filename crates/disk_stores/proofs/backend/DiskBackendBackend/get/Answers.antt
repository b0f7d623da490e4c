use Rattle.disk_stores.proofs.Objects.{get_done}
use Rattle.disk_stores.proofs.backend.DiskBackendBackend.get.Goals as goal

pub returns-clause-answer : goal.returns-clause-answer
returns-clause-answer g c =
    get_done g.D.Disk.seen c.args.self.now (record { log = c.find.new.self }) c.args.key.now _ c.find.result c.bytes.ensures.bytes c.find.ensures.found c.find.ensures.holds c.find.ensures.clean
