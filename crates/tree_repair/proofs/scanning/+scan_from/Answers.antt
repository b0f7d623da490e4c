use Rattle.std.proofs.Common.{◌∙◌, ◌-◌, arith}
use Rattle.synctree.specs.Sixteen.{form_of}
use Rattle.tree_repair.proofs.Stepping.{scan_err, scan_last, scan_memory, scan_next}
use Rattle.tree_repair.proofs.scanning.+scan_from.Goals as goal

pub returns-in_err-level-clause-did : goal.returns-in_err-level-clause-did
returns-in_err-level-clause-did g t c = scan_err g.N.NodeStore.may_answer g.N.NodeStore.may_refuse g.N.NodeStore.top_record g.N.NodeStore.fault_count g.H.Hasher16.kept g.H.Hasher16.clashes g.H.Hasher16.fulls (form_of c.args.version) c.args.height c.args.slots.now (c.args.tree.now.store, c.args.hasher.now) (c.read_level.new.tree.store, c.read_level.new.hasher) c.from_residual.result c.in_err-level.field-0.0 _ (c.in_err-level.ensures).did c.from_residual.ensures.0 c.from_residual.ensures.1 (λ d h. h)

pub last_level-requires-clause-reads : goal.last_level-requires-clause-reads
last_level-requires-clause-reads g t c = (c.in_ok-level.ensures).reads

pub returns-then-height-eq0-clause-did : goal.returns-then-height-eq0-clause-did
returns-then-height-eq0-clause-did g t c = scan_last g.N.NodeStore.may_answer g.N.NodeStore.may_refuse g.N.NodeStore.top_record g.N.NodeStore.fault_count g.H.Hasher16.kept g.H.Hasher16.clashes g.H.Hasher16.fulls (form_of c.args.version) c.args.height c.args.slots.now (c.args.tree.now.store, c.args.hasher.now) (c.read_level.new.tree.store, c.read_level.new.hasher) c.in_ok-level.level.reads c.last_level.result c.if-height-eq0.true (c.in_ok-level.ensures).did.0 c.last_level.ensures

pub next_level-requires-clause-reads : goal.next_level-requires-clause-reads
next_level-requires-clause-reads g t c = (c.in_ok-level.ensures).reads

pub returns-in_err-next-clause-did : goal.returns-in_err-next-clause-did
returns-in_err-next-clause-did g t c = scan_memory g.N.NodeStore.may_answer g.N.NodeStore.may_refuse g.N.NodeStore.top_record g.N.NodeStore.fault_count g.H.Hasher16.kept g.H.Hasher16.clashes g.H.Hasher16.fulls (form_of c.args.version) c.args.height (c.args.height - 1) c.args.slots.now (c.args.tree.now.store, c.args.hasher.now) (c.read_level.new.tree.store, c.read_level.new.hasher) c.in_ok-level.level.reads c.from_residual-in_err-next.result c.in_err-next.field-0.0 _ (omega (arith, c.if-height-eq0.false)) (c.in_ok-level.ensures).did.0 (c.in_err-next.ensures).memory c.from_residual-in_err-next.ensures.0 c.from_residual-in_err-next.ensures.1 (λ d h. h)

pub returns-clause-did : goal.returns-clause-did
returns-clause-did g t c = scan_next g.N.NodeStore.may_answer g.N.NodeStore.may_refuse g.N.NodeStore.top_record g.N.NodeStore.fault_count g.H.Hasher16.kept g.H.Hasher16.clashes g.H.Hasher16.fulls (form_of c.args.version) c.args.height (c.args.height - 1) c.args.slots.now c.as_slice.result.now (c.args.tree.now.store, c.args.hasher.now) (c.read_level.new.tree.store, c.read_level.new.hasher) (c.scan_from.new.tree.store, c.scan_from.new.hasher) c.in_ok-level.level.reads c.scan_from.result (omega (arith, c.if-height-eq0.false)) (c.in_ok-level.ensures).did.0 (c.as_slice.ensures ∙ (c.in_ok-next.ensures).ok) (c.scan_from.ensures).did
