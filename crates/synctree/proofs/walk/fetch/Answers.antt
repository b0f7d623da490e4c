use Rattle.synctree.specs.Walks.{fetch}
use Rattle.synctree.proofs.Exits.{DidOutside, passed_on, fetch_none, fetch_hash_err, fetch_ok, fetch_other}
use Rattle.synctree.proofs.walk.fetch.Goals as goal

pub returns-in-None : goal.returns-in-None
returns-in-None g c = fetch_none g.N.NodeStore.may_answer g.N.NodeStore.may_refuse g.N.NodeStore.top_record g.N.NodeStore.fault_count g.H.Hasher16.kept g.H.Hasher16.clashes g.H.Hasher16.fulls c.args.at c.args.digest.now c.args.nodes.now c.read.new.nodes c.args.hasher.now c.in_ok-bytes.field-0 c.in-None.is c.in_ok-bytes.ensures

pub returns-in_err-hash : goal.returns-in_err-hash
returns-in_err-hash g c = passed_on c.from_residual-in_err-hash.result c.in_err-hash.field-0.0 _
    (λ r. DidOutside g.N.NodeStore.may_answer g.N.NodeStore.may_refuse g.N.NodeStore.top_record g.N.NodeStore.fault_count g.H.Hasher16.kept g.H.Hasher16.clashes g.H.Hasher16.fulls (fetch c.args.at c.args.digest.now) (c.args.nodes.now, c.args.hasher.now) r (c.read.new.nodes, c.hash.new.hasher))
    c.from_residual-in_err-hash.ensures.0 c.from_residual-in_err-hash.ensures.1 (λ d h. h)
    (fetch_hash_err g.N.NodeStore.may_answer g.N.NodeStore.may_refuse g.N.NodeStore.top_record g.N.NodeStore.fault_count g.H.Hasher16.kept g.H.Hasher16.clashes g.H.Hasher16.fulls c.args.at c.args.digest.now c.in-Some.bytes c.as_slice.result.now c.args.nodes.now c.read.new.nodes c.args.hasher.now c.hash.new.hasher c.in_ok-bytes.field-0 c.in_err-hash.field-0.0 c.in-Some.is c.in_ok-bytes.ensures c.as_slice.ensures (c.in_err-hash.ensures).did)

pub returns-then-eq : goal.returns-then-eq
returns-then-eq g c = fetch_ok g.N.NodeStore.may_answer g.N.NodeStore.may_refuse g.N.NodeStore.top_record g.N.NodeStore.fault_count g.H.Hasher16.kept g.H.Hasher16.clashes g.H.Hasher16.fulls c.args.at c.args.digest.now c.in-Some.bytes c.as_slice.result.now c.in_ok-hash.field-0 c.args.nodes.now c.read.new.nodes c.args.hasher.now c.hash.new.hasher c.in_ok-bytes.field-0 c.in-Some.is c.in_ok-bytes.ensures c.as_slice.ensures (c.in_ok-hash.ensures).did (c.in_ok-hash.ensures).digest c.if-eq.ensures

pub returns-else-eq : goal.returns-else-eq
returns-else-eq g c = fetch_other g.N.NodeStore.may_answer g.N.NodeStore.may_refuse g.N.NodeStore.top_record g.N.NodeStore.fault_count g.H.Hasher16.kept g.H.Hasher16.clashes g.H.Hasher16.fulls c.args.at c.args.digest.now c.in-Some.bytes c.as_slice.result.now c.in_ok-hash.field-0 c.args.nodes.now c.read.new.nodes c.args.hasher.now c.hash.new.hasher c.in_ok-bytes.field-0 c.in-Some.is c.in_ok-bytes.ensures c.as_slice.ensures (c.in_ok-hash.ensures).did (c.in_ok-hash.ensures).digest c.if-eq.ensures
