use Rattle.std.proofs.Common.{ap, subst, ℕ, List}
use Rattle.synctree.specs.Forms.{root}
use Rattle.synctree.specs.Answers.{Spells}
use Rattle.synctree.specs.Shapes.{version_in}
use Rattle.synctree.specs.Walks.{fetch, spelled}
use Rattle.synctree.proofs.Exits.{after, cut_off, spelled_did}
use Rattle.synctree.proofs.versions.open_root.Goals as goal

pub returns-in_err-bytes : goal.returns-in_err-bytes
returns-in_err-bytes g c = cut_off g.N.NodeStore.may_answer g.N.NodeStore.may_refuse g.N.NodeStore.top_record g.N.NodeStore.fault_count g.H.Hasher16.kept g.H.Hasher16.clashes g.H.Hasher16.fulls (fetch root c.args.digest.now) (λ bytes. spelled root (version_in bytes)) (c.args.nodes.now, c.args.hasher.now) (c.fetch.new.nodes, c.fetch.new.hasher) c.from_residual.result c.in_err-bytes.field-0.0 _ c.in_err-bytes.ensures c.from_residual.ensures.0 c.from_residual.ensures.1 (λ d h. h)

pub returns : goal.returns
returns g c = after g.N.NodeStore.may_answer g.N.NodeStore.may_refuse g.N.NodeStore.top_record g.N.NodeStore.fault_count g.H.Hasher16.kept g.H.Hasher16.clashes g.H.Hasher16.fulls (fetch root c.args.digest.now) (λ bytes. spelled root (version_in bytes)) (c.args.nodes.now, c.args.hasher.now) (c.fetch.new.nodes, c.fetch.new.hasher) (c.fetch.new.nodes, c.fetch.new.hasher) c.in_ok-bytes.bytes c.root_version.result c.in_ok-bytes.ensures
    (spelled_did g.N.NodeStore.may_answer g.N.NodeStore.may_refuse g.N.NodeStore.top_record g.N.NodeStore.fault_count g.H.Hasher16.kept g.H.Hasher16.clashes g.H.Hasher16.fulls c.root_version.result root (version_in c.in_ok-bytes.bytes) (c.fetch.new.nodes, c.fetch.new.hasher)
    (subst (λ x. Spells c.root_version.result root x) (ap (λ (b : List ℕ). version_in b) c.as_slice.ensures) c.root_version.ensures))
