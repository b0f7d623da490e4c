use Rattle.std.proofs.Common.{◌≡◌, ◌∙◌, ◌++◌, ◌-◌, ap, sym, map, List}
use Rattle.md5.specs.Md5.{md5}
use Rattle.tree_node.specs.TreeVersions.{levels}
use Rattle.synctree.specs.Forms.{root}
use Rattle.synctree.specs.Maps.{text}
use Rattle.synctree.specs.Sixteen.{form_of}
use Rattle.synctree.specs.declared.stored_node.StoredNode.{StoredNode}
use Rattle.tree_repair.specs.Admitting.{AdmitsAll}
use Rattle.tree_repair.specs.Builds.{stored, nodes_down, build_nodes}
use Rattle.tree_repair.proofs.Admissions.{passed_on}
use Rattle.tree_repair.proofs.Climbing.{all_nodes, first_name, some_same, build_admits, build_rejects}
use Rattle.tree_repair.proofs.building.build.Goals as goal

pub returns-in_err-root-clause-admits : goal.returns-in_err-root-clause-admits
returns-in_err-root-clause-admits g c = passed_on c.from_residual.result c.in_err-root.field-0.0 _
    (λ r. AdmitsAll g.H.Hasher16.kept g.H.Hasher16.clashes g.H.Hasher16.fulls (build_nodes (form_of c.args.version) c.args.entries.now) c.args.hasher.now r c.build_level.new.hasher)
    c.from_residual.ensures.0 c.from_residual.ensures.1 (λ d h. h)
    (build_rejects g.H.Hasher16.kept g.H.Hasher16.clashes g.H.Hasher16.fulls c.args.version c.args.entries.now c.args.hasher.now c.build_level.new.hasher c.in_err-root.field-0.0 (c.in_err-root.ensures).admits)

pub returns-clause-built : goal.returns-clause-built
returns-clause-built g c = λ i. record { nodes = nodes i; top = top i }
  where
    nodes : c.new.result ≡ map stored (build_nodes (form_of c.args.version) c.args.entries.now)
    nodes = c.new.ensures ∙ (c.in_ok-root.ensures).nodes ∙ ap (λ (ns : List StoredNode). ns ++ map stored (nodes_down (form_of c.args.version) (levels c.args.version - 0) 0 c.args.entries.now)) c.new-nodes.ensures.items ∙ ap (map stored) (all_nodes c.args.version c.args.entries.now)

    top : c.unwrap.result ≡ md5 (text (form_of c.args.version) (form_of c.args.version).depth root c.args.entries.now)
    top = some_same c.unwrap.result (md5 (text (form_of c.args.version) (form_of c.args.version).depth root c.args.entries.now)) (sym c.unwrap.ensures ∙ first_name c.args.version c.args.entries.now c.in_ok-root.root.names.items c.index.result.now c.index.result.now (c.in_ok-root.ensures).names c.index.ensures)

pub returns-clause-stands : goal.returns-clause-stands
returns-clause-stands g c = λ a. record { is_map = a; root_is = top }
  where
    top : c.unwrap.result ≡ md5 (text (form_of c.args.version) (form_of c.args.version).depth root c.args.entries.now)
    top = some_same c.unwrap.result (md5 (text (form_of c.args.version) (form_of c.args.version).depth root c.args.entries.now)) (sym c.unwrap.ensures ∙ first_name c.args.version c.args.entries.now c.in_ok-root.root.names.items c.index.result.now c.index.result.now (c.in_ok-root.ensures).names c.index.ensures)

pub returns-clause-admits : goal.returns-clause-admits
returns-clause-admits g c = build_admits g.H.Hasher16.kept g.H.Hasher16.clashes g.H.Hasher16.fulls c.args.version c.args.entries.now c.args.hasher.now c.build_level.new.hasher (c.in_ok-root.ensures).admits
