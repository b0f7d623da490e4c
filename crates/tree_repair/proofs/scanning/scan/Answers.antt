use Rattle.std.proofs.Common.{rules, ◌∷◌, ◌∙◌, [], ap, sym, subst, ℕ, List, Option}
use Rattle.tree_node.specs.declared.version.TreeVersion.{TreeVersion}
use Rattle.synctree.specs.Forms.{root}
use Rattle.synctree.specs.Sixteen.{form_of}
use Rattle.synctree.proofs.Formats.{form_laws}
use Rattle.synctree.specs.Outsides.{outside_does, outside_refuses}
use Rattle.synctree.proofs.Exits.{DidOutside}
use Rattle.synctree.proofs.Places.{depth_is}
use Rattle.tree_repair.specs.declared.slot.Slot.{Slot}
use Rattle.tree_repair.specs.Levels.{slot, scan_from}
use Rattle.tree_repair.specs.Slots.{AreSlots}
use Rattle.tree_repair.proofs.Stepping.{first_slots}
use Rattle.tree_repair.proofs.Telling.{scans_of}
use Rattle.tree_repair.proofs.scanning.scan.Goals as goal

pub scan_from-requires : goal.scan_from-requires
scan_from-requires g c = (search rules, (search rules, subst (λ (xs : List Slot). AreSlots c.version-version.result c.levels-height.result xs) (sym c.as_slice.ensures) (first_slots c.version-version.result c.levels-height.result c.top.result c.levels-height.ensures)))

pub returns-clause-did : goal.returns-clause-did
returns-clause-did g c = subst (λ (v : TreeVersion). DidOutside g.N.NodeStore.may_answer g.N.NodeStore.may_refuse g.N.NodeStore.top_record g.N.NodeStore.fault_count g.H.Hasher16.kept g.H.Hasher16.clashes g.H.Hasher16.fulls (scan_from (form_of v) (form_of v).depth (slot root c.args.tree.now.top ∷ [])) (c.args.tree.now.store, c.args.hasher.now) c.scan_from.result (c.scan_from.new.tree.store, c.scan_from.new.hasher)) c.version-version.ensures
    (subst (λ (h : ℕ). DidOutside g.N.NodeStore.may_answer g.N.NodeStore.may_refuse g.N.NodeStore.top_record g.N.NodeStore.fault_count g.H.Hasher16.kept g.H.Hasher16.clashes g.H.Hasher16.fulls (scan_from (form_of c.version-version.result) h (slot root c.args.tree.now.top ∷ [])) (c.args.tree.now.store, c.args.hasher.now) c.scan_from.result (c.scan_from.new.tree.store, c.scan_from.new.hasher)) (c.levels-height.ensures ∙ sym (depth_is c.version-version.result))
    (subst (λ (xs : List Slot). DidOutside g.N.NodeStore.may_answer g.N.NodeStore.may_refuse g.N.NodeStore.top_record g.N.NodeStore.fault_count g.H.Hasher16.kept g.H.Hasher16.clashes g.H.Hasher16.fulls (scan_from (form_of c.version-version.result) c.levels-height.result xs) (c.args.tree.now.store, c.args.hasher.now) c.scan_from.result (c.scan_from.new.tree.store, c.scan_from.new.hasher)) (c.as_slice.ensures ∙ ap (λ (q : Option (List ℕ)). slot root q ∷ []) c.top.ensures) (c.scan_from.ensures).did))

pub returns-clause-finds : goal.returns-clause-finds
returns-clause-finds g c = scans_of (form_of c.args.tree.now.version) (form_laws c.args.tree.now.version) (outside_does g.N.NodeStore.may_answer g.N.NodeStore.top_record g.N.NodeStore.fault_count g.H.Hasher16.kept g.H.Hasher16.clashes g.H.Hasher16.fulls)
    (outside_refuses g.N.NodeStore.may_refuse g.N.NodeStore.top_record g.N.NodeStore.fault_count g.H.Hasher16.kept g.H.Hasher16.clashes g.H.Hasher16.fulls)
    c.args.tree.now.top (c.args.tree.now.store, c.args.hasher.now) (c.scan_from.new.tree.store, c.scan_from.new.hasher) c.scan_from.result (returns-clause-did g c)
