use Rattle.std.proofs.Common.{◌∙◌, ◌-◌, ◌/◌, ◌%◌, ap, sym, refl, [], subst, arith, ℕ, List, Option, None, Ok}
use Rattle.std.proofs.Math.Nat.{mod-lt}
use Rattle.synctree.specs.TreeNode.{Position}
use Rattle.synctree.specs.Sixteen.{form_of}
use Rattle.synctree.proofs.Below.{place}
use Rattle.synctree.specs.Walks.{onward}
use Rattle.synctree.specs.Nodes.{child_name}
use Rattle.synctree.proofs.Exits.{DidOutside}
use Rattle.synctree.proofs.Places.{width_is}
use Rattle.synctree.proofs.Descending.{name_first, name_err, name_next, parent_position}
use Rattle.synctree.proofs.nodes.+name_at.Goals as goal

pub returns-then-at-eq0 : goal.returns-then-at-eq0
returns-then-at-eq0 g t c = name_first g.N.NodeStore.may_answer g.N.NodeStore.may_refuse g.N.NodeStore.top_record g.N.NodeStore.fault_count g.H.Hasher16.kept g.H.Hasher16.clashes g.H.Hasher16.fulls (form_of c.args.version) c.args.at.level c.args.at.index c.args.top.now (c.args.nodes.now, c.args.hasher.now) c.if-at-eq0.true

pub name_at-requires : goal.name_at-requires
name_at-requires g t c κs within = (
  (let lower = ap (λ (p : Position). p.level) c.parent-above.ensures in omega (arith, c.decreases, lower, c.if-at-eq0.false)),
  (within.0, (within.1, parent_position c.args.version c.args.at c.parent-above.result c.requires (omega (arith, c.if-at-eq0.false)) c.parent-above.ensures)),
)

pub returns-in_err-digest : goal.returns-in_err-digest
returns-in_err-digest g t c = name_err g.N.NodeStore.may_answer g.N.NodeStore.may_refuse g.N.NodeStore.top_record g.N.NodeStore.fault_count g.H.Hasher16.kept g.H.Hasher16.clashes g.H.Hasher16.fulls (form_of c.args.version) c.args.at c.parent-above.result c.args.top.now (c.args.nodes.now, c.args.hasher.now) (c.name_at.new.nodes, c.name_at.new.hasher) c.from_residual.result c.in_err-digest.field-0.0 _ (omega (arith, c.if-at-eq0.false))
    (c.parent-above.ensures ∙ ap (λ (w : ℕ). place (c.args.at.level - 1) (c.args.at.index / w)) (sym (width_is c.args.version))) c.in_err-digest.ensures c.from_residual.ensures.0 c.from_residual.ensures.1 (λ d h. h)

pub returns-in-Some : goal.returns-in-Some
returns-in-Some g t c = name_next g.N.NodeStore.may_answer g.N.NodeStore.may_refuse g.N.NodeStore.top_record g.N.NodeStore.fault_count g.H.Hasher16.kept g.H.Hasher16.clashes g.H.Hasher16.fulls (form_of c.args.version) c.args.at c.parent-above.result c.args.top.now (c.args.nodes.now, c.args.hasher.now) (c.name_at.new.nodes, c.name_at.new.hasher) (c.child_name.new.nodes, c.child_name.new.hasher) c.in_ok-digest.field-0 c.child_name.result (omega (arith, c.if-at-eq0.false))
    (c.parent-above.ensures ∙ ap (λ (w : ℕ). place (c.args.at.level - 1) (c.args.at.index / w)) (sym (width_is c.args.version))) c.in_ok-digest.ensures
    (subst (λ (q : Option (List ℕ)). DidOutside g.N.NodeStore.may_answer g.N.NodeStore.may_refuse g.N.NodeStore.top_record g.N.NodeStore.fault_count g.H.Hasher16.kept g.H.Hasher16.clashes g.H.Hasher16.fulls (onward None (child_name (form_of c.args.version) c.parent-above.result (c.args.at.index % (form_of c.args.version).width)) q) (c.name_at.new.nodes, c.name_at.new.hasher) c.child_name.result (c.child_name.new.nodes, c.child_name.new.hasher)) (sym c.in-Some.is)
    (subst (λ (w : ℕ). DidOutside g.N.NodeStore.may_answer g.N.NodeStore.may_refuse g.N.NodeStore.top_record g.N.NodeStore.fault_count g.H.Hasher16.kept g.H.Hasher16.clashes g.H.Hasher16.fulls (child_name (form_of c.args.version) c.parent-above.result (c.args.at.index % w) c.in-Some.digest) (c.name_at.new.nodes, c.name_at.new.hasher) c.child_name.result (c.child_name.new.nodes, c.child_name.new.hasher)) (sym (width_is c.args.version)) c.child_name.ensures))

pub returns-in-None : goal.returns-in-None
returns-in-None g t c = name_next g.N.NodeStore.may_answer g.N.NodeStore.may_refuse g.N.NodeStore.top_record g.N.NodeStore.fault_count g.H.Hasher16.kept g.H.Hasher16.clashes g.H.Hasher16.fulls (form_of c.args.version) c.args.at c.parent-above.result c.args.top.now (c.args.nodes.now, c.args.hasher.now) (c.name_at.new.nodes, c.name_at.new.hasher) (c.name_at.new.nodes, c.name_at.new.hasher) c.in_ok-digest.field-0 (Ok None) (omega (arith, c.if-at-eq0.false))
    (c.parent-above.ensures ∙ ap (λ (w : ℕ). place (c.args.at.level - 1) (c.args.at.index / w)) (sym (width_is c.args.version))) c.in_ok-digest.ensures
    (subst (λ (q : Option (List ℕ)). DidOutside g.N.NodeStore.may_answer g.N.NodeStore.may_refuse g.N.NodeStore.top_record g.N.NodeStore.fault_count g.H.Hasher16.kept g.H.Hasher16.clashes g.H.Hasher16.fulls (onward None (child_name (form_of c.args.version) c.parent-above.result (c.args.at.index % (form_of c.args.version).width)) q) (c.name_at.new.nodes, c.name_at.new.hasher) (Ok None) (c.name_at.new.nodes, c.name_at.new.hasher)) (sym c.in-None.is) ([], (refl, refl, refl)))

pub child_name-requires-clause-digit : goal.child_name-requires-clause-digit
child_name-requires-clause-digit g t c = mod-lt c.args.at.index (omega arith)

pub child_name-requires-clause-position : goal.child_name-requires-clause-position
child_name-requires-clause-position g t c = parent_position c.args.version c.args.at c.parent-above.result c.requires (omega (arith, c.if-at-eq0.false)) c.parent-above.ensures
