use Rattle.std.proofs.Common.{◌≡◌, ◌∙◌, ap, sym, subst, arith, ℕ, List, Option, None, Some, IfOk}
use Rattle.tree_node.specs.declared.position.Position.{Position}
use Rattle.synctree.proofs.Descending.{parent_position}
use Rattle.world_stores.proofs.Stepping.{named_above}
use Rattle.world_stores.proofs.naming.+named_at.Goals as goal

pub named_at-requires : goal.named_at-requires
named_at-requires t c = (
  (let lower = ap (λ (p : Position). p.level) c.parent-above.ensures in omega (arith, c.decreases, lower, c.if-at-eq0.false)),
  parent_position c.args.version c.args.at c.parent-above.result c.requires (omega (arith, c.if-at-eq0.false)) c.parent-above.ensures,
)

pub child_under-requires : goal.child_under-requires
child_under-requires t c = parent_position c.args.version c.args.at c.parent-above.result c.requires (omega (arith, c.if-at-eq0.false)) c.parent-above.ensures

pub returns-in-Some-clause-found : goal.returns-in-Some-clause-found
returns-in-Some-clause-found t c = subst (λ (q : Option (List ℕ)). IfOk c.child_under.result (λ o. o ≡ q))
    (named_above c.args.version c.args.nodes.now c.args.at c.parent-above.result (Some c.in-Some.digest) (omega (arith, c.if-at-eq0.false)) c.parent-above.ensures (sym c.in-Some.is ∙ c.in_ok-digest.ensures.found)) c.child_under.ensures.found

pub returns-in-None-clause-found : goal.returns-in-None-clause-found
returns-in-None-clause-found t c = named_above c.args.version c.args.nodes.now c.args.at c.parent-above.result None (omega (arith, c.if-at-eq0.false)) c.parent-above.ensures (sym c.in-None.is ∙ c.in_ok-digest.ensures.found)
