use Rattle.std.proofs.Common.{◌∙◌, ◌++◌, ◌+◌, ◌≤◌, sym, subst, arith, length, List}
use Rattle.std.specs.List.{AllByRecursion}
use Rattle.tree_node.specs.declared.position.Position.{Position}
use Rattle.tree_node.specs.declared.version.TreeVersion.TheVariants.{Two}
use Rattle.tree_node.specs.Positions.{IsPosition}
use Rattle.tree_exchange.specs.Asks.{if_unknown, to_ask}
use Rattle.tree_exchange.proofs.Widths.{ask_next, ask_end, asked_places}
use Rattle.tree_exchange.proofs.children.children_to_ask.Goals as goal

pub loop-i-preserved : goal.loop-i-preserved
loop-i-preserved c = λ tree. ask_next tree c.args.damaged.now c.args.at c.args.own.now c.args.names.now c.loop-i.i c.index-names-i.result (to_ask tree c.args.damaged.now c.args.at c.args.own.now 0 c.args.names.now) c.loop-i.asked.items _
    c.loop-i-test.true c.index-names-i.is (c.loop-i.invariant tree)
    ((c.in_ok-push_unknown.ensures).ok ∙ (λ j. c.loop-i.asked.items ++ if_unknown c.args.damaged.now (c.child-place.ensures tree j) (c.name_of.ensures j) c.index-names-i.result))

pub returns-clause-ok : goal.returns-clause-ok
returns-clause-ok c = λ tree. ask_end tree c.args.damaged.now c.args.at c.args.own.now c.args.names.now c.loop-i.i (to_ask tree c.args.damaged.now c.args.at c.args.own.now 0 c.args.names.now) c.loop-i.asked.items c.loop-i-test.false (c.loop-i.invariant tree)

pub returns-clause-positions : goal.returns-clause-positions
returns-clause-positions c = subst (λ (ps : List Position). AllByRecursion (IsPosition Two) ps)
    (sym (ask_end Two c.args.damaged.now c.args.at c.args.own.now c.args.names.now c.loop-i.i (to_ask Two c.args.damaged.now c.args.at c.args.own.now 0 c.args.names.now) c.loop-i.asked.items c.loop-i-test.false (c.loop-i.invariant Two)))
    (asked_places Two c.args.damaged.now c.args.at c.args.own.now c.args.names.now 0 (c.requires).position (c.requires).above few)
  where
    few : 0 + length c.args.names.now ≤ 16
    few = omega (arith, (c.requires).width)
