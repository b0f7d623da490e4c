use Rattle.std.proofs.Common.{◌<◌, length, rules}
use Rattle.std.proofs.lemmas.List.Sorted.{IsNonDecreasingBy-from_sort_by_key, All-permutation}
use Rattle.tree_repair.specs.declared.order.Placed.{Placed}
use Rattle.tree_repair.specs.Segments.{placed}
use Rattle.tree_repair.proofs.Placing.{placed_more, placed_all, placed_within, stable_parts}
use Rattle.tree_repair.proofs.order.in_order.Goals as goal

pub loop-entry-preserved : goal.loop-entry-preserved
loop-entry-preserved c = placed_more c.args.segments.now c.loop-entry.entry c.loop-entry.order.items c.push.new.self.items (placed c.args.segments.now 0) c.loop-entry-test.true (c.in_ok-push.ensures).items c.loop-entry.invariant

pub returns-clause-rises : goal.returns-clause-rises
returns-clause-rises c = IsNonDecreasingBy-from_sort_by_key (λ (p : Placed). p.segment) c.sort_by_key.new.self.items (c.in_ok-sort_by_key.ensures).sorted (λ a r f' k. search rules)

pub returns-clause-parts : goal.returns-clause-parts
returns-clause-parts c = stable_parts (placed c.args.segments.now 0) c.loop-entry.order.items c.sort_by_key.new.self.items (placed_all c.args.segments.now c.loop-entry.entry c.loop-entry.order.items c.loop-entry-test.false c.loop-entry.invariant) (c.in_ok-sort_by_key.ensures).stable (λ a r f' k. search rules)

pub returns-clause-within : goal.returns-clause-within
returns-clause-within c = All-permutation (λ (p : Placed). p.entry < length c.args.segments.now) c.loop-entry.order.items c.sort_by_key.new.self.items (c.in_ok-sort_by_key.ensures).permutation
    (placed_within c.args.segments.now c.loop-entry.order.items (placed_all c.args.segments.now c.loop-entry.entry c.loop-entry.order.items c.loop-entry-test.false c.loop-entry.invariant))
