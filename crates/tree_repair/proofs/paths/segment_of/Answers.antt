use Rattle.std.proofs.Common.{◌∙◌, ◌<◌, ap, sym, subst, arith, ℕ, List}
use Rattle.md5.specs.Md5.{md5}
use Rattle.tree_node.proofs.TreeVersionLaws.{levels_few}
use Rattle.synctree.proofs.Formats.{nibble_below}
use Rattle.tree_repair.proofs.Indexes.{path_position, path_above, path_next, path_end}
use Rattle.tree_repair.proofs.paths.segment_of.Goals as goal

pub nibble-requires : goal.nibble-requires
nibble-requires c = omega (arith, c.loop-level-test.true, c.levels-level-end.ensures, levels_few c.args.version)

pub child-at-requires-clause-position : goal.child-at-requires-clause-position
child-at-requires-clause-position c = path_position c.args.version c.loop-level.level c.args.key.now c.loop-level.at (omega (arith, c.loop-level-test.true, c.levels-level-end.ensures)) c.loop-level.invariant

pub child-at-requires-clause-above : goal.child-at-requires-clause-above
child-at-requires-clause-above c = path_above c.args.version c.loop-level.level c.args.key.now c.loop-level.at (omega (arith, c.loop-level-test.true, c.levels-level-end.ensures)) c.loop-level.invariant

pub child-at-requires-clause-digit : goal.child-at-requires-clause-digit
child-at-requires-clause-digit c = subst (λ (n : ℕ). n < 16) (sym c.nibble.ensures) (nibble_below c.digest_of-path.result c.loop-level.level)

pub loop-level-preserved : goal.loop-level-preserved
loop-level-preserved c = path_next c.args.version c.loop-level.level c.nibble.result c.args.key.now c.digest_of-path.result c.loop-level.at c.child-at.result c.loop-level.invariant (c.digest_of-path.ensures ∙ ap (λ (bytes : List ℕ). md5 bytes) c.bytes.ensures.bytes) c.nibble.ensures (c.child-at.ensures c.args.version)

pub returns : goal.returns
returns c = path_end c.args.version c.loop-level.level c.args.key.now c.loop-level.at (omega (arith, c.loop-level-test.false, c.loop-level.auto.level-end, c.levels-level-end.ensures)) c.loop-level.invariant
