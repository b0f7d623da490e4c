use Rattle.std.proofs.Common.{◌≡◌, ◌∙◌, ◌<◌, ap, sym, subst, arith, ℕ, List}
use Rattle.md5.specs.Md5.{md5}
use Rattle.tree_node.specs.declared.position.Position.{Position}
use Rattle.tree_node.specs.declared.version.TreeVersion.TheVariants.{Two}
use Rattle.tree_node.specs.Positions.{IsPosition}
use Rattle.tree_node.proofs.TreeVersionLaws.{levels_few, position_deepest}
use Rattle.synctree.specs.Forms.{child}
use Rattle.synctree.specs.Sixteen.{form_of, nibble}
use Rattle.synctree.proofs.Formats.{nibble_below}
use Rattle.world_stores.proofs.Segments.{on_path, path_position, path_below, path_end}
use Rattle.world_stores.proofs.naming.segment_of.Goals as goal

pub nibble-requires : goal.nibble-requires
nibble-requires c = omega (arith, c.loop-level-test.true, c.levels-level-end.ensures, levels_few c.args.version)

pub child-at-requires-clause-position : goal.child-at-requires-clause-position
child-at-requires-clause-position c = subst (λ (p : Position). IsPosition Two p) (sym c.loop-level.invariant) (position_deepest c.args.version (on_path c.args.version c.args.key.now c.loop-level.level)
    (path_position c.args.version c.args.key.now c.loop-level.level (omega (arith, c.loop-level-test.true, c.levels-level-end.ensures))))

pub child-at-requires-clause-above : goal.child-at-requires-clause-above
child-at-requires-clause-above c = let level = ap (λ (p : Position). p.level) c.loop-level.invariant in omega (arith, level, c.loop-level-test.true, c.levels-level-end.ensures, levels_few c.args.version)

pub child-at-requires-clause-digit : goal.child-at-requires-clause-digit
child-at-requires-clause-digit c = subst (λ (n : ℕ). n < 16) (sym c.nibble.ensures) (nibble_below c.digest_of-path.result c.loop-level.level)

pub loop-level-preserved : goal.loop-level-preserved
loop-level-preserved c = c.child-at.ensures c.args.version ∙ (λ i. child (form_of c.args.version) (c.loop-level.invariant i) (digit i)) ∙ path_below c.args.version c.args.key.now c.loop-level.level
  where
    digit : c.nibble.result ≡ nibble (md5 c.args.key.now) c.loop-level.level
    digit = c.nibble.ensures ∙ ap (λ (d : List ℕ). nibble d c.loop-level.level) (c.digest_of-path.ensures ∙ ap (λ (bytes : List ℕ). md5 bytes) c.bytes.ensures.bytes)

pub returns-clause-place : goal.returns-clause-place
returns-clause-place c = path_end c.args.version c.args.key.now c.loop-level.level c.loop-level.at (omega (arith, c.loop-level-test.false, c.loop-level.auto.level-end, c.levels-level-end.ensures)) c.loop-level.invariant

pub returns-clause-position : goal.returns-clause-position
returns-clause-position c = subst (λ (p : Position). IsPosition c.args.version p) (sym c.loop-level.invariant) (path_position c.args.version c.args.key.now c.loop-level.level (omega (arith, c.loop-level-test.false, c.loop-level.auto.level-end, c.levels-level-end.ensures)))
