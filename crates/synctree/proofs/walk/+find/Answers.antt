use Rattle.std.proofs.Common.{◌<◌, ◌∙◌, ◌-◌, ap, sym, subst, arith, ℕ, List}
use Rattle.synctree.specs.TreeNode.{Position}
use Rattle.synctree.proofs.TreeNode.{levels_few, position_deepest}
use Rattle.synctree.specs.Sixteen.{form_of, nibble}
use Rattle.synctree.proofs.Formats.{nibble_below, place_position}
use Rattle.synctree.specs.Walks.{find}
use Rattle.synctree.proofs.Exits.{DidOutside}
use Rattle.synctree.proofs.Places.{level_below, digit_is, place_below}
use Rattle.synctree.proofs.Finding.{find_err, find_none, find_down}
use Rattle.synctree.proofs.walk.+find.Goals as goal

pub find_in_segment-requires : goal.find_in_segment-requires
find_in_segment-requires g t c = place_position c.args.version c.args.height c.args.at c.requires.place

pub child_name-requires-clause-position : goal.child_name-requires-clause-position
child_name-requires-clause-position g t c = place_position c.args.version c.args.height c.args.at c.requires.place

pub child_name-requires-clause-digit : goal.child_name-requires-clause-digit
child_name-requires-clause-digit g t c = subst (λ (n : ℕ). n < 16) (sym c.nibble-digit.ensures) (nibble_below c.args.path.now c.args.at.level)

pub returns-in_err-named : goal.returns-in_err-named
returns-in_err-named g t c = find_err g.N.NodeStore.may_answer g.N.NodeStore.may_refuse g.N.NodeStore.top_record g.N.NodeStore.fault_count g.H.Hasher16.kept g.H.Hasher16.clashes g.H.Hasher16.fulls (form_of c.args.version) c.args.height (c.args.height - 1) c.nibble-digit.result c.args.at c.args.digest.now c.args.key.now (c.args.nodes.now, c.args.hasher.now) (c.child_name.new.nodes, c.child_name.new.hasher) c.from_residual.result c.in_err-named.field-0.0 _ (omega (arith, c.if-height-eq0.false))
    (c.nibble-digit.ensures ∙ ap (λ (d : List ℕ). nibble d c.args.at.level) c.requires.path ∙ sym (digit_is c.args.version c.args.key.now c.args.at.level)) c.in_err-named.ensures c.from_residual.ensures.0 c.from_residual.ensures.1 (λ d h. h)

pub nibble-digit-requires : goal.nibble-digit-requires
nibble-digit-requires g t c = let low = level_below c.args.version c.args.height c.args.at c.requires.place (omega (arith, c.if-height-eq0.false)) in omega (arith, low, levels_few c.args.version)

pub child-at-requires-clause-position : goal.child-at-requires-clause-position
child-at-requires-clause-position g t c = position_deepest c.args.version c.args.at (place_position c.args.version c.args.height c.args.at c.requires.place)

pub child-at-requires-clause-above : goal.child-at-requires-clause-above
child-at-requires-clause-above g t c = let low = level_below c.args.version c.args.height c.args.at c.requires.place (omega (arith, c.if-height-eq0.false)) in omega (arith, low, levels_few c.args.version)

pub find-requires : goal.find-requires
find-requires g t c κs within = (
  omega (arith, c.decreases, c.if-height-eq0.false),
  (
    within.0,
    (
      within.1,
      (place_below c.args.version c.args.height c.args.at c.child-at.result c.nibble-digit.result c.requires.place (omega (arith, c.if-height-eq0.false)) (c.child-at.ensures c.args.version) (subst (λ (n : ℕ). n < 16) (sym c.nibble-digit.ensures) (nibble_below c.args.path.now c.args.at.level)), c.requires.path),
    ),
  ),
)

pub returns-in-Some : goal.returns-in-Some
returns-in-Some g t c = find_down g.N.NodeStore.may_answer g.N.NodeStore.may_refuse g.N.NodeStore.top_record g.N.NodeStore.fault_count g.H.Hasher16.kept g.H.Hasher16.clashes g.H.Hasher16.fulls (form_of c.args.version) c.args.height (c.args.height - 1) c.nibble-digit.result c.args.at c.args.digest.now c.in-Some.below c.args.key.now (c.args.nodes.now, c.args.hasher.now) (c.child_name.new.nodes, c.child_name.new.hasher) (c.find.new.nodes, c.find.new.hasher) c.in_ok-named.named c.find.result (omega (arith, c.if-height-eq0.false))
    (c.nibble-digit.ensures ∙ ap (λ (d : List ℕ). nibble d c.args.at.level) c.requires.path ∙ sym (digit_is c.args.version c.args.key.now c.args.at.level)) c.in_ok-named.ensures c.in-Some.is
    (subst (λ (p : Position). DidOutside g.N.NodeStore.may_answer g.N.NodeStore.may_refuse g.N.NodeStore.top_record g.N.NodeStore.fault_count g.H.Hasher16.kept g.H.Hasher16.clashes g.H.Hasher16.fulls (find (form_of c.args.version) (c.args.height - 1) p c.in-Some.below c.args.key.now) (c.child_name.new.nodes, c.child_name.new.hasher) c.find.result (c.find.new.nodes, c.find.new.hasher)) (c.child-at.ensures c.args.version) c.find.ensures)

pub returns-in-None : goal.returns-in-None
returns-in-None g t c = find_none g.N.NodeStore.may_answer g.N.NodeStore.may_refuse g.N.NodeStore.top_record g.N.NodeStore.fault_count g.H.Hasher16.kept g.H.Hasher16.clashes g.H.Hasher16.fulls (form_of c.args.version) c.args.height (c.args.height - 1) c.nibble-digit.result c.args.at c.args.digest.now c.args.key.now (c.args.nodes.now, c.args.hasher.now) (c.child_name.new.nodes, c.child_name.new.hasher) c.in_ok-named.named (omega (arith, c.if-height-eq0.false))
    (c.nibble-digit.ensures ∙ ap (λ (d : List ℕ). nibble d c.args.at.level) c.requires.path ∙ sym (digit_is c.args.version c.args.key.now c.args.at.level)) c.in_ok-named.ensures c.in-None.is
