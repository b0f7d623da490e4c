use Rattle.std.proofs.Common.{◌<◌, ◌∙◌, ◌-◌, get_or, replicate, ap, sym, subst, arith, ℕ, List, Option, None, Ok, Err}
use Rattle.synctree.specs.TreeNode.{Position}
use Rattle.synctree.proofs.TreeNode.{levels_few, position_deepest}
use Rattle.synctree.specs.Sixteen.{form_of, nibble}
use Rattle.synctree.proofs.Formats.{nibble_below, place_position}
use Rattle.synctree.specs.Walks.{reach, store, enter}
use Rattle.synctree.proofs.Exits.{DidOutside}
use Rattle.synctree.proofs.Places.{level_below, digit_is, place_below, width_is}
use Rattle.synctree.proofs.Puts.{enter_err, enter_below_err, enter_ok}
use Rattle.synctree.proofs.entering.+enter.Goals as goal

pub enter_in_segment-requires : goal.enter_in_segment-requires
enter_in_segment-requires g t c = place_position c.args.version c.args.height c.args.at c.requires.place

pub reach_inner-requires : goal.reach_inner-requires
reach_inner-requires g t c = place_position c.args.version c.args.height c.args.at c.requires.place

pub returns-in_err-names : goal.returns-in_err-names
returns-in_err-names g t c = enter_err g.N.NodeStore.may_answer g.N.NodeStore.may_refuse g.N.NodeStore.top_record g.N.NodeStore.fault_count g.H.Hasher16.kept g.H.Hasher16.clashes g.H.Hasher16.fulls (form_of c.args.version) c.args.height (c.args.height - 1) c.args.at c.args.named c.args.entry.now (c.args.nodes.now, c.args.hasher.now) (c.reach_inner.new.nodes, c.reach_inner.new.hasher) c.from_residual.result c.in_err-names.field-0.0 _ (omega (arith, c.if-height-eq0.false))
    (subst (λ (n : ℕ). DidOutside g.N.NodeStore.may_answer g.N.NodeStore.may_refuse g.N.NodeStore.top_record g.N.NodeStore.fault_count g.H.Hasher16.kept g.H.Hasher16.clashes g.H.Hasher16.fulls (reach ((form_of c.args.version).inner_at c.args.at) (replicate n None) c.args.at c.args.named) (c.args.nodes.now, c.args.hasher.now) (Err c.in_err-names.field-0.0) (c.reach_inner.new.nodes, c.reach_inner.new.hasher)) (sym (width_is c.args.version)) (c.in_err-names.ensures).did) c.from_residual.ensures.0 c.from_residual.ensures.1 (λ d h. h)

pub nibble-digit-requires : goal.nibble-digit-requires
nibble-digit-requires g t c = let low = level_below c.args.version c.args.height c.args.at c.requires.place (omega (arith, c.if-height-eq0.false)) in omega (arith, low, levels_few c.args.version)

pub child-place-requires-clause-position : goal.child-place-requires-clause-position
child-place-requires-clause-position g t c = position_deepest c.args.version c.args.at (place_position c.args.version c.args.height c.args.at c.requires.place)

pub child-place-requires-clause-above : goal.child-place-requires-clause-above
child-place-requires-clause-above g t c = let low = level_below c.args.version c.args.height c.args.at c.requires.place (omega (arith, c.if-height-eq0.false)) in omega (arith, low, levels_few c.args.version)

pub enter-requires : goal.enter-requires
enter-requires g t c κs within = (
  omega (arith, c.decreases, c.if-height-eq0.false),
  (
    within.0,
    (
      within.1,
      (place_below c.args.version c.args.height c.args.at c.child-place.result c.nibble-digit.result c.requires.place (omega (arith, c.if-height-eq0.false)) (c.child-place.ensures c.args.version) (subst (λ (n : ℕ). n < 16) (sym c.nibble-digit.ensures) (nibble_below c.args.path.now c.args.at.level)), c.requires.path),
    ),
  ),
)

pub returns-in_err-below : goal.returns-in_err-below
returns-in_err-below g t c = enter_below_err g.N.NodeStore.may_answer g.N.NodeStore.may_refuse g.N.NodeStore.top_record g.N.NodeStore.fault_count g.H.Hasher16.kept g.H.Hasher16.clashes g.H.Hasher16.fulls (form_of c.args.version) c.args.height (c.args.height - 1) c.nibble-digit.result c.args.at c.args.named c.name_of-named.result c.args.entry.now (c.args.nodes.now, c.args.hasher.now) (c.reach_inner.new.nodes, c.reach_inner.new.hasher) (c.enter.new.nodes, c.enter.new.hasher) c.in_ok-names.names c.from_residual-in_err-below.result c.in_err-below.field-0.0 _ (omega (arith, c.if-height-eq0.false)) (c.nibble-digit.ensures ∙ ap (λ (d : List ℕ). nibble d c.args.at.level) c.requires.path ∙ sym (digit_is c.args.version c.args.entry.now.key c.args.at.level))
    (subst (λ (n : ℕ). DidOutside g.N.NodeStore.may_answer g.N.NodeStore.may_refuse g.N.NodeStore.top_record g.N.NodeStore.fault_count g.H.Hasher16.kept g.H.Hasher16.clashes g.H.Hasher16.fulls (reach ((form_of c.args.version).inner_at c.args.at) (replicate n None) c.args.at c.args.named) (c.args.nodes.now, c.args.hasher.now) (Ok c.in_ok-names.names) (c.reach_inner.new.nodes, c.reach_inner.new.hasher)) (sym (width_is c.args.version)) (c.in_ok-names.ensures).did) (c.name_of-named.ensures ∙ ap (λ (xs : List (Option (List ℕ))). get_or xs c.nibble-digit.result None) c.as_slice.ensures)
    (subst (λ (p : Position). DidOutside g.N.NodeStore.may_answer g.N.NodeStore.may_refuse g.N.NodeStore.top_record g.N.NodeStore.fault_count g.H.Hasher16.kept g.H.Hasher16.clashes g.H.Hasher16.fulls (enter (form_of c.args.version) (c.args.height - 1) p c.name_of-named.result c.args.entry.now) (c.reach_inner.new.nodes, c.reach_inner.new.hasher) (Err c.in_err-below.field-0.0) (c.enter.new.nodes, c.enter.new.hasher)) (c.child-place.ensures c.args.version) c.in_err-below.ensures)
    c.from_residual-in_err-below.ensures.0 c.from_residual-in_err-below.ensures.1 (λ d h. h)

pub store_inner-requires-clause-position : goal.store_inner-requires-clause-position
store_inner-requires-clause-position g t c = place_position c.args.version c.args.height c.args.at c.requires.place

pub returns : goal.returns
returns g t c = enter_ok g.N.NodeStore.may_answer g.N.NodeStore.may_refuse g.N.NodeStore.top_record g.N.NodeStore.fault_count g.H.Hasher16.kept g.H.Hasher16.clashes g.H.Hasher16.fulls (form_of c.args.version) c.args.height (c.args.height - 1) c.nibble-digit.result c.args.at c.args.named c.name_of-named.result c.in_ok-below.below c.args.entry.now (c.args.nodes.now, c.args.hasher.now) (c.reach_inner.new.nodes, c.reach_inner.new.hasher) (c.enter.new.nodes, c.enter.new.hasher) (c.store_inner.new.nodes, c.store_inner.new.hasher) c.in_ok-names.names c.store_inner.result (omega (arith, c.if-height-eq0.false)) (c.nibble-digit.ensures ∙ ap (λ (d : List ℕ). nibble d c.args.at.level) c.requires.path ∙ sym (digit_is c.args.version c.args.entry.now.key c.args.at.level))
    (subst (λ (n : ℕ). DidOutside g.N.NodeStore.may_answer g.N.NodeStore.may_refuse g.N.NodeStore.top_record g.N.NodeStore.fault_count g.H.Hasher16.kept g.H.Hasher16.clashes g.H.Hasher16.fulls (reach ((form_of c.args.version).inner_at c.args.at) (replicate n None) c.args.at c.args.named) (c.args.nodes.now, c.args.hasher.now) (Ok c.in_ok-names.names) (c.reach_inner.new.nodes, c.reach_inner.new.hasher)) (sym (width_is c.args.version)) (c.in_ok-names.ensures).did) (c.name_of-named.ensures ∙ ap (λ (xs : List (Option (List ℕ))). get_or xs c.nibble-digit.result None) c.as_slice.ensures)
    (subst (λ (p : Position). DidOutside g.N.NodeStore.may_answer g.N.NodeStore.may_refuse g.N.NodeStore.top_record g.N.NodeStore.fault_count g.H.Hasher16.kept g.H.Hasher16.clashes g.H.Hasher16.fulls (enter (form_of c.args.version) (c.args.height - 1) p c.name_of-named.result c.args.entry.now) (c.reach_inner.new.nodes, c.reach_inner.new.hasher) (Ok c.in_ok-below.below) (c.enter.new.nodes, c.enter.new.hasher)) (c.child-place.ensures c.args.version) c.in_ok-below.ensures)
    (subst (λ (xs : List (Option (List ℕ))). DidOutside g.N.NodeStore.may_answer g.N.NodeStore.may_refuse g.N.NodeStore.top_record g.N.NodeStore.fault_count g.H.Hasher16.kept g.H.Hasher16.clashes g.H.Hasher16.fulls (store ((form_of c.args.version).inner_text c.args.at xs)) (c.enter.new.nodes, c.enter.new.hasher) c.store_inner.result (c.store_inner.new.nodes, c.store_inner.new.hasher)) (c.as_slice-2.ensures ∙ c.with_child-names.ensures) c.store_inner.ensures)
