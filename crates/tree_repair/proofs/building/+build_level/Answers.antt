use Rattle.std.proofs.Common.{◌≡◌, ◌∙◌, ◌-◌, ◌+◌, ap, map, arith}
use Rattle.std.proofs.lemmas.Result.{IfOk-weaker, on_ok_weaker}
use Rattle.tree_node.specs.TreeVersions.{levels}
use Rattle.synctree.specs.Sixteen.{form_of}
use Rattle.tree_repair.specs.Hashers.{digest_if}
use Rattle.tree_repair.specs.Builds.{somes, nodes_down}
use Rattle.tree_repair.specs.RepairLevels.{texts_of}
use Rattle.tree_repair.proofs.Levels.{indexes_rise, indexes_within, names_beside, level_indexes, level_texts}
use Rattle.tree_repair.proofs.Admissions.{memory_at_once}
use Rattle.tree_repair.proofs.Climbing.{last_indexes, last_names, last_more, last_ok, down_step, nodes_more, level_err, level_memory, level_ok}
use Rattle.tree_repair.proofs.building.+build_level.Goals as goal

pub returns-in_err-segments-clause-admits : goal.returns-in_err-segments-clause-admits
returns-in_err-segments-clause-admits g t c = memory_at_once g.H.Hasher16.kept g.H.Hasher16.clashes g.H.Hasher16.fulls (nodes_down (form_of c.args.version) (levels c.args.version - c.args.level) c.args.level c.args.entries.now) c.args.hasher.now c.from_residual.result _ c.from_residual.ensures.0 c.from_residual.ensures.1 (λ d h. h)

pub returns-then-level-last-clause-indexes : goal.returns-then-level-last-clause-indexes
returns-then-level-last-clause-indexes g t c = IfOk-weaker c.keep_level.result _ _ (λ v h. last_indexes c.args.version c.args.level c.args.entries.now v.indexes.items (c.if-level-last.true ∙ c.levels-last.ensures) (h ∙ (c.in_ok-segments.ensures).indexes)) c.keep_level.ensures.indexes

pub returns-then-level-last-clause-names : goal.returns-then-level-last-clause-names
returns-then-level-last-clause-names g t c = IfOk-weaker c.keep_level.result _ _ (λ v h. last_names c.args.version c.args.level c.args.entries.now v.names.items c.in_ok-segments.segments.texts.items (c.if-level-last.true ∙ c.levels-last.ensures) (c.in_ok-segments.ensures).texts h) c.keep_level.ensures.names

pub returns-then-level-last-clause-nodes : goal.returns-then-level-last-clause-nodes
returns-then-level-last-clause-nodes g t c = on_ok_weaker c.keep_level.result (λ h. last_more c.args.version c.args.level c.args.entries.now c.in_ok-segments.segments.texts.items c.args.nodes.now.items c.keep_level.new.nodes.items (c.if-level-last.true ∙ c.levels-last.ensures) (c.in_ok-segments.ensures).texts h) c.keep_level.ensures.nodes

pub returns-then-level-last-clause-admits : goal.returns-then-level-last-clause-admits
returns-then-level-last-clause-admits g t c = last_ok g.H.Hasher16.kept g.H.Hasher16.clashes g.H.Hasher16.fulls c.args.version c.args.level c.args.entries.now c.in_ok-segments.segments.texts.items c.args.hasher.now c.keep_level.new.hasher c.keep_level.result (c.if-level-last.true ∙ c.levels-last.ensures) (c.in_ok-segments.ensures).texts c.keep_level.ensures.admits

pub returns-in_err-below-clause-admits : goal.returns-in_err-below-clause-admits
returns-in_err-below-clause-admits g t c = level_err g.H.Hasher16.kept g.H.Hasher16.clashes g.H.Hasher16.fulls c.args.version c.args.level c.args.entries.now c.args.hasher.now c.build_level.new.hasher c.in_err-below.field-0.0 c.from_residual-in_err-below.result _ (omega (arith, c.requires.level, c.if-level-last.false, c.levels-last.ensures)) (c.in_err-below.ensures).admits c.from_residual-in_err-below.ensures.0 c.from_residual-in_err-below.ensures.1 (λ d h. h)

pub inner_texts-requires : goal.inner_texts-requires
inner_texts-requires g t c = record {
  level = omega (arith, c.requires.level, c.if-level-last.false, c.levels-last.ensures);
  rises = indexes_rise c.args.version c.args.level c.args.entries.now c.in_ok-below.below.indexes.items (c.in_ok-below.ensures).indexes;
  within = indexes_within c.args.version c.args.level c.args.entries.now c.in_ok-below.below.indexes.items (c.in_ok-below.ensures).indexes;
  beside = names_beside c.args.version c.args.level c.args.entries.now c.in_ok-below.below.indexes.items c.in_ok-below.below.names.items (c.in_ok-below.ensures).indexes (c.in_ok-below.ensures).names;
}

pub returns-in_err-inner-clause-admits : goal.returns-in_err-inner-clause-admits
returns-in_err-inner-clause-admits g t c = level_memory g.H.Hasher16.kept g.H.Hasher16.clashes g.H.Hasher16.fulls c.args.version c.args.level c.args.entries.now c.args.hasher.now c.build_level.new.hasher c.from_residual-in_err-inner.result _ (omega (arith, c.requires.level, c.if-level-last.false, c.levels-last.ensures)) (c.in_ok-below.ensures).admits c.from_residual-in_err-inner.ensures.0 c.from_residual-in_err-inner.ensures.1 (λ d h. h)

pub returns-clause-indexes : goal.returns-clause-indexes
returns-clause-indexes g t c = IfOk-weaker c.keep_level-2.result _ _ (λ v h. h ∙ level_indexes c.args.version c.args.level c.args.entries.now c.in_ok-below.below.indexes.items c.in_ok-inner.inner.indexes.items (c.in_ok-below.ensures).indexes (c.in_ok-inner.ensures).indexes) c.keep_level-2.ensures.indexes

pub returns-clause-names : goal.returns-clause-names
returns-clause-names g t c = IfOk-weaker c.keep_level-2.result _ _ (λ v h. h ∙ ap (map digest_if) texts) c.keep_level-2.ensures.names
  where
    texts : c.in_ok-inner.inner.texts.items ≡ texts_of (form_of c.args.version) c.args.level c.args.entries.now
    texts = level_texts c.args.version c.args.level c.args.entries.now c.in_ok-below.below.indexes.items c.in_ok-inner.inner.indexes.items c.in_ok-below.below.names.items c.in_ok-inner.inner.texts.items (omega (arith, c.requires.level, c.if-level-last.false, c.levels-last.ensures)) (c.in_ok-below.ensures).indexes (c.in_ok-below.ensures).names
        (level_indexes c.args.version c.args.level c.args.entries.now c.in_ok-below.below.indexes.items c.in_ok-inner.inner.indexes.items (c.in_ok-below.ensures).indexes (c.in_ok-inner.ensures).indexes) (c.in_ok-inner.ensures).texts

pub returns-clause-nodes : goal.returns-clause-nodes
returns-clause-nodes g t c = on_ok_weaker c.keep_level-2.result (λ h. nodes_more (nodes_down (form_of c.args.version) (levels c.args.version - (c.args.level + 1)) (c.args.level + 1) c.args.entries.now) (somes c.in_ok-inner.inner.texts.items) (nodes_down (form_of c.args.version) (levels c.args.version - c.args.level) c.args.level c.args.entries.now) c.args.nodes.now.items c.build_level.new.nodes.items c.keep_level-2.new.nodes.items
    (c.in_ok-below.ensures).nodes h (down_step c.args.version c.args.level c.args.entries.now c.in_ok-inner.inner.texts.items (omega (arith, c.requires.level, c.if-level-last.false, c.levels-last.ensures)) texts)) c.keep_level-2.ensures.nodes
  where
    texts : c.in_ok-inner.inner.texts.items ≡ texts_of (form_of c.args.version) c.args.level c.args.entries.now
    texts = level_texts c.args.version c.args.level c.args.entries.now c.in_ok-below.below.indexes.items c.in_ok-inner.inner.indexes.items c.in_ok-below.below.names.items c.in_ok-inner.inner.texts.items (omega (arith, c.requires.level, c.if-level-last.false, c.levels-last.ensures)) (c.in_ok-below.ensures).indexes (c.in_ok-below.ensures).names
        (level_indexes c.args.version c.args.level c.args.entries.now c.in_ok-below.below.indexes.items c.in_ok-inner.inner.indexes.items (c.in_ok-below.ensures).indexes (c.in_ok-inner.ensures).indexes) (c.in_ok-inner.ensures).texts

pub returns-clause-admits : goal.returns-clause-admits
returns-clause-admits g t c = level_ok g.H.Hasher16.kept g.H.Hasher16.clashes g.H.Hasher16.fulls c.args.version c.args.level c.args.entries.now c.in_ok-inner.inner.texts.items c.args.hasher.now c.build_level.new.hasher c.keep_level-2.new.hasher c.keep_level-2.result (omega (arith, c.requires.level, c.if-level-last.false, c.levels-last.ensures)) texts (c.in_ok-below.ensures).admits c.keep_level-2.ensures.admits
  where
    texts : c.in_ok-inner.inner.texts.items ≡ texts_of (form_of c.args.version) c.args.level c.args.entries.now
    texts = level_texts c.args.version c.args.level c.args.entries.now c.in_ok-below.below.indexes.items c.in_ok-inner.inner.indexes.items c.in_ok-below.below.names.items c.in_ok-inner.inner.texts.items (omega (arith, c.requires.level, c.if-level-last.false, c.levels-last.ensures)) (c.in_ok-below.ensures).indexes (c.in_ok-below.ensures).names
        (level_indexes c.args.version c.args.level c.args.entries.now c.in_ok-below.below.indexes.items c.in_ok-inner.inner.indexes.items (c.in_ok-below.ensures).indexes (c.in_ok-inner.ensures).indexes) (c.in_ok-inner.ensures).texts
