use Rattle.std.proofs.Common.{◌≡◌, ◌∙◌, ◌/◌, ap, sym, subst, map, get_or, arith, List, ℕ, Some}
use Rattle.std.specs.Prelude.{nat_eq}
use Rattle.std.specs.List.{dedup}
use Rattle.std.specs.List.Sorted.{IsNonDecreasing}
use Rattle.synctree.specs.Sixteen.{form_of}
use Rattle.tree_repair.specs.Builds.{place}
use Rattle.tree_repair.specs.Inner.{children_of}
use Rattle.tree_repair.specs.Runs.{IsRun}
use Rattle.tree_repair.specs.declared.runs.Run.{Run}
use Rattle.tree_repair.proofs.Levels.{runs_rise, run_low, run_filled, run_beside, above_of}
use Rattle.tree_repair.proofs.Growing.{run_at, indexes_more, indexes_all, texts_more, inner_position}
use Rattle.tree_repair.proofs.inner.inner_texts.Goals as goal

pub runs_of-requires : goal.runs_of-requires
runs_of-requires c = subst (λ (ns : List ℕ). IsNonDecreasing ns) (sym parents) (runs_rise c.args.below.now.indexes.items c.requires.rises)
  where
    parents : c.as_slice-2.result.now ≡ map (λ i. i / 16) c.args.below.now.indexes.items
    parents = c.as_slice-2.ensures.value ∙ c.in_ok-parents.ensures ∙ ap (map (λ i. i / 16)) c.as_slice.ensures.value

pub inner_text-requires-clause-position : goal.inner_text-requires-clause-position
inner_text-requires-clause-position c = inner_position c.args.version c.args.level (get_or c.deref-run-items.result.now c.loop-run.run-index (record { number = 0; start = 0; end = 0 })).number c.requires.level (run_low c.args.level c.args.below.now.indexes.items (get_or c.deref-run-items.result.now c.loop-run.run-index (record { number = 0; start = 0; end = 0 })) c.requires.within run)
  where
    parents : c.as_slice-2.result.now ≡ map (λ i. i / 16) c.args.below.now.indexes.items
    parents = c.as_slice-2.ensures.value ∙ c.in_ok-parents.ensures ∙ ap (map (λ i. i / 16)) c.as_slice.ensures.value

    run : IsRun (map (λ i. i / 16) c.args.below.now.indexes.items) (get_or c.deref-run-items.result.now c.loop-run.run-index (record { number = 0; start = 0; end = 0 }))
    run = run_at c.as_slice-2.result.now (map (λ i. i / 16) c.args.below.now.indexes.items) c.in_ok-runs.runs.items c.deref-run-items.result.now c.loop-run.run-index (record { number = 0; start = 0; end = 0 }) parents c.deref-run-items.ensures.value (c.in_ok-runs.ensures).each c.loop-run-test.true

pub inner_text-requires-clause-beside : goal.inner_text-requires-clause-beside
inner_text-requires-clause-beside c = run_beside c.args.below.now.indexes.items c.deref.result.now c.args.below.now.names.items c.deref-in-loop-run.result.now _ _ c.deref.ensures.value c.deref-in-loop-run.ensures.value c.requires.beside

pub loop-run-preserved : goal.loop-run-preserved
loop-run-preserved c = record {
  indexes = indexes_more c.deref-run-items.result.now c.loop-run.run-index (record { number = 0; start = 0; end = 0 }) c.loop-run.texts.indexes.items c.push.new.self.indexes.items c.loop-run-test.true (c.loop-run.invariant).indexes (c.in_ok-push.ensures).indexes;
  texts = texts_more (λ i. Some ((form_of c.args.version).inner_text (place c.args.level i) (children_of 16 i c.args.below.now.indexes.items c.args.below.now.names.items))) (get_or c.deref-run-items.result.now c.loop-run.run-index (record { number = 0; start = 0; end = 0 })).number _ c.loop-run.texts.indexes.items c.push.new.self.indexes.items c.loop-run.texts.texts.items c.push.new.self.texts.items
      (c.in_ok-push.ensures).indexes (c.loop-run.invariant).texts (c.in_ok-push.ensures).texts
      (ap Some (c.in_ok-inner_text.ensures ∙ ap ((form_of c.args.version).inner_text (place c.args.level (get_or c.deref-run-items.result.now c.loop-run.run-index (record { number = 0; start = 0; end = 0 })).number)) (run_filled c.args.below.now.indexes.items c.deref.result.now c.args.below.now.names.items c.deref-in-loop-run.result.now (get_or c.deref-run-items.result.now c.loop-run.run-index (record { number = 0; start = 0; end = 0 })) c.deref.ensures.value c.deref-in-loop-run.ensures.value c.requires.beside run)));
}
  where
    parents : c.as_slice-2.result.now ≡ map (λ i. i / 16) c.args.below.now.indexes.items
    parents = c.as_slice-2.ensures.value ∙ c.in_ok-parents.ensures ∙ ap (map (λ i. i / 16)) c.as_slice.ensures.value

    run : IsRun (map (λ i. i / 16) c.args.below.now.indexes.items) (get_or c.deref-run-items.result.now c.loop-run.run-index (record { number = 0; start = 0; end = 0 }))
    run = run_at c.as_slice-2.result.now (map (λ i. i / 16) c.args.below.now.indexes.items) c.in_ok-runs.runs.items c.deref-run-items.result.now c.loop-run.run-index (record { number = 0; start = 0; end = 0 }) parents c.deref-run-items.ensures.value (c.in_ok-runs.ensures).each c.loop-run-test.true

pub returns-clause-indexes : goal.returns-clause-indexes
returns-clause-indexes c = above_of c.args.level c.args.below.now.indexes.items c.loop-run.texts.indexes.items (omega arith)
    (indexes_all c.deref-run-items.result.now c.loop-run.run-index c.loop-run.texts.indexes.items c.loop-run-test.false (c.loop-run.invariant).indexes
    ∙ ap (λ (rs : List Run). map {A = Run} {B = ℕ} (λ r. r.number) rs) c.deref-run-items.ensures.value ∙ (c.in_ok-runs.ensures).numbers ∙ ap (dedup nat_eq) parents)
  where
    parents : c.as_slice-2.result.now ≡ map (λ i. i / 16) c.args.below.now.indexes.items
    parents = c.as_slice-2.ensures.value ∙ c.in_ok-parents.ensures ∙ ap (map (λ i. i / 16)) c.as_slice.ensures.value
