use Rattle.std.proofs.Common.{◌≡◌, ◌∙◌, ap, sym, subst, map, get_or, refl, arith, List, ℕ}
use Rattle.std.specs.Prelude.{nat_eq}
use Rattle.std.specs.List.{dedup}
use Rattle.std.specs.List.Sorted.{IsNonDecreasing}
use Rattle.tree_node.specs.TreeVersions.{levels}
use Rattle.tree_node.proofs.TreeVersionLaws.{levels_some}
use Rattle.synctree.specs.Paths.{node_of}
use Rattle.synctree.specs.Sixteen.{form_of}
use Rattle.synctree.proofs.Formats.{form_laws}
use Rattle.synctree.proofs.Places.{depth_is}
use Rattle.tree_repair.specs.Builds.{place}
use Rattle.tree_repair.specs.RepairLevels.{index_of, indexes_of}
use Rattle.tree_repair.specs.Runs.{IsRun}
use Rattle.tree_repair.specs.declared.order.Placed.{Placed}
use Rattle.tree_repair.specs.declared.runs.Run.{Run}
use Rattle.tree_repair.proofs.Buckets.{AreParts, map_rises, segments_there, number_below, run_ascends, run_text}
use Rattle.tree_repair.proofs.Growing.{run_at, indexes_more, indexes_all, texts_more, parts_of, within_of}
use Rattle.tree_repair.proofs.Indexes.{index_position}
use Rattle.tree_repair.proofs.segments.segment_texts.Goals as goal

pub runs_of-requires : goal.runs_of-requires
runs_of-requires g c = subst (λ (ns : List ℕ). IsNonDecreasing ns) (sym numbers) (map_rises {X = Placed} (λ p. p.segment) (record { segment = 0; entry = 0 }) c.in_ok-order.order.items (c.in_ok-order.ensures).rises)
  where
    numbers : c.as_slice-3.result.now ≡ map {A = Placed} (λ p. p.segment) c.in_ok-order.order.items
    numbers = c.as_slice-3.ensures.value ∙ c.in_ok-numbers.ensures ∙ ap (λ (ps : List Placed). map {A = Placed} {B = ℕ} (λ p. p.segment) ps) c.as_slice-2.ensures.value

pub segment_text-requires-clause-position : goal.segment_text-requires-clause-position
segment_text-requires-clause-position g c = index_position c.args.version (levels c.args.version) (get_or c.deref-run-items.result.now c.loop-run.run-index (record { number = 0; start = 0; end = 0 })).number (omega arith)
    (number_below (form_of c.args.version) (form_laws c.args.version) (levels c.args.version) (levels_some c.args.version) c.args.entries.now c.deref.result.now parts (get_or c.deref-run-items.result.now c.loop-run.run-index (record { number = 0; start = 0; end = 0 })) run)
  where
    numbers : c.as_slice-3.result.now ≡ map {A = Placed} (λ p. p.segment) c.deref.result.now
    numbers = c.as_slice-3.ensures.value ∙ c.in_ok-numbers.ensures ∙ ap (λ (ps : List Placed). map {A = Placed} {B = ℕ} (λ p. p.segment) ps) (c.as_slice-2.ensures.value ∙ sym c.deref.ensures.value)

    parts : AreParts (map (λ e. index_of (form_of c.args.version) (levels c.args.version) e.key) c.args.entries.now) c.deref.result.now
    parts = parts_of c.args.version c.args.entries.now c.as_slice.result.now c.in_ok-order.order.items c.deref.result.now (c.as_slice.ensures.value ∙ c.in_ok-segments.ensures) c.deref.ensures.value (c.in_ok-order.ensures).parts

    run : IsRun (map {A = Placed} (λ p. p.segment) c.deref.result.now) (get_or c.deref-run-items.result.now c.loop-run.run-index (record { number = 0; start = 0; end = 0 }))
    run = run_at c.as_slice-3.result.now (map {A = Placed} (λ p. p.segment) c.deref.result.now) c.in_ok-runs.runs.items c.deref-run-items.result.now c.loop-run.run-index (record { number = 0; start = 0; end = 0 }) numbers c.deref-run-items.ensures.value (c.in_ok-runs.ensures).each c.loop-run-test.true

pub segment_text-requires-clause-within : goal.segment_text-requires-clause-within
segment_text-requires-clause-within g c = within_of c.args.version c.args.entries.now c.as_slice.result.now c.in_ok-order.order.items c.deref.result.now _ _ (c.as_slice.ensures.value ∙ c.in_ok-segments.ensures) c.deref.ensures.value (c.in_ok-order.ensures).within

pub segment_text-requires-clause-ascending : goal.segment_text-requires-clause-ascending
segment_text-requires-clause-ascending g c = run_ascends (form_of c.args.version) (form_laws c.args.version) (levels c.args.version) (levels_some c.args.version) c.args.entries.now c.deref.result.now parts (get_or c.deref-run-items.result.now c.loop-run.run-index (record { number = 0; start = 0; end = 0 })) run c.requires
  where
    numbers : c.as_slice-3.result.now ≡ map {A = Placed} (λ p. p.segment) c.deref.result.now
    numbers = c.as_slice-3.ensures.value ∙ c.in_ok-numbers.ensures ∙ ap (λ (ps : List Placed). map {A = Placed} {B = ℕ} (λ p. p.segment) ps) (c.as_slice-2.ensures.value ∙ sym c.deref.ensures.value)

    parts : AreParts (map (λ e. index_of (form_of c.args.version) (levels c.args.version) e.key) c.args.entries.now) c.deref.result.now
    parts = parts_of c.args.version c.args.entries.now c.as_slice.result.now c.in_ok-order.order.items c.deref.result.now (c.as_slice.ensures.value ∙ c.in_ok-segments.ensures) c.deref.ensures.value (c.in_ok-order.ensures).parts

    run : IsRun (map {A = Placed} (λ p. p.segment) c.deref.result.now) (get_or c.deref-run-items.result.now c.loop-run.run-index (record { number = 0; start = 0; end = 0 }))
    run = run_at c.as_slice-3.result.now (map {A = Placed} (λ p. p.segment) c.deref.result.now) c.in_ok-runs.runs.items c.deref-run-items.result.now c.loop-run.run-index (record { number = 0; start = 0; end = 0 }) numbers c.deref-run-items.ensures.value (c.in_ok-runs.ensures).each c.loop-run-test.true

pub loop-run-preserved : goal.loop-run-preserved
loop-run-preserved g c = record {
  indexes = indexes_more c.deref-run-items.result.now c.loop-run.run-index (record { number = 0; start = 0; end = 0 }) c.loop-run.texts.indexes.items c.push.new.self.indexes.items c.loop-run-test.true (c.loop-run.invariant).indexes (c.in_ok-push.ensures).indexes;
  texts = texts_more (λ i. node_of (form_of c.args.version) (place (levels c.args.version) i) c.args.entries.now) (get_or c.deref-run-items.result.now c.loop-run.run-index (record { number = 0; start = 0; end = 0 })).number _ c.loop-run.texts.indexes.items c.push.new.self.indexes.items c.loop-run.texts.texts.items c.push.new.self.texts.items
      (c.in_ok-push.ensures).indexes (c.loop-run.invariant).texts (c.in_ok-push.ensures).texts
      (run_text (form_of c.args.version) (form_laws c.args.version) (levels c.args.version) (levels_some c.args.version) c.args.entries.now c.deref.result.now parts (get_or c.deref-run-items.result.now c.loop-run.run-index (record { number = 0; start = 0; end = 0 })) run (depth_is c.args.version) c.in_ok-segment_text.field-0 c.in_ok-segment_text.ensures);
}
  where
    numbers : c.as_slice-3.result.now ≡ map {A = Placed} (λ p. p.segment) c.deref.result.now
    numbers = c.as_slice-3.ensures.value ∙ c.in_ok-numbers.ensures ∙ ap (λ (ps : List Placed). map {A = Placed} {B = ℕ} (λ p. p.segment) ps) (c.as_slice-2.ensures.value ∙ sym c.deref.ensures.value)

    parts : AreParts (map (λ e. index_of (form_of c.args.version) (levels c.args.version) e.key) c.args.entries.now) c.deref.result.now
    parts = parts_of c.args.version c.args.entries.now c.as_slice.result.now c.in_ok-order.order.items c.deref.result.now (c.as_slice.ensures.value ∙ c.in_ok-segments.ensures) c.deref.ensures.value (c.in_ok-order.ensures).parts

    run : IsRun (map {A = Placed} (λ p. p.segment) c.deref.result.now) (get_or c.deref-run-items.result.now c.loop-run.run-index (record { number = 0; start = 0; end = 0 }))
    run = run_at c.as_slice-3.result.now (map {A = Placed} (λ p. p.segment) c.deref.result.now) c.in_ok-runs.runs.items c.deref-run-items.result.now c.loop-run.run-index (record { number = 0; start = 0; end = 0 }) numbers c.deref-run-items.ensures.value (c.in_ok-runs.ensures).each c.loop-run-test.true

pub returns-clause-indexes : goal.returns-clause-indexes
returns-clause-indexes g c = indexes_all c.deref-run-items.result.now c.loop-run.run-index c.loop-run.texts.indexes.items c.loop-run-test.false (c.loop-run.invariant).indexes
    ∙ ap (λ (rs : List Run). map {A = Run} {B = ℕ} (λ r. r.number) rs) c.deref-run-items.ensures.value ∙ (c.in_ok-runs.ensures).numbers ∙ ap (dedup nat_eq) numbers
    ∙ segments_there (form_of c.args.version) (form_laws c.args.version) (levels c.args.version) (levels_some c.args.version) c.args.entries.now c.in_ok-order.order.items parts (c.in_ok-order.ensures).rises
  where
    numbers : c.as_slice-3.result.now ≡ map {A = Placed} (λ p. p.segment) c.in_ok-order.order.items
    numbers = c.as_slice-3.ensures.value ∙ c.in_ok-numbers.ensures ∙ ap (λ (ps : List Placed). map {A = Placed} {B = ℕ} (λ p. p.segment) ps) c.as_slice-2.ensures.value

    parts : AreParts (map (λ e. index_of (form_of c.args.version) (levels c.args.version) e.key) c.args.entries.now) c.in_ok-order.order.items
    parts = parts_of c.args.version c.args.entries.now c.as_slice.result.now c.in_ok-order.order.items c.in_ok-order.order.items (c.as_slice.ensures.value ∙ c.in_ok-segments.ensures) refl (c.in_ok-order.ensures).parts

pub returns-clause-texts : goal.returns-clause-texts
returns-clause-texts g c = (c.loop-run.invariant).texts ∙ ap (map (λ i. node_of (form_of c.args.version) (place (levels c.args.version) i) c.args.entries.now)) indexes
  where
    numbers : c.as_slice-3.result.now ≡ map {A = Placed} (λ p. p.segment) c.in_ok-order.order.items
    numbers = c.as_slice-3.ensures.value ∙ c.in_ok-numbers.ensures ∙ ap (λ (ps : List Placed). map {A = Placed} {B = ℕ} (λ p. p.segment) ps) c.as_slice-2.ensures.value

    parts : AreParts (map (λ e. index_of (form_of c.args.version) (levels c.args.version) e.key) c.args.entries.now) c.in_ok-order.order.items
    parts = parts_of c.args.version c.args.entries.now c.as_slice.result.now c.in_ok-order.order.items c.in_ok-order.order.items (c.as_slice.ensures.value ∙ c.in_ok-segments.ensures) refl (c.in_ok-order.ensures).parts

    indexes : c.loop-run.texts.indexes.items ≡ indexes_of (form_of c.args.version) (levels c.args.version) c.args.entries.now
    indexes = indexes_all c.deref-run-items.result.now c.loop-run.run-index c.loop-run.texts.indexes.items c.loop-run-test.false (c.loop-run.invariant).indexes
        ∙ ap (λ (rs : List Run). map {A = Run} {B = ℕ} (λ r. r.number) rs) c.deref-run-items.ensures.value ∙ (c.in_ok-runs.ensures).numbers ∙ ap (dedup nat_eq) numbers
        ∙ segments_there (form_of c.args.version) (form_laws c.args.version) (levels c.args.version) (levels_some c.args.version) c.args.entries.now c.in_ok-order.order.items parts (c.in_ok-order.ensures).rises
