use Rattle.std.proofs.Common.{◌≡◌, ◌∙◌, ◌<◌, ◌+◌, ◌∷◌, sym, subst, arith, drop, get_or, length, Option, List, ℕ}
use Rattle.std.proofs.lemmas.Grind.{common_steps}
use Rattle.synctree.proofs.Slices.{drop_at}
use Rattle.tree_repair.proofs.Lists.{drop_set, drop_further, get_same, length_set}
use Rattle.tree_repair.proofs.Admissions.{TriesOn, passed_on, tries_next, tries_err}
use Rattle.tree_repair.proofs.Climbing.{name_is, kept_more}
use Rattle.tree_repair.specs.Admitting.{AdmitsAll}
use Rattle.tree_repair.specs.Builds.{somes}
use Rattle.tree_repair.proofs.building.keep_all.Goals as goal

pub keep-requires : goal.keep-requires
keep-requires g c = name_is c.args.names.now c.args.texts.items c.loop-i.i c.index-names-i.result c.take.result c.requires (grind (arith, common_steps)) c.index-names-i.is
    (subst (λ (x : Option (List ℕ)). x ≡ get_or c.args.texts.items c.loop-i.i x) (sym c.take.ensures.value) (get_same c.loop-i.texts.items c.args.texts.items c.loop-i.i c.index_mut.result.now c.loop-i.invariant.rest c.index_mut.ensures.value))

pub returns-in_err-keep-clause-admits : goal.returns-in_err-keep-clause-admits
returns-in_err-keep-clause-admits g c = passed_on c.from_residual.result c.in_err-keep.field-0.0 _ (λ r. AdmitsAll g.H.Hasher16.kept g.H.Hasher16.clashes g.H.Hasher16.fulls (somes c.args.texts.items) c.args.hasher.now r c.keep.new.hasher)
    c.from_residual.ensures.0 c.from_residual.ensures.1 (λ d h. h)
    (tries_err g.H.Hasher16.kept g.H.Hasher16.clashes g.H.Hasher16.fulls c.args.texts.items (drop (c.loop-i.i + 1) c.args.texts.items) c.take.result c.args.hasher.now c.loop-i.hasher c.keep.new.hasher c.in_err-keep.field-0.0 (c.in_err-keep.ensures).admits
    (subst (λ (xs : List (Option (List ℕ))). TriesOn g.H.Hasher16.kept g.H.Hasher16.clashes g.H.Hasher16.fulls c.args.texts.items xs c.args.hasher.now c.loop-i.hasher) here c.loop-i.invariant.admits))
  where
    low : c.loop-i.i < length c.args.texts.items
    low = grind (arith, common_steps)

    here : drop c.loop-i.i c.args.texts.items ≡ c.take.result ∷ drop (c.loop-i.i + 1) c.args.texts.items
    here = drop_at c.args.texts.items c.loop-i.i c.take.result c.take.result low
        (subst (λ (x : Option (List ℕ)). x ≡ get_or c.args.texts.items c.loop-i.i x) (sym c.take.ensures.value) (get_same c.loop-i.texts.items c.args.texts.items c.loop-i.i c.index_mut.result.now c.loop-i.invariant.rest c.index_mut.ensures.value))

pub loop-i-preserved : goal.loop-i-preserved
loop-i-preserved g c = record {
  rest = drop_set c.loop-i.texts.items c.loop-i.i c.take.new.self ∙ drop_further c.loop-i.texts.items c.args.texts.items c.loop-i.i c.loop-i.invariant.rest;
  count = length_set c.loop-i.texts.items c.loop-i.i c.take.new.self ∙ c.loop-i.invariant.count;
  nodes = kept_more c.take.result (drop (c.loop-i.i + 1) c.args.texts.items) c.loop-i.nodes.items c.keep.new.nodes.items _ (c.in_ok-keep.ensures).nodes (rw here at c.loop-i.invariant.nodes);
  admits = tries_next g.H.Hasher16.kept g.H.Hasher16.clashes g.H.Hasher16.fulls c.args.texts.items (drop (c.loop-i.i + 1) c.args.texts.items) c.take.result c.args.hasher.now c.loop-i.hasher c.keep.new.hasher (c.in_ok-keep.ensures).admits
      (subst (λ (xs : List (Option (List ℕ))). TriesOn g.H.Hasher16.kept g.H.Hasher16.clashes g.H.Hasher16.fulls c.args.texts.items xs c.args.hasher.now c.loop-i.hasher) here c.loop-i.invariant.admits);
}
  where
    low : c.loop-i.i < length c.args.texts.items
    low = grind (arith, common_steps)

    here : drop c.loop-i.i c.args.texts.items ≡ c.take.result ∷ drop (c.loop-i.i + 1) c.args.texts.items
    here = drop_at c.args.texts.items c.loop-i.i c.take.result c.take.result low
        (subst (λ (x : Option (List ℕ)). x ≡ get_or c.args.texts.items c.loop-i.i x) (sym c.take.ensures.value) (get_same c.loop-i.texts.items c.args.texts.items c.loop-i.i c.index_mut.result.now c.loop-i.invariant.rest c.index_mut.ensures.value))
