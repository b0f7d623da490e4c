use Rattle.std.proofs.Common.{◌≡◌, ◌∙◌, ◌++◌, ◌∷◌, [], List, ℕ, ap, sym, subst, drop, get_or, map, append_assoc}
use Rattle.std.specs.Prelude.{nat_eq}
use Rattle.std.specs.List.{All, dedup}
use Rattle.std.proofs.lemmas.List.Elements.{All-push}
use Rattle.std.proofs.lemmas.List.{map-append}
use Rattle.tree_repair.specs.declared.runs.Run.{Run}
use Rattle.tree_repair.specs.Runs.{IsRun}
use Rattle.tree_repair.proofs.Numbers.{run_next, run_is, runs_apart}
use Rattle.tree_repair.proofs.runs.runs_of.Goals as goal

pub loop-start-preserved : goal.loop-start-preserved
loop-start-preserved c = record {
  within = c.end_of-end.ensures.within;
  apart = λ some inside. runs_apart c.args.numbers.now c.loop-start.start c.end_of-end.result c.requires c.end_of-end.ensures some inside;
  numbers = ap (λ (rs : List Run). map (λ r. r.number) rs ++ dedup nat_eq (drop c.end_of-end.result c.args.numbers.now)) (c.in_ok-push.ensures).items
      ∙ ap (λ (ns : List ℕ). ns ++ dedup nat_eq (drop c.end_of-end.result c.args.numbers.now)) (map-append {A = Run} {B = ℕ} (λ r. r.number) c.loop-start.runs.items (run ∷ []))
      ∙ append_assoc (map {A = Run} {B = ℕ} (λ r. r.number) c.loop-start.runs.items) (get_or c.args.numbers.now c.loop-start.start 0 ∷ []) (dedup nat_eq (drop c.end_of-end.result c.args.numbers.now))
      ∙ ap (λ (ns : List ℕ). map {A = Run} {B = ℕ} (λ r. r.number) c.loop-start.runs.items ++ ns) (sym next)
      ∙ c.loop-start.invariant.numbers;
  each = subst (λ (rs : List Run). All (IsRun c.args.numbers.now) rs) (sym (c.in_ok-push.ensures).items) (All-push (IsRun c.args.numbers.now) c.loop-start.runs.items run c.loop-start.invariant.each
      (run_is c.args.numbers.now c.loop-start.start c.end_of-end.result c.requires c.loop-start-test.true c.loop-start.invariant.apart c.end_of-end.ensures));
}
  where
    run : Run
    run = record { number = get_or c.args.numbers.now c.loop-start.start 0; start = c.loop-start.start; end = c.end_of-end.result }

    next : dedup nat_eq (drop c.loop-start.start c.args.numbers.now) ≡ get_or c.args.numbers.now c.loop-start.start 0 ∷ dedup nat_eq (drop c.end_of-end.result c.args.numbers.now)
    next = run_next c.args.numbers.now c.loop-start.start c.end_of-end.result (get_or c.args.numbers.now c.loop-start.start 0) c.end_of-end.ensures.some c.end_of-end.ensures.within c.end_of-end.ensures.same c.end_of-end.ensures.other
