use Rattle.std.proofs.Common.{arith, ◌≤◌, ◌∙◌, List, None, length, map, take, ap}
use Rattle.std.proofs.lemmas.Grind.{common_steps}
use Rattle.std.proofs.lemmas.List.{take_all}
use Rattle.std.specs.BTreeMap.{get}
use Rattle.ens_base.specs.Lists.{bytes_cmp}
use Rattle.register_model.specs.declared.history.History.{History}
use Rattle.root.specs.Histories.{filled, orders_by}
use Rattle.root.proofs.Calls.{filled_same}
use Rattle.root.proofs.histories.key_histories.Goals as goal

pub returns-clause-histories : goal.returns-clause-histories
returns-clause-histories c =
    let all : List History = c.in_ok-empty.empty.items in
    let past : length all ≤ c.loop-history.history-index = grind (arith, common_steps, c.loop-history-test.false) in (
      all,
      c.in_ok-empty.ensures,
      c.loop-history.invariant ∙ ap (λ (hs : List History). map (filled (get bytes_cmp c.in_ok-calls.calls)) (take c.loop-history.history-index hs)) c.deref-history-items.ensures.value ∙ ap (map (filled (get bytes_cmp c.in_ok-calls.calls))) (take_all c.loop-history.history-index all past) ∙ filled_same c.in_ok-calls.calls (λ key. orders_by c.args.slots.now.entries key None) all c.in_ok-calls.ensures.calls,
    )
