use Rattle.std.proofs.Common.{◌≡◌, ℕ, ◌+◌, ◌-◌, ◌<◌, ◌≤◌, length, get_or, drop, refl, subst, ap, ◌∙◌, arith}
use Rattle.std.specs.Prelude.{not, Some, if◌then◌else◌}
use Rattle.std.specs.BTreeSet.{contains}
use Rattle.std.specs.Ordering.{nat_cmp}
use Rattle.ens_base.specs.Lists.{is_in}
use Rattle.history_record.specs.Clauses.{first_stray, is_call_on}
use Rattle.history_record.proofs.Walks.{behind_step, stray_step}
use Rattle.history_record.proofs.stray.first_stray.Goals as goal

pub loop-place-preserved : goal.loop-place-preserved
loop-place-preserved c =
    let calls = c.args.calls.now in
    let key = c.args.key.now in
    let order = c.args.order.now in
    let place = c.loop-place.place in
    let id = get_or order (place - 1) 0 in
    let some : 0 < place = c.loop-place-test.true in
    let bound : place ≤ length order = c.loop-place.invariant.bound in
    let back : place ≡ place - 1 + 1 = omega arith in
    let within : place - 1 < length order = omega arith in
    let Found : ℕ → Type 0 = λ n. c.loop-place.found ≡ first_stray calls key (drop n order) in
    let Behind : ℕ → Type 0 = λ n. (x : ℕ) → contains nat_cmp c.loop-place.behind x ≡ is_in (drop n order) x in
    let found : Found (place - 1 + 1) = subst Found back c.loop-place.invariant.found in
    let behind : Behind (place - 1 + 1) = subst Behind back c.loop-place.invariant.behind in
    let last : c.in_ok-is_last.is_last ≡ not (is_in (drop (place - 1 + 1) order) id) = c.in_ok-is_last.ensures.added ∙ ap not (behind id) in
    record {
      bound = omega arith;
      found = c.or_found-found.ensures ∙ (λ i. if c.is_stray.ensures i then Some id else c.loop-place.found) ∙ stray_step calls key order (place - 1) 0 within c.in_ok-is_last.is_last (is_call_on calls key id) c.loop-place.found last refl found;
      behind = λ q. behind_step calls key order (place - 1) 0 within q (contains nat_cmp c.loop-place.behind q) (contains nat_cmp c.insert.new.self q) (behind q) (c.in_ok-is_last.ensures.updates.0 q);
    }
