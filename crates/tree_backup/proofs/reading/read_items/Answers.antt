use Rattle.std.proofs.Common.{◌≡◌, ℕ, List, arith, rules, subst, Ok}
use Rattle.std.proofs.lemmas.Result.{err_from_is_err_and}
use Rattle.tree_backup.specs.declared.item.Item.{Item}
use Rattle.tree_backup.specs.Readings.{last_key, item_at, Fails}
use Rattle.tree_backup.proofs.ItemLoop.{goes_on, stops, is_done, last_key-push}
use Rattle.tree_backup.proofs.reading.read_items.Goals as goal

pub returns-in_err-item-clause-exact : goal.returns-in_err-item-clause-exact
returns-in_err-item-clause-exact c =
    let p = err_from_is_err_and c.from_residual-in_err-item.result c.from_residual-in_err-item.ensures.1 in
    let key : c.key_of_last.result.now ≡ last_key c.loop.items.items = search rules in
    rw (p.1, p.2) (stops c.in_err-item.field-0.0 item_at (λ (x : Item). x.entry.key) c.args.count c.loop.counter (last_key c.loop.items.items) c.args.bytes.now c.loop.place c.loop.items.items _ (omega arith) (subst (λ (k : List ℕ). Fails c.in_err-item.field-0.0 (item_at k c.args.bytes.now c.loop.place)) key c.in_err-item.ensures.exact) c.loop.invariant.read)

pub loop-preserved : goal.loop-preserved
loop-preserved c =
    let key : c.key_of_last.result.now ≡ last_key c.loop.items.items = search rules in
    let on = goes_on item_at (λ (x : Item). x.entry.key) c.args.count c.loop.counter (last_key c.loop.items.items) c.args.bytes.now c.loop.place c.loop.items.items c.in_ok-item.item c.in_ok-item.after _ (omega arith) (subst (λ (k : List ℕ). item_at k c.args.bytes.now c.loop.place ≡ Ok (c.in_ok-item.item, c.in_ok-item.after)) key c.in_ok-item.ensures.exact) c.loop.invariant.read in
    record {
      within = c.in_ok-item.ensures.within;
      read = rw (c.in_ok-push.ensures.items, last_key-push c.loop.items.items c.in_ok-item.item) on;
    }

pub returns-clause-exact : goal.returns-clause-exact
returns-clause-exact c = rw c.new.ensures (is_done item_at (λ (x : Item). x.entry.key) c.args.count c.loop.counter (last_key c.loop.items.items) c.args.bytes.now c.loop.place c.loop.items.items _ (omega arith) c.loop.invariant.read)
