use Rattle.std.proofs.Common.{◌≡◌, ℕ, List, arith, rules, subst, Ok}
use Rattle.fields.specs.Reading.{Fails}
use Rattle.std.proofs.lemmas.Result.{err_from_is_err_and}
use Rattle.ens_base.specs.declared.entry.Entry.{Entry}
use Rattle.tree_node.specs.Entries.{last_key, next_at}
use Rattle.tree_node.proofs.RepeatLaws.{goes_on, stops, is_done}
use Rattle.tree_node.proofs.EntryLaws.{last_key-push}
use Rattle.tree_node.proofs.entries.take_entries.Goals as goal

pub returns-in_err-entry-clause-exact : goal.returns-in_err-entry-clause-exact
returns-in_err-entry-clause-exact c =
    let p = err_from_is_err_and c.from_residual.result c.from_residual.ensures.1 in
    let key : c.key_of_last.result.now ≡ last_key c.loop.entries.items = search rules in
    rw (p.1, p.2) (stops c.in_err-entry.field-0.0 next_at (λ (e : Entry). e.key) c.args.count c.loop.counter (last_key c.loop.entries.items) c.args.bytes.now c.loop.place c.loop.entries.items _ (omega arith) (subst (λ (k : List ℕ). Fails c.in_err-entry.field-0.0 (next_at k c.args.bytes.now c.loop.place)) key c.in_err-entry.ensures.exact) c.loop.invariant.read)

pub loop-preserved : goal.loop-preserved
loop-preserved c =
    let key : c.key_of_last.result.now ≡ last_key c.loop.entries.items = search rules in
    let on = goes_on next_at (λ (e : Entry). e.key) c.args.count c.loop.counter (last_key c.loop.entries.items) c.args.bytes.now c.loop.place c.loop.entries.items c.in_ok-entry.entry c.in_ok-entry.after _ (omega arith) (subst (λ (k : List ℕ). next_at k c.args.bytes.now c.loop.place ≡ Ok (c.in_ok-entry.entry, c.in_ok-entry.after)) key c.in_ok-entry.ensures.exact) c.loop.invariant.read in
    record {
      within = c.in_ok-entry.ensures.within;
      read = rw (c.in_ok-push.ensures.items, last_key-push c.loop.entries.items c.in_ok-entry.entry) on;
    }

pub returns-clause-exact : goal.returns-clause-exact
returns-clause-exact c = rw c.new.ensures (is_done next_at (λ (e : Entry). e.key) c.args.count c.loop.counter (last_key c.loop.entries.items) c.args.bytes.now c.loop.place c.loop.entries.items _ (omega arith) c.loop.invariant.read)
