use Rattle.std.proofs.Common.{◌≡◌, ◌∙◌, ℕ, Err, ap, sym, rules}
use Rattle.tree_backup.specs.Items.{entries_of}
use Rattle.std.specs.Prelude.{Vec}
use Rattle.std.specs.declared.alloc.Global.{Global}
use Rattle.tree_backup.proofs.Faults.{error_is, store_failed}
use Rattle.tree_backup.proofs.Calls.{fetched_entries}
use Rattle.tree_backup.proofs.Outcomes.{not_fetched}
use Rattle.tree_backup.proofs.backing.back_up_entries.Goals as goal

pub returns-in-Err-clause-did : goal.returns-in-Err-clause-did
returns-in-Err-clause-did g c = rw c.store_error.ensures (not_fetched g.B.Backend.may_answer g.B.Backend.may_refuse g.H.Hasher16.kept g.H.Hasher16.clashes g.H.Hasher16.fulls c.args.entries.now c.args.backend.now c.fetch_items.new.backend c.args.hasher.now c.in-Err.error c.in-Err.ensures.did)

pub spell-requires-clause-same : goal.spell-requires-clause-same
spell-requires-clause-same g c =
    let same : entries_of c.in-Ok.items.items ≡ c.args.entries.now = fetched_entries g.B.Backend.may_answer g.B.Backend.may_refuse c.args.entries.now c.args.backend.now c.fetch_items.new.backend c.in-Ok.items.items c.in-Ok.ensures.did in
    search rules

pub returns-in-Err-clause-failed : goal.returns-in-Err-clause-failed
returns-in-Err-clause-failed g c = λ is. c.in-Err.ensures.failed (ap Err (store_failed c.in-Err.error (sym c.store_error.ensures ∙ error_is (Vec ℕ Global) _ _ is)))
