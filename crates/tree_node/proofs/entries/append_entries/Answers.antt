use Rattle.std.proofs.Common.{◌≡◌, ◌+◌, ◌++◌, ◌∷◌, [], take, arith, sym, ap, ◌∙◌, subst}
use Rattle.std.specs.List.{AllByRecursion}
use Rattle.std.proofs.lemmas.List.{take_more}
use Rattle.ens_base.specs.declared.entry.Entry.{Entry}
use Rattle.fields.specs.Entries.{IsEntry, entry_spelling}
use Rattle.tree_node.proofs.RepeatLaws.{wrote_more, all_more}
use Rattle.tree_node.proofs.entries.append_entries.Goals as goal

pub loop-entry-preserved : goal.loop-entry-preserved
loop-entry-preserved c =
    let prefix : take (c.loop-entry.entry-index + 1) c.args.entries.now ≡ take c.loop-entry.entry-index c.args.entries.now ++ c.entry-item.result ∷ [] =
    take_more c.args.entries.now c.loop-entry.entry-index c.entry-item.result (omega arith) ∙ ap (λ (x : Entry). take c.loop-entry.entry-index c.args.entries.now ++ x ∷ []) (sym c.entry-item.is) in
    record {
      written = wrote_more entry_spelling c.args.entries.now c.loop-entry.entry-index c.entry-item.result _ _ _ (omega arith) c.entry-item.is c.loop-entry.invariant.written c.in_ok-put_entry.ensures.ok;
      valid = subst (AllByRecursion IsEntry) (sym prefix) (all_more IsEntry _ c.entry-item.result c.loop-entry.invariant.valid c.in_ok-put_entry.ensures.valid);
    }
