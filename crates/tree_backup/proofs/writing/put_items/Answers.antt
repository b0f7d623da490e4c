use Rattle.std.proofs.Common.{◌≡◌, ◌+◌, ◌++◌, ◌∷◌, [], take, arith, sym, ap, ◌∙◌, subst}
use Rattle.std.specs.List.{AllByRecursion}
use Rattle.std.proofs.lemmas.List.{take_more}
use Rattle.tree_node.proofs.RepeatLaws.{wrote_more, all_more}
use Rattle.tree_backup.specs.declared.item.Item.{Item}
use Rattle.tree_backup.specs.Items.{IsItem, item_spelling}
use Rattle.tree_backup.proofs.writing.put_items.Goals as goal

pub loop-item-preserved : goal.loop-item-preserved
loop-item-preserved c =
    let prefix : take (c.loop-item.item-index + 1) c.args.items.now ≡ take c.loop-item.item-index c.args.items.now ++ c.item-item.result ∷ [] =
    take_more c.args.items.now c.loop-item.item-index c.item-item.result (omega arith) ∙ ap (λ (x : Item). take c.loop-item.item-index c.args.items.now ++ x ∷ []) (sym c.item-item.is) in
    record {
      written = wrote_more item_spelling c.args.items.now c.loop-item.item-index c.item-item.result _ _ _ (omega arith) c.item-item.is c.loop-item.invariant.written c.in_ok-put_item.ensures.ok;
      valid = subst (AllByRecursion IsItem) (sym prefix) (all_more IsItem _ c.item-item.result c.loop-item.invariant.valid c.in_ok-put_item.ensures.valid);
    }
