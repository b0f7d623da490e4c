use Rattle.std.proofs.Common.{◌∙◌, ap, sym, arith, true, false, List}
use Rattle.std.proofs.lemmas.Grind.{common_steps}
use Rattle.ens_base.specs.declared.entry.Entry.{Entry}
use Rattle.tree_node.specs.declared.body.TreeBody.TheVariants.{Page}
use Rattle.tree_exchange.proofs.Pages.{page_full, page_whole}
use Rattle.tree_exchange.proofs.giving.page.Goals as goal

pub returns-then-len-eq-PAGE : goal.returns-then-len-eq-PAGE
returns-then-len-eq-PAGE c = ap (λ (es : List Entry). Page es true) c.new.ensures
    ∙ page_full c.args.after.now c.args.entries.now c.loop-entry.entry-index c.entry-item.result c.loop-entry.page.items c.loop-entry-test.true c.entry-item.is (sym c.is_beyond.ensures ∙ c.if-is_beyond.true) c.loop-entry.invariant.page (grind (arith, common_steps))

pub returns : goal.returns
returns c = ap (λ (es : List Entry). Page es false) c.new-2.ensures
    ∙ page_whole c.args.after.now c.args.entries.now c.loop-entry.entry-index c.loop-entry.page.items c.loop-entry-test.false c.loop-entry.invariant.page c.loop-entry.invariant.few
