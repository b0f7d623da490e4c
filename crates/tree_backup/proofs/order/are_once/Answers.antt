use Rattle.std.proofs.Common.{◌≡◌, ◌∙◌, ap, sym}
use Rattle.std.specs.declared.cmp.Ordering.TheVariants.{Less}
use Rattle.ens_base.specs.Lists.{bytes_cmp}
use Rattle.tree_repair.proofs.Keys.{step_all}
use Rattle.tree_backup.proofs.Ascending.{twice_first, twice_next, twice_here, rises_next, not_falling}
use Rattle.tree_backup.proofs.order.are_once.Goals as goal

pub loop-entry-preserved : goal.loop-entry-preserved
loop-entry-preserved c = record {
  all = step_all c.loop-entry.last.now c.bytes-last.result.now c.args.entries.now c.loop-entry.entry-index c.entry-item.result c.loop-entry-test.true c.entry-item.is c.bytes-last.ensures.bytes less c.loop-entry.invariant.all;
  rises = rises_next c.loop-entry.last.now c.bytes-last.result.now c.args.entries.now c.loop-entry.entry-index c.entry-item.result c.loop-entry-test.true c.entry-item.is c.bytes-last.ensures.bytes c.loop-entry.invariant.rises;
  twice = twice_next c.args.entries.now c.loop-entry.entry-index c.entry-item.result c.bytes-last.result.now c.loop-entry-test.true c.entry-item.is c.bytes-last.ensures.bytes;
}
  where
    less : bytes_cmp c.loop-entry.last.now c.bytes-last.result.now ≡ Less
    less = ap (bytes_cmp c.loop-entry.last.now) (c.bytes-last.ensures.bytes ∙ sym c.bytes.ensures.bytes) ∙ sym c.cmp.ensures ∙ c.in-Less.is

pub loop-entry-init : goal.loop-entry-init
loop-entry-init c = record { all = λ up. up; rises = c.requires; twice = twice_first c.args.entries.now }

pub returns-in-Equal-clause-no : goal.returns-in-Equal-clause-no
returns-in-Equal-clause-no c = λ _. twice_here c.loop-entry.last.now c.bytes.result.now c.args.entries.now c.loop-entry.entry-index c.entry-item.result c.loop-entry-test.true c.entry-item.is c.bytes.ensures.bytes c.bytes.ensures.length.0 c.loop-entry.invariant.twice (sym c.cmp.ensures ∙ c.in-Equal.is)

pub returns-in-Greater-clause-no : goal.returns-in-Greater-clause-no
returns-in-Greater-clause-no c = λ _. absurd (not_falling c.loop-entry.last.now c.bytes.result.now c.args.entries.now c.loop-entry.entry-index c.entry-item.result c.loop-entry-test.true c.entry-item.is c.bytes.ensures.bytes c.loop-entry.invariant.rises (sym c.cmp.ensures ∙ c.in-Greater.is))
