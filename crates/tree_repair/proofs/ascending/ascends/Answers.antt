use Rattle.std.proofs.Common.{◌≡◌, ◌∙◌, ap, sym}
use Rattle.std.specs.declared.cmp.Ordering.TheVariants.{Less}
use Rattle.ens_base.specs.Lists.{bytes_cmp}
use Rattle.tree_repair.proofs.Keys.{step_all, step_rest}
use Rattle.tree_repair.proofs.ascending.ascends.Goals as goal

pub loop-entry-preserved : goal.loop-entry-preserved
loop-entry-preserved c = record {
  all = step_all c.loop-entry.last.now c.bytes-last.result.now c.args.entries.now c.loop-entry.entry-index c.entry-item.result c.loop-entry-test.true c.entry-item.is c.bytes-last.ensures.bytes less c.loop-entry.invariant.all;
  rest = step_rest c.loop-entry.last.now c.bytes-last.result.now c.args.entries.now c.loop-entry.entry-index c.entry-item.result c.loop-entry-test.true c.entry-item.is c.bytes-last.ensures.bytes c.loop-entry.invariant.rest;
}
  where
    less : bytes_cmp c.loop-entry.last.now c.bytes-last.result.now ≡ Less
    less = ap (bytes_cmp c.loop-entry.last.now) (c.bytes-last.ensures.bytes ∙ sym c.bytes.ensures.bytes) ∙ sym c.cmp.ensures ∙ c.in-Less.is
