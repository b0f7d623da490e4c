use Rattle.std.proofs.Common.{◌∙◌, ap, length}
use Rattle.synctree.specs.Sixteen.{form_of}
use Rattle.tree_repair.proofs.Stepping.{entries_next, damage_next}
use Rattle.tree_repair.proofs.last.last_level.Goals as goal

pub loop-i-preserved : goal.loop-i-preserved
loop-i-preserved c = record {
  entries = (c.in_ok-push_found.ensures).entries ∙ entries_next (form_of c.args.version) c.loop-i.i c.args.slots.now c.as_slice-reads.result.now c.index-slots-i.result c.index-reads-i.result c.loop-i.entries.items (ap length c.as_slice-reads.ensures ∙ (c.requires).reads) c.loop-i-test.true c.index-slots-i.is c.index-reads-i.is (c.loop-i.invariant).entries;
  damaged = (c.in_ok-push_found.ensures).damaged ∙ damage_next (form_of c.args.version) c.loop-i.i c.args.slots.now c.as_slice-reads.result.now c.index-slots-i.result c.index-reads-i.result c.loop-i.damaged.items (ap length c.as_slice-reads.ensures ∙ (c.requires).reads) c.loop-i-test.true c.index-slots-i.is c.index-reads-i.is (c.loop-i.invariant).damaged;
}
