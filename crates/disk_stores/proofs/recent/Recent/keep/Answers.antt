use Rattle.std.proofs.Common.{◌≡◌, ap, ◌∙◌, arith}
use Rattle.disk_stores.specs.Recents.{slot_from}
use Rattle.disk_stores.proofs.Recents.{keeps_new, keeps_none}
use Rattle.disk_stores.proofs.recent.Recent.keep.Goals as goal

pub returns-then-slot-len : goal.returns-then-slot-len
returns-then-slot-len c before after old found others =
    let is : c.slot_of-slot.result ≡ slot_from 0 c.args.name = c.slot_of-slot.ensures ∙ ap (slot_from 0) c.as_slice.ensures in
    keeps_new c.fill.new.self.slots.items c.args.name c.args.content.now before after (c.fill.ensures before old) found others c.slot_of-slot.result c.copied.result is (omega arith) c.copied.ensures

pub returns-else-slot-len : goal.returns-else-slot-len
returns-else-slot-len c before after old found others =
    let is : c.slot_of-slot.result ≡ slot_from 0 c.args.name = c.slot_of-slot.ensures ∙ ap (slot_from 0) c.as_slice.ensures in
    keeps_none c.fill.new.self.slots.items c.args.name c.args.content.now before after (c.fill.ensures before old) found others (omega (arith, is))
