use Rattle.std.proofs.Common.{refl}
use Rattle.ens_base.specs.Lists.{bytes_cmp}
use Rattle.history_record.specs.Lookups.{list_at}
use Rattle.history_record.proofs.Walks.{grouped}
use Rattle.history_record.proofs.groups.ids_by_key.Goals as goal

pub loop-call-preserved : goal.loop-call-preserved
loop-call-preserved c = λ key.
    grouped c.args.calls.now c.loop-call.call-index c.call-item.result c.in_ok-copy.field-0 key c.call-item.result.id (list_at bytes_cmp c.loop-call.ids.lists key) (list_at bytes_cmp c.push.new.self.lists key)
    c.loop-call-test.true c.call-item.is c.in_ok-copy.ensures refl (c.loop-call.invariant key) (c.in_ok-push.ensures key)
