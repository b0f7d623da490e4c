use Rattle.std.proofs.Common.{◌∙◌, ap, sym, arith, slice_set}
use Rattle.std.proofs.lemmas.List.{length-set}
use Rattle.std.proofs.lemmas.List.Edits.{map_over_more}
use Rattle.repeat_link.specs.Queues.{marked}
use Rattle.repeat_link.proofs.send_queue.mark_due.Goals as goal

pub loop-index-preserved : goal.loop-index-preserved
loop-index-preserved c =
    let x = c.index-queued-index.result in
    let queued = c.loop-index.queued in
    let index = c.loop-index.index in
    let m = marked c.args.first c.args.now c.args.timeouts.now in (
      length-set queued index c.mark.new.self ∙ c.loop-index.invariant.0,
      ap (slice_set queued index) (c.mark.ensures ∙ ap m (sym c.index-queued-index.is)) ∙ map_over_more m c.args.queued.now queued index x (omega arith) c.loop-index.invariant.1 c.index-queued-index.is,
    )
