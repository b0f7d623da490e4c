use Rattle.std.proofs.Common.{◌≡◌, ◌∙◌, ap, arith, length, map}
use Rattle.std.proofs.lemmas.List.{length-map, with_items_is}
use Rattle.repeat_link.specs.Queues.{fits_in, marked}
use Rattle.repeat_link.proofs.Waiting.{map_fits}
use Rattle.repeat_link.proofs.send_queue.SendQueue.mark.Goals as goal

pub invariant_of-self : goal.invariant_of-self
invariant_of-self c =
    let m = marked c.oldest-first.result c.args.now c.args.timeouts.now in
    let queued = c.self.inside.queued in
    let same : c.mark_due.new.queued ≡ map m queued.items = c.mark_due.ensures ∙ ap (map m) c.deref_mut.ensures.value in
    let long : length c.mark_due.new.queued ≡ queued.len = omega (arith, ap length same, length-map queued.items m, queued.ok.0) in
    ap (fits_in 1024 1048576) (with_items_is queued c.mark_due.new.queued long ∙ same) ∙ map_fits c.oldest-first.result c.args.now c.args.timeouts.now queued.items c.self.invariant
