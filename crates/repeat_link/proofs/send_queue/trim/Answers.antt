use Rattle.std.proofs.Common.{◌≡◌, ◌∙◌, true, sym, ap}
use Rattle.repeat_link.specs.Queues.{fits_in}
use Rattle.repeat_link.proofs.Waiting.{all_stay}
use Rattle.repeat_link.proofs.send_queue.trim.Goals as goal

pub returns : goal.returns
returns c =
    let fit : fits_in 1024 1048576 c.loop-queued.queued.items ≡ true = ap (fits_in 1024 1048576) (sym c.deref.ensures.value) ∙ sym c.fits.ensures ∙ c.loop-queued-test.false in
    sym (all_stay c.loop-queued.queued.items fit) ∙ c.loop-queued.invariant
