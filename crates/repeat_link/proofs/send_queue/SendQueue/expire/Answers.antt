use Rattle.std.proofs.Common.{◌≡◌, ◌∙◌, ◌-◌, ap, rules, nat_lt, filter}
use Rattle.std.proofs.lemmas.Fn.{filter_same}
use Rattle.repeat_link.specs.Queues.{Queue, fits_in}
use Rattle.repeat_link.proofs.Waiting.{filter_fits}
use Rattle.repeat_link.proofs.send_queue.SendQueue.expire.Goals as goal

pub invariant_of-self : goal.invariant_of-self
invariant_of-self c =
    let same : c.retain.new.self.items ≡ filter (λ q. nat_lt (c.args.now - q.since) c.args.life) c.self.inside.queued.items = filter_same _ _ _ (λ x b f' k. search rules) _ _ c.retain.ensures.filtered in
    ap (fits_in 1024 1048576) same ∙ filter_fits (λ q. nat_lt (c.args.now - q.since) c.args.life) c.self.inside.queued.items c.self.invariant

pub returns : goal.returns
returns c =
    let same : c.retain.new.self.items ≡ filter (λ q. nat_lt (c.args.now - q.since) c.args.life) c.self.inside.queued.items = filter_same _ _ _ (λ x b f' k. search rules) _ _ c.retain.ensures.filtered in
    ap (λ items. record { next = c.self.inside.next; queued = items }) same ∙ ap (λ (q : Queue). record q { queued = filter (λ q. nat_lt (c.args.now - q.since) c.args.life) q.queued }) c.self.view_is
