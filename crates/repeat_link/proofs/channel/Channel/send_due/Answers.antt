use Rattle.std.proofs.Common.{◌≡◌, ◌∙◌, ℕ, ap, subst, take}
use Rattle.repeat_link.specs.Channels.{expired}
use Rattle.repeat_link.specs.Sendings.{datagrams_now, SentTo}
use Rattle.repeat_link.proofs.SentLists.{on_err}
use Rattle.repeat_link.proofs.channel.Channel.send_due.Goals as goal

pub returns-in_err-send_all-clause-front : goal.returns-in_err-send_all-clause-front
returns-in_err-send_all-clause-front g c =
    let same : c.deref.result.now ≡ datagrams_now c.args.now c.args.header.now (expired c.args.now c.args.tick c.args.self.now) = c.deref.ensures.value ∙ c.in_ok-datagrams.ensures ∙ ap (datagrams_now c.args.now c.args.header.now) c.expire.ensures in
    let sent = c.in_err-send_all.ensures.err in
    let front : (count : ℕ) × SentTo (g.L.Link.sent c.args.link.now) (g.L.Link.sent c.send_all.new.link) c.args.header.now.to (take count (datagrams_now c.args.now c.args.header.now (expired c.args.now c.args.tick c.args.self.now))) = (sent.0, subst (λ ds. SentTo (g.L.Link.sent c.args.link.now) (g.L.Link.sent c.send_all.new.link) c.args.header.now.to (take sent.0 ds)) same sent.1) in
    on_err c.from_residual-in_err-send_all.result front
