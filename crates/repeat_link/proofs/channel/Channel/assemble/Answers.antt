use Rattle.std.proofs.Common.{◌≡◌, ◌∙◌, ap, sym}
use Rattle.repeat_link.specs.Channels.{Talk}
use Rattle.repeat_link.specs.Parts.{Partial, with_part, whole}
use Rattle.repeat_link.proofs.Deliveries.{alone_is_sent, holds_with_part, whole_is_sent, holds_at, given_is_sent}
use Rattle.repeat_link.proofs.channel.Channel.assemble.Goals as goal

pub returns-then-header-eq1-clause-sent : goal.returns-then-header-eq1-clause-sent
returns-then-header-eq1-clause-sent c frames run holds is =
    (holds, c.in_ok-from_slice.ensures.items ∙ alone_is_sent frames c.args.self.now c.args.header.now c.args.part.now run holds is c.if-header-eq1.true)

pub returns-clause-sent : goal.returns-clause-sent
returns-clause-sent c frames run holds is =
    let t = c.args.self.now in
    let h = c.args.header.now in
    let part = c.args.part.now in
    let inside = c.self.inside in
    let put : c.put.new.self ≡ with_part t.partial h.number h.part h.parts part =
    c.in_ok-put.ensures.ok ∙ ap (λ (p : Partial). with_part p h.number c.from-place.result c.from-count.result part) (ap (λ (u : Talk). u.partial) c.self.view_is)
    ∙ ap (λ k. with_part t.partial h.number k c.from-count.result part) c.from-place.ensures ∙ ap (λ k. with_part t.partial h.number h.part k part) c.from-count.ensures in (
      holds_at frames (record t { partial = with_part t.partial h.number h.part h.parts part }) _ (sym (ap (λ (u : Talk). u.run) c.self.view_is)) (sym put) (holds_with_part frames t h part run holds is),
      given_is_sent c.whole.result (whole c.put.new.self.parts) (frames h.run h.number) (λ x found. whole_is_sent frames t h part run holds is x (ap (λ (p : Partial). whole p.parts) (sym put) ∙ found)) c.whole.ensures,
    )
