use Rattle.std.proofs.Common.{◌≡◌, ◌∙◌, ◌++◌, [], ◌∷◌, ap}
use Rattle.repeat_link.specs.Headers.{header_bytes}
use Rattle.repeat_link.specs.Parts.{part_at}
use Rattle.repeat_link.specs.Sendings.{part_datagram}
use Rattle.repeat_link.proofs.SentLists.{one_part_more}
use Rattle.repeat_link.proofs.datagrams.push_parts.Goals as goal

pub loop-part-preserved : goal.loop-part-preserved
loop-part-preserved c =
    let h = c.args.header.now in
    let frame = c.args.frame.now in
    let parts = c.in-Ok.parts in
    let part = c.loop-part.part in
    let out = c.loop-part.out.items in
    let datagram : c.new.result ≡ part_datagram h parts part frame = c.new.ensures ∙ c.in_ok-datagram.ensures ∙ ap (λ b. header_bytes (record h { part = part; parts = parts }) ++ b) (c.part_at.ensures ∙ ap (λ k. part_at k frame) c.from.ensures) in
    c.in_ok-push.ensures.items ∙ ap (λ d. out ++ d ∷ []) datagram ∙ one_part_more h parts part frame c.args.out.now.items out c.loop-part.invariant
