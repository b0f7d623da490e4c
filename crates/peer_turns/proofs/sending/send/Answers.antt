use Rattle.std.proofs.Common.{◌∙◌, ◌∷◌, [], List, ℕ, subst}
use Rattle.wire_frames.specs.Frames.{frame_spelling}
use Rattle.peer_turns.specs.Sending.{SendsInOrder}
use Rattle.peer_turns.proofs.Prefixes.{handed, unspelled}
use Rattle.peer_turns.proofs.sending.send.Goals as goal

pub returns-in_default : goal.returns-in_default
returns-in_default g c = unspelled g.L.Link.sent g.L.Link.given g.L.Link.fault_count c.args.link.now (c.args.frame.now.to, frame_spelling c.args.frame.now)

pub returns : goal.returns
returns g c =
    subst (λ (bytes : List ℕ). SendsInOrder g.L.Link.sent g.L.Link.given g.L.Link.fault_count ((c.args.frame.now.to, bytes) ∷ []) c.args.link.now c.send.new.self c.send.result) (c.deref.ensures.value ∙ c.in-Ok.ensures.ok)
    (handed g.L.Link.sent g.L.Link.given g.L.Link.fault_count c.args.link.now c.send.new.self c.args.frame.now.to c.deref.result.now c.send.result c.send.ensures.sent c.send.ensures.given c.send.ensures.counts)
