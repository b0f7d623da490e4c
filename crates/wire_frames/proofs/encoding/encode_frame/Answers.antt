use Rattle.std.proofs.Common.{◌≡◌, ℕ, List, [], ◌∷◌, ◌++◌, length, ap, ◌∙◌}
use Rattle.byteorder.specs.Endian.{big_bytes}
use Rattle.wire_frames.specs.Messages.{kind_of, message_spelling}
use Rattle.wire_frames.specs.Frames.{frame_spelling}
use Rattle.wire_frames.proofs.SizeLaws.{message_size}
use Rattle.wire_frames.proofs.FrameLaws.{frame_again}
use Rattle.wire_frames.proofs.encoding.encode_frame.Goals as goal

pub append_frame-requires : goal.append_frame-requires
append_frame-requires c =
    let body : c.deref.result.now ≡ message_spelling c.args.frame.now.message = c.deref.ensures.value ∙ c.in-Ok.ensures.ok ∙ ap (λ (l : List ℕ). l ++ message_spelling c.args.frame.now.message) c.new-body.ensures.items in
    rw body (message_size c.args.frame.now.message c.in-Ok.ensures.valid)

pub returns-in-Ok-append_frame-clause-again : goal.returns-in-Ok-append_frame-clause-again
returns-in-Ok-append_frame-clause-again c =
    let body : c.deref.result.now ≡ message_spelling c.args.frame.now.message = c.deref.ensures.value ∙ c.in-Ok.ensures.ok ∙ ap (λ (l : List ℕ). l ++ message_spelling c.args.frame.now.message) c.new-body.ensures.items in
    let spelling : List ℕ → List ℕ = λ (l : List ℕ). 0x52 ∷ 0x45 ∷ 2 ∷ kind_of c.args.frame.now.message ∷ [] ++ big_bytes 4 c.args.frame.now.from ++ big_bytes 4 c.args.frame.now.to ++ big_bytes 2 (length l) ++ l in
    let whole : c.append_frame.new.out.items ≡ frame_spelling c.args.frame.now =
    c.in-Ok-append_frame.ensures.ok ∙ ap (λ (l : List ℕ). l ++ spelling c.deref.result.now) c.new-out.ensures.items ∙ ap spelling body in
    frame_again c.append_frame.new.out.items c.args.frame.now (record { from = c.requires.from; to = c.requires.to; message = c.in-Ok.ensures.valid }) whole
