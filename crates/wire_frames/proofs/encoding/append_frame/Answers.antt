use Rattle.std.proofs.Common.{ℕ, ◌≡◌, ◌++◌, ◌∷◌, [], length, ap, ◌∙◌}
use Rattle.byteorder.specs.Endian.{big_bytes}
use Rattle.wire_frames.specs.Messages.{kind_of}
use Rattle.wire_frames.proofs.PutLaws.{glued}
use Rattle.wire_frames.proofs.encoding.append_frame.Goals as goal

pub returns-clause-ok : goal.returns-clause-ok
returns-clause-ok c =
    let start : c.extend_from_slice.new.self.items ≡ c.args.out.now.items ++ 82 ∷ 69 ∷ 2 ∷ kind_of c.args.x.now.message ∷ [] =
    c.in_ok-extend_from_slice.ensures.items ∙ ap (λ (k : ℕ). c.args.out.now.items ++ 82 ∷ 69 ∷ 2 ∷ k ∷ []) c.kind_of.ensures in
    glued c.args.out.now.items (82 ∷ 69 ∷ 2 ∷ kind_of c.args.x.now.message ∷ []) (big_bytes 4 c.args.x.now.from) (big_bytes 4 c.args.x.now.to) (big_bytes 2 (length c.args.body.now)) c.args.body.now _ _ _ _ _
    start c.in_ok-put_u32.ensures.ok c.in_ok-put_u32-2.ensures.ok c.in_ok-put_u16.ensures.ok c.in_ok-extend_from_slice-2.ensures.items
