use Rattle.std.proofs.Common.{◌++◌, ◌∙◌, ap, take}
use Rattle.std.proofs.lemmas.List.{append-nil}
use Rattle.std.proofs.Math.Logic.{∥∥₁_elim}
use denote.Struct.Props.{props}
use Rattle.frame_codes.specs.Hmac.{outer_of}
use Rattle.sha2.specs.Sha256.{sha256}
use Rattle.frame_codes.proofs.frame_key.FrameKey.code.Goals as goal

pub returns : goal.returns
returns c =
    let key = c.self.invariant in
    ∥∥₁_elim key.0 (search props) (λ inner. ∥∥₁_elim key.1 (search props) (λ outer.
    rw (← c.self.view_is) (c.first_half.ensures ∙ ap (take 16) (c.ended.ensures _ outer ∙ ap (λ d. sha256 (outer_of c.self.inside.secret ++ d)) (append-nil _ ∙ c.ended-digest.ensures _ inner)))))
