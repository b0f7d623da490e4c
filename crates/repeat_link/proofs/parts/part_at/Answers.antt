use Rattle.std.proofs.Common.{◌∙◌, ◌*◌, min, ap, length, take, drop}
use Rattle.std.proofs.lemmas.List.{take_rest}
use Rattle.repeat_link.proofs.Pieces.{front_within}
use Rattle.repeat_link.proofs.parts.part_at.Goals as goal

pub returns : goal.returns
returns c =
    let frame = c.args.frame.now in
    let start = c.args.place * 1400 in
    let whole = take_rest frame start in
    rw whole (ap (λ n. take n (drop start frame)) (c.min.ensures ∙ ap (λ l. min (length l) 1400) whole) ∙ front_within 1400 (drop start frame))
