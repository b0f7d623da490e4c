-- One more line after those of the messages so far.
use Rattle.std.proofs.Common.{◌≡◌, ◌<◌, ◌+◌, ℕ, zero, suc, List, [], ◌∷◌, ◌++◌, length, take, get_or, arith, sym, ap, ◌∙◌, append_assoc, append-nil}
use Rattle.std.specs.Prelude.{Bool}
use Rattle.wire_frames.specs.declared.frame.Frame.{Frame}
use Rattle.trace.specs.Text.{message_line, lines_from}

pub one_more : (names : Bool) (n i : ℕ) (sent : List Frame) (f : Frame) → i < length sent → lines_from names n (take (i + 1) sent) ≡ lines_from names n (take i sent) ++ message_line names (n + i) (get_or sent i f)
one_more names n i [] f below = absurd (omega arith)
one_more names n zero (first ∷ more) f below =
    let same : n ≡ n + 0 = omega arith in
    append-nil (message_line names n first) ∙ ap (λ (k : ℕ). message_line names k first) same
one_more names n (suc i) (first ∷ more) f below =
    let next : suc i + 1 ≡ suc (i + 1) = omega arith in
    let number : n + 1 + i ≡ n + suc i = omega arith in
    ap (λ (k : ℕ). lines_from names n (take k (first ∷ more))) next
    ∙ ap (λ (l : List ℕ). message_line names n first ++ l) (one_more names (n + 1) i more f (omega (arith, below)))
    ∙ sym (append_assoc (message_line names n first) (lines_from names (n + 1) (take i more)) (message_line names (n + 1 + i) (get_or more i f)))
    ∙ ap (λ (k : ℕ). (message_line names n first ++ lines_from names (n + 1) (take i more)) ++ message_line names k (get_or more i f)) number
