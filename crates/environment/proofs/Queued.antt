-- The frames of a queue, by their numbers.
use Rattle.std.proofs.Common.{◌≡◌, ℕ, List, [], ◌∷◌, ◌++◌, length, Option, None, Some, ◌+◌, refl, rules, arith}
use Rattle.std.specs.Prelude.{cond}
use Rattle.std.specs.Option.{is_some}
use Rattle.std.proofs.lemmas.List.Sums.{sum_by-append}
use Rattle.environment.specs.MemQueue.{frame_at, found_in}

pub next_frame : (before after : List (ℕ × List ℕ)) (to : ℕ) (frame : List ℕ) → frame_at (length before) (before ++ (to, frame) ∷ after) ≡ Some frame
next_frame [] after to frame = refl
next_frame (f ∷ fs) after to frame = next_frame fs after to frame

pub no_frame : (sent : List (ℕ × List ℕ)) → frame_at (length sent) sent ≡ None
no_frame [] = refl
no_frame (f ∷ fs) = no_frame fs

-- a look that found nothing, and one that found a frame
pub nothing_more : (given : List (Option (List ℕ))) → found_in (given ++ None ∷ []) ≡ found_in given
nothing_more given = rw (sum_by-append (λ (o : Option (List ℕ)). cond (is_some o) 1 0) given (None ∷ [])) (search (rules, arith))

pub one_frame_more : (given : List (Option (List ℕ))) (frame : List ℕ) → found_in (given ++ Some frame ∷ []) ≡ found_in given + 1
one_frame_more given frame = rw (sum_by-append (λ (o : Option (List ℕ)). cond (is_some o) 1 0) given (Some frame ∷ [])) (search (rules, arith))
