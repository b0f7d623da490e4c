use Rattle.std.proofs.Common.{◌≡◌, ℕ, List, [], ◌∷◌, take, get_or, lit<, ◌∙◌}
use Rattle.std.specs.Int.{w32, from_be_bytes}
use Rattle.std.proofs.lemmas.List.{get_or-take}
use Rattle.commit_frames.specs.Headers.{check_of}
use Rattle.commit_frames.proofs.header.check_of.Goals as goal

-- the first four bytes
first_four : (r m : List ℕ) → r ≡ m → from_be_bytes w32 (get_or r 0 0 ∷ get_or r 1 0 ∷ get_or r 2 0 ∷ get_or r 3 0 ∷ []) ≡ from_be_bytes w32 (take 4 m)
first_four r m e =
    let a = get_or-take 4 m 0 0 (lit< tt) in
    let b = get_or-take 4 m 1 0 (lit< tt) in
    let c = get_or-take 4 m 2 0 (lit< tt) in
    let d = get_or-take 4 m 3 0 (lit< tt) in
    cc

pub returns-clause-value : goal.returns-clause-value
unfolding check_of
returns-clause-value c =
    c.from.ensures ∙ c.from_be_bytes.ensures
    ∙ first_four c.finalize.result _ (c.finalize.ensures _ (c.update-2.ensures _ (c.update.ensures _ c.new-hasher.ensures)))
