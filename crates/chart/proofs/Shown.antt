-- The peers, one after another, and the lines that are shown.
use Rattle.std.proofs.Common.{◌≡◌, ◌<◌, ◌+◌, ◌-◌, ◌++◌, ◌∷◌, ℕ, List, length, get_or, drop, map, refl, sym, ap, ◌∙◌}
use Rattle.std.proofs.lemmas.List.{append_assoc, drop-map, drop_more}
use Rattle.std.specs.Prelude.{true, false}
use Rattle.ens_base.specs.Lists.{same_bytes}
use Rattle.chart.specs.Text.{peer_line, peers_text, shown_after, shown_line}
use Rattle.world_spec.proofs.PeerSpec.{one_turn}

-- one more peer has been written
pub peers_next : (old new : List ℕ) (below peers : ℕ) (whole : List ℕ) → below < peers → old ++ peers_text (below + 1) (peers - below) ≡ whole → new ≡ old ++ peer_line (below + 1)
    → new ++ peers_text (below + 1 + 1) (peers - (below + 1)) ≡ whole
peers_next old new below peers whole less shown added =
    let rest = peers_text (below + 1 + 1) (peers - (below + 1)) in
    let unfolded : peers_text (below + 1) (peers - below) ≡ peer_line (below + 1) ++ rest = ap (λ k. peers_text (below + 1) k) (one_turn peers below less) in
    rw added (append_assoc old (peer_line (below + 1)) rest ∙ (ap (λ l. old ++ l) (sym unfolded) ∙ shown))

-- the lines from this place on
pub dropped : {X : Type 0} (f : X → List ℕ) (xs : List X) (p : ℕ) (x : X) → p < length xs → x ≡ get_or xs p x → drop p (map f xs) ≡ f x ∷ drop (p + 1) (map f xs)
dropped f xs p x below is = drop-map f p xs ∙ (ap (map f) (drop_more xs p x below) ∙ (ap (λ y. f y ∷ map f (drop (p + 1) xs)) (sym is) ∙ ap (λ l. f x ∷ l) (sym (drop-map f (p + 1) xs))))

-- the next line is the same
pub same_next : (old line next : List ℕ) (count : ℕ) (left rest : List (List ℕ)) (whole : List ℕ) → left ≡ next ∷ rest → same_bytes line next ≡ true → old ++ shown_after line count left ≡ whole
    → old ++ shown_after line (count + 1) rest ≡ whole
same_next old line next count left rest whole is same shown =
    let unfolded : shown_after line count (next ∷ rest) ≡ shown_after line (count + 1) rest = rw same refl in
    ap (λ l. old ++ l) (sym (ap (shown_after line count) is ∙ unfolded)) ∙ shown

-- the next line is another one
pub other_next : (old new line next : List ℕ) (count : ℕ) (left rest : List (List ℕ)) (whole : List ℕ) → left ≡ next ∷ rest → same_bytes line next ≡ false → old ++ shown_after line count left ≡ whole → new ≡ old ++ shown_line line count
    → new ++ shown_after next 1 rest ≡ whole
other_next old new line next count left rest whole is same shown added =
    let unfolded : shown_after line count (next ∷ rest) ≡ shown_line line count ++ shown_after next 1 rest = rw same refl in
    rw added (append_assoc old (shown_line line count) (shown_after next 1 rest) ∙ (ap (λ l. old ++ l) (sym (ap (shown_after line count) is ∙ unfolded)) ∙ shown))
