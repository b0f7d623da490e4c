-- The lines of a calm, one delivery after another.
use Rattle.std.proofs.Common.{◌≡◌, ◌<◌, ◌≤◌, ◌+◌, ◌-◌, ◌++◌, ℕ, suc, None, Some, List, [], refl, sym, ap, ◌∙◌}
use Rattle.std.specs.Prelude.{Bool}
use Rattle.std.proofs.lemmas.List.{append-nil, append_assoc}
use Rattle.network.specs.Mail.{is_among, oldest, most_messages}
use Rattle.world_spec.specs.Runs.{Run, delivered, unhashed}
use Rattle.chart.specs.Lines.{delivery_lines, calm_on, calm_lines}
use Rattle.world_model.proofs.Loops.{minus_zero, none_left}
use Rattle.world_spec.proofs.PeerSpec.{one_turn}

no_turn : (peers : List Bool) (w : Run) → calm_lines peers 0 w ≡ []
unfolding calm_lines
no_turn peers w = refl

turn : (peers : List Bool) (k : ℕ) (w : Run) → calm_lines peers (suc k) w ≡ calm_on (oldest (is_among peers) w.mail) (λ v. calm_lines peers k v) w
unfolding calm_lines
turn peers k w = refl

-- some turns of a calm have been taken, and the lines so far and those of the rest are all lines
abbrev pub IsShown : List Bool → ℕ → List (List ℕ) → Run → List (List ℕ) → Run → Type 0
IsShown peers i old first lines now = lines ++ calm_lines peers (most_messages - i) now ≡ old ++ calm_lines peers most_messages first

pub shown_first : (peers : List Bool) (old : List (List ℕ)) (w : Run) → IsShown peers 0 old w old w
shown_first peers old w = ap (λ k. old ++ calm_lines peers k w) (minus_zero most_messages)

pub shown_next : (peers : List Bool) (i : ℕ) (old lines more : List (List ℕ)) (first now next : Run) (k : ℕ) → i < most_messages → Some k ≡ oldest (is_among peers) now.mail
    → IsShown peers i old first lines now → more ≡ lines ++ delivery_lines k now → next ≡ unhashed (delivered k now) → IsShown peers (i + 1) old first more next
shown_next peers i old lines more first now next k below is shown added did =
    let left = calm_lines peers (most_messages - (i + 1)) (unhashed (delivered k now)) in
    let unfolded : calm_lines peers (most_messages - i) now ≡ delivery_lines k now ++ left =
    ap (λ j. calm_lines peers j now) (one_turn most_messages i below) ∙ (turn peers (most_messages - (i + 1)) now ∙ rw (← is) refl) in
    rw added (rw did (append_assoc lines (delivery_lines k now) left ∙ (ap (λ l. lines ++ l) (sym unfolded) ∙ shown)))

pub shown_ends : (peers : List Bool) (i : ℕ) (old lines : List (List ℕ)) (first now : Run) → i < most_messages → None ≡ oldest (is_among peers) now.mail → IsShown peers i old first lines now
    → lines ≡ old ++ calm_lines peers most_messages first
shown_ends peers i old lines first now below is shown =
    let unfolded : calm_lines peers (most_messages - i) now ≡ [] = ap (λ j. calm_lines peers j now) (one_turn most_messages i below) ∙ (turn peers (most_messages - (i + 1)) now ∙ rw (← is) refl) in
    sym (append-nil lines) ∙ (ap (λ l. lines ++ l) (sym unfolded) ∙ shown)

pub shown_last : (peers : List Bool) (i : ℕ) (old lines : List (List ℕ)) (first now : Run) → most_messages ≤ i → IsShown peers i old first lines now → lines ≡ old ++ calm_lines peers most_messages first
shown_last peers i old lines first now le shown =
    let unfolded : calm_lines peers (most_messages - i) now ≡ [] = ap (λ j. calm_lines peers j now) (none_left most_messages i le) ∙ no_turn peers now in
    sym (append-nil lines) ∙ (ap (λ l. lines ++ l) (sym unfolded) ∙ shown)
