-- What was drawn before, and what is still to be drawn, as loops go over it.
use Rattle.std.proofs.Common.{◌≡◌, ℕ, suc, ◌+◌, ◌-◌, ◌<◌, ◌≤◌, List, [], ◌∷◌, ◌++◌, sym, ap, append_assoc, arith}
use Rattle.std.proofs.lemmas.List.{append-nil}
use Rattle.schedule_text.specs.declared.event.ScheduleEvent.{ScheduleEvent}
use Rattle.schedule_generator.specs.Drawing.{draw, draw_bytes}
use Rattle.schedule_generator.specs.Generated.{draw_calls, draw_lines}

-- bytes in front of those that are drawn
abbrev pub onto : List ℕ → ℕ × List ℕ → ℕ × List ℕ
onto prefix drawn = (drawn.0, prefix ++ drawn.1)

pub one_byte : (count turn x : ℕ) (prefix : List ℕ) → turn < count
    → onto prefix (draw_bytes (count - turn) x) ≡ onto (prefix ++ (draw 256 x).1 ∷ []) (draw_bytes (count - (turn + 1)) (draw 256 x).0)
one_byte count turn x prefix lt =
    let k : count - turn ≡ suc (count - (turn + 1)) = omega arith in
    let rest = draw_bytes (count - (turn + 1)) (draw 256 x).0 in
    rw k (ap (λ (bytes : List ℕ). (rest.0, bytes)) (sym (append_assoc prefix ((draw 256 x).1 ∷ []) rest.1)))

pub all_bytes : (count turn x : ℕ) (prefix : List ℕ) → count ≤ turn → onto prefix (draw_bytes (count - turn) x) ≡ (x, prefix)
all_bytes count turn x prefix le =
    let k : count - turn ≡ 0 = omega arith in
    rw k (ap (λ (bytes : List ℕ). (x, bytes)) (append-nil prefix))

pub one_call : (calls i peer x : ℕ) (prefix : List ScheduleEvent) → i < calls
    → prefix ++ (draw_calls (calls - i) peer (i + 1) x).1
    ≡ (prefix ++ (draw_lines peer (i + 1) x).1.1) ++ (draw_calls (calls - (i + 1)) (draw_lines peer (i + 1) x).1.0 (i + 1 + 1) (draw_lines peer (i + 1) x).0).1
one_call calls i peer x prefix lt =
    let k : calls - i ≡ suc (calls - (i + 1)) = omega arith in
    rw k (sym (append_assoc prefix (draw_lines peer (i + 1) x).1.1 _))

pub all_calls : (calls i peer x : ℕ) (prefix : List ScheduleEvent) → calls ≤ i → prefix ++ (draw_calls (calls - i) peer (i + 1) x).1 ≡ prefix
all_calls calls i peer x prefix le =
    let k : calls - i ≡ 0 = omega arith in
    rw k (append-nil prefix)
