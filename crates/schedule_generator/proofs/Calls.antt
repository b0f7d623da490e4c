-- The calls of what is drawn, and how many lines there are.
use Rattle.std.proofs.Common.{◌≡◌, ℕ, zero, suc, ◌+◌, ◌*◌, ◌/◌, ◌%◌, ◌≤◌, Bool, true, false, List, [], ◌∷◌, ◌++◌, length, refl, sym, ap, subst, ◌∙◌, arith, inl, inr, length-append, lit≤}
use Rattle.std.specs.Prelude.{if◌then◌else◌, ◌==◌}
use Rattle.std.specs.List.{range_with_len}
use Rattle.std.proofs.lemmas.Bool.Decides.{nat_tests}
use Rattle.ens_base.specs.Lists.{◌∈◌, AreDistinct}
use Rattle.lexemes.proofs.Ascending.{IsPeer-members, IsStrictlyIncreasing-members}
use Rattle.lexemes.specs.Spelling.{AscendFrom}
use Rattle.schedule_text.specs.Spelling.{IsSchedule, call_ids}
use Rattle.schedule_text.specs.declared.event.ScheduleEvent.{ScheduleEvent}
use Rattle.schedule_text.specs.declared.event.ScheduleEvent.TheVariants.{Revert}
use Rattle.schedule_text.proofs.Ids.{call_ids-append}
use Rattle.schedule_generator.specs.Drawing.{gives}
use Rattle.schedule_generator.specs.Generated.{draw_call, draw_restart, draw_leader, draw_lines, draw_calls, generate}
use Rattle.schedule_generator.proofs.Stands.{calls_stand}

leader_ids : (b : Bool) (peer x : ℕ) → call_ids ((if b then draw_restart else gives (peer, [])) x).1.1 ≡ []
leader_ids true peer x = refl
leader_ids false peer x = refl

lines_ids : (peer id x : ℕ) → call_ids (draw_lines peer id x).1.1 ≡ id ∷ []
lines_ids peer id x =
    let led = draw_leader peer id x in
    call_ids-append led.1.1 (draw_call led.1.0 id led.0).1 ∙ ap (λ (ids : List ℕ). ids ++ id ∷ []) (leader_ids (id % 500 == 0) peer x)

calls_ids : (count peer id x : ℕ) → call_ids (draw_calls count peer id x).1 ≡ range_with_len id count
calls_ids zero peer id x = refl
calls_ids (suc count) peer id x =
    let d = draw_lines peer id x in
    call_ids-append d.1.1 (draw_calls count d.1.0 (id + 1) d.0).1 ∙ rw (lines_ids peer id x) (ap (λ (ids : List ℕ). id ∷ ids) (calls_ids count d.1.0 (id + 1) d.0))

pub generated_ids : (number calls : ℕ) → call_ids (generate number calls).events ≡ range_with_len 1 calls
unfolding generate
generated_ids number calls = calls_ids calls 1 1 number

range_from : (low count y : ℕ) → y ∈ range_with_len low count → low ≤ y
range_from low zero y at = absurd at
range_from low (suc count) y (inl same) = omega (arith, same)
range_from low (suc count) y (inr at) = let later = range_from (low + 1) count y at in omega (arith, later)

range_distinct : (low count : ℕ) → AreDistinct (range_with_len low count)
range_distinct low zero = tt
range_distinct low (suc count) = ((λ at. let later = range_from (low + 1) count low at in omega (arith, later)), range_distinct (low + 1) count)

-- ---- lines

leader_length : (b : Bool) (peer x : ℕ) → length ((if b then draw_restart else gives (peer, [])) x).1.1 ≡ (if b then 5 else 0)
leader_length true peer x = refl
leader_length false peer x = refl

restarts_by : (b : Bool) (n : ℕ) → ((n + 1) % 500 == 0) ≡ b → (if b then 5 else 0) + 5 * (n / 500) ≡ 5 * ((n + 1) / 500)
restarts_by true n e = let whole : (n + 1) % 500 ≡ 0 = grind (arith, nat_tests) in omega (arith, whole)
restarts_by false n e = let rest : ((n + 1) % 500 ≡ 0) → ⊥ = grind (arith, nat_tests) in omega (arith, rest)

lines_length : (peer n x : ℕ) → length (draw_lines peer (n + 1) x).1.1 + 5 * (n / 500) ≡ 2 + 5 * ((n + 1) / 500)
lines_length peer n x =
    let led = draw_leader peer (n + 1) x in
    omega (arith, length-append led.1.1 (draw_call led.1.0 (n + 1) led.0).1, leader_length ((n + 1) % 500 == 0) peer x, restarts_by ((n + 1) % 500 == 0) n refl)

calls_length : (count peer n x : ℕ) → length (draw_calls count peer (n + 1) x).1 + 5 * (n / 500) ≡ 2 * count + 5 * ((n + count) / 500)
calls_length zero peer n x = let same : n + 0 ≡ n = omega arith in rw same refl
calls_length (suc count) peer n x =
    let d = draw_lines peer (n + 1) x in
    let same : n + suc count ≡ (n + 1) + count = omega arith in
    rw same (omega (arith, length-append d.1.1 (draw_calls count d.1.0 (n + 1 + 1) d.0).1, lines_length peer n x, calls_length count d.1.0 (n + 1) d.0))

pub generated_length : (number calls : ℕ) → length (generate number calls).events ≡ 2 + 2 * calls + 5 * (calls / 500)
unfolding generate
generated_length number calls = omega (arith, calls_length calls 1 0 number)

pub generated_valid : (number calls : ℕ) → calls ≤ 20000 → IsSchedule (generate number calls)
unfolding generate
generated_valid number calls few =
    let members : List ℕ = 1 ∷ 2 ∷ 3 ∷ 4 ∷ 5 ∷ [] in
    let ascend : AscendFrom 1 5 members = (lit≤ tt, lit≤ tt, (lit≤ tt, lit≤ tt, (lit≤ tt, lit≤ tt, (lit≤ tt, lit≤ tt, (lit≤ tt, lit≤ tt, tt))))) in
    record {
      peers = (lit≤ tt, lit≤ tt);
      view = (ascend, record { size = (lit≤ tt, lit≤ tt); peers = IsPeer-members 1 5 members (lit≤ tt) (lit≤ tt) ascend; ascends = IsStrictlyIncreasing-members 1 5 members ascend });
      events = ((record { first = lit≤ tt; last = lit≤ tt }, lit≤ tt, lit≤ tt), (tt, calls_stand calls 1 1 number (record { first = lit≤ tt; last = lit≤ tt }) (omega arith)));
      distinct = subst AreDistinct (sym (generated_ids number calls)) (range_distinct 1 calls);
      lines = omega (arith, generated_length number calls);
    }

-- ---- no line reverts a peer

-- the line reverts no peer
abbrev pub IsForward : ScheduleEvent → Type 0
IsForward (Revert peer changes) = ⊥
IsForward _ = Unit {0}

abbrev pub AreForward : List ScheduleEvent → Type 0
AreForward [] = Unit {0}
AreForward (x ∷ xs) = IsForward x × AreForward xs

forward_both : (xs ys : List ScheduleEvent) → AreForward xs → AreForward ys → AreForward (xs ++ ys)
forward_both [] ys h k = k
forward_both (x ∷ xs) ys h k = (h.0, forward_both xs ys h.1 k)

leader_forward : (b : Bool) (peer x : ℕ) → AreForward ((if b then draw_restart else gives (peer, [])) x).1.1
leader_forward true peer x = (tt, (tt, (tt, (tt, (tt, tt)))))
leader_forward false peer x = tt

calls_forward : (count peer id x : ℕ) → AreForward (draw_calls count peer id x).1
calls_forward zero peer id x = tt
calls_forward (suc count) peer id x =
    let d = draw_lines peer id x in
    let led = draw_leader peer id x in
    forward_both d.1.1 (draw_calls count d.1.0 (id + 1) d.0).1
    (forward_both led.1.1 (draw_call led.1.0 id led.0).1 (leader_forward (id % 500 == 0) peer x) (tt, (tt, tt)))
    (calls_forward count d.1.0 (id + 1) d.0)

not_among : (xs : List ScheduleEvent) (peer changes : ℕ) → AreForward xs → Revert peer changes ∈ xs → ⊥
not_among [] peer changes h at = absurd at
not_among (x ∷ xs) peer changes h (inl same) = subst IsForward (sym same) h.0
not_among (x ∷ xs) peer changes h (inr at) = not_among xs peer changes h.1 at

pub generated_forward : (number calls peer changes : ℕ) → ¬ (Revert peer changes ∈ (generate number calls).events)
unfolding generate
generated_forward number calls peer changes = not_among (generate number calls).events peer changes (tt, (tt, calls_forward calls 1 1 number))
