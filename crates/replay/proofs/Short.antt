-- A schedule that is generated for fewer than 500 calls has no restart.
use Rattle.std.proofs.Common.{◌≡◌, ◌≤◌, ◌<◌, ℕ, zero, suc, ◌+◌, ◌%◌, Bool, false, if◌then◌else◌, List, [], ◌∷◌, ◌++◌, length, count_by, inl, refl, sym, ap, subst, ◌∙◌, arith}
use Rattle.std.specs.Prelude.{◌==◌}
use Rattle.std.proofs.lemmas.Bool.Decides.{nat_tests}
use Rattle.std.proofs.lemmas.List.FromFn.{length-range_with_len}
use Rattle.replay.specs.CalmLaws.{ArePairs, IsUndisturbed}
use Rattle.replay.specs.WorldSpec.{HasNoClash}
use Rattle.replay.specs.Jobs.{hashed_by}
use Rattle.replay.specs.Summary.{StaysWithin, call_count, is_call}
use Rattle.schedule_generator.proofs.Calls.{generated_ids, generated_valid}
use Rattle.schedule_generator.specs.Drawing.{gives, Drawing, ◌>>=◌}
use Rattle.schedule_generator.specs.Generated.{draw_call, draw_calls, draw_restart, generate}
use Rattle.schedule_text.specs.Spelling.{call_ids}
use Rattle.schedule_text.specs.declared.event.ScheduleEvent.{ScheduleEvent}
use Rattle.schedule_text.specs.declared.event.ScheduleEvent.TheVariants as line
use Rattle.replay.specs.Completed.{CompletesAll}
use Rattle.replay.proofs.Counted.{completes_all, count_no, count_yes}

-- ## Only pairs of a call and a calm

-- the calls from this id on, if the first is or is not one that a restart precedes
abbrev led_by : Bool → Drawing (ℕ × List ScheduleEvent)
led_by restarts = if restarts then draw_restart else gives (1, [])

abbrev then_called : ℕ → ℕ × List ScheduleEvent → Drawing (ℕ × List ScheduleEvent)
then_called id led = draw_call led.0 id >>= λ call. gives (led.0, led.1 ++ call)

abbrev then_more : ℕ → ℕ → ℕ × List ScheduleEvent → Drawing (List ScheduleEvent)
then_more count id first = draw_calls count first.0 (id + 1) >>= λ rest. gives (first.1 ++ rest)

abbrev from : Bool → ℕ → ℕ → Drawing (List ScheduleEvent)
from restarts count id = (led_by restarts >>= then_called id) >>= then_more count id

no_restart : (id : ℕ) → 1 ≤ id → id < 500 → (id % 500 == 0) ≡ false
no_restart id first last = let rest : (id % 500 ≡ 0) → ⊥ = omega (arith, first, last) in grind (arith, nat_tests)

are_pairs : (count id x : ℕ) → 1 ≤ id → id + count ≤ 500 → ArePairs 1 (draw_calls count 1 id x).1
are_pairs zero id x first last = tt
are_pairs (suc count) id x first last =
    subst (λ (b : Bool). ArePairs 1 (from b count id x).1) (sym (no_restart id first (omega (arith, last))))
    (refl, are_pairs count (id + 1) (draw_call 1 id x).0 (omega arith) (omega (arith, last)))

pub undisturbed : (number calls : ℕ) → calls < 500 → IsUndisturbed (generate number calls)
unfolding generate
undisturbed number calls few = record { peer = 1; member = inl refl; calm = (refl, refl, are_pairs calls 1 number (omega arith) (omega (arith, few))) }

-- ## The calls

ids_counted : (events : List ScheduleEvent) → count_by is_call events ≡ length (call_ids events)
unfolding is_call
ids_counted [] = refl
ids_counted (line.Call peer id key command ∷ more) = count_yes is_call (line.Call peer id key command) more refl ∙ ap suc (ids_counted more)
ids_counted (e ∷ more) = count_no is_call e more refl ∙ ids_counted more

pub so_many : (number calls : ℕ) → call_count (generate number calls) ≡ calls
so_many number calls =
    ids_counted (generate number calls).events ∙ ap (λ (ids : List ℕ). length ids) (generated_ids number calls) ∙ length-range_with_len 1 calls

pub completed : (number calls : ℕ) → calls < 500 → StaysWithin (generate number calls) → HasNoClash (hashed_by (generate number calls)) → CompletesAll (generate number calls)
completed number calls few within apart =
    completes_all (generate number calls) (record { schedule = generated_valid number calls (omega (arith, few)); undisturbed = undisturbed number calls few; within = within; apart = apart })
