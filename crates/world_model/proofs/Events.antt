-- The events of a schedule, applied one after another.
use Rattle.std.proofs.Common.{◌≡◌, ◌≤◌, ◌+◌, ℕ, zero, suc, Some, List, [], ◌∷◌, ◌++◌, length, slice_get, refl, ap, subst, ◌∙◌, sym, arith, add-one}
use Rattle.std.specs.Prelude.{drop}
use Rattle.std.proofs.lemmas.List.{length-replicate}
use Rattle.std.proofs.lemmas.Option.{same_Some, none-some}
use Rattle.world_spec.proofs.Taken.{hashed_all}
use Rattle.world_spec.specs.Held.{Account, HasHashed}
use Rattle.network.specs.Mail.{most_messages}
use Rattle.schedule_text.specs.Spelling.{MayStand, AllMayStand}
use Rattle.schedule_text.specs.declared.event.ScheduleEvent.{ScheduleEvent}
use Rattle.schedule_text.specs.declared.form.Form.{Form}
use Rattle.world_spec.proofs.Prefixes.{in_front_none, onward, run_prefix}
use Rattle.world_spec.proofs.Growth.{IsFurther, further_prefix, peers_in, applied_same, run_grows}
use Rattle.world_spec.specs.Lines.{applied, run_from, run_of_schedule}
use Rattle.world_spec.specs.Messages.{sent_in}
use Rattle.world_spec.specs.Runs.{Run, in_front, unhashed, opening_run}

-- some events have been applied, in which the hasher took these strings, and the rest lead from here
-- to the run of the schedule
pub record Running (form : Form) (peers : ℕ) (view : List ℕ) (all : List ScheduleEvent) (place : ℕ) (first : Account) (now : Run) (mid : Account) : Type 0 where
  pub strings : List (List ℕ)
  pub rest : in_front strings (run_from (drop place all) now) ≡ run_of_schedule form peers view all
  pub many : peers_in now ≡ peers
  pub within : sent_in now ≤ most_messages
  pub has : HasHashed strings first mid

pub running_first : (form : Form) (peers : ℕ) (view : List ℕ) (all : List ScheduleEvent) (first : Account) (now : Run) (mid : Account) → now ≡ unhashed (opening_run form peers view) → HasHashed (opening_run form peers view).hashed first mid
    → Running form peers view all 0 first now mid
running_first form peers view all first now mid is has = record {
  strings = (opening_run form peers view).hashed;
  rest = onward (run_from all) (run_prefix all) [] (opening_run form peers view) now (run_of_schedule form peers view all) (in_front_none (run_of_schedule form peers view all)) is;
  many = rw is (length-replicate {A = _} peers _);
  within = rw is (omega arith);
  has = has;
}

pub drop_one : (all : List ScheduleEvent) (place : ℕ) (event : ScheduleEvent) → slice_get all place ≡ Some event → drop place all ≡ event ∷ drop (place + 1) all
drop_one all place event here = at all place event here ∙ ap (λ k. event ∷ drop k all) (sym (add-one place)) where
  at : (all : List ScheduleEvent) (place : ℕ) (event : ScheduleEvent) → slice_get all place ≡ Some event → drop place all ≡ event ∷ drop (suc place) all
  at [] place event here = absurd (none-some event here)
  at (e ∷ es) zero event here = ap (λ x. x ∷ es) (same_Some e event here)
  at (e ∷ es) (suc place) event here = at es place event here

module _ (form : Form) (peers : ℕ) (view : List ℕ) (all : List ScheduleEvent) (place : ℕ) (first : Account) (now : Run) (mid : Account) (event : ScheduleEvent) (here : slice_get all place ≡ Some event)
    (old : Running form peers view all place first now mid) where
  left : in_front old.strings (run_from (drop (place + 1) all) (applied event now)) ≡ run_of_schedule form peers view all
  left = subst (λ es. in_front old.strings (run_from es now) ≡ run_of_schedule form peers view all) (drop_one all place event here) old.rest

  pub running_next : (next : Run) (later : Account) → next ≡ unhashed (applied event now) → HasHashed (applied event now).hashed mid later → sent_in next ≤ most_messages → Running form peers view all (place + 1) first next later
  running_next next later is has within = record {
    strings = old.strings ++ (applied event now).hashed;
    rest = onward (run_from (drop (place + 1) all)) (run_prefix (drop (place + 1) all)) old.strings (applied event now) next (run_of_schedule form peers view all) left is;
    many = rw is (applied_same event now ∙ old.many);
    within = within;
    has = hashed_all old.strings (applied event now).hashed first mid later old.has has;
  }

  -- the whole run sends and hashes no less than the next event
  pub running_longer : IsFurther (in_front old.strings (applied event now)) (run_of_schedule form peers view all)
  running_longer = subst (λ (w : Run). IsFurther (in_front old.strings (applied event now)) w) left
      (further_prefix old.strings (applied event now) (run_from (drop (place + 1) all) (applied event now)) (run_grows (drop (place + 1) all) (applied event now)))

-- the whole run sends and hashes no less than its opening
pub opening_longer : (form : Form) (peers : ℕ) (view : List ℕ) (all : List ScheduleEvent) → IsFurther (opening_run form peers view) (run_of_schedule form peers view all)
opening_longer form peers view all = run_grows all (opening_run form peers view)

pub drop_past : (all : List ScheduleEvent) (place : ℕ) → length all ≤ place → drop place all ≡ []
drop_past [] zero le = refl
drop_past [] (suc place) le = refl
drop_past (e ∷ es) zero le = absurd (omega (arith, le))
drop_past (e ∷ es) (suc place) le = drop_past es place (omega (arith, le))

-- the run after the last event
pub running_last : (form : Form) (peers : ℕ) (view : List ℕ) (all : List ScheduleEvent) (place : ℕ) (first : Account) (now : Run) (mid : Account) → length all ≤ place → (old : Running form peers view all place first now mid)
    → in_front old.strings now ≡ run_of_schedule form peers view all
running_last form peers view all place first now mid le old = subst (λ es. in_front old.strings (run_from es now) ≡ run_of_schedule form peers view all) (drop_past all place le) old.rest

-- each event of a schedule may stand
pub stands_at : (peers : ℕ) (all : List ScheduleEvent) (place : ℕ) (event : ScheduleEvent) → AllMayStand peers all → slice_get all place ≡ Some event → MayStand peers event
stands_at peers [] place event may here = absurd (none-some event here)
stands_at peers (e ∷ es) zero event may here = rw (← same_Some e event here) may.0
stands_at peers (e ∷ es) (suc place) event may here = stands_at peers es place event may.1 here
